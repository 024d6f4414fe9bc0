-- A list that lies in a slice: `seg b m s` is the m numbers of s from place b on. Its laws say what a store does to it.
use Rattle.std.specs.Prelude.{◌≡◌, refl, List, [], ◌∷◌, ◌++◌, ℕ, zero, suc, ◌+◌, ◌-◌, ◌≤◌, ◌<◌, min, length, take, drop, get_or, set}
use Rattle.std.proofs.Common.{ap, sym, ◌∙◌, add-one, arith, length-take, length-drop, length-append, drop-cons, drop-set-lt, take-suc-set, take-add}
use Rattle.std.proofs.Common.{take-take, drop-drop, get_or-take, get_or-drop, ext_get_or}
use Rattle.std.proofs.Math.Nat.{min-le_left}
use Rattle.std.proofs.Math.Decide.{dec_le}
use Rattle.std.proofs.lemmas.List.{drop-set-add, take-set-le}
use Rattle.std.proofs.Math.Seq.{take-set-lt}

unfoldable pub seg : ℕ → ℕ → List ℕ → List ℕ
seg b m s = take m (drop b s)

pub seg-none : (b : ℕ) (s : List ℕ) → seg b 0 s ≡ []
unfolding seg
seg-none b s = refl

pub seg_length : (b m : ℕ) (s : List ℕ) → b + m ≤ length s → length (seg b m s) ≡ m
unfolding seg
seg_length b m s h = simp (length-take, length-drop) (omega arith)

-- its first number and the others; its first numbers and the others
pub seg-cons : (b m : ℕ) (s : List ℕ) → b < length s → 0 < m → seg b m s ≡ get_or s b 0 ∷ seg (b + 1) (m - 1) s
unfolding seg
seg-cons b m s h p =
    let e : m ≡ suc (m - 1) = omega arith in
    ap (λ (k : ℕ). take k (drop b s)) e ∙ rw (drop-cons s b 0 h, add-one b)

pub seg_add : (b a m : ℕ) (s : List ℕ) → seg b (a + m) s ≡ seg b a s ++ seg (b + a) m s
unfolding seg
seg_add b a m s = take-add a m (drop b s) ∙ ap (λ x. take a (drop b s) ++ take m x) (drop-drop a b s)

-- a store before it, behind it, and at its end
pub seg_below : (b m : ℕ) (s : List ℕ) (i a : ℕ) → i < b → seg b m (set s i a) ≡ seg b m s
unfolding seg
seg_below b m s i a h = rw (drop-set-lt b s i a h)

pub seg_above : (b m : ℕ) (s : List ℕ) (i a : ℕ) → b + m ≤ i → seg b m (set s i a) ≡ seg b m s
unfolding seg
seg_above b m s i a h =
    let e : i ≡ b + (i - b) = omega arith in
    ap (λ (j : ℕ). take m (drop b (set s j a))) e ∙ ap (take m) (drop-set-add b s (i - b) a)
    ∙ take-set-le m (drop b s) (i - b) a (omega arith)

pub seg_snoc : (b m : ℕ) (s : List ℕ) (i a : ℕ) → i ≡ b + m → i < length s → seg b (m + 1) (set s i a) ≡ seg b m s ++ (a ∷ [])
unfolding seg
seg_snoc b m s i a e h =
    ap (λ (j : ℕ). take (m + 1) (drop b (set s j a))) e
    ∙ ap (take (m + 1)) (drop-set-add b s m a)
    ∙ ap (λ (k : ℕ). take k (set (drop b s) m a)) (add-one m)
    ∙ take-suc-set (drop b s) m a (omega (arith, length-drop b s))

-- a store inside it
pub seg_set : (b m : ℕ) (s : List ℕ) (i a : ℕ) → i < m → seg b m (set s (b + i) a) ≡ set (seg b m s) i a
unfolding seg
seg_set b m s i a h = ap (take m) (drop-set-add b s i a) ∙ take-set-lt m (drop b s) i a h

-- a segment of a segment
take_drop_take : (b m d : ℕ) (l : List ℕ) → b + m ≤ d → take m (drop b (take d l)) ≡ take m (drop b l)
take_drop_take zero m d l h = take-take m d l (omega arith)
take_drop_take (suc b) m zero l h = absurd (omega arith)
take_drop_take (suc b) m (suc d) [] h = refl
take_drop_take (suc b) m (suc d) (x ∷ xs) h = take_drop_take b m d xs (omega arith)

pub seg_seg : (a d b m : ℕ) (s : List ℕ) → b + m ≤ d → seg b m (seg a d s) ≡ seg (a + b) m s
unfolding seg
seg_seg a d b m s h =
    take_drop_take b m d (drop a s) h ∙ ap (take m) (drop-drop b a s)

-- one more number of it
pub seg_more : (b m : ℕ) (s : List ℕ) → b + m < length s → seg b (m + 1) s ≡ seg b m s ++ (get_or s (b + m) 0 ∷ [])
seg_more b m s h =
    seg_add b m 1 s ∙ ap (λ x. seg b m s ++ x) (seg-cons (b + m) 1 s h (omega arith) ∙ ap (λ x. get_or s (b + m) 0 ∷ x) (seg-none (b + m + 1) s))

-- a segment that is shorter than the room behind its beginning has all the numbers that it counts
pub seg_count : (b m : ℕ) (s : List ℕ) (x : ℕ) → b + x < length s → length (seg b m s) ≤ x → m ≤ x
seg_count b m s x h l = by (dec_le m x)
  where
    by : Dec (m ≤ x) → m ≤ x
    by (yes i) = i
    by (no i) =
        let e : x + 1 + (m - (x + 1)) ≡ m = omega arith in
        let d : length (seg b m s) ≡ length (seg b (x + 1) s) + length (seg (b + (x + 1)) (m - (x + 1)) s) =
        ap (λ (y : ℕ). length (seg b y s)) (sym e) ∙ ap length (seg_add b (x + 1) (m - (x + 1)) s)
        ∙ length-append (seg b (x + 1) s) (seg (b + (x + 1)) (m - (x + 1)) s) in
        absurd (omega (arith, d, l, seg_length b (x + 1) s (omega arith)))

-- number by number: what stands in it, and when two are the same
pub seg_at : (b m : ℕ) (s : List ℕ) (i : ℕ) → i < m → get_or (seg b m s) i 0 ≡ get_or s (b + i) 0
unfolding seg
seg_at b m s i h = get_or-take m (drop b s) i 0 h ∙ get_or-drop b s i 0

seg_count_is : (b m : ℕ) (s : List ℕ) → length (seg b m s) ≡ min m (length s - b)
unfolding seg
seg_count_is b m s = length-take m (drop b s) ∙ ap (min m) (length-drop b s)

pub seg_same : (b m : ℕ) (s s' : List ℕ) → length s' ≡ length s → ((i : ℕ) → b ≤ i → i < b + m → get_or s' i 0 ≡ get_or s i 0) → seg b m s' ≡ seg b m s
seg_same b m s s' l e =
    let c = seg_count_is b m s in
    let c' = seg_count_is b m s' in
    ext_get_or 0 (seg b m s') (seg b m s) (c' ∙ ap (λ (x : ℕ). min m (x - b)) l ∙ sym c)
    (λ i h. let k : i < m = omega (arith, c', h, min-le_left m (length s' - b)) in
    seg_at b m s' i k ∙ e (b + i) (omega arith) (omega arith) ∙ sym (seg_at b m s i k))
