-- What a level's stretch holds: LIP, LSP and LIS, each from a place of its own, and behind it the sets that moved out; and what the list operations
-- leave.
--
--   Inside t x          x is a tree number of the level
--   mark_of w            what the coder has beside the tree number of a coefficient whose word is w
--   lip_at, lsp_at n i s  the i-th entry of LIP, and of LSP; of an entry e the coefficient is `coefficient e`
--   Marked t s e        the coder's entry e is of the level, and its mark is that of the word in the stretch s
--   waiting n i m s     m coefficients of LIP, from the i-th on
--   known n m s         the first m of LSP
--   held t s f          the lists in the midst of a pass: t is the stretch, f how full they are
--   lists_in n s ..      the lists of the level between passes
--   Beside t m s s'     what is no list is as it was: values, maxima, and all behind the stretch but m sets that moved out
use Rattle.std.specs.Prelude.{◌≡◌, Bool, true, false, cond, eqb, length, get_or}
use Rattle.std.proofs.Math.Path.{refl, ap, ap₂}
use Rattle.std.proofs.Common.{◌∙◌, subst, arith}
use mathlib.Core.List.{List, [], ◌∷◌, ◌++◌, map, map-append}
use mir.Val.{bool_byte}
use Prim.Native.Nat.{ℕ, zero, suc, ◌+◌, ◌-◌, ◌*◌, ◌/◌, ◌%◌, ◌≤◌, ◌<◌}
use Rattle.std.proofs.lemmas.List.{length-map}
use Rattle.rules.specs.Document.Pyramid.{planes_of}
use Rattle.rules.specs.Document.Passes.{Entry, typeA, typeB, Lists}
use Rattle.rules.specs.Laws.Counting.Sums.{All}
use Rattle.stretches.specs.Cut.{set_room, lip_from, lsp_from, lis_from, maxima_from}
use Rattle.lists.specs.declared.Role.{Role}
use Rattle.lists.specs.declared.Role.TheVariants.{Codes, Reads}
use Rattle.lists.specs.declared.Stretch.{Stretch}
use Rattle.lists.specs.declared.Fill.{Fill}
use Rattle.lists.specs.declared.Set.{Set}
use Rattle.lists.specs.declared.Set.TheVariants.{TypeA, TypeB}
use Rattle.stretches.specs.Seg.{seg, seg-none, seg_length, seg-cons, seg_more, seg_add, seg_count}

-- An entry of LIS as a number: index x 2, and 1 more for type B.
unfoldable pub entry : ℕ → Entry
entry m = cond (eqb (m % 2) 0) (typeA (m / 2)) (typeB (m / 2))

abbrev pub entry_of : Set → Entry
entry_of (TypeA p) = typeA p
entry_of (TypeB p) = typeB p

abbrev pub index_of : Set → ℕ
index_of (TypeA p) = p
index_of (TypeB p) = p

unfoldable pub sets : ℕ → ℕ → List ℕ → List Entry
sets b m s = map entry (seg b m s)

-- whether the lists are the coder's
abbrev pub codes : Role → Bool
codes Codes = true
codes Reads = false

abbrev pub Inside : Stretch → ℕ → Type 0
Inside t x = (t.first ≤ x) × (x < t.first + t.n)

-- An entry of LIP or LSP: 64 x tree number, and by the coder how many planes the coefficient has, twice, and 1 more where it is negative.
unfoldable pub coefficient : ℕ → ℕ
coefficient e = e / 64

unfoldable pub mark_of : ℕ → ℕ
mark_of w = 2 * planes_of (w / 2) + w % 2

pub record Marked (t : Stretch) (s : List ℕ) (e : ℕ) : Type 0 where
  pub inside : codes t.role ≡ true → Inside t (coefficient e)
  pub mark : codes t.role ≡ true → e % 64 ≡ mark_of (get_or s (coefficient e - t.first) 0)

unfoldable pub lip_at : ℕ → ℕ → List ℕ → ℕ
lip_at n i s = get_or s (lip_from n + i) 0

unfoldable pub lsp_at : ℕ → ℕ → List ℕ → ℕ
lsp_at n i s = get_or s (lsp_from n + i) 0

-- the coefficients of LIP from place i on, m of them, and the first m of LSP
unfoldable pub waiting : ℕ → ℕ → ℕ → List ℕ → List ℕ
waiting n i m s = map coefficient (seg (lip_from n + i) m s)

unfoldable pub known : ℕ → ℕ → List ℕ → List ℕ
known n m s = map coefficient (seg (lsp_from n) m s)

-- four tree numbers in a row
abbrev pub four_from : ℕ → List ℕ
four_from x = x ∷ (x + 1) ∷ (x + 2) ∷ (x + 3) ∷ []

-- What the stretch holds in the midst of a pass.
pub record Held : Type 0 where
  pub lip : List ℕ
  pub lsp : List ℕ
  pub kept : List Entry
  pub todo : List Entry
  pub moved : List Entry

unfoldable pub held : Stretch → List ℕ → Fill → Held
held t s f =
    record {
      lip = waiting t.n 0 f.lip s;
      lsp = known t.n f.lsp s;
      kept = sets (lis_from t.n) f.kept s;
      todo = sets (lis_from t.n + f.visited) f.left s;
      moved = sets t.away f.moved s;
    }

-- The lists of the level, between passes.
unfoldable pub lists_in : ℕ → List ℕ → ℕ → ℕ → ℕ → Lists
lists_in n s lip lis lsp = record { lip = waiting n 0 lip s; lis = sets (lis_from n) lis s; lsp = known n lsp s }

-- Each list keeps to its own places, and LIP's entries are marked.
pub record Fits (t : Stretch) (s : List ℕ) (f : Fill) : Type 0 where
  pub room : 4 * t.n ≤ length s
  pub marked : (i : ℕ) → i < f.lip → Marked t s (lip_at t.n i s)
  pub lip : f.lip ≤ t.n
  pub lsp : f.lsp ≤ t.n
  pub kept : f.kept ≤ f.visited
  pub visits : f.visited + f.left ≤ set_room t.n
  pub behind : 4 * t.n ≤ t.away
  pub moved : t.away + f.moved ≤ length s

-- What is no list is as it was: the values, the maxima, and all behind the stretch but the sets that moved out, so many by now.
pub record Beside (t : Stretch) (moved : ℕ) (s s' : List ℕ) : Type 0 where
  pub long : length s' ≡ length s
  pub values : (i : ℕ) → i < t.n → get_or s' i 0 ≡ get_or s i 0
  pub others : (i : ℕ) → maxima_from t.n ≤ i → i < t.away → get_or s' i 0 ≡ get_or s i 0
  pub rest : (i : ℕ) → t.away + moved ≤ i → get_or s' i 0 ≡ get_or s i 0

-- LIP is one longer; what lies ahead in LIP, and LSP, are as they were.
pub record LipPushed (t : Stretch) (s : List ℕ) (f : Fill) (p : ℕ) (s' : List ℕ) (r : Fill) : Type 0 where
  pub fill : r ≡ record { lip = f.lip + 1; lsp = f.lsp; kept = f.kept; visited = f.visited; left = f.left; moved = f.moved }
  pub holds : held t s' r ≡ record {
    lip = (held t s f).lip ++ (p ∷ []);
    lsp = (held t s f).lsp;
    kept = (held t s f).kept;
    todo = (held t s f).todo;
    moved = (held t s f).moved;
  }
  pub fits : Fits t s' r
  pub beside : Beside t r.moved s s'
  pub ahead : (i : ℕ) → f.lip < i → i < t.n → lip_at t.n i s' ≡ lip_at t.n i s
  pub known : (m : ℕ) → m ≤ f.lsp → known t.n m s' ≡ known t.n m s

-- LIP longer by so many entries that wait behind it
abbrev pub raised : Fill → ℕ → Fill
raised f m = record { lip = f.lip + m; lsp = f.lsp; kept = f.kept; visited = f.visited; left = f.left; moved = f.moved }

-- Some coefficients wait behind LIP; all that counts is as it was.
pub record LinedUp (xs : List ℕ) (t : Stretch) (s : List ℕ) (f : Fill) (s' : List ℕ) : Type 0 where
  pub waits : waiting t.n f.lip (length xs) s' ≡ xs
  pub holds : held t s' f ≡ held t s f
  pub fits : Fits t s' (raised f (length xs))
  pub beside : Beside t f.moved s s'
  pub ahead : (i : ℕ) → f.lip + length xs ≤ i → i < t.n → lip_at t.n i s' ≡ lip_at t.n i s
  pub known : (m : ℕ) → m ≤ f.lsp → known t.n m s' ≡ known t.n m s

pub record LspPushed (t : Stretch) (s : List ℕ) (f : Fill) (p : ℕ) (s' : List ℕ) (r : Fill) : Type 0 where
  pub fill : r ≡ record { lip = f.lip; lsp = f.lsp + 1; kept = f.kept; visited = f.visited; left = f.left; moved = f.moved }
  pub holds : held t s' r ≡ record {
    lip = (held t s f).lip;
    lsp = (held t s f).lsp ++ (p ∷ []);
    kept = (held t s f).kept;
    todo = (held t s f).todo;
    moved = (held t s f).moved;
  }
  pub fits : Fits t s' r
  pub beside : Beside t r.moved s s'
  pub ahead : (i : ℕ) → f.lip < i → i < t.n → lip_at t.n i s' ≡ lip_at t.n i s
  pub known : (m : ℕ) → m ≤ f.lsp → known t.n m s' ≡ known t.n m s

-- A tested coefficient was put at the end of LSP where it was found, else at the end of LIP.
pub record PushedBy (found : Bool) (t : Stretch) (s : List ℕ) (f : Fill) (p : ℕ) (s' : List ℕ) (r : Fill) : Type 0 where
  pub to_lsp_lem : found ≡ true → LspPushed t s f p s' r
  pub to_lip_lem : found ≡ false → LipPushed t s f p s' r

-- All that counts is as it was: at most the place behind LIP holds another number.
pub record Spared (t : Stretch) (s : List ℕ) (f : Fill) (s' : List ℕ) : Type 0 where
  pub holds : held t s' f ≡ held t s f
  pub fits : Fits t s' f
  pub beside : Beside t f.moved s s'
  pub ahead : (i : ℕ) → f.lip < i → i < t.n → lip_at t.n i s' ≡ lip_at t.n i s
  pub known : (m : ℕ) → m ≤ f.lsp → known t.n m s' ≡ known t.n m s

-- The next set of LIS: what is held once it counts as visited.
abbrev pub past : Fill → Fill
past f = record { lip = f.lip; lsp = f.lsp; kept = f.kept; visited = f.visited + 1; left = f.left - 1; moved = f.moved }

pub record NextSet (t : Stretch) (s : List ℕ) (f : Fill) (e : Entry) : Type 0 where
  pub holds : held t s f ≡ record {
    lip = (held t s (past f)).lip;
    lsp = (held t s (past f)).lsp;
    kept = (held t s (past f)).kept;
    todo = e ∷ (held t s (past f)).todo;
    moved = (held t s (past f)).moved;
  }
  pub fits : Fits t s (past f)

-- A set is put at the end of LIS, or of those that were kept, or of those that moved out.
pub record SetAdded (t : Stretch) (s : List ℕ) (f : Fill) (e : Entry) (s' : List ℕ) (r : Fill) : Type 0 where
  pub fill : r ≡ record { lip = f.lip; lsp = f.lsp; kept = f.kept; visited = f.visited; left = f.left + 1; moved = f.moved }
  pub holds : held t s' r ≡ record {
    lip = (held t s f).lip;
    lsp = (held t s f).lsp;
    kept = (held t s f).kept;
    todo = (held t s f).todo ++ (e ∷ []);
    moved = (held t s f).moved;
  }
  pub fits : Fits t s' r
  pub beside : Beside t r.moved s s'
  pub known : (m : ℕ) → m ≤ f.lsp → known t.n m s' ≡ known t.n m s

pub record SetKept (t : Stretch) (s : List ℕ) (f : Fill) (e : Entry) (s' : List ℕ) (r : Fill) : Type 0 where
  pub fill : r ≡ record { lip = f.lip; lsp = f.lsp; kept = f.kept + 1; visited = f.visited; left = f.left; moved = f.moved }
  pub holds : held t s' r ≡ record {
    lip = (held t s f).lip;
    lsp = (held t s f).lsp;
    kept = (held t s f).kept ++ (e ∷ []);
    todo = (held t s f).todo;
    moved = (held t s f).moved;
  }
  pub fits : Fits t s' r
  pub beside : Beside t r.moved s s'
  pub known : (m : ℕ) → m ≤ f.lsp → known t.n m s' ≡ known t.n m s

pub record SetMoved (t : Stretch) (s : List ℕ) (f : Fill) (e : Entry) (s' : List ℕ) (r : Fill) : Type 0 where
  pub fill : r ≡ record { lip = f.lip; lsp = f.lsp; kept = f.kept; visited = f.visited; left = f.left; moved = f.moved + 1 }
  pub holds : held t s' r ≡ record {
    lip = (held t s f).lip;
    lsp = (held t s f).lsp;
    kept = (held t s f).kept;
    todo = (held t s f).todo;
    moved = (held t s f).moved ++ (e ∷ []);
  }
  pub fits : Fits t s' r
  pub beside : Beside t r.moved s s'
  pub known : (m : ℕ) → m ≤ f.lsp → known t.n m s' ≡ known t.n m s

-- a bit as a number
pub bit_small : (b : Bool) → bool_byte b < 2
bit_small true = omega arith
bit_small false = omega arith

-- laws for those who don't open the layout
pub sets_fit : (n x : ℕ) → 4 * x ≤ 3 * n → x ≤ set_room n
unfolding set_room
sets_fit n x h = omega arith

pub sets_few : (n x : ℕ) → x ≤ set_room n → x ≤ n
unfolding set_room
sets_few n x h = omega arith

pub sets_none : (b m : ℕ) (s : List ℕ) → m ≡ 0 → sets b m s ≡ []
unfolding sets
sets_none b m s e = ap (λ (x : ℕ). map entry (seg b x s)) e ∙ ap (map entry) (seg-none b s)

pub sets_length : (b m : ℕ) (s : List ℕ) → b + m ≤ length s → length (sets b m s) ≡ m
unfolding sets
sets_length b m s h = length-map (seg b m s) entry ∙ seg_length b m s h

pub waiting_add : (n b i m : ℕ) (s : List ℕ) → waiting n b (i + m) s ≡ waiting n b i s ++ waiting n (b + i) m s
unfolding waiting
waiting_add n b i m s =
    ap (map coefficient) (seg_add (lip_from n + b) i m s ∙ ap (λ (x : ℕ). seg (lip_from n + b) i s ++ seg x m s) (omega arith))
    ∙ map-append coefficient (seg (lip_from n + b) i s) (seg (lip_from n + (b + i)) m s)

pub waiting_none : (n i : ℕ) (s : List ℕ) → waiting n i 0 s ≡ []
unfolding waiting
waiting_none n i s = ap (map coefficient) (seg-none (lip_from n + i) s)

pub waiting_length : (n i m : ℕ) (s : List ℕ) → 4 * n ≤ length s → i + m ≤ n → length (waiting n i m s) ≡ m
unfolding waiting lip_from
waiting_length n i m s h k = length-map (seg (n + i) m s) coefficient ∙ seg_length (n + i) m s (omega arith)

pub waiting_one : (n i : ℕ) (s : List ℕ) → 4 * n ≤ length s → i < n → waiting n i 1 s ≡ coefficient (lip_at n i s) ∷ []
unfolding waiting lip_at lip_from
waiting_one n i s h k =
    ap (map coefficient) (seg-cons (n + i) 1 s (omega arith) (omega arith) ∙ ap (λ x. get_or s (n + i) 0 ∷ x) (seg-none (n + i + 1) s))

pub known_add : (n i m : ℕ) (s : List ℕ) → known n (i + m) s ≡ known n i s ++ map coefficient (seg (lsp_from n + i) m s)
unfolding known
known_add n i m s = ap (map coefficient) (seg_add (lsp_from n) i m s) ∙ map-append coefficient (seg (lsp_from n) i s) (seg (lsp_from n + i) m s)

pub known_more : (n i : ℕ) (s : List ℕ) → 4 * n ≤ length s → i < n → known n (i + 1) s ≡ known n i s ++ (coefficient (lsp_at n i s) ∷ [])
unfolding known lsp_at lsp_from
known_more n i s h k =
    ap (map coefficient) (seg_more (n + n) i s (omega arith)) ∙ map-append coefficient (seg (n + n) i s) (get_or s (n + n + i) 0 ∷ [])

-- what holds of each of a list's entries holds of the i-th
all-at : (P : ℕ → Type 0) (i b m : ℕ) (s : List ℕ) → b + m ≤ length s → i < m → All P (map coefficient (seg b m s)) → P (coefficient (get_or s (b + i) 0))
unfolding All
all-at P zero b m s h l a =
    subst P (ap (λ (x : ℕ). coefficient (get_or s x 0)) (omega arith))
    (subst (λ xs. All P (map coefficient xs)) (seg-cons b m s (omega arith) (omega arith)) a).0
all-at P (suc i) b m s h l a =
    subst P (ap (λ (x : ℕ). coefficient (get_or s x 0)) (omega arith))
    (all-at P i (b + 1) (m - 1) s (omega arith) (omega arith)
    (subst (λ xs. All P (map coefficient xs)) (seg-cons b m s (omega arith) (omega arith)) a).1)

pub all_waiting : (P : ℕ → Type 0) (n b m : ℕ) (s : List ℕ) → 4 * n ≤ length s → b + m ≤ n → All P (waiting n b m s) → (i : ℕ) → i < m
    → P (coefficient (lip_at n (b + i) s))
unfolding waiting lip_at lip_from
all_waiting P n b m s h k a i l = subst P (ap (λ (x : ℕ). coefficient (get_or s x 0)) (omega arith)) (all-at P i (n + b) m s (omega arith) l a)

pub all_known : (P : ℕ → Type 0) (n m : ℕ) (s : List ℕ) → 4 * n ≤ length s → m ≤ n → All P (known n m s) → (i : ℕ) → i < m
    → P (coefficient (lsp_at n i s))
unfolding known lsp_at lsp_from
all_known P n m s h k a i l = all-at P i (n + n) m s (omega arith) l a

pub known_none : (n : ℕ) (s : List ℕ) → known n 0 s ≡ []
unfolding known
known_none n s = ap (map coefficient) (seg-none (lsp_from n) s)

pub known_length : (n m : ℕ) (s : List ℕ) → 4 * n ≤ length s → m ≤ n → length (known n m s) ≡ m
unfolding known lsp_from
known_length n m s h k = length-map (seg (n + n) m s) coefficient ∙ seg_length (n + n) m s (omega arith)

pub lists_none : (n : ℕ) (s : List ℕ) → lists_in n s 0 0 0 ≡ record { lip = []; lis = []; lsp = [] }
unfolding lists_in
lists_none n s =
    ap₂ (λ x y. record { lip = x; lis = sets (lis_from n) 0 s; lsp = y }) (waiting_none n 0 s) (known_none n s)
    ∙ ap (λ x. record { lip = []; lis = x; lsp = [] }) (sets_none (lis_from n) 0 s refl)

-- What is held at the beginning of a pass, once LIP counts as empty.
abbrev pub emptied : Fill → Fill
emptied f = record { lip = 0; lsp = f.lsp; kept = f.kept; visited = f.visited; left = f.left; moved = f.moved }

module _ (t : Stretch) (s : List ℕ) (f : Fill) where
  pub todo_length : Fits t s f → length (held t s f).todo ≡ f.left
  unfolding held lis_from set_room
  todo_length h =
      let a = h.room in
      let b = h.visits in
      sets_length (t.n + t.n + t.n + f.visited) f.left s (omega arith)

  pub moved_length : Fits t s f → length (held t s f).moved ≡ f.moved
  unfolding held
  moved_length h = sets_length t.away f.moved s h.moved

  pub todo_none : f.left ≡ 0 → (held t s f).todo ≡ []
  unfolding held
  todo_none e = sets_none (lis_from t.n + f.visited) f.left s e

  pub held_waiting : (held t s f).lip ≡ waiting t.n 0 f.lip s
  unfolding held
  held_waiting = refl

  pub held_known : (held t s f).lsp ≡ known t.n f.lsp s
  unfolding held
  held_known = refl

  pub held_moved : (held t s f).moved ≡ sets t.away f.moved s
  unfolding held
  held_moved = refl

  pub held_fresh : f.kept ≡ 0 → f.moved ≡ 0
      → held t s (emptied f) ≡ record { lip = []; lsp = (held t s f).lsp; kept = []; todo = (held t s f).todo; moved = [] }
  unfolding held
  held_fresh a b =
      let same : List ℕ → List Entry → List Entry → Held
      = λ x y z. record { lip = x; lsp = known t.n f.lsp s; kept = y; todo = sets (lis_from t.n + f.visited) f.left s; moved = z } in
      ap (λ x. same x (sets (lis_from t.n) f.kept s) (sets t.away f.moved s)) (waiting_none t.n 0 s)
      ∙ ap₂ (same []) (sets_none (lis_from t.n) f.kept s a) (sets_none t.away f.moved s b)

  -- The lists between passes, as a pass finds them and as it leaves them.
  pub held_begins : f.visited ≡ 0
      → lists_in t.n s f.lip f.left f.lsp ≡ record { lip = (held t s f).lip; lis = (held t s f).todo; lsp = (held t s f).lsp }
  unfolding held lists_in
  held_begins e =
      ap (λ (x : ℕ). record { lip = waiting t.n 0 f.lip s; lis = sets x f.left s; lsp = known t.n f.lsp s }) (omega arith)

  pub held_ends : lists_in t.n s f.lip f.kept f.lsp ≡ record { lip = (held t s f).lip; lis = (held t s f).kept; lsp = (held t s f).lsp }
  unfolding held lists_in
  held_ends = refl

-- Lists that keep to their places have no more entries than they count.
pub lists_fit : (t : Stretch) (s : List ℕ) (lip lis lsp : ℕ) → 1 ≤ t.n → 4 * t.n ≤ length s → 4 * t.n ≤ t.away → t.away ≤ length s
    → length (lists_in t.n s lip lis lsp).lip ≤ t.n → 4 * length (lists_in t.n s lip lis lsp).lis ≤ 3 * t.n
    → length (lists_in t.n s lip lis lsp).lsp ≤ t.n → ((i : ℕ) → i < lip → Marked t s (lip_at t.n i s))
    → Fits t s (record { lip = lip; lsp = lsp; kept = 0; visited = 0; left = lis; moved = 0 })
unfolding lists_in waiting sets known lip_from lsp_from lis_from set_room
lists_fit t s lip lis lsp a h b w i j k marked =
    let n : ℕ = t.n in
    record {
      room = h;
      marked = marked;
      lip = seg_count (n + 0) lip s n (omega arith) (omega (arith, i, length-map (seg (n + 0) lip s) coefficient));
      lsp = seg_count (n + n) lsp s n (omega arith) (omega (arith, k, length-map (seg (n + n) lsp s) coefficient));
      kept = omega arith;
      visits =
          let m = length-map (seg (n + n + n) lis s) entry in
          omega (arith, seg_count (n + n + n) lis s (3 * n / 4) (omega arith) (omega (arith, j, m)));
      behind = b;
      moved = omega arith;
    }
