-- How large a word can grow: whatever a pass finds and refines, none outgrows its bound.
use Rattle.std.specs.Prelude.{◌≡◌, refl, Bool, true, false, List, ◌∷◌, ℕ, ◌+◌, ◌-◌, ◌*◌, ◌≤◌, ◌<◌, ◌^◌, leb, length, set}
use Rattle.std.proofs.Common.{ap, mul-le-mul_left, arith, get_or-set_same, get_or-set_other, leb-true, le-leb}
use Rattle.std.proofs.Math.Bool.{cond}
use Rattle.std.proofs.Math.Decide.{ℕ_discrete, dec_lt}
use Rattle.std.proofs.Math.ListN.{get_or}
use Rattle.std.proofs.Math.Seq.{set_out}
use Rattle.rules.specs.Document.Pyramid.{Family}
use Rattle.rules.specs.Document.Passes.{to_lsp, refined, listed, listing}
use Rattle.rules.specs.Laws.Pass.Steps.{sign_noted, bit_noted}
use Rattle.rules.specs.Laws.Counting.Sums.{sum, is}
use Rattle.rules.proofs.Laws.Counting.Sums.{is_same}
use Rattle.rules.specs.Laws.Pass.Kept.{Kept}
use Rattle.coefficients.specs.Words.{word_of}
use Rattle.testing.specs.declared.Run.{Run}
use Rattle.testing.specs.Exchange.{reads, local_word, drawn, noted, side, quiet_to_lip, quiet_stays, quiet_moves}

-- No word outgrows a bound, though the coefficients ks are still to be refined, each once.
pub record Growth (first plane bound : ℕ) (vs : List ℕ) (ks : List ℕ) : Type 0 where
  pub small : (x : ℕ) → local_word first vs x + 2 * 2 ^ plane * sum (is x) ks < bound
  pub once : (x : ℕ) → sum (is x) ks ≤ 1

-- a word that is drawn, in values and under its tree number
get_d_drawn : (vs : List ℕ) (i j y b : ℕ) → (j ≡ i → y ≤ b) → get_or vs j 0 ≤ b → get_or (set vs i y) j 0 ≤ b
get_d_drawn vs i j y b f h = by (ℕ_discrete j i) (dec_lt i (length vs))
  where
    by : Dec (j ≡ i) → Dec (i < length vs) → get_or (set vs i y) j 0 ≤ b
    by (no n) l = rw (get_or-set_other vs i j y 0 n) h
    by (yes e) (yes l) = rw (e, get_or-set_same vs i y 0 l) (f e)
    by (yes e) (no l) = rw (set_out vs i y (omega arith)) h

word_drawn : (first : ℕ) (vs : List ℕ) (x q y b : ℕ) → (first ≤ x → q ≡ x → y ≤ b) → local_word first vs q ≤ b
    → local_word first (cond (leb first x) (set vs (x - first) y) vs) q ≤ b
unfolding local_word
word_drawn first vs x q y b f h = by (leb first x) refl (leb first q) refl h
  where
    by : (l : Bool) → leb first x ≡ l → (k : Bool) → leb first q ≡ k → cond k (get_or vs (q - first) 0) 0 ≤ b
        → cond k (get_or (cond l (set vs (x - first) y) vs) (q - first) 0) 0 ≤ b
    by l i false j h = h
    by false i true j h = h
    by true i true j h =
        let l = leb-true first x i in
        get_d_drawn vs (x - first) (q - first) y b (λ e. f l (omega (arith, leb-true first q j))) h

pub word_local : (first : ℕ) (vs : List ℕ) (x : ℕ) → first ≤ x → local_word first vs x ≡ get_or vs (x - first) 0
unfolding local_word
word_local first vs x l = rw (le-leb first x l)

added_most : (b : Bool) (v a : ℕ) → v + cond b a 0 ≤ v + a
added_most true v a = omega arith
added_most false v a = omega arith

word_most : (b : Bool) (m : ℕ) → word_of b m ≤ 2 * m + 1
unfolding word_of
word_most true m = omega arith
word_most false m = omega arith

sum_cons : (q p : ℕ) (ks : List ℕ) → sum (is q) (p ∷ ks) ≡ is q p + sum (is q) ks
unfolding sum
sum_cons q p ks = refl

-- a word that is drawn or not
either_le : (b d : Bool) (first : ℕ) (x y : List ℕ) (q c : ℕ) → local_word first x q ≤ c → local_word first y q ≤ c
    → local_word first (cond b (cond d x y) y) q ≤ c
either_le true true first x y q c h k = h
either_le true false first x y q c h k = k
either_le false d first x y q c h k = k

module _ (run : Run) where
  -- twice a plane's bit, as a word has it
  abbrev a : ℕ
  a = 2 * 2 ^ run.plane.0

  pub refined_most : (at x : ℕ) (b : Bool) (vs : List ℕ) (q : ℕ)
      → local_word run.stretch.first (noted run at (refined x b) vs) q ≤ local_word run.stretch.first vs q + a * is q x
  unfolding noted drawn
  refined_most at x b vs q =
      let y = get_or vs (x - run.stretch.first) 0 + cond b a 0 in
      either_le (reads run) (leb at run.until.at) run.stretch.first (cond (leb run.stretch.first x) (set vs (x - run.stretch.first) y) vs) vs q _
      (word_drawn run.stretch.first vs x q y _ same (omega arith)) (omega arith)
    where
      same : run.stretch.first ≤ x → q ≡ x → get_or vs (x - run.stretch.first) 0 + cond b a 0 ≤ local_word run.stretch.first vs q + a * is q x
      same l e = rw (e, is_same x, word_local run.stretch.first vs x l) (omega (arith, added_most b (get_or vs (x - run.stretch.first) 0) a))

  pub found_most : (at x : ℕ) (b : Bool) (vs : List ℕ) (q c : ℕ) → (q ≡ x → a + 1 ≤ c) → local_word run.stretch.first vs q ≤ c
      → local_word run.stretch.first (noted run at (to_lsp x b) vs) q ≤ c
  unfolding noted drawn
  found_most at x b vs q c h i =
      let y = word_of b (2 ^ run.plane.0) in
      either_le (reads run) (leb at run.until.at) run.stretch.first (cond (leb run.stretch.first x) (set vs (x - run.stretch.first) y) vs) vs q c
      (word_drawn run.stretch.first vs x q y c (λ l e. omega (arith, word_most b (2 ^ run.plane.0), h e)) i) i

  module _ (bound : ℕ) (large : 4 * 2 ^ run.plane.0 + 1 < bound) where
    -- what is still small, whatever is noted
    abbrev Small : List ℕ → List ℕ → Type 0
    Small vs ks = Growth run.stretch.first run.plane.0 bound vs ks

    pub growth_found : (at x : ℕ) (b : Bool) (vs ks : List ℕ) → Small vs ks → Small (noted run at (to_lsp x b) vs) ks
    growth_found at x b vs ks h = record {
      small = λ q.
          let g : a * sum (is q) ks ≤ a * 1 = mul-le-mul_left a (h.once q) in
          omega (arith, found_most at x b vs q (bound - 1 - a * sum (is q) ks) (λ e. omega arith) (omega (arith, h.small q)), h.small q);
      once = h.once;
    }

    pub growth_refined : (at x : ℕ) (b : Bool) (vs ks : List ℕ) → Small vs (x ∷ ks) → Small (noted run at (refined x b) vs) ks
    growth_refined at x b vs ks h = record {
      small = λ q. omega (arith, refined_most at x b vs q, h.small q, ap (λ (y : ℕ). a * y) (sum_cons q x ks));
      once = λ q. omega (arith, h.once q, sum_cons q x ks);
    }

    -- Whatever is found and refined, no word outgrows the bound.
    pub growth_kept : (s body : List ℕ) (F : Family) (k : ℕ)
        → Kept F k (listing (side run s body)) (λ c ps es ks. Growth run.stretch.first run.plane.0 bound c.side.values ks)
    unfolding listed sign_noted bit_noted side
    growth_kept s body F k = record {
      insignificant = λ c x ps es ks b h. rw (quiet_to_lip run (c.side.at + 1) x c.side.values) h;
      significant = λ c x ps es ks b h. growth_found _ x _ c.side.values ks h;
      moving = λ c e es ks i h. rw (quiet_moves run c.side.at e c.side.values) h;
      staying = λ c e es ks i b h. rw (quiet_stays run (c.side.at + 1) e c.side.values) h;
      opening = λ c e es ks i b h. h;
      refining = λ c x ks h. growth_refined _ x _ c.side.values ks h;
    }
