-- Level after level: what stands when the levels over k are done, and when all are.
use mathlib.Core.Path.{◌≡◌, refl, sym, ap, ◌∙◌}
use mathlib.Core.Logic.{◌≢◌}
use mathlib.Core.List.{List}
use Prim.Native.Nat.{ℕ, ◌+◌, ◌-◌, ◌*◌, ◌≤◌, ◌<◌}
use native.Mathlib.Omega.{arith}
use native.Mathlib.Decide.{dec_lt, ℕ_discrete}
use lib.ListN.{length, get_or, replicate, length-replicate, get_or-replicate}
use lib.IntN.{ℤ, pos}
use borrow.Rule.Slice.PartMut.{mid_of, put_mid, mid_len, same_len_mid}
use Rattle.rules.specs.declared.Size.{Size}
use Rattle.rules.specs.Document.Pyramid.{area, levels, level_of, magnitude, most_magnitude}
use Rattle.rules.specs.Document.Calls.{work_for}
use Rattle.rules.specs.Promises.Vocabulary.{Legal}
use Rattle.rules.specs.Laws.Family.Sizes.{level_start, level_size}
use Rattle.rules.proofs.Laws.Family.Sizes.{legal}
use Rattle.rules.proofs.Laws.Offspring.Level.{level_most, level_least}
use Rattle.rules.proofs.Laws.Rounding.Planes.{magnitude_most, range_greatest}
use Rattle.trees.specs.Family.{tree_level, coefficient_of}
use Rattle.trees.specs.Run.{number_of}
use Rattle.trees.proofs.Run.{number_area}
use Rattle.coefficients.specs.Words.{worded, value_of}
use Rattle.stretches.specs.Workspace.{word_in, drawn_at}
use Rattle.stretches.specs.Levels.{words_from, level_before, stretch_room, Numbered, numbered, word_level, word_numbered, put_inside, put_before, put_behind}
use Rattle.placing.specs.Stores.{Small}
use Rattle.placing.specs.Placing.{Roomy, Given, BlocksOf, Placed, LevelCopied, LevelsCopied, CopiedIn, LevelLaid, LevelsLaid}
use Rattle.placing.specs.Placing.{LaidOut, LevelCleared, Cleared}

-- A workspace and what is given stay in order.
pub roomy_same : {z : Size} {s s' : List ℕ} → Roomy z s → length s' ≡ length s → Roomy z s'
roomy_same R e = record { legal = R.legal; room = omega (arith, R.room) }

pub given_same : {v : List ℤ} {z : Size} {s s' : List ℕ} → Given v z s → length s' ≡ length s → Given v z s'
given_same G e = record { roomy = roomy_same G.roomy e; whole = G.whole; range = G.range }

pub given_small : {v : List ℤ} {z : Size} {s : List ℕ} → Given v z s → Small v
unfolding magnitude
given_small {v} G =
    record { small = λ q. omega (arith, magnitude_most v q, range_greatest most_magnitude v G.range) }

-- Blocks.
pub record PlacedFrom (z : Size) (k : ℕ) (work work' : List ℕ) : Type 0 where
  pub roomy : Roomy z work'
  pub same : length work' ≡ length work
  pub words : (x : ℕ) → x < area z → word_in z work' x ≡ word_in z work x
  pub blocks : (j : ℕ) → k ≤ j → j ≤ z.n → BlocksOf z j work'

-- Words copied in.
module _ {v : List ℤ} {z : Size} {k : ℕ} {work work₁ : List ℕ} (C : LevelsCopied v z k work work₁) where
  pub copied_end : k < 1 → LevelsCopied v z 0 work work₁
  copied_end h = record { same = C.same; words = λ x l m n. C.words x l (omega arith) n; blocks = C.blocks }

-- when the blocks are placed, and when the levels are copied
pub given_copied : {v : List ℤ} {z : Size} {k : ℕ} {work work₁ work₂ : List ℕ} → Given v z work → Placed z work work₁ → LevelsCopied v z k work₁ work₂
    → Given v z work₂
given_copied G P C = given_same G (C.same ∙ P.same)

pub copied_all : {v : List ℤ} {z : Size} (Z : Legal z) {work work₁ work₂ work₃ : List ℕ} → Placed z work work₁ → LevelsCopied v z 0 work₁ work₂
    → LevelCopied v z (levels z) work₂ work₃ → CopiedIn v z work work₃
copied_all {v} {z} Z {work} {work₁} {work₂} {work₃} P C L =
    record { same = L.same ∙ C.same ∙ P.same; words = λ x l. by x l (numbered z Z x l) (ℕ_discrete (tree_level z x) (levels z)) }
  where
    by : (x : ℕ) → x < area z → Numbered z Z x → Dec (tree_level z x ≡ levels z) → word_in z work₃ x ≡ worded (get_or v (coefficient_of z x) (pos 0))
    by x l N (yes e) = L.own x l e
    by x l N (no e) = L.others x l e ∙ C.words x l (omega (arith, N.some)) (omega (arith, N.most))

-- Values laid out.
module _ {z : Size} {k : ℕ} {work : List ℕ} {out out₁ : List ℤ} (C : LevelsLaid z k work out out₁) where
  pub laid_end : k < 1 → LevelsLaid z 0 work out out₁
  laid_end h = record { same = C.same; values = λ q l m n. C.values q l (omega arith) n }

pub laid_all : {z : Size} (Z : Legal z) {work work' : List ℕ} {out out₁ out₂ : List ℤ} → Placed z work work' → LevelsLaid z 0 work' out out₁
    → LevelLaid z (levels z) work' out₁ out₂ → LaidOut z work out work' out₂
laid_all {z} Z {work} {work'} {out} {out₁} {out₂} P C L =
    record {
      same = P.same;
      whole = L.same ∙ C.same;
      values =
          λ q l.
          by q l (ℕ_discrete (level_of z q) (levels z))
          ∙ ap value_of (P.words (number_of z q) (number_area z Z q l))
          ∙ sym (drawn_at z work (number_of z q) (number_area z Z q l));
    }
  where
    by : (q : ℕ) → q < area z → Dec (level_of z q ≡ levels z) → get_or out₂ q (pos 0) ≡ value_of (word_in z work' (number_of z q))
    by q l (yes e) = L.own q l e
    by q l (no e) = L.others q l e ∙ C.values q l (omega (arith, level_least z Z q l)) (omega (arith, level_most z q))

-- Words zeroed.
pub record ClearedOver (z : Size) (k : ℕ) (work work' : List ℕ) : Type 0 where
  pub same : length work' ≡ length work
  pub words : (x : ℕ) → x < area z → k < tree_level z x → word_in z work' x ≡ 0

pub cleared_none : {z : Size} {work : List ℕ} → Roomy z work → ClearedOver z (z.n + 1) work work
cleared_none {z} R =
    record { same = refl; words = λ x h l. absurd (omega (arith, (numbered z (legal z R.legal) x h).most)) }

module _ {z : Size} {k : ℕ} {work work₁ : List ℕ} (C : ClearedOver z k work work₁) where
  pub cleared_all : Roomy z work → k < 1 → Cleared z work work₁
  cleared_all R h =
      record { same = C.same; words = λ x l. C.words x l (omega (arith, (numbered z (legal z R.legal) x l).some)) }

pub level_cleared : {z : Size} {k : ℕ} {work : List ℕ} → Roomy z work × (1 ≤ k) × (k ≤ levels z) → (from n : ℕ) → from ≡ 4 * level_start z k
    → n ≡ level_size z k → (ys : List ℕ) → ys ≡ replicate (length (mid_of from (from + n - from) work)) 0
    → LevelCleared z k work (put_mid from (from + n - from) work ys)
level_cleared {z} {k} {work} p from size e i ys g =
    record {
      same = same_len_mid from (to - from) work ys (n ∙ sym q);
      own =
          λ x l m.
          let t : ℕ = x - level_start z k in
          let u : t < level_size z k = rw m at (numbered z Z x l).under in
          word_level z Z put k x m p.1
          ∙ ap (λ (q : ℕ). get_or put (q + t) 0) (sym e)
          ∙ put_inside from to work ys t (omega (arith, R, p.0.room)) n (omega arith)
          ∙ ap (λ s. get_or s t 0) g
          ∙ get_or-replicate (length (mid_of from (to - from) work)) t 0 0 (omega (arith, q));
      others = λ x l m. word_numbered z Z put x l ∙ kept x (numbered z Z x l) m (dec_lt (tree_level z x) k) ∙ sym (word_numbered z Z work x l);
    }
  where
    Z : Legal z
    Z = legal z p.0.legal

    to : ℕ
    to = from + size

    put : List ℕ
    put = put_mid from (to - from) work ys

    R : 4 * level_start z k + 4 * level_size z k ≤ work_for z
    R = stretch_room z Z k p.1 p.2

    q : length (mid_of from (to - from) work) ≡ to - from
    q = mid_len from to work (omega (arith, R, p.0.room))

    n : length ys ≡ to - from
    n = ap length g ∙ length-replicate (length (mid_of from (to - from) work)) 0 ∙ q

    kept : (x : ℕ) → Numbered z Z x → tree_level z x ≢ k → Dec (tree_level z x < k)
        → get_or put (words_from z (tree_level z x) + (x - level_start z (tree_level z x))) 0
        ≡ get_or work (words_from z (tree_level z x) + (x - level_start z (tree_level z x))) 0
    kept x N m (yes f) =
        put_behind from to work ys _ (omega arith) (omega (arith, R, p.0.room)) n (omega (arith, level_before z Z k (tree_level z x) N.some f p.2))
    kept x N m (no f) =
        let o : k < tree_level z x = omega arith in
        put_before from (to - from) work ys _ (omega (arith, R, p.0.room))
        (omega (arith, level_before z Z (tree_level z x) k p.1 o N.most, N.under))
