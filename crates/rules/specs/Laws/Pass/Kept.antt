-- One induction over the visits of a pass: what every visit keeps, the pass keeps, and it holds wherever a pass stands.
use Rattle.std.specs.Prelude.{◌≡◌, true, false, ℕ}
use mathlib.Core.List.{List, [], ◌∷◌, ◌++◌}
use Rattle.rules.specs.Document.Pyramid.{Family}
use Rattle.rules.specs.Document.Passes.{Entry, significant?, negative?, bit?, set?, to_lip, stays, moves, in_level, opened, added}
use Rattle.rules.specs.Document.Passes.{Side}
use Rattle.rules.specs.Laws.Pass.Steps.{sign_noted, bit_noted}

-- `I s ps es ks`: what holds where a side has come to s, with the coefficients ps still to test, the sets es still to visit, and the
-- coefficients ks still to refine. Each visit keeps it, by what the side replies there.
pub record Kept (F : Family) (k : ℕ) {S : Type 0} (C : Side S) (I : S → List ℕ → List Entry → List ℕ → Type 0) : Type 0 where
  pub insignificant : (s : S) (p : ℕ) (ps : List ℕ) (es : List Entry) (ks : List ℕ) → (C.reply (significant? p) s).bit ≡ false
      → I s (p ∷ ps) es ks → I (C.note (to_lip p) (C.reply (significant? p) s).next) ps es ks
  pub significant : (s : S) (p : ℕ) (ps : List ℕ) (es : List Entry) (ks : List ℕ) → (C.reply (significant? p) s).bit ≡ true
      → I s (p ∷ ps) es ks → I (sign_noted C p (C.reply (negative? p) (C.reply (significant? p) s).next)) ps es ks
  pub moving : (s : S) (e : Entry) (es : List Entry) (ks : List ℕ) → in_level F k e ≡ false
      → I s [] (e ∷ es) ks → I (C.note (moves e) s) [] es ks
  pub staying : (s : S) (e : Entry) (es : List Entry) (ks : List ℕ) → in_level F k e ≡ true → (C.reply (set? e) s).bit ≡ false
      → I s [] (e ∷ es) ks → I (C.note (stays e) (C.reply (set? e) s).next) [] es ks
  pub opening : (s : S) (e : Entry) (es : List Entry) (ks : List ℕ) → in_level F k e ≡ true → (C.reply (set? e) s).bit ≡ true
      → I s [] (e ∷ es) ks → I (C.reply (set? e) s).next (opened F e) (es ++ added F e) ks
  pub refining : (s : S) (p : ℕ) (ks : List ℕ) → I s [] [] (p ∷ ks) → I (bit_noted C p (C.reply (bit? p) s)) [] [] ks
