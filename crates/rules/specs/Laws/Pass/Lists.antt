-- The lists that a pass makes, whatever the bits: what is claimed of each entry, and what all entries weigh.
use Rattle.std.specs.Prelude.{◌≡◌, List, true, false, ℕ, ◌+◌}
use Rattle.rules.specs.Document.Pyramid.{Family}
use Rattle.rules.specs.Document.Passes.{Entry, significant?, set?, Lists, members, in_level, opened, added, Side, Course, own}
use Rattle.rules.specs.Laws.Counting.Sums.{sum, All}

-- What is claimed of a coefficient to test, in LIP, in LSP, and of a set to visit, that stays, that moves out.
pub record Claims : Type 1 where
  pub Test : ℕ → Type 0
  pub Lip : ℕ → Type 0
  pub Lsp : ℕ → Type 0
  pub Visit : Entry → Type 0
  pub Stay : Entry → Type 0
  pub Move : Entry → Type 0

-- Each visit makes the claims of what it leaves from the claim of what it takes.
pub record Fates (F : Family) (k : ℕ) {S : Type 0} (C : Side S) (X : Claims) : Type 0 where
  pub insignificant : (s : S) (p : ℕ) → (C.reply (significant? p) s).bit ≡ false → X.Test p → X.Lip p
  pub significant : (s : S) (p : ℕ) → (C.reply (significant? p) s).bit ≡ true → X.Test p → X.Lsp p
  pub moving : (e : Entry) → in_level F k e ≡ false → X.Visit e → X.Move e
  pub staying : (s : S) (e : Entry) → in_level F k e ≡ true → (C.reply (set? e) s).bit ≡ false → X.Visit e → X.Stay e
  pub opening : (s : S) (e : Entry) → in_level F k e ≡ true → (C.reply (set? e) s).bit ≡ true → X.Visit e
      → All X.Test (opened F e) × All X.Visit (added F e)

-- The claims hold where a pass stands, with ps still to test and es still to visit.
pub record Sorted (X : Claims) {S : Type 0} (c : Course S) (ps : List ℕ) (es : List Entry) : Type 0 where
  pub lips : All X.Lip c.lip
  pub lsps : All X.Lsp c.lsp
  pub stay : All X.Stay c.lis
  pub move : All X.Move c.moved
  pub tests : All X.Test ps
  pub visits : All X.Visit es

-- Weights. A set weighs what its members weigh.
abbrev pub set_weight : Family → (ℕ → ℕ) → Entry → ℕ
set_weight F w = λ e. sum w (members F e)

unfoldable pub lists_weight : Family → (ℕ → ℕ) → Lists → ℕ
lists_weight F w l = sum w l.lip + sum (set_weight F w) l.lis + sum w l.lsp

unfoldable pub course_weight : {S : Type 0} → Family → (ℕ → ℕ) → Course S → ℕ
course_weight F w c = lists_weight F w (own c) + sum (set_weight F w) c.moved
