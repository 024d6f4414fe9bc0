-- The levels of what a pass makes, whatever the bits: LIP_k and LSP_k hold level k, the sets of LIS_k hold level k and finer ones, what moves
-- out of level k has members in the next, and nothing leaves level 1.
use Rattle.std.specs.Prelude.{◌≡◌, true, false}
use Prim.Native.Nat.{ℕ, suc}
use Rattle.rules.specs.Document.Pyramid.{Family}
use Rattle.rules.specs.Document.Passes.{Entry, typeA, typeB, Lists, in_level}
use Rattle.rules.specs.Laws.Counting.Sums.{All}
use Rattle.rules.specs.Laws.Family.Lawful.{UpTo}
use Rattle.rules.specs.Laws.Pass.Lists.{Claims}

-- A set in its place in level k: members of level k and finer only, some of them in level k.
pub record Met (F : Family) (k : ℕ) (e : Entry) : Type 0 where
  pub up_to : UpTo F k e
  pub there : in_level F k e ≡ true

-- A set that leaves level k: it is in its place in the next.
pub record Leaves (F : Family) (k : ℕ) (e : Entry) : Type 0 where
  pub to : ℕ
  pub next : suc to ≡ k
  pub met : Met F to e

-- A set of LIS_k: members of level k and finer only; where none is in level k, it leaves.
pub record Settled (F : Family) (k : ℕ) (e : Entry) : Type 0 where
  pub up_to : UpTo F k e
  pub leaves : in_level F k e ≡ false → Leaves F k e

-- The coefficient that a set is named by.
unfoldable pub node_of : Entry → ℕ
node_of (typeA p) = p
node_of (typeB p) = p

-- The lists of level k.
pub record Placed (F : Family) (k : ℕ) (l : Lists) : Type 0 where
  pub lips : All (λ p. F.level p ≡ k) l.lip
  pub sets : All (Settled F k) l.lis
  pub lsps : All (λ p. F.level p ≡ k) l.lsp

abbrev pub level_claims : Family → ℕ → Claims
level_claims F k =
    record {
      Test = λ p. F.level p ≡ k;
      Lip = λ p. F.level p ≡ k;
      Lsp = λ p. F.level p ≡ k;
      Visit = Settled F k;
      Stay = Met F k;
      Move = Leaves F k;
    }
