-- How long the lists of a pass and its bits can be, whatever the bits: at every point of it, and at its end.
use Rattle.std.specs.Prelude.{List, ℕ, ◌+◌, ◌*◌, ◌≤◌, length}
use Rattle.rules.specs.Document.Pyramid.{Family}
use Rattle.rules.specs.Document.Passes.{Entry, Question, Event}
use Rattle.rules.specs.Document.Passes.{Side, Course}
use Rattle.rules.specs.Laws.Pass.Slots.{Room}

-- A side that takes at most one bit for each reply, and none for a note. (Every side is one, by `bits s = 0`.)
pub record Taking {S : Type 0} (C : Side S) (bits : S → ℕ) : Type 0 where
  pub asked : (q : Question) (s : S) → bits (C.reply q s).next ≤ bits s + 1
  pub noted : (e : Event) (s : S) → bits (C.note e s) ≤ bits s

-- Where a pass stands that began with `known` coefficients in LSP_k and `first` bits taken: there is room for the rest; what was visited of
-- LIS_k stayed, moved out or is gone; and each test took two bits at most, each set one, each refinement one.
pub record Fits (F : Family) (k n known first : ℕ) {S : Type 0} (bits : S → ℕ) (c : Course S) (ps : List ℕ) (es : List Entry) (ks : List ℕ)
    : Type 0 where
  pub visited : ℕ
  pub room : Room F k n (length c.lip + length c.lsp) visited ps es
  pub past : length c.lis + length c.moved ≤ visited
  pub taken : bits c.side + length ks + known ≤ first + 2 * (length c.lip + length c.lsp) + visited

-- |LIP_k| + |LSP_k| ≤ n, the sets of LIS_k and those moved out ≤ 3/4 n, and the bits ≤ 11/4 n.
pub record Bounded (n first : ℕ) {S : Type 0} (bits : S → ℕ) (c : Course S) : Type 0 where
  pub coefficients : length c.lip + length c.lsp ≤ n
  pub sets : 4 * (length c.lis + length c.moved) ≤ 3 * n
  pub taken : 4 * bits c.side ≤ 4 * first + 11 * n
