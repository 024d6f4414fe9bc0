-- A pass of level k speaks of level k only, over any lawful family; so two sides that agree on what is of that level go through it alike.
--
--   Speaks Q E t             whatever the replies, the conversation t asks only questions of which Q holds, and tells only events of which E does
--   QuestionOf F k q         q is of a coefficient of level k, or of a set in its place there
--   EventOf F k e            the same of an event; a set that moves is in its place in the next level
--   Within F k t             t speaks only of level k
--   Agreeing Q E C D Rel     where Rel relates two states, sides C and D reply to the questions of Q alike, and Rel goes on
--   Related Rel c d          two courses with the same lists, their sides related
use Rattle.std.specs.Prelude.{◌≡◌, Bool}
use Prim.Native.Nat.{ℕ}
use Rattle.rules.specs.Document.Pyramid.{Family}
use Rattle.rules.specs.Document.Passes.{Question, significant?, negative?, bit?, set?, Event, to_lip, to_lsp, stays, moves, refined}
use Rattle.rules.specs.Document.Passes.{Talk, done, ask, tell}
use Rattle.rules.specs.Document.Passes.{Side, Course}
use Rattle.rules.specs.Laws.Pass.Levels.{Met, Leaves}

unfoldable pub Speaks : (Question → Type 0) → (Event → Type 0) → Talk → Type 0
Speaks Q E done = Unit {0}
Speaks Q E (ask q go) = Q q × ((b : Bool) → Speaks Q E (go b))
Speaks Q E (tell e next) = E e × Speaks Q E next

module _ (F : Family) (k : ℕ) where
  unfoldable pub QuestionOf : Question → Type 0
  QuestionOf (significant? p) = F.level p ≡ k
  QuestionOf (negative? p) = F.level p ≡ k
  QuestionOf (bit? p) = F.level p ≡ k
  QuestionOf (set? e) = Met F k e

  unfoldable pub EventOf : Event → Type 0
  EventOf (to_lip p) = F.level p ≡ k
  EventOf (to_lsp p b) = F.level p ≡ k
  EventOf (stays e) = Met F k e
  EventOf (moves e) = Leaves F k e
  EventOf (refined p b) = F.level p ≡ k

  abbrev pub Within : Talk → Type 0
  Within = Speaks QuestionOf EventOf

-- Two sides through one conversation.
pub record Agreeing (Q : Question → Type 0) (E : Event → Type 0) {S T : Type 0} (C : Side S) (D : Side T) (Rel : S → T → Type 0) : Type 0 where
  pub bit : (q : Question) → Q q → (s : S) (t : T) → Rel s t → (C.reply q s).bit ≡ (D.reply q t).bit
  pub next : (q : Question) → Q q → (s : S) (t : T) → Rel s t → Rel (C.reply q s).next (D.reply q t).next
  pub noted : (e : Event) → E e → (s : S) (t : T) → Rel s t → Rel (C.note e s) (D.note e t)

pub record Related {S T : Type 0} (Rel : S → T → Type 0) (c : Course S) (d : Course T) : Type 0 where
  pub lip : c.lip ≡ d.lip
  pub lsp : c.lsp ≡ d.lsp
  pub lis : c.lis ≡ d.lis
  pub moved : c.moved ≡ d.moved
  pub side : Rel c.side d.side
