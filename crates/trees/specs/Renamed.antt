-- A pass over renamed coefficients. Where the offspring, the descendants and the level of f t are those of t, renamed, the pass over renamed
-- lists is the pass over the lists, renamed; and a side that is asked about f t goes where the side goes that is asked about t.
--
--   name_entry f e        the entry e of a LIS, its coefficient renamed
--   name_question f q     a question, name_event f e an event, name_talk f t a conversation
--   name_lists f l        a level's lists, name_state f s those of all levels, name_course f c what a pass makes
--   name_side f C         the side that is asked about t, and told of it, as C is of f t
--   Renames f F G        F on renamed coefficients is G
use Rattle.std.specs.Prelude.{◌≡◌}
use mathlib.Core.List.{map}
use Prim.Native.Nat.{ℕ}
use Rattle.rules.specs.Document.Pyramid.{Family}
use Rattle.rules.specs.Document.Passes.{Entry, typeA, typeB, Question, significant?, negative?, bit?, set?, Event, to_lip, to_lsp, stays, moves, refined, Talk}
use Rattle.rules.specs.Document.Passes.{done, ask, tell, Lists}
use Rattle.rules.specs.Document.Passes.{Side, Course, State}

module _ (f : ℕ → ℕ) where
  unfoldable pub name_entry : Entry → Entry
  name_entry (typeA p) = typeA (f p)
  name_entry (typeB p) = typeB (f p)

  unfoldable pub name_question : Question → Question
  name_question (significant? p) = significant? (f p)
  name_question (negative? p) = negative? (f p)
  name_question (bit? p) = bit? (f p)
  name_question (set? e) = set? (name_entry e)

  unfoldable pub name_event : Event → Event
  name_event (to_lip p) = to_lip (f p)
  name_event (to_lsp p b) = to_lsp (f p) b
  name_event (stays e) = stays (name_entry e)
  name_event (moves e) = moves (name_entry e)
  name_event (refined p b) = refined (f p) b

  unfoldable pub name_talk : Talk → Talk
  name_talk done = done
  name_talk (ask q go) = ask (name_question q) (λ b. name_talk (go b))
  name_talk (tell e next) = tell (name_event e) (name_talk next)

  abbrev pub name_lists : Lists → Lists
  name_lists l = record { lip = map f l.lip; lis = map name_entry l.lis; lsp = map f l.lsp }

  abbrev pub name_state : State → State
  name_state s k = name_lists (s k)

  abbrev pub name_course : {S : Type 0} → Course S → Course S
  name_course c =
      record { lip = map f c.lip; lsp = map f c.lsp; lis = map name_entry c.lis; moved = map name_entry c.moved; side = c.side }

  abbrev pub name_side : {S : Type 0} → Side S → Side S
  name_side C = record { reply = λ q s. C.reply (name_question q) s; note = λ e s. C.note (name_event e) s }

pub record Renames (f : ℕ → ℕ) (F G : Family) : Type 0 where
  pub offspring : (t : ℕ) → F.offspring (f t) ≡ map f (G.offspring t)
  pub descendants : (t : ℕ) → F.descendants (f t) ≡ map f (G.descendants t)
  pub level : (t : ℕ) → F.level (f t) ≡ G.level t
