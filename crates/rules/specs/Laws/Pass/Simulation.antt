-- A walk is what its side says and tells; the decoder, on the bits that the coder spoke, tells the coder's outcomes and makes its lists.
use Rattle.std.specs.Prelude.{◌≡◌, ℤ}
use mathlib.Core.List.{List, [], ◌∷◌, ◌++◌}
use Rattle.std.proofs.Math.Bool.{Bool}
use Prim.Native.Nat.{ℕ, suc}
use Rattle.rules.specs.Document.Notation.{flat}
use Rattle.rules.specs.Document.Passes.{Entry, Question, Event, to_lip, to_lsp, stays, moves, refined, Talk, done, ask, tell, Lists, Side}
use Rattle.rules.specs.Document.Passes.{Course}
use Rattle.rules.specs.Document.Passes.{written}

-- What a side says and tells on a walk.
module _ {S : Type 0} (C : Side S) where
  unfoldable pub said : Talk → S → List Bool
  said done s = []
  said (ask q go) s = (C.reply q s).bit ∷ said (go (C.reply q s).bit) (C.reply q s).next
  said (tell e next) s = said next (C.note e s)

  unfoldable pub told : Talk → S → List Event
  told done s = []
  told (ask q go) s = told (go (C.reply q s).bit) (C.reply q s).next
  told (tell e next) s = e ∷ told next (C.note e s)

-- What is spoken, and what comes out, where the answers are settled beforehand.
module _ (answer : Question → Bool) where
  unfoldable pub spoken : Talk → List Bool
  spoken done = []
  spoken (ask q go) = answer q ∷ spoken (go (answer q))
  spoken (tell e next) = spoken next

  unfoldable pub outcomes : Talk → List Event
  outcomes done = []
  outcomes (ask q go) = outcomes (go (answer q))
  outcomes (tell e next) = e ∷ outcomes next

-- What a list of bits makes of a conversation: they run out, or there is what they tell and what is left of them.
pub data Heard : Type 0 where
  short : Heard
  whole : List Event → List Bool → Heard

unfoldable pub noted : Event → Heard → Heard
noted e short = short
noted e (whole es rest) = whole (e ∷ es) rest

unfoldable pub heard : Talk → List Bool → Heard
heard done bits = whole [] bits
heard (ask q go) [] = short
heard (ask q go) (b ∷ bits) = heard (go b) bits
heard (tell e next) bits = noted e (heard next bits)

-- What an event adds to each list, and the course of a pass over the lists l that tells the events es and leaves its side at s.
unfoldable pub lip_of : Event → List ℕ
lip_of (to_lip p) = p ∷ []
lip_of (to_lsp p b) = []
lip_of (stays e) = []
lip_of (moves e) = []
lip_of (refined p b) = []

unfoldable pub lsp_of : Event → List ℕ
lsp_of (to_lip p) = []
lsp_of (to_lsp p b) = p ∷ []
lsp_of (stays e) = []
lsp_of (moves e) = []
lsp_of (refined p b) = []

unfoldable pub lis_of : Event → List Entry
lis_of (to_lip p) = []
lis_of (to_lsp p b) = []
lis_of (stays e) = e ∷ []
lis_of (moves e) = []
lis_of (refined p b) = []

unfoldable pub moved_of : Event → List Entry
moved_of (to_lip p) = []
moved_of (to_lsp p b) = []
moved_of (stays e) = []
moved_of (moves e) = e ∷ []
moved_of (refined p b) = []

unfoldable pub extended : {S : Type 0} → Course S → List Event → S → Course S
extended c es s =
    record {
      lip = c.lip ++ flat lip_of es;
      lsp = c.lsp ++ flat lsp_of es;
      lis = c.lis ++ flat lis_of es;
      moved = c.moved ++ flat moved_of es;
      side = s;
    }

unfoldable pub course : {S : Type 0} → Lists → List Event → S → Course S
course l es s =
    record { lip = flat lip_of es; lsp = l.lsp ++ flat lsp_of es; lis = flat lis_of es; moved = flat moved_of es; side = s }

-- The pyramid after the events, in order.
unfoldable pub drawn : ℕ → List Event → List ℤ → List ℤ
drawn n [] v = v
drawn n (e ∷ es) v = drawn n es (written n e v)

-- A side that reads bits one after another, so many taken so far.
pub record Reads {S : Type 0} (C : Side S) (bit : ℕ → Bool) (taken : S → ℕ) : Type 0 where
  pub bit_read : (q : Question) (s : S) → (C.reply q s).bit ≡ bit (taken s)
  pub one_taken : (q : Question) (s : S) → taken (C.reply q s).next ≡ suc (taken s)
  pub none_taken : (e : Event) (s : S) → taken (C.note e s) ≡ taken s

-- A side that, where P holds, gives the settled answer and comes to where P holds again.
pub record Along {S : Type 0} (C : Side S) (answer : Question → Bool) (P : Talk → S → Type 0) : Type 0 where
  pub now : (q : Question) (go : Bool → Talk) (s : S) → P (ask q go) s → (C.reply q s).bit ≡ answer q
  pub after_reply : (q : Question) (go : Bool → Talk) (s : S) → P (ask q go) s → P (go (answer q)) (C.reply q s).next
  pub after_note : (e : Event) (next : Talk) (s : S) → P (tell e next) s → P next (C.note e s)
