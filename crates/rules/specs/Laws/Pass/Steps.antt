-- What each visit of a pass makes of a side of the conversation, and of the lists: equations that a loop of the code goes by.
use Rattle.std.specs.Prelude.{Bool}
use mathlib.Core.List.{List, [], ◌∷◌}
use Rattle.std.proofs.Math.Bool.{true, false}
use Prim.Native.Nat.{ℕ}
use Rattle.rules.specs.Document.Pyramid.{Family}
use Rattle.rules.specs.Document.Passes.{Entry, significant?, negative?, bit?, to_lip, to_lsp, refined, done}
use Rattle.rules.specs.Document.Passes.{Lists, sets}
use Rattle.rules.specs.Document.Passes.{Reply, Side, walk, Course}

-- What the visit of a coefficient makes of a side, by the reply to "significant?"; and the visits of several, in order.
unfoldable pub sign_noted : {S : Type 0} → Side S → ℕ → Reply S → S
sign_noted C p r = C.note (to_lsp p r.bit) r.next

unfoldable pub tried_by : {S : Type 0} → Side S → ℕ → Bool → S → S
tried_by C p false s = C.note (to_lip p) s
tried_by C p true s = sign_noted C p (C.reply (negative? p) s)

unfoldable pub tried : {S : Type 0} → Side S → ℕ → S → S
tried C p s = tried_by C p (C.reply (significant? p) s).bit (C.reply (significant? p) s).next

unfoldable pub tried_all : {S : Type 0} → Side S → List ℕ → S → S
tried_all C [] s = s
tried_all C (p ∷ ps) s = tried_all C ps (tried C p s)

-- What the visits of sets make of a side, those of added ones included.
abbrev pub visited_all : {S : Type 0} → Family → ℕ → Side S → List Entry → S → S
visited_all F k C es s = walk C (sets F k es done) s

-- What the refinement of a coefficient makes of a side, and that of several.
unfoldable pub bit_noted : {S : Type 0} → Side S → ℕ → Reply S → S
bit_noted C p r = C.note (refined p r.bit) r.next

unfoldable pub sharpened : {S : Type 0} → Side S → ℕ → S → S
sharpened C p s = bit_noted C p (C.reply (bit? p) s)

unfoldable pub sharpened_all : {S : Type 0} → Side S → List ℕ → S → S
sharpened_all C [] s = s
sharpened_all C (p ∷ ps) s = sharpened_all C ps (sharpened C p s)

-- what a pass starts from
abbrev pub begun : {S : Type 0} → Lists → S → Course S
begun l s = record { lip = []; lsp = l.lsp; lis = []; moved = []; side = s }
