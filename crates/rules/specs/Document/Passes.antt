-- Document 01, "The passes". A pass is written once, as a conversation: it asks, goes on by the answer, and tells what becomes of an entry.
-- The coder answers from the pyramid and writes the answer as the next bit; "the decoder runs the same passes, reading bits".
use Rattle.std.specs.Prelude.{List, [], ◌∷◌, ◌++◌, map, Bool, true, false, cond, ℕ, zero, suc, ◌+◌, ◌*◌, ◌/◌, ◌%◌, ◌^◌, leb, eqb, length, get_or, set}
use Rattle.std.specs.Prelude.{ℤ, pos, negsuc, neg_ℤ}
use Rattle.rules.specs.declared.Size.{Size}
use Rattle.rules.specs.Document.Notation.{any, flat, greatest, if_any}
use Rattle.rules.specs.Document.Pyramid.{Family, levels, offspring_of}

-- An entry of a LIS: a coefficient as type A, for its D, or as type B, for its L.
pub data Entry : Type 0 where
  typeA typeB : ℕ → Entry

-- What is asked, one bit an answer.
pub data Question : Type 0 where
  -- of a coefficient: significant? negative? bit n of its magnitude?
  significant? negative? bit? : ℕ → Question
  -- of a set: significant?
  set? : Entry → Question

-- What becomes of an entry.
pub data Event : Type 0 where
  -- a coefficient that is not significant: end of LIP_k
  to_lip : ℕ → Event
  -- one found significant, negative or not: end of LSP_k
  to_lsp : ℕ → Bool → Event
  -- a set whose bit is 0: it stays in its place
  stays : Entry → Event
  -- a set with no member in level k: end of LIS_(k-1)
  moves : Entry → Event
  -- a coefficient of LSP_k, and bit n of its magnitude
  refined : ℕ → Bool → Event

pub data Talk : Type 0 where
  done : Talk
  ask : Question → (Bool → Talk) → Talk
  tell : Event → Talk → Talk

pub record Lists : Type 0 where
  pub lip : List ℕ
  pub lis : List Entry
  pub lsp : List ℕ

module _ (F : Family) where
  unfoldable pub members : Entry → List ℕ
  members (typeA p) = F.descendants p
  members (typeB p) = flat F.descendants (F.offspring p)

  unfoldable pub in_level : ℕ → Entry → Bool
  in_level k e = any (λ q. eqb (F.level q) k) (members e)

  -- "1. Each entry of LIP_k, in order: its significance bit; if 1, its sign bit (0 positive, 1 negative), and it moves to the end of LSP_k."
  unfoldable pub tested : ℕ → Talk → Bool → Talk
  tested p next false = tell (to_lip p) next
  tested p next true = ask (negative? p) (λ s. tell (to_lsp p s) next)

  unfoldable pub tests : List ℕ → Talk → Talk
  tests [] next = next
  tests (p ∷ ps) next = ask (significant? p) (tested p (tests ps next))

  -- "Otherwise the bit of D; if 1, for each offspring its significance bit, then either sign bit and end of LSP_k, or end of LIP_k (not
  -- visited again in this plane); then the entry goes to the end of LIS_k as type B if L is not empty, else it is removed." "Otherwise the
  -- bit of L; if 1, the offspring go to the end of LIS_k as type A and the entry is removed."
  unfoldable pub opened : Entry → List ℕ
  opened (typeA p) = F.offspring p
  opened (typeB p) = []

  unfoldable pub added : Entry → List Entry
  added (typeA p) = if_any (members (typeB p)) (typeB p ∷ [])
  added (typeB p) = map typeA (F.offspring p)

  -- `next es` is step 2 with the entries es still to visit. "A set whose bit is 0 stays in its place."
  unfoldable pub weighed : Entry → List Entry → (List Entry → Talk) → Bool → Talk
  weighed e es next false = tell (stays e) (next es)
  weighed e es next true = tests (opened e) (next (es ++ added e))

  -- "Type A with no member of D in level k: moved to the end of LIS_(k-1), no bit." "Type B with no member of L in level k: moved to the
  -- end of LIS_(k-1), no bit."
  unfoldable pub visited : Entry → List Entry → (List Entry → Talk) → Bool → Talk
  visited e es next false = tell (moves e) (next es)
  visited e es next true = ask (set? e) (weighed e es next)

  -- "2. Each entry of LIS_k, in order, those added to its end meanwhile included." The first number bounds the visits; `turns` is enough.
  unfoldable pub visits : ℕ → ℕ → List Entry → Talk → Talk
  visits k zero es next = next
  visits k (suc t) [] next = next
  visits k (suc t) (e ∷ es) next = visited e es (λ rest. visits k t rest next) (in_level k e)

  unfoldable pub turns : List Entry → ℕ
  turns [] = 0
  turns (typeA p ∷ es) = 2 * length (members (typeA p)) + 2 + turns es
  turns (typeB p ∷ es) = 2 * length (members (typeB p)) + 2 * length (F.offspring p) + 1 + turns es

  unfoldable pub sets : ℕ → List Entry → Talk → Talk
  sets k es next = visits k (turns es) es next

  -- "3. Each entry of LSP_k that came in at an earlier plane, in order: bit n of its magnitude."
  unfoldable pub refines : List ℕ → Talk
  refines [] = done
  refines (p ∷ ps) = ask (bit? p) (λ b. tell (refined p b) (refines ps))

  unfoldable pub pass : ℕ → Lists → Talk
  pass k l = tests l.lip (sets k l.lis (refines l.lsp))

-- One side of the conversation: it replies with a bit, and takes note of what is told. `walk` takes a side through a conversation.
pub record Reply (S : Type 0) : Type 0 where
  pub bit : Bool
  pub next : S

pub record Side (S : Type 0) : Type 0 where
  pub reply : Question → S → Reply S
  pub note : Event → S → S

unfoldable pub walk : {S : Type 0} → Side S → Talk → S → S
walk C done s = s
walk C (ask q go) s = walk C (go (C.reply q s).bit) (C.reply q s).next
walk C (tell e next) s = walk C next (C.note e s)

-- The lists that a pass makes, beside what its side has come to.
pub record Course (S : Type 0) : Type 0 where
  pub lip : List ℕ
  pub lsp : List ℕ
  pub lis : List Entry
  pub moved : List Entry
  pub side : S

unfoldable pub listed : {S : Type 0} → Event → Course S → S → Course S
listed (to_lip p) c s = record { lip = c.lip ++ (p ∷ []); lsp = c.lsp; lis = c.lis; moved = c.moved; side = s }
listed (to_lsp p b) c s = record { lip = c.lip; lsp = c.lsp ++ (p ∷ []); lis = c.lis; moved = c.moved; side = s }
listed (stays e) c s = record { lip = c.lip; lsp = c.lsp; lis = c.lis ++ (e ∷ []); moved = c.moved; side = s }
listed (moves e) c s = record { lip = c.lip; lsp = c.lsp; lis = c.lis; moved = c.moved ++ (e ∷ []); side = s }
listed (refined p b) c s = record { lip = c.lip; lsp = c.lsp; lis = c.lis; moved = c.moved; side = s }

abbrev pub with_side : {S : Type 0} → Course S → S → Course S
with_side c s = record { lip = c.lip; lsp = c.lsp; lis = c.lis; moved = c.moved; side = s }

abbrev pub on_course : {S : Type 0} → Course S → Reply S → Reply (Course S)
on_course c r = record { bit = r.bit; next = with_side c r.next }

abbrev pub listing : {S : Type 0} → Side S → Side (Course S)
listing C = record { reply = λ q c. on_course c (C.reply q c.side); note = λ e c. listed e c (C.note e c.side) }

unfoldable pub passed : {S : Type 0} → Family → ℕ → Side S → Lists → S → Course S
passed F k C l s = walk (listing C) (pass F k l) (record { lip = []; lsp = l.lsp; lis = []; moved = []; side = s })

-- The lists of all levels, before and after the pass of level k.
abbrev pub State : Type 0
State = ℕ → Lists

abbrev pub own : {S : Type 0} → Course S → Lists
own c = record { lip = c.lip; lis = c.lis; lsp = c.lsp }

abbrev pub handed : {S : Type 0} → Course S → Lists → Lists
handed c l = record { lip = l.lip; lis = l.lis ++ c.moved; lsp = l.lsp }

unfoldable pub after : {S : Type 0} → ℕ → Course S → State → State
after k c s j = cond (eqb j k) (own c) (cond (eqb (suc j) k) (handed c (s j)) (s j))

-- "Start: LIP of level N+1 holds the LL band row by row; LIS of level N+1 holds, in the same order and as type A, those with offspring.
-- All else is empty."
unfoldable pub from : ℕ → ℕ → List ℕ
from q zero = []
from q (suc m) = q ∷ from (suc q) m

module _ (z : Size) where
  unfoldable pub rows : ℕ → ℕ → List ℕ
  rows i zero = []
  rows i (suc h) = from (i * z.w) (z.w / 2 ^ z.n) ++ rows (suc i) h

  unfoldable pub band_ll : List ℕ
  band_ll = rows 0 (z.h / 2 ^ z.n)

  unfoldable pub root_of : ℕ → List Entry
  root_of p = if_any (offspring_of z p) (typeA p ∷ [])

  unfoldable pub start : State
  start k =
      cond (eqb k (levels z))
      (record { lip = band_ll; lis = flat root_of band_ll; lsp = [] })
      (record { lip = []; lis = []; lsp = [] })

-- "For each plane n downward, for each level k from N+1 to 1, one part is made."
pub record PartName : Type 0 where
  pub plane : ℕ
  pub level : ℕ

unfoldable pub parts_of_plane : ℕ → ℕ → List PartName
parts_of_plane n zero = []
parts_of_plane n (suc k) = record { plane = n; level = suc k } ∷ parts_of_plane n k

unfoldable pub part_names : ℕ → ℕ → List PartName
part_names top zero = []
part_names top (suc n) = parts_of_plane n top ++ part_names top n

-- The coder's side: "a set is significant at plane n if its largest magnitude is at least 2^n".
module _ (F : Family) (mag : ℕ → ℕ) (neg : ℕ → Bool) where
  unfoldable pub truth : ℕ → Question → Bool
  truth n (significant? p) = leb (2 ^ n) (mag p)
  truth n (negative? p) = neg p
  truth n (bit? p) = eqb (mag p / 2 ^ n % 2) 1
  truth n (set? e) = leb (2 ^ n) (greatest mag (members F e))

  abbrev pub coder : ℕ → Side (List Bool)
  coder n = record { reply = λ q bits. record { bit = truth n q; next = bits ++ (truth n q ∷ []) }; note = λ e bits. bits }

  unfoldable pub coded : PartName → State → Course (List Bool)
  coded p s = passed F p.level (coder p.plane) (s p.level) []

-- The decoder's side: the bits of a body, 0 past their end, how many were taken, and the pyramid. "A newly significant coefficient has
-- magnitude 2^n; a refinement bit of 1 adds 2^n." Only so many bits are there; W1: "A significance bit whose sign didn't arrive leaves its
-- coefficient 0", so what comes of more bits than are there is not drawn.
pub record Reader : Type 0 where
  pub taken : ℕ
  pub pyramid : List ℤ

unfoldable pub signed : Bool → ℕ → ℤ
signed false m = pos m
signed true m = neg_ℤ (pos m)

unfoldable pub grown : Bool → ℕ → ℤ → ℤ
grown false a v = v
grown true a (pos m) = pos (m + a)
grown true a (negsuc m) = negsuc (m + a)

unfoldable pub written : ℕ → Event → List ℤ → List ℤ
written n (to_lip p) v = v
written n (to_lsp p s) v = set v p (signed s (2 ^ n))
written n (stays e) v = v
written n (moves e) v = v
written n (refined p b) v = set v p (grown b (2 ^ n) (get_or v p (pos 0)))

abbrev pub decoder : (ℕ → Bool) → ℕ → ℕ → Side Reader
decoder bit there n =
    record {
      reply = λ q r. record { bit = bit r.taken; next = record { taken = suc r.taken; pyramid = r.pyramid } };
      note = λ e r. record { taken = r.taken; pyramid = cond (leb r.taken there) (written n e r.pyramid) r.pyramid };
    }

unfoldable pub decoded : Family → PartName → (ℕ → Bool) → ℕ → State → List ℤ → Course Reader
decoded F p bit there s v = passed F p.level (decoder bit there p.plane) (s p.level) (record { taken = 0; pyramid = v })
