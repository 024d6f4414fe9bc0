-- The side of the conversation that the code is: the decoder reads a body and draws coefficients; the coder answers from the words and the maxima in
-- the level's stretch, and sets bits.
--
--   local_word a vs x    the word of tree number x in values that begin with number a; 0 of a number before it
--   word_at run s x      the word of x in the stretch s
--   largest_at run s e   what the stretch s keeps as the maximum of a set
--   answer run s q      the coder's answer
--   noted run at e vs   the values after an event that bits up to the place at tell
use Rattle.std.specs.Prelude.{◌≡◌, Bool, true, false, List, ℕ, ◌+◌, ◌-◌, ◌*◌, ◌/◌, ◌%◌, ◌^◌, ◌≤◌, ◌<◌, leb, ltb, eqb, length, get_or, set}
use Rattle.std.proofs.Math.Path.{refl, ap, fun_ext}
use Rattle.std.proofs.Common.{sym, ◌∙◌, true≢false, arith}
use Rattle.std.proofs.Math.Bool.{cond}
use Rattle.bits.specs.declared.BitPosition.{BitPosition}
use Rattle.bits.specs.declared.BitRead.{BitRead}
use Rattle.bits.specs.Bits.{set_bit}
use Rattle.rules.specs.Document.Pyramid.{Family}
use Rattle.rules.specs.Document.Passes.{Entry, typeA, typeB, Question, significant?, negative?, bit?, set?}
use Rattle.rules.specs.Document.Passes.{Event, to_lip, to_lsp, stays, moves, refined, Side}
use Rattle.rules.specs.Document.Layout.{bit_at}
use Rattle.trees.specs.Family.{trees}
use Rattle.coefficients.specs.Words.{word_of}
use Rattle.stretches.specs.Cut.{maxima_from, values_in, maxima_in, values_at, values_same, maxima_same}
use Rattle.lists.specs.Lists.{codes, coefficient, mark_of, Beside}
use Rattle.lists.specs.declared.Role.{Role}
use Rattle.lists.specs.declared.Role.TheVariants.{Codes, Reads}
use Rattle.testing.specs.declared.Run.{Run}

-- the bytes of the output, the values of the level, and the place of the next bit
pub record Chan : Type 0 where
  pub bytes : List ℕ
  pub values : List ℕ
  pub at : ℕ

abbrev pub chan : List ℕ → List ℕ → ℕ → Chan
chan bytes values at = record { bytes = bytes; values = values; at = at }

abbrev pub family_of : Run → Family
family_of run = trees run.z

abbrev pub reading : Role → Bool
reading Codes = false
reading Reads = true

pub codes_reads : (r : Role) → codes r ≡ true → reading r ≡ false
codes_reads Codes e = refl
codes_reads Reads e = absurd (true≢false (sym e))

pub reads_codes : (r : Role) → reading r ≡ false → codes r ≡ true
reads_codes Codes e = refl
reads_codes Reads e = absurd (true≢false e)

abbrev pub reads : Run → Bool
reads run = reading run.stretch.role

unfoldable pub local_word : ℕ → List ℕ → ℕ → ℕ
local_word first vs x = cond (leb first x) (get_or vs (x - first) 0) 0

abbrev pub word_at : Run → List ℕ → ℕ → ℕ
word_at run s x = local_word run.stretch.first (values_in run.stretch.n s) x

-- The coder's entry tells how many planes its coefficient has, and its sign.
abbrev pub Tells : Run → List ℕ → ℕ → Type 0
Tells run s e = reads run ≡ false → e % 64 ≡ mark_of (word_at run s (coefficient e))

unfoldable pub largest_at : Run → List ℕ → Entry → ℕ
largest_at run s (typeA x) = cond (leb run.parents x) (get_or (maxima_in run.stretch.n s) (x - run.parents) 0 % 32) 0
largest_at run s (typeB x) = cond (leb run.elders x) (get_or (maxima_in run.stretch.n s) (4 * (x - run.elders)) 0 / 32) 0

-- answers at plane n, by the words of coefficients and the maxima of sets, each as its number of planes and one more
unfoldable pub words_tell : ℕ → (ℕ → ℕ) → (Entry → ℕ) → Question → Bool
words_tell n word largest (significant? x) = leb (2 ^ n) (word x / 2)
words_tell n word largest (negative? x) = eqb (word x % 2) 1
words_tell n word largest (bit? x) = eqb (word x / 2 / 2 ^ n % 2) 1
words_tell n word largest (set? e) = ltb (n + 1) (largest e)

unfoldable pub answer : Run → List ℕ → Question → Bool
answer run s q = words_tell run.plane.0 (word_at run s) (largest_at run s) q

-- what becomes of the values: the decoder draws what is found and what is refined, the coder draws nothing
unfoldable pub drawn : Run → Event → List ℕ → List ℕ
drawn run (to_lip x) vs = vs
drawn run (to_lsp x b) vs = cond (leb run.stretch.first x) (set vs (x - run.stretch.first) (word_of b (2 ^ run.plane.0))) vs
drawn run (stays e) vs = vs
drawn run (moves e) vs = vs
drawn run (refined x b) vs =
    cond (leb run.stretch.first x) (set vs (x - run.stretch.first) (get_or vs (x - run.stretch.first) 0 + cond b (2 * 2 ^ run.plane.0) 0)) vs

-- only of bits that are there; W1: "A significance bit whose sign didn't arrive leaves its coefficient 0."
unfoldable pub noted : Run → ℕ → Event → List ℕ → List ℕ
noted run at e vs = cond (reads run) (cond (leb at run.until.at) (drawn run e vs) vs) vs

either : {X : Type 0} (b c : Bool) (x : X) → cond b (cond c x x) x ≡ x
either true true x = refl
either true false x = refl
either false c x = refl

-- what is noted of what stays as it is: nothing
pub quiet_to_lip : (run : Run) (at x : ℕ) (vs : List ℕ) → noted run at (to_lip x) vs ≡ vs
unfolding noted drawn
quiet_to_lip run at x vs = either (reads run) (leb at run.until.at) vs

pub quiet_stays : (run : Run) (at : ℕ) (e : Entry) (vs : List ℕ) → noted run at (stays e) vs ≡ vs
unfolding noted drawn
quiet_stays run at e vs = either (reads run) (leb at run.until.at) vs

pub quiet_moves : (run : Run) (at : ℕ) (e : Entry) (vs : List ℕ) → noted run at (moves e) vs ≡ vs
unfolding noted drawn
quiet_moves run at e vs = either (reads run) (leb at run.until.at) vs

-- what the coder notes: nothing
pub quiet_coder : (run : Run) (at : ℕ) (e : Event) (vs : List ℕ) → reads run ≡ false → noted run at e vs ≡ vs
unfolding noted
quiet_coder run at e vs h = rw h

module _ (run : Run) (s body : List ℕ) where
  unfoldable pub side : Side Chan
  side =
      record {
        reply = λ q x. record {
          bit = cond (reads run) (bit_at body x.at) (answer run s q);
          next = chan (cond (reads run) x.bytes (set_bit x.bytes x.at (answer run s q))) x.values (x.at + 1);
        };
        note = λ e x. chan x.bytes (noted run x.at e x.values) x.at;
      }

  -- bytes and place stay as they are where something is noted
  pub notes : (e : Event) (out vs : List ℕ) (t : ℕ) → side.note e (chan out vs t) ≡ chan out (noted run t e vs) t
  unfolding side
  notes e out vs t = refl

-- A question was asked at a place; the values are what they were.
pub record Replied (C : Side Chan) (q : Question) (out : List ℕ) (at : BitPosition) (r : BitRead) (out' : List ℕ) : Type 0 where
  pub bit : (vs : List ℕ) → (C.reply q (chan out vs at.at)).bit ≡ r.bit
  pub next : (vs : List ℕ) → (C.reply q (chan out vs at.at)).next ≡ chan out' vs r.next.at
  pub place : r.next.at ≡ at.at + 1

-- a reply read, and one written
module _ (run : Run) (s body out : List ℕ) (at : BitPosition) where
  pub replied_read : (q : Question) (r : BitRead) → run.stretch.role ≡ Reads → r.bit ≡ bit_at body at.at → r.next.at ≡ at.at + 1
      → Replied (side run s body) q out at r out
  unfolding side
  replied_read q r h b n = record { bit = λ vs. rw (h, b); next = λ vs. rw (h, n); place = n }

  pub replied_said : (q : Question) (r : BitRead) {out' : List ℕ} {b : Bool} → run.stretch.role ≡ Codes → b ≡ answer run s q
      → r.bit ≡ b → r.next.at ≡ at.at + 1 → out' ≡ set_bit out at.at b → Replied (side run s body) q out at r out'
  unfolding side
  replied_said q r h e b n o = record { bit = λ vs. rw (b, e, h); next = λ vs. rw (n, o, e, h); place = n }

-- Bits that aren't there are read as 0: so refining by them changes nothing.
pub record Silent (run : Run) (body : List ℕ) : Type 0 where
  pub bits : reads run ≡ true → (i : ℕ) → run.until.at ≤ i → bit_at body i ≡ false

-- An event, told by bits up to a place, was noted in the stretch: in its values, and nowhere else.
pub record Noted (run : Run) (at : ℕ) (e : Event) (s s' : List ℕ) : Type 0 where
  pub long : length s' ≡ length s
  pub values : values_in run.stretch.n s' ≡ noted run at e (values_in run.stretch.n s)
  pub others : (i : ℕ) → run.stretch.n ≤ i → get_or s' i 0 ≡ get_or s i 0

-- What a pass leaves as it was, but for lists and, by the decoder, values; so many sets have moved out by now.
pub record Around (run : Run) (moved : ℕ) (s s' : List ℕ) : Type 0 where
  pub long : length s' ≡ length s
  pub values : reads run ≡ false → (i : ℕ) → i < run.stretch.n → get_or s' i 0 ≡ get_or s i 0
  pub others : (i : ℕ) → maxima_from run.stretch.n ≤ i → i < run.stretch.away → get_or s' i 0 ≡ get_or s i 0
  pub rest : (i : ℕ) → run.stretch.away + moved ≤ i → get_or s' i 0 ≡ get_or s i 0

pub around_none : (run : Run) (m : ℕ) (s : List ℕ) → Around run m s s
around_none run m s = record { long = refl; values = λ r i h. refl; others = λ i h k. refl; rest = λ i h. refl }

pub around_then : {run : Run} {m m' : ℕ} {s s₁ s₂ : List ℕ} → Around run m s s₁ → Around run m' s₁ s₂ → m ≤ m' → Around run m' s s₂
around_then a b l =
    record {
      long = b.long ∙ a.long;
      values = λ r i h. b.values r i h ∙ a.values r i h;
      others = λ i h k. b.others i h k ∙ a.others i h k;
      rest = λ i h. b.rest i h ∙ a.rest i (omega arith);
    }

pub around_beside : {run : Run} {m : ℕ} {s s' : List ℕ} → Beside run.stretch m s s' → Around run m s s'
around_beside b = record { long = b.long; values = λ r i h. b.values i h; others = b.others; rest = b.rest }

pub noted_values : {run : Run} {at : ℕ} {e : Event} {s s' : List ℕ} → Noted run at e s s' → reads run ≡ false
    → (i : ℕ) → i < run.stretch.n → get_or s' i 0 ≡ get_or s i 0
noted_values {run} {at} {e} {s} {s'} N r i h =
    let n = run.stretch.n in
    sym (values_at n s' i h) ∙ ap (λ vs. get_or vs i 0) (N.values ∙ quiet_coder run at e (values_in n s) r) ∙ values_at n s i h

pub around_noted : {run : Run} {at : ℕ} {e : Event} {s s' : List ℕ} (m : ℕ) → Noted run at e s s' → 4 * run.stretch.n ≤ run.stretch.away
    → Around run m s s'
unfolding maxima_from
around_noted m N b =
    record { long = N.long; values = noted_values N; others = λ i h k. N.others i (omega arith); rest = λ i h. N.others i (omega arith) }

-- The side is the same where the maxima are and, for the coder, the words: the decoder's reads a body alone.
module _ (run : Run) (s s' : List ℕ) (words : reads run ≡ false → values_in run.stretch.n s' ≡ values_in run.stretch.n s)
    (maxima : maxima_in run.stretch.n s' ≡ maxima_in run.stretch.n s) where
  largest_same : (e : Entry) → largest_at run s' e ≡ largest_at run s e
  unfolding largest_at
  largest_same (typeA x) = rw maxima
  largest_same (typeB x) = rw maxima

  answer_same : reads run ≡ false → (q : Question) → answer run s' q ≡ answer run s q
  unfolding answer words_tell
  answer_same r (significant? x) = rw (words r)
  answer_same r (negative? x) = rw (words r)
  answer_same r (bit? x) = rw (words r)
  answer_same r (set? e) = rw (largest_same e)

  pub side_kept : (body : List ℕ) → side run s' body ≡ side run s body
  unfolding side
  side_kept body = by run.stretch.role refl
    where
      by : (r : Role) → run.stretch.role ≡ r → side run s' body ≡ side run s body
      by Reads e = rw e
      by Codes e = ap told (fun_ext (answer_same (ap reading e)))
        where
          told : (Question → Bool) → Side Chan
          told f =
              record {
                reply = λ q x. record {
                  bit = cond (reads run) (bit_at body x.at) (f q);
                  next = chan (cond (reads run) x.bytes (set_bit x.bytes x.at (f q))) x.values (x.at + 1);
                };
                note = λ e x. chan x.bytes (noted run x.at e x.values) x.at;
              }

pub side_same : {run : Run} {m : ℕ} {s s' : List ℕ} → Around run m s s' → 4 * run.stretch.n ≤ run.stretch.away
    → (body : List ℕ) → side run s' body ≡ side run s body
side_same {run} {m} {s} {s'} a h =
    let n = run.stretch.n in
    side_kept run s s' (λ r. values_same n s s' a.long (a.values r)) (maxima_same n s s' a.long (λ i l k. a.others i l (omega arith)))
