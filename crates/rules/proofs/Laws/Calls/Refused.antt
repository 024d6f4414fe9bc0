-- Demand 1, for Promises/One: number and place tell refusals apart, each routine gives its own numbers only, and so a call whose result has its
-- case, and no other's, comes back with a number and a place exactly where that case holds.
use Rattle.std.specs.Prelude.{◌≡◌, refl, List, [], ◌∷◌, ◌++◌, cond, ℕ, ◌-◌, eqb, length, replicate, ℤ, pos, Err}
use Rattle.std.proofs.Math.Path.{ap, ap₂, subst}
use Rattle.std.proofs.Common.{sym, ◌∙◌, arith}
use Rattle.rules.specs.declared.Size.{Size}
use Rattle.rules.specs.declared.Refusal.{Refusal}
use Rattle.rules.specs.declared.Refusal.TheVariants as refusal
use Rattle.rules.specs.declared.Header.{Header}
use Rattle.rules.specs.declared.Part.{Part}
use Rattle.rules.specs.Document.Notation.{any, zeros}
use Rattle.rules.specs.Document.Passes.{PartName}
use Rattle.rules.specs.Document.Numbers.{refusal_number, refusal_place, verdict_number, verdict_place, fault, Verdict}
use Rattle.rules.specs.Document.Calls.{Result, refused, accepted, coding, Portion, serving, level_places, Picture, decoding, filled, Decoded, Served, Coded}
use Rattle.rules.specs.Document.Calls.{code_out, code_answer, serve_out, serve_answer, decode_out, decode_answer, Coding, Serving, Decoding}
use Rattle.rules.specs.Promises.Vocabulary.{among, coding_numbers, serving_numbers, decoding_numbers, Exactly}
use Rattle.rules.specs.Promises.Refusals.{HeaderCase, HEAD, LONGFORM, VERSION, HEAD-later, LONGFORM-later, SIZE, PartCase, PART-malformed, PART, PAD}
use Rattle.rules.specs.Promises.Refusals.{Walk, MORE, FAULT, CodingCase, LENGTH, WORK, RANGE, ROOM, CODED, ServingCase, HEADER, ASK, PARTS, SERVED}
use Rattle.rules.specs.Promises.Refusals.{DecodingCase, FIT, CUT-FIT, DECODED}
use Rattle.rules.proofs.Laws.Calls.Results.{refusal_some}
use Rattle.rules.proofs.Laws.Calls.Cases.{coding_case, coding_is, serving_case, serving_is, decoding_case, decoding_is}
use Rattle.rules.specs.Laws.Calls.Refused.{verdict_of}

-- Number and place tell refusals apart: of those with this place it is the one with this number.
with_number : ℕ → List Refusal → Refusal
with_number n [] = refusal.Size
with_number n (r ∷ rs) = cond (eqb (refusal_number r) n) r (with_number n rs)

refusal_of : ℕ → ℕ → Refusal
refusal_of n at =
    with_number n (
    refusal.Size ∷ refusal.Length ∷ refusal.Work ∷ refusal.Range at ∷ refusal.Room ∷ refusal.Head at ∷ refusal.Version ∷ refusal.Part at ∷ refusal.Pad at
    ∷ refusal.Fit at ∷ refusal.Ask ∷ refusal.LongForm at ∷ refusal.Grey ∷ refusal.Mixed ∷ refusal.Clash at ∷ []
    )

refusal_told : (r : Refusal) → refusal_of (refusal_number r) (refusal_place r) ≡ r
unfolding with_number refusal_of
refusal_told refusal.Size = refl
refusal_told refusal.Length = refl
refusal_told refusal.Work = refl
refusal_told (refusal.Range i) = refl
refusal_told refusal.Room = refl
refusal_told (refusal.Head i) = refl
refusal_told refusal.Version = refl
refusal_told (refusal.Part i) = refl
refusal_told (refusal.Pad i) = refl
refusal_told (refusal.Fit i) = refl
refusal_told refusal.Ask = refl
refusal_told (refusal.LongForm i) = refl
refusal_told refusal.Grey = refl
refusal_told refusal.Mixed = refl
refusal_told (refusal.Clash i) = refl

module _ {X : Type 0} where
  told_refused : (y : Result X) (r : Refusal) → verdict_number (verdict_of y) ≡ refusal_number r → verdict_place (verdict_of y) ≡ refusal_place r
      → y ≡ refused r
  unfolding verdict_of
  told_refused (refused q) r n at = ap refused (sym (refusal_told q) ∙ ap₂ refusal_of n at ∙ refusal_told r)
  told_refused (accepted x) r n at = absurd (omega (arith, refusal_some r))

  told_accepted : (y : Result X) → verdict_number (verdict_of y) ≡ 0 → (x : X) × (y ≡ accepted x)
  unfolding verdict_of
  told_accepted (refused r) n = absurd (omega (arith, refusal_some r))
  told_accepted (accepted x) n = (x, refl)

  -- A call whose result has its case, and no other's.
  pub exactly : (Case : Result X → Type 0) (y : Result X) → Case y → ((x : Result X) → Case x → y ≡ x) → (own : List ℕ)
      → among own (verdict_number (verdict_of y)) → (verdict : Verdict) → verdict ≡ verdict_of y → (Refusing : Type 0)
      → ((r : Refusal) → y ≡ refused r → Refusing) → (Accepting : X → Type 0) → ((x : X) → y ≡ accepted x → Accepting x)
      → Exactly Case own verdict Refusing Accepting
  unfolding verdict_of
  exactly Case y c unique own g verdict v Refusing r Accepting a =
      subst (λ u. Exactly Case own u Refusing Accepting) (sym v)
      (record {
        refuses = λ q. (λ e. subst Case (told_refused y q e.0 e.1) c, λ d. rw (unique (refused q) d) (refl, refl));
        accepts = (
          λ e. let x = told_accepted y e.0 in (x.0, subst Case x.1 c),
          λ d. rw (unique (accepted d.0) d.1) (refl, refl),
        );
        gives = g;
        refusing = λ q d. r q (unique (refused q) d);
        accepting = λ x d. a x (unique (accepted x) d);
      })

-- Each routine gives its own numbers only.
pub header_gives : {s : List ℕ} {why : Refusal} (P : ℕ → Type 0) → P 1 → P 6 → P 7 → P 12 → HeaderCase s (Err why) → P (refusal_number why)
header_gives P one six seven twelve (HEAD u) = six
header_gives P one six seven twelve (LONGFORM e) = twelve
header_gives P one six seven twelve (VERSION ns n) = seven
header_gives P one six seven twelve (HEAD-later ns l u) = six
header_gives P one six seven twelve (LONGFORM-later ns l e) = twelve
header_gives P one six seven twelve (SIZE ns n) = one

part_gives : {h : Header} {s : List ℕ} {before : PartName} {place : ℕ} {why : Refusal} (P : ℕ → Type 0) → P 8 → P 9 → P 12
    → PartCase h s before place (Err why) → P (refusal_number why)
part_gives P eight nine twelve (PART-malformed ns l e) = eight
part_gives P eight nine twelve (LONGFORM ns l e) = twelve
part_gives P eight nine twelve (PART r n) = eight
part_gives P eight nine twelve (PAD r l w q) = nine

pub parts_gives : {h : Header} {s : List ℕ} {before : PartName} {place : ℕ} {ps : List Part} {why : Refusal} (P : ℕ → Type 0) → P 8 → P 9 → P 12
    → Walk h s before place ps (fault why) → P (refusal_number why)
parts_gives P eight nine twelve (MORE c w) = parts_gives P eight nine twelve w
parts_gives P eight nine twelve (FAULT c) = part_gives P eight nine twelve c

coding_gives : {pyramid : List ℤ} {z : Size} {room work : ℕ} {y : Result (List ℕ)} → CodingCase pyramid z room work y
    → among coding_numbers (verdict_number (verdict_of y))
unfolding verdict_of any
coding_gives (SIZE n) = refl
coding_gives (LENGTH Z n) = refl
coding_gives (WORK Z L k) = refl
coding_gives (RANGE Z L K f) = refl
coding_gives (ROOM Z L K R l) = refl
coding_gives (CODED Z L K R l) = refl

serving_gives : {s : List ℕ} {r p room : ℕ} {y : Result Portion} → ServingCase s r p room y → among serving_numbers (verdict_number (verdict_of y))
unfolding verdict_of any
serving_gives (HEADER c) = header_gives (among serving_numbers) refl refl refl refl c
serving_gives (ASK c n) = refl
serving_gives (PARTS c a w) = parts_gives (among serving_numbers) refl refl refl w
serving_gives (ROOM c a w l) = refl
serving_gives (SERVED c a w l) = refl

decoding_gives : {s : List ℕ} {room work : ℕ} {y : Result Picture} → DecodingCase s room work y
    → among decoding_numbers (verdict_number (verdict_of y))
unfolding verdict_of any
decoding_gives (HEADER c) = header_gives (among decoding_numbers) refl refl refl refl c
decoding_gives (LENGTH c n) = refl
decoding_gives (WORK c L k) = refl
decoding_gives (PARTS c L K w f) = parts_gives (among decoding_numbers) refl refl refl w
decoding_gives (FIT c L K w f) = refl
decoding_gives (CUT-FIT c L K w f u l) = refl
decoding_gives (DECODED c L K w f t) = refl

pub code_verdict : (y : Result (List ℕ)) → (code_answer y).verdict ≡ verdict_of y
unfolding code_answer verdict_of
code_verdict (refused r) = refl
code_verdict (accepted bytes) = refl

-- "Refused: output slice all 0. Accepted: number and place 0, every coefficient written; for bytes, all after the result 0." "A refusal has 0
-- in all but number and place. Workspace: all 0 after every call."
pub coding_refused : {pyramid : List ℤ} {z : Size} {out work : List ℕ} {answer : Coded} {out' work' : List ℕ}
    → Coding pyramid z out work answer out' work'
    → Exactly (CodingCase pyramid z (length out) (length work)) coding_numbers answer.verdict
    ((answer.length ≡ 0) × (out' ≡ zeros (length out)) × (work' ≡ zeros (length work)))
    (λ bytes. (answer.length ≡ length bytes) × (out' ≡ bytes ++ zeros (length out - length bytes)) × (work' ≡ zeros (length work)))
unfolding code_answer code_out filled verdict_of
coding_refused {pyramid = pyramid} {z = z} {out = out} {work = work} {answer = answer} x =
    let y : Result (List ℕ) = coding pyramid z (length out) (length work) in
    let c : CodingCase pyramid z (length out) (length work) y = coding_case pyramid z (length out) (length work) in
    exactly (CodingCase pyramid z (length out) (length work)) y c (coding_is pyramid z (length out) (length work)) coding_numbers (coding_gives c)
    answer.verdict (ap (λ a. a.verdict) x.answers ∙ code_verdict y)
    _ (λ r e. (ap (λ a. a.length) (x.answers ∙ ap code_answer e), x.writes ∙ ap (code_out (length out)) e, x.clears))
    _ (λ bytes e. (ap (λ a. a.length) (x.answers ∙ ap code_answer e), x.writes ∙ ap (code_out (length out)) e, x.clears))

pub serving_refused : {s : List ℕ} {r p : ℕ} {out : List ℕ} {answer : Served} {out' : List ℕ} → Serving s r p out answer out'
    → Exactly (ServingCase s r p (length out)) serving_numbers answer.verdict
    ((answer.length ≡ 0) × (answer.tail ≡ 0) × (out' ≡ zeros (length out)))
    (λ x. (answer.length ≡ length x.bytes) × (answer.tail ≡ x.tail) × (out' ≡ x.bytes ++ zeros (length out - length x.bytes)))
unfolding serve_answer serve_out filled verdict_of
serving_refused {s = s} {r = r} {p = p} {out = out} {answer = answer} x =
    let y : Result Portion = serving s r p (length out) in
    let c : ServingCase s r p (length out) y = serving_case s r p (length out) in
    exactly (ServingCase s r p (length out)) y c (serving_is s r p (length out)) serving_numbers (serving_gives c)
    answer.verdict (ap (λ a. a.verdict) x.answers ∙ verdict y)
    _ (λ r e. let a = x.answers ∙ ap serve_answer e in (ap (λ a. a.length) a, ap (λ a. a.tail) a, x.writes ∙ ap (serve_out (length out)) e))
    _ (λ q e. let a = x.answers ∙ ap serve_answer e in (ap (λ a. a.length) a, ap (λ a. a.tail) a, x.writes ∙ ap (serve_out (length out)) e))
  where
    verdict : (y : Result Portion) → (serve_answer y).verdict ≡ verdict_of y
    verdict (refused r) = refl
    verdict (accepted x) = refl

pub decoding_refused : {s : List ℕ} {out : List ℤ} {work : List ℕ} {answer : Decoded} {out' : List ℤ} {work' : List ℕ}
    → Decoding s out work answer out' work'
    → Exactly (DecodingCase s (length out) (length work)) decoding_numbers answer.verdict
    ((answer.tail ≡ 0) × (answer.reached ≡ replicate level_places (record { 0 = 0 })) × (answer.skipped ≡ zeros level_places)
    × (out' ≡ replicate (length out) (pos 0)) × (work' ≡ zeros (length work)))
    (λ x. (answer.tail ≡ x.tail) × (answer.reached ≡ x.reached) × (answer.skipped ≡ x.skipped) × (out' ≡ x.pyramid)
    × (work' ≡ zeros (length work)))
unfolding decode_answer decode_out verdict_of
decoding_refused {s = s} {out = out} {work = work} {answer = answer} {out' = out'} x =
    let y : Result Picture = decoding s (length out) (length work) in
    let c : DecodingCase s (length out) (length work) y = decoding_case s (length out) (length work) in
    exactly (DecodingCase s (length out) (length work)) y c (decoding_is s (length out) (length work)) decoding_numbers (decoding_gives c)
    answer.verdict (ap (λ a. a.verdict) x.answers ∙ verdict y)
    _ (λ r e. let a = x.answers ∙ ap decode_answer e in (ap (λ a. a.tail) a, ap (λ a. a.reached) a, ap (λ a. a.skipped) a, written e, x.clears))
    _ (λ q e. let a = x.answers ∙ ap decode_answer e in (ap (λ a. a.tail) a, ap (λ a. a.reached) a, ap (λ a. a.skipped) a, written e, x.clears))
  where
    written : {y : Result Picture} → decoding s (length out) (length work) ≡ y → out' ≡ decode_out (length out) y
    written e = x.writes ∙ ap (decode_out (length out)) e

    verdict : (y : Result Picture) → (decode_answer y).verdict ≡ verdict_of y
    verdict (refused r) = refl
    verdict (accepted x) = refl
