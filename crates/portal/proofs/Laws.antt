-- An exported call: an answer slice that is too short, and one that takes the answer.
use mathlib.Core.Path.{◌≡◌, ap, subst, ◌∙◌}
use mathlib.Core.List.{List}
use Prim.Native.Nat.{ℕ, ◌≤◌, ◌<◌}
use lib.ListN.{length, replicate}
use lib.IntN.{ℤ, pos}
use borrow.Author.Tests.{le-leb, lt-leb}
use Rattle.rules.specs.declared.Size.{Size}
use Rattle.rules.specs.Document.Notation.{zeros}
use Rattle.rules.specs.Document.Calls.{returned, reported, lent_out, code_places, coding, code_answer, code_numbers, Coding, AfsCode, serve_places, serving}
use Rattle.rules.specs.Document.Calls.{serve_answer, serve_numbers, Serving, AfsServe, decode_places, decoding, decode_answer, decode_numbers}
use Rattle.rules.specs.Document.Calls.{Decoding, AfsDecode, Decoded, Served, Coded}
use Rattle.joins.specs.Document.Joining.{joining, Joining, AfsJoin}
use Rattle.survey.specs.Surveyed.{survey_places, survey_of, survey_numbers, AfsSurvey, Survey}
use Rattle.pictures.specs.Document.Netpbm.{read_file}
use Rattle.pictures.specs.Document.Calls.{grey_in, grey_in_answer, GreyIn, grey_out, grey_out_answer, GreyOut, grey_size, GreySize, GreyWritten, GreyRead}
use Rattle.pictures.specs.Document.Calls.{grey_read_numbers, grey_written_numbers, grey_places, AfsGreyIn, AfsGreyOut, AfsGreySize}
use Rattle.answers.specs.Report.{Reported}

-- What `too_short` leaves.
abbrev TooShort : List ℕ → ℕ → List ℕ → Type 0
TooShort answer n answer' = (n ≡ 5) × (answer' ≡ zeros (length answer))

module _ (places : ℕ) (answer numbers : List ℕ) where
  -- too short: 5, all 0
  returned_short : (n : ℕ) (answer' : List ℕ) → length answer < places → TooShort answer n answer' → n ≡ returned places answer numbers
  unfolding returned
  returned_short n answer' l r = rw (lt-leb places (length answer) l) r.0

  reported_short : (n : ℕ) (answer' : List ℕ) → length answer < places → TooShort answer n answer' → answer' ≡ reported places answer numbers
  unfolding reported
  reported_short n answer' l r = rw (lt-leb places (length answer) l) r.1

  lent_short : {X : Type 0} (out cleared : X) → length answer < places → cleared ≡ lent_out places answer out cleared
  unfolding lent_out
  lent_short out cleared l = rw (lt-leb places (length answer) l)

  -- long enough: the first number, the numbers, what the routine wrote
  returned_long : (n : ℕ) (answer' : List ℕ) → places ≤ length answer → Reported numbers answer n answer' → n ≡ returned places answer numbers
  unfolding returned
  returned_long n answer' l r = rw (le-leb places (length answer) l) r.returns

  reported_long : (n : ℕ) (answer' : List ℕ) → places ≤ length answer → Reported numbers answer n answer' → answer' ≡ reported places answer numbers
  unfolding reported
  reported_long n answer' l r = rw (le-leb places (length answer) l) r.writes

  lent_long : {X : Type 0} (out cleared : X) → places ≤ length answer → out ≡ lent_out places answer out cleared
  unfolding lent_out
  lent_long out cleared l = rw (le-leb places (length answer) l)

module _ (pyramid : List ℤ) (z : Size) (out work answer out' work' answer' : List ℕ) where
  pub code_short : (n : ℕ) → length answer < code_places → out' ≡ zeros (length out) → work' ≡ zeros (length work) → TooShort answer n answer'
      → AfsCode pyramid z out work answer n out' work' answer'
  code_short n l e g r =
      let numbers = code_numbers (code_answer (coding pyramid z (length out) (length work))) in
      record {
        returns = returned_short code_places answer numbers n answer' l r;
        reports = reported_short code_places answer numbers n answer' l r;
        writes = e ∙ lent_short code_places answer numbers _ _ l;
        clears = g;
      }

  pub code_long : (a : Coded) (n : ℕ) → code_places ≤ length answer → Coding pyramid z out work a out' work'
      → {t : List ℕ} → t ≡ code_numbers a → Reported t answer n answer'
      → AfsCode pyramid z out work answer n out' work' answer'
  code_long a n l v f g =
      let r : Reported (code_numbers a) answer n answer' = subst (λ t. Reported t answer n answer') f g in
      let e : code_numbers a ≡ code_numbers (code_answer (coding pyramid z (length out) (length work))) = ap code_numbers v.answers in
      record {
        returns = returned_long code_places answer (code_numbers a) n answer' l r ∙ ap (returned code_places answer) e;
        reports = reported_long code_places answer (code_numbers a) n answer' l r ∙ ap (reported code_places answer) e;
        writes = v.writes ∙ lent_long code_places answer (code_numbers a) _ _ l;
        clears = v.clears;
      }

module _ (s : List ℕ) (level plane : ℕ) (out answer out' answer' : List ℕ) where
  pub serve_short : (n : ℕ) → length answer < serve_places → out' ≡ zeros (length out) → TooShort answer n answer'
      → AfsServe s level plane out answer n out' answer'
  serve_short n l e r =
      let numbers = serve_numbers (serve_answer (serving s level plane (length out))) in
      record {
        returns = returned_short serve_places answer numbers n answer' l r;
        reports = reported_short serve_places answer numbers n answer' l r;
        writes = e ∙ lent_short serve_places answer numbers _ _ l;
      }

  pub serve_long : (a : Served) (n : ℕ) → serve_places ≤ length answer → Serving s level plane out a out'
      → {t : List ℕ} → t ≡ serve_numbers a → Reported t answer n answer'
      → AfsServe s level plane out answer n out' answer'
  serve_long a n l v f g =
      let r : Reported (serve_numbers a) answer n answer' = subst (λ t. Reported t answer n answer') f g in
      let e : serve_numbers a ≡ serve_numbers (serve_answer (serving s level plane (length out))) = ap serve_numbers v.answers in
      record {
        returns = returned_long serve_places answer (serve_numbers a) n answer' l r ∙ ap (returned serve_places answer) e;
        reports = reported_long serve_places answer (serve_numbers a) n answer' l r ∙ ap (reported serve_places answer) e;
        writes = v.writes ∙ lent_long serve_places answer (serve_numbers a) _ _ l;
      }

module _ (a b out answer out' answer' : List ℕ) where
  pub join_short : (n : ℕ) → length answer < code_places → out' ≡ zeros (length out) → TooShort answer n answer' → AfsJoin a b out answer n out' answer'
  join_short n l e r =
      let numbers = code_numbers (code_answer (joining a b (length out))) in
      record {
        returns = returned_short code_places answer numbers n answer' l r;
        reports = reported_short code_places answer numbers n answer' l r;
        writes = e ∙ lent_short code_places answer numbers _ _ l;
      }

  pub join_long : (r : Coded) (n : ℕ) → code_places ≤ length answer → Joining a b out r out' → {t : List ℕ} → t ≡ code_numbers r → Reported t answer n answer'
      → AfsJoin a b out answer n out' answer'
  join_long r n l v f g =
      let t : Reported (code_numbers r) answer n answer' = subst (λ t. Reported t answer n answer') f g in
      let e : code_numbers r ≡ code_numbers (code_answer (joining a b (length out))) = ap code_numbers v.answers in
      record {
        returns = returned_long code_places answer (code_numbers r) n answer' l t ∙ ap (returned code_places answer) e;
        reports = reported_long code_places answer (code_numbers r) n answer' l t ∙ ap (reported code_places answer) e;
        writes = v.writes ∙ lent_long code_places answer (code_numbers r) _ _ l;
      }

module _ (s : List ℕ) (out : List ℤ) (work answer : List ℕ) (out' : List ℤ) (work' answer' : List ℕ) where
  pub decode_short : (n : ℕ) → length answer < decode_places → out' ≡ replicate (length out) (pos 0) → work' ≡ zeros (length work) → TooShort answer n answer'
      → AfsDecode s out work answer n out' work' answer'
  decode_short n l e g r =
      let numbers = decode_numbers (decode_answer (decoding s (length out) (length work))) in
      record {
        returns = returned_short decode_places answer numbers n answer' l r;
        reports = reported_short decode_places answer numbers n answer' l r;
        writes = e ∙ lent_short decode_places answer numbers _ _ l;
        clears = g;
      }

  pub decode_long : (a : Decoded) (n : ℕ) → decode_places ≤ length answer → Decoding s out work a out' work'
      → {t : List ℕ} → t ≡ decode_numbers a → Reported t answer n answer'
      → AfsDecode s out work answer n out' work' answer'
  decode_long a n l v f g =
      let r : Reported (decode_numbers a) answer n answer' = subst (λ t. Reported t answer n answer') f g in
      let e : decode_numbers a ≡ decode_numbers (decode_answer (decoding s (length out) (length work))) = ap decode_numbers v.answers in
      record {
        returns = returned_long decode_places answer (decode_numbers a) n answer' l r ∙ ap (returned decode_places answer) e;
        reports = reported_long decode_places answer (decode_numbers a) n answer' l r ∙ ap (reported decode_places answer) e;
        writes = v.writes ∙ lent_long decode_places answer (decode_numbers a) _ _ l;
        clears = v.clears;
      }

module _ (s answer answer' : List ℕ) where
  pub survey_short : (n : ℕ) → length answer < survey_places → TooShort answer n answer' → AfsSurvey s answer n answer'
  survey_short n l r =
      let numbers = survey_numbers (survey_of s) in
      record {
        returns = returned_short survey_places answer numbers n answer' l r;
        reports = reported_short survey_places answer numbers n answer' l r;
      }

  pub survey_long : (a : Survey) (n : ℕ) → survey_places ≤ length answer → a ≡ survey_of s → {t : List ℕ} → t ≡ survey_numbers a → Reported t answer n answer'
      → AfsSurvey s answer n answer'
  survey_long a n l v f g =
      let r : Reported (survey_numbers a) answer n answer' = subst (λ t. Reported t answer n answer') f g in
      let e : survey_numbers a ≡ survey_numbers (survey_of s) = ap survey_numbers v in
      record {
        returns = returned_long survey_places answer (survey_numbers a) n answer' l r ∙ ap (returned survey_places answer) e;
        reports = reported_long survey_places answer (survey_numbers a) n answer' l r ∙ ap (reported survey_places answer) e;
      }

-- Grey pictures.
module _ (file : List ℕ) (m : ℕ) (out : List ℤ) (work answer : List ℕ) (out' : List ℤ) (work' answer' : List ℕ) where
  pub in_short : (n : ℕ) → length answer < grey_places → out' ≡ replicate (length out) (pos 0) → work' ≡ zeros (length work) → TooShort answer n answer'
      → AfsGreyIn file m out work answer n out' work' answer'
  in_short n l e g r =
      let numbers = grey_read_numbers (grey_in_answer (grey_in file m (length out) (length work))) in
      record {
        returns = returned_short grey_places answer numbers n answer' l r;
        reports = reported_short grey_places answer numbers n answer' l r;
        writes = e ∙ lent_short grey_places answer numbers _ _ l;
        clears = g;
      }

  pub in_long : (a : GreyRead) (n : ℕ) → grey_places ≤ length answer → GreyIn file m out work a out' work'
      → {t : List ℕ} → t ≡ grey_read_numbers a → Reported t answer n answer'
      → AfsGreyIn file m out work answer n out' work' answer'
  in_long a n l v f g =
      let r : Reported (grey_read_numbers a) answer n answer' = subst (λ t. Reported t answer n answer') f g in
      let e : grey_read_numbers a ≡ grey_read_numbers (grey_in_answer (grey_in file m (length out) (length work))) = ap grey_read_numbers v.answers in
      record {
        returns = returned_long grey_places answer (grey_read_numbers a) n answer' l r ∙ ap (returned grey_places answer) e;
        reports = reported_long grey_places answer (grey_read_numbers a) n answer' l r ∙ ap (reported grey_places answer) e;
        writes = v.writes ∙ lent_long grey_places answer (grey_read_numbers a) _ _ l;
        clears = v.clears;
      }

module _ (pyramid : List ℤ) (z : Size) (out work answer out' work' answer' : List ℕ) where
  pub out_short : (n : ℕ) → length answer < grey_places → out' ≡ zeros (length out) → work' ≡ zeros (length work) → TooShort answer n answer'
      → AfsGreyOut pyramid z out work answer n out' work' answer'
  out_short n l e g r =
      let numbers = grey_written_numbers (grey_out_answer (grey_out pyramid z (length out) (length work))) in
      record {
        returns = returned_short grey_places answer numbers n answer' l r;
        reports = reported_short grey_places answer numbers n answer' l r;
        writes = e ∙ lent_short grey_places answer numbers _ _ l;
        clears = g;
      }

  pub out_long : (a : GreyWritten) (n : ℕ) → grey_places ≤ length answer → GreyOut pyramid z out work a out' work'
      → {t : List ℕ} → t ≡ grey_written_numbers a → Reported t answer n answer' → AfsGreyOut pyramid z out work answer n out' work' answer'
  out_long a n l v f g =
      let r : Reported (grey_written_numbers a) answer n answer' = subst (λ t. Reported t answer n answer') f g in
      let e : grey_written_numbers a ≡ grey_written_numbers (grey_out_answer (grey_out pyramid z (length out) (length work)))
      = ap grey_written_numbers v.answers in
      record {
        returns = returned_long grey_places answer (grey_written_numbers a) n answer' l r ∙ ap (returned grey_places answer) e;
        reports = reported_long grey_places answer (grey_written_numbers a) n answer' l r ∙ ap (reported grey_places answer) e;
        writes = v.writes ∙ lent_long grey_places answer (grey_written_numbers a) _ _ l;
        clears = v.clears;
      }

module _ (file answer answer' : List ℕ) where
  pub size_short : (n : ℕ) → length answer < grey_places → TooShort answer n answer' → AfsGreySize file answer n answer'
  size_short n l r =
      let numbers = grey_read_numbers (grey_size (read_file file)) in
      record {
        returns = returned_short grey_places answer numbers n answer' l r;
        reports = reported_short grey_places answer numbers n answer' l r;
      }

  pub size_long : (a : GreyRead) (n : ℕ) → grey_places ≤ length answer → GreySize file a → {t : List ℕ} → t ≡ grey_read_numbers a → Reported t answer n answer'
      → AfsGreySize file answer n answer'
  size_long a n l v f g =
      let r : Reported (grey_read_numbers a) answer n answer' = subst (λ t. Reported t answer n answer') f g in
      let e : grey_read_numbers a ≡ grey_read_numbers (grey_size (read_file file)) = ap grey_read_numbers v.answers in
      record {
        returns = returned_long grey_places answer (grey_read_numbers a) n answer' l r ∙ ap (returned grey_places answer) e;
        reports = reported_long grey_places answer (grey_read_numbers a) n answer' l r ∙ ap (reported grey_places answer) e;
      }
