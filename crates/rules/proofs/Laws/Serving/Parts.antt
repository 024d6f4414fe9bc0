-- Serving bytes that read as parts of a record, whole or cut: it writes the header and just those of the parts that are asked for, unaltered.
use Rattle.std.specs.Prelude.{◌≡◌, refl, List, [], ◌∷◌, ◌++◌, Bool, true, false, cond, ℕ, ◌+◌, ◌≤◌, leb, length, take, drop}
use Rattle.std.proofs.Common.{ap, ap₂, sym, ◌∙◌, append_assoc}
use Rattle.std.proofs.Math.Seq.{take-append_seam}
use Rattle.rules.specs.declared.Size.{Size}
use Rattle.rules.specs.declared.Refusal.TheVariants as refusal
use Rattle.rules.specs.declared.Part.{Part}
use Rattle.rules.specs.Document.Notation.{flat}
use Rattle.rules.specs.Document.Pyramid.{legal_size, most_planes}
use Rattle.rules.specs.Document.Passes.{PartName}
use Rattle.rules.specs.Document.Layout.{header_bytes, CodedPart, part_bytes, whole_of, name_of}
use Rattle.rules.specs.Document.Calls.{accepted, unless, on_header, on_ending, legal_ask, kept_of, served_bytes, Portion, portioned, serving}
use Rattle.rules.proofs.Laws.Calls.Results.{unless_accepted, accepted_same}
use Rattle.rules.proofs.Laws.Bytes.PartBack.{part_name, part_whole, next_stands}
use Rattle.rules.specs.Promises.Vocabulary.{header_of, part_at, record_bytes, parts_at, selection, kept, asked, ReadsAs}
use Rattle.rules.proofs.Laws.Rounding.Arrival.{header_read, parts_stand}

-- Of parts one behind the other in s: where f takes all of a part that the test keeps and nothing of another, it takes the bytes of those kept.
pub kept_wholes : (keep : PartName → Bool) (s : List ℕ) (f : Part → List ℕ)
    → ((q : Part) → f q ≡ cond (keep (name_of q)) (whole_of s q) []) → (place : ℕ) (ps : List CodedPart) (rest : List ℕ)
    → drop place s ≡ flat part_bytes ps ++ rest → flat f (parts_at place ps) ≡ flat part_bytes (kept keep ps)
unfolding flat parts_at selection
kept_wholes keep s f each place [] rest stands = refl
kept_wholes keep s f each place (q ∷ ps) rest stands =
    let this : drop place s ≡ part_bytes q ++ (flat part_bytes ps ++ rest) = stands ∙ append_assoc (part_bytes q) (flat part_bytes ps) rest in
    let one : f (part_at place q) ≡ cond (keep q.name) (part_bytes q) []
    = each (part_at place q) ∙ ap₂ (λ n x. cond (keep n) x []) (part_name place q) (part_whole s place q (flat part_bytes ps ++ rest) this) in
    ap₂ (λ x y. x ++ y) one
    (kept_wholes keep s f each (place + length (part_bytes q)) ps rest (next_stands s place q (flat part_bytes ps ++ rest) this))
    ∙ by (keep q.name)
  where
    by : (b : Bool) → cond b (part_bytes q) [] ++ flat part_bytes (kept keep ps) ≡ flat part_bytes (cond b (q ∷ kept keep ps) (kept keep ps))
    by true = refl
    by false = refl

asked_whole : (s : List ℕ) (r p : ℕ) (q : Part) → kept_of s r p q ≡ cond (asked r p (name_of q)) (whole_of s q) []
unfolding kept_of name_of
asked_whole s r p q = refl

pub serves_read : {z : Size} {planes : ℕ} {ps : List CodedPart} {cut : ℕ} {bytes : List ℕ} → ReadsAs z planes ps cut bytes → legal_size z ≡ true
    → planes ≤ most_planes → (r p room : ℕ)
    → serving bytes r p room
    ≡ unless (legal_ask (header_of z planes) r p) refusal.Ask (portioned (record_bytes z planes (kept (asked r p) ps)) cut room)
unfolding serving on_header on_ending served_bytes
serves_read {z} {planes} {ps} {cut} {bytes} read ok l r p room =
    let front : take (length (header_bytes z planes)) bytes ≡ header_bytes z planes
    = ap (take (length (header_bytes z planes))) read.stand ∙ take-append_seam (header_bytes z planes) (flat part_bytes ps ++ read.rest) in
    rw (header_read read ok l, read.parts_read)
    (ap₂ (λ x y. unless (legal_ask (header_of z planes) r p) refusal.Ask (portioned (x ++ y) cut room)) front
    (kept_wholes (asked r p) bytes (kept_of bytes r p) (asked_whole bytes r p) (length (header_bytes z planes)) ps read.rest (parts_stand read)))

pub served_read : {z : Size} {planes : ℕ} {ps : List CodedPart} {cut : ℕ} {bytes : List ℕ} → ReadsAs z planes ps cut bytes → legal_size z ≡ true
    → planes ≤ most_planes → (r p room : ℕ) (x : Portion) → serving bytes r p room ≡ accepted x
    → record { bytes = record_bytes z planes (kept (asked r p) ps); tail = cut } ≡ x
unfolding portioned
served_read {z} {planes} {ps} {cut} {bytes} read ok l r p room x e =
    let a = unless_accepted (legal_ask (header_of z planes) r p) refusal.Ask _ x (sym (serves_read read ok l r p room) ∙ e) in
    accepted_same (unless_accepted (leb (length (record_bytes z planes (kept (asked r p) ps))) room) refusal.Room _ x a.1).1
