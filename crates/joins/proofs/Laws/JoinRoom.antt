-- Room for both records is always enough for their join.
use Rattle.std.specs.Prelude.{◌≡◌, refl, List, [], ◌∷◌, ◌≢◌, ℕ, ◌+◌, ◌-◌, ◌≤◌, length, take}
use Rattle.std.proofs.Common.{ap, sym, ◌∙◌, subst, arith, length-append, length-take, length-take-le}
use Rattle.rules.specs.declared.Refusal.{Refusal}
use Rattle.rules.specs.declared.Refusal.TheVariants as refusal
use Rattle.rules.specs.declared.Header.{Header}
use Rattle.rules.specs.declared.Part.{Part}
use Rattle.rules.specs.Document.Notation.{flat}
use Rattle.rules.specs.Document.Passes.{PartName}
use Rattle.rules.specs.Document.Layout.{whole_of}
use Rattle.rules.specs.Document.Numbers.{refusal_number, tail, read_parts}
use Rattle.rules.specs.Document.Calls.{refused}
use Rattle.rules.proofs.Laws.Reading.Stands.{read_header_stands, header_within}
use Rattle.rules.proofs.Laws.Reading.PartCases.{header_is}
use Rattle.rules.proofs.Laws.Calls.Cases.{parts_of_lem}
use Rattle.rules.proofs.Laws.Calls.Refused.{header_gives, parts_gives}
use Rattle.rules.proofs.Laws.Serving.Served.{record_whole}
use Rattle.joins.specs.Document.Joining.{or_else, joined_part, joined_bytes, joining}
use Rattle.joins.specs.Laws.ByName.{all_names}
use Rattle.joins.proofs.Laws.ByName.{record_by_name}
use Rattle.joins.specs.Laws.Joined.{part_of, join_of}
use Rattle.joins.specs.Laws.Joined.{Readable}
use Rattle.joins.proofs.Laws.Joined.{same_header}
use Rattle.joins.specs.Laws.JoinCauses.{ReadingCase, HEADER, PARTS, Reads, JoiningCase, FIRST, SECOND, ROOM}
use Rattle.joins.proofs.Laws.JoinRefusals.{joining_case}

either_length : (u v : List ℕ) → length (or_else u v) ≤ length u + length v
unfolding or_else
either_length [] v = omega arith
either_length (x ∷ u) v = omega arith

flat_either : (f g : PartName → List ℕ) (ns : List PartName)
    → length (flat (λ x. or_else (f x) (g x)) ns) ≤ length (flat f ns) + length (flat g ns)
unfolding flat
flat_either f g [] = omega arith
flat_either f g (x ∷ ns) =
    omega (
      arith,
      flat_either f g ns,
      either_length (f x) (g x),
      length-append (or_else (f x) (g x)) (flat (λ x. or_else (f x) (g x)) ns),
      length-append (f x) (flat f ns),
      length-append (g x) (flat g ns),
    )

-- A record's header and parts are within it.
parts_length : (h : Header) (s : List ℕ) → Readable s h → h.end + length (flat (part_of h s) (all_names h)) ≤ length s
parts_length h s r =
    let within : h.end ≤ length s = header_within (read_header_stands s h r.read) in
    let whole = ap length (record_whole s h r.cut within r.ending) in
    omega (
      arith,
      ap length (record_by_name h s),
      whole,
      length-append (take h.end s) (flat (whole_of s) (read_parts h s).parts),
      length-take-le h.end s within,
      length-take (length s - r.cut) s,
    )

pub joined_length : (h : Header) (a b : List ℕ) → Readable a h → Readable b h → length (join_of h a b) ≤ length a + length b
unfolding joined_bytes joined_part
joined_length h a b r q =
    omega (
      arith,
      flat_either (part_of h a) (part_of h b) (all_names h),
      parts_length h a r,
      parts_length h b q,
      length-append (take h.end a) (flat (λ x. or_else (part_of h a x) (part_of h b x)) (all_names h)),
      length-take-le h.end a (header_within (read_header_stands a h r.read)),
    )

-- So it is never refused with 5.
reading_other : {s : List ℕ} {why : Refusal} → ReadingCase s why → refusal_number why ≢ 5
reading_other (HEADER c) =
    header_gives (λ n. n ≢ 5) (λ e. omega arith) (λ e. omega arith) (λ e. omega arith) (λ e. omega arith) c
reading_other (PARTS c w) = parts_gives (λ n. n ≢ 5) (λ e. omega arith) (λ e. omega arith) (λ e. omega arith) w

reads_readable : {s : List ℕ} {h : Header} {ps : List Part} → Reads s h ps → Readable s h × (ps ≡ (read_parts h s).parts)
reads_readable {s} {h} {ps} r =
    let e = parts_of_lem s h ps (tail r.cut) r.headed r.walked in
    (record { read = header_is s _ r.headed; cut = r.cut; ending = ap (λ x. x.ending) e }, sym (ap (λ x. x.parts) e))

pub join_room : (a b : List ℕ) (room : ℕ) → length a + length b ≤ room → joining a b room ≢ refused refusal.Room
join_room a b room l e = by (subst (JoiningCase a b room) e (joining_case a b room))
  where
    by : JoiningCase a b room (refused refusal.Room) → ⊥
    by (FIRST c) = reading_other c refl
    by (SECOND r c) = reading_other c refl
    by (ROOM {h = h} {g = g} {ps = ps} {qs = qs} r q same c short) =
        let ra = reads_readable r in
        let rb = reads_readable q in
        let one : g ≡ h = sym (same_header ra.0 rb.0 same) in
        let most : length (join_of h a b) ≤ length a + length b = joined_length h a b ra.0 (subst (Readable b) one rb.0) in
        let ps-are : ps ≡ (read_parts h a).parts = ra.1 in
        let qs-are : qs ≡ (read_parts h b).parts = rb.1 ∙ ap (λ k. (read_parts k b).parts) one in
        omega (arith, ap (λ x. length (joined_bytes h a x b qs)) ps-are, ap (λ x. length (joined_bytes h a (read_parts h a).parts b x)) qs-are)
