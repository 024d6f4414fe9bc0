-- "For two selections of one coder's record the join never refuses with room enough, and demand 3 speaks of it." The record may have the coder's number
-- of planes or the earlier one, and each selection may be cut anywhere behind its header.
use Rattle.std.specs.Prelude.{◌≡◌, refl, Bool, true, false, ◌&&◌, ◌||◌, leb, length, take, ℤ}
use Rattle.std.proofs.Math.Path.{ap, ap₂, sym, subst, fun_ext}
use Rattle.std.proofs.Common.{◌∙◌}
use mathlib.Core.List.{List, [], ◌∷◌, ◌++◌, map}
use Rattle.std.proofs.Math.Bool.{cond}
use Prim.Native.Nat.{ℕ, ◌≤◌}
use Rattle.std.proofs.Math.Seq.{take-append_seam}
use Rattle.rules.specs.declared.Size.{Size}
use Rattle.rules.specs.declared.Refusal.TheVariants as refusal
use Rattle.rules.specs.declared.Header.{Header}
use Rattle.rules.specs.Document.Notation.{any, flat}
use Rattle.rules.specs.Document.Pyramid.{legal_size, levels, most_planes}
use Rattle.rules.specs.Document.Passes.{PartName, part_names}
use Rattle.rules.specs.Document.Layout.{header_bytes, CodedPart, part_bytes, parts_with, same_name}
use Rattle.rules.specs.Document.Numbers.{read_parts}
use Rattle.rules.specs.Document.Calls.{accepted, fitted, decoding}
use Rattle.rules.specs.Promises.Vocabulary.{selection, Named, present, header_of, record_bytes, Codable, Stated, PlaneCount, names, kept, whole_in, tail_in}
use Rattle.rules.specs.Promises.Vocabulary.{arrived, Rounded, ReadsAs}
use Rattle.rules.specs.Laws.Counting.Sums.{All}
use Rattle.rules.proofs.Laws.Counting.Sums.{all_then, all_both}
use Rattle.rules.proofs.Laws.Reading.Parts.{all_present, names_named, same_name_lem}
use Rattle.rules.proofs.Laws.Calls.Results.{unless_accepted, accepted_same}
use Rattle.rules.specs.Laws.Serving.Selection.{Held, holds}
use Rattle.rules.proofs.Laws.Bytes.PartBack.{part_name, part_whole}
use Rattle.rules.specs.Laws.Bytes.RecordBack.{before_all}
use Rattle.rules.proofs.Laws.Bytes.RecordBack.{parts_map}
use Rattle.rules.proofs.Laws.Rounding.Arrival.{header_read, parts_stand, arrived_reads, record_reads, arrived_selection, legal_order}
use Rattle.rules.proofs.Laws.Rounding.Run.{kept_legal}
use Rattle.rules.proofs.Laws.Calls.Whole.{demand2_names}
use Rattle.rules.proofs.Laws.Calls.Arrived.{demand3_selection}
use Rattle.joins.specs.Document.Joining.{or_else, joined_part, joined_bytes, joining}
use Rattle.joins.specs.Laws.ByName.{found, held_names, held_bytes, Among, none, this, other, all_names, first}
use Rattle.joins.proofs.Laws.ByName.{by_name, named_found, all_in_order}
use Rattle.joins.specs.Laws.Joined.{part_of, either_of, join_of}
use Rattle.joins.specs.Laws.Joined.{Readable}
use Rattle.joins.proofs.Laws.Joined.{joining_joinable}
use Rattle.joins.specs.Laws.JoinedSelections.{whole_there, in_either}

-- what the coder wrote of a part
abbrev writes : CodedPart → Held
writes p = record { name = p.name; bytes = part_bytes p }

-- What is found of a selection under a name is what is found of all, if it is kept.
found_kept : (keep : PartName → Bool) (ps : List CodedPart) (x : PartName)
    → found (map writes (kept keep ps)) x ≡ cond (keep x) (found (map writes ps) x) []
unfolding found selection
found_kept keep [] x = nothing (keep x)
  where
    nothing : (t : Bool) → ◌≡◌ {A = List ℕ} [] (cond t [] [])
    nothing true = refl
    nothing false = refl
found_kept keep (p ∷ ps) x = by (keep p.name) refl (same_name x p.name) refl (found_kept keep ps x)
  where
    rest : List CodedPart
    rest = kept keep ps

    by : (t : Bool) → keep p.name ≡ t → (u : Bool) → same_name x p.name ≡ u
        → found (map writes rest) x ≡ cond (keep x) (found (map writes ps) x) []
        → found (map writes (cond t (p ∷ rest) rest)) x ≡ cond (keep x) (cond u (part_bytes p) (found (map writes ps) x)) []
    by true e true f r = let k : keep x ≡ true = ap keep (same_name_lem x p.name f) ∙ e in rw (f, k)
    by true e false f r = rw f r
    by false e true f r = let k : keep x ≡ false = ap keep (same_name_lem x p.name f) ∙ e in rw k at r ∙ rw k
    by false e false f r = r

kept_among : (keep : PartName → Bool) (ps : List CodedPart) → Among (held_names (map writes (kept keep ps))) (names ps)
unfolding selection
kept_among keep [] = none
kept_among keep (p ∷ ps) = by (keep p.name) (kept_among keep ps)
  where
    by : (t : Bool) → Among (held_names (map writes (kept keep ps))) (names ps)
        → Among (held_names (map writes (cond t (p ∷ kept keep ps) (kept keep ps)))) (p.name ∷ names ps)
    by true r = this r
    by false r = other r

either_cond : (t u : Bool) (w : List ℕ) → or_else (cond t w []) (cond u w []) ≡ cond (t || u) w []
unfolding or_else
either_cond true u (x ∷ w) = refl
either_cond true true [] = refl
either_cond true false [] = refl
either_cond false u w = refl

either_turned : (t u : Bool) → t || u ≡ u || t
either_turned true true = refl
either_turned true false = refl
either_turned false true = refl
either_turned false false = refl

written_bytes : (ps : List CodedPart) → held_bytes (map writes ps) ≡ flat part_bytes ps
unfolding flat
written_bytes [] = refl
written_bytes (p ∷ ps) = ap (λ l. part_bytes p ++ l) (written_bytes ps)

-- Two records that read as selections of the same parts.
module _ (z : Size) (planes : ℕ) (ok : legal_size z ≡ true) (few : planes ≤ most_planes) (all : List CodedPart)
    (named : names all ≡ part_names (levels z) planes) where
  abbrev h : Header
  h = header_of z planes

  abbrev Reads : (PartName → Bool) → ℕ → List ℕ → Type 0
  Reads keep cut s = ReadsAs z planes (kept keep all) cut s

  reads_readable : (keep : PartName → Bool) (cut : ℕ) (s : List ℕ) → Reads keep cut s → Readable s h
  reads_readable keep cut s r = record { read = header_read r ok few; cut = cut; ending = ap (λ x. x.ending) r.parts_read }

  reads_front : (keep : PartName → Bool) (cut : ℕ) (s : List ℕ) → Reads keep cut s → take h.end s ≡ header_bytes z planes
  reads_front keep cut s r =
      ap (take (length (header_bytes z planes))) r.stand ∙ take-append_seam (header_bytes z planes) (flat part_bytes (kept keep all) ++ r.rest)

  reads_part : (keep : PartName → Bool) (cut : ℕ) (s : List ℕ) → Reads keep cut s → (x : PartName)
      → part_of h s x ≡ cond (keep x) (found (map writes all) x) []
  reads_part keep cut s r x =
      let place : ℕ = length (header_bytes z planes) in
      named_found s (read_parts h s).parts x
      ∙ ap (λ l. found (map (holds s) l) x) (ap (λ y. y.parts) r.parts_read)
      ∙ ap (λ l. found l x)
      (parts_map (holds s) writes s
      (λ at p rest e. ap₂ (λ n w. record { name = n; bytes = w }) (part_name at p) (part_whole s at p rest e))
      place (kept keep all) r.rest (parts_stand r))
      ∙ found_kept keep all x

  module _ (keep₁ keep₂ : PartName → Bool) (cut₁ cut₂ : ℕ) (a b : List ℕ) (r₁ : Reads keep₁ cut₁ a) (r₂ : Reads keep₂ cut₂ b) where
    abbrev both : PartName → Bool
    both x = keep₁ x || keep₂ x

    reads_either : (x : PartName) → either_of h a b x ≡ found (map writes (kept both all)) x
    unfolding joined_part
    reads_either x =
        ap₂ or_else (reads_part keep₁ cut₁ a r₁ x) (reads_part keep₂ cut₂ b r₂ x) ∙ either_cond (keep₁ x) (keep₂ x) (found (map writes all) x)
        ∙ sym (found_kept both all x)

    reads_join : join_of h a b ≡ record_bytes z planes (kept both all)
    unfolding joined_bytes
    reads_join =
        ap₂ (λ l f. l ++ flat f (all_names h)) (reads_front keep₁ cut₁ a r₁) (fun_ext reads_either)
        ∙ ap (λ l. header_bytes z planes ++ l)
        (sym (by_name (all_names h) (first h) (all_in_order h) (map writes (kept both all)) (subst (Among _) named (kept_among both all)))
        ∙ written_bytes (kept both all))

    pub join_read : (room : ℕ) → joining a b room ≡ fitted (record_bytes z planes (kept (λ x. keep₁ x || keep₂ x) all)) room
    unfolding joined_part
    join_read room =
        joining_joinable
        (record {
          one = reads_readable keep₁ cut₁ a r₁;
          two = reads_readable keep₂ cut₂ b r₂;
          front = reads_front keep₁ cut₁ a r₁ ∙ sym (reads_front keep₂ cut₂ b r₂);
          agree = λ x.
              let w : List ℕ = found (map writes all) x in
              let e₁ = reads_part keep₁ cut₁ a r₁ x in
              let e₂ = reads_part keep₂ cut₂ b r₂ x in
              ap₂ or_else e₁ e₂ ∙ either_cond (keep₁ x) (keep₂ x) w ∙ ap (λ t. cond t w []) (either_turned (keep₁ x) (keep₂ x))
              ∙ sym (ap₂ or_else e₂ e₁ ∙ either_cond (keep₂ x) (keep₁ x) w);
        })
        room
        ∙ ap (λ l. fitted l room) reads_join

-- The parts that are there of a selection tell it.
present_kept : (keep : PartName → Bool) (ps : List CodedPart) (x : PartName) → present (names (kept keep ps)) x ≡ keep x && present (names ps) x
unfolding present any selection
present_kept keep [] x = nothing (keep x)
  where
    nothing : (t : Bool) → false ≡ t && false
    nothing true = refl
    nothing false = refl
present_kept keep (p ∷ ps) x = by (keep p.name) refl (same_name x p.name) refl (present_kept keep ps x)
  where
    rest : List CodedPart
    rest = kept keep ps

    by : (t : Bool) → keep p.name ≡ t → (u : Bool) → same_name x p.name ≡ u → present (names rest) x ≡ keep x && present (names ps) x
        → present (names (cond t (p ∷ rest) rest)) x ≡ keep x && (u || any (same_name x) (names ps))
    by true e true f r = let k : keep x ≡ true = ap keep (same_name_lem x p.name f) ∙ e in rw (f, k)
    by true e false f r = rw f r
    by false e true f r = let k : keep x ≡ false = ap keep (same_name_lem x p.name f) ∙ e in rw k at r ∙ rw k
    by false e false f r = r

kept_same : (t u : PartName → Bool) (ps : List CodedPart) → All (λ x. t x ≡ u x) (names ps) → kept t ps ≡ kept u ps
unfolding selection All
kept_same t u [] a = refl
kept_same t u (p ∷ ps) a = ap₂ (λ b l. cond b (p ∷ l) l) a.0 (kept_same t u ps a.1)

and-true : (t : Bool) → t && true ≡ t
and-true true = refl
and-true false = refl

module _ {z : Size} {pyramid : List ℤ} (c : Codable z pyramid) {planes : ℕ} (count : PlaneCount pyramid planes) where
  abbrev all : List CodedPart
  all = parts_with z planes pyramid

  all_there : All (λ x. present (names all) x ≡ true) (names all)
  all_there =
      subst (λ l. All (λ x. present l x ≡ true) l) (sym (demand2_names z planes pyramid))
      (all_then (Named (levels z) planes) _ (part_names (levels z) planes) (all_present (levels z) planes) (names_named (levels z) planes))

  -- What is whole in a selection that was cut is a selection too.
  record Left (keep : PartName → Bool) (n : ℕ) : Type 0 where
    pub left : PartName → Bool
    pub same : All (λ x. left x ≡ whole_there all keep n x) (names all)
    pub reads : ReadsAs z planes (kept left all) (tail_in n (kept keep all)) (arrived z planes (kept keep all) n)

  left_of : (keep : PartName → Bool) (n : ℕ) → Left keep n
  left_of keep n =
      let ok = kept_legal z c.legal_size_lem planes pyramid keep in
      let some : (left : PartName → Bool) × (kept left all ≡ whole_in n (kept keep all))
      = arrived_selection keep n (before_all planes) all (legal_order (header_of z planes) (before_all planes) (kept keep all) ok) in
      record {
        left = some.0;
        same = all_then _ _ (names all)
            (λ x e. sym (ap (λ l. present (names l) x) (sym some.1) ∙ present_kept some.0 all x ∙ rw e (and-true (some.0 x)))) all_there;
        reads = subst (λ l. ReadsAs z planes l (tail_in n (kept keep all)) (arrived z planes (kept keep all) n)) (sym some.1)
            (arrived_reads z planes (kept keep all) c.legal_size_lem count.few ok n);
      }

  -- The join of two, each cut so many bytes behind its header, or not at all if it has no more: the record of what is whole in either.
  pub join_selections : (keep₁ keep₂ : PartName → Bool) (n₁ n₂ room : ℕ)
      → joining (arrived z planes (kept keep₁ (parts_with z planes pyramid)) n₁) (arrived z planes (kept keep₂ (parts_with z planes pyramid)) n₂) room
      ≡ fitted (record_bytes z planes (in_either (parts_with z planes pyramid) keep₁ n₁ keep₂ n₂)) room
  join_selections keep₁ keep₂ n₁ n₂ room =
      let l₁ = left_of keep₁ n₁ in
      let l₂ = left_of keep₂ n₂ in
      join_read z planes c.legal_size_lem count.few all (demand2_names z planes pyramid) l₁.left l₂.left _ _ _ _ l₁.reads l₂.reads room
      ∙ ap (λ l. fitted (record_bytes z planes l) room)
      (kept_same _ _ all (all_then _ _ (names all) (λ x e. ap₂ ◌||◌ e.0 e.1) (all_both _ _ (names all) l₁.same l₂.same)))

  -- Not cut.
  pub join_whole_selections : (keep₁ keep₂ : PartName → Bool) (room : ℕ)
      → joining (record_bytes z planes (kept keep₁ (parts_with z planes pyramid))) (record_bytes z planes (kept keep₂ (parts_with z planes pyramid))) room
      ≡ fitted (record_bytes z planes (kept (λ x. keep₁ x || keep₂ x) (parts_with z planes pyramid))) room
  join_whole_selections keep₁ keep₂ room =
      let reads : (keep : PartName → Bool) → ReadsAs z planes (kept keep all) 0 (record_bytes z planes (kept keep all))
      = λ keep. record_reads z planes (kept keep all) c.legal_size_lem count.few (kept_legal z c.legal_size_lem planes pyramid keep) in
      join_read z planes c.legal_size_lem count.few all (demand2_names z planes pyramid) keep₁ keep₂ 0 0 _ _ (reads keep₁) (reads keep₂) room

  -- Demand 3 of what was joined: it decodes to each coefficient rounded by what the parts in either reach.
  pub demand3_joined : (keep₁ keep₂ : PartName → Bool) (n₁ n₂ out : ℕ) (j : List ℕ)
      → joining (arrived z planes (kept keep₁ (parts_with z planes pyramid)) n₁) (arrived z planes (kept keep₂ (parts_with z planes pyramid)) n₂) out
      ≡ accepted j
      → (room work : ℕ) → Stated z room work
      → Rounded z planes pyramid (names (in_either (parts_with z planes pyramid) keep₁ n₁ keep₂ n₂)) [] 0 (decoding j room work)
  unfolding fitted
  demand3_joined keep₁ keep₂ n₁ n₂ out j e room work sizes =
      let u = unless_accepted (leb (length (record_bytes z planes (in_either all keep₁ n₁ keep₂ n₂))) out) refusal.Room _ j
      (sym (join_selections keep₁ keep₂ n₁ n₂ out) ∙ e) in
      subst (λ s. Rounded z planes pyramid (names (in_either all keep₁ n₁ keep₂ n₂)) [] 0 (decoding s room work)) (accepted_same u.1)
      (demand3_selection c count room work sizes (λ x. whole_there all keep₁ n₁ x || whole_there all keep₂ n₂ x))
