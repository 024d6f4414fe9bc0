-- What is joined: two records with one header that agree on the parts they share; and it is a record again, without a tail, that has under each name
-- the part of the first, else that of the second.
use Rattle.std.specs.Prelude.{◌≡◌, ℕ, ◌≤◌, length, take, Ok}
use mathlib.Core.List.{List}
use Rattle.std.proofs.Math.Bool.{true}
use Rattle.rules.specs.declared.Header.{Header}
use Rattle.rules.specs.declared.Part.{Part}
use Rattle.rules.specs.Document.Passes.{PartName}
use Rattle.rules.specs.Document.Layout.{whole_of, name_of, same_name}
use Rattle.rules.specs.Document.Numbers.{tail, read_header, read_parts}
use Rattle.rules.specs.Document.Calls.{accepted, serving}
use Rattle.rules.specs.Laws.Counting.Sums.{All}
use Rattle.joins.specs.Document.Joining.{part_named, joined_part, joined_bytes}

-- the part of a name in a record; in the join of two
abbrev pub part_of : Header → List ℕ → PartName → List ℕ
part_of h s x = part_named s (read_parts h s).parts x

abbrev pub either_of : Header → List ℕ → List ℕ → PartName → List ℕ
either_of h a b x = joined_part a (read_parts h a).parts b (read_parts h b).parts x

abbrev pub join_of : Header → List ℕ → List ℕ → List ℕ
join_of h a b = joined_bytes h a (read_parts h a).parts b (read_parts h b).parts

-- A record that reading accepts: its header, and how long its tail is.
pub record Readable (s : List ℕ) (h : Header) : Type 0 where
  pub read : read_header s ≡ Ok h
  pub cut : ℕ
  pub ending : (read_parts h s).ending ≡ tail cut

-- Two records that can be joined: both have this header, and under each name it is the same which of them comes first.
pub record Joinable (a b : List ℕ) (h : Header) : Type 0 where
  pub one : Readable a h
  pub two : Readable b h
  pub front : take h.end a ≡ take h.end b
  pub agree : (x : PartName) → either_of h a b x ≡ either_of h b a x

-- What joining two records gave: they can be joined, and it is what has all their parts.
pub record IsJoined (a b j : List ℕ) : Type 0 where
  pub head : Header
  pub joinable : Joinable a b head
  pub bytes : j ≡ join_of head a b

-- And what is known of it: it is a record with that header, without a tail; its parts; serving it whole gives it back.
pub record JoinedRecord (a b : List ℕ) (h : Header) (j : List ℕ) : Type 0 where
  pub read : read_header j ≡ Ok h
  pub ending : (read_parts h j).ending ≡ tail 0
  pub front : take h.end j ≡ take h.end a
  pub part : (x : PartName) → part_of h j x ≡ either_of h a b x
  pub served : serving j 1 0 (length j) ≡ accepted (record { bytes = j; tail = 0 })

-- Each part of a record is what is found under its name, and has some bytes.
pub record Own (s : List ℕ) (ps : List Part) (p : Part) : Type 0 where
  pub found : part_named s ps (name_of p) ≡ whole_of s p
  pub some : 1 ≤ length (whole_of s p)

-- A part of the first record, beside those of the second: of another name, or the same bytes.
abbrev pub Agrees : List ℕ → List ℕ → List Part → Part → Type 0
Agrees a b qs p = All (λ q. same_name (name_of p) (name_of q) ≡ true → whole_of a p ≡ whole_of b q) qs
