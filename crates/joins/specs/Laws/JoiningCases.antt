-- Joins of what is left of document 01's record where a request or a link leaves some parts out, and each refusal: one table, and one claim about all
-- its rows, by computation. Of a join the answer that its export writes and the output are stated; the records are those of rules' Cases.
use Rattle.std.specs.Prelude.{List, [], ◌∷◌, ◌++◌, ℕ, take, set}
use Rattle.rules.specs.Document.Notation.{zeros}
use Rattle.rules.specs.Promises.Cases.{thirty, served_at_two, served_to_plane_one, without12, without11, pad_set, five_bytes, five_before, Shown, Row}
use Rattle.rules.specs.Promises.Cases.{◌is◌, coded_as}
use Rattle.rules.specs.Promises.Cases.{bytes, opens_example, opens_others, opens_five}
use Rattle.joins.specs.Document.Joining.{same_bytes, part_named, or_else, joined_part, joined_bytes, clashes, unless_clash, on_record, joining}

-- Opening this opens the definitions of Document.
unfoldable pub opens_joining : Unit {0}
unfolding same_bytes part_named or_else joined_part joined_bytes clashes unless_clash on_record joining
opens_joining = tt

abbrev joins : List ℕ → List ℕ → ℕ → Shown
joins a b room = coded_as room (joining a b room)

abbrev whole : List ℕ → ℕ → Shown
whole s n = bytes (0 ∷ 0 ∷ n ∷ []) s

abbrev refuses : ℕ → ℕ → ℕ → Shown
refuses number place room = bytes (number ∷ place ∷ 0 ∷ []) (zeros room)

-- Part (0, 1) left out; one bit of the first part, or of its last, otherwise; no part and another number of planes.
unfoldable pub without01 : List ℕ
unfolding thirty
without01 = take 25 thirty

unfoldable pub first_other : List ℕ
unfolding thirty
first_other = set thirty 8 0x40

unfoldable pub last_other : List ℕ
unfolding thirty
last_other = set thirty 28 0x0D

unfoldable pub empty_other : List ℕ
empty_other = 0x01 ∷ 0x04 ∷ 0x04 ∷ 0x01 ∷ 0x02 ∷ []

unfoldable pub opens_records : Unit {0}
unfolding opens_example opens_others opens_five without01 first_other last_other empty_other
opens_records = tt

unfoldable pub table : List Row
table =
    -- served for (2, 0) and for (1, 1), in either order; with itself, with just the room and with a byte less
    (joins served_at_two served_to_plane_one 25 is whole without01 25)
    ∷ (joins served_to_plane_one served_at_two 27 is whole (without01 ++ zeros 2) 25)
    ∷ (joins thirty thirty 30 is whole thirty 30)
    ∷ (joins thirty thirty 29 is refuses 5 0 29)
    -- "a record without a tail joined with itself is itself": with one, it is itself less the tail; a part cut in one is taken from the other
    ∷ (joins (take 29 thirty) (take 29 thirty) 30 is whole (without01 ++ zeros 5) 25)
    ∷ (joins (take 29 thirty) thirty 30 is whole thirty 30)
    ∷ (joins thirty (take 7 thirty) 30 is whole thirty 30)
    -- every pair of P8 to P11 that isn't above
    ∷ (joins served_at_two served_at_two 17 is whole served_at_two 17)
    ∷ (joins served_at_two without12 30 is whole thirty 30)
    ∷ (joins served_at_two without11 26 is whole without11 26)
    ∷ (joins served_to_plane_one served_to_plane_one 21 is whole served_to_plane_one 21)
    ∷ (joins served_to_plane_one without12 30 is whole thirty 30)
    ∷ (joins served_to_plane_one without11 30 is whole thirty 30)
    ∷ (joins without12 served_at_two 30 is whole thirty 30)
    ∷ (joins without12 served_to_plane_one 30 is whole thirty 30)
    ∷ (joins without12 without12 26 is whole without12 26)
    ∷ (joins without12 without11 30 is whole thirty 30)
    ∷ (joins without11 served_at_two 26 is whole without11 26)
    ∷ (joins without11 served_to_plane_one 30 is whole thirty 30)
    ∷ (joins without11 without12 30 is whole thirty 30)
    ∷ (joins without11 without11 26 is whole without11 26)
    -- "15 CLASH, a shared part unequal, place in the first": the first such part
    ∷ (joins thirty first_other 30 is refuses 15 5 30)
    ∷ (joins without12 last_other 30 is refuses 15 21 30)
    ∷ (joins last_other without12 30 is refuses 15 25 30)
    ∷ (joins (take 9 thirty) last_other 30 is whole last_other 30)
    ∷ (joins thirty five_bytes 30 is refuses 15 13 30)
    -- "14 MIXED, headers unequal, place 0", before 15
    ∷ (joins thirty empty_other 30 is refuses 14 0 30)
    ∷ (joins five_bytes five_before 37 is refuses 14 0 37)
    -- "all reading refusals of the first, then of the second (place in its own bytes)", before 14
    ∷ (joins (take 4 thirty) pad_set 30 is refuses 6 4 30)
    ∷ (joins pad_set (take 4 thirty) 30 is refuses 9 5 30)
    ∷ (joins empty_other pad_set 30 is refuses 9 5 30)
    ∷ (joins first_other (take 3 thirty) 30 is refuses 6 3 30)
    -- "last 5"
    ∷ (joins thirty first_other 0 is refuses 15 5 0)
    ∷ (joins served_at_two served_to_plane_one 24 is refuses 5 0 24)
    ∷ []
