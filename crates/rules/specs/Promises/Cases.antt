-- The cases that document 01 names, P1 to P12, and its record in full, with some more that only one reading of it gives, and bytes of which W2 says
-- why they are refused: one table, and one claim about all its rows, by computation. What is stated is numbers and bytes; of a call the answer that its
-- export writes and the output it leaves.
use Rattle.std.specs.Prelude.{List, [], ◌∷◌, ◌++◌, map, ℕ, ◌+◌, ◌*◌, length, take, replicate, ℤ, pos, negsuc, Ok, Err}
use Rattle.rules.specs.declared.Size.{Size}
use Rattle.rules.specs.declared.NoNumber.TheVariants.{TooManyBytes, LongForm}
use Rattle.rules.specs.Document.Notation.{any, every, count, flat, greatest, lowest, if_any, zeros}
use Rattle.rules.specs.Document.Pyramid.{legal_side, legal_size, magnitude, negative, within, level_up_to, level_of, block, offspring_ll, offspring_at}
use Rattle.rules.specs.Document.Pyramid.{offspring_of, generations, descendants_of, log2_up, earlier_planes_of, log2_down, planes_of}
use Rattle.rules.specs.Document.Passes.{members, in_level, tested, tests, opened, added, weighed, visited, visits, turns, sets, refines, pass}
use Rattle.rules.specs.Document.Passes.{walk, listed, passed, after, from, rows, band_ll, root_of, start, parts_of_plane, part_names, truth, coded}
use Rattle.rules.specs.Document.Passes.{signed, grown, written, decoded}
use Rattle.rules.specs.Document.Layout.{groups, number_bytes, number_from, read_number, eight_bits, pack_from, packed, bit_at, clear_from, pad_clear, Number}
use Rattle.rules.specs.Document.Layout.{header_bytes, part_bytes, coded_parts, record_with, planes_in, earlier_planes_in, parts_of, record_of, whole_of}
use Rattle.rules.specs.Document.Layout.{body_of, bits_there, name_of, same_name, needs, usable, reached}
use Rattle.rules.specs.Document.Numbers.{head_number, judged_header, read_sizes, read_header, part_number, follows, legal_head, judged_part, headed}
use Rattle.rules.specs.Document.Numbers.{read_part, go_on, read_from, read_parts, behind_from}
use Rattle.rules.specs.Document.Calls.{Result, unless, work_for, first_over, fitted, coding, on_header, on_ending, legal_ask, kept_of, served_bytes}
use Rattle.rules.specs.Document.Calls.{used, onward, decode_parts, Picture, reached_plane, reached_planes, skipped_parts, skipped_counts, pictured}
use Rattle.rules.specs.Document.Calls.{used_cut, tail_onward, decoded_parts, decoding, Portion, portioned, serving}
use Rattle.rules.specs.Document.Calls.{filled, code_out, code_answer, serve_out, serve_answer, decode_out, decode_answer, code_numbers, serve_numbers}
use Rattle.rules.specs.Document.Calls.{plane_in, count_in, decode_numbers, code_places, serve_places, decode_places, reported}

-- Opening one of these opens a section's definitions.
unfoldable pub opens_pyramid : Unit {0}
unfolding legal_side legal_size magnitude negative within level_up_to level_of log2_up earlier_planes_of log2_down planes_of
opens_pyramid = tt

unfoldable pub opens_notation : Unit {0}
unfolding any every count flat greatest lowest if_any
opens_notation = tt

unfoldable pub opens_family : Unit {0}
unfolding opens_notation block offspring_ll offspring_at offspring_of generations descendants_of
opens_family = tt

unfoldable pub opens_pass : Unit {0}
unfolding members in_level tested tests opened added weighed visited visits turns sets
opens_pass = tt

unfoldable pub opens_run : Unit {0}
unfolding refines pass walk listed passed after from rows band_ll root_of start
opens_run = tt

unfoldable pub opens_sides : Unit {0}
unfolding parts_of_plane part_names truth coded signed grown written decoded
opens_sides = tt

unfoldable pub opens_bytes : Unit {0}
unfolding groups number_bytes number_from read_number eight_bits pack_from packed bit_at clear_from pad_clear header_bytes
opens_bytes = tt

unfoldable pub opens_usable : Unit {0}
unfolding name_of same_name needs usable reached
opens_usable = tt

unfoldable pub opens_record : Unit {0}
unfolding opens_usable part_bytes coded_parts planes_in earlier_planes_in parts_of record_of whole_of body_of bits_there
opens_record = tt

unfoldable pub opens_header : Unit {0}
unfolding head_number judged_header read_sizes read_header
opens_header = tt

unfoldable pub opens_parts : Unit {0}
unfolding part_number follows legal_head judged_part headed read_part go_on read_from read_parts behind_from
opens_parts = tt

unfoldable pub opens_reading : Unit {0}
unfolding opens_header opens_parts
opens_reading = tt

unfoldable pub opens_calls : Unit {0}
unfolding unless first_over fitted coding on_header on_ending legal_ask kept_of served_bytes portioned serving
opens_calls = tt

unfoldable pub opens_drawing : Unit {0}
unfolding used onward decode_parts used_cut tail_onward
opens_drawing = tt

unfoldable pub opens_decoding : Unit {0}
unfolding opens_drawing reached_plane reached_planes skipped_parts skipped_counts pictured decoded_parts decoding
opens_decoding = tt

unfoldable pub opens_outputs : Unit {0}
unfolding filled code_out serve_out decode_out
opens_outputs = tt

unfoldable pub opens_answers : Unit {0}
unfolding opens_outputs code_answer serve_answer decode_answer code_numbers serve_numbers plane_in count_in decode_numbers reported
opens_answers = tt

-- The document's record: N = 1, 4 x 4, rows 4 -1 0 0 / 2 0 0 -3 / 0 0 1 0 / 0 0 0 0.
unfoldable pub four : Size
four = record { w = 4; h = 4; n = 1 }

unfoldable pub eight : Size
eight = record { w = 8; h = 8; n = 2 }

-- rows 0 and 1 of the LL band, then (1, 3) and (2, 2)
unfoldable pub rows_of : ℤ → ℤ → ℤ → ℤ → ℤ → ℤ → List ℤ
rows_of a b c d e f =
    a ∷ b ∷ pos 0 ∷ pos 0
    ∷ c ∷ d ∷ pos 0 ∷ e
    ∷ pos 0 ∷ pos 0 ∷ f ∷ pos 0
    ∷ pos 0 ∷ pos 0 ∷ pos 0 ∷ pos 0 ∷ []

unfoldable pub example : List ℤ
unfolding rows_of
example = rows_of (pos 4) (negsuc 0) (pos 2) (pos 0) (negsuc 2) (pos 1)

unfoldable pub thirty : List ℕ
thirty =
    0x01 ∷ 0x04 ∷ 0x04 ∷ 0x01 ∷ 0x03
    ∷ 0x02 ∷ 0x02 ∷ 0x05 ∷ 0x80
    ∷ 0x02 ∷ 0x01 ∷ 0x03 ∷ 0x00
    ∷ 0x01 ∷ 0x02 ∷ 0x05 ∷ 0x40
    ∷ 0x01 ∷ 0x01 ∷ 0x08 ∷ 0x8C
    ∷ 0x00 ∷ 0x02 ∷ 0x05 ∷ 0xC0
    ∷ 0x00 ∷ 0x01 ∷ 0x0B ∷ 0x0C ∷ 0x20 ∷ []

-- What is left of it where a request or a link leaves some of its parts out, each written out.
unfoldable pub served_at_two : List ℕ
served_at_two =
    0x01 ∷ 0x04 ∷ 0x04 ∷ 0x01 ∷ 0x03
    ∷ 0x02 ∷ 0x02 ∷ 0x05 ∷ 0x80
    ∷ 0x01 ∷ 0x02 ∷ 0x05 ∷ 0x40
    ∷ 0x00 ∷ 0x02 ∷ 0x05 ∷ 0xC0 ∷ []

unfoldable pub served_to_plane_one : List ℕ
served_to_plane_one =
    0x01 ∷ 0x04 ∷ 0x04 ∷ 0x01 ∷ 0x03
    ∷ 0x02 ∷ 0x02 ∷ 0x05 ∷ 0x80
    ∷ 0x02 ∷ 0x01 ∷ 0x03 ∷ 0x00
    ∷ 0x01 ∷ 0x02 ∷ 0x05 ∷ 0x40
    ∷ 0x01 ∷ 0x01 ∷ 0x08 ∷ 0x8C ∷ []

unfoldable pub without12 : List ℕ
without12 =
    0x01 ∷ 0x04 ∷ 0x04 ∷ 0x01 ∷ 0x03
    ∷ 0x02 ∷ 0x02 ∷ 0x05 ∷ 0x80
    ∷ 0x02 ∷ 0x01 ∷ 0x03 ∷ 0x00
    ∷ 0x01 ∷ 0x01 ∷ 0x08 ∷ 0x8C
    ∷ 0x00 ∷ 0x02 ∷ 0x05 ∷ 0xC0
    ∷ 0x00 ∷ 0x01 ∷ 0x0B ∷ 0x0C ∷ 0x20 ∷ []

unfoldable pub without11 : List ℕ
without11 =
    0x01 ∷ 0x04 ∷ 0x04 ∷ 0x01 ∷ 0x03
    ∷ 0x02 ∷ 0x02 ∷ 0x05 ∷ 0x80
    ∷ 0x02 ∷ 0x01 ∷ 0x03 ∷ 0x00
    ∷ 0x01 ∷ 0x02 ∷ 0x05 ∷ 0x40
    ∷ 0x00 ∷ 0x02 ∷ 0x05 ∷ 0xC0
    ∷ 0x00 ∷ 0x01 ∷ 0x0B ∷ 0x0C ∷ 0x20 ∷ []

-- Served for r = 2, p = 1, or for (2, 0) and (1, 1) in either order.
unfoldable pub served_twice : List ℕ
served_twice =
    0x01 ∷ 0x04 ∷ 0x04 ∷ 0x01 ∷ 0x03
    ∷ 0x02 ∷ 0x02 ∷ 0x05 ∷ 0x80
    ∷ 0x01 ∷ 0x02 ∷ 0x05 ∷ 0x40 ∷ []

-- Its header, and a first part with a padding bit set; one of 4 bits, where its pass takes 5, before a part with a padding bit set; one of 6 bits;
-- one cut off behind a plane that no part of it has.
unfoldable pub pad_set : List ℕ
pad_set =
    0x01 ∷ 0x04 ∷ 0x04 ∷ 0x01 ∷ 0x03
    ∷ 0x02 ∷ 0x02 ∷ 0x05 ∷ 0x81 ∷ []

unfoldable pub bits_run_out : List ℕ
bits_run_out =
    0x01 ∷ 0x04 ∷ 0x04 ∷ 0x01 ∷ 0x03
    ∷ 0x02 ∷ 0x02 ∷ 0x04 ∷ 0x80
    ∷ 0x02 ∷ 0x01 ∷ 0x03 ∷ 0x01 ∷ []

unfoldable pub bits_left_over : List ℕ
bits_left_over =
    0x01 ∷ 0x04 ∷ 0x04 ∷ 0x01 ∷ 0x03
    ∷ 0x02 ∷ 0x02 ∷ 0x06 ∷ 0x80 ∷ []

unfoldable pub cut_in_head : List ℕ
cut_in_head =
    0x01 ∷ 0x04 ∷ 0x04 ∷ 0x01 ∷ 0x03
    ∷ 0x05 ∷ []

-- A pyramid of 8 x 8 with N = 2 that has 1 at (0,0), else 0.
unfoldable pub single : List ℤ
single = pos 1 ∷ replicate 63 (pos 0)

unfoldable pub single_bytes : List ℕ
single_bytes =
    0x01 ∷ 0x08 ∷ 0x08 ∷ 0x02 ∷ 0x01
    ∷ 0x00 ∷ 0x03 ∷ 0x05 ∷ 0x80
    ∷ 0x00 ∷ 0x02 ∷ 0x03 ∷ 0x00
    ∷ 0x00 ∷ 0x01 ∷ 0x00 ∷ []

-- Two more of 8 x 8 with N = 2. Their records are those of the reference's test module `literal` (reference/tests/all/literal.rs), which
-- follows the published steps word for word on lists of coordinates, and were worked out by hand too. A set that is opened in level 2 is put back as
-- type B and moves to level 1; there it opens into four sets of type A, visited in the same pass. In the first one set comes so far in each plane,
-- in the second one waits in level 1 for a plane.
unfoldable pub early : List ℤ
early =
    pos 2 ∷ negsuc 0 ∷ pos 1 ∷ pos 0 ∷ pos 0 ∷ pos 0 ∷ pos 0 ∷ pos 0
    ∷ pos 0 ∷ pos 0 ∷ pos 0 ∷ pos 0 ∷ pos 0 ∷ negsuc 1 ∷ pos 0 ∷ pos 0
    ∷ pos 0 ∷ pos 0 ∷ pos 0 ∷ pos 0 ∷ pos 0 ∷ pos 0 ∷ pos 0 ∷ pos 0
    ∷ pos 0 ∷ pos 0 ∷ pos 0 ∷ pos 0 ∷ pos 0 ∷ pos 0 ∷ pos 0 ∷ pos 0
    ∷ pos 0 ∷ pos 0 ∷ pos 0 ∷ pos 0 ∷ pos 0 ∷ pos 0 ∷ pos 0 ∷ pos 0
    ∷ pos 0 ∷ pos 0 ∷ pos 0 ∷ pos 0 ∷ pos 0 ∷ pos 0 ∷ pos 1 ∷ pos 0
    ∷ pos 0 ∷ pos 0 ∷ pos 0 ∷ pos 0 ∷ pos 0 ∷ pos 0 ∷ pos 0 ∷ pos 0
    ∷ pos 0 ∷ pos 0 ∷ pos 0 ∷ pos 0 ∷ pos 0 ∷ pos 0 ∷ pos 0 ∷ pos 0 ∷ []

unfoldable pub early_bytes : List ℕ
early_bytes =
    0x01 ∷ 0x08 ∷ 0x08 ∷ 0x02 ∷ 0x02
    ∷ 0x01 ∷ 0x03 ∷ 0x05 ∷ 0x80
    ∷ 0x01 ∷ 0x02 ∷ 0x07 ∷ 0x80
    ∷ 0x01 ∷ 0x01 ∷ 0x0A ∷ 0xC6 ∷ 0x00
    ∷ 0x00 ∷ 0x03 ∷ 0x05 ∷ 0xC0
    ∷ 0x00 ∷ 0x02 ∷ 0x0B ∷ 0x82 ∷ 0x00
    ∷ 0x00 ∷ 0x01 ∷ 0x11 ∷ 0x02 ∷ 0x90 ∷ 0x00 ∷ []

unfoldable pub late : List ℤ
late =
    pos 0 ∷ pos 0 ∷ pos 0 ∷ pos 0 ∷ pos 0 ∷ pos 0 ∷ pos 0 ∷ pos 0
    ∷ pos 0 ∷ negsuc 0 ∷ pos 0 ∷ pos 0 ∷ pos 0 ∷ pos 0 ∷ pos 0 ∷ pos 0
    ∷ pos 0 ∷ pos 3 ∷ pos 0 ∷ pos 0 ∷ pos 0 ∷ pos 0 ∷ pos 0 ∷ pos 0
    ∷ pos 0 ∷ pos 0 ∷ pos 0 ∷ pos 0 ∷ pos 0 ∷ pos 0 ∷ pos 0 ∷ pos 0
    ∷ pos 0 ∷ pos 0 ∷ pos 0 ∷ pos 0 ∷ pos 1 ∷ pos 0 ∷ pos 0 ∷ pos 0
    ∷ pos 0 ∷ pos 0 ∷ pos 0 ∷ pos 1 ∷ pos 0 ∷ pos 0 ∷ pos 0 ∷ pos 0
    ∷ pos 0 ∷ pos 0 ∷ pos 0 ∷ pos 0 ∷ pos 0 ∷ pos 0 ∷ pos 0 ∷ pos 0
    ∷ pos 0 ∷ pos 0 ∷ pos 0 ∷ pos 0 ∷ pos 0 ∷ pos 0 ∷ pos 0 ∷ negsuc 3 ∷ []

unfoldable pub late_bytes : List ℕ
late_bytes =
    0x01 ∷ 0x08 ∷ 0x08 ∷ 0x02 ∷ 0x03
    ∷ 0x02 ∷ 0x03 ∷ 0x04 ∷ 0x00
    ∷ 0x02 ∷ 0x02 ∷ 0x07 ∷ 0x20
    ∷ 0x02 ∷ 0x01 ∷ 0x0A ∷ 0x88 ∷ 0xC0
    ∷ 0x01 ∷ 0x03 ∷ 0x04 ∷ 0x00
    ∷ 0x01 ∷ 0x02 ∷ 0x0B ∷ 0x05 ∷ 0x00
    ∷ 0x01 ∷ 0x01 ∷ 0x08 ∷ 0x00
    ∷ 0x00 ∷ 0x03 ∷ 0x05 ∷ 0x18
    ∷ 0x00 ∷ 0x02 ∷ 0x09 ∷ 0x00 ∷ 0x80
    ∷ 0x00 ∷ 0x01 ∷ 0x16 ∷ 0x18 ∷ 0x14 ∷ 0x40 ∷ []

-- A pyramid of 4 x 4 with N = 1 that has 5 at (0,0), else 0; its record, and the one that was written before W5.
unfoldable pub five : List ℤ
five = pos 5 ∷ replicate 15 (pos 0)

unfoldable pub five_bytes : List ℕ
five_bytes =
    0x01 ∷ 0x04 ∷ 0x04 ∷ 0x01 ∷ 0x03
    ∷ 0x02 ∷ 0x02 ∷ 0x05 ∷ 0x80
    ∷ 0x02 ∷ 0x01 ∷ 0x03 ∷ 0x00
    ∷ 0x01 ∷ 0x02 ∷ 0x04 ∷ 0x00
    ∷ 0x01 ∷ 0x01 ∷ 0x03 ∷ 0x00
    ∷ 0x00 ∷ 0x02 ∷ 0x04 ∷ 0x10
    ∷ 0x00 ∷ 0x01 ∷ 0x03 ∷ 0x00 ∷ []

unfoldable pub five_before : List ℕ
five_before =
    0x01 ∷ 0x04 ∷ 0x04 ∷ 0x01 ∷ 0x04
    ∷ 0x03 ∷ 0x02 ∷ 0x04 ∷ 0x00
    ∷ 0x03 ∷ 0x01 ∷ 0x03 ∷ 0x00
    ∷ 0x02 ∷ 0x02 ∷ 0x05 ∷ 0x80
    ∷ 0x02 ∷ 0x01 ∷ 0x03 ∷ 0x00
    ∷ 0x01 ∷ 0x02 ∷ 0x04 ∷ 0x00
    ∷ 0x01 ∷ 0x01 ∷ 0x03 ∷ 0x00
    ∷ 0x00 ∷ 0x02 ∷ 0x04 ∷ 0x10
    ∷ 0x00 ∷ 0x01 ∷ 0x03 ∷ 0x00 ∷ []

unfoldable pub opens_example : Unit {0}
unfolding four eight rows_of example thirty served_at_two served_to_plane_one without12 without11
opens_example = tt

unfoldable pub opens_others : Unit {0}
unfolding served_twice pad_set bits_run_out bits_left_over cut_in_head single single_bytes early early_bytes late late_bytes
opens_others = tt

unfoldable pub opens_five : Unit {0}
unfolding five five_bytes five_before
opens_five = tt

-- What a row may speak of.
pub data Shown : Type 0 where
  numbers : List ℕ → Shown
  read : Number → Shown
  -- of a call the answer that its export writes to the slice lent for it, and the output
  bytes : List ℕ → List ℕ → Shown
  pyramid : List ℕ → List ℤ → Shown

-- a row of the table: what the definitions give, and what the document states
pub record Row : Type 0 where
  pub given : Shown
  pub stated : Shown

infixl 5 ◌is◌
abbrev pub ◌is◌ : Shown → Shown → Row
◌is◌ x y = record { given = x; stated = y }

unfoldable pub coded_as : ℕ → Result (List ℕ) → Shown
coded_as room x = bytes (reported code_places (zeros code_places) (code_numbers (code_answer x))) (code_out room x)

unfoldable pub served_as : ℕ → Result Portion → Shown
served_as room x = bytes (reported serve_places (zeros serve_places) (serve_numbers (serve_answer x))) (serve_out room x)

unfoldable pub decoded_as : ℕ → Result Picture → Shown
decoded_as room x = pyramid (reported decode_places (zeros decode_places) (decode_numbers (decode_answer x))) (decode_out room x)

abbrev pub codes : List ℤ → Size → ℕ → Shown
codes v z room = coded_as room (coding v z room (work_for z))

abbrev pub serves : List ℕ → ℕ → ℕ → Shown
serves s r p = served_as (length s) (serving s r p (length s))

abbrev pub decodes : List ℕ → Shown
decodes s = decoded_as 16 (decoding s 16 64)

-- the same of bytes behind the record's header, and of a refusal with its place
abbrev pub behind_header : List ℕ → Shown
behind_header s = decodes (0x01 ∷ 0x04 ∷ 0x04 ∷ 0x01 ∷ 0x03 ∷ s)

abbrev pub refuses : ℕ → ℕ → Shown
refuses number place = pyramid ((number ∷ place ∷ []) ++ zeros 13) (replicate 16 (pos 0))

-- an accepted decoding of two levels, level 1 first: its tail, the plane that each level reached, and how many of its parts were skipped
abbrev pub prints : ℕ → ℕ × ℕ → ℕ × ℕ → List ℤ → Shown
prints tail m k = pyramid ((0 ∷ 0 ∷ tail ∷ m.0 ∷ m.1 ∷ 0 ∷ 0 ∷ 0 ∷ 0 ∷ k.0 ∷ k.1 ∷ []) ++ zeros 4)

unfoldable pub table : List Row
table =
    -- P1 127 is 7F. P2 128 is 80 01. P3 512 is 80 04. P4 80 00 malformed. P5 80 80 80 80 malformed.
    (numbers (number_bytes 127) is numbers (0x7F ∷ []))
    ∷ (numbers (number_bytes 128) is numbers (0x80 ∷ 0x01 ∷ []))
    ∷ (numbers (number_bytes 512) is numbers (0x80 ∷ 0x04 ∷ []))
    ∷ (read (read_number (0x80 ∷ 0x04 ∷ []) 0) is read (Ok (512, 2)))
    ∷ (read (read_number (0x80 ∷ 0x00 ∷ []) 0) is read (Err LongForm))
    ∷ (read (read_number (0x80 ∷ 0x80 ∷ 0x80 ∷ 0x80 ∷ []) 0) is read (Err TooManyBytes))
    -- P6 the record above, there and back; served whole. P7 all zero 4 x 4, N = 1: 01 04 04 01 00; all zero 8 x 4.
    ∷ (codes example four 30 is bytes (0 ∷ 0 ∷ 30 ∷ []) thirty)
    ∷ (decodes thirty is prints 0 (0, 0) (0, 0) example)
    ∷ (serves thirty 1 0 is bytes (0 ∷ 0 ∷ 30 ∷ 0 ∷ []) thirty)
    ∷ (codes (replicate 16 (pos 0)) four 5 is bytes (0 ∷ 0 ∷ 5 ∷ []) (0x01 ∷ 0x04 ∷ 0x04 ∷ 0x01 ∷ 0x00 ∷ []))
    ∷ (codes (replicate 32 (pos 0)) (record { w = 8; h = 4; n = 1 }) 5 is bytes (0 ∷ 0 ∷ 5 ∷ []) (0x01 ∷ 0x08 ∷ 0x04 ∷ 0x01 ∷ 0x00 ∷ []))
    -- P8 served for r = 2, p = 0: 17 bytes; decoded, the LL band is right and all else 0.
    ∷ (serves thirty 2 0 is bytes (0 ∷ 0 ∷ 17 ∷ 0 ∷ []) (served_at_two ++ zeros 13))
    ∷ (decodes served_at_two is prints 0 (3, 0) (0, 0) (rows_of (pos 4) (negsuc 0) (pos 2) (pos 0) (pos 0) (pos 0)))
    -- P9 served for r = 1, p = 1: 21 bytes; decoded 4 0 / 2 0 in the LL band, -2 at (1,3), else 0.
    ∷ (serves thirty 1 1 is bytes (0 ∷ 0 ∷ 21 ∷ 0 ∷ []) (served_to_plane_one ++ zeros 9))
    ∷ (decodes served_to_plane_one
    is prints 0 (1, 1) (0, 0) (rows_of (pos 4) (pos 0) (pos 2) (pos 0) (negsuc 1) (pos 0)))
    -- P10 part (1,2) lost: 4 at (0,0), else 0; reached 2 at both levels. W8: two parts of level 1 skipped and one of level 2.
    ∷ (decodes without12 is prints 0 (2, 2) (2, 1) (rows_of (pos 4) (pos 0) (pos 0) (pos 0) (pos 0) (pos 0)))
    -- P11 part (1,1) lost: LL band exact, reached 0; level 1 all 0, reached 2, one part skipped. Served whole it is the same 26 bytes.
    ∷ (decodes without11 is prints 0 (2, 0) (1, 0) (rows_of (pos 4) (negsuc 0) (pos 2) (pos 0) (pos 0) (pos 0)))
    ∷ (serves without11 1 0 is bytes (0 ∷ 0 ∷ 26 ∷ 0 ∷ []) without11)
    -- P12 in 8 x 8, N = 2: (0,1) has the block at (0,2), (1,2) the block at (2,4).
    ∷ (numbers (offspring_of eight (0 * 8 + 1)) is numbers (2 ∷ 3 ∷ 10 ∷ 11 ∷ []))
    ∷ (numbers (offspring_of eight (1 * 8 + 2)) is numbers (20 ∷ 21 ∷ 28 ∷ 29 ∷ []))
    -- "log2 M rounded up, .. and there are n_max + 1 planes", as records had until W5; since then "the coder rounds down"
    ∷ (numbers (map earlier_planes_of (1 ∷ 4 ∷ 5 ∷ 65535 ∷ [])) is numbers (1 ∷ 3 ∷ 4 ∷ 17 ∷ []))
    ∷ (numbers (map planes_of (1 ∷ 4 ∷ 5 ∷ 65535 ∷ [])) is numbers (1 ∷ 3 ∷ 3 ∷ 16 ∷ []))
    -- W5: 5 alone in 4 x 4, by either count: 29 bytes and 37, and both decode to it
    ∷ (codes five four 29 is bytes (0 ∷ 0 ∷ 29 ∷ []) five_bytes)
    ∷ (numbers (record_with four (earlier_planes_in five) five) is numbers five_before)
    ∷ (decodes five_bytes is prints 0 (0, 0) (0, 0) five)
    ∷ (decodes five_before is prints 0 (0, 0) (0, 0) five)
    -- "its first 29 bytes decode with a tail of 4". W1: of the part that is cut its first eight bits are used, and of one less byte none.
    ∷ (decodes (take 29 thirty)
    is prints 4 (1, 0) (0, 0) (rows_of (pos 4) (negsuc 0) (pos 2) (pos 0) (negsuc 1) (pos 1)))
    ∷ (decodes (take 28 thirty)
    is prints 3 (1, 0) (0, 0) (rows_of (pos 4) (negsuc 0) (pos 2) (pos 0) (negsuc 1) (pos 0)))
    -- "A significance bit whose sign didn't arrive leaves its coefficient 0", here the eighth bit of 16, of -1 at (3,1)
    ∷ (decodes (take 25 thirty ++ (0x00 ∷ 0x01 ∷ 0x10 ∷ 0x11 ∷ 0xE1 ∷ []))
    is prints 0 (0, 0) (0, 0) (take 13 example ++ (negsuc 0 ∷ pos 0 ∷ pos 0 ∷ [])))
    ∷ (decodes (take 25 thirty ++ (0x00 ∷ 0x01 ∷ 0x10 ∷ 0x11 ∷ []))
    is prints 4 (1, 0) (0, 0) (rows_of (pos 4) (negsuc 0) (pos 2) (pos 0) (negsuc 1) (pos 0)))
    -- "10 also where the walk of such a part ends before the bits of its present body bytes do": it takes eight of 32
    ∷ (decodes (take 17 thirty ++ (0x01 ∷ 0x01 ∷ 0x20 ∷ 0x8C ∷ []))
    is prints 4 (2, 1) (0, 0) (rows_of (pos 4) (pos 0) (pos 2) (pos 0) (negsuc 1) (pos 0)))
    ∷ (decodes (take 17 thirty ++ (0x01 ∷ 0x01 ∷ 0x20 ∷ 0x8C ∷ 0x00 ∷ [])) is refuses 10 17)
    -- a part that would not be usable if it were whole, here for lack of (1,2), is not decoded
    ∷ (decodes (take 13 thirty ++ (0x01 ∷ 0x01 ∷ 0x20 ∷ 0x8C ∷ 0x00 ∷ []))
    is prints 5 (2, 2) (0, 0) (rows_of (pos 4) (pos 0) (pos 0) (pos 0) (pos 0) (pos 0)))
    -- a part of 0 bits, here (0,1), is written too
    ∷ (codes single eight 16 is bytes (0 ∷ 0 ∷ 16 ∷ []) single_bytes)
    -- "serving: 11, the parts": no level 3, then the part at fault
    ∷ (serves pad_set 3 0 is bytes (11 ∷ 0 ∷ 0 ∷ 0 ∷ []) (zeros 9))
    ∷ (serves pad_set 1 0 is bytes (9 ∷ 5 ∷ 0 ∷ 0 ∷ []) (zeros 9))
    -- "10 FIT: a usable part's bits run out or are left over"; "the first part at fault decides", here before 9
    ∷ (decodes bits_run_out is refuses 10 5)
    ∷ (decodes bits_left_over is refuses 10 5)
    -- "its three numbers in turn .., the first that isn't a value deciding; the other causes of 8": cut off, so a tail
    ∷ (serves cut_in_head 1 0 is bytes (0 ∷ 0 ∷ 5 ∷ 1 ∷ []) (0x01 ∷ 0x04 ∷ 0x04 ∷ 0x01 ∷ 0x03 ∷ 0x00 ∷ []))
    -- W7: (2, 0) then (1, 1), (1, 1) then (2, 0), and the larger of both at once: 13 bytes; of the first 29 bytes only the first serving tells a tail
    ∷ (serves served_at_two 1 1 is bytes (0 ∷ 0 ∷ 13 ∷ 0 ∷ []) (served_twice ++ zeros 4))
    ∷ (serves served_to_plane_one 2 0 is bytes (0 ∷ 0 ∷ 13 ∷ 0 ∷ []) (served_twice ++ zeros 8))
    ∷ (serves thirty 2 1 is bytes (0 ∷ 0 ∷ 13 ∷ 0 ∷ []) (served_twice ++ zeros 17))
    ∷ (serves (take 29 thirty) 2 0 is bytes (0 ∷ 0 ∷ 17 ∷ 4 ∷ []) (served_at_two ++ zeros 12))
    ∷ (serves (take 29 thirty) 1 1 is bytes (0 ∷ 0 ∷ 21 ∷ 4 ∷ []) (served_to_plane_one ++ zeros 8))
    ∷ (serves (take 29 thirty) 2 1 is bytes (0 ∷ 0 ∷ 13 ∷ 4 ∷ []) (served_twice ++ zeros 16))
    -- type B opened, sets handed on below the LL band, sets added and visited in one pass
    ∷ (codes early eight 33 is bytes (0 ∷ 0 ∷ 33 ∷ []) early_bytes)
    ∷ (codes late eight 46 is bytes (0 ∷ 0 ∷ 46 ∷ []) late_bytes)
    -- W2: "12 LONGFORM (several bytes, the last 0), in the places of 6 or 8 wherever that was the cause, same reported place; 6 and 8 keep the rest"
    ∷ (decodes (0x81 ∷ 0x00 ∷ []) is refuses 12 0)
    ∷ (decodes (0x81 ∷ 0x01 ∷ []) is refuses 7 0)
    ∷ (decodes (0x01 ∷ 0x04 ∷ 0x80 ∷ 0x00 ∷ []) is refuses 12 2)
    ∷ (decodes (0x01 ∷ 0x04 ∷ 0x80 ∷ 0x00 ∷ 0x04 ∷ []) is refuses 12 2)
    ∷ (decodes (0x01 ∷ 0x04 ∷ 0x04 ∷ 0x01 ∷ 0x80 ∷ 0x80 ∷ 0x80 ∷ 0x00 ∷ []) is refuses 12 4)
    ∷ (decodes (0x01 ∷ 0x04 ∷ 0x04 ∷ 0x01 ∷ 0x80 ∷ 0x80 ∷ 0x80 ∷ 0x80 ∷ []) is refuses 6 4)
    ∷ (behind_header (0x80 ∷ 0x00 ∷ 0x01 ∷ 0x05 ∷ []) is refuses 12 5)
    ∷ (behind_header (0x02 ∷ 0x02 ∷ 0x80 ∷ 0x00 ∷ 0x80 ∷ []) is refuses 12 5)
    ∷ (behind_header (0x02 ∷ 0x80 ∷ 0x80 ∷ 0x80 ∷ 0x80 ∷ []) is refuses 8 5)
    ∷ (behind_header (0x7F ∷ 0x80 ∷ 0x00 ∷ []) is refuses 12 5)
    ∷ (behind_header (0x7F ∷ 0x7F ∷ []) is prints 2 (3, 3) (0, 0) (replicate 16 (pos 0)))
    ∷ (behind_header (0x02 ∷ 0x02 ∷ 0x05 ∷ 0x80 ∷ 0x02 ∷ 0x80 ∷ [])
    is prints 2 (3, 2) (0, 0) (rows_of (pos 4) (pos 0) (pos 0) (pos 0) (pos 0) (pos 0)))
    ∷ []

unfoldable pub opens_document : Unit {0}
unfolding opens_pyramid opens_family opens_pass opens_run opens_sides opens_bytes opens_record opens_reading opens_calls opens_decoding
opens_document = tt
