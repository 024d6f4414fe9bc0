-- Document 02, W3: "the reversible 5/3 integer lifting of JPEG 2000 part 1, with symmetric extension, N times, columns then rows, and back,
-- columns last. No level shift is made."
--
-- A line is a function of the index, a picture or a pyramid a function of row and column. W and H are multiples of 2^(N+1), so every line
-- that occurs has 2m numbers, m even.
use Rattle.std.specs.Prelude.{List, map, cond, ◌&&◌, ℕ, zero, suc, ◌+◌, ◌-◌, ◌*◌, ◌/◌, ◌%◌, ◌^◌, min, ltb, eqb, get_or, ℤ, pos, ◌+ℤ◌, ◌-ℤ◌}
use Rattle.std.specs.Int.Signed.{shr_z}
use Rattle.rules.specs.declared.Size.{Size}
use Rattle.rules.specs.Document.Pyramid.{area, row, column}
use Rattle.rules.specs.Document.Passes.{from}

abbrev pub Line : Type 0
Line = ℕ → ℤ

abbrev pub Grid : Type 0
Grid = ℕ → Line

-- Halves and quarters are rounded down, toward minus infinity.
abbrev pub half : ℤ → ℤ
half x = shr_z x 2

abbrev pub quarter : ℤ → ℤ
quarter x = shr_z x 4

-- "5/3 integer lifting": of a line of 2m numbers a high is an odd one less half of its neighbours, a low an even one with a quarter of the
-- highs beside it. "With symmetric extension": behind the end of the line x(2m) = x(2m-2), and before its start the high -1 is the high 0.
unfoldable pub high : ℕ → Line → Line
high m x i = x (2 * i + 1) -ℤ half (x (2 * i) +ℤ x (2 * min (i + 1) (m - 1)))

unfoldable pub low : ℕ → Line → Line
low m x i = x (2 * i) +ℤ quarter (high m x (i - 1) +ℤ high m x i +ℤ pos 2)

-- The m lows come first, then the m highs: where document 01 has the bands.
unfoldable pub split : ℕ → Line → Line
split m x i = cond (ltb i m) (low m x i) (high m x (i - m))

-- "And back": what was added is taken away, what was taken away is added.
unfoldable pub even : ℕ → Line → Line
even m y i = y i -ℤ quarter (y (m + (i - 1)) +ℤ y (m + i) +ℤ pos 2)

unfoldable pub odd : ℕ → Line → Line
odd m y i = y (m + i) +ℤ half (even m y i +ℤ even m y (min (i + 1) (m - 1)))

unfoldable pub joined : ℕ → Line → Line
joined m y i = cond (eqb (i % 2) 0) (even m y (i / 2)) (odd m y (i / 2))

-- Each row, each column of the block of h rows and w columns at the top left; outside it nothing changes.
unfoldable pub along_rows : (ℕ → Line → Line) → ℕ → ℕ → Grid → Grid
along_rows f h w g i j = cond (ltb i h && ltb j w) (f (w / 2) (g i) j) (g i j)

unfoldable pub along_columns : (ℕ → Line → Line) → ℕ → ℕ → Grid → Grid
along_columns f h w g i j = cond (ltb i h && ltb j w) (f (h / 2) (λ r. g r j) i) (g i j)

abbrev pub columns_split : ℕ → ℕ → Grid → Grid
columns_split = along_columns split

abbrev pub rows_split : ℕ → ℕ → Grid → Grid
rows_split = along_rows split

abbrev pub columns_joined : ℕ → ℕ → Grid → Grid
columns_joined = along_columns joined

abbrev pub rows_joined : ℕ → ℕ → Grid → Grid
rows_joined = along_rows joined

module _ (z : Size) where
  -- "Columns then rows, and back, columns last": turn l, 0 to N-1, is of the first H / 2^l rows and W / 2^l columns.
  unfoldable pub turn : ℕ → Grid → Grid
  turn l g = rows_split (z.h / 2 ^ l) (z.w / 2 ^ l) (columns_split (z.h / 2 ^ l) (z.w / 2 ^ l) g)

  unfoldable pub turn_back : ℕ → Grid → Grid
  turn_back l g = columns_joined (z.h / 2 ^ l) (z.w / 2 ^ l) (rows_joined (z.h / 2 ^ l) (z.w / 2 ^ l) g)

  -- "N times": turns 0, 1, .. on the way in, and .., 1, 0 on the way back.
  unfoldable pub forward : ℕ → Grid → Grid
  forward zero g = g
  forward (suc l) g = turn l (forward l g)

  unfoldable pub back : ℕ → Grid → Grid
  back zero g = g
  back (suc l) g = back l (turn_back l g)

-- A picture's pixels and a pyramid's coefficients stand row by row, W to a row. "No level shift is made": a pixel is its own number.
unfoldable pub grey_of : ℕ → List ℕ → Grid
grey_of w pixels i j = pos (get_or pixels (i * w + j) 0)

unfoldable pub grid_of : ℕ → List ℤ → Grid
grid_of w numbers i j = get_or numbers (i * w + j) (pos 0)

unfoldable pub list_of : Size → Grid → List ℤ
list_of z g = map (λ q. g (row z q) (column z q)) (from 0 (area z))

-- The pyramid of a picture, and the numbers that a pyramid gives back: the pixels, where it is a picture's.
unfoldable pub pyramid_of : Size → List ℕ → List ℤ
pyramid_of z pixels = list_of z (forward z z.n (grey_of z.w pixels))

unfoldable pub picture_of : Size → List ℤ → List ℤ
picture_of z pyramid = list_of z (back z z.n (grid_of z.w pyramid))
