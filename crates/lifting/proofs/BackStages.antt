-- The way back, turn after turn, as numbers.
use mathlib.Core.Path.{◌≡◌, refl, sym, ap, subst, ◌∙◌}
use mathlib.Core.Bool.{Bool, true, false, cond}
use mathlib.Core.List.{List}
use Prim.Native.Nat.{ℕ, zero, suc, ◌+◌, ◌-◌, ◌*◌, ◌/◌, ◌%◌, ◌^◌, ◌≤◌, ◌<◌, min}
use native.Mathlib.Nat.{mul-le-mul, le_refl, mul_comm, div-one}
use native.Mathlib.Numerals.{add-one}
use native.Mathlib.Omega.{arith}
use lib.Arith.{digits_lt}
use lib.Dec.{eqb}
use lib.IntN.{ℤ, pos, negsuc, nat_abs}
use lib.ListN.{length, get_or}
use lib.Pow.{shr_le}
use Rattle.rules.specs.declared.Size.{Size}
use Rattle.rules.specs.Document.Pyramid.{magnitude}
use Rattle.rules.proofs.Laws.Family.Sizes.{legal, side_some, side_falls}
use Rattle.rules.specs.Promises.Vocabulary.{Legal}
use Rattle.pictures.specs.Document.Lifting.{Line, Grid, even, odd, joined, turn_back}
use Rattle.pictures.specs.Laws.Tones.{bias, toned}
use Rattle.pictures.proofs.Laws.Tones.{sub_below, sub_least, toned_even, toned_odd}
use Rattle.pictures.specs.Laws.Turns.{Most, returned}
use Rattle.pictures.proofs.Laws.Turns.{turn_back_outside, returned_next, returned_back}
use Rattle.pictures.proofs.Laws.Grids.{turn_back_at}
use Rattle.pictures.specs.Laws.Room.{shallow, most_back}
use Rattle.pictures.proofs.Laws.Room.{room_back}
use Rattle.lifting.specs.declared.Turn.{Turn}
use Rattle.lifting.specs.Lines.{reach, line, Near}
use Rattle.lifting.specs.Turns.{turn_at}
use Rattle.lifting.specs.Joins.{tone_of, tones_at, even_t, odd_t, joined_t, BackRoom, low_row, high_row}
use Rattle.lifting.specs.Joins.{ForJoinTurn, returned_t, TurnJoined, ForBlockLoad, BlockLoaded}
use Rattle.lifting.specs.Pictures.{NumbersOf, Joining, Joined}
use Rattle.lifting.proofs.JoinRows.{tones_near, bands_there}
use Rattle.lifting.proofs.JoinPairs.{high_row_near}
use Rattle.lifting.proofs.JoinTurns.{low_row_near}
use Rattle.lifting.proofs.Stages.{tone_least, tone_most}

pub toned_of : (v : ℤ) → nat_abs v ≤ most_back → toned (tone_of v) ≡ v
toned_of (pos m) h = sub_least (bias + m) bias (omega arith) ∙ ap pos (omega arith)
toned_of (negsuc m) h = sub_below (bias - suc m) bias (omega arith) ∙ ap negsuc (omega arith)

-- a line joined of lows and highs that stand for it
module _ (m : ℕ) (l h : ℕ → ℕ) (y : Line) (some : 1 ≤ m) (L : Near l m reach) (H : Near h m reach)
    (el : (c : ℕ) → c < m → toned (l c) ≡ y c) (eh : (c : ℕ) → c < m → toned (h c) ≡ y (m + c)) where
  even_stands : (j : ℕ) → j < m → toned (even_t l h j) ≡ even m y j
  unfolding even_t
  even_stands j q =
      let a = L.least j q in
      let b = H.most (j - 1) (omega arith) in
      let c = H.most j q in
      toned_even m y j (l j) (h (j - 1)) (h j) (el j q) (eh (j - 1) (omega arith)) (eh j q) (omega arith)

  even_low : (j : ℕ) → j < m → bias ≤ even_t l h j + 2 * reach
  unfolding even_t
  even_low j q =
      let a = L.least j q in
      let b = H.most (j - 1) (omega arith) in
      let c = H.most j q in
      omega arith

  odd_stands : (j : ℕ) → j < m → toned (odd_t m l h j) ≡ odd m y j
  unfolding odd_t
  odd_stands j q =
      let a = H.least j q in
      let b = even_low j q in
      let c = even_low (min (j + 1) (m - 1)) (omega arith) in
      toned_odd m y j (h j) (even_t l h j) (even_t l h (min (j + 1) (m - 1))) (eh j q) (even_stands j q)
      (even_stands (min (j + 1) (m - 1)) (omega arith)) (omega arith)

  pub joined_stands : (c : ℕ) → c < 2 * m → toned (joined_t m l h c) ≡ joined m y c
  unfolding joined_t joined
  joined_stands c q = by (eqb (c % 2) 0)
    where
      by : (b : Bool) → toned (cond b (even_t l h (c / 2)) (odd_t m l h (c / 2))) ≡ cond b (even m y (c / 2)) (odd m y (c / 2))
      by true = even_stands (c / 2) (omega arith)
      by false = odd_stands (c / 2) (omega arith)

-- outside the block that the last turn back gave, all is as it was
module _ (z : Size) (g : Grid) (i j : ℕ) where
  pub returned_outside : (k l : ℕ) → k + l ≡ z.n → (i < z.h / 2 ^ l → j < z.w / 2 ^ l → ⊥) → returned z k g i j ≡ g i j
  unfolding returned
  returned_outside zero l e o = refl
  returned_outside (suc k) l e o =
      let f : z.n - suc k ≡ l = omega arith in
      let h : z.h / 2 ^ suc l ≤ z.h / 2 ^ l = side_falls z.h l (suc l) (omega arith) in
      let w : z.w / 2 ^ suc l ≤ z.w / 2 ^ l = side_falls z.w l (suc l) (omega arith) in
      ap (λ n. turn_back z n (returned z k g) i j) f ∙ turn_back_outside z l (returned z k g) i j o
      ∙ returned_outside k (suc l) (omega arith) (λ p q. o (omega arith) (omega arith))

-- With l turns to come: what was turned back stands in the workspace.
pub record BackStage (z : Size) (pyramid : List ℤ) (work : List ℕ) (l : ℕ) (s : List ℕ) : Type 0 where
  pub same : length s ≡ length work
  pub inside : (g : Grid) → NumbersOf z pyramid g → (i j : ℕ) → i < z.h / 2 ^ l → j < z.w / 2 ^ l
      → toned (get_or s (i * (z.w / 2 ^ l) + j) 0) ≡ returned z (z.n - l) g i j

module _ {z : Size} {pyramid : List ℤ} {work : List ℕ} (S : Joining z pyramid work) where
  Z : Legal z
  Z = legal z S.legal

  small : (q : ℕ) → q < length pyramid → nat_abs (get_or pyramid q (pos 0)) ≤ most_back
  unfolding magnitude
  small q h = S.most q (omega (arith, S.exact))

  place : (i j : ℕ) → i < z.h → j < z.w → i * z.w + j < length pyramid
  place i j a b = omega (arith, digits_lt a b, mul_comm z.h z.w, S.exact)

  abbrev g₀ : Grid
  g₀ i j = get_or pyramid (i * z.w + j) (pos 0)

  own : NumbersOf z pyramid g₀
  own i j a b = refl

  most : Most z.h z.w most_back g₀
  most i j a b = small (i * z.w + j) (place i j a b)

  -- the LL band
  pub back_block : ForBlockLoad pyramid work (z.h / 2 ^ z.n) (z.w / 2 ^ z.n) z.w
  back_block =
      let h = shr_le z.h z.n in
      let w = shr_le z.w z.n in
      let all : z.h / 2 ^ z.n * (z.w / 2 ^ z.n) ≤ z.h * z.w = mul-le-mul h w in
      let long : z.h / 2 ^ z.n * z.w ≤ z.h * z.w = mul-le-mul h (le_refl z.w) in
      let turned = mul_comm z.h z.w in
      let y = S.room in
      let x = S.exact in
      record { there = omega arith; room = omega arith; wide = w; small = small }

  pub back_start : {s : List ℕ} → BlockLoaded pyramid work (z.h / 2 ^ z.n) (z.w / 2 ^ z.n) z.w s → BackStage z pyramid s z.n s
  unfolding returned
  back_start B =
      let e : z.n - z.n ≡ 0 = omega arith in
      let h = shr_le z.h z.n in
      let w = shr_le z.w z.n in
      record {
        same = refl;
        inside = λ g G i j a b.
            ap toned (B.loads i j a b) ∙ toned_of (get_or pyramid (i * z.w + j) (pos 0)) (most i j (omega arith) (omega arith))
            ∙ G i j (omega arith) (omega arith) ∙ rw e refl;
      }

  pub block_joining : {s : List ℕ} → BlockLoaded pyramid work (z.h / 2 ^ z.n) (z.w / 2 ^ z.n) z.w s → Joining z pyramid s
  block_joining B = record { legal = S.legal; room = omega (arith, S.room, B.same); exact = S.exact; most = S.most }

  module _ {l : ℕ} (a : l < z.n) {s : List ℕ} (T : BackStage z pyramid work (l + 1) s) where
    abbrev p : ℕ
    p = z.h / 2 ^ (l + 1)

    abbrev n : ℕ
    n = z.w / 2 ^ (l + 1)

    abbrev k : ℕ
    k = z.n - (l + 1)

    rows_halve : z.h / 2 ^ l ≡ 2 * p
    rows_halve = rw add-one (Z.height.half l (omega arith))

    columns_halve : z.w / 2 ^ l ≡ 2 * n
    columns_halve = rw add-one (Z.width.half l (omega arith))

    some_rows : 1 ≤ p
    some_rows = rw add-one (side_some z.n z.h Z.height (suc l) (omega arith))

    some_columns : 1 ≤ n
    some_columns = rw add-one (side_some z.n z.w Z.width (suc l) (omega arith))

    high_side : 2 * p ≤ z.h
    high_side = omega (arith, rows_halve, shr_le z.h l)

    wide_side : 2 * n ≤ z.w
    wide_side = omega (arith, columns_halve, shr_le z.w l)

    cell_near : (i j : ℕ) → i < p → j < n → nat_abs (toned (get_or s (i * n + j) 0)) ≤ shallow
    cell_near i j b c =
        rw (T.inside g₀ own i j b c)
        ((room_back z Z (omega (arith, Z.few)) g₀ most k l (omega arith)).taken i j (omega (arith, rows_halve)) (omega (arith, columns_halve)))

    room : BackRoom (turn_at z l) pyramid s
    room =
        let h = high_side in
        let w = wide_side in
        let all : 2 * p * (2 * n) ≤ z.h * z.w = mul-le-mul {n₁ = 2 * p} {n₂ = z.h} h w in
        let long : 2 * p * z.w ≤ z.h * z.w = mul-le-mul {n₁ = 2 * p} {n₂ = z.h} h (le_refl z.w) in
        let four : z.w * 4 ≤ z.w * z.h = mul-le-mul {n₁ = z.w} {n₂ = z.w} (le_refl z.w) Z.height.least in
        let turned = mul_comm z.h z.w in
        let v = Z.width.least in
        let e = T.same in
        let y = S.room in
        let x = S.exact in
        record { some = some_columns; wide = omega arith; picture = omega arith; lines = omega arith; rows = omega arith; small = small }

    near : (r : ℕ) → r < p → Near (line s (r * n)) n shallow
    near r b =
        record {
          least = λ c q. tone_least (get_or s (r * n + c) 0) shallow (cell_near r c b q);
          most = λ c q. tone_most (get_or s (r * n + c) 0) shallow (cell_near r c b q);
        }

    turn_back_lem : ForJoinTurn (turn_at z l) pyramid s
    turn_back_lem = record { room = room; some = some_rows; near = near }

    pub back_asks : {t : Turn} → t ≡ turn_at z l → ForJoinTurn t pyramid s
    back_asks e = rw e turn_back_lem

    module _ (g : Grid) (G : NumbersOf z pyramid g) where
      abbrev y : Grid
      y = returned z k g

      -- what lies outside the smaller block is the pyramid's
      outer : (i j : ℕ) → i < z.h → j < z.w → (i < p → j < n → ⊥) → (q : ℕ) → q ≡ i * z.w + j → toned (tone_of (get_or pyramid q (pos 0))) ≡ y i j
      outer i j b c o q e =
          rw e
          (toned_of (get_or pyramid (i * z.w + j) (pos 0)) (most i j b c) ∙ G i j b c
          ∙ sym (returned_outside z g i j k (l + 1) (omega arith) o))

      low_stands : (r j : ℕ) → r < p → j < 2 * n → toned (low_row (turn_at z l) pyramid s r j) ≡ joined n (y r) j
      low_stands r j b c =
          let h = high_side in
          let w = wide_side in
          let B = tones_near room b (r * z.w + n) n (omega (arith, bands_there room b)) in
          let N = near r b in
          joined_stands n (line s (r * n)) (tones_at pyramid (r * z.w + n)) (y r) some_columns
          (record { least = λ d q. omega (arith, N.least d q); most = λ d q. omega (arith, N.most d q) })
          (record { least = λ d q. omega (arith, B.least d q); most = λ d q. omega (arith, B.most d q) })
          (λ d q. T.inside g G r d b q)
          (λ d q. outer r (n + d) (omega arith) (omega arith) (λ u v. omega arith) (r * z.w + n + d) (omega arith))
          j c

      high_stands : (r j : ℕ) → r < p → j < 2 * n → toned (high_row (turn_at z l) pyramid r j) ≡ joined n (y (p + r)) j
      high_stands r j b c =
          let h = high_side in
          let w = wide_side in
          let A = tones_near room b ((p + r) * z.w) n (omega (arith, bands_there room b)) in
          let B = tones_near room b ((p + r) * z.w + n) n (omega (arith, bands_there room b)) in
          joined_stands n (tones_at pyramid ((p + r) * z.w)) (tones_at pyramid ((p + r) * z.w + n)) (y (p + r)) some_columns
          (record { least = λ d q. omega (arith, A.least d q); most = λ d q. omega (arith, A.most d q) })
          (record { least = λ d q. omega (arith, B.least d q); most = λ d q. omega (arith, B.most d q) })
          (λ d q. outer (p + r) d (omega arith) (omega arith) (λ u v. omega arith) ((p + r) * z.w + d) refl)
          (λ d q. outer (p + r) (n + d) (omega arith) (omega arith) (λ u v. omega arith) ((p + r) * z.w + n + d) (omega arith))
          j c

      block_stands : (i j : ℕ) → i < 2 * p → j < 2 * n → toned (returned_t (turn_at z l) pyramid s i j) ≡ returned z (z.n - l) g i j
      block_stands i j b c =
          let e : z.n - l ≡ suc k = omega arith in
          let hp : z.h / 2 ^ l / 2 ≡ p = omega (arith, rows_halve) in
          let hn : z.w / 2 ^ l / 2 ≡ n = omega (arith, columns_halve) in
          let t : turn_back z l y i j ≡ joined p (λ r. joined n (y r) j) i =
          rw (hp, hn) at (turn_back_at z Z l (omega arith) y i j (omega (arith, rows_halve)) (omega (arith, columns_halve))) in
          joined_stands p (λ r. low_row (turn_at z l) pyramid s r j) (λ r. high_row (turn_at z l) pyramid r j) (λ r. joined n (y r) j) some_rows
          (record { least = λ r q. (low_row_near turn_back_lem r q).least j c; most = λ r q. (low_row_near turn_back_lem r q).most j c })
          (record { least = λ r q. (high_row_near room r q).least j c; most = λ r q. (high_row_near room r q).most j c })
          (λ r q. low_stands r j q c) (λ r q. high_stands r j q c) i b
          ∙ sym t ∙ sym (ap (λ f. f i j) (returned_next z g k l (omega arith))) ∙ ap (λ x. returned z x g i j) (sym e)

    pub back_next : {t : Turn} → t ≡ turn_at z l → {s' : List ℕ} → TurnJoined t pyramid s s' → BackStage z pyramid work l s'
    back_next e {s'} U =
        let W : TurnJoined (turn_at z l) pyramid s s' = subst (λ u. TurnJoined u pyramid s s') e U in
        record {
          same = W.same ∙ T.same;
          inside = λ g G i j b c.
              rw columns_halve
              (ap toned (W.picture i j (omega (arith, rows_halve)) (omega (arith, columns_halve)))
              ∙ block_stands g G i j (omega (arith, rows_halve)) (omega (arith, columns_halve)));
        }

  -- l turns to come, the next of which is turn l - 1
  module _ {l : ℕ} {s : List ℕ} (T : BackStage z pyramid work l s) (some : 0 < l) (few : l ≤ z.n) where
    later : BackStage z pyramid work (l - 1 + 1) s
    later = let e : l ≡ l - 1 + 1 = omega arith in subst (λ n. BackStage z pyramid work n s) e T

    pub turn_asks : {t : Turn} → t ≡ turn_at z (l - 1) → ForJoinTurn t pyramid s
    turn_asks e = back_asks (omega arith) later e

    pub turn_next : {t : Turn} → t ≡ turn_at z (l - 1) → {s' : List ℕ} → TurnJoined t pyramid s s' → BackStage z pyramid work (l - 1) s'
    turn_next e U = back_next (omega arith) later e U

  pub back_end : {s₁ : List ℕ} → BlockLoaded pyramid work (z.h / 2 ^ z.n) (z.w / 2 ^ z.n) z.w s₁ → {l : ℕ} {s : List ℕ}
      → BackStage z pyramid s₁ l s → l ≤ 0 → Joined z pyramid work s
  back_end {s₁} L {l} {s} T h =
      let e : l ≡ 0 = omega arith in
      let all : z.n - 0 ≡ z.n = omega arith in
      let B : BackStage z pyramid s₁ 0 s = subst (λ n. BackStage z pyramid s₁ n s) e T in
      record {
        same = B.same ∙ L.same;
        picture = λ g G i j a b.
            rw (div-one z.w) at (B.inside g G i j (omega (arith, div-one z.h)) (omega (arith, div-one z.w)))
            ∙ ap (λ n. returned z n g i j) all
            ∙ ap (λ f. f i j) (returned_back z g);
      }
