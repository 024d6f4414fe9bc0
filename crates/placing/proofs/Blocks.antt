-- The loops over blocks and rows: what was stored for the first b of them, one more, and all.
use mathlib.Core.Path.{◌≡◌, refl, ap, subst}
use mathlib.Core.Logic.{◌⊎◌, inl, inr}
use mathlib.Core.List.{List}
use Prim.Native.Nat.{ℕ, suc, ◌+◌, ◌*◌, ◌/◌, ◌%◌, ◌^◌, ◌≤◌, ◌<◌}
use native.Mathlib.Omega.{arith}
use native.Mathlib.Nat.{mul-le-mul}
use lib.ListN.{length, get_or, set}
use lib.IntN.{ℤ, pos}
use Rattle.coefficients.specs.Words.{value_of}
use Rattle.placing.specs.Stores.{Put, Apart, Under, corner_of, rank_of}
use Rattle.placing.proofs.Stores.{put_none, put_more, block_stored, block_laid, block_inside, read_kept, apart_row, row_stored}

pub put_count : {A : Type 0} {d : A} {P : ℕ → ℕ} {n : ℕ} {v : ℕ → A} {s s' : List A} → Put d P n v s s' → (m : ℕ) → n ≡ m → Put d P m v s s'
put_count {A} {d} {P} {n} {v} {s} {s'} H m e = subst (λ (i : ℕ). Put d P i v s s') e H

-- numbers stored for each block, the places of the blocks read from `from` on, before or behind the stores
pub record Storing (g : ℕ → ℕ → ℕ) (from blocks to : ℕ) (s : List ℕ) (b : ℕ) (s₁ : List ℕ) : Type 0 where
  pub read : from + blocks ≤ length s
  pub room : to + 4 * blocks ≤ length s
  pub beside : (from + blocks ≤ to) ⊎ (to + 4 * blocks ≤ from)
  pub places : Under (2 ^ 20) blocks s from
  pub stored : Put 0 (λ t. to + t) (4 * b) (λ t. g (get_or s (from + t / 4) 0) (t % 4)) s s₁

module _ {g : ℕ → ℕ → ℕ} {from blocks to : ℕ} {s : List ℕ} {b : ℕ} {s₁ : List ℕ} (S : Storing g from blocks to s b s₁) where
  read_before : b < blocks → get_or s₁ (from + b) 0 ≡ get_or s (from + b) 0
  read_before l = by S.beside
    where
      by : (from + blocks ≤ to) ⊎ (to + 4 * blocks ≤ from) → get_or s₁ (from + b) 0 ≡ get_or s (from + b) 0
      by (inl x) = read_kept S.stored (from + b) (inl (omega arith))
      by (inr x) = read_kept S.stored (from + b) (inr (omega arith))

  pub storing_under : b < blocks → get_or s₁ (from + b) 0 < 2 ^ 20
  storing_under l = omega (arith, read_before l, S.places.under b l)

  pub storing_apart : b < blocks → Apart (λ f. to + 4 * b + f) 4 (length s₁)
  storing_apart l = apart_row (to + 4 * b) 4 (length s₁) (omega (arith, S.room, S.stored.same))

  pub storing_more : b < blocks → {s₂ : List ℕ} → Put 0 (λ f. to + 4 * b + f) 4 (g (get_or s₁ (from + b) 0)) s₁ s₂ → Storing g from blocks to s (b + 1) s₂
  storing_more l K =
      record {
        read = S.read;
        room = S.room;
        beside = S.beside;
        places = S.places;
        stored =
            block_stored from blocks b _ s l (read_before l) (apart_row to (4 * blocks) (length s) S.room) g S.stored K (λ f k. omega arith);
      }

  pub storing_all : b ≡ blocks → Put 0 (λ t. to + t) (4 * blocks) (λ t. g (get_or s (from + t / 4) 0) (t % 4)) s s₁
  storing_all h = put_count S.stored (4 * blocks) (omega arith)

-- values laid out for each block
abbrev pub corner_in : ℕ → List ℕ → ℕ → ℕ → ℕ
corner_in w s from t = corner_of w (get_or s (from + t / 4) 0) (t % 4)

pub record Laying (w : ℕ) (s : List ℕ) (from blocks words : ℕ) (out : List ℤ) (b : ℕ) (out₁ : List ℤ) : Type 0 where
  pub read : from + blocks ≤ length s
  pub before : words + 4 * blocks ≤ from
  pub wide : 2 ≤ w
  pub apart : Apart (corner_in w s from) (4 * blocks) (length out)
  pub laid : Put (pos 0) (corner_in w s from) (4 * b) (λ t. value_of (get_or s (words + t) 0)) out out₁

module _ {w : ℕ} {s : List ℕ} {from blocks words : ℕ} {out : List ℤ} {b : ℕ} {out₁ : List ℤ} (L : Laying w s from blocks words out b out₁) where
  pub laying_inside : b < blocks → get_or s (from + b) 0 + w + 1 < length out₁
  laying_inside l = omega (arith, block_inside from blocks b w (length out) s L.apart l, L.laid.same)

  pub laying_more : b < blocks → {out₂ : List ℤ}
      → Put (pos 0) (corner_of w (get_or s (from + b) 0)) 4 (λ f. value_of (get_or s (words + 4 * b + f) 0)) out₁ out₂
      → Laying w s from blocks words out (b + 1) out₂
  laying_more l K =
      record {
        read = L.read;
        before = L.before;
        wide = L.wide;
        apart = L.apart;
        laid =
            block_laid from blocks b _ s l refl (corner_of w) L.apart L.laid K
            (λ f k. let j : words + 4 * b + f ≡ words + (4 * b + f) = omega arith in ap (λ (x : ℕ). value_of (get_or s x 0)) j);
      }

  pub laying_all : b ≡ blocks → Put (pos 0) (corner_in w s from) (4 * blocks) (λ t. value_of (get_or s (words + t) 0)) out out₁
  laying_all h = put_count L.laid (4 * blocks) (omega arith)

-- numbers or values stored one after another, so many of them, `base` the place of the first in a pyramid of m
pub record Rowing {A : Type 0} (d : A) (P : ℕ → ℕ) (base n m : ℕ) (v : ℕ → A) (s : List A) (j : ℕ) (s₁ : List A) : Type 0 where
  pub inside : base + n ≤ m
  pub apart : Apart P n (length s)
  pub stored : Put d P j v s s₁

module _ {A : Type 0} {d : A} {P : ℕ → ℕ} {base n m : ℕ} {v : ℕ → A} {s : List A} where
  pub rowing_none : base + n ≤ m → Apart P n (length s) → Rowing d P base n m v s 0 s
  rowing_none h I = record { inside = h; apart = I; stored = put_none refl }

  module _ {j : ℕ} {s₁ : List A} (R : Rowing d P base n m v s j s₁) where
    pub rowing_more : j < n → (q : ℕ) → q ≡ P j → (a : A) → a ≡ v j → Rowing d P base n m v s (j + 1) (set s₁ q a)
    rowing_more l q e a i = record { inside = R.inside; apart = R.apart; stored = put_more R.apart l R.stored q e a i }

    pub rowing_all : j ≡ n → Put d P n v s s₁
    rowing_all h = put_count R.stored n h

-- the blocks of so many rows of groups
abbrev pub group_place : ℕ → ℕ → ℕ → ℕ → ℕ → ℕ → ℕ
group_place rows across w i j m = rank_of (2 * across) (2 * rows * w) (2 * i * w + 2 * j) m

-- with bounds of what is formed for row i
pub record Grouping (to rows across w : ℕ) (s : List ℕ) (i : ℕ) (s₁ : List ℕ) : Type 0 where
  pub room : to + 3 * (rows * across) ≤ length s
  pub narrow : across ≤ 512
  pub own : i * across ≤ rows * across
  pub groups : rows * across ≤ 262144
  pub place : i * w ≤ rows * w
  pub below : rows * w ≤ 262144
  pub stored : Put 0 (λ t. to + t) (3 * (i * across)) (λ t. group_place rows across w (t / 3 / across) (t / 3 % across) (t % 3)) s s₁

pub grouping_none : {to rows across w : ℕ} {s : List ℕ} → to + 3 * (rows * across) ≤ length s → rows ≤ 512 → across ≤ 512 → w ≤ 512
    → Grouping to rows across w s 0 s
grouping_none h a b c =
    record {
      room = h;
      narrow = b;
      own = omega arith;
      groups = mul-le-mul a b;
      place = omega arith;
      below = mul-le-mul a c;
      stored = put_none (omega arith);
    }

module _ {to rows across w : ℕ} {s : List ℕ} {i : ℕ} {s₁ : List ℕ} (G : Grouping to rows across w s i s₁) where
  pub grouping_room : i < rows → to + 3 * (i * across) + 3 * across ≤ length s₁
  grouping_room l =
      let n : suc i * across ≤ rows * across = mul-le-mul l (omega arith) in
      omega (arith, G.room, G.stored.same)

  pub grouping_more : i < rows → {s₂ : List ℕ}
      → Put 0 (λ t. to + 3 * (i * across) + t) (3 * across) (λ t. group_place rows across w i (t / 3) (t % 3)) s₁ s₂ → Grouping to rows across w s (i + 1) s₂
  grouping_more l K =
      record {
        room = G.room;
        narrow = G.narrow;
        own = mul-le-mul (omega arith) (omega arith);
        groups = G.groups;
        place = mul-le-mul (omega arith) (omega arith);
        below = G.below;
        stored = row_stored (group_place rows across w) to rows across i (to + 3 * (i * across)) G.room l refl G.stored K;
      }

  pub grouping_all : i ≡ rows
      → Put 0 (λ t. to + t) (3 * (rows * across)) (λ t. group_place rows across w (t / 3 / across) (t / 3 % across) (t % 3)) s s₁
  grouping_all h = put_count G.stored (3 * (rows * across)) (ap (λ (x : ℕ). 3 * (x * across)) h)
