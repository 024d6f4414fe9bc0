-- One turn: columns, then rows. The picture before it is the block of 2 x pairs rows and 2 x half columns at the start of the workspace.
use Rattle.std.specs.Prelude.{◌≡◌, List, ℕ, ◌+◌, ◌*◌, ◌/◌, ◌^◌, ◌≤◌, ◌<◌, length, get_or, ℤ, pos}
use Rattle.rules.specs.declared.Size.{Size}
use Rattle.pictures.specs.Laws.Tones.{bias, toned}
use Rattle.pictures.specs.Laws.Room.{shallow}
use Rattle.lifting.specs.declared.Turn.{Turn}
use Rattle.lifting.specs.Lines.{Near, high_t, low_t, split_t}
use Rattle.lifting.specs.Rows.{Room}

abbrev pub picture : Turn → List ℕ → ℕ → ℕ → ℕ
picture t s r c = get_or s (r * (2 * t.half) + c) 0

-- each column split: rows of lows, rows of highs
abbrev pub lows_of : Turn → List ℕ → ℕ → ℕ → ℕ
lows_of t s r c = low_t t.pairs (λ k. picture t s k c) r

abbrev pub highs_of : Turn → List ℕ → ℕ → ℕ → ℕ
highs_of t s r c = high_t t.pairs (λ k. picture t s k c) r

pub record ForTurn (t : Turn) (s : List ℕ) (out : List ℤ) : Type 0 where
  pub room : Room t s out
  pub some : 1 ≤ t.pairs
  pub near : (r : ℕ) → r < 2 * t.pairs → Near (picture t s r) (2 * t.half) shallow

pub record TurnSplit (t : Turn) (s₀ : List ℕ) (out₀ : List ℤ) (s : List ℕ) (out : List ℤ) : Type 0 where
  pub same : length s ≡ length s₀
  pub same_out : length out ≡ length out₀
  pub next : (r c : ℕ) → r < t.pairs → c < t.half → get_or s (r * t.half + c) 0 ≡ low_t t.half (lows_of t s₀ r) c
  pub right : (r c : ℕ) → r < t.pairs → c < t.half
      → get_or out (r * t.stride + t.half + c) (pos 0) ≡ toned (high_t t.half (lows_of t s₀ r) c)
  pub bottom : (r c : ℕ) → r < t.pairs → c < 2 * t.half
      → get_or out ((t.pairs + r) * t.stride + c) (pos 0) ≡ toned (split_t t.half (highs_of t s₀ r) c)
  pub kept_below : (r c : ℕ) → 2 * t.pairs ≤ r → c < t.stride
      → get_or out (r * t.stride + c) (pos 0) ≡ get_or out₀ (r * t.stride + c) (pos 0)
  pub kept_beside : (r c : ℕ) → 2 * t.half ≤ c → c < t.stride
      → get_or out (r * t.stride + c) (pos 0) ≡ get_or out₀ (r * t.stride + c) (pos 0)

-- turn l of a picture of size z
abbrev pub turn_at : Size → ℕ → Turn
turn_at z l = record { half = z.w / 2 ^ (l + 1); pairs = z.h / 2 ^ (l + 1); stride = z.w; lines = z.w * z.h }

-- a block of h rows and w columns stored as coefficients
pub record ForBlock (s : List ℕ) (out : List ℤ) (h w stride : ℕ) : Type 0 where
  pub there : h * w ≤ length s
  pub room : h * stride ≤ length out
  pub wide : w ≤ stride
  pub small : (r c : ℕ) → r < h → c < w → get_or s (r * w + c) 0 ≤ 2 * bias

pub record BlockStored (s : List ℕ) (out₀ : List ℤ) (h w stride : ℕ) (out : List ℤ) : Type 0 where
  pub same : length out ≡ length out₀
  pub stored : (r c : ℕ) → r < h → c < w → get_or out (r * stride + c) (pos 0) ≡ toned (get_or s (r * w + c) 0)
  pub kept_below : (r c : ℕ) → h ≤ r → c < stride → get_or out (r * stride + c) (pos 0) ≡ get_or out₀ (r * stride + c) (pos 0)
  pub kept_beside : (r c : ℕ) → w ≤ c → c < stride → get_or out (r * stride + c) (pos 0) ≡ get_or out₀ (r * stride + c) (pos 0)
