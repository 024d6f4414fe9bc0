-- Lists of which some places were written.
use Rattle.std.specs.Prelude.{◌≡◌, ◌≢◌, List, ℕ, ◌+◌, ◌<◌, length, get_or}

-- the places from `at` on
abbrev pub along : ℕ → ℕ → ℕ
along at c = at + c

-- q is none of the n places
abbrev pub Off : ℕ → (ℕ → ℕ) → ℕ → Type 0
Off q place n = (c : ℕ) → c < n → q ≢ place c

-- s is s₀, with new c at each of the n places; z is read past the end.
pub record Filled {A : Type 0} (z : A) (s₀ : List A) (place : ℕ → ℕ) (new : ℕ → A) (n : ℕ) (s : List A) : Type 0 where
  pub same : length s ≡ length s₀
  pub done : (c : ℕ) → c < n → get_or s (place c) z ≡ new c
  pub kept : (q : ℕ) → Off q place n → get_or s q z ≡ get_or s₀ q z

-- two lines of n numbers
pub record Both (s₀ : List ℕ) (first : ℕ → ℕ) (new₁ : ℕ → ℕ) (second : ℕ → ℕ) (new₂ : ℕ → ℕ) (n : ℕ) (s : List ℕ) : Type 0 where
  pub same : length s ≡ length s₀
  pub one : (c : ℕ) → c < n → get_or s (first c) 0 ≡ new₁ c
  pub other : (c : ℕ) → c < n → get_or s (second c) 0 ≡ new₂ c
  pub kept : (q : ℕ) → Off q first n → Off q second n → get_or s q 0 ≡ get_or s₀ q 0
