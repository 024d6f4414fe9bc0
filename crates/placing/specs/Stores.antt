-- What a run of stores leaves: number t of them stands at place P t, and all that is at none of these places is as it was.
--
--   corner_of w p f   place f of a block of four whose first place is p, in rows of w
use Rattle.std.specs.Prelude.{◌≡◌, ◌≢◌, List, ℕ, ◌+◌, ◌*◌, ◌/◌, ◌%◌, ◌^◌, ◌<◌, length, get_or, ℤ, pos, nat_abs}

pub record Put {A : Type 0} (d : A) (P : ℕ → ℕ) (n : ℕ) (v : ℕ → A) (s s' : List A) : Type 0 where
  pub same : length s' ≡ length s
  pub put : (t : ℕ) → t < n → get_or s' (P t) d ≡ v t
  pub others : (q : ℕ) → ((t : ℕ) → t < n → q ≢ P t) → get_or s' q d ≡ get_or s q d

unfoldable pub corner_of : ℕ → ℕ → ℕ → ℕ
corner_of w p f = p + f % 2 + f / 2 * w

-- and of the three blocks under a group's roots, `right` and `below` from the group's place p
unfoldable pub rank_of : ℕ → ℕ → ℕ → ℕ → ℕ
rank_of right below p m = p + (m + 1) % 2 * right + (m + 1) / 2 * below

-- n places of a list of so many, each once
pub record Apart (P : ℕ → ℕ) (n m : ℕ) : Type 0 where
  pub inside : (t : ℕ) → t < n → P t < m
  pub one : (t u : ℕ) → t < n → u < n → P t ≡ P u → t ≡ u

-- numbers that all are under a bound
pub record Under (m n : ℕ) (s : List ℕ) (from : ℕ) : Type 0 where
  pub under : (b : ℕ) → b < n → get_or s (from + b) 0 < m

-- values that fit into a word
pub record Small (v : List ℤ) : Type 0 where
  pub small : (q : ℕ) → nat_abs (get_or v q (pos 0)) < 2 ^ 31
