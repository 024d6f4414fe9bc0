-- Files written are read back, whatever stands behind their pixels; and what stands behind the pixels of any file makes no difference.
use Rattle.std.specs.Prelude.{◌≡◌, List, ◌++◌, ℕ, ◌*◌, length}
use Rattle.pictures.specs.Document.Netpbm.{picture}
use Rattle.pictures.specs.Document.Netpbm.{read_file}

-- A file that is a picture.
pub record IsPicture (s : List ℕ) (w h : ℕ) (pixels : List ℕ) : Type 0 where
  pub front : List ℕ
  pub rest : List ℕ
  pub split : s ≡ front ++ (pixels ++ rest)
  pub all_there : length pixels ≡ w * h
  pub with_more : (more : List ℕ) → read_file (s ++ more) ≡ picture w h pixels
