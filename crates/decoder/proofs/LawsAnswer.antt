use Rattle.std.specs.Prelude.{Ok}
-- What a header that was read says of its size.
use mathlib.Core.Path.{◌≡◌}
use mathlib.Core.Bool.{true}
use mathlib.Core.List.{List}
use Prim.Native.Nat.{ℕ, ◌*◌}
use native.Mathlib.Omega.{arith}
use mir.Syntax.{w64}
use mir.Val.{Fits}
use Rattle.rules.specs.declared.Header.{Header}
use Rattle.rules.specs.Document.Pyramid.{legal_size}
use Rattle.rules.specs.Document.Numbers.{read_header}
use Rattle.rules.proofs.Laws.Family.Sizes.{area_bound}
use Rattle.rules.specs.Laws.Reading.Stands.{HeaderStands}
use Rattle.rules.proofs.Laws.Reading.Stands.{read_header_stands, header_legal}

-- A header that was read.
module _ (s : List ℕ) (h : Header) (e : read_header s ≡ Ok h) where
  whole_header : HeaderStands s h
  whole_header = read_header_stands s h e

  pub area_fits : Fits w64 (h.size.w * h.size.h)
  area_fits = record { fits = omega (arith, area_bound h.size (header_legal whole_header)) }

  pub size_legal : legal_size h.size ≡ true
  size_legal = header_legal whole_header
