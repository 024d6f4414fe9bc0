-- `coefficients::planes_of`: the bits of a number are those without the zeros in front.
use Rattle.coefficients.proofs.Searches.{planes_left}
use Rattle.coefficients.proofs.planes_of.Goals as goal

pub returns : goal.returns
returns c = planes_left _ c.ranges.m.fits
