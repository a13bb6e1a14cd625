use Rattle.std.proofs.Common.{rules}
use Rattle.surface_parts.proofs.fits.fits_if.Goals as goal

pub returns-else-test : goal.returns-else-test
returns-else-test c = search rules
