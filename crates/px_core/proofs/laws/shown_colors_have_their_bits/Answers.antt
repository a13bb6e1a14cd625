use Rattle.px_core.proofs.Cut.{shown_below, wide_cut}
use Rattle.px_core.proofs.laws.shown_colors_have_their_bits.Goals as goal

pub returns : goal.returns
returns c = record { below = shown_below; back = wide_cut }
