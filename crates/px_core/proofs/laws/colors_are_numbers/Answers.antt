use Rattle.px_core.proofs.Colors.{all_are_colors, colors_are_below}
use Rattle.px_core.proofs.laws.colors_are_numbers.Goals as goal

pub returns : goal.returns
returns c = λ colors. (colors_are_below colors, all_are_colors colors)
