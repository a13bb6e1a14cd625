use Rattle.script_lines.proofs.Colors.{read_are_colors}
use Rattle.script_lines.proofs.load.read_colors.Goals as goal

pub returns-clause-colors : goal.returns-clause-colors
returns-clause-colors c = read_are_colors (λ colors. colors.items) c.args.word.now c.read_hexadecimals.result c.read_hexadecimals.ensures
