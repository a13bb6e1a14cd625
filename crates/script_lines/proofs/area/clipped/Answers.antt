use Rattle.std.proofs.Common.{sym, ap, ◌∙◌}
use Rattle.std.specs.Prelude.{option_map}
use Rattle.draw_ops.specs.declared.shape.Drawing.{Drawing}
use Rattle.script_lines.proofs.Fields.{clip_is}
use Rattle.script_lines.proofs.area.clipped.Goals as goal

pub returns-in-Some : goal.returns-in-Some
returns-in-Some c = sym (clip_is c.args.shape c.args.words.now ∙ ap (option_map (λ clip. let d : Drawing = record { shape = c.args.shape; clip = clip } in d)) (sym c.in-Some.ensures))

pub returns-in-None : goal.returns-in-None
returns-in-None c = sym (clip_is c.args.shape c.args.words.now ∙ ap (option_map (λ clip. let d : Drawing = record { shape = c.args.shape; clip = clip } in d)) (sym c.in-None.ensures))
