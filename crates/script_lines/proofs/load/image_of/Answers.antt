use Rattle.std.proofs.Common.{rules, ◌≡◌, ◌*◌, replicate, get_or, ◌∙◌, sym, subst, IsTrue}
use Rattle.px_core.specs.Colors.{are_colors}
use Rattle.script_lines.proofs.Colors.{first_color}
use Rattle.script_lines.proofs.load.image_of.Goals as goal

pub new-requires : goal.new-requires
new-requires c =
    let count = c.from.result * c.from-2.result in
    let items : c.in_ok-pixels-in-len1.pixels.items ≡ replicate count (get_or c.args.colors.now 0 0) = search rules in
    subst (λ pixels. IsTrue (are_colors pixels)) (sym (c.deref.ensures.value ∙ items)) (first_color count c.args.colors.now c.in-len1.len_at_least c.requires)

pub returns-in_ok-new-in_default : goal.returns-in_ok-new-in_default
returns-in_ok-new-in_default c = search rules
