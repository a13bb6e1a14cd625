use Rattle.std.proofs.Common.{◌∙◌, ◌++◌, [], ap, sym, append_assoc, append-nil}
use Rattle.std.specs.Prelude.{if◌then◌else◌, replicate}
use Rattle.frame_rules.specs.Pointers.{row_colors}
use Rattle.pointer_share.specs.Parts.{parts_of}
use Rattle.pointer_share.proofs.shape.put_row.Goals as goal

pub returns-in_ok-extend_from_slice-2 : goal.returns-in_ok-extend_from_slice-2
returns-in_ok-extend_from_slice-2 c =
    c.in_ok-extend_from_slice-2.ensures.items ∙ ap (λ o. o ++ replicate 24 0) (c.in_ok-extend_from_slice.ensures.items ∙ ap (λ r. c.args.out.now.items ++ r) c.row_colors.ensures)
    ∙ append_assoc c.args.out.now.items (row_colors (parts_of c.args.color) c.args.row) (replicate 24 0)
    ∙ ap (λ w. c.args.out.now.items ++ (row_colors (parts_of c.args.color) c.args.row ++ (if w then replicate 24 0 else []))) (sym c.if-wide.true)

pub returns-else-wide : goal.returns-else-wide
returns-else-wide c =
    c.in_ok-extend_from_slice.ensures.items ∙ ap (λ r. c.args.out.now.items ++ r) (c.row_colors.ensures ∙ sym (append-nil (row_colors (parts_of c.args.color) c.args.row)))
    ∙ ap (λ w. c.args.out.now.items ++ (row_colors (parts_of c.args.color) c.args.row ++ (if w then replicate 24 0 else []))) (sym c.if-wide.false)
