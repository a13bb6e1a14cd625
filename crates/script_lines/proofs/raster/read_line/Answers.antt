use Rattle.std.proofs.Common.{rules, ◌≡◌, ◌∷◌, [], refl, sym, ◌∙◌, w32, to_z, of_z}
use Rattle.std.proofs.lemmas.Int.{to_z-of_z}
use Rattle.script_rules.specs.Fields.{with_clip, line_by}
use Rattle.script_rules.specs.Fields.Field.{Coordinate, Digits}
use Rattle.script_lines.proofs.Fields.{then_reads, then_none, none_first, no_drawing, drawn, reads_same, same_point}
use Rattle.script_lines.proofs.raster.read_line.Goals as goal

pub returns-in_err-from : goal.returns-in_err-from
returns-in_err-from c = c.from_residual.ensures ∙ sym (no_drawing with_clip line_by (none_first (Coordinate ∷ Coordinate ∷ Digits 6 ∷ []) c.in_err-from.ensures))

pub returns-in_err-to : goal.returns-in_err-to
returns-in_err-to c = c.from_residual-in_err-to.ensures ∙ sym (no_drawing with_clip line_by (none_first (Digits 6 ∷ []) (then_none c.in_ok-from.ensures c.in_err-to.ensures)))

pub returns-in_err-color : goal.returns-in_err-color
returns-in_err-color c = c.from_residual-in_err-color.ensures ∙ sym (no_drawing with_clip line_by (then_none (then_reads c.in_ok-from.ensures c.in_ok-to.ensures) c.in_err-color.ensures))

pub returns : goal.returns
returns c =
    let from_x : c.in_ok-from.from.x ≡ to_z w32 (of_z w32 c.in_ok-from.from.x) = sym (search (rules, to_z-of_z)) in
    let from_y : c.in_ok-from.from.y ≡ to_z w32 (of_z w32 c.in_ok-from.from.y) = sym (search (rules, to_z-of_z)) in
    let to_x : c.in_ok-to.to.x ≡ to_z w32 (of_z w32 c.in_ok-to.to.x) = sym (search (rules, to_z-of_z)) in
    let to_y : c.in_ok-to.to.y ≡ to_z w32 (of_z w32 c.in_ok-to.to.y) = sym (search (rules, to_z-of_z)) in
    c.clipped.ensures ∙ sym (drawn with_clip line_by (then_reads (then_reads (reads_same c.in_ok-from.ensures (same_point from_x from_y)) (reads_same c.in_ok-to.ensures (same_point to_x to_y))) c.in_ok-color.ensures) refl)
