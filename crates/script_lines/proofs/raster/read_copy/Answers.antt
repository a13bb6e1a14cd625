use Rattle.std.proofs.Common.{rules, ◌≡◌, ◌∷◌, [], refl, sym, ◌∙◌, w32, to_z, of_z}
use Rattle.std.proofs.lemmas.Int.{to_z-of_z}
use Rattle.script_rules.specs.Fields.{with_clip, copy_by}
use Rattle.script_rules.specs.Fields.Field.{Coordinate, Digits}
use Rattle.script_lines.proofs.Fields.{then_reads, then_none, none_first, no_drawing, drawn, reads_same, same_point}
use Rattle.script_lines.proofs.raster.read_copy.Goals as goal

pub returns-in_err-rect : goal.returns-in_err-rect
returns-in_err-rect c = c.from_residual.ensures ∙ sym (no_drawing with_clip copy_by (none_first (Digits 2 ∷ Coordinate ∷ Coordinate ∷ []) c.in_err-rect.ensures))

pub returns-in_err-rop : goal.returns-in_err-rop
returns-in_err-rop c = c.from_residual-in_err-rop.ensures ∙ sym (no_drawing with_clip copy_by (none_first (Coordinate ∷ Coordinate ∷ []) (then_none c.in_ok-rect.ensures c.in_err-rop.ensures)))

pub returns-in_err-source : goal.returns-in_err-source
returns-in_err-source c = c.from_residual-in_err-source.ensures ∙ sym (no_drawing with_clip copy_by (then_none (then_reads c.in_ok-rect.ensures c.in_ok-rop.ensures) c.in_err-source.ensures))

pub returns : goal.returns
returns c =
    let source_x : c.in_ok-source.source.x ≡ to_z w32 (of_z w32 c.in_ok-source.source.x) = sym (search (rules, to_z-of_z)) in
    let source_y : c.in_ok-source.source.y ≡ to_z w32 (of_z w32 c.in_ok-source.source.y) = sym (search (rules, to_z-of_z)) in
    c.clipped.ensures ∙ sym (drawn with_clip copy_by (then_reads (then_reads c.in_ok-rect.ensures c.in_ok-rop.ensures) (reads_same c.in_ok-source.ensures (same_point source_x source_y))) refl)
