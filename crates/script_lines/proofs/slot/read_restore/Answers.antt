use Rattle.std.proofs.Common.{rules, ◌≡◌, ◌∷◌, [], refl, sym, ◌∙◌, w32, to_z, of_z}
use Rattle.std.proofs.lemmas.Int.{to_z-of_z}
use Rattle.script_rules.specs.Fields.{without_clip, restore_by}
use Rattle.script_rules.specs.Fields.Field.{Coordinate}
use Rattle.script_lines.proofs.Fields.{then_reads, then_none, none_first, no_drawing, drawn, reads_same, same_point}
use Rattle.script_lines.proofs.slot.read_restore.Goals as goal

pub returns-in_err-slot : goal.returns-in_err-slot
returns-in_err-slot c = c.from_residual.ensures ∙ sym (no_drawing without_clip restore_by (none_first (Coordinate ∷ Coordinate ∷ []) c.in_err-slot.ensures))

pub returns-in_err-corner : goal.returns-in_err-corner
returns-in_err-corner c = c.from_residual-in_err-corner.ensures ∙ sym (no_drawing without_clip restore_by (then_none c.in_ok-slot.ensures c.in_err-corner.ensures))

pub returns : goal.returns
returns c =
    let corner_x : c.in_ok-corner.corner.x ≡ to_z w32 (of_z w32 c.in_ok-corner.corner.x) = sym (search (rules, to_z-of_z)) in
    let corner_y : c.in_ok-corner.corner.y ≡ to_z w32 (of_z w32 c.in_ok-corner.corner.y) = sym (search (rules, to_z-of_z)) in
    c.unclipped.ensures ∙ sym (drawn without_clip restore_by (then_reads c.in_ok-slot.ensures (reads_same c.in_ok-corner.ensures (same_point corner_x corner_y))) refl)
