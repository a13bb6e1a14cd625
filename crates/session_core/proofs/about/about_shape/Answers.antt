use Rattle.std.proofs.Common.{◌≡◌, true, ℤ, [], ◌∷◌, sym, subst, rules, w32, to_z, of_z}
use Rattle.std.specs.Prelude.{◌&&◌}
use Rattle.std.proofs.lemmas.Int.{to_z-of_z}
use Rattle.std.proofs.lemmas.Bool.{and_parts, and_from}
use Rattle.px_core.specs.Colors.{is_color, are_colors}
use Rattle.draw_ops.specs.declared.shape.Shape.{Shape}
use Rattle.draw_ops.specs.Ranges.{colors_of, is_point_in_range, is_shape_in_range}
use Rattle.session_core.proofs.about.about_shape.Goals as goal

pub returns-in-Line-clause-range : goal.returns-in-Line-clause-range
returns-in-Line-clause-range c h = let l = c.in-Line in
    let e0 : to_z w32 (of_z w32 l.x0) ≡ l.x0 = search (rules, to_z-of_z) in
    let f0 : to_z w32 (of_z w32 l.y0) ≡ l.y0 = search (rules, to_z-of_z) in
    let e1 : to_z w32 (of_z w32 l.x1) ≡ l.x1 = search (rules, to_z-of_z) in
    let f1 : to_z w32 (of_z w32 l.y1) ≡ l.y1 = search (rules, to_z-of_z) in
    let first : is_point_in_range l.x0 l.y0 ≡ true = subst (λ (z : ℤ). is_point_in_range l.x0 z ≡ true) f0
    (subst (λ (z : ℤ). is_point_in_range z (to_z w32 (of_z w32 l.y0)) ≡ true) e0 c.point_is_in_range-in-Line.ensures) in
    let second : is_point_in_range l.x1 l.y1 ≡ true = subst (λ (z : ℤ). is_point_in_range l.x1 z ≡ true) f1
    (subst (λ (z : ℤ). is_point_in_range z (to_z w32 (of_z w32 l.y1)) ≡ true) e1 c.point_is_in_range-in-Line-2.ensures) in
    let colored : are_colors (l.color ∷ []) ≡ true = subst (λ (s : Shape). are_colors (colors_of s) ≡ true) l.is h in
    subst (λ (s : Shape). is_shape_in_range s ≡ true) (sym l.is)
    (and_from (is_point_in_range l.x0 l.y0 && is_point_in_range l.x1 l.y1) (is_color l.color)
    (and_from (is_point_in_range l.x0 l.y0) (is_point_in_range l.x1 l.y1) first second) (and_parts (is_color l.color) (are_colors []) colored).0)
