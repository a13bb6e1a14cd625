-- The pixels within the bounds of an order, as a rectangle's.
use Rattle.std.proofs.Common.{◌≡◌, ℕ, ◌+◌, ◌/◌, ◌%◌, refl, ap, ◌∙◌, arith}
use Rattle.std.specs.Prelude.{◌&&◌, ℤ, pos, int_le, List, [], ◌∷◌}
use Rattle.std.proofs.lemmas.Int.{ints}
use Rattle.px_core.specs.declared.surface.Size.{Size}
use Rattle.px_core.specs.Picture.{Area, Formula, where_chosen, painted_from}
use Rattle.px_core.specs.Rectangle.{boxed, within, in_rect}
use Rattle.order_fields.specs.OrderTable.{Edges}
use Rattle.order_fields.specs.NamedDrawing.{side_between}
use Rattle.draw_ops.specs.Formulas.{Painting, painted_area, picture_after}
use Rattle.order_means.specs.ClientState.{in_edges}

-- pictures that are painted within equal areas are equal
same_painted : {A : Type 0} (w i : ℕ) (a b : Area) (f : Formula A) (ps : List A) → ((x y : ℤ) → a x y ≡ b x y) → painted_from w i a f ps ≡ painted_from w i b f ps
same_painted w i a b f [] same = refl
same_painted w i a b f (p ∷ ps) same = ap (λ t. where_chosen t f (pos (i % w)) (pos (i / w)) p ∷ painted_from w (i + 1) a f ps) (same (pos (i % w)) (pos (i / w)))
    ∙ ap (λ qs. where_chosen (b (pos (i % w)) (pos (i / w))) f (pos (i % w)) (pos (i / w)) p ∷ qs) (same_painted w (i + 1) a b f ps same)

pub same_clip : {A : Type 0} (size : Size) (a b : Area) (p : Painting A) (old : List A) → ((x y : ℤ) → a x y ≡ b x y) → picture_after size a p old ≡ picture_after size b p old
same_clip size a b p old same = same_painted size.w 0 (painted_area a p) (painted_area b p) p.formula old (λ x y. ap (λ t. t && (in_rect p.rect x y && p.area x y)) (same x y))

between : (first last z : ℤ) → within first (side_between first last) z ≡ (int_le first z && int_le z last)
between first last z = grind (arith, ints)

-- the rectangle of bounds has the pixels within them
pub bounds_are_a_rectangle : (e : Edges) (x y : ℤ) → in_rect (boxed e.left e.top (side_between e.left e.right) (side_between e.top e.bottom)) x y ≡ in_edges e x y
bounds_are_a_rectangle e x y = ap (λ t. t && within e.top (side_between e.top e.bottom) y) (between e.left e.right x) ∙ ap (λ t. (int_le e.left x && int_le x e.right) && t) (between e.top e.bottom y)
