-- The two pictures after a painting, whose rows were touched.
use Rattle.std.proofs.Common.{◌≡◌, ℕ, ◌<◌, List, length, Bool, true, false, refl, ap, sym, subst, ◌∙◌}
use Rattle.std.specs.Prelude.{Option, None, Vec, ◌&&◌, pos}
use Rattle.std.specs.Vec.{with_items}
use Rattle.std.proofs.lemmas.List.{with_items_is}
use Rattle.px_core.specs.declared.surface.Size.{Size}
use Rattle.px_core.specs.declared.rectangle.Rect.{Rect}
use Rattle.px_core.specs.declared.depth.Depth.{Depth}
use Rattle.px_core.specs.Picture.{Area, Formula, both, pixel_at, painted, where_chosen}
use Rattle.px_core.specs.Rectangle.{in_rect}
use Rattle.draw_ops.proofs.Painted.{length-painted_from, pixel_at-painted}
use Rattle.client_picture.specs.declared.frame.Frame.{Frame}
use Rattle.client_picture.specs.Pictures.{Pictures}
use Rattle.client_picture.specs.Touched.{AreKept, AddsRows, Widens}

none_of : (c r b : Bool) → (c && r) ≡ false → (c && (r && b)) ≡ false
none_of false r b h = refl
none_of true false b h = refl
none_of true true b h = absurd (cc h)

not_chosen : (b : Bool) (f : Formula (Option ℕ)) (x y : ℕ) (old : Option ℕ) → b ≡ false → where_chosen b f (pos x) (pos y) old ≡ old
not_chosen false f x y old h = refl
not_chosen true f x y old h = absurd (cc h)

module _ (size : Size) (flags : List Bool) (frame : Frame) (picture marked : List (Option ℕ)) (before : AreKept size flags frame picture marked) where
  -- pictures after an area of a rectangle was painted
  pub after_painting : (clip : Area) (r : Rect) (inner : Area) (f : Formula (Option ℕ)) (new : List Bool) (next : Frame) → AddsRows size (both clip (in_rect r)) flags new → Widens size (both clip (in_rect r)) frame next
      → AreKept size new next (painted size (both clip (both (in_rect r) inner)) f picture) marked
  after_painting clip r inner f new next added wider = record {
    small = before.small;
    sized = length-painted_from size.w 0 (both clip (both (in_rect r) inner)) f picture ∙ before.sized;
    marked_sized = before.marked_sized;
    rows = record {
      flags = added.flags ∙ before.rows.flags;
      same = λ x y left above flag. let row = added.rows y above flag in outside x y left above (row.1 x left) ∙ before.rows.same x y left above row.0;
    };
    within = wider.within before.within;
    beside = λ x y left above h. let beside = wider.beside x y left above h in outside x y left above beside.1 ∙ before.beside x y left above beside.0;
  }
    where
      outside : (x y : ℕ) → x < size.w → y < size.h → (clip (pos x) (pos y) && in_rect r (pos x) (pos y)) ≡ false → pixel_at size (painted size (both clip (both (in_rect r) inner)) f picture) None x y ≡ pixel_at size picture None x y
      outside x y left above none =
          pixel_at-painted size (both clip (both (in_rect r) inner)) f picture x y None before.sized left above
          ∙ not_chosen (clip (pos x) (pos y) && (in_rect r (pos x) (pos y) && inner (pos x) (pos y))) f x y (pixel_at size picture None x y)
          (none_of (clip (pos x) (pos y)) (in_rect r (pos x) (pos y)) (inner (pos x) (pos y)) none)

-- the same of a value's lists
pub kept_after : {T P : Type 0} (size : Size) (flags : Vec Bool T) (frame : Frame) (picture : Vec (Option ℕ) P) (marked : List (Option ℕ)) → AreKept size flags.items frame picture.items marked
    → (clip : Area) (r : Rect) (inner : Area) (f : Formula (Option ℕ)) (old_flags new_flags : List Bool) (next : Frame) (old new : List (Option ℕ))
    → length new_flags ≡ flags.len → length new ≡ picture.len → old_flags ≡ flags.items → old ≡ picture.items
    → AddsRows size (both clip (in_rect r)) old_flags new_flags → Widens size (both clip (in_rect r)) frame next → new ≡ painted size (both clip (both (in_rect r) inner)) f old
    → AreKept size (with_items flags new_flags).items next (with_items picture new).items marked
kept_after size flags frame picture marked before clip r inner f old_flags new_flags next old new el en ef ep added wider done =
    subst (λ (ts : List Bool). AreKept size ts next (with_items picture new).items marked) (sym (with_items_is flags new_flags el))
    (subst (λ (ps : List (Option ℕ)). AreKept size new_flags next ps marked) (sym (with_items_is picture new en ∙ done ∙ ap (painted size (both clip (both (in_rect r) inner)) f) ep))
    (after_painting size flags.items frame picture.items marked before clip r inner f new_flags next (subst (λ (ts : List Bool). AddsRows size (both clip (in_rect r)) ts new_flags) ef added) wider))

abbrev pub pictures : Depth → Size → List (Option ℕ) → List (Option ℕ) → Pictures
pictures depth size picture marked = record { depth = depth; size = size; picture = picture; marked = marked }

-- the value with a new picture
pub value_is : {P : Type 0} (depth : Depth) (size : Size) (picture : Vec (Option ℕ) P) (marked new after : List (Option ℕ)) → length new ≡ picture.len → new ≡ after
    → pictures depth size (with_items picture new).items marked ≡ pictures depth size after marked
value_is depth size picture marked new after e done = ap (λ (ps : List (Option ℕ)). pictures depth size ps marked) (with_items_is picture new e ∙ done)
