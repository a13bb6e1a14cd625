use Rattle.std.proofs.Common.{◌≡◌, ◌<◌, ◌+◌, ◌∷◌, List, drop, length, sym, subst, ap, ◌∙◌, arith}
use Rattle.std.specs.Prelude.{None}
use Rattle.std.proofs.lemmas.List.{drop_more}
use Rattle.draw_ops.specs.declared.shape.Drawing.{Drawing}
use Rattle.draw_ops.specs.Drawing.{state_after_drawing, state_after_drawings}
use Rattle.draw_ops.specs.Fits.{broken_rule, AllFitState}
use Rattle.draw_ops.specs.Ranges.{HasColors}
use Rattle.draw_ops.specs.Slots.{SurfaceState}
use Rattle.surface_parts.specs.declared.room.Room.{Room}
use Rattle.surface_parts.specs.Held.{state_of, AreRooms}
use Rattle.surface_parts.specs.Surfaces.{IsSoundSurface}
use Rattle.surface_parts.proofs.Many.{fit_rules, fit_slots}
use Rattle.surface_parts.proofs.Sound.{sound_after}
use Rattle.tile_surface.specs.Cells.{picture_of}
use Rattle.tile_surface.specs.Later.{OwnsAll}
use Rattle.tile_surface.proofs.Later.{rest_owned}
use Rattle.tile_surface.proofs.Owning.{keeps_twice}
use Rattle.tile_surface.proofs.draw_all.draw_each.Goals as goal

pub draw_owned-requires-clause-rules : goal.draw_owned-requires-clause-rules
draw_owned-requires-clause-rules c = let ds = c.args.ds.now in let i = c.loop-d.d-index in let d = c.d-item.result in let l = c.loop-d in let size = c.args.size in
    let inside : i < length ds = omega arith in
    let st : SurfaceState = state_of (picture_of size l.cells) l.slots l.drawn in
    let here : drop i ds ≡ d ∷ drop (i + 1) ds = drop_more ds i d inside ∙ ap (λ (x : Drawing). x ∷ drop (i + 1) ds) (sym c.d-item.is) in
    fit_rules size st d (subst (λ (xs : List Drawing). AllFitState size st xs) here l.invariant.fit).0

pub draw_owned-requires-clause-fits : goal.draw_owned-requires-clause-fits
draw_owned-requires-clause-fits c = let ds = c.args.ds.now in let i = c.loop-d.d-index in let d = c.d-item.result in let l = c.loop-d in let size = c.args.size in
    let inside : i < length ds = omega arith in
    let st : SurfaceState = state_of (picture_of size l.cells) l.slots l.drawn in
    let here : drop i ds ≡ d ∷ drop (i + 1) ds = drop_more ds i d inside ∙ ap (λ (x : Drawing). x ∷ drop (i + 1) ds) (sym c.d-item.is) in
    fit_slots size st d (subst (λ (xs : List Drawing). AllFitState size st xs) here l.invariant.fit).0

pub draw_owned-requires-clause-colors : goal.draw_owned-requires-clause-colors
draw_owned-requires-clause-colors c = let i = c.loop-d.d-index in let d = c.d-item.result in
    let inside : i < length c.args.ds.now = omega arith in
    subst HasColors (sym c.d-item.is) (c.requires.colors i d inside)

pub draw_owned-requires-clause-own : goal.draw_owned-requires-clause-own
draw_owned-requires-clause-own c = let ds = c.args.ds.now in let i = c.loop-d.d-index in let d = c.d-item.result in let l = c.loop-d in let size = c.args.size in
    let inside : i < length ds = omega arith in
    let here : drop i ds ≡ d ∷ drop (i + 1) ds = drop_more ds i d inside ∙ ap (λ (x : Drawing). x ∷ drop (i + 1) ds) (sym c.d-item.is) in
    (subst (λ (xs : List Drawing). OwnsAll size l.slots l.cells xs) here l.invariant.own).0

pub loop-d-preserved : goal.loop-d-preserved
loop-d-preserved c = let ds = c.args.ds.now in let i = c.loop-d.d-index in let d = c.d-item.result in let l = c.loop-d in let size = c.args.size in
    let rest : List Drawing = drop (i + 1) ds in let next = c.draw_owned.new.cells in let held = c.draw_owned.new.slots in
    let inside : i < length ds = omega arith in
    let st : SurfaceState = state_of (picture_of size l.cells) l.slots l.drawn in
    let after : SurfaceState = state_of (picture_of size next) held (l.drawn + 1) in
    let here : drop i ds ≡ d ∷ rest = drop_more ds i d inside ∙ ap (λ (x : Drawing). x ∷ rest) (sym c.d-item.is) in
    let fit = subst (λ (xs : List Drawing). AllFitState size st xs) here l.invariant.fit in
    let rules : broken_rule size d ≡ None = fit_rules size st d fit.0 in
    let colors : HasColors d = subst HasColors (sym c.d-item.is) (c.requires.colors i d inside) in
    let made : after ≡ state_after_drawing size st d = c.draw_owned.ensures.drawn in
    let sound : IsSoundSurface size after = subst (λ (s : SurfaceState). IsSoundSurface size s) (sym made) (sound_after size st d rules colors l.invariant.sound) in
    let popped : l.rooms.items ≡ c.in-Some.room ∷ c.pop_front.new.self.items = c.in-Some.ensures.items in
    record {
      drawn = omega (arith, l.invariant.drawn);
      sound = sound;
      fit = subst (λ (s : SurfaceState). AllFitState size s rest) (sym made) fit.1;
      left = ap (λ (s : SurfaceState). state_after_drawings size s rest) made ∙ ap (λ (xs : List Drawing). state_after_drawings size st xs) (sym here) ∙ l.invariant.left;
      rooms = (subst (λ (rooms : List Room). AreRooms l.drawn (d ∷ rest) rooms) popped (subst (λ (xs : List Drawing). AreRooms l.drawn xs l.rooms.items) here l.invariant.rooms)).1;
      own = rest_owned size l.cells next c.draw_owned.ensures.kept.own held rest sound.glyphs (subst (λ (xs : List Drawing). OwnsAll size l.slots l.cells xs) here l.invariant.own).1;
      kept = keeps_twice size c.args.cells.now l.cells next l.invariant.kept c.draw_owned.ensures.kept;
      pattern = omega (arith, c.draw_owned.auto.pattern, l.invariant.pattern);
      source = omega (arith, c.draw_owned.auto.source, l.invariant.source);
    }
