use Rattle.std.proofs.Common.{◌≡◌, ◌<◌, ◌+◌, ℕ, List, [], ◌∷◌, ◌++◌, take, length, sym, subst, ap, ◌∙◌, arith}
use Rattle.std.proofs.lemmas.List.{length-take, take_more}
use Rattle.draw_ops.specs.declared.shape.Drawing.{Drawing}
use Rattle.surface_parts.specs.declared.room.Room.{Room}
use Rattle.surface_parts.specs.Held.{AreRooms, IsRoomFor}
use Rattle.surface_parts.proofs.Many.{rooms_more}
use Rattle.surface_parts.proofs.room.take_rooms.Goals as goal

pub loop-d-preserved : goal.loop-d-preserved
loop-d-preserved c = let ds = c.args.ds.now in let i = c.loop-d.d-index in let d = c.d-item.result in let count = c.args.count in
    let inside : i < length ds = omega arith in
    let pushed : c.push_back.new.self.items ≡ c.loop-d.rooms.items ++ c.in_ok-room.room ∷ [] = c.in_ok-push_back.ensures.items in
    let front : take i ds ++ d ∷ [] ≡ take (i + 1) ds = ap (λ (x : Drawing). take i ds ++ x ∷ []) c.d-item.is ∙ sym (take_more ds i d inside) in
    let so_many : count + i ≡ count + length (take i ds) = omega (arith, length-take i ds) in
    let ready : IsRoomFor (count + i) d.shape c.in_ok-room.room = c.in_ok-room.ensures (count + i) (omega (arith, c.loop-d.invariant.number)) in
    record {
      number = omega (arith, c.loop-d.invariant.number);
      rooms = subst (λ (rooms : List Room). AreRooms count (take (i + 1) ds) rooms) (sym pushed)
          (subst (λ (xs : List Drawing). AreRooms count xs (c.loop-d.rooms.items ++ c.in_ok-room.room ∷ [])) front
          (rooms_more count (take i ds) c.loop-d.rooms.items d c.in_ok-room.room c.loop-d.invariant.rooms (subst (λ (n : ℕ). IsRoomFor n d.shape c.in_ok-room.room) so_many ready)));
    }
