use Rattle.std.proofs.Common.{◌≡◌, ◌+◌, take}
use Rattle.surface_parts.specs.Held.{AreRooms}
use Rattle.surface_parts.proofs.room.take_rooms.Given as goal

-- the memory of the drawings so far, and the number of the last of them
abbrev pub invariant-loop-d : goal.invariant-loop-d
invariant-loop-d l = record {
  number : l.number ≡ l.fn.count + l.d-index;
  rooms : AreRooms l.fn.count (take l.d-index l.ds) l.rooms.items;
}
