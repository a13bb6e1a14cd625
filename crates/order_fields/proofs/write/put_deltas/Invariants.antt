use Rattle.std.proofs.Common.{◌≡◌, ◌≤◌, ◌<◌, ◌^◌, ◌*◌, ◌-◌, suc, length, drop, [], true}
use Rattle.order_fields.specs.OrderDelta.{fields_of, flags_of, any_coordinate, all_near, present_bytes}
use Rattle.order_fields.proofs.write.put_deltas.Given as goal

abbrev pub invariant-loop-i : goal.invariant-loop-i
invariant-loop-i l = record {
  flags : l.flags ≡ flags_of (fields_of (drop l.i l.kinds) (drop l.i l.last) (drop l.i l.values)) l.keeps;
  bound : l.flags < 2 ^ suc (length l.kinds - l.i);
  any : l.any ≡ any_coordinate (fields_of (drop l.i l.kinds) (drop l.i l.last) (drop l.i l.values));
  near : all_near (fields_of (drop l.i l.kinds) (drop l.i l.last) (drop l.i l.values)) ≡ true;
  bytes : l.tail ≡ present_bytes (fields_of (drop l.i l.kinds) (drop l.i l.last) (drop l.i l.values)) true true [];
  few : length l.tail ≤ 8 * (length l.kinds - l.i);
}
