use Rattle.std.proofs.Common.{◌∙◌, ◌++◌, ◌-◌, length, take, drop, length-drop, ap, arith}
use Rattle.std.proofs.lemmas.List.{take_all, length-take-le}
use Rattle.rle_enc.proofs.Pending.{on_ok_as}
use Rattle.fast_path.specs.Written.{fast_packet}
use Rattle.viewer_sender.proofs.FastShort.{fast_short}
use Rattle.viewer_sender.proofs.framing.write_fast_update.Goals as goal

pub write_fast-requires : goal.write_fast-requires
write_fast-requires c =
    let new = c.put_orders_count.new.user in
    let same = c.put_orders_count.ensures.same in
    let few = c.requires.few in
    let size = length-drop 24 new in
    let all = length-take-le (length new - 24) (drop 24 new) (omega (arith, size)) in
    fast_short 0 (take (length new - 24) (drop 24 new)) (omega (arith, all, same, few))

pub returns : goal.returns
returns c =
    let new = c.put_orders_count.new.user in
    let size = length-drop 24 new in
    on_ok_as _ _ c.write_fast.result c.write_fast.ensures.ok (λ e.
    e ∙ ap (λ bs. c.args.packets.now.items ++ fast_packet 0 bs) (take_all (length new - 24) (drop 24 new) (omega (arith, size)) ∙ c.put_orders_count.ensures.data))
