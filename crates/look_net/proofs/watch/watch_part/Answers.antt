use Rattle.look_net.proofs.Loop.{none_kept, behind_gone, behind_stops}
use Rattle.std.proofs.Common.{take}
use Rattle.look_net.proofs.watch.watch_part.Goals as goal

pub returns-in-Ok-watch_kept-clause-gone : goal.returns-in-Ok-watch_kept-clause-gone
returns-in-Ok-watch_kept-clause-gone c = λ w stays keeps goes.
    behind_gone c.args.viewer.now.name c.args.viewer.now.confirmed w c.args.part.now.items (take c.min-n.result c.args.bytes.now) c.keep.new.part.items c.watch_kept.new.watcher c.watch_kept.new.part.items c.args.out.now.items
    c.watch_kept.new.out.items keeps goes c.in-Ok.ensures.kept (c.in-Ok-watch_kept.ensures.gone w.at stays goes)

pub returns-in-Err-watch_kept-clause-gone : goal.returns-in-Err-watch_kept-clause-gone
returns-in-Err-watch_kept-clause-gone c = λ w stays keeps goes.
    behind_stops c.in-Err-watch_kept.fault c.args.viewer.now.name c.args.viewer.now.confirmed w c.args.part.now.items c.args.bytes.now c.keep.new.part.items c.min-n.result c.watch_kept.new.watcher c.watch_kept.new.part.items
    c.args.out.now.items c.watch_kept.new.out.items keeps goes c.in-Ok.ensures.kept (c.in-Err-watch_kept.ensures.gone w.at stays goes)

pub returns-in-Err-clause-gone : goal.returns-in-Err-clause-gone
returns-in-Err-clause-gone c = λ w stays keeps goes.
    none_kept c.in-Err.fault c.args.viewer.now.name c.args.viewer.now.confirmed w c.args.watcher.now c.args.part.now.items c.args.bytes.now c.args.out.now.items c.in-Err.ensures.kept.0 keeps goes
