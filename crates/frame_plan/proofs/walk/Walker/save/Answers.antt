use Rattle.std.proofs.Common.{◌≡◌, rules}
use Rattle.std.specs.Prelude.{true}
use Rattle.save_plan.specs.Blocks.{positions_of}
use Rattle.save_plan.proofs.LeastFree.{least_is_computed}
use Rattle.frame_plan.proofs.Turns.{saved_goes, saved_nowhere}
use Rattle.frame_plan.proofs.walk.Walker.save.Goals as goal

pub returns-in-Ok : goal.returns-in-Ok
returns-in-Ok c =
    let goes : c.args.goes ≡ true = search rules in
    saved_goes c.args.goes c.args.size c.args.self.now c.args.pending.now c.args.slot c.args.rect c.in-Ok.position c.free.new.self c.place.new.self goes
    c.free.ensures.given_up (least_is_computed (positions_of c.args.rect.w c.args.rect.h) c.in-Ok.position c.free.new.self c.in-Ok.ensures.least) c.in-Ok.ensures.held

pub returns-in-Err-NoRoom : goal.returns-in-Err-NoRoom
returns-in-Err-NoRoom c =
    let goes : c.args.goes ≡ true = search rules in
    saved_nowhere c.args.goes c.args.size c.args.self.now c.args.pending.now c.args.slot c.args.rect c.free.new.self c.place.new.self c.skip-in-Err-NoRoom.new.self goes
    c.free.ensures.given_up c.in-Err-NoRoom.ensures.unchanged (let h = c.in-Err-NoRoom.ensures.no_room in let e = c.in-Err-NoRoom.field-0-is in h (cc e)) c.skip-in-Err-NoRoom.ensures.walk
