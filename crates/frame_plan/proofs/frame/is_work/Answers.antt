use Rattle.std.proofs.Common.{◌≡◌, length, rules}
use Rattle.std.specs.Prelude.{false}
use Rattle.px_core.specs.Tiles.{all_tiles, share_tile}
use Rattle.session_core.specs.SessionModel.{asked_by, is_suppressed}
use Rattle.frame_plan.proofs.PlannedBy.{work_asked}
use Rattle.frame_plan.proofs.frame.is_work.Goals as goal

pub returns-else-desk-length : goal.returns-else-desk-length
returns-else-desk-length c =
    let on : is_suppressed c.args.session.now c.args.desk.now.v ≡ false = search rules in
    let seen : c.args.desk.now.number ≡ length c.args.session.now.journal = search rules in
    let asked : c.is_asked.result ≡ share_tile c.args.session.now.head.size (asked_by c.args.session.now c.args.desk.now.v) all_tiles = search rules in
    work_asked c.args.session.now c.args.desk.now c.is_asked.result on seen asked
