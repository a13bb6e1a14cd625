use Rattle.std.proofs.Common.{[], ap, sym}
use Rattle.px_core.specs.TileFlags.{tiles}
use Rattle.session_core.proofs.MemberSteps.{kept_here}
use Rattle.session_core.proofs.members.asked_by.Goals as goal

pub returns : goal.returns
returns c = rw (← c.index-members-i.is) (ap tiles (sym (kept_here (λ m. m.asked) [] c.args.v c.args.members.now c.place_here-i.result c.index-members-i.result c.place_here-i.ensures.place c.index-members-i.is)))
