use Rattle.std.proofs.Common.{[], false, refl}
use Rattle.px_core.specs.TileFlags.{tiles}
use Rattle.session_core.specs.declared.members.Member.{Member}
use Rattle.session_core.proofs.MemberSteps.{kept_pushed}
use Rattle.session_core.proofs.members.Members.push.Goals as goal

pub returns-clause-asked : goal.returns-clause-asked
returns-clause-asked c =
    let y : Member = record { number = c.args.number; role = c.args.role; asked = c.none.result; suppressed = false } in
    rw (c.push_reserved.ensures.items, ← c.self.view_is) (λ k u. kept_pushed tiles (λ m. m.asked) [] c.self.inside.list.items y c.none.ensures u k)

pub returns-clause-stopped : goal.returns-clause-stopped
returns-clause-stopped c =
    let y : Member = record { number = c.args.number; role = c.args.role; asked = c.none.result; suppressed = false } in
    rw (c.push_reserved.ensures.items, ← c.self.view_is) (λ k u. kept_pushed (λ b. b) (λ m. m.suppressed) false c.self.inside.list.items y refl u k)
