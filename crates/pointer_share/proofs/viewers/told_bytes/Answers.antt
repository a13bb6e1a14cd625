use Rattle.std.proofs.Common.{subst}
use Rattle.std.specs.Prelude.{Option}
use Rattle.pointer_share.specs.Desk.{DeskOf, IsDeskOf, IsNoted}
use Rattle.pointer_share.proofs.Desks.{desk_tells}
use Rattle.pointer_share.proofs.viewers.told_bytes.Goals as goal

pub returns-in-Some-clause-told : goal.returns-in-Some-clause-told
returns-in-Some-clause-told c = λ v told key is noted.
    let serves = subst (λ (o : Option DeskOf). IsDeskOf v told o) c.in-Some.is is in
    let same = subst (λ (o : Option DeskOf). IsNoted o key) c.in-Some.is noted in
    desk_tells v told key c.in-Some.desk c.packet.result serves same (c.packet.ensures.told told serves.told)
