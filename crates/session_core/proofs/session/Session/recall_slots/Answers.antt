use Rattle.std.proofs.Common.{◌≤◌, length, sym}
use Rattle.std.specs.Prelude.{false}
use Rattle.session_core.specs.Keeping.{journal_of}
use Rattle.session_core.proofs.MarkSteps.{not_past, is_saved}
use Rattle.session_core.proofs.session.Session.recall_slots.Goals as goal

pub returns : goal.returns
returns c before slot within far =
    let most : before ≤ length (journal_of c.self.inside.kept.items) = rw (← c.self.view_is) at within in
    sym (is_saved c.self.inside.head c.self.inside.standing c.self.inside.kept.items c.args.self.now c.self.inside.marks before slot false c.self.view_is c.self.invariant.marked most
    (not_past before _ (c.recall_ends.ensures.slots slot far)))
