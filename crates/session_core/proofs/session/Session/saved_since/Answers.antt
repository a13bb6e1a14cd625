use Rattle.std.proofs.Common.{◌≤◌, length}
use Rattle.session_core.specs.Keeping.{journal_of}
use Rattle.session_core.proofs.MarkSteps.{is_saved}
use Rattle.session_core.proofs.session.Session.saved_since.Goals as goal

pub returns : goal.returns
returns c =
    let most : c.args.before ≤ length (journal_of c.self.inside.kept.items) = rw (← c.self.view_is) at c.requires in
    is_saved c.self.inside.head c.self.inside.standing c.self.inside.kept.items c.args.self.now c.self.inside.marks c.args.before c.args.slot c.is_saved_past.result c.self.view_is c.self.invariant.marked most
    c.is_saved_past.ensures
