use Rattle.std.proofs.Common.{◌≤◌, length}
use Rattle.px_core.specs.TileFlags.{tiles}
use Rattle.session_core.specs.Keeping.{journal_of}
use Rattle.session_core.proofs.MarkSteps.{marked_on_picture, added_touched}
use Rattle.session_core.proofs.session.Session.add_touched.Goals as goal

pub add_past-requires-clause-on_picture : goal.add_past-requires-clause-on_picture
add_past-requires-clause-on_picture c =
    let most : c.args.before ≤ length (journal_of c.self.inside.kept.items) = rw (← c.self.view_is) at c.requires in
    rw c.size.ensures (marked_on_picture c.self.inside.head.size (journal_of c.self.inside.kept.items) c.self.inside.marks c.args.before c.self.invariant.marked most)

pub returns : goal.returns
returns c =
    let most : c.args.before ≤ length (journal_of c.self.inside.kept.items) = rw (← c.self.view_is) at c.requires in
    added_touched c.self.inside.head c.self.inside.standing c.self.inside.kept.items c.args.self.now c.self.inside.marks c.args.before (tiles c.args.set.now) (tiles c.add_past.new.set) c.self.view_is c.self.invariant.marked most c.add_past.ensures
