use Rattle.std.proofs.Common.{length, sym, subst}
use Rattle.pointer_share.specs.Desk.{IsKey}
use Rattle.pointer_share.proofs.Noted.{is_key}
use Rattle.pointer_share.proofs.desk.PointerDesk.note.Goals as goal

pub invariant_of-self : goal.invariant_of-self
invariant_of-self c = subst IsKey (sym c.noted-self-inside.ensures) (is_key c.args.session.now.head.size c.args.session.now.journal (length c.args.session.now.journal))
