use Rattle.std.proofs.Common.{◌≡◌, None, sym, subst, arith}
use Rattle.draw_ops.specs.Fits.{broken_rule}
use Rattle.session_core.specs.Marking.{AreNoted}
use Rattle.session_core.proofs.Entries.{none_noted}
use Rattle.session_core.proofs.MarkSteps.{noted_more, shown_end}
use Rattle.session_core.proofs.noting.note_all.Goals as goal

pub loop-i-init : goal.loop-i-init
loop-i-init c = none_noted c.args.size c.args.number c.args.marks.now

pub note_one-requires-clause-rules : goal.note_one-requires-clause-rules
note_one-requires-clause-rules c = subst (λ d. broken_rule c.args.size d ≡ None) (sym c.index-ds-i.is) (c.requires.rules c.loop-i.i c.index-ds-i.result (omega arith))

pub loop-i-preserved : goal.loop-i-preserved
loop-i-preserved c = noted_more c.args.size c.args.ds.now c.args.shown.now c.loop-i.i c.index-ds-i.result c.index-shown-i.result c.args.number c.args.marks.now c.loop-i.marks c.note_one.new.marks
    (omega arith) c.requires.each c.index-ds-i.is c.index-shown-i.is c.loop-i.invariant c.note_one.ensures.tiles c.note_one.ensures.slots

pub returns : goal.returns
returns c = subst (λ ps. AreNoted c.args.size ps c.args.number c.args.marks.now c.loop-i.marks) (shown_end c.args.ds.now c.args.shown.now c.loop-i.i (omega arith) c.requires.each) c.loop-i.invariant
