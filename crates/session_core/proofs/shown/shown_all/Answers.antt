use Rattle.std.proofs.Common.{◌+◌, ◌∙◌, ap, arith}
use Rattle.session_core.proofs.AllShown.{shown_more, fit_front, fit_at, length_pushed}
use Rattle.session_core.proofs.shown.shown_all.Goals as goal

pub shown_at-requires-clause-fits : goal.shown_at-requires-clause-fits
shown_at-requires-clause-fits c = fit_at c.args.surface.now.size c.args.surface.now.state c.args.ds.now c.loop-i.i c.index-ds-i.result c.requires.fit (omega arith) c.index-ds-i.is

pub shown_at-requires-clause-before : goal.shown_at-requires-clause-before
shown_at-requires-clause-before c = fit_front c.args.surface.now.size c.args.surface.now.state c.args.ds.now c.loop-i.i c.requires.fit

pub loop-i-preserved : goal.loop-i-preserved
loop-i-preserved c = rw c.in_ok-push.ensures.items (
  length_pushed c.loop-i.shown.items c.in_ok-shown_at.field-0 ∙ ap (λ n. n + 1) c.loop-i.invariant.0,
  shown_more c.args.surface.now.size c.args.surface.now.state c.args.ds.now c.loop-i.shown.items c.loop-i.i c.index-ds-i.result c.in_ok-shown_at.field-0 (omega arith) c.index-ds-i.is
      c.loop-i.invariant.0 c.loop-i.invariant.1 c.in_ok-shown_at.ensures,
)
