use Rattle.std.proofs.Common.{◌≡◌, ◌≤◌, ◌+◌, ◌∙◌, ap, sym, arith, length, take, Some}
use Rattle.std.specs.Prelude.{if◌then◌else◌}
use Rattle.session_core.specs.Filled.{fills, last_filling}
use Rattle.session_core.proofs.LastFilling.{filling_push, take_more, length_take, here, not_here, fills_is, within_front}
use Rattle.session_core.proofs.filled.last_filling.Goals as goal
use Rattle.session_core.proofs.filled.last_filling.Goals.{then-fills, else-fills}

pub loop-i-preserved : goal.loop-i-preserved
loop-i-preserved c =
    let ds = c.args.ds.now in
    let d = c.index-ds-i.result in
    let within : c.loop-i.i ≤ length ds = omega arith in
    let more : last_filling c.args.wanted (take (c.loop-i.i + 1) ds) ≡ (if fills c.args.wanted d.shape then Some (length (take c.loop-i.i ds)) else last_filling c.args.wanted (take c.loop-i.i ds)) =
    ap (last_filling c.args.wanted) (take_more ds c.loop-i.i d (omega arith) c.index-ds-i.is) ∙ filling_push c.args.wanted (take c.loop-i.i ds) d in
    elim c.if-fills.branch [
      | then-fills w ↦ w.last-is ∙ sym (more ∙ here (fills c.args.wanted d.shape) _ (sym (fills_is c.args.wanted ds c.loop-i.i d c.fills.result c.index-ds-i.is c.fills.ensures) ∙ w.if-fills.true) ∙ ap Some (length_take ds c.loop-i.i within))
      | else-fills w ↦ w.last-is ∙ c.loop-i.invariant ∙ sym (more ∙ not_here (fills c.args.wanted d.shape) (length (take c.loop-i.i ds)) (sym (fills_is c.args.wanted ds c.loop-i.i d c.fills.result c.index-ds-i.is c.fills.ensures) ∙ w.if-fills.false))
    ]

pub returns-clause-within : goal.returns-clause-within
returns-clause-within c = within_front c.loop-i.last c.args.wanted c.args.ds.now c.loop-i.i (omega arith) c.loop-i.invariant
