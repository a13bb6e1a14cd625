use Rattle.std.proofs.Common.{length, ap, sym, ◌∙◌, arith}
use Rattle.std.specs.Prelude.{slice_get}
use Rattle.session_core.specs.Showing.{all_shown}
use Rattle.session_core.proofs.AllShown.{length_shown}
use Rattle.session_core.proofs.seen.SeenDrawings.get.Goals as goal

pub seen_at-requires-clause-there : goal.seen_at-requires-clause-there
seen_at-requires-clause-there c =
    let all = ap length c.self.view_is in
    let each = length_shown _ _ c.self.invariant in
    omega (arith, c.requires, all, each, ap length c.listed.ensures)

pub seen_at-requires-clause-each : goal.seen_at-requires-clause-each
seen_at-requires-clause-each c = omega (arith, c.self.invariant, ap length c.listed.ensures, ap length c.slice.ensures)

pub returns : goal.returns
returns c =
    let same = (λ j. slice_get (all_shown (sym c.listed.ensures j) (sym c.slice.ensures j)) c.args.i) ∙ c.seen_at.ensures in
    ap (λ ps. slice_get ps c.args.i) (sym c.self.view_is) ∙ same
