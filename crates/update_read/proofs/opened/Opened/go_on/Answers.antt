use Rattle.std.proofs.Common.{◌<◌, sym, subst}
use Rattle.update_read.specs.Cutters.{CutterOf, Gives, pending, pending_by}
use Rattle.update_read.proofs.opened.Opened.go_on.Goals as goal

pub returns-clause-cut : goal.returns-clause-cut
returns-clause-cut c = λ u gives.
    let g = subst (Gives u) (sym c.self.view_is) gives in
    (g.0, g.1, c.judge_behind-self-inside.ensures.told u g.0 g.1 g.2)

pub returns-clause-fewer : goal.returns-clause-fewer
returns-clause-fewer c =
    let inside = c.self.inside in
    subst (λ (old : CutterOf). 0 < pending old → pending_by c.judge_behind-self-inside.result inside.packet.now < pending old) c.self.view_is c.judge_behind-self-inside.ensures.fewer
