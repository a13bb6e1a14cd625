use Rattle.std.proofs.Common.{◌∙◌, sym, subst}
use Rattle.record_file.specs.Replays.{ReplayOf, HasRead}
use Rattle.record_file.proofs.Feeding.{missing_known, missing_unknown}
use Rattle.record_file.proofs.replay.Replay.missing.Goals as goal

pub returns-then-is_some-2 : goal.returns-then-is_some-2
returns-then-is_some-2 c = λ stream h.
    let r : ReplayOf = record { course = c.self.inside.course; told = c.self.inside.told; end = c.self.inside.end } in
    missing_known r stream (sym c.is_some.ensures ∙ c.if-is_some.false) (sym c.is_some-2.ensures ∙ c.if-is_some-2.true) (subst (HasRead stream) (sym c.self.view_is) h)

pub returns : goal.returns
returns c = λ stream h.
    let r : ReplayOf = record { course = c.self.inside.course; told = c.self.inside.told; end = c.self.inside.end } in
    missing_unknown r stream (sym c.is_some.ensures ∙ c.if-is_some.false) (sym c.is_some-2.ensures ∙ c.if-is_some-2.false) (subst (HasRead stream) (sym c.self.view_is) h)
