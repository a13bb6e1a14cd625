use Rattle.std.proofs.Common.{◌≡◌, ◌++◌, take, ap, subst, ◌∙◌, arith}
use Rattle.std.proofs.lemmas.Result.{err_from_is_err_and}
use Rattle.std.proofs.lemmas.Grind.{common_steps}
use Rattle.conn_rules.specs.Hearing.{Heard}
use Rattle.conn_core.specs.Feeds.{Appends, AppendsSome}
use Rattle.conn_core.specs.Stream.{hearing}
use Rattle.conn_core.proofs.Loop.{heard_of_part, front_heard}
use Rattle.conn_core.proofs.hear.hear_some.Goals as goal

pub returns-in_err-hear_part-clause-memory : goal.returns-in_err-hear_part-clause-memory
returns-in_err-hear_part-clause-memory c =
    let items = c.in_ok-extend_from_slice.ensures.items in
    let whole : c.extend_from_slice.new.self.items ≡ c.args.part.now.items ++ take c.min-n.result c.args.bytes.now = grind (arith, common_steps, items) in
    let e = heard_of_part c.args.talk.now c.args.part.now.items (take c.min-n.result c.args.bytes.now) c.extend_from_slice.new.self.items whole in
    let p = err_from_is_err_and c.from_residual-in_err-hear_part.result c.from_residual-in_err-hear_part.ensures.1 in
    rw p.1 (front_heard (hearing c.args.talk.now c.args.part.now.items) c.args.bytes.now c.min-n.result _ _ _ _
    (subst (λ (x : Heard). AppendsSome x c.args.out.now.items c.hear_part.new.out.items c.args.steps.now.items c.hear_part.new.steps.items) e c.in_err-hear_part.ensures.memory))

pub returns-clause-heard : goal.returns-clause-heard
returns-clause-heard c =
    let items = c.in_ok-extend_from_slice.ensures.items in
    let whole : c.extend_from_slice.new.self.items ≡ c.args.part.now.items ++ take c.min-n.result c.args.bytes.now = grind (arith, common_steps, items) in
    let e = heard_of_part c.args.talk.now c.args.part.now.items (take c.min-n.result c.args.bytes.now) c.extend_from_slice.new.self.items whole in
    c.in_ok-hear_part.ensures.heard ∙ ap (λ (x : Heard). x.after) e

pub returns-clause-appended : goal.returns-clause-appended
returns-clause-appended c =
    let items = c.in_ok-extend_from_slice.ensures.items in
    let whole : c.extend_from_slice.new.self.items ≡ c.args.part.now.items ++ take c.min-n.result c.args.bytes.now = grind (arith, common_steps, items) in
    let e = heard_of_part c.args.talk.now c.args.part.now.items (take c.min-n.result c.args.bytes.now) c.extend_from_slice.new.self.items whole in
    subst (λ (x : Heard). Appends x c.args.out.now.items c.hear_part.new.out.items c.args.steps.now.items c.hear_part.new.steps.items) e c.in_ok-hear_part.ensures.appended
