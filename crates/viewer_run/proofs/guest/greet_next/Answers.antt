use Rattle.std.proofs.Common.{refl, ap, sym, subst}
use Rattle.edge_io.specs.Outside.{input_of, output_of}
use Rattle.conn_rules.specs.Hearing.{Hearing, end_of}
use Rattle.serve_rules.specs.Reading.{IsNoRefusal}
use Rattle.viewer_run.specs.Greeting.{greeting}
use Rattle.viewer_run.proofs.Stretches.{at_end, kept_none}
use Rattle.viewer_run.proofs.Streams.{silent_steps, silent_after, silent_replies}
use Rattle.viewer_run.proofs.Greeted.{greets_none}
use Rattle.viewer_run.proofs.guest.greet_next.Goals as goal

pub returns-in-End-clause-greets : goal.returns-in-End-clause-greets
returns-in-End-clause-greets g c =
    let h = c.args.conn.now.hearing in
    let before = input_of g.S.Source c.args.input.now in
    let now = input_of g.S.Source c.read.new.self in
    greets_none h c.args.name.now before now (output_of g.K.Sink c.args.output.now) _ (kept_none before.left now.left c.in-End.ensures.bytes.1)
    (silent_replies h c.requires.heard) (
      refl,
      (c.args.name.now, ap (greeting c.args.name.now) (silent_steps h c.requires.heard)),
      at_end before.left c.in-End.ensures.bytes.0,
      refl,
      subst (λ (x : Hearing). IsNoRefusal (end_of x)) (sym (silent_after h c.requires.heard)) c.requires.unrefused,
    ) c.in-End.ensures.cause

pub returns-in-Failed-clause-greets : goal.returns-in-Failed-clause-greets
returns-in-Failed-clause-greets g c =
    let h = c.args.conn.now.hearing in
    let before = input_of g.S.Source c.args.input.now in
    let now = input_of g.S.Source c.read.new.self in
    greets_none h c.args.name.now before now (output_of g.K.Sink c.args.output.now) _ (kept_none before.left now.left c.in-Failed.ensures.bytes)
    (silent_replies h c.requires.heard) (refl, c.in-Failed.ensures.cause) (
      (c.args.name.now, ap (greeting c.args.name.now) (silent_steps h c.requires.heard)),
      subst (λ (x : Hearing). IsNoRefusal (end_of x)) (sym (silent_after h c.requires.heard)) c.requires.unrefused,
      refl,
    )
