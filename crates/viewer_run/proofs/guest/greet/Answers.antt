use Rattle.std.proofs.Common.{[], List, ℕ, refl, sym, ap, subst, Ok}
use Rattle.std.specs.Prelude.{Option, Some}
use Rattle.viewer_run.specs.declared.guest.Guest.{Guest}
use Rattle.edge_io.specs.Outside.{Input, output_of, outside, outside_of}
use Rattle.conn_rules.specs.Hearing.{Hearing, end_of}
use Rattle.conn_rules.specs.Placed.{AreBytes}
use Rattle.serve_rules.specs.Reading.{IsNoRefusal}
use Rattle.viewer_run.specs.Greeting.{greeting, Greets, IsRestPlaced}
use Rattle.viewer_run.proofs.Stretches.{same_none}
use Rattle.viewer_run.proofs.Streams.{silent_steps, silent_after, silent_replies}
use Rattle.viewer_run.proofs.Greeted.{greets_none, greets_then}
use Rattle.viewer_run.proofs.guest.greet.Goals as goal

pub loop-init : goal.loop-init
loop-init g c =
    let h = c.args.conn.now.hearing in
    let before = outside_of g.S.Source g.K.Sink c.args.input.now c.args.output.now in
    record {
      heard = c.requires.heard;
      unrefused = c.requires.unrefused;
      part = c.requires.part;
      buffer = c.in-Ok.ensures.some;
      greets = subst (λ (name : List ℕ). Greets h h [] name before before _) (sym c.new-name.ensures)
          (greets_none h [] before.input before.input before.output _ (same_none before.input.left) (silent_replies h c.requires.heard) (
            refl,
            sym (silent_after h c.requires.heard),
            ap (greeting []) (silent_steps h c.requires.heard),
            refl,
            refl,
            subst (λ (x : Hearing). IsNoRefusal (end_of x)) (sym (silent_after h c.requires.heard)) c.requires.unrefused,
          ) refl);
    }

pub returns-in-Ok-Some-clause-greets : goal.returns-in-Ok-Some-clause-greets
returns-in-Ok-Some-clause-greets g c =
    let all = greets_then _ _ _ _ _ _ _ _ _ (Ok _) c.loop.invariant.greets
    (subst (λ (came : Option Guest). Greets c.loop.conn.hearing c.greet_next.new.conn.hearing c.loop.name c.greet_next.new.name
    (outside_of g.S.Source g.K.Sink c.loop.input c.loop.output) (outside_of g.S.Source g.K.Sink c.greet_next.new.input c.greet_next.new.output) (Ok came))
    c.in-Ok-Some.field-0-is c.in-Ok-Some.ensures.greets) in (
      c.greet_next.new.name,
      subst (λ (input : Input). Greets c.args.conn.now.hearing c.greet_next.new.conn.hearing [] c.greet_next.new.name (outside_of g.S.Source g.K.Sink c.args.input.now c.args.output.now)
          (outside input (output_of g.K.Sink c.greet_next.new.output)) (Ok (Some c.in-Ok-Some.guest)))
          (λ i. record { left = sym c.lift_limit.ensures.left i; faults = sym c.lift_limit.ensures.faults i }) all,
    )

pub returns-in-Err-clause-greets : goal.returns-in-Err-clause-greets
returns-in-Err-clause-greets g c = (c.greet_next.new.name, greets_then _ _ _ _ _ _ _ _ _ _ c.loop.invariant.greets c.in-Err.ensures.greets)

pub loop-preserved : goal.loop-preserved
loop-preserved g c =
    let all = greets_then _ _ _ _ _ _ _ _ _ (Ok _) c.loop.invariant.greets
    (subst (λ (came : Option Guest). Greets c.loop.conn.hearing c.greet_next.new.conn.hearing c.loop.name c.greet_next.new.name
    (outside_of g.S.Source g.K.Sink c.loop.input c.loop.output) (outside_of g.S.Source g.K.Sink c.greet_next.new.input c.greet_next.new.output) (Ok came))
    c.in-Ok-None.field-0-is c.in-Ok-None.ensures.greets) in
    record { heard = (c.args.conn.now.hearing, all.fed, all.came.1); unrefused = subst (λ (x : Hearing). IsNoRefusal (end_of x)) (sym all.came.1) all.came.5; part = c.in-Ok-None.ensures.placed.0; buffer = c.loop.invariant.buffer; greets = all }

pub returns-in-Ok-Some-clause-placed : goal.returns-in-Ok-Some-clause-placed
returns-in-Ok-Some-clause-placed g c = subst (λ (came : Option Guest). AreBytes c.greet_next.new.conn.hearing.part × IsRestPlaced came) c.in-Ok-Some.field-0-is c.in-Ok-Some.ensures.placed
