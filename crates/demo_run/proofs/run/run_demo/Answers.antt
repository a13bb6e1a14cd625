use Rattle.std.proofs.Common.{◌∙◌, List, ℕ, [], refl, subst}
use Rattle.std.specs.Prelude.{OnOk, OnErr}
use Rattle.std.specs.Io.KnownBytes.{Appends}
use Rattle.std.proofs.KnownBytes.{Appends-nil}
use Rattle.edge_io.specs.Sink.{WritesFront}
use Rattle.demo_run.specs.Counts.{demo_line}
use Rattle.demo_run.proofs.run.run_demo.Goals as goal

pub returns-in-Ok-clause-written : goal.returns-in-Ok-clause-written
returns-in-Ok-clause-written g c =
    subst (λ (bytes : List ℕ). OnOk c.put.result (Appends (g.K.Sink.told c.args.output.now) (g.K.Sink.told c.put.new.output) bytes))
    (c.deref.ensures.value ∙ c.in-Ok.ensures) c.put.ensures.written

pub returns-in-Ok-clause-front : goal.returns-in-Ok-clause-front
returns-in-Ok-clause-front g c =
    subst (λ (bytes : List ℕ). OnErr c.put.result (WritesFront (g.K.Sink.told c.args.output.now) (g.K.Sink.told c.put.new.output) bytes))
    (c.deref.ensures.value ∙ c.in-Ok.ensures) c.put.ensures.front

pub returns-in-Err-clause-written : goal.returns-in-Err-clause-written
returns-in-Err-clause-written g c = tt

-- nothing was written
pub returns-in-Err-clause-front : goal.returns-in-Err-clause-front
returns-in-Err-clause-front g c = record { front = []; rest = demo_line c.args.seed c.args.steps; whole = refl; written = Appends-nil _ }
