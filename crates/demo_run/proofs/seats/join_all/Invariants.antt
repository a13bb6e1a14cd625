use Rattle.std.specs.Prelude.{◌≡◌}
use Rattle.px_core.specs.Picture.{listed}
use Rattle.script_run.specs.Runs.{IsRunOf}
use Rattle.demo_run.specs.Scene.{demo_head, join_of}
use Rattle.demo_run.specs.Standing.{run_of}
use Rattle.demo_run.proofs.seats.join_all.Given as goal

-- so many viewers joined
abbrev pub invariant-loop-i : goal.invariant-loop-i
invariant-loop-i l = record {
  head : l.host.session.head ≡ demo_head;
  run : IsRunOf l.host (run_of (listed l.i 1 join_of));
}
