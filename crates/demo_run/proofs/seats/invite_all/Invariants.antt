use Rattle.std.specs.Prelude.{◌≡◌, false}
use Rattle.px_core.specs.Picture.{listed}
use Rattle.script_rules.specs.CaptureText.{run_at_first, encoder_frames}
use Rattle.script_run.specs.Runs.{IsRunOf}
use Rattle.demo_run.specs.Scene.{demo_size, row_of}
use Rattle.demo_run.proofs.seats.invite_all.Given as goal

-- so many rows came, and no step
abbrev pub invariant-loop-i : goal.invariant-loop-i
invariant-loop-i l = record {
  begun : l.host.begun ≡ false;
  head : l.host.session.head ≡ record { size = demo_size; rows = listed l.i 1 row_of };
  run : IsRunOf l.host (run_at_first encoder_frames demo_size);
}
