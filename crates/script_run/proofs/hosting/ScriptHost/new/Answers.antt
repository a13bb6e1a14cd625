use Rattle.std.proofs.Common.{refl}
use Rattle.script_run.proofs.hosting.ScriptHost.new.Goals as goal

pub returns-clause-run : goal.returns-clause-run
returns-clause-run c = record {
  journal = refl;
  reached = refl;
  present = λ v here. absurd (cc here);
  later = λ v above. record { asked = refl; suppressed = refl; taken = refl; encoder = refl; nobody = refl };
}
