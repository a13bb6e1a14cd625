-- What is seen of the host in code, and for which runs it stands.
use Rattle.std.specs.Prelude.{◌≡◌, false, []}
use Rattle.frame_rules.specs.Encoder.{Encoder}
use Rattle.session_core.specs.SessionModel.{is_here}
use Rattle.script_rules.specs.Script.{ScriptReading}
use Rattle.script_rules.specs.CaptureText.{Run}
use Rattle.script_run.specs.Hosts.{HostModel}
use Rattle.script_run.specs.Runs.{IsRunOf}
use Rattle.script_run.specs.Standing.{Seen}

abbrev pub seen_of : HostModel → Seen
seen_of host = record { head = host.session.head; begun = host.begun; here = is_here host.session }

-- the host stands for this run, which has the reading's session; before the first step nobody is present
pub record IsRunOfReading (host : HostModel) (r : ScriptReading) (run : Run Encoder) : Type 0 where
  pub is_run : IsRunOf host run
  pub play : r.play ≡ run.play
  pub early : r.begun ≡ false → r.play.reached.viewers ≡ []
