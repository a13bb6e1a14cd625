use Rattle.script_rules.specs.CaptureText.{encoder_frames}
use Rattle.headline.proofs.LinesGoOn.{run_goes_on, lines_go_on, sent_goes_on}
use Rattle.headline.proofs.capture_laws.runs_go_on.Goals as goal

pub returns : goal.returns
returns c = record { run = run_goes_on encoder_frames; lines = lines_go_on encoder_frames; sent = sent_goes_on encoder_frames }
