use Rattle.std.proofs.Common.{ap, ◌∙◌}
use Rattle.frame_rules.specs.FrameBytes.{joined_bytes}
use Rattle.script_rules.specs.CaptureText.{run_at_first, encoder_frames}
use Rattle.headline.proofs.Interleaved.{sent_over_the_journal}
use Rattle.headline.proofs.SentByTakes.{sent_are_frames}
use Rattle.headline.proofs.step_laws.viewer_is_sent_its_takes_over_the_final_journal.Goals as goal

pub returns : goal.returns
returns c = record {
  frames = λ head asked v present. sent_over_the_journal head v asked present;
  bytes = λ head asked v present. sent_are_frames head v asked (run_at_first encoder_frames head.size) ∙ ap joined_bytes (sent_over_the_journal head v asked present);
}
