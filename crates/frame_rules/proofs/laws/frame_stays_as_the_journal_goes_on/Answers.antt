use Rattle.frame_rules.proofs.FrameLaws.{frame_of-append, take_bytes-append, encoder_after-append}
use Rattle.frame_rules.proofs.laws.frame_stays_as_the_journal_goes_on.Goals as goal

pub returns : goal.returns
returns c = record { frame = frame_of-append; bytes = take_bytes-append; encoder = encoder_after-append }
