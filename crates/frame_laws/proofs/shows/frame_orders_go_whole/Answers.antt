use Rattle.session_rules.proofs.Fitting.{sides_of}
use Rattle.frame_laws.proofs.JournalShown.{sound_take}
use Rattle.frame_laws.proofs.shows.frame_orders_go_whole.Goals as goal

pub returns : goal.returns
returns k = record {
  fit = λ head c j e t client sized all legal up old. (sound_take head c j sized all legal e t client (sides_of head.size.w head.size.h sized) up old).fit;
  short = λ head c j e t client sized all legal up old. (sound_take head c j sized all legal e t client (sides_of head.size.w head.size.h sized) up old).short;
  few = λ head c j e t client sized all legal up old. (sound_take head c j sized all legal e t client (sides_of head.size.w head.size.h sized) up old).few;
}
