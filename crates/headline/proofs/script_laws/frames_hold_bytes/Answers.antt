use Rattle.headline.proofs.SendsBytes.{take_holds, frames_hold_bytes, steps_send_bytes}
use Rattle.headline.proofs.script_laws.frames_hold_bytes.Goals as goal

pub returns : goal.returns
returns k = record {
  take = λ head c j e t sized all legal up. take_holds head c j sized all legal e t up;
  steps = frames_hold_bytes;
  sent = steps_send_bytes;
}
