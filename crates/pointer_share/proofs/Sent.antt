-- A packet that is written is read by a viewer.
use Rattle.std.proofs.Common.{◌≡◌, ℕ, ◌≤◌, Bool, true, List, [], length, ap, ◌∙◌}
use Rattle.std.specs.Prelude.{Ok, Err}
use Rattle.wire_num.specs.Caused.{Caused, before_caused}
use Rattle.order_means.specs.PointerPackets.{pointer_packet}
use Rattle.order_means.proofs.PointerFound.{written_back}
use Rattle.pointer_share.specs.declared.fault.Cause.{Cause}
use Rattle.pointer_share.specs.Messages.{Message, message_at}
use Rattle.pointer_share.specs.Views.{View, view_after, view_by, pointed, view_in, view_fed}

fed_ok : (r : Caused Cause Message) (v w : View) (packet message after : List ℕ) → view_by v message r ≡ Ok w → pointed (view_by v packet (before_caused after r)) ≡ Ok (w, true)
fed_ok (Ok read) v w packet message after e = ap pointed e
fed_ok (Err d) v w packet message after e = absurd (let no : ⊥ = cc in no)

pub view_back : (wide : Bool) (v w : View) (message : List ℕ) → length message ≤ 16365 → view_after wide v message ≡ Ok w → view_fed wide v (pointer_packet message) ≡ Ok (w, true)
view_back wide v w message h e = ap (view_in wide v (pointer_packet message)) (written_back message h) ∙ fed_ok (message_at wide v.cells message) v w (pointer_packet message) message [] e
