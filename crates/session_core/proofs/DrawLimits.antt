-- The limits of a legal drawing, and of a legal event.
use Rattle.std.proofs.Common.{◌≡◌, ℕ, ◌+◌, ◌≤◌, ◌<◌, None, arith}
use Rattle.std.proofs.lemmas.Bool.Decides.{nat_tests}
use Rattle.std.specs.Prelude.{nat_lt, nat_le}
use Rattle.draw_ops.specs.declared.shape.Drawing.{Drawing}
use Rattle.input_pdu.specs.declared.event.Event.{Event}
use Rattle.session_rules.specs.declared.entry.Entry.TheVariants.{Give, Input, Draw}
use Rattle.session_rules.specs.Journal.{Head, Reached, refusal_of, room_test, shape_pixels, most_entries, most_image_pixels}
use Rattle.session_rules.specs.Journal.Refusal.{JournalFull}
use Rattle.session_rules.proofs.OwnSteps.{unless-none, tests-legal}

room_left : (r : Reached) → room_test r ≡ None → r.limited < 1048576
room_left r h = let t = unless-none (nat_lt r.limited most_entries) JournalFull h in grind (arith, nat_tests, t)

pub draw_room : (head : Head) (r : Reached) (by : ℕ) (d : Drawing) → refusal_of head r (Draw by d) ≡ None → r.limited < 1048576
draw_room head r by d h = room_left r (tests-legal head r (Draw by d) h).1.1.0

pub draw_pixels : (head : Head) (r : Reached) (by : ℕ) (d : Drawing) → refusal_of head r (Draw by d) ≡ None → r.image_pixels + shape_pixels d.shape ≤ 67108864
draw_pixels head r by d h =
    let t = unless-none (nat_le (r.image_pixels + shape_pixels d.shape) most_image_pixels) JournalFull (tests-legal head r (Draw by d) h).1.1.1.0 in
    grind (arith, nat_tests, t)

pub input_room : (head : Head) (r : Reached) (by : ℕ) (e : Event) → refusal_of head r (Input by e) ≡ None → r.limited < 1048576
input_room head r by e h = room_left r (tests-legal head r (Input by e) h).1.1.0

pub give_room : (head : Head) (r : Reached) (by to : ℕ) → refusal_of head r (Give by to) ≡ None → r.limited < 1048576
give_room head r by to h = room_left r (tests-legal head r (Give by to) h).1.0
