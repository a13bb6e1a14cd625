-- What is due in the course of a service, in examples.
use Rattle.std.proofs.Common.{◌≡◌, ℕ, List, [], ◌∷◌, take, refl, ap, sym, ◌∙◌, append-nil, Some, None}
use Rattle.px_core.specs.declared.surface.Size.{Size}
use Rattle.wire_num.specs.FieldValue.{passing_at, at_least, rest_count_at}
use Rattle.tpkt_x224.specs.Request.{references, request_header, after_cookie, asked_protocols}
use Rattle.conn_rules.specs.Hearing.{heard}
use Rattle.conn_rules.specs.Hearing.StreamEnd.{Between, Within, RefusedAt}
use Rattle.answer_run.specs.Asking.Guest.{Coming, Viewing, TurnedAway}
use Rattle.answer_run.specs.Service.{end_met, written_of_stream, end_so_far_of_stream, answer_of_stream}
use Rattle.answer_run.specs.Cut.{WritesHandedBytes}
use Rattle.answer_run.specs.declared.ending.Ending.TheVariants.{Left, AskedForEnd, Refused, NotInvited}

abbrev size : Size
size = record { w = 64; h = 48 }

abbrev ann : List ℕ
ann = 97 ∷ 110 ∷ 110 ∷ []

-- a Connection Request, and the Connection Confirm that answers it
abbrev request : List ℕ
request = 3 ∷ 0 ∷ 0 ∷ 19 ∷ 14 ∷ 224 ∷ 0 ∷ 0 ∷ 0 ∷ 0 ∷ 0 ∷ 1 ∷ 0 ∷ 8 ∷ 0 ∷ 0 ∷ 0 ∷ 0 ∷ 0 ∷ []

abbrev confirm : List ℕ
confirm = 3 ∷ 0 ∷ 0 ∷ 19 ∷ 14 ∷ 208 ∷ 0 ∷ 0 ∷ 18 ∷ 52 ∷ 0 ∷ 2 ∷ 0 ∷ 8 ∷ 0 ∷ 0 ∷ 0 ∷ 0 ∷ 0 ∷ []

-- ---- what is due for bytes

a_whole_request_is_due_its_confirm : written_of_stream size ann request ≡ confirm
unfolding passing_at at_least rest_count_at references request_header after_cookie asked_protocols heard
a_whole_request_is_due_its_confirm = refl

-- a body that serves into memory and writes nothing where the next read fails
who_writes_nothing_for_a_request : WritesHandedBytes size ann request (Some []) (Some []) (Some []) → ⊥
who_writes_nothing_for_a_request w =
    let handed : w.handed ≡ request = sym (append-nil w.handed) ∙ sym w.is_handed in
    let none : [] ≡ confirm = w.written ∙ (ap (written_of_stream size ann) handed ∙ a_whole_request_is_due_its_confirm) in
    cc none

nothing_is_due_while_a_byte_is_missing : written_of_stream size ann (take 18 request) ≡ []
unfolding passing_at at_least rest_count_at references request_header after_cookie asked_protocols heard
nothing_is_due_while_a_byte_is_missing = refl

a_service_goes_on_behind_a_request : end_so_far_of_stream size ann request ≡ None
unfolding passing_at at_least rest_count_at references request_header after_cookie asked_protocols heard
a_service_goes_on_behind_a_request = refl

a_service_goes_on_within_a_packet : end_so_far_of_stream size ann (take 18 request) ≡ None
unfolding passing_at at_least rest_count_at references request_header after_cookie asked_protocols heard
a_service_goes_on_within_a_packet = refl

-- a first byte that isn't 3 is an end at once: no more is due than the ultimatum
another_version_is_an_end : end_so_far_of_stream size ann (4 ∷ []) ≡ Some (Refused 1 0)
unfolding heard
another_version_is_an_end = refl

nothing_is_due_for_another_version_while_the_service_goes_on : written_of_stream size ann (4 ∷ []) ≡ []
unfolding heard
nothing_is_due_for_another_version_while_the_service_goes_on = refl

its_ultimatum_is_the_answer : answer_of_stream size ann (4 ∷ []) ≡ 3 ∷ 0 ∷ 0 ∷ 9 ∷ 2 ∷ 240 ∷ 128 ∷ 32 ∷ 128 ∷ []
unfolding heard
its_ultimatum_is_the_answer = refl

-- ---- ends that come whatever follows

who_is_not_let_in_is_at_its_end : end_met TurnedAway (Within 3) None ≡ Some NotInvited
who_is_not_let_in_is_at_its_end = refl

a_viewer_that_said_nothing_goes_on : end_met Viewing Between None ≡ None
a_viewer_that_said_nothing_goes_on = refl

a_newcomer_goes_on_within_a_packet : end_met (Coming ann) (Within 3) None ≡ None
a_newcomer_goes_on_within_a_packet = refl

a_newcomers_ultimatum_is_an_end : end_met (Coming ann) Between (Some Left) ≡ Some Left
a_newcomers_ultimatum_is_an_end = refl

a_shutdown_is_an_end : end_met Viewing Between (Some AskedForEnd) ≡ Some AskedForEnd
a_shutdown_is_an_end = refl

a_refusal_is_an_end : end_met Viewing (RefusedAt 14 1000) None ≡ Some (Refused 14 1000)
a_refusal_is_an_end = refl
