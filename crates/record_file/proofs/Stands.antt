-- What the bytes of a record stand for, by how far its reading has come.
use Rattle.std.proofs.Common.{◌≡◌, ◌≢◌, ℕ, ◌+◌, ◌<◌, ◌≤◌, List, [], ◌∷◌, ◌++◌, length, drop, refl, ap, sym, subst, ◌∙◌, arith, Ok, Err, Some, None, append_assoc, append-nil}
use Rattle.std.specs.Prelude.{Bool, true, false, Option, slice_index, nat_lt}
use Rattle.std.proofs.lemmas.List.{length-append, length-drop}
use Rattle.byteorder.specs.Endian.{little_number}
use Rattle.wire_num.specs.Field.{Read, place_in}
use Rattle.wire_num.specs.Caused.{Caused, before_caused, caused}
use Rattle.session_rules.specs.declared.entry.Entry.{Entry}
use Rattle.session_rules.specs.Journal.{Head, refusal_of, IsLegalJournal}
use Rattle.session_core.specs.SessionModel.{reached_by}
use Rattle.session_core.proofs.Sessions.{reached_at_end}
use Rattle.record_rules.specs.Reading.{Lack, counted_at, framed_at, body_at, head_at}
use Rattle.record_rules.specs.Reading.Lack.{Missing, Broken}
use Rattle.record_rules.specs.Records.{Entries, entry_and, entries_in, entries_of, end_by, recorded, recorded_entries, journal_of_record}
use Rattle.record_rules.specs.Records.End.{Unfinished, Faulty}
use Rattle.record_rules.proofs.Extends.{head_prompt, counted_by, counted_is, framed, framed_is, framed_shorter, framed_missing, entries_step, behind, entries_go_on}
use Rattle.record_file.specs.declared.told.Told.{Told}
use Rattle.record_file.specs.declared.playing.Playing.{Playing}
use Rattle.record_file.specs.Replaying.{Replayed, replayed, replayed_of, replayed_by, Fault}
use Rattle.record_file.specs.Replaying.Fault.{BadForm, BadEntry}
use Rattle.record_file.specs.Told.{Tells, IsFirstTold}
use Rattle.record_file.specs.Standing.{IsKept, HasBegun, GoesOn, StandsAt, StandsFor}
use Rattle.record_file.proofs.Legal.{all_legal, first_illegal}

-- ---- what is read of a part

abbrev ended : Lack → List ℕ → Entries
ended lack left = record { entries = []; lack = lack; left = left }

-- where no entry is read
pub ends : (bs : List ℕ) (lack : Lack) (left : List ℕ) → framed_at bs ≡ Err (lack, left) → entries_of bs ≡ ended lack left
ends bs lack left e = ap (λ r. entry_and r (entries_in (length bs))) e

-- ---- an entry takes at most 65,537 bytes

small_number : (bs : List ℕ) → slice_index bs 0 < 256 → slice_index bs 1 < 256 → little_number 2 bs < 65536
small_number bs a b = omega (arith, a, b)

-- of what is counted, so much is left
counted_few : (bs body rest : List ℕ) → slice_index bs 0 < 256 → slice_index bs 1 < 256 → counted_at bs ≡ Ok (body, rest) → length bs ≤ length rest + 65537
counted_few bs body rest a b e = by (nat_lt (length bs) 2) (nat_lt (length (drop 2 bs)) (little_number 2 bs)) refl (sym (counted_is bs) ∙ e)
  where
    left_or : List ℕ → Read (List ℕ) → List ℕ
    left_or other (Ok v) = v.1
    left_or other (Err left) = other

    by : (s t : Bool) → nat_lt (length bs) 2 ≡ s → counted_by bs s t ≡ Ok (body, rest) → length bs ≤ length rest + 65537
    by true t f h = absurd (cc h)
    by false true f h = absurd (cc h)
    by false false f h =
        let left : drop (little_number 2 bs) (drop 2 bs) ≡ rest = ap (left_or []) h in
        let l = length-drop 2 bs in
        let m = length-drop (little_number 2 bs) (drop 2 bs) in
        let n = ap length left in
        let few = small_number bs a b in
        omega (arith, l, m, n, few)

abbrev left_of : Caused Lack Entry → List ℕ
left_of (Ok v) = v.1
left_of (Err w) = w.1

-- what is left behind an entry that is read, or from a field on that breaks its rule
framed_few : (bs left : List ℕ) (q : Caused Lack Entry) → slice_index bs 0 < 256 → slice_index bs 1 < 256 → framed_at bs ≡ q → left_of q ≡ left → length bs ≤ length left + 65537
framed_few bs left q a b e is = by (counted_at bs) refl (sym (framed_is bs) ∙ e)
  where
    body : (after : List ℕ) (r : Read Entry) → length bs ≤ length after + 65537 → before_caused after (caused Broken r) ≡ q → length bs ≤ length left + 65537
    body after (Ok u) h k = let same : after ≡ left = ap left_of k ∙ is in let l = ap length same in omega (arith, h, l)
    body after (Err there) h k =
        let same : there ++ after ≡ left = ap left_of k ∙ is in
        let l = ap length same in
        let m = length-append there after in
        omega (arith, h, l, m)

    by : (r : Read (List ℕ)) → counted_at bs ≡ r → framed r ≡ q → length bs ≤ length left + 65537
    by (Ok u) c k = body u.1 (body_at u.0) (counted_few bs u.0 u.1 a b c) k
    by (Err there) c k =
        let same : there ≡ left = ap left_of k ∙ is in
        let whole : there ≡ bs = framed_missing bs there (framed_is bs ∙ ap framed c) in
        let l = ap length same in
        let m = ap length whole in
        omega (arith, l, m)

pub entry_few : (bs : List ℕ) (used : ℕ) (e : Entry) → slice_index bs 0 < 256 → slice_index bs 1 < 256 → used ≤ length bs → framed_at bs ≡ Ok (e, drop used bs) → used ≤ 65537
entry_few bs used e a b within is =
    let l = framed_few bs (drop used bs) (Ok (e, drop used bs)) a b is refl in
    let m = length-drop used bs in
    omega (arith, l, m, within)

pub fault_few : (bs : List ℕ) (at : ℕ) → slice_index bs 0 < 256 → slice_index bs 1 < 256 → at ≤ length bs → framed_at bs ≡ Err (Broken, drop at bs) → at ≤ 65537
fault_few bs at a b within is =
    let l = framed_few bs (drop at bs) (Err (Broken, drop at bs)) a b is refl in
    let m = length-drop at bs in
    omega (arith, l, m, within)

pub entry_some : (bs : List ℕ) (used : ℕ) (e : Entry) → used ≤ length bs → framed_at bs ≡ Ok (e, drop used bs) → 0 < used
entry_some bs used e within is =
    let l = framed_shorter bs e (drop used bs) is in
    let m = length-drop used bs in
    omega (arith, l, m, within)

-- ---- what a stream stands for

pub replayed_is : (stream : List ℕ) (q : Caused Lack Head) → head_at stream ≡ q → replayed stream ≡ replayed_of (recorded stream q)
unfolding replayed journal_of_record
replayed_is stream q e = ap (λ p. replayed_of (recorded stream p)) e

abbrev replayed_with : List ℕ → Head → List Entry → Entries → Replayed
replayed_with stream head j es = replayed_by (Some head) (j ++ es.entries) (end_by es.lack (place_in stream es.left))

stands_is : (stream left : List ℕ) (p : Playing) → StandsAt stream left p → replayed stream ≡ replayed_with stream p.session.head p.session.journal (entries_of left)
stands_is stream left p s =
    replayed_is stream (Ok (p.session.head, s.rest)) s.head
    ∙ ap (λ es. replayed_of (recorded_entries stream p.session.head es)) s.read

-- with less than a whole entry behind the session's journal
pub whole_is : (stream part : List ℕ) (p : Playing) → StandsFor stream part p → IsLegalJournal p.session.head p.session.journal
    → replayed stream ≡ record { head = Some p.session.head; entries = p.session.journal; fault = None }
whole_is stream part p s legal =
    stands_is stream part p s.stands
    ∙ ap (replayed_with stream p.session.head p.session.journal) (ends part Missing part s.partial)
    ∙ ap (λ xs. replayed_by (Some p.session.head) xs (Unfinished (place_in stream part))) (append-nil p.session.journal)
    ∙ all_legal p.session.head p.session.journal (Unfinished (place_in stream part)) legal

-- with a field that breaks the form
pub broken_is : (stream left : List ℕ) (p : Playing) (at : ℕ) → StandsAt stream left p → IsLegalJournal p.session.head p.session.journal → at ≤ length left
    → framed_at left ≡ Err (Broken, drop at left)
    → replayed stream ≡ record { head = Some p.session.head; entries = p.session.journal; fault = Some (BadForm (p.place + at)) }
broken_is stream left p at s legal within e =
    let l = length-drop at left in
    let place : place_in stream (drop at left) ≡ p.place + at = omega (arith, l, s.place, within) in
    stands_is stream left p s
    ∙ ap (replayed_with stream p.session.head p.session.journal) (ends left Broken (drop at left) e)
    ∙ ap (λ xs. replayed_by (Some p.session.head) xs (Faulty (place_in stream (drop at left)))) (append-nil p.session.journal)
    ∙ all_legal p.session.head p.session.journal (Faulty (place_in stream (drop at left))) legal
    ∙ ap (λ n. record { head = Some p.session.head; entries = p.session.journal; fault = Some (BadForm n) }) place

-- with an entry that isn't legal
pub illegal_is : (stream left rest : List ℕ) (p : Playing) (e : Entry) → StandsAt stream left p → IsLegalJournal p.session.head p.session.journal
    → framed_at left ≡ Ok (e, rest) → refusal_of p.session.head (reached_by p.session) e ≢ None
    → replayed stream ≡ record { head = Some p.session.head; entries = p.session.journal; fault = Some (BadEntry (length p.session.journal)) }
illegal_is stream left rest p e s legal is out =
    stands_is stream left p s
    ∙ ap (replayed_with stream p.session.head p.session.journal) (entries_step left e rest is)
    ∙ first_illegal p.session.head p.session.journal (entries_of rest).entries e (end_by (entries_of rest).lack (place_in stream (entries_of rest).left)) legal
    (λ h. out (ap (λ r. refusal_of p.session.head r e) (reached_at_end p.session.head.size p.session.journal) ∙ h))

-- ---- how it goes on

-- an entry more was replayed
pub one_more : (stream left : List ℕ) (used : ℕ) (e : Entry) (p q : Playing) → used ≤ length left → framed_at left ≡ Ok (e, drop used left) → StandsAt stream left p → GoesOn e used p q
    → StandsAt stream (drop used left) q
one_more stream left used e p q within is s g =
    let l = length-drop used left in
    let rest : Entries = entries_of (drop used left) in
    record {
      rest = s.rest;
      head = s.head ∙ ap (λ h. Ok (h, s.rest)) (sym g.head);
      read = s.read ∙ ap (behind p.session.journal) (entries_step left e (drop used left) is)
          ∙ ap (λ xs. record { entries = xs; lack = rest.lack; left = rest.left }) (sym (append_assoc p.session.journal (e ∷ []) rest.entries) ∙ ap (λ j. j ++ rest.entries) (sym g.journal));
      place = omega (arith, g.place, s.place, l, within);
    }

-- more bytes came
pub more_bytes : (stream part more : List ℕ) (p : Playing) → StandsFor stream part p → StandsAt (stream ++ more) (part ++ more) p
more_bytes stream part more p s =
    let j = p.session.journal in
    let read : entries_of s.stands.rest ≡ behind j (ended Missing part) = s.stands.read ∙ ap (behind j) (ends part Missing part s.partial) in
    let l = length-append stream more in
    let m = length-append part more in
    record {
      rest = s.stands.rest ++ more;
      head = head_prompt.ok stream more p.session.head s.stands.rest s.stands.head;
      read = (entries_go_on s.stands.rest more).1 (ap (λ es. es.lack) read)
          ∙ ap (λ (es : Entries). behind es.entries (entries_of (es.left ++ more))) read
          ∙ ap (λ xs. behind xs (entries_of (part ++ more))) (append-nil j);
      place = omega (arith, s.stands.place, l, m);
    }

-- behind the head
pub behind_head : (stream : List ℕ) (used : ℕ) (head : Head) (p : Playing) → used ≤ length stream → head_at stream ≡ Ok (head, drop used stream) → HasBegun head used p → StandsAt stream (drop used stream) p
behind_head stream used head p within is b =
    let l = length-drop used stream in
    record {
      rest = drop used stream;
      head = is ∙ ap (λ h. Ok (h, drop used stream)) (sym b.head_is);
      read = ap (λ j. behind j (entries_of (drop used stream))) (sym b.journal);
      place = omega (arith, b.place_is, l, within);
    }

-- nothing is left
pub nothing_left : (stream left : List ℕ) (p : Playing) → StandsAt stream left p → left ≡ [] → StandsFor stream left p
unfolding framed_at counted_at
nothing_left stream left p s e = record { stands = s; partial = rw e refl }

pub no_more : (stream left there : List ℕ) (p : Playing) → StandsAt stream left p → framed_at left ≡ Err (Missing, there) → StandsFor stream left p
no_more stream left there p s e = record { stands = s; partial = e ∙ ap (λ xs. Err (Missing, xs)) (framed_missing left there e) }

-- ---- the head

pub in_head_is : (stream : List ℕ) (missing : ℕ) → missing ≤ length stream → head_at stream ≡ Err (Missing, drop missing stream) → replayed stream ≡ record { head = None; entries = []; fault = None }
in_head_is stream missing within e = replayed_is stream (Err (Missing, drop missing stream)) e

pub broken_head_is : (stream : List ℕ) (at : ℕ) → at ≤ length stream → head_at stream ≡ Err (Broken, drop at stream) → replayed stream ≡ record { head = None; entries = []; fault = Some (BadForm at) }
broken_head_is stream at within e =
    let l = length-drop at stream in
    let place : place_in stream (drop at stream) ≡ at = omega (arith, l, within) in
    replayed_is stream (Err (Broken, drop at stream)) e ∙ ap (λ n. record { head = None; entries = []; fault = Some (BadForm n) }) place

-- ---- what is told

pub kept_tells : (r : Replayed) (p : Playing) (t : Told) (fault : Option Fault) → r ≡ record { head = Some p.session.head; entries = p.session.journal; fault = fault } → IsKept p t → Tells r t
kept_tells r p t fault e k = subst (λ (q : Replayed). Tells q t) (sym e) (record { size = k.size; length = k.length; picture = k.picture })

pub first_tells : (r : Replayed) (t : Told) (fault : Option Fault) → r ≡ record { head = None; entries = []; fault = fault } → IsFirstTold t → Tells r t
first_tells r t fault e k = subst (λ (q : Replayed). Tells q t) (sym e) (record { size = k.size; length = k.length; picture = k.picture })
