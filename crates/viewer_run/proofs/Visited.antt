-- A viewer's whole visit, from its first byte to the last word.
use Rattle.std.proofs.Common.{◌≡◌, ◌⊎◌, ℕ, suc, ◌+◌, ◌<◌, ◌≤◌, List, [], ◌∷◌, ◌++◌, length, sym, refl, ap, ap₂, ◌∙◌, subst, inl, inr, ⊎_elim, arith, append_assoc, append-nil, map, drop}
use Rattle.std.proofs.lemmas.List.{append_cancel_left}
use Rattle.std.proofs.lemmas.List.Elements.{All-cons}
use Rattle.std.specs.List.{range_with_len}
use Rattle.std.specs.Prelude.{Option, Some, Bool, true, false, All, slice_get, option_to_list, Ok}
use Rattle.std.specs.declared.option.Option.TheVariants as std
use Rattle.std.specs.Io.KnownBytes.{Appends}
use Rattle.std.proofs.KnownBytes.{Appends-trans}
use Rattle.edge_io.specs.Faults.{Rose}
use Rattle.edge_io.specs.Outside.{Input, Output, Outside, outside}
use Rattle.px_core.specs.declared.surface.Size.{Size}
use Rattle.px_core.specs.Rectangle.{is_session_size}
use Rattle.caps_sets.specs.declared.confirmed.Confirmed.{Confirmed}
use Rattle.conn_rules.specs.declared.conn_step.ConnStep.{ConnStep}
use Rattle.conn_rules.specs.Hearing.{Hearing, heard, host_handshake, first_hearing}
use Rattle.session_rules.specs.declared.entry.Role.{Role}
use Rattle.session_rules.specs.declared.entry.Entry.{Entry}
use Rattle.session_rules.specs.declared.entry.Entry.TheVariants.{Join}
use Rattle.session_rules.specs.Journal.{Head, Reached, IsLegalJournal, is_present, reached_at}
use Rattle.session_rules.specs.Steps.{TakeOf}
use Rattle.session_rules.proofs.Journals.{reached_at-append}
use Rattle.frame_rules.specs.FrameBytes.{joined_bytes}
use Rattle.frame_rules.specs.Encoder.{first_encoder, pointed_of_takes}
use Rattle.frame_rules.specs.Describes.{HasAllCaches}
use Rattle.frame_laws.proofs.JournalShown.{frame_shows_journal}
use Rattle.headline.proofs.TakesPointed.{takes_point, takes_see_without}
use Rattle.headline.proofs.PointedFronts.{front_sees_both}
use Rattle.grow_lock.specs.Journal.{StartsWith}
use Rattle.grow_lock.proofs.Lists.{starts_trans, length_starts}
use Rattle.grow_lock.proofs.Shares.{holds_itself, holds_same, holds_trans}
use Rattle.serve_rules.specs.Turns.{SessionPass, IsTurn, Idles, FoundAll}
use Rattle.serve_rules.specs.Events.{Act, Handles, HappenFrom, places_of, Ascend, AreOfEvents, IsWithin}
use Rattle.serve_rules.specs.Notices.{Notice, events_in, notice_after_all, notice_in}
use Rattle.serve_rules.specs.Reading.{IsUnended, IsWhole}
use Rattle.serve_rules.specs.declared.ends.ConnEnd.{ConnEnd}
use Rattle.serve_rules.specs.declared.ends.ConnEnd.TheVariants.{Left, Refused, Truncated, NotInvited, RoomFull, JoinsSpent, ReadFault, WriteFault, NotStored, OutOfMemory}
use Rattle.serve_rules.specs.declared.noted.ConnReport.{ConnReport}
use Rattle.serve_rules.specs.declared.noted.Noted.{Noted}
use Rattle.serve_rules.proofs.Handling.{handles_more, high_stays}
use Rattle.serve_rules.proofs.Noticing.{events_then}
use Rattle.serve_rules.proofs.Ascending.{places_ascend, places_are_of_events}
use Rattle.serve_rules.proofs.Lists.{got_end, within_front, within_back}
use Rattle.serve_rules.proofs.ReadOn.{consumes_then}
use Rattle.viewer_run.specs.declared.guest.Guest.{Guest}
use Rattle.viewer_run.specs.declared.arriving.Visit.{Visit}
use Rattle.viewer_run.specs.Greeting.{Greets}
use Rattle.viewer_run.specs.Sending.{AtLeast}
use Rattle.viewer_run.specs.Serving.{ViewEnd, ViewFaults, FailsAtMostBeside, wants_last}
use Rattle.viewer_run.specs.Visiting.{leave_if, leave_place}
use Rattle.viewer_run.specs.Arriving.{no_notice, IsUnnoted, ServesArrival}
use Rattle.viewer_run.specs.Ending.{ultimatum_at}
use Rattle.viewer_run.proofs.Attending.{wants_left}
use Rattle.viewer_run.proofs.Coming.{present_by}
use Rattle.viewer_run.proofs.TakesOn.{present_stays, pointed_stay}
use Rattle.viewer_run.specs.LastWords.{is_cut, SaysLast, Writes}
use Rattle.viewer_run.specs.LetIn.{ReportsVisit}
use Rattle.viewer_run.specs.Links.{HasLeftElsewhere, BeginsWith, IsTakenLast, ServesViewer}
use Rattle.viewer_run.proofs.Words.{IsCutShort, Said, said_last, word_of, uncut_before, writes_said, whole_or_still}
use Rattle.viewer_run.proofs.LinkStreams.{IsReadyStream, ready_stream}
use Rattle.viewer_run.proofs.Outsiders.{turn_grows, idle_grows, idle_mine}
use Rattle.viewer_run.proofs.Viewed.{Viewed, viewed}
use Rattle.viewer_run.proofs.Standing.{ascend_below, ascend_then, got_on, leave_stands, leave_behind, leave_ascends, left_before}

-- ---- ends

-- a view's end is that of the whole connection, of which it read the second stretch
view_then : (xs ys : List ℕ) (h : Hearing) (n m : Notice) (link between now : Outside) (end : ConnEnd)
    → (IsWhole between.input.left ys → IsWhole link.input.left (xs ++ ys)) → between.input.faults ≡ link.input.faults → between.output.faults ≡ link.output.faults
    → (is_cut end ≡ false → n ≡ m) → ViewEnd ys h n between now end → ViewEnd (xs ++ ys) h m link now end
view_then xs ys h n m link between now Left whole a b same e =
    λ unended. let x = e (subst IsUnended (sym (same refl)) unended) in (whole x.0, x.1)
view_then xs ys h n m link between now (Refused k at) whole a b same e = e
view_then xs ys h n m link between now Truncated whole a b same e = (subst IsUnended (same refl) e.0, whole e.1, e.2)
view_then xs ys h n m link between now NotInvited whole a b same e = e
view_then xs ys h n m link between now RoomFull whole a b same e = e
view_then xs ys h n m link between now JoinsSpent whole a b same e = e
view_then xs ys h n m link between now ReadFault whole a b same e = subst (λ (k : ℕ). Rose k now.input.faults) a e
view_then xs ys h n m link between now WriteFault whole a b same e = subst (λ (k : ℕ). Rose k now.output.faults) b e
view_then xs ys h n m link between now NotStored whole a b same e = subst (λ (k : ℕ). Rose k now.output.faults) b e
view_then xs ys h n m link between now OutOfMemory whole a b same e = tt

-- an end that stays behind the last word
view_onto : (read : List ℕ) (h : Hearing) (n : Notice) (link : Outside) (input : Input) (mid now : Output) (end : ConnEnd) → now.faults ≡ mid.faults
    → ViewEnd read h n link (outside input mid) end → ViewEnd read h n link (outside input now) end
view_onto read h n link input mid now Left w e = e
view_onto read h n link input mid now (Refused k at) w e = e
view_onto read h n link input mid now Truncated w e = e
view_onto read h n link input mid now NotInvited w e = e
view_onto read h n link input mid now RoomFull w e = e
view_onto read h n link input mid now JoinsSpent w e = e
view_onto read h n link input mid now ReadFault w e = e
view_onto read h n link input mid now WriteFault w e = subst (λ (k : ℕ). Rose link.output.faults k) (sym w) e
view_onto read h n link input mid now NotStored w e = subst (λ (k : ℕ). Rose link.output.faults k) (sym w) e
view_onto read h n link input mid now OutOfMemory w e = tt

-- behind the last word
view_said : (read : List ℕ) (h : Hearing) (n : Notice) (link : Outside) (input : Input) (mid now : Output) (end said : ConnEnd) (asked : Bool)
    → ViewEnd read h n link (outside input mid) end → ((ultimatum_at end asked ≡ [] → ⊥) → mid.faults ≡ link.output.faults)
    → Said end asked said mid now → ViewEnd read h n link (outside input now) said
view_said read h n link input mid now end said asked e calm s = ⊎_elim
    (λ (l : (said ≡ end) × (now.faults ≡ mid.faults)). subst (ViewEnd read h n link (outside input now)) (sym l.0) (view_onto read h n link input mid now end l.1 e))
    (λ (r : IsCutShort end asked said mid now). ⊎_elim
    (λ (x : (said ≡ WriteFault) × Rose mid.faults now.faults). subst (ViewEnd read h n link (outside input now)) (sym x.0) (subst (λ (k : ℕ). Rose k now.faults) (calm r.due) x.1))
    (λ (m : said ≡ OutOfMemory). subst (ViewEnd read h n link (outside input now)) (sym m) tt)
    r.how)
    s.stays

-- ---- reads that failed

-- counted from before, where none had failed
beside_since : (h : Hearing) (m : Notice) (link between now : Outside) → between.input.faults ≡ link.input.faults → FailsAtMostBeside h m between now
    → FailsAtMostBeside h m link now
beside_since h m link between now a e = ⊎_elim (λ calm. inl (calm ∙ a)) (λ on. inr on) e

faults_since : (h : Hearing) (m : Notice) (link between now : Outside) (end : ConnEnd) → between.input.faults ≡ link.input.faults
    → between.output.faults ≡ link.output.faults → ViewFaults h m between now end → ViewFaults h m link now end
faults_since h m link between now Left a b e = e ∙ a
faults_since h m link between now (Refused k at) a b e = e ∙ a
faults_since h m link between now Truncated a b e = e ∙ a
faults_since h m link between now NotInvited a b e = e ∙ a
faults_since h m link between now RoomFull a b e = e ∙ a
faults_since h m link between now JoinsSpent a b e = e ∙ a
faults_since h m link between now ReadFault a b e = (e.0, e.1 ∙ b)
faults_since h m link between now WriteFault a b e = beside_since h m link between now a e
faults_since h m link between now NotStored a b e = beside_since h m link between now a e
faults_since h m link between now OutOfMemory a b e = beside_since h m link between now a e

-- an end that stays behind the last word
faults_onto : (h : Hearing) (m : Notice) (link : Outside) (input : Input) (mid now : Output) (end : ConnEnd) → now.faults ≡ mid.faults
    → ViewFaults h m link (outside input mid) end → ViewFaults h m link (outside input now) end
faults_onto h m link input mid now Left w e = e
faults_onto h m link input mid now (Refused k at) w e = e
faults_onto h m link input mid now Truncated w e = e
faults_onto h m link input mid now NotInvited w e = e
faults_onto h m link input mid now RoomFull w e = e
faults_onto h m link input mid now JoinsSpent w e = e
faults_onto h m link input mid now ReadFault w e = (e.0, w ∙ e.1)
faults_onto h m link input mid now WriteFault w e = e
faults_onto h m link input mid now NotStored w e = e
faults_onto h m link input mid now OutOfMemory w e = e

calm_due : (h : Hearing) (m : Notice) (link now : Outside) (end : ConnEnd) (asked : Bool) → (ultimatum_at end asked ≡ [] → ⊥) → ViewFaults h m link now end
    → now.input.faults ≡ link.input.faults
calm_due h m link now Left asked due e = e
calm_due h m link now (Refused k at) asked due e = e
calm_due h m link now Truncated asked due e = e
calm_due h m link now NotInvited asked due e = e
calm_due h m link now RoomFull asked due e = e
calm_due h m link now JoinsSpent asked due e = e
calm_due h m link now ReadFault asked due e = absurd (due refl)
calm_due h m link now WriteFault asked due e = absurd (due refl)
calm_due h m link now NotStored asked due e = absurd (due refl)
calm_due h m link now OutOfMemory asked due e = absurd (due refl)

-- behind the last word
faults_said : (h : Hearing) (m : Notice) (link : Outside) (input : Input) (mid now : Output) (end said : ConnEnd) (asked : Bool)
    → ViewFaults h m link (outside input mid) end → Said end asked said mid now → ViewFaults h m link (outside input now) said
faults_said h m link input mid now end said asked e s = ⊎_elim
    (λ (l : (said ≡ end) × (now.faults ≡ mid.faults)). subst (ViewFaults h m link (outside input now)) (sym l.0) (faults_onto h m link input mid now end l.1 e))
    (λ (r : IsCutShort end asked said mid now). let calm = calm_due h m link (outside input mid) end asked r.due e in ⊎_elim
    (λ (x : (said ≡ WriteFault) × Rose mid.faults now.faults). subst (ViewFaults h m link (outside input now)) (sym x.0) (inl calm))
    (λ (w : said ≡ OutOfMemory). subst (ViewFaults h m link (outside input now)) (sym w) (inl calm))
    r.how)
    s.stays

-- a word is due only where nothing is cut
due_uncut : (end : ConnEnd) (asked : Bool) → (ultimatum_at end asked ≡ [] → ⊥) → is_cut end ≡ false
due_uncut Left asked due = refl
due_uncut (Refused k at) asked due = refl
due_uncut Truncated asked due = refl
due_uncut NotInvited asked due = refl
due_uncut RoomFull asked due = refl
due_uncut JoinsSpent asked due = refl
due_uncut ReadFault asked due = refl
due_uncut WriteFault asked due = absurd (due refl)
due_uncut NotStored asked due = absurd (due refl)
due_uncut OutOfMemory asked due = absurd (due refl)

begins_said : (n : ℕ) (end said : ConnEnd) (takes : List TakeOf) → (end ≡ OutOfMemory → said ≡ OutOfMemory) → BeginsWith n end takes → BeginsWith n said takes
begins_said n end said [] keeps b = keeps b
begins_said n end said (t ∷ takes) keeps b = b

want_stays : (end : ConnEnd) (asked : Bool) (said : ConnEnd) (o o' : Output) → Said end asked said o o' → end ≡ OutOfMemory → said ≡ OutOfMemory
want_stays end asked said o o' s is = ⊎_elim (λ (l : (said ≡ end) × (o'.faults ≡ o.faults)). l.0 ∙ is)
    (λ (r : IsCutShort end asked said o o'). absurd (r.due (ap (λ (x : ConnEnd). ultimatum_at x asked) is))) s.stays

pushed : (xs : List Entry) (x : Entry) → length (xs ++ x ∷ []) ≡ suc (length xs)
pushed [] x = refl
pushed (y ∷ xs) x = ap suc (pushed xs x)

-- ---- the last mark

-- a viewer who is still present when its connection has ended has a mark behind all of its events; one who isn't was made to leave
last_shown : (size : Size) (v : ℕ) (Taken : Type 0) (viewed base j : List Entry) (a : ℕ) (role : Role) (ns : List ℕ) (high last : ℕ) (here : Bool) (place : Option ℕ) (places : List ℕ) (b : Bool)
    → is_present v (reached_at size viewed (length viewed)).viewers ≡ b
    → (is_present v (reached_at size viewed (length viewed)).viewers ≡ true → (last ≡ length viewed) × Taken)
    → slice_get viewed a ≡ Some (Join v role) → a < length viewed → StartsWith base viewed → j ≡ base ++ leave_if here v → place ≡ leave_place here base → AreOfEvents v j ns
    → Ascend (suc a) ns high → high ≤ length viewed → places ≡ a ∷ (ns ++ option_to_list place)
    → (All (λ n. n < last) (a ∷ ns) × Taken) ⊎ HasLeftElsewhere v j places
last_shown size v Taken viewed base j a role ns high last here place places true is shown is_join below on grows at of asc within same =
    let whole : last ≡ length viewed = (shown is).0 in
    inl (
      All-cons (λ m. m < last) a ns (omega (arith, below, whole)) (subst (λ (m : ℕ). All (λ n. n < m) ns) (sym whole) (ascend_below (suc a) ns high (length viewed) asc within)),
      (shown is).1,
    )
last_shown size v Taken viewed base j a role ns high last here place places false is shown is_join below on grows at of asc within same =
    inr (subst (HasLeftElsewhere v j) (sym same) (left_before size v viewed base j a role ns here place is is_join below on grows at of))

-- what the last take found is what the turn before that of the Leave did
taken_last : (last leave : ℕ) (u : SessionPass) (found : List ℕ) → found ≡ u.found ++ leave ∷ [] → last ≡ length u.seen → FoundAll u → IsTakenLast last found
taken_last last leave u found turns whole all = (
  all.0,
  leave,
  turns ∙ (ap (λ (l : List ℕ). l ++ leave ∷ []) (all.1 ∙ ap (λ (n : ℕ). all.0 ++ n ∷ []) (sym whole)) ∙ append_assoc all.0 (last ∷ []) (leave ∷ [])),
)

leave_mine : (v : ℕ) (base : List Entry) (here : Bool) (place : Option ℕ) → place ≡ leave_place here base
    → range_with_len (length base) (length (leave_if here v)) ≡ option_to_list place
leave_mine v base true place at = ap (λ (o : Option ℕ). option_to_list o) (sym at)
leave_mine v base false place at = ap (λ (o : Option ℕ). option_to_list o) (sym at)

-- ---- the visit

module _ (head : Head) (p p1 r : SessionPass) (size : Size) (conn : Hearing) (name : List ℕ) (guest : Guest) (visit : Visit) (nothing noted : Noted) (said : ConnEnd)
    (link between spent : Outside) (mid : Output) where
  visited_as : size ≡ head.size → is_session_size head.size.w head.size.h ≡ true → HasAllCaches guest.confirmed → Idles p p1 → IsLegalJournal head r.seen
      → Greets (first_hearing size) conn [] name link between (Ok (Some guest)) → IsUnnoted nothing
      → (sa : ServesArrival head guest.name guest.confirmed guest.rest.items conn p1 r nothing noted between (outside spent.input mid) visit)
      → SaysLast visit.end noted.shutdown said mid spent.output
      → ServesViewer head p r (record { viewer = sa.arrival.v; end = said; places = noted.places }) link spent
  visited_as same sized caches idle legal given unnoted sa says =
      let a : Greets (first_hearing head.size) conn [] name link between (Ok (Some guest))
      = subst (λ (z : Size). Greets (first_hearing z) conn [] name link between (Ok (Some guest))) same given in
      let v : ℕ = sa.arrival.v in
      let confirmed : Confirmed = guest.confirmed in
      let q : SessionPass = sa.joined in
      let u : SessionPass = sa.viewed in
      let b : List Entry = sa.arrives.base in
      let role = sa.arrives.role in
      let t1 : Noted = sa.noted_viewed in
      let n0 : Noted = sa.noted_joined in
      let q_len : length q.seen ≡ suc (length b) = ap (λ (l : List Entry). length l) sa.arrives.turn.seen ∙ pushed b (Join v role) in
      let join_q : slice_get q.seen (length b) ≡ Some (Join v role)
      = subst (λ (l : List Entry). slice_get l (length b) ≡ Some (Join v role)) (sym sa.arrives.turn.seen) (got_end b (Join v role)) in
      let view : Viewed head v confirmed guest.rest.items conn q u n0.places.list t1.places.list (notice_in n0) (notice_in t1) between (outside spent.input mid) visit.end
      = viewed head v confirmed guest.rest.items conn q u n0 t1 between (outside spent.input mid) visit.end
      (present_by (is_present v (reached_at head.size q.seen (length q.seen)).viewers) head.size q.seen v (length b) (length q.seen) role refl join_q q_len)
      sa.arrival.first sa.stays in
      let place : Option ℕ = sa.leaves.0 in
      let c : List Entry = sa.leaves.1.base in
      let here : Bool = is_present v (reached_at head.size c (length c)).viewers in
      let turn : IsTurn u r c (leave_if here v) = sa.leaves.1.turn in
      let s : Said visit.end noted.shutdown said mid spent.output = said_last visit.end noted.shutdown said mid spent.output says in
      -- the journal
      let join : ℕ = length b in
      let on_u : StartsWith u.seen q.seen = view.handles.grows in
      let on_r : StartsWith r.seen u.seen = turn_grows u r c (leave_if here v) turn in
      let on_b : StartsWith r.seen b = starts_trans r.seen u.seen b on_r (starts_trans u.seen q.seen b on_u (Join v role ∷ [], sa.arrives.turn.seen)) in
      let join_u : slice_get u.seen (length b) ≡ Some (Join v role) = got_on u.seen q.seen (length b) (Join v role) on_u join_q in
      let below_u : length b < length u.seen = omega (arith, q_len, length_starts u.seen q.seen on_u) in
      let below_c : length b < length c = omega (arith, below_u, length_starts c u.seen turn.goes_on) in
      -- the events, over the whole journal
      let last_pass : SessionPass = record u { seen = r.seen; found = r.found } in
      let done : Handles head v (events_in view.steps) q last_pass n0.places.list t1.places.list
      = handles_more head v (events_in view.steps) q u last_pass n0.places.list t1.places.list (length c ∷ []) view.handles on_r turn.found refl (holds_itself u.share) in
      let same_high : done.high ≡ view.handles.high
      = high_stays head v (events_in view.steps) q u last_pass n0.places.list t1.places.list (length c ∷ []) view.handles on_r turn.found refl (holds_itself u.share) in
      let ns : List ℕ = places_of head v r.seen done.acts in
      let same_places : places_of head v u.seen view.handles.acts ≡ places_of head v r.seen done.acts
      = append_cancel_left n0.places.list (places_of head v u.seen view.handles.acts) (places_of head v r.seen done.acts) (sym view.handles.places ∙ done.places) in
      let asc : Ascend (suc (length b)) (places_of head v r.seen done.acts) view.handles.high
      = subst (λ (l : List ℕ). Ascend (suc (length b)) l view.handles.high) same_places
      (subst (λ (n : ℕ). Ascend n (places_of head v u.seen view.handles.acts) view.handles.high) q_len
      (places_ascend head v u.seen (length q.seen) view.handles.acts view.handles.high view.handles.happen)) in
      let happen : HappenFrom head v r.seen (suc (length b)) done.acts done.high
      = subst (λ (n : ℕ). HappenFrom head v r.seen n done.acts done.high) q_len done.happen in
      let of : AreOfEvents v r.seen (places_of head v r.seen done.acts) = places_are_of_events head v r.seen (suc (length b)) done.acts done.high happen in
      let all_places : noted.places.list ≡ length b ∷ (places_of head v r.seen done.acts ++ option_to_list place)
      = sa.leaves.2 ∙ ap (λ (l : List ℕ). l ++ option_to_list place)
      (done.places ∙ ap (λ (l : List ℕ). l ++ places_of head v r.seen done.acts) (sa.joined_places ∙ ap (λ (l : List ℕ). l ++ length b ∷ []) unnoted.0)) in
      -- the stream
      let read : List ℕ = a.fed ++ view.fed in
      let steps : List ConnStep = guest.rest.items ++ (heard conn view.fed).steps in
      let stream : IsReadyStream head.size a.fed view.fed conn guest.name confirmed guest.rest.items
      = ready_stream head.size a.fed view.fed conn guest.name confirmed guest.rest.items a.came.1 a.came.2 in
      let free_of : is_cut said ≡ false → is_cut visit.end ≡ false
      = λ free. ap is_cut (sym (uncut_before visit.end noted.shutdown said mid spent.output s free)) ∙ free in
      let same_notice : is_cut visit.end ≡ false → notice_in t1 ≡ notice_after_all no_notice steps
      = λ free. view.notice ∙ (ap (λ (n : Notice). notice_after_all n view.steps) (sa.joined_notice ∙ unnoted.1)
      ∙ ap (notice_after_all no_notice) (sym (view.front ∙ (ap (λ l. view.steps ++ l) (view.all free) ∙ append-nil view.steps)))) in
      -- the frames
      let frames : List ℕ = joined_bytes (pointed_of_takes head.size confirmed r.seen first_encoder view.takes) in
      let same_frames : joined_bytes (pointed_of_takes head.size confirmed r.seen first_encoder view.takes)
      ≡ joined_bytes (pointed_of_takes head.size confirmed u.seen first_encoder view.takes)
      = ap joined_bytes (ap (λ (j : List Entry). pointed_of_takes head.size confirmed j first_encoder view.takes) on_r.1
      ∙ pointed_stay head.size confirmed u.seen on_r.0 first_encoder view.takes 0 view.last view.follow view.within_seen) in
      let replied : (host_handshake head.size read).replies ≡ a.written = stream.replies ∙ (a.replies ∙ (ap (λ l. a.written ++ l) a.came.0 ∙ append-nil a.written)) in
      let word : List ℕ = ultimatum_at visit.end noted.shutdown in
      let within : view.last ≤ length r.seen = omega (arith, view.within_seen, length_starts r.seen u.seen on_r) in
      -- the turns
      let more : List ℕ = view.more_found ++ length c ∷ [] in
      let found_q : r.found ≡ q.found ++ (view.more_found ++ length c ∷ [])
      = turn.found ∙ (ap (λ l. l ++ length c ∷ []) view.found ∙ append_assoc q.found view.more_found (length c ∷ [])) in
      let found_1 : r.found ≡ p1.found ++ (length b ∷ (view.more_found ++ length c ∷ []))
      = found_q ∙ (ap (λ l. l ++ (view.more_found ++ length c ∷ [])) sa.arrives.turn.found ∙ append_assoc p1.found (length b ∷ []) (view.more_found ++ length c ∷ [])) in
      let found_0 : r.found ≡ p.found ++ (length idle.0 ∷ (length b ∷ (view.more_found ++ length c ∷ [])))
      = found_1 ∙ (ap (λ l. l ++ (length b ∷ (view.more_found ++ length c ∷ []))) idle.1.found
      ∙ append_assoc p.found (length idle.0 ∷ []) (length b ∷ (view.more_found ++ length c ∷ []))) in
      let acts_in : IsWithin (map (λ (x : Act). x.at) done.acts) (view.more_found ++ length c ∷ [])
      = subst (IsWithin (map (λ (x : Act). x.at) done.acts))
      (append_cancel_left q.found done.more_found (view.more_found ++ length c ∷ []) (sym done.found ∙ found_q)) done.in_found in
      let mine_u : u.mine ≡ p.mine ++ (length b ∷ places_of head v r.seen done.acts)
      = done.mine ∙ (ap (λ l. l ++ places_of head v r.seen done.acts) (sa.arrives.turn.mine ∙ ap (λ l. l ++ length b ∷ []) (idle_mine p p1 idle))
      ∙ append_assoc p.mine (length b ∷ []) (places_of head v r.seen done.acts)) in
      record {
        read = a.fed ++ view.fed;
        taken = consumes_then link.input.left between.input.left spent.input.left a.fed view.fed a.taken view.taken;
        grows = starts_trans r.seen b p.seen on_b (starts_trans b p1.seen p.seen sa.arrives.turn.goes_on (idle_grows p p1 idle));
        legal = legal;
        mine = turn.mine ∙ (ap₂ ◌++◌ mine_u (leave_mine v c here place sa.leaves.1.place_is)
            ∙ (append_assoc p.mine (length b ∷ places_of head v r.seen done.acts) (option_to_list place) ∙ ap (λ l. p.mine ++ l) (sym all_places)));
        share = holds_trans r.share u.share p.share (holds_same r.share u.share turn.share)
            (holds_trans u.share q.share p.share view.handles.share (holds_same q.share p.share (sa.arrives.turn.share ∙ idle.1.share)));
        came = inr (record {
          name = guest.name;
          confirmed = guest.confirmed;
          steps = guest.rest.items ++ (heard conn view.fed).steps;
          ready = stream.ready;
          join = length b;
          role = sa.arrives.role;
          row = sa.arrives.row;
          joins = got_on r.seen u.seen (length b) (Join v role) on_r join_u;
          number = sa.arrives.number ∙ sym (ap (λ (l : List Entry). (reached_at head.size l (length b)).joins + 1) on_b.1
              ∙ ap (λ (x : Reached). x.joins + 1) (reached_at-append head.size b on_b.0 (length b) (omega arith)));
          later = length_starts b p.seen (starts_trans b p1.seen p.seen sa.arrives.turn.goes_on (idle_grows p p1 idle));
          acts = done.acts;
          high = done.high;
          happen = happen;
          within_seen = done.within_seen;
          undone = events_in view.undone;
          events = ap events_in view.front ∙ (events_then view.steps view.undone ∙ ap (λ l. l ++ events_in view.undone) (sym done.of_events));
          all = λ free. ap events_in (view.all (free_of free));
          leave = option_to_list place;
          leaves = leave_stands head.size v c r.seen (length b) role (places_of head v r.seen done.acts) here place refl turn.seen sa.leaves.1.place_is below_c
              (got_on c u.seen (length b) (Join v role) turn.goes_on join_u) of;
          in_time = leave_behind c here place done.high sa.leaves.1.place_is (omega (arith, same_high, view.handles.within_seen, length_starts c u.seen turn.goes_on));
          places = all_places;
          ascend = subst (λ (l : List ℕ). Ascend (length b) l (length r.seen)) (sym all_places) (
            omega arith,
            ascend_then (suc (length b)) (places_of head v r.seen done.acts) view.handles.high (length c) (option_to_list place) (length r.seen) asc
                (omega (arith, view.handles.within_seen, length_starts c u.seen turn.goes_on))
                (leave_ascends v c r.seen here place turn.seen sa.leaves.1.place_is),
          );
          of_events = of;
          takes = view.takes;
          last = view.last;
          follow = view.follow;
          within_takes = within;
          begins = begins_said (suc (length b)) visit.end said view.takes (want_stays visit.end noted.shutdown said mid spent.output s)
              (subst (λ (n : ℕ). BeginsWith n visit.end view.takes) q_len view.begins);
          up_to_date = subst (λ (n : ℕ). AtLeast n (drop 1 view.takes)) q_len view.up_to_date;
          present = present_stays head v r.seen u.seen view.takes 0 view.last view.follow view.within_seen on_r view.present;
          work = view.work;
          more_found = length idle.0 ∷ (length b ∷ (view.more_found ++ length c ∷ []));
          found = found_0;
          acts_found = inr (inl (refl, acts_in));
          takes_found = within_front (length idle.0 ∷ length b ∷ []) (map (λ (t : TakeOf). t.number) (drop 1 view.takes)) (view.more_found ++ length c ∷ [])
              (within_back (length c ∷ []) (map (λ (t : TakeOf). t.number) (drop 1 view.takes)) view.more_found view.takes_found);
          word = ultimatum_at visit.end noted.shutdown;
          word_is = word_of (is_cut said) said noted.shutdown (notice_after_all no_notice steps).shutdown (ultimatum_at visit.end noted.shutdown)
              (λ free. ap (λ (n : Notice). n.shutdown) (sa.notice ∙ same_notice (free_of free))) s.word;
          writes = subst (λ (l : List ℕ). Writes said l link spent)
              (append_assoc (host_handshake head.size read).replies frames (ultimatum_at visit.end noted.shutdown))
              (writes_said visit.end noted.shutdown said ((host_handshake head.size read).replies ++ frames) (a.written ++ view.written) view.unwritten link spent mid
              (ap₂ ◌++◌ replied (same_frames ∙ view.bytes) ∙ sym (append_assoc a.written view.written view.unwritten))
              (Appends-trans link.output.told between.output.told mid.told a.written view.written a.told view.told) view.all_written s);
          sees = takes_see_without head confirmed (frame_shows_journal head confirmed) sized caches r.seen legal view.takes view.last view.follow within;
          points = takes_point head confirmed (frame_shows_journal head confirmed) sized caches r.seen legal view.takes view.last view.follow within;
          viewed = view.written;
          viewed_front = record { rest = view.unwritten; joined = same_frames ∙ view.bytes };
          said = s.written;
          said_front = record { rest = s.unwritten; joined = s.whole };
          in_order = ⊎_elim
              (λ (none : view.unwritten ≡ []). inl (sym (same_frames ∙ (view.bytes ∙ (ap (λ l. view.written ++ l) none ∙ append-nil view.written)))))
              (λ (still : s.written ≡ []). inr still)
              (whole_or_still visit.end noted.shutdown said view.unwritten mid spent.output view.all_written s);
          told = subst (Appends link.output.told spent.output.told)
              (append_assoc a.written view.written s.written ∙ ap (λ l. l ++ (view.written ++ s.written)) (sym replied))
              (Appends-trans link.output.told mid.told spent.output.told (a.written ++ view.written) s.written
              (Appends-trans link.output.told between.output.told mid.told a.written view.written a.told view.told) s.told);
          sees_first = front_sees_both head.size confirmed r.seen (map (λ (t : TakeOf). t.number) view.takes) frames view.written
              (takes_see_without head confirmed (frame_shows_journal head confirmed) sized caches r.seen legal view.takes view.last view.follow within)
              (takes_point head confirmed (frame_shows_journal head confirmed) sized caches r.seen legal view.takes view.last view.follow within)
              (record { rest = view.unwritten; joined = same_frames ∙ view.bytes });
          ends = view_said read (host_handshake head.size read).after (notice_after_all no_notice steps) link spent.input mid spent.output visit.end said noted.shutdown
              (view_then a.fed view.fed (host_handshake head.size read).after (notice_in t1) (notice_after_all no_notice steps) link between (outside spent.input mid) visit.end
              (consumes_then link.input.left between.input.left (std.Some []) a.fed view.fed a.taken) a.came.3 a.came.4 same_notice
              (subst (λ (h : Hearing). ViewEnd view.fed h (notice_in t1) between (outside spent.input mid) visit.end) (sym stream.after) view.ends))
              (λ due. view.calm (due_uncut visit.end noted.shutdown due) ∙ a.came.4) s;
          faults = faults_said (host_handshake head.size read).after (notice_after_all no_notice steps) link spent.input mid spent.output visit.end said noted.shutdown
              (faults_since (host_handshake head.size read).after (notice_after_all no_notice steps) link between (outside spent.input mid) visit.end a.came.3 a.came.4
              (subst (λ (h : Hearing). ViewFaults h (notice_after_all no_notice steps) between (outside spent.input mid) visit.end) (sym stream.after)
              (subst (λ (n : Notice). ViewFaults (heard conn view.fed).after (notice_after_all n steps) between (outside spent.input mid) visit.end)
              (sa.joined_notice ∙ unnoted.1) view.faults))) s;
          shown = λ wants.
              let free : is_cut said ≡ false = ap is_cut (wants_left said (notice_after_all no_notice steps) wants) in
              let stays : said ≡ visit.end = uncut_before visit.end noted.shutdown said mid spent.output s free in
              last_shown head.size v (IsTakenLast view.last r.found) u.seen c r.seen (length b) role (places_of head v r.seen done.acts) view.handles.high view.last here place noted.places.list
              (is_present v (reached_at head.size u.seen (length u.seen)).viewers) refl
              (λ here. let all = view.shown (ap₂ wants_last (sym stays) (same_notice (free_of free)) ∙ wants) here in
              (all.0, taken_last view.last (length c) u r.found turn.found all.0 all.1)) join_u below_u turn.goes_on turn.seen sa.leaves.1.place_is of asc
              view.handles.within_seen all_places;
        });
      }

  -- with its report
  pub visited : (report : ConnReport) → report.end ≡ said → size ≡ head.size → is_session_size head.size.w head.size.h ≡ true → HasAllCaches guest.confirmed → Idles p p1
      → IsLegalJournal head r.seen → Greets (first_hearing size) conn [] name link between (Ok (Some guest)) → IsUnnoted nothing
      → ServesArrival head guest.name guest.confirmed guest.rest.items conn p1 r nothing noted between (outside spent.input mid) visit
      → ReportsVisit visit noted report → SaysLast visit.end noted.shutdown said mid spent.output
      → ServesViewer head p r report link spent
  visited report is_end same sized caches idle legal given unnoted sa reported says =
      let viewer : report.viewer ≡ sa.arrival.v = reported.viewer ∙ sa.viewer in
      let is : report ≡ record { viewer = sa.arrival.v; end = said; places = noted.places }
      = λ i. record { viewer = viewer i; end = is_end i; places = reported.places i } in
      subst (λ (x : ConnReport). ServesViewer head p r x link spent) (sym is)
      (visited_as same sized caches idle legal given unnoted sa says)
