-- A client that doesn't join.
use Rattle.std.proofs.Common.{◌≡◌, ℕ, List, [], ◌∷◌, ◌++◌, length, sym, refl, ap, ◌∙◌, subst, inl, ⊎_elim, append-nil}
use Rattle.std.specs.Prelude.{false, Some, Ok, Err}
use Rattle.std.specs.Io.KnownBytes.{Consumes, Appends}
use Rattle.std.proofs.KnownBytes.{Consumes-nil, Appends-nil}
use Rattle.edge_io.specs.Faults.{Rose}
use Rattle.edge_io.specs.Outside.{Input, Output, Outside, outside}
use Rattle.px_core.specs.declared.surface.Size.{Size}
use Rattle.conn_rules.specs.declared.conn_step.ConnStep.{ConnStep}
use Rattle.conn_rules.specs.Hearing.{Hearing, host_handshake, first_hearing}
use Rattle.session_rules.specs.declared.entry.Entry.{Entry}
use Rattle.session_rules.specs.Journal.{Head, IsLegalJournal, reached_at}
use Rattle.session_rules.specs.Steps.Step.{JoinStep}
use Rattle.session_rules.specs.Entering.{answer_at}
use Rattle.session_core.specs.Outcomes.{IsAnswered}
use Rattle.session_core.specs.Faults.{join_answer}
use Rattle.session_core.specs.declared.faults.JoinFault.{JoinFault}
use Rattle.session_core.specs.declared.faults.JoinFault.TheVariants as join
use Rattle.grow_lock.specs.Journal.{StartsWith}
use Rattle.grow_lock.proofs.Lists.{starts_trans, starts_itself}
use Rattle.grow_lock.proofs.Shares.{holds_same}
use Rattle.serve_rules.specs.Turns.{SessionPass, IsTurn, Idles}
use Rattle.serve_rules.specs.Events.{IsWithin}
use Rattle.serve_rules.proofs.Lists.{within_front}
use Rattle.serve_rules.specs.declared.ends.ConnEnd.{ConnEnd}
use Rattle.serve_rules.specs.declared.ends.ConnEnd.TheVariants.{Left, Refused, Truncated, NotInvited, RoomFull, JoinsSpent, ReadFault, WriteFault, NotStored, OutOfMemory}
use Rattle.serve_rules.specs.declared.noted.ConnReport.{ConnReport}
use Rattle.viewer_run.specs.declared.guest.Guest.{Guest}
use Rattle.viewer_run.specs.Greeting.{Greeting, greeting, GreetEnd, Greets, OutsideFaults}
use Rattle.viewer_run.specs.Greeting.Greeting.{IsReady}
use Rattle.viewer_run.specs.Visiting.{IsTurnedAwayIn}
use Rattle.viewer_run.specs.Arriving.{end_of_join, DoesNotJoin}
use Rattle.viewer_run.specs.Ending.{ultimatum_at}
use Rattle.viewer_run.specs.LastWords.{is_cut, SaysLast}
use Rattle.viewer_run.specs.LetIn.{ReportsNobody}
use Rattle.viewer_run.specs.Links.{IsTurnedAwayAs, OutsideEnd, IsOutside, ServesViewer}
use Rattle.viewer_run.proofs.Words.{IsCutShort, Said, said_last, writes_said}

-- ---- turns

pub turn_grows : (p q : SessionPass) (base added : List Entry) → IsTurn p q base added → StartsWith q.seen p.seen
turn_grows p q base added t = starts_trans q.seen base p.seen (added, t.seen) t.goes_on

pub idle_grows : (p q : SessionPass) → Idles p q → StartsWith q.seen p.seen
idle_grows p q i = turn_grows p q i.0 [] i.1

pub idle_mine : (p q : SessionPass) → Idles p q → q.mine ≡ p.mine
idle_mine p q i = i.1.mine ∙ append-nil p.mine

-- ---- the end

module _ (head : Head) (after : SessionPass) (g : Greeting) (h : Hearing) (read : List ℕ) (link : Outside) (input : Input) (mid now : Output) where
  -- an end that stays behind the last word
  onto : (end : ConnEnd) → now.faults ≡ mid.faults → OutsideEnd head after g h read link (outside input mid) end → OutsideEnd head after g h read link (outside input now) end
  onto Left w e = e
  onto (Refused k at) w e = e
  onto Truncated w e = e
  onto NotInvited w e = e
  onto RoomFull w e = e
  onto JoinsSpent w e = e
  onto ReadFault w e = e
  onto WriteFault w e = subst (λ (n : ℕ). Rose link.output.faults n) (sym w) e
  onto NotStored w e = subst (λ (n : ℕ). Rose link.output.faults n) (sym w) e
  onto OutOfMemory w e = tt

  pub ends_said : (end said : ConnEnd) → OutsideEnd head after g h read link (outside input mid) end
      → ((ultimatum_at end false ≡ [] → ⊥) → mid.faults ≡ link.output.faults) → Said end false said mid now → OutsideEnd head after g h read link (outside input now) said
  ends_said end said e calm s = ⊎_elim
      (λ (l : (said ≡ end) × (now.faults ≡ mid.faults)). subst (OutsideEnd head after g h read link (outside input now)) (sym l.0) (onto end l.1 e))
      (λ (r : IsCutShort end false said mid now). ⊎_elim
      (λ (x : (said ≡ WriteFault) × Rose mid.faults now.faults). subst (OutsideEnd head after g h read link (outside input now)) (sym x.0)
      (subst (λ (n : ℕ). Rose n now.faults) (calm r.due) x.1))
      (λ (m : said ≡ OutOfMemory). subst (OutsideEnd head after g h read link (outside input now)) (sym m) tt)
      r.how)
      s.stays

  -- likewise of reads that failed
  faults_onto : (end : ConnEnd) → now.faults ≡ mid.faults → OutsideFaults g h link (outside input mid) end → OutsideFaults g h link (outside input now) end
  faults_onto Left w e = e
  faults_onto (Refused k at) w e = e
  faults_onto Truncated w e = e
  faults_onto NotInvited w e = e
  faults_onto RoomFull w e = e
  faults_onto JoinsSpent w e = e
  faults_onto ReadFault w e = (e.0, e.1, w ∙ e.2)
  faults_onto WriteFault w e = e
  faults_onto NotStored w e = e
  faults_onto OutOfMemory w e = e

  calm_due : (end : ConnEnd) → (ultimatum_at end false ≡ [] → ⊥) → OutsideFaults g h link (outside input mid) end → input.faults ≡ link.input.faults
  calm_due Left due e = e
  calm_due (Refused k at) due e = e
  calm_due Truncated due e = e
  calm_due NotInvited due e = e
  calm_due RoomFull due e = e
  calm_due JoinsSpent due e = e
  calm_due ReadFault due e = absurd (due refl)
  calm_due WriteFault due e = e
  calm_due NotStored due e = e
  calm_due OutOfMemory due e = e

  faults_said : (end said : ConnEnd) → OutsideFaults g h link (outside input mid) end → Said end false said mid now → OutsideFaults g h link (outside input now) said
  faults_said end said e s = ⊎_elim
      (λ (l : (said ≡ end) × (now.faults ≡ mid.faults)). subst (OutsideFaults g h link (outside input now)) (sym l.0) (faults_onto end l.1 e))
      (λ (r : IsCutShort end false said mid now). ⊎_elim
      (λ (x : (said ≡ WriteFault) × Rose mid.faults now.faults). subst (OutsideFaults g h link (outside input now)) (sym x.0) (calm_due end r.due e))
      (λ (m : said ≡ OutOfMemory). subst (OutsideFaults g h link (outside input now)) (sym m) (calm_due end r.due e))
      r.how)
      s.stays

  -- the last word to a client that didn't join
  pub stays_outside : (end : ConnEnd) (report : ConnReport) (w u : List ℕ) → g ≡ greeting [] (host_handshake head.size read).steps → h ≡ (host_handshake head.size read).after
      → (host_handshake head.size read).replies ≡ w ++ u → Appends link.output.told mid.told w → (is_cut end ≡ false → u ≡ [])
      → OutsideEnd head after g h read link (outside input mid) end → ((ultimatum_at end false ≡ [] → ⊥) → mid.faults ≡ link.output.faults)
      → OutsideFaults g h link (outside input mid) end
      → ReportsNobody report → SaysLast end false report.end mid now → IsOutside head after report link (outside input now) read
  stays_outside end report w u is_g is_h whole told all e calm faults nobody s =
      let x : Said end false report.end mid now = said_last end false report.end mid now s in record {
        nobody = nobody.nobody;
        none = nobody.none;
        word = ultimatum_at end false;
        last = x.word;
        writes = writes_said end false report.end (host_handshake head.size read).replies w u link (outside input now) mid whole told all x;
        ends = subst (λ (k : Greeting). OutsideEnd head after k (host_handshake head.size read).after read link (outside input now) report.end) is_g
            (subst (λ (k : Hearing). OutsideEnd head after g k read link (outside input now) report.end) is_h (ends_said end report.end e calm x));
        faults = subst (λ (k : Greeting). OutsideFaults k (host_handshake head.size read).after link (outside input now) report.end) is_g
            (subst (λ (k : Hearing). OutsideFaults g k link (outside input now) report.end) is_h (faults_said end report.end faults x));
      }

-- ---- before it is ready

module _ (fed unwritten : List ℕ) (g : Greeting) (after new : Hearing) (name : List ℕ) (before now : Outside) where
  greet_all : (end : ConnEnd) → GreetEnd fed unwritten g after new name before now (Err end) → is_cut end ≡ false → unwritten ≡ []
  greet_all Left e free = e.0
  greet_all (Refused k at) e free = e.0
  greet_all Truncated e free = e.0
  greet_all NotInvited e free = absurd e
  greet_all RoomFull e free = absurd e
  greet_all JoinsSpent e free = absurd e
  greet_all ReadFault e free = e.0
  greet_all WriteFault e free = absurd (cc free)
  greet_all NotStored e free = absurd (cc free)
  greet_all OutOfMemory e free = absurd (cc free)

  greet_calm : (end : ConnEnd) → GreetEnd fed unwritten g after new name before now (Err end) → (ultimatum_at end false ≡ [] → ⊥) → now.output.faults ≡ before.output.faults
  greet_calm Left e due = e.2
  greet_calm (Refused k at) e due = e.3
  greet_calm Truncated e due = e.3
  greet_calm NotInvited e due = absurd e
  greet_calm RoomFull e due = absurd e
  greet_calm JoinsSpent e due = absurd e
  greet_calm ReadFault e due = absurd (due refl)
  greet_calm WriteFault e due = absurd (due refl)
  greet_calm NotStored e due = absurd (due refl)
  greet_calm OutOfMemory e due = absurd (due refl)

  greet_ends : (head : Head) (pass : SessionPass) (end : ConnEnd) → GreetEnd fed unwritten g after new name before now (Err end) → OutsideEnd head pass g after fed before now end
  greet_ends head pass Left e = e.1
  greet_ends head pass (Refused k at) e = (e.1, e.2)
  greet_ends head pass Truncated e = (e.1, e.2, e.4)
  greet_ends head pass NotInvited e = absurd e
  greet_ends head pass RoomFull e = absurd e
  greet_ends head pass JoinsSpent e = absurd e
  greet_ends head pass ReadFault e = e.1
  greet_ends head pass WriteFault e = e
  greet_ends head pass NotStored e = absurd e
  greet_ends head pass OutOfMemory e = tt

module _ (head : Head) (p q : SessionPass) (report : ConnReport) where
  -- a pass that had an idle turn before the client's connection ended
  serves_nobody : (link spent : Outside) (read : List ℕ) → Idles p q → IsLegalJournal head q.seen → Consumes link.input.left spent.input.left read
      → IsOutside head q report link spent read → ServesViewer head p q report link spent
  serves_nobody link spent read idle legal taken o = record {
    read = read;
    taken = taken;
    grows = idle_grows p q idle;
    legal = legal;
    mine = idle_mine p q idle ∙ (sym (append-nil p.mine) ∙ ap (λ l. p.mine ++ l) (sym o.none));
    share = holds_same q.share p.share idle.1.share;
    came = inl o;
  }

  -- it ended in its connection sequence
  pub not_greeted : (size : Size) (new : Hearing) (name : List ℕ) (link : Outside) (input : Input) (mid now : Output) (end : ConnEnd) → size ≡ head.size → Idles p q
      → IsLegalJournal head q.seen → Greets (first_hearing size) new [] name link (outside input mid) (Err end) → ReportsNobody report
      → SaysLast end false report.end mid now → ServesViewer head p q report link (outside input now)
  not_greeted size new name link input mid now end same idle legal given nobody s =
      let a : Greets (first_hearing head.size) new [] name link (outside input mid) (Err end)
      = subst (λ (z : Size). Greets (first_hearing z) new [] name link (outside input mid) (Err end)) same given in
      let g : Greeting = greeting [] (host_handshake head.size a.fed).steps in
      let h : Hearing = (host_handshake head.size a.fed).after in
      serves_nobody link (outside input now) a.fed idle legal a.taken
      (stays_outside head q g h a.fed link input mid now end report a.written a.unwritten refl refl a.replies a.told
      (greet_all a.fed a.unwritten g h new name link (outside input mid) end a.came)
      (greet_ends a.fed a.unwritten g h new name link (outside input mid) head q end a.came)
      (greet_calm a.fed a.unwritten g h new name link (outside input mid) end a.came) a.faults nobody s)

  -- memory was wanted before it
  pub not_heard : (input : Input) (output now : Output) → Idles p q → IsLegalJournal head q.seen → (host_handshake head.size []).replies ≡ [] → ReportsNobody report
      → SaysLast OutOfMemory false report.end output now → ServesViewer head p q report (outside input output) (outside input now)
  not_heard input output now idle legal quiet nobody s =
      serves_nobody (outside input output) (outside input now) [] idle legal (Consumes-nil input.left)
      (stays_outside head q (greeting [] (host_handshake head.size []).steps) (host_handshake head.size []).after [] (outside input output) input output now OutOfMemory report [] [] refl refl quiet
      (Appends-nil output.told) (λ free. refl) tt (λ due. refl) refl nobody s)

-- ---- ready, and turned away

module _ (head : Head) (p q r : SessionPass) where
  turned_as : (g : Greeting) (guest : Guest) (steps : List ConnStep) (fault : JoinFault) → g ≡ IsReady guest.name guest.confirmed steps → IsTurnedAwayIn head guest.name q r fault
      → IsTurnedAwayAs head r g fault
  turned_as g guest steps fault ready t =
      let same : t.base ≡ r.seen = sym (t.turn.seen ∙ append-nil t.base) in record {
        name = guest.name;
        confirmed = guest.confirmed;
        steps = steps;
        ready = ready;
        answer = subst (λ (j : List Entry). IsAnswered (join_answer (Err fault)) (answer_at head (reached_at head.size j (length j)) (JoinStep guest.name))) same t.answer;
        in_found = subst (IsWithin (length r.seen ∷ [])) (sym t.turn.found)
            (within_front q.found (length r.seen ∷ []) (length t.base ∷ []) (inl (ap (λ (j : List Entry). length j) (sym same), tt)));
      }

  turned_ends : (g : Greeting) (h : Hearing) (read : List ℕ) (link spent : Outside) (guest : Guest) (steps : List ConnStep) (fault : JoinFault)
      → g ≡ IsReady guest.name guest.confirmed steps → IsTurnedAwayIn head guest.name q r fault → OutsideEnd head r g h read link spent (end_of_join fault)
  turned_ends g h read link spent guest steps join.NotInvited ready t = turned_as g guest steps join.NotInvited ready t
  turned_ends g h read link spent guest steps join.RoomFull ready t = turned_as g guest steps join.RoomFull ready t
  turned_ends g h read link spent guest steps join.JoinsSpent ready t = turned_as g guest steps join.JoinsSpent ready t
  turned_ends g h read link spent guest steps join.OutOfMemory ready t = tt

  away_ends : (g : Greeting) (h : Hearing) (read : List ℕ) (link spent : Outside) (guest : Guest) (steps : List ConnStep) (end : ConnEnd)
      → g ≡ IsReady guest.name guest.confirmed steps → DoesNotJoin head guest.name q r end → OutsideEnd head r g h read link spent end
  away_ends g h read link spent guest steps end ready d = ⊎_elim
      (λ (t : (fault : JoinFault) × IsTurnedAwayIn head guest.name q r fault × (end ≡ end_of_join fault)).
      subst (OutsideEnd head r g h read link spent) (sym t.2) (turned_ends g h read link spent guest steps t.0 ready t.1))
      (λ (m : (r ≡ q) × (end ≡ OutOfMemory)). subst (OutsideEnd head r g h read link spent) (sym m.1) tt)
      d

  away_faults : (g : Greeting) (h : Hearing) (link spent : Outside) (name : List ℕ) (end : ConnEnd) → spent.input.faults ≡ link.input.faults → DoesNotJoin head name q r end
      → OutsideFaults g h link spent end
  away_faults g h link spent name end calm d = ⊎_elim
      (λ (t : (fault : JoinFault) × IsTurnedAwayIn head name q r fault × (end ≡ end_of_join fault)). subst (OutsideFaults g h link spent) (sym t.2) (joins t.0))
      (λ (m : (r ≡ q) × (end ≡ OutOfMemory)). subst (OutsideFaults g h link spent) (sym m.1) calm)
      d
    where
      joins : (fault : JoinFault) → OutsideFaults g h link spent (end_of_join fault)
      joins join.NotInvited = calm
      joins join.RoomFull = calm
      joins join.JoinsSpent = calm
      joins join.OutOfMemory = calm

  away_grows : (name : List ℕ) (end : ConnEnd) → DoesNotJoin head name q r end → StartsWith r.seen q.seen
  away_grows name end d = ⊎_elim (λ (t : (fault : JoinFault) × IsTurnedAwayIn head name q r fault × (end ≡ end_of_join fault)). turn_grows q r t.1.base [] t.1.turn)
      (λ (m : (r ≡ q) × (end ≡ OutOfMemory)). subst (λ (x : SessionPass). StartsWith x.seen q.seen) (sym m.0) (starts_itself q.seen)) d

  away_mine : (name : List ℕ) (end : ConnEnd) → DoesNotJoin head name q r end → r.mine ≡ q.mine
  away_mine name end d = ⊎_elim (λ (t : (fault : JoinFault) × IsTurnedAwayIn head name q r fault × (end ≡ end_of_join fault)). t.1.turn.mine ∙ append-nil q.mine)
      (λ (m : (r ≡ q) × (end ≡ OutOfMemory)). ap (λ (x : SessionPass). x.mine) m.0) d

  away_share : (name : List ℕ) (end : ConnEnd) → DoesNotJoin head name q r end → r.share ≡ q.share
  away_share name end d = ⊎_elim (λ (t : (fault : JoinFault) × IsTurnedAwayIn head name q r fault × (end ≡ end_of_join fault)). t.1.turn.share)
      (λ (m : (r ≡ q) × (end ≡ OutOfMemory)). ap (λ (x : SessionPass). x.share) m.0) d

  pub not_let_in : (report : ConnReport) (size : Size) (new : Hearing) (name : List ℕ) (guest : Guest) (link between : Outside) (spent : Input) (mid now : Output) (end : ConnEnd)
      → size ≡ head.size → Idles p q → IsLegalJournal head r.seen
      → Greets (first_hearing size) new [] name link between (Ok (Some guest)) → DoesNotJoin head guest.name q r end
      → outside spent mid ≡ between → ReportsNobody report → SaysLast end false report.end mid now
      → ServesViewer head p r report link (outside spent now)
  not_let_in report size new name guest link between spent mid now end same idle legal given d still nobody s =
      let a : Greets (first_hearing head.size) new [] name link (outside spent mid) (Ok (Some guest))
      = subst (λ (x : Outside). Greets (first_hearing head.size) new [] name link x (Ok (Some guest))) (sym still)
      (subst (λ (z : Size). Greets (first_hearing z) new [] name link between (Ok (Some guest))) same given) in
      let g : Greeting = greeting [] (host_handshake head.size a.fed).steps in
      let h : Hearing = (host_handshake head.size a.fed).after in
      let o : IsOutside head r report link (outside spent now) a.fed
      = stays_outside head r g h a.fed link spent mid now end report a.written a.unwritten refl refl a.replies a.told (λ free. a.came.0)
      (away_ends g h a.fed link (outside spent mid) guest guest.rest.items end a.came.2 d) (λ due. a.came.4)
      (away_faults g h link (outside spent mid) guest.name end a.came.3 d) nobody s in record {
        read = a.fed;
        taken = a.taken;
        grows = starts_trans r.seen q.seen p.seen (away_grows guest.name end d) (idle_grows p q idle);
        legal = legal;
        share = holds_same r.share p.share (away_share guest.name end d ∙ idle.1.share);
        mine = away_mine guest.name end d ∙ (idle_mine p q idle ∙ (sym (append-nil p.mine) ∙ ap (λ l. p.mine ++ l) (sym o.none)));
        came = inl o;
      }
