-- A viewer comes, takes its first and its last frame, and goes.
use Rattle.std.proofs.Common.{◌≡◌, ℕ, suc, ◌+◌, ◌<◌, List, [], ◌∷◌, ◌++◌, length, sym, refl, ap, ◌∙◌, subst, arith, append-nil, length-append}
use Rattle.std.specs.Prelude.{Bool, true, false, ◌==◌, not, ◌&&◌, ◌||◌, Option, Some, None, option_to_list, Result, Ok, Err, IfOk, MatchResult, slice_get}
use Rattle.std.proofs.lemmas.Bool.{eqb-true}
use Rattle.wire_num.specs.declared.out_of_memory.OutOfMemory.{OutOfMemory}
use Rattle.px_core.specs.declared.surface.Size.{Size}
use Rattle.px_core.specs.Tiles.{all_tiles, share_tile}
use Rattle.caps_sets.specs.declared.confirmed.Confirmed.{Confirmed}
use Rattle.session_rules.specs.declared.entry.Role.{Role}
use Rattle.session_rules.specs.declared.entry.Entry.{Entry}
use Rattle.session_rules.specs.declared.entry.Entry.TheVariants.{Join}
use Rattle.session_rules.specs.Journal.{Head, Reached, Refusal, refusal_of, is_present, reached_at}
use Rattle.session_rules.specs.Steps.{Play, row_role, join_effect, outcome_of, PerViewer, entered}
use Rattle.session_rules.specs.Steps.Step.{JoinStep}
use Rattle.session_rules.specs.Steps.Answer.{Joined}
use Rattle.session_rules.specs.Entering.{play_of, entry_of_step, answer_at}
use Rattle.session_rules.proofs.Joins.{left_between}
use Rattle.session_core.specs.SessionModel.{SessionModel, reached_by, is_here, asked_by, is_suppressed}
use Rattle.session_core.specs.Outcomes.{IsAnswered}
use Rattle.session_core.specs.Faults.{join_answer}
use Rattle.session_core.specs.declared.faults.JoinFault.{JoinFault}
use Rattle.frame_plan.specs.Plans.{is_work, taken_if}
use Rattle.frame_plan.specs.declared.taken.Taken.{Taken}
use Rattle.frame_plan.specs.declared.taken.Taken.TheVariants.{Nothing}
use Rattle.viewer_sender.specs.Senders.{SenderModel, desk_of}
use Rattle.pointer_share.specs.Desk.{DeskOf}
use Rattle.grow_lock.specs.Journal.{StartsWith}
use Rattle.serve_rules.specs.Turns.{SessionPass}
use Rattle.serve_rules.proofs.Lists.{got_end}
use Rattle.serve_rules.proofs.Turning.{TurnFacts, turned}
use Rattle.viewer_run.specs.declared.visits.Arrival.{Arrival}
use Rattle.viewer_run.specs.Sending.{TakesAs}
use Rattle.viewer_run.specs.Asking.{allowed_as}
use Rattle.viewer_run.specs.declared.sends.Due.{Due}
use Rattle.viewer_run.specs.declared.sends.Due.TheVariants.{Last}
use Rattle.viewer_run.proofs.Asked.{allowed_here}
use Rattle.viewer_run.specs.Visiting.{IsFirst, IsUpToDate, Arrives, ArrivesIn, IsTurnedAway, IsTurnedAwayIn, leave_if, LeavesHere, LeavesIn}

-- ---- a join

-- what an entry that was let in came to
joins_entered : (head : Head) (p : Play) (e : Entry) (v k : ℕ) (refusal : Option Refusal) → Joined v ≡ (entered head p e (Joined k) refusal).answer
    → (v ≡ k) × ((entered head p e (Joined k) refusal).entry ≡ Some e)
joins_entered head p e v k None is = (cc is, refl)
joins_entered head p e v k (Some r) is = absurd (cc is)

record JoinedAs (head : Head) (r : Reached) (name : List ℕ) (v : ℕ) (entry : Option Entry) : Type 0 where
  role : Role
  row : row_role name head.rows ≡ Some role
  number : v ≡ r.joins + 1
  is : entry ≡ Some (Join v role)

joins_by : (head : Head) (r : Reached) (name : List ℕ) (v : ℕ) (row : Option Role) → row_role name head.rows ≡ row
    → Joined v ≡ (outcome_of head (play_of head r) (join_effect (play_of head r) row)).answer
    → JoinedAs head r name v (outcome_of head (play_of head r) (join_effect (play_of head r) row)).entry
joins_by head r name v None same is = absurd (cc is)
joins_by head r name v (Some role) same is =
    let x = joins_entered head (play_of head r) (Join (r.joins + 1) role) v (r.joins + 1) (refusal_of head r (Join (r.joins + 1) role)) is in record {
      role = role;
      row = same;
      number = x.0;
      is = x.1 ∙ ap (λ (n : ℕ). Some (Join n role)) (sym x.0);
    }

joined_as : (head : Head) (r : Reached) (name : List ℕ) (v : ℕ) → Joined v ≡ answer_at head r (JoinStep name) → JoinedAs head r name v (entry_of_step head r (JoinStep name))
joined_as head r name v is = joins_by head r name v (row_role name head.rows) refl is

-- the journal after a join
joined_journal : (head : Head) (r : Reached) (name : List ℕ) (v : ℕ) (old new : List Entry) (j : JoinedAs head r name v (entry_of_step head r (JoinStep name)))
    → new ≡ old ++ option_to_list (entry_of_step head r (JoinStep name)) → new ≡ old ++ Join v j.role ∷ []
joined_journal head r name v old new j is = is ∙ ap (λ (e : Option Entry). old ++ option_to_list e) j.is

-- who has just joined is present
pub present_by : (b : Bool) (size : Size) (j : List Entry) (v a n : ℕ) (role : Role) → is_present v (reached_at size j n).viewers ≡ b → slice_get j a ≡ Some (Join v role) → n ≡ suc a
    → b ≡ true
present_by true size j v a n role is stands next = refl
present_by false size j v a n role is stands next =
    let gone = left_between size j v role a n stands (omega (arith, next)) is in
    absurd (omega (arith, next, gone.1, gone.2))

pub joined_present : (head : Head) (name : List ℕ) (v : ℕ) (old new : SessionModel) → new.head ≡ old.head → Joined v ≡ answer_at old.head (reached_by old) (JoinStep name)
    → new.journal ≡ old.journal ++ option_to_list (entry_of_step old.head (reached_by old) (JoinStep name)) → is_here new v ≡ true
joined_present head name v old new same is journal =
    let j = joined_as old.head (reached_by old) name v is in
    let now = joined_journal old.head (reached_by old) name v old.journal new.journal j journal in
    present_by (is_here new v) new.head.size new.journal v (length old.journal) (length new.journal) j.role refl
    (subst (λ (l : List Entry). slice_get l (length old.journal) ≡ Some (Join v j.role)) (sym now) (got_end old.journal (Join v j.role)))
    (ap (λ (l : List Entry). length l) now ∙ (length-append old.journal (Join v j.role ∷ []) ∙ omega arith))

pub joined_longer : (name : List ℕ) (v : ℕ) (old new : SessionModel) → Joined v ≡ answer_at old.head (reached_by old) (JoinStep name)
    → new.journal ≡ old.journal ++ option_to_list (entry_of_step old.head (reached_by old) (JoinStep name)) → 0 < length new.journal
joined_longer name v old new is journal =
    let j = joined_as old.head (reached_by old) name v is in
    let now = joined_journal old.head (reached_by old) name v old.journal new.journal j journal in
    let more : length new.journal ≡ length old.journal + 1 = ap (λ (l : List Entry). length l) now ∙ length-append old.journal (Join v j.role ∷ []) in
    omega (arith, more)

pub arrived : (name : List ℕ) (confirmed : Confirmed) (arrival : Arrival) (old new : SessionModel) (last : List Entry) → new.head ≡ old.head
    → Joined arrival.v ≡ answer_at old.head (reached_by old) (JoinStep name)
    → new.journal ≡ old.journal ++ option_to_list (entry_of_step old.head (reached_by old) (JoinStep name)) → last ≡ new.journal
    → IsFirst new.head new.journal arrival.v confirmed arrival.first → Arrives old.head name confirmed old.journal last arrival
arrived name confirmed arrival old new last same is journal stays first =
    let j = joined_as old.head (reached_by old) name arrival.v is in record {
      role = j.role;
      row = j.row;
      number = j.number;
      appended = stays ∙ joined_journal old.head (reached_by old) name arrival.v old.journal new.journal j journal;
      first = subst (λ (l : List Entry). IsFirst old.head l arrival.v confirmed arrival.first) (sym stays)
          (subst (λ (h : Head). IsFirst h new.journal arrival.v confirmed arrival.first) same first);
    }

-- a refused join
pub away : (name : List ℕ) (why : JoinFault) (old new : SessionModel) → IsAnswered (join_answer (Err why)) (answer_at old.head (reached_by old) (JoinStep name)) → new ≡ old
    → IsTurnedAway old.head name old.journal new.journal why
away name why old new is same = record { stays = ap (λ (s : SessionModel). s.journal) same; answer = is }

-- ---- a turn

abbrev Came : Head → List ℕ → Confirmed → List Entry → List Entry → Result Arrival JoinFault → Type 0
Came head name confirmed old new result = MatchResult result (λ arrival. Arrives head name confirmed old new arrival) (λ why. IsTurnedAway head name old new why)

came_by : (head : Head) (name : List ℕ) (confirmed : Confirmed) (before mid after : SessionPass) (base new : List Entry) (result : Result Arrival JoinFault)
    → TurnFacts before mid after base new → Came head name confirmed base new result
    → MatchResult result (λ arrival. ArrivesIn head name confirmed before after arrival) (λ why. IsTurnedAwayIn head name before after why)
came_by head name confirmed before mid after base new (Ok arrival) f h = record {
  base = base;
  role = h.role;
  row = h.row;
  number = h.number;
  turn = turned before mid after base (Join arrival.v h.role ∷ []) new f h.appended;
  first = subst (λ (l : List Entry). IsFirst head l arrival.v confirmed arrival.first) (sym f.seen_after) h.first;
}
came_by head name confirmed before mid after base new (Err why) f h = record {
  base = base;
  turn = turned before mid after base [] new f (h.stays ∙ sym (append-nil base));
  answer = h.answer;
}

pub came : (head : Head) (name : List ℕ) (confirmed : Confirmed) (before mid after : SessionPass) (base new : List Entry) (result : Result Arrival JoinFault) (old : SessionModel)
    → old.head ≡ head → old.journal ≡ base → TurnFacts before mid after base new → Came old.head name confirmed old.journal new result
    → MatchResult result (λ arrival. ArrivesIn head name confirmed before after arrival) (λ why. IsTurnedAwayIn head name before after why)
came head name confirmed before mid after base new result old same_head same_journal f h =
    came_by head name confirmed before mid after base new result f
    (subst (λ (j : List Entry). Came head name confirmed j new result) same_journal (subst (λ (x : Head). Came x name confirmed old.journal new result) same_head h))

pub came_on : (head : Head) (name : List ℕ) (confirmed : Confirmed) (old new : List Entry) (result : Result Arrival JoinFault) → Came head name confirmed old new result → StartsWith new old
came_on head name confirmed old new (Ok arrival) h = (Join arrival.v h.role ∷ [], h.appended)
came_on head name confirmed old new (Err why) h = ([], h.stays ∙ sym (append-nil old))

abbrev Left : Head → ℕ → Option ℕ → List Entry → List Entry → Type 0
Left head v place new j = LeavesHere v (is_present v (reached_at head.size j (length j)).viewers) place j new

pub left : (head : Head) (v : ℕ) (before mid after : SessionPass) (base new : List Entry) (place : Option ℕ) (old : SessionModel)
    → old.head ≡ head → old.journal ≡ base → TurnFacts before mid after base new → LeavesHere v (is_here old v) place old.journal new → LeavesIn head v before after place
left head v before mid after base new place old same_head same_journal f h =
    let k : Left head v place new base = subst (Left head v place new) same_journal (subst (λ (x : Head). Left x v place new old.journal) same_head h) in record {
      base = base;
      turn = turned before mid after base _ new f k.0;
      place_is = k.1;
    }

pub left_on : (v : ℕ) (here : Bool) (place : Option ℕ) (old new : List Entry) → LeavesHere v here place old new → StartsWith new old
left_on v here place old new h = (leave_if here v, h.0)

-- ---- work

-- where a viewer isn't suppressed, a take that finds nothing finds the number of the last one
no_news : (stopped same other : Bool) → not stopped && (not same || other) ≡ false → stopped ≡ false → same ≡ true
no_news stopped true other is free = refl
no_news true false other is free = absurd (cc free)
no_news false false other is free = absurd (cc is)

not_taken : (b : Bool) (session : SessionModel) (s : SenderModel) → Nothing ≡ taken_if b session (desk_of s) → b ≡ false
not_taken true session s e = absurd (cc e)
not_taken false session s e = refl

pub caught_up : (session : SessionModel) (s : SenderModel) → is_suppressed session s.v ≡ false → Nothing ≡ taken_if (is_work session (desk_of s)) session (desk_of s)
    → (s.number == length session.journal) ≡ true
caught_up session s free e = no_news (is_suppressed session s.v) (s.number == length session.journal) (share_tile session.head.size (asked_by session s.v) all_tiles)
    (not_taken (is_work session (desk_of s)) session s e) free

pub up_to_date : (session mid : SessionModel) (s : SenderModel) (v : ℕ) (due : Due) (result : Result Taken OutOfMemory) → s.v ≡ v → due ≡ Last
    → is_suppressed mid ≡ allowed_as due v (is_suppressed session) → mid.journal ≡ session.journal
    → IfOk result (λ taken. taken ≡ taken_if (is_work mid (desk_of s)) mid (desk_of s)) → result ≡ Ok Nothing → s.number ≡ length session.journal
up_to_date session mid s v due result same last stops journal taken none =
    let free : is_suppressed mid s.v ≡ false
    = ap (λ (kept : PerViewer Bool). kept s.v) stops
    ∙ (ap (allowed_as due v (is_suppressed session)) same ∙ allowed_here due v (is_suppressed session) last) in
    let found : Nothing ≡ taken_if (is_work mid (desk_of s)) mid (desk_of s)
    = subst (λ (r : Result Taken OutOfMemory). IfOk r (λ taken. taken ≡ taken_if (is_work mid (desk_of s)) mid (desk_of s))) none taken in
    eqb-true s.number (length mid.journal) (caught_up mid s free found) ∙ ap (λ (j : List Entry). length j) journal

pub up_to_date_in : (head : Head) (v : ℕ) (j : List Entry) (number : ℕ) (result : Result Taken OutOfMemory) (old : SessionModel) → old.head ≡ head → old.journal ≡ j
    → IsUpToDate old.head v old.journal number result → IsUpToDate head v j number result
up_to_date_in head v j number result old same_head same_journal h =
    subst (λ (l : List Entry). IsUpToDate head v l number result) same_journal (subst (λ (x : Head). IsUpToDate x v old.journal number result) same_head h)

-- a viewer's first take has work
pub first_work : (session : SessionModel) (s : SenderModel) → s.number ≡ 0 → 0 < length session.journal → is_suppressed session s.v ≡ false
    → Nothing ≡ taken_if (is_work session (desk_of s)) session (desk_of s) → ⊥
first_work session s number some free e =
    let same = eqb-true s.number (length session.journal) (caught_up session s free e) in omega (arith, number, some, same)

-- who is present stays so where the journal does
pub here_stays : (old new : SessionModel) (u v : ℕ) → new.head ≡ old.head → new.journal ≡ old.journal → u ≡ v → is_here old v ≡ true → is_here new u ≡ true
here_stays old new u v head journal same here =
    ap (is_here new) same
    ∙ (ap (λ (j : List Entry). is_present v (reached_at new.head.size j (length j)).viewers) journal
    ∙ (ap (λ (h : Head). is_present v (reached_at h.size old.journal (length old.journal)).viewers) head ∙ here))

-- likewise a take
pub taken_stays : (old new : SessionModel) (s s' : SenderModel) (d d' : Option DeskOf) (result : Result Taken OutOfMemory) → new.head ≡ old.head → new.journal ≡ old.journal
    → TakesAs new.head new.journal s s' d d' result → TakesAs old.head old.journal s s' d d' result
taken_stays old new s s' d d' result head journal h =
    subst (λ (j : List Entry). TakesAs old.head j s s' d d' result) journal (subst (λ (x : Head). TakesAs x new.journal s s' d d' result) head h)
