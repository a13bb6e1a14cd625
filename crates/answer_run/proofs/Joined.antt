-- A client joins.
use Rattle.std.proofs.Common.{◌≡◌, ℕ, List, [], ◌∷◌, ◌++◌, refl, ap, sym, ◌∙◌, subst, arith}
use Rattle.std.specs.Prelude.{Bool, true, false, Option, Some, None, Result, Ok, Err, is_some, option_to_list, if◌then◌else◌}
use Rattle.px_core.specs.declared.surface.Size.{Size}
use Rattle.px_core.specs.Tiles.{no_tiles}
use Rattle.line_text.specs.Words.{is_same_word}
use Rattle.caps_sets.specs.declared.confirmed.Confirmed.{Confirmed}
use Rattle.session_rules.specs.declared.entry.Role.{Role}
use Rattle.session_rules.specs.declared.entry.Role.TheVariants.{Owner}
use Rattle.session_rules.specs.declared.entry.Entry.TheVariants.{Join}
use Rattle.session_rules.specs.Journal.{Reached, is_present}
use Rattle.session_rules.specs.Steps.{Outcome, play_at_first, join_effect, outcome_of}
use Rattle.session_rules.specs.Steps.Step.{JoinStep}
use Rattle.session_rules.specs.Steps.Answer.{Joined}
use Rattle.session_rules.specs.Entering.{entry_of_step, answer_at}
use Rattle.session_core.specs.SessionModel.{SessionModel, new_session, reached_by, asked_by, is_suppressed}
use Rattle.session_core.specs.declared.faults.JoinFault.{JoinFault}
use Rattle.session_core.specs.declared.faults.JoinFault.TheVariants as fault
use Rattle.session_core.specs.Faults.{join_answer}
use Rattle.session_core.specs.Outcomes.{IsAnswered}
use Rattle.frame_rules.specs.Encoder.{first_encoder}
use Rattle.viewer_sender.specs.Seats.{SeatModel, IsNewSeat}
use Rattle.viewer_sender.proofs.SeatSends.{new_follows}
use Rattle.script_rules.specs.Script.{is_invited}
use Rattle.script_rules.specs.CaptureText.{run_at_first, run_by, encoder_frames}
use Rattle.answer_run.specs.Asking.{owners_head, client, asks_to_join}
use Rattle.answer_run.specs.Solos.{IsRunOf, Joins, IsLetIn}
use Rattle.answer_run.proofs.Seated.{solo_of, reached_grown}

-- the role of the owner's name, and what comes of a join by it
abbrev role_if : Bool → Option Role
role_if b = if b then Some Owner else None

abbrev joins_by : Size → List ℕ → Bool → Outcome
joins_by size owner b = outcome_of (owners_head size owner) (play_at_first size) (join_effect (play_at_first size) (role_if b))

is_owner : (size : Size) (owner : List ℕ) (v : ℕ) (b : Bool) → Joined v ≡ (joins_by size owner b).answer → (b ≡ true) × (v ≡ client)
is_owner size owner v true e = (refl, cc e)
is_owner size owner v false e = absurd (cc e)

-- a number is of a viewer that joined
not_let_in : (number : Option ℕ) (v : ℕ) → number ≡ None → number ≡ Some v → ⊥
not_let_in number v none is = let k = sym none ∙ is in cc k

pub let_in_is : (joined : Result ℕ JoinFault) (number : Option ℕ) (v : ℕ) → IsLetIn joined number → number ≡ Some v → joined ≡ Ok v
let_in_is (Ok w) number v l is = let k = sym l ∙ is in cc
let_in_is (Err fault.NotInvited) number v l is = absurd (not_let_in number v l is)
let_in_is (Err fault.RoomFull) number v l is = absurd (not_let_in number v l is)
let_in_is (Err fault.JoinsSpent) number v l is = absurd (not_let_in number v l is)
let_in_is (Err fault.OutOfMemory) number v l is = absurd l

-- who isn't let into a new session isn't its owner
not_owner : (size : Size) (owner : List ℕ) (b : Bool) (joined : Result ℕ JoinFault) (number : Option ℕ) → IsLetIn joined number → number ≡ None
    → IsAnswered (join_answer joined) (joins_by size owner b).answer → is_some (role_if b) ≡ false
not_owner size owner false joined number l none a = refl
not_owner size owner true (Ok v) number l none a = absurd (not_let_in number v none l)
not_owner size owner true (Err fault.NotInvited) number l none a = absurd (cc a)
not_owner size owner true (Err fault.RoomFull) number l none a = absurd (cc a)
not_owner size owner true (Err fault.JoinsSpent) number l none a = absurd (cc a)
not_owner size owner true (Err fault.OutOfMemory) number l none a = absurd l

pub turned_away : (size : Size) (owner name : List ℕ) (joined : Result ℕ JoinFault) (number : Option ℕ) (old : SessionModel) → old ≡ new_session (owners_head size owner)
    → IsLetIn joined number → number ≡ None → IsAnswered (join_answer joined) (answer_at old.head (reached_by old) (JoinStep name))
    → is_invited name (owners_head size owner).rows ≡ false
turned_away size owner name joined number old e l none a =
    not_owner size owner (is_same_word name owner) joined number l none
    (subst (λ o. IsAnswered (join_answer joined) (answer_at o.head (reached_by o) (JoinStep name))) e a)

-- what is known of the session before and after, and of the seat
pub record JoinFacts (size : Size) (owner name : List ℕ) (c : Confirmed) (v : ℕ) (old new : SessionModel) (s : SeatModel) : Type 0 where
  pub head : new.head ≡ old.head
  pub answer : Joined v ≡ answer_at old.head (reached_by old) (JoinStep name)
  pub journal : new.journal ≡ old.journal ++ option_to_list (entry_of_step old.head (reached_by old) (JoinStep name))
  pub asked : asked_by new v ≡ no_tiles
  pub suppressed : is_suppressed new v ≡ false
  pub seat : IsNewSeat v c s

module _ (size : Size) (owner name : List ℕ) (c : Confirmed) (v : ℕ) (new : SessionModel) (s : SeatModel) where
  abbrev IsRunBy : Bool → Type 0
  IsRunBy b = IsRunOf (owners_head size owner) (solo_of new s)
      (run_by encoder_frames size (run_at_first encoder_frames size) (asks_to_join name c) (joins_by size owner b))

  -- a new session
  seated_first : JoinFacts size owner name c v (new_session (owners_head size owner)) new s → Joins (owners_head size owner) name c (Some (solo_of new s))
  seated_first f =
      let head = owners_head size owner in
      let old = new_session head in
      let is = is_owner size owner v (is_same_word name owner) f.answer in
      let journal : new.journal ≡ [] ++ (Join client Owner ∷ []) = f.journal ∙ ap (λ b. option_to_list (joins_by size owner b).entry) is.0 in
      let grown = reached_grown old new (Join client Owner ∷ []) f.head journal in
      let g = f.seat in
      let number = g.number in
      let asked : asked_by new client ≡ no_tiles = ap (asked_by new) (sym is.1) ∙ f.asked in
      let suppressed : is_suppressed new client ≡ false = ap (is_suppressed new) (sym is.1) ∙ f.suppressed in
      let run : IsRunBy true = record {
        of_head = f.head;
        journal = sym journal;
        reached = sym grown;
        asked = sym asked;
        suppressed = sym suppressed;
        confirmed = g.confirmed;
        taken = sym g.number;
        follows = new_follows v c s g;
      } in (
        ap (λ b. is_some (role_if b)) is.0,
        record {
          here = ap (λ (r : Reached). is_present client r.viewers) grown;
          number = g.viewer ∙ is.1;
          seen = omega (arith, number);
          idle = record { all = g.encoded ∙ sym g.taken; sound = g.sound };
        },
        subst IsRunBy (sym is.0) run,
      )

  pub joined : (old : SessionModel) → old ≡ new_session (owners_head size owner) → JoinFacts size owner name c v old new s → Joins (owners_head size owner) name c (Some (solo_of new s))
  joined old e f = seated_first (subst (λ o. JoinFacts size owner name c v o new s) e f)
