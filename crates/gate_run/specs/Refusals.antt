-- Who wasn't let in at a gate, by the session's journal at the end.
use Rattle.std.specs.Prelude.{◌≡◌, ℕ, ◌≤◌, ⊤, List, [], ◌∷◌, ◌++◌, length, Option, Some, None}
use Rattle.edge_io.specs.Outside.{Outside}
use Rattle.conn_rules.specs.Hearing.{host_handshake}
use Rattle.session_rules.specs.declared.entry.Entry.{Entry}
use Rattle.session_rules.specs.Journal.{Head, Refusal, reached_at}
use Rattle.session_rules.specs.Journal.Refusal.{NotInvited, RoomFull, JoinsSpent}
use Rattle.session_rules.specs.Steps.Step.{JoinStep}
use Rattle.session_rules.specs.Steps.Answer.{Refused}
use Rattle.session_rules.specs.Entering.{answer_at}
use Rattle.serve_rules.specs.Events.{IsWithin}
use Rattle.serve_rules.specs.declared.ends.ConnEnd.TheVariants as ends
use Rattle.serve_rules.specs.declared.noted.ConnReport.{ConnReport}
use Rattle.viewer_run.specs.Greeting.{Greeting, greeting}
use Rattle.viewer_run.specs.Greeting.Greeting.{Connects, IsReady, HasLeft}
use Rattle.gate_run.specs.Gates.{GateState, IsServed}

-- the name by which a client is ready, if it is
abbrev pub ready_name : Greeting → Option (List ℕ)
ready_name (Connects name) = None
ready_name (IsReady name confirmed steps) = Some name
ready_name HasLeft = None

-- a link was served whose client wasn't let in, though it was ready by a name: a turn of the link's pass found so many entries, all of the first journal among
-- them, and after these of the closing journal the session answers a join by that name with this refusal
pub record IsTurnedAwayWith (head : Head) (first j : List Entry) (link : Outside) (report : ConnReport) (spent : Outside) (why : Refusal) : Type 0 where
  pub served : IsServed head first j link report spent
  pub name : List ℕ
  pub ready : ready_name (greeting [] (host_handshake head.size served.serves.read).steps) ≡ Some name
  pub n : ℕ
  pub found : IsWithin (n ∷ []) served.after.found
  pub since : length first ≤ n
  pub within : n ≤ length j
  pub answer : answer_at head (reached_at head.size j n) (JoinStep name) ≡ Refused why

-- a link was served, and if its end is the refusal of a join its client was turned away with just that
pub record IsTurnedAwayIf (head : Head) (first j : List Entry) (link : Outside) (report : ConnReport) (spent : Outside) : Type 0 where
  pub not_invited : report.end ≡ ends.NotInvited → IsTurnedAwayWith head first j link report spent NotInvited
  pub room_full : report.end ≡ ends.RoomFull → IsTurnedAwayWith head first j link report spent RoomFull
  pub joins_spent : report.end ≡ ends.JoinsSpent → IsTurnedAwayWith head first j link report spent JoinsSpent

-- likewise each of some links, with its report and as it came back
abbrev pub EachTurnedAwayIf : Head → List Entry → List Entry → List Outside → List ConnReport → List Outside → Type 0
EachTurnedAwayIf head first j [] [] [] = ⊤
EachTurnedAwayIf head first j [] [] (spent ∷ spents) = ⊥
EachTurnedAwayIf head first j [] (report ∷ reports) spents = ⊥
EachTurnedAwayIf head first j (link ∷ links) [] spents = ⊥
EachTurnedAwayIf head first j (link ∷ links) (report ∷ reports) [] = ⊥
EachTurnedAwayIf head first j (link ∷ links) (report ∷ reports) (spent ∷ spents) = IsTurnedAwayIf head first j link report spent
    × EachTurnedAwayIf head first j links reports spents

-- of the links that a gate gave and that came back each client was turned away whose end is the refusal of a join
pub record TurnsAway (head : Head) (first : List Entry) (before after : GateState) (j : List Entry) (reports : List ConnReport) : Type 0 where
  pub joined : List Outside
  pub spent : List Outside
  pub given : after.given ≡ before.given ++ joined
  pub finished : after.finished ≡ before.finished ++ spent
  pub each : EachTurnedAwayIf head first j joined reports spent
