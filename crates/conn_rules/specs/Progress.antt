-- How far a client is, and in which order its stream tells its steps.
use Rattle.std.specs.Prelude.{◌≡◌, List, [], ◌∷◌, ⊤}
use Rattle.conn_rules.specs.declared.conn_step.ConnStep.{ConnStep}
use Rattle.conn_rules.specs.declared.conn_step.ConnStep.TheVariants as step
use Rattle.conn_rules.specs.declared.stage.Stage.{Stage}
use Rattle.conn_rules.specs.declared.stage.Stage.TheVariants as stage
use Rattle.conn_rules.specs.declared.stage.SharePhase.TheVariants as phase

-- a client connects, is ready, or its stream has ended
pub data Progress : Type 0 where
  Connecting : Progress
  Ready : Progress
  Ended : Progress

abbrev pub progress_of : Stage → Progress
progress_of stage.Request = Connecting
progress_of (stage.Initial asked) = Connecting
progress_of (stage.Erect client) = Connecting
progress_of (stage.Attach client) = Connecting
progress_of (stage.Joins client user io) = Connecting
progress_of (stage.Shares channels (phase.Confirm depth)) = Connecting
progress_of (stage.Shares channels (phase.Finish confirmed next)) = Connecting
progress_of (stage.Shares channels phase.Ready) = Ready
progress_of stage.Over = Ended
progress_of (stage.Refused k at) = Ended

-- where no step is told a client stays where it is, or its stream is refused
abbrev pub StaysOrEnds : Progress → Progress → Type 0
StaysOrEnds Connecting Connecting = ⊤
StaysOrEnds Connecting Ready = ⊥
StaysOrEnds Connecting Ended = ⊤
StaysOrEnds Ready Connecting = ⊥
StaysOrEnds Ready Ready = ⊤
StaysOrEnds Ready Ended = ⊤
StaysOrEnds Ended after = after ≡ Ended

-- a Bye while it connects ends the stream at once
abbrev pub EndsNow : List ConnStep → Progress → Type 0
EndsNow steps after = (steps ≡ []) × (after ≡ Ended)

-- a Bye or a Shutdown of a client that is ready ends the stream with its packet
abbrev pub EndsWithItsPacket : List ConnStep → Progress → Type 0
EndsWithItsPacket steps after = (steps ≡ step.Packet ∷ []) × (after ≡ Ended)

-- steps from one progress to another: names and then one Ready; then events, areas, suppressions and ends of packets; at last a Bye or a Shutdown
abbrev pub ComeInOrder : Progress → List ConnStep → Progress → Type 0
ComeInOrder Connecting [] after = StaysOrEnds Connecting after
ComeInOrder Connecting (step.Named name ∷ steps) after = ComeInOrder Connecting steps after
ComeInOrder Connecting (step.Ready confirmed ∷ steps) after = ComeInOrder Ready steps after
ComeInOrder Connecting (step.Event event ∷ steps) after = ⊥
ComeInOrder Connecting (step.Refresh area ∷ steps) after = ⊥
ComeInOrder Connecting (step.Suppress stop ∷ steps) after = ⊥
ComeInOrder Connecting (step.Shutdown ∷ steps) after = ⊥
ComeInOrder Connecting (step.Bye ∷ steps) after = EndsNow steps after
ComeInOrder Connecting (step.Packet ∷ steps) after = ⊥
ComeInOrder Ready [] after = StaysOrEnds Ready after
ComeInOrder Ready (step.Named name ∷ steps) after = ⊥
ComeInOrder Ready (step.Ready confirmed ∷ steps) after = ⊥
ComeInOrder Ready (step.Event event ∷ steps) after = ComeInOrder Ready steps after
ComeInOrder Ready (step.Refresh area ∷ steps) after = ComeInOrder Ready steps after
ComeInOrder Ready (step.Suppress stop ∷ steps) after = ComeInOrder Ready steps after
ComeInOrder Ready (step.Shutdown ∷ steps) after = EndsWithItsPacket steps after
ComeInOrder Ready (step.Bye ∷ steps) after = EndsWithItsPacket steps after
ComeInOrder Ready (step.Packet ∷ steps) after = ComeInOrder Ready steps after
ComeInOrder Ended [] after = after ≡ Ended
ComeInOrder Ended (one ∷ steps) after = ⊥
