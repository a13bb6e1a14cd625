-- What a packet tells, step by step.
use Rattle.std.specs.Prelude.{Bool, true, false, List, [], ◌∷◌, ◌++◌, map}
use Rattle.px_core.specs.declared.rectangle.Rect.{Rect}
use Rattle.input_pdu.specs.declared.event.Event.{Event}
use Rattle.conn_rules.specs.declared.answer.News.{News}
use Rattle.conn_rules.specs.declared.answer.News.TheVariants as news
use Rattle.conn_rules.specs.declared.conn_step.ConnStep.{ConnStep}
use Rattle.conn_rules.specs.declared.conn_step.ConnStep.TheVariants as step
use Rattle.conn_rules.specs.declared.stage.Stage.{Stage}
use Rattle.conn_rules.specs.declared.stage.Stage.TheVariants as stage
use Rattle.conn_rules.specs.declared.stage.SharePhase.TheVariants as phase

-- events and areas
abbrev pub event_steps : List Event → List ConnStep
event_steps events = map (λ event. step.Event event) events

abbrev pub area_steps : List Rect → List ConnStep
area_steps areas = map (λ area. step.Refresh area) areas

-- news of a packet in whose share PDU these steps were found
abbrev pub news_steps : News → List ConnStep → List ConnStep
news_steps news.Nothing found = []
news_steps (news.Step one) found = one ∷ []
news_steps news.Pdu found = found

-- the client is ready
abbrev pub is_ready : Stage → Bool
is_ready stage.Request = false
is_ready (stage.Initial asked) = false
is_ready (stage.Erect client) = false
is_ready (stage.Attach client) = false
is_ready (stage.Joins client user io) = false
is_ready (stage.Shares channels (phase.Confirm depth)) = false
is_ready (stage.Shares channels (phase.Finish confirmed next)) = false
is_ready (stage.Shares channels phase.Ready) = true
is_ready stage.Over = false
is_ready (stage.Refused k at) = false

-- the end of a packet, where it follows Ready
abbrev pub end_steps : Bool → List ConnStep
end_steps true = step.Packet ∷ []
end_steps false = []

-- a packet that came at this stage
abbrev pub told_steps : Stage → News → List ConnStep → List ConnStep
told_steps here what found = news_steps what found ++ end_steps (is_ready here)
