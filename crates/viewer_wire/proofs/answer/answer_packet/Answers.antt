use Rattle.std.proofs.Common.{sym, subst, List, ℕ}
use Rattle.viewer_rules.specs.ViewerHandshake.{packet_answered}
use Rattle.viewer_rules.specs.declared.stage.Stage.{Stage}
use Rattle.viewer_rules.specs.declared.stage.Stage.TheVariants as stage
use Rattle.viewer_wire.specs.Reads.{Answers}
use Rattle.viewer_wire.proofs.answer.answer_packet.Goals as goal

pub returns-in-Confirm : goal.returns-in-Confirm
returns-in-Confirm c =
    subst (λ (here : Stage). Answers c.answer_confirm.result c.answer_confirm.new.text.items (packet_answered c.args.name c.args.confirmed.now here c.args.packet.now)) (sym c.in-Confirm.is) (c.answer_confirm.ensures c.args.name)

pub returns-in-Response : goal.returns-in-Response
returns-in-Response c =
    subst (λ (here : Stage). Answers c.answer_response.result c.answer_response.new.text.items (packet_answered c.args.name c.args.confirmed.now here c.args.packet.now)) (sym c.in-Response.is) (c.answer_response.ensures c.args.name c.args.confirmed.now)

pub returns-in-Attach : goal.returns-in-Attach
returns-in-Attach c =
    subst (λ (here : Stage). Answers c.answer_attach.result c.answer_attach.new.text.items (packet_answered c.args.name c.args.confirmed.now here c.args.packet.now)) (sym c.in-Attach.is) (c.answer_attach.ensures c.args.name c.args.confirmed.now)

pub returns-in-Joins : goal.returns-in-Joins
returns-in-Joins c =
    subst (λ (here : Stage). Answers c.answer_join.result c.answer_join.new.text.items (packet_answered c.args.name c.args.confirmed.now here c.args.packet.now)) (sym c.in-Joins.is) (c.answer_join.ensures c.args.confirmed.now)

pub returns-in-Demand : goal.returns-in-Demand
returns-in-Demand c =
    subst (λ (here : Stage). Answers c.answer_demand.result c.answer_demand.new.text.items (packet_answered c.args.name c.args.confirmed.now here c.args.packet.now)) (sym c.in-Demand.is) (c.answer_demand.ensures c.args.name)

pub returns-in-Licence : goal.returns-in-Licence
returns-in-Licence c =
    subst (λ (here : Stage). Answers c.answer_licence.result c.clear.new.self.items (packet_answered c.args.name c.args.confirmed.now here c.args.packet.now)) (sym c.in-Licence.is)
    (subst (λ (text : List ℕ). Answers c.answer_licence.result text (packet_answered c.args.name c.args.confirmed.now (stage.Licence c.in-Licence.user) c.args.packet.now)) (sym c.clear.ensures.items) (c.answer_licence.ensures c.args.name c.args.confirmed.now))

pub returns-in-Finish : goal.returns-in-Finish
returns-in-Finish c =
    subst (λ (here : Stage). Answers c.answer_final.result c.clear.new.self.items (packet_answered c.args.name c.args.confirmed.now here c.args.packet.now)) (sym c.in-Finish.is)
    (subst (λ (text : List ℕ). Answers c.answer_final.result text (packet_answered c.args.name c.args.confirmed.now (stage.Finish c.in-Finish.user c.in-Finish.next) c.args.packet.now)) (sym c.clear.ensures.items) (c.answer_final.ensures c.args.name c.args.confirmed.now))
