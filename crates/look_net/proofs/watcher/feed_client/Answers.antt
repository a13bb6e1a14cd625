use Rattle.std.proofs.Common.{ap, sym, ◌∙◌}
use Rattle.std.specs.Prelude.{Some}
use Rattle.look_net.proofs.Fed.{fed_ok, fed_refused, fed_named}
use Rattle.look_net.proofs.watcher.feed_client.Goals as goal

pub returns-in-Ok : goal.returns-in-Ok
returns-in-Ok c = λ k size shown h. fed_ok k size shown c.args.packet.now c.args.client.now c.feed_packet.new.self h c.in-Ok.ensures.read c.in-Ok.ensures.same

pub returns-in-Err-Refused : goal.returns-in-Err-Refused
returns-in-Err-Refused c = λ k size shown h.
    let fault = c.in-Err-Refused in
    fed_refused k size shown c.args.packet.now c.args.client.now c.feed_packet.new.self c.args.start fault.at fault.field-0 fault.field-0-is h fault.ensures.read ∙ ap Some (sym c.saturating_add.ensures)

pub returns-in-Err-Named : goal.returns-in-Err-Named
returns-in-Err-Named c = λ k size shown h.
    let fault = c.in-Err-Named in
    fed_named k size shown c.args.packet.now c.args.client.now c.feed_packet.new.self c.args.start fault.at _ _ _ fault.field-0 fault.field-0-is h fault.ensures.read
    ∙ ap Some (sym c.saturating_add-in-Err-Named.ensures)
