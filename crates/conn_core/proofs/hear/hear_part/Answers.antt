use Rattle.std.proofs.Common.{List, ℕ, [], ap, sym, subst, ◌∙◌}
use Rattle.std.proofs.lemmas.Result.{err_from_is_err_and}
use Rattle.conn_rules.specs.Packets.{packet_judged}
use Rattle.fast_path.specs.Heads.{is_fast}
use Rattle.conn_rules.specs.Hearing.{Heard, head_of, length_place, judged_heard}
use Rattle.conn_rules.proofs.Pieces.{whole_head, part_heard, not_heard, bad_heard}
use Rattle.conn_core.specs.Feeds.{Appends, AppendsSome}
use Rattle.conn_core.specs.Stream.{hearing}
use Rattle.conn_core.proofs.Part.{one_packet}
use Rattle.conn_core.proofs.Loop.{nothing_heard}
use Rattle.conn_core.proofs.hear.hear_part.Goals as goal

pub returns-in_ok-hear_packet-in-Whole-clause-heard : goal.returns-in_ok-hear_packet-in-Whole-clause-heard
returns-in_ok-hear_packet-in-Whole-clause-heard c =
    let h = hearing c.args.talk.now [] in
    let head = ap (head_of c.args.talk.now.stage) (sym c.deref.ensures.value) ∙ sym c.in-Whole.ensures in
    let whole = whole_head c.args.talk.now.stage c.args.part.now.items _ head in
    let one = one_packet h c.args.part.now.items _ c.requires.open whole (c.requires.alone _ whole) in
    let same = ap (λ (p : List ℕ). (judged_heard h p (packet_judged h.stage p)).after) c.deref-in-Whole.ensures.value in
    rw c.clear.ensures.items (c.in_ok-hear_packet-in-Whole.ensures.heard ∙ same ∙ sym (ap (λ (x : Heard). x.after) one))

pub returns-in_ok-hear_packet-in-Whole-clause-appended : goal.returns-in_ok-hear_packet-in-Whole-clause-appended
returns-in_ok-hear_packet-in-Whole-clause-appended c =
    let h = hearing c.args.talk.now [] in
    let head = ap (head_of c.args.talk.now.stage) (sym c.deref.ensures.value) ∙ sym c.in-Whole.ensures in
    let whole = whole_head c.args.talk.now.stage c.args.part.now.items _ head in
    let one = one_packet h c.args.part.now.items _ c.requires.open whole (c.requires.alone _ whole) in
    let same = ap (λ (p : List ℕ). judged_heard h p (packet_judged h.stage p)) c.deref-in-Whole.ensures.value in
    subst (λ (x : Heard). Appends x c.args.out.now.items c.hear_packet.new.out.items c.args.steps.now.items c.hear_packet.new.steps.items) (same ∙ sym one) c.in_ok-hear_packet-in-Whole.ensures.appended

pub returns-in_err-hear_packet-in-Whole-clause-memory : goal.returns-in_err-hear_packet-in-Whole-clause-memory
returns-in_err-hear_packet-in-Whole-clause-memory c =
    let h = hearing c.args.talk.now [] in
    let head = ap (head_of c.args.talk.now.stage) (sym c.deref.ensures.value) ∙ sym c.in-Whole.ensures in
    let whole = whole_head c.args.talk.now.stage c.args.part.now.items _ head in
    let one = one_packet h c.args.part.now.items _ c.requires.open whole (c.requires.alone _ whole) in
    let same = ap (λ (p : List ℕ). judged_heard h p (packet_judged h.stage p)) c.deref-in-Whole.ensures.value in
    let p = err_from_is_err_and c.from_residual.result c.from_residual.ensures.1 in
    rw p.1 (subst (λ (x : Heard). AppendsSome x c.args.out.now.items c.hear_packet.new.out.items c.args.steps.now.items c.hear_packet.new.steps.items) (same ∙ sym one) c.in_err-hear_packet-in-Whole.ensures.memory)

pub returns-in-Part-clause-heard : goal.returns-in-Part-clause-heard
returns-in-Part-clause-heard c =
    let head = ap (head_of c.args.talk.now.stage) (sym c.deref.ensures.value) ∙ sym c.in-Part.ensures in
    sym (ap (λ (x : Heard). x.after) (part_heard (hearing c.args.talk.now []) c.args.part.now.items c.requires.open head))

pub returns-in-Part-clause-appended : goal.returns-in-Part-clause-appended
returns-in-Part-clause-appended c =
    let head = ap (head_of c.args.talk.now.stage) (sym c.deref.ensures.value) ∙ sym c.in-Part.ensures in
    subst (λ (x : Heard). Appends x c.args.out.now.items c.args.out.now.items c.args.steps.now.items c.args.steps.now.items)
    (sym (part_heard (hearing c.args.talk.now []) c.args.part.now.items c.requires.open head)) (nothing_heard _ _ _)

pub returns-in-NotTpkt-clause-heard : goal.returns-in-NotTpkt-clause-heard
returns-in-NotTpkt-clause-heard c =
    let head = ap (head_of c.args.talk.now.stage) (sym c.deref.ensures.value) ∙ sym c.in-NotTpkt.ensures in
    rw (c.clear-in-NotTpkt.ensures.items, c.refuse.ensures) (sym (ap (λ (x : Heard). x.after) (not_heard (hearing c.args.talk.now []) c.args.part.now.items c.requires.open head)))

pub returns-in-NotTpkt-clause-appended : goal.returns-in-NotTpkt-clause-appended
returns-in-NotTpkt-clause-appended c =
    let head = ap (head_of c.args.talk.now.stage) (sym c.deref.ensures.value) ∙ sym c.in-NotTpkt.ensures in
    subst (λ (x : Heard). Appends x c.args.out.now.items c.args.out.now.items c.args.steps.now.items c.args.steps.now.items)
    (sym (not_heard (hearing c.args.talk.now []) c.args.part.now.items c.requires.open head)) (nothing_heard _ _ _)

pub returns-in-BadLength-clause-heard : goal.returns-in-BadLength-clause-heard
returns-in-BadLength-clause-heard c =
    let head = ap (head_of c.args.talk.now.stage) (sym c.deref.ensures.value) ∙ sym c.in-BadLength.ensures in
    let place = c.length_place.ensures ∙ ap (λ (p : List ℕ). length_place (is_fast p)) c.deref-in-BadLength.ensures.value in
    rw (c.clear-in-BadLength.ensures.items, c.refuse-in-BadLength.ensures, place) (sym (ap (λ (x : Heard). x.after) (bad_heard (hearing c.args.talk.now []) c.args.part.now.items c.requires.open head)))

pub returns-in-BadLength-clause-appended : goal.returns-in-BadLength-clause-appended
returns-in-BadLength-clause-appended c =
    let head = ap (head_of c.args.talk.now.stage) (sym c.deref.ensures.value) ∙ sym c.in-BadLength.ensures in
    subst (λ (x : Heard). Appends x c.args.out.now.items c.args.out.now.items c.args.steps.now.items c.args.steps.now.items)
    (sym (bad_heard (hearing c.args.talk.now []) c.args.part.now.items c.requires.open head)) (nothing_heard _ _ _)
