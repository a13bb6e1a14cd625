use Rattle.std.proofs.Common.{◌≡◌, ◌∙◌, ℕ, drop, ap, sym, subst, Ok, Err}
use Rattle.wire_num.specs.Cursor.{rest}
use Rattle.draw_ops.specs.Slots.{Slots}
use Rattle.pointer_share.specs.declared.fault.Cause.TheVariants.{Broken, Missing}
use Rattle.pointer_share.specs.Outlines.{ViewOf, HasView, sent_in, kept_after}
use Rattle.pointer_share.proofs.Fed.{obeyed, refused, refused_at}
use Rattle.pointer_share.proofs.view.PointerView.feed.Goals as goal

pub returns-in-Ok-read_sent-clause-told : goal.returns-in-Ok-read_sent-clause-told
returns-in-Ok-read_sent-clause-told c = λ v h.
    let i = c.self.inside in
    let is = c.in-Ok.ensures in
    let sent = c.in-Ok-read_sent.sent in
    let here : sent_in i.wide i.cells.items (rest c.in-Ok.content) ≡ Ok (sent, rest c.read_sent.new.cursor) =
    ap (λ (cs : Slots (ℕ × ℕ)). sent_in i.wide cs (rest c.in-Ok.content)) (sym c.deref.ensures.value) ∙ c.in-Ok-read_sent.ensures.0 in
    let read = subst (λ (o : ViewOf). sent_in o.wide o.cells (rest c.in-Ok.content) ≡ Ok (sent, rest c.read_sent.new.cursor)) c.self.view_is here in
    let fed = obeyed c.args.self.now v c.args.packet.now (rest c.in-Ok.content) (drop is.end c.args.packet.now) (rest c.read_sent.new.cursor) sent h is.stands read in
    let kept : c.obey.new.self ≡ kept_after c.args.self.now sent = cc in
    (fed.0, fed.1, subst (λ (o : ViewOf). HasView o fed.0) (sym kept) fed.2)

pub returns-in-Err-Broken-clause-told : goal.returns-in-Err-Broken-clause-told
returns-in-Err-Broken-clause-told c = λ v h.
    let i = c.self.inside in
    let told = rw c.in-Err-Broken.field-0-is at c.in-Err-Broken.ensures in
    let here : sent_in i.wide i.cells.items (rest c.in-Ok.content) ≡ Err (Broken, rest c.read_sent.new.cursor) =
    ap (λ (cs : Slots (ℕ × ℕ)). sent_in i.wide cs (rest c.in-Ok.content)) (sym c.deref.ensures.value) ∙ told.0 in
    let read = subst (λ (o : ViewOf). sent_in o.wide o.cells (rest c.in-Ok.content) ≡ Err (Broken, rest c.read_sent.new.cursor)) c.self.view_is here in
    let within = rw c.at.ensures.place at c.at.ensures.inside in
    refused_at c.args.self.now v c.args.packet.now Broken c.in-Ok.content c.read_sent.new.cursor h c.in-Ok.ensures told.1 within read ∙ ap (λ (n : ℕ). Err (Broken, n)) (sym c.at.ensures.place)

pub returns-in-Err-Missing-clause-told : goal.returns-in-Err-Missing-clause-told
returns-in-Err-Missing-clause-told c = λ v h.
    let i = c.self.inside in
    let is = c.in-Ok.ensures in
    let told = rw c.in-Err-Missing.field-0-is at c.in-Err-Missing.ensures in
    let here : sent_in i.wide i.cells.items (rest c.in-Ok.content) ≡ Err (Missing c.in-Err-Missing.index, rest c.read_sent.new.cursor) =
    ap (λ (cs : Slots (ℕ × ℕ)). sent_in i.wide cs (rest c.in-Ok.content)) (sym c.deref.ensures.value) ∙ told.0 in
    let read = subst (λ (o : ViewOf). sent_in o.wide o.cells (rest c.in-Ok.content) ≡ Err (Missing c.in-Err-Missing.index, rest c.read_sent.new.cursor)) c.self.view_is here in
    (_, refused c.args.self.now v c.args.packet.now (rest c.in-Ok.content) (drop is.end c.args.packet.now) (rest c.read_sent.new.cursor) (Missing c.in-Err-Missing.index) h is.stands read)
