use Rattle.std.proofs.Common.{◌∙◌, ◌+◌, ◌≤◌, ◌++◌, length, drop, length-drop, ap, sym, subst, arith}
use Rattle.viewer_sender.specs.Gathering.{gathering, with_order, orders_in, most_room, IsBegun}
use Rattle.viewer_sender.specs.Framings.{is_fast}
use Rattle.viewer_sender.proofs.Begun.{begun_more, length-user, orders_joined, nothing_behind}
use Rattle.viewer_sender.proofs.updates.Updates.join.Goals as goal

pub invariant_of-self : goal.invariant_of-self
invariant_of-self c =
    let user = c.self.inside.user.items in
    let inv = c.self.invariant in
    let a = inv.begins in
    let b = inv.there in
    let whole = length-user user c.self.inside.end a b in
    let t = ap (λ g. length g.tail) c.self.view_is in
    let n = ap (λ g. length g.begun) c.self.view_is in
    let some = c.requires.some in
    let short = subst (λ b. 26 + (length c.args.self.now.begun + length c.args.self.now.tail) ≤ most_room b) (sym (ap (λ g. g.fast) c.self.view_is)) c.requires.short in
    let behind = length-drop c.self.inside.end user in
    subst (λ k. IsBegun (is_fast c.self.inside.framing) (length user) k (c.self.inside.count + 1)) (sym (c.len-self-inside.ensures ∙ c.self.inside.user.ok.0))
    (begun_more (is_fast c.self.inside.framing) (length user) c.self.inside.end c.self.inside.count (length (drop c.self.inside.end user)) inv (omega (arith, behind, b)) (omega (arith, t, some)) (omega (arith, whole, t, n, short)))

pub returns : goal.returns
returns c =
    let user = c.self.inside.user.items in
    let packets = c.self.inside.packets.items in
    let count = c.self.inside.count in
    ap (λ n. gathering (is_fast c.self.inside.framing) packets (orders_in user n) (count + 1) (drop n user)) (c.len-self-inside.ensures ∙ c.self.inside.user.ok.0)
    ∙ (ap (λ bs. gathering (is_fast c.self.inside.framing) packets bs (count + 1) (drop (length user) user)) (sym (orders_joined user c.self.inside.end c.self.invariant.begins))
    ∙ (ap (λ bs. gathering (is_fast c.self.inside.framing) packets (orders_in user c.self.inside.end ++ drop c.self.inside.end user) (count + 1) bs) (nothing_behind user)
    ∙ ap (λ g. with_order g g.tail) c.self.view_is))
