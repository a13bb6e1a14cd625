use Rattle.std.proofs.Common.{◌≡◌, ◌∙◌, [], length, ap, subst, arith}
use Rattle.std.specs.Prelude.{◌==◌, true}
use Rattle.viewer_sender.specs.Gathering.{Gathering, with_order, most_room}
use Rattle.viewer_sender.specs.Framings.{is_fast}
use Rattle.viewer_sender.proofs.Begun.{length-user, joins, begins, none_begun, within_packet, past_packet, short_enough}
use Rattle.viewer_sender.proofs.updates.Updates.settle.Goals as goal
use Rattle.viewer_sender.proofs.updates.Updates.settle.Goals.{then-len-most_room+in_ok-begin_next, else-len-most_room}

pub join-requires-clause-short : goal.join-requires-clause-short
join-requires-clause-short c =
    let whole = length-user c.self.inside.user.items c.self.inside.end c.self.invariant.begins c.self.invariant.there in
    let t = ap (λ g. length g.tail) c.self.view_is in
    let n = ap (λ g. length g.begun) c.self.view_is in
    let f = ap (λ g. most_room g.fast) c.self.view_is in
    let short = c.requires.short in
    let size = c.len.ensures in
    let most = c.most_room.ensures in
    elim c.if-len-most_room.branch [
      | then-len-most_room+in_ok-begin_next w ↦
          let e = w.self-is ∙ w.in_ok-begin_next.ensures in
          let a = ap (λ g. length g.begun) e in
          let b = ap (λ g. length g.tail) e in
          let k = ap (λ g. most_room g.fast) e in
          let enough = short_enough c.args.self.now.fast (length c.args.self.now.tail) short in
          omega (arith, a, b, k, f, enough)
      | else-len-most_room w ↦
          let a = ap (λ g. length g.begun) w.self-is in
          let b = ap (λ g. length g.tail) w.self-is in
          let k = ap (λ g. most_room g.fast) w.self-is in
          let few = w.if-len-most_room.false in
          omega (arith, a, b, k, f, few, whole, t, n, size, most)
    ]

pub returns : goal.returns
returns c =
    let whole = length-user c.self.inside.user.items c.self.inside.end c.self.invariant.begins c.self.invariant.there in
    let t = ap (λ g. length g.tail) c.self.view_is in
    let n = ap (λ g. length g.begun) c.self.view_is in
    let f = ap (λ g. most_room g.fast) c.self.view_is in
    let size = c.len.ensures in
    let most = c.most_room.ensures in
    let none : (c.args.self.now.count == 0) ≡ true → c.args.self.now.begun ≡ [] =
    subst (λ (g : Gathering). (g.count == 0) ≡ true → g.begun ≡ []) c.self.view_is (none_begun (is_fast c.self.inside.framing) c.self.inside.user.items c.self.inside.end c.self.inside.count c.self.invariant) in
    c.join.ensures ∙ elim c.if-len-most_room.branch [
      | then-len-most_room+in_ok-begin_next w ↦
          let many = w.if-len-most_room.true in
          ap (λ g. with_order g g.tail) (w.self-is ∙ w.in_ok-begin_next.ensures) ∙ begins c.args.self.now c.args.self.now.tail (past_packet c.args.self.now.fast _ (omega (arith, many, whole, t, n, f, size, most)))
      | else-len-most_room w ↦
          let few = w.if-len-most_room.false in
          ap (λ g. with_order g g.tail) w.self-is ∙ joins c.args.self.now c.args.self.now.tail none (within_packet c.args.self.now.fast _ (omega (arith, few, whole, t, n, f, size, most)))
    ]
