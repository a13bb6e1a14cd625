use Rattle.std.proofs.Common.{◌≡◌, ◌≤◌, ◌<◌, ℕ, length, ap, ◌∙◌, subst, arith, rules}
use Rattle.session_rules.specs.Pending.{pending_between}
use Rattle.frame_rules.specs.Frame.{jumped}
use Rattle.frame_plan.specs.Takes.{DeskModel}
use Rattle.frame_plan.specs.Orders.{drawings_in}
use Rattle.frame_plan.specs.Planning.{pending_at, begun_at}
use Rattle.frame_plan.specs.Walks.{walk_of, HasJumped, IsBegun}
use Rattle.frame_plan.proofs.Pendings.{pending_count}
use Rattle.frame_plan.proofs.PlannedBy.{planned_jump, planned_walk}
use Rattle.frame_plan.proofs.Walking.{none_chosen}
use Rattle.frame_plan.proofs.frame.walked.Goals as goal

pub overflow_sub-count : goal.overflow_sub-count
overflow_sub-count c =
    let s = c.args.session.now in
    let number : c.desk.inside.number ≡ c.args.desk.now.number = ap (λ (d : DeskModel). d.number) c.desk.view_is in
    let seen = c.requires in
    let end = c.length.ensures in
    let low : c.desk.inside.number ≤ c.length.result = omega (arith, number, seen, end) in
    let count = pending_count s.head.size s.journal c.desk.inside.number c.length.result low in
    let all = c.drawings_before-all.ensures in
    let before = c.drawings_before.ensures in
    omega (arith, count, all, before)

pub returns-then-count-gt-MOST_ORDERS-clause-planned : goal.returns-then-count-gt-MOST_ORDERS-clause-planned
returns-then-count-gt-MOST_ORDERS-clause-planned c =
    let s = c.args.session.now in
    let d = c.args.desk.now in
    let number : c.desk.inside.number ≡ c.args.desk.now.number = ap (λ (d : DeskModel). d.number) c.desk.view_is in
    let seen = c.requires in
    let end = c.length.ensures in
    let low : c.desk.inside.number ≤ c.length.result = omega (arith, number, seen, end) in
    let count = pending_count s.head.size s.journal c.desk.inside.number c.length.result low in
    let same : length (pending_between s.head.size s.journal c.desk.inside.number c.length.result) ≡ length (pending_at c.args.session.now c.args.desk.now) =
    ap (λ n. length (pending_between s.head.size s.journal n c.length.result)) number
    ∙ ap (λ n. length (pending_between s.head.size s.journal c.args.desk.now.number n)) end in
    let all = c.drawings_before-all.ensures in
    let before = c.drawings_before.ensures in
    let begun : IsBegun c.in_ok-walker.walker (begun_at c.args.session.now c.args.desk.now) = search rules in
    let test = c.if-count-gt-MOST_ORDERS.true in
    let many : 256 < length (pending_at c.args.session.now c.args.desk.now) = omega (arith, test, count, same, all, before) in
    let new = c.jump.new.self in
    let jumps = subst (λ (n : ℕ). HasJumped c.in_ok-walker.walker (jumped s.head.size (walk_of c.in_ok-walker.walker) (pending_between s.head.size s.journal n (length s.journal))) new)
    number c.jump.ensures in
    planned_jump s d c.in_ok-walker.walker new (drawings_in c.none.result) begun many jumps (ap drawings_in c.none.ensures)

pub returns-then-count-gt-MOST_ORDERS-clause-chosen : goal.returns-then-count-gt-MOST_ORDERS-clause-chosen
returns-then-count-gt-MOST_ORDERS-clause-chosen c = none_chosen c.args.desk.now.confirmed c.none.result c.none.ensures

pub returns-in_ok-sent-clause-planned : goal.returns-in_ok-sent-clause-planned
returns-in_ok-sent-clause-planned c =
    let s = c.args.session.now in
    let d = c.args.desk.now in
    let number : c.desk.inside.number ≡ c.args.desk.now.number = ap (λ (d : DeskModel). d.number) c.desk.view_is in
    let seen = c.requires in
    let end = c.length.ensures in
    let low : c.desk.inside.number ≤ c.length.result = omega (arith, number, seen, end) in
    let count = pending_count s.head.size s.journal c.desk.inside.number c.length.result low in
    let same : length (pending_between s.head.size s.journal c.desk.inside.number c.length.result) ≡ length (pending_at c.args.session.now c.args.desk.now) =
    ap (λ n. length (pending_between s.head.size s.journal n c.length.result)) number
    ∙ ap (λ n. length (pending_between s.head.size s.journal c.args.desk.now.number n)) end in
    let all = c.drawings_before-all.ensures in
    let before = c.drawings_before.ensures in
    let begun : IsBegun c.in_ok-walker.walker (begun_at c.args.session.now c.args.desk.now) = search rules in
    let test = c.if-count-gt-MOST_ORDERS.false in
    let few : length (pending_at c.args.session.now c.args.desk.now) ≤ 256 = omega (arith, test, count, same, all, before) in
    planned_walk s d c.in_ok-walker.walker c.walk_over.new.walker (drawings_in c.in_ok-sent.sent) begun few c.in_ok-sent.ensures.walked
