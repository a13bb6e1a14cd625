use Rattle.std.proofs.Common.{◌≡◌, [], ap, sym, ◌∙◌, arith}
use Rattle.session_rules.specs.Pending.{pending_between}
use Rattle.frame_plan.specs.Takes.{DeskModel}
use Rattle.frame_plan.specs.Orders.{drawings_in}
use Rattle.frame_plan.proofs.WalkOver.{gone_past}
use Rattle.frame_plan.proofs.Walking.{none_gone, none_chosen}
use Rattle.frame_plan.proofs.frame.walk_over.Goals as goal

pub loop-entry-init : goal.loop-entry-init
loop-entry-init c =
    let s = c.args.session.now in
    let number : c.desk.inside.number ≡ c.args.desk.now.number = ap (λ (d : DeskModel). d.number) c.desk.view_is in
    record {
      above = omega (arith, number, c.quiet_end-entry.ensures.above);
      within = c.quiet_end-entry.ensures.within;
      gone = none_gone s.head.size c.args.desk.now.confirmed c.args.walker.now [] (drawings_in c.in_ok-orders.orders) _
          (ap (λ n. pending_between s.head.size s.journal n c.quiet_end-entry.result) (sym number) ∙ c.quiet_end-entry.ensures.quiet) (ap drawings_in c.in_ok-orders.ensures);
      chosen = none_chosen c.args.desk.now.confirmed c.in_ok-orders.orders c.in_ok-orders.ensures;
    }

pub loop-entry-preserved : goal.loop-entry-preserved
loop-entry-preserved c =
    let s = c.args.session.now in
    let d = c.args.desk.now in
    let k = c.loop-entry.entry in
    record {
      above = omega (arith, c.loop-entry.invariant.above, c.quiet_end-entry-in-loop-entry.ensures.above);
      within = c.quiet_end-entry-in-loop-entry.ensures.within;
      gone = gone_past s.head.size d.confirmed s.journal d.number k c.quiet_end-entry-in-loop-entry.result c.args.walker.now c.loop-entry.walker c.walk_entry.new.walker
          (drawings_in c.loop-entry.orders) (drawings_in c.walk_entry.new.orders) c.loop-entry.invariant.above c.quiet_end-entry-in-loop-entry.ensures.above
          c.quiet_end-entry-in-loop-entry.ensures.quiet c.loop-entry.invariant.gone c.in_ok-walk_entry.ensures.gone;
      chosen = c.in_ok-walk_entry.ensures.chosen c.loop-entry.invariant.chosen;
    }
