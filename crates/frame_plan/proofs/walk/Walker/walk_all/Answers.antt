use Rattle.std.proofs.Common.{◌≤◌, ◌+◌, take, length, refl, sym, subst, arith}
use Rattle.frame_plan.specs.Orders.{drawings_in}
use Rattle.frame_plan.specs.Walks.{HasGoneOver}
use Rattle.frame_plan.proofs.Walking.{take_get, take_end, cuttable_at, gone_on, gone_one, none_gone}
use Rattle.frame_plan.proofs.walk.Walker.walk_all.Goals as goal

pub loop-i-init : goal.loop-i-init
loop-i-init c = record {
  gone = none_gone c.args.size c.args.confirmed.now c.args.self.now (drawings_in c.args.orders.now) (drawings_in c.args.orders.now) _ refl refl;
  chosen = λ h. h;
}

pub walk_one-requires-clause-cuttable : goal.walk_one-requires-clause-cuttable
walk_one-requires-clause-cuttable c = cuttable_at c.args.size c.args.drawings.now c.loop-i.i c.get.result c.requires.cuttable c.get.ensures

pub loop-i-preserved : goal.loop-i-preserved
loop-i-preserved c =
    let ps = c.args.drawings.now in
    record {
      gone = gone_on c.args.size c.args.confirmed.now c.args.self.now c.loop-i.self c.walk_one.new.self (drawings_in c.args.orders.now) (drawings_in c.loop-i.orders) (drawings_in c.walk_one.new.orders)
          (take c.loop-i.i ps) _ (take (c.loop-i.i + 1) ps) c.loop-i.invariant.gone
          (gone_one c.args.size c.args.confirmed.now c.loop-i.self c.walk_one.new.self (drawings_in c.loop-i.orders) (drawings_in c.walk_one.new.orders) c.get.result c.in_ok-walk_one.ensures.gone)
          (sym (take_get ps c.loop-i.i c.get.result c.get.ensures));
      chosen = λ h. c.in_ok-walk_one.ensures.chosen (c.loop-i.invariant.chosen h);
    }

pub returns-clause-gone : goal.returns-clause-gone
returns-clause-gone c =
    let end : length c.args.drawings.now ≤ c.loop-i.i = omega arith in
    subst (λ ps. HasGoneOver c.args.size c.args.confirmed.now c.args.self.now (drawings_in c.args.orders.now) ps c.loop-i.self (drawings_in c.loop-i.orders)) (take_end c.args.drawings.now c.loop-i.i end) c.loop-i.invariant.gone
