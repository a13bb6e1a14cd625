use Rattle.std.proofs.Common.{◌≡◌, ◌≤◌, ◌+◌, ◌∙◌, ap, sym, subst, arith, take, length, ℕ, true}
use Rattle.std.proofs.lemmas.List.{length-take-le}
use Rattle.order_means.specs.Updates.{Cutting, cutting}
use Rattle.order_means.specs.Updates.Stage.{Between}
use Rattle.update_read.specs.declared.state.State.TheVariants.{Open}
use Rattle.update_read.specs.Cutters.{CutterOf, Stands, is_between}
use Rattle.update_read.proofs.WholeOpened.{passed}
use Rattle.update_read.proofs.cutter.Cutter.pass.Goals as goal

pub returns-clause-past : goal.returns-clause-past
returns-clause-past c =
    let inside = c.self.inside in
    let n = length c.args.packet.now in
    let size : length inside.bytes.items ≡ 65535 = c.self.invariant.0 in
    let most = c.self.invariant.1 in
    let few : inside.count ≤ length inside.bytes.items = omega (arith, size, most) in
    let here = subst (λ (old : CutterOf). is_between old.state (length old.packet) ≡ true) (sym c.self.view_is) c.requires in
    let between = subst (λ (k : ℕ). is_between inside.state k ≡ true) (length-take-le inside.count inside.bytes.items few) here in
    let new : CutterOf = record { fast = inside.fast; start = c.saturating_add-self-inside.result; packet = take 0 inside.bytes.items; state = Open } in
    subst (λ (old : CutterOf). (k : Cutting) → Stands k old → Stands (cutting (k.place + n) Between) new) c.self.view_is
    (λ k stands. passed inside.state inside.fast inside.bytes.items inside.bytes.items inside.start inside.count c.place_after-start.result.0 c.saturating_add-self-inside.result n k between few (ap (λ (p : ℕ × ℕ). p.0) c.place_after-start.ensures) c.saturating_add-self-inside.ensures stands)
