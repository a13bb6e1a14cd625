use Rattle.std.proofs.Common.{◌≡◌, ◌≤◌, ◌∙◌, ap, sym, subst, arith, take, length, ℕ, true}
use Rattle.std.proofs.lemmas.List.{length-take-le}
use Rattle.order_means.specs.Updates.{Cutting}
use Rattle.update_read.specs.Cutters.{CutterOf, Stands, is_between, capped}
use Rattle.update_read.specs.Opens.{MayOpen, Opens}
use Rattle.update_read.proofs.WholeOpened.{Judges, opens, opens_sound, some_bytes}
use Rattle.update_read.proofs.cutter.Cutter.opened.Goals as goal

pub judge-state-requires : goal.judge-state-requires
judge-state-requires c = some_bytes c.args.packet.now c.requires.whole

pub new-requires : goal.new-requires
new-requires c =
    let first = c.place_after-start.result.0 in
    let below : first ≡ capped first = omega arith in
    let j : Judges c.judge-state.result c.self.inside.fast first c.args.packet.now = record { told = c.judge-state.ensures.told; slow = c.judge-state.ensures.slow; fast_most = c.judge-state.ensures.fast } in
    opens_sound c.judge-state.result c.self.inside.fast first c.args.packet.now j below _ (ap (λ (m : CutterOf). m.fast) (sym c.self.view_is)) c.requires

pub returns-clause-opens : goal.returns-clause-opens
returns-clause-opens c =
    let inside = c.self.inside in
    let first = c.place_after-start.result.0 in
    let new : CutterOf = record { fast = inside.fast; start = first; packet = c.args.packet.now; state = c.judge-state.result } in
    let size : length inside.bytes.items ≡ 65535 = c.self.invariant.0 in
    let most = c.self.invariant.1 in
    let few : inside.count ≤ length inside.bytes.items = omega (arith, size, most) in
    let may : MayOpen (record { fast = inside.fast; start = inside.start; packet = take inside.count inside.bytes.items; state = inside.state }) c.args.packet.now =
    subst (λ (m : CutterOf). MayOpen m c.args.packet.now) (sym c.self.view_is) c.requires in
    let between = subst (λ (k : ℕ). is_between inside.state k ≡ true) (length-take-le inside.count inside.bytes.items few) may.between in
    let j : Judges c.judge-state.result inside.fast first c.args.packet.now = record { told = c.judge-state.ensures.told; slow = c.judge-state.ensures.slow; fast_most = c.judge-state.ensures.fast } in
    subst (λ (m : CutterOf). (k : Cutting) → Stands k c.args.self.now → Opens k c.args.packet.now m) (sym c.new.ensures)
    (subst (λ (old : CutterOf). (k : Cutting) → Stands k old → Opens k c.args.packet.now new) c.self.view_is
    (λ k stands. opens inside.state inside.fast inside.bytes.items inside.start inside.count new k between few (ap (λ (p : ℕ × ℕ). p.0) c.place_after-start.ensures) may.begins may.whole j stands))
