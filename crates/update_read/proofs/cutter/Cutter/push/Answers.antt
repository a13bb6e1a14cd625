use Rattle.std.proofs.Common.{◌≡◌, ◌<◌, ◌≤◌, ◌+◌, ◌++◌, ◌∷◌, [], ◌∙◌, ap, subst, arith, take, length, ℕ, slice_set}
use Rattle.std.proofs.lemmas.List.{take_more_set, length-set}
use Rattle.order_means.specs.Updates.{Cutting, updates_by}
use Rattle.update_read.specs.Cutters.{CutterOf, place_after, Stands, Gives}
use Rattle.update_read.proofs.Pushed.{Judged, pushed_by, room_by, sound_after, start_fits}
use Rattle.update_read.proofs.cutter.Cutter.push.Goals as goal

pub invariant_of-self : goal.invariant_of-self
invariant_of-self c =
    let inside = c.self.inside in
    let place = c.place_after-start.result in
    let is = c.place_after-start.ensures in
    let size : length inside.bytes.items ≡ 65535 = c.self.invariant.0 in
    let count : inside.count ≤ length inside.bytes.items = let most = c.self.invariant.1 in omega (arith, size, most) in
    let not = c.in_default.not-Refused in
    let room : place.1 < 65535 = rw is (room_by inside.state inside.bytes.items inside.start inside.count not count c.self.invariant.2) in
    let new : CutterOf = record { fast = inside.fast; start = place.0; packet = take (place.1 + 1) (slice_set inside.bytes.items place.1 c.args.byte); state = c.judge-self-inside.result } in
    let judged : Judged new = rw c.deref.ensures.value at c.judge-self-inside.ensures.told in
    let packet : new.packet ≡ take (place_after inside.state inside.start inside.count).1 inside.bytes.items ++ c.args.byte ∷ [] =
    take_more_set inside.bytes.items place.1 c.args.byte (omega (arith, size, room)) ∙ ap (λ (p : ℕ × ℕ). take p.1 inside.bytes.items ++ c.args.byte ∷ []) is in
    let below : inside.start < 18446744073709551616 = omega arith in
    (length-set inside.bytes.items place.1 c.args.byte ∙ size, omega (arith, room), sound_after inside.state inside.bytes.items inside.start inside.count c.args.byte new not c.self.invariant.2 judged packet (rw is (start_fits inside.state inside.start inside.count below)))

pub returns-clause-cut : goal.returns-clause-cut
returns-clause-cut c =
    let inside = c.self.inside in
    let place = c.place_after-start.result in
    let is = c.place_after-start.ensures in
    let size : length inside.bytes.items ≡ 65535 = c.self.invariant.0 in
    let count : inside.count ≤ length inside.bytes.items = let most = c.self.invariant.1 in omega (arith, size, most) in
    let not = c.in_default.not-Refused in
    let room : place.1 < 65535 = rw is (room_by inside.state inside.bytes.items inside.start inside.count not count c.self.invariant.2) in
    let new : CutterOf = record { fast = inside.fast; start = place.0; packet = take (place.1 + 1) (slice_set inside.bytes.items place.1 c.args.byte); state = c.judge-self-inside.result } in
    let judged : Judged new = rw c.deref.ensures.value at c.judge-self-inside.ensures.told in
    let packet : new.packet ≡ take (place_after inside.state inside.start inside.count).1 inside.bytes.items ++ c.args.byte ∷ [] =
    take_more_set inside.bytes.items place.1 c.args.byte (omega (arith, size, room)) ∙ ap (λ (p : ℕ × ℕ). take p.1 inside.bytes.items ++ c.args.byte ∷ []) is in
    subst (λ (old : CutterOf). (k : Cutting) → Stands k old → Gives (updates_by old.fast k.place k.stage c.args.byte) new) c.self.view_is
    (λ k stands. pushed_by inside.state inside.bytes.items inside.start inside.count c.args.byte new k not count judged packet (ap (λ (p : ℕ × ℕ). p.0) is) stands)
