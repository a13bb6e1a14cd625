use Rattle.std.proofs.Common.{◌<◌, ◌+◌, ap, refl, subst, ◌∙◌, arith, take, length}
use Rattle.std.specs.Vec.{with_items}
use Rattle.std.proofs.lemmas.List.{with_items_is}
use Rattle.order_means.specs.Updates.{Cutting, updates_from}
use Rattle.update_read.specs.Cutters.{CutterOf, Stands, GoesOn}
use Rattle.update_read.proofs.Taken.{taken_by}
use Rattle.update_read.proofs.cutter.Cutter.take.Goals as goal

pub returns-then-count-eq0-clause-cut : goal.returns-then-count-eq0-clause-cut
returns-then-count-eq0-clause-cut c = λ k stands. (refl, stands, λ none. none)

pub returns-clause-cut : goal.returns-clause-cut
returns-clause-cut c =
    let inside = c.self.inside in
    let n = c.min-count.result in
    let min = c.min-count.ensures in
    let some : 0 < c.sure.result = let not = c.if-count-eq0.false in grind (arith, min, not) in
    let missing = rw c.deref.ensures.value at c.sure.ensures some in
    let is = with_items_is inside.bytes c.put_behind.new.all (c.put_behind.ensures.size ∙ c.deref_mut.ensures.len) in
    let front = rw c.deref_mut.ensures.value at c.put_behind.ensures.front in
    let all = (with_items inside.bytes c.put_behind.new.all).items in
    let new : CutterOf = record { fast = inside.fast; start = inside.start; packet = take (inside.count + n) all; state = inside.state } in
    subst (λ (old : CutterOf). (k : Cutting) → Stands k old → GoesOn k (updates_from old.fast k (take n c.args.bytes.now)) new) c.self.view_is
    (λ k stands.
    taken_by inside.state inside.fast inside.bytes.items all inside.start inside.count c.sure.result n c.args.bytes.now k missing.0 missing.1
    (omega (arith, min)) (omega (arith, min)) (ap (take (inside.count + length (take n c.args.bytes.now))) is ∙ front) stands)
