-- A block that shares a position is in the way up to its end; where none does, none of the positions is taken.
use Rattle.std.proofs.Common.{◌≡◌, ℕ, ◌+◌, ◌<◌, ◌≤◌, min, max, subst, arith, get_or}
use Rattle.save_plan.specs.declared.place.Place.{Place}
use Rattle.save_plan.specs.Blocks.{end_of}
use Rattle.save_plan.proofs.LeastFree.{none_in_the_way, blocked_until}
use Rattle.save_plan.proofs.Apart.{ends_within}
use Rattle.save_plan.proofs.room.end_in_the_way.Goals as goal
use Rattle.std.proofs.lemmas.Grind.{common_steps}

abbrev none : ℕ × Place
none = (0, record { position = 0; w = 0; h = 0 })

pub end_of-end-requires : goal.end_of-end-requires
end_of-end-requires c = ends_within c.loop-place.place-index c.args.blocks.now none c.requires.apart c.loop-place-test.true

pub returns-then-max-min : goal.returns-then-max-min
returns-then-max-min c =
    let place : Place = (get_or c.args.blocks.now c.loop-place.place-index none).1 in
    let end : c.end_of-end.result ≡ end_of place = c.end_of-end.ensures in
    let most : max place.position c.args.from < min (end_of place) (c.args.from + c.args.count) = omega (arith, c.if-max-min.true, c.max.ensures, c.min.ensures, end) in
    let shared : max c.args.from place.position < min (c.args.from + c.args.count) (end_of place) = omega (arith, most) in
    let within : end_of place ≤ 57600 = ends_within c.loop-place.place-index c.args.blocks.now none c.requires.apart c.loop-place-test.true in (
      omega (arith, shared, end),
      omega (arith, within, end),
      λ before low high free. blocked_until c.args.count c.args.from before c.loop-place.place-index c.args.blocks.now none c.loop-place-test.true shared low (subst (λ e. before < e) end high) free,
    )

pub returns : goal.returns
returns c = none_in_the_way c.args.count c.args.from c.args.blocks.now (λ k d short. c.loop-place.invariant k d (omega (arith, short, c.loop-place-test.false)))

pub loop-place-preserved : goal.loop-place-preserved
loop-place-preserved c = grind (arith, common_steps)
