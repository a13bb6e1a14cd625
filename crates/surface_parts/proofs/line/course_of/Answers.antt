use Rattle.std.proofs.Common.{◌<◌, arith}
use Rattle.std.proofs.lemmas.Int.{ints}
use Rattle.surface_parts.specs.Courses.{apart}
use Rattle.surface_parts.proofs.Lines.{IsShifted, level_is, steep_is, ends_are_apart}
use Rattle.surface_parts.proofs.line.course_of.Goals as goal

pub returns-then-distance-clause-course : goal.returns-then-distance-clause-course
returns-then-distance-clause-course c = let e = c.args.ends in
    let sx0 : IsShifted e.x0 c.shifted-x0.result = record { value = omega (arith, ints, c.shifted-x0.ensures.value) } in
    let sx1 : IsShifted e.x1 c.shifted-x1.result = record { value = omega (arith, ints, c.shifted-x1.ensures.value) } in
    let sy0 : IsShifted e.y0 c.shifted-y0.result = record { value = omega (arith, ints, c.shifted-y0.ensures.value) } in
    let sy1 : IsShifted e.y1 c.shifted-y1.result = record { value = omega (arith, ints, c.shifted-y1.ensures.value) } in
    let some = ends_are_apart e c.shifted-x0.result c.shifted-x1.result c.shifted-y0.result c.shifted-y1.result sx0 sx1 sy0 sy1 c.requires in
    record { from_u = c.shifted-x0.ensures.bound; from_v = c.shifted-y0.ensures.bound; to_u = c.shifted-x1.ensures.bound; to_v = c.shifted-y1.ensures.bound; some = some.0; longer = omega (arith, c.distance.ensures, c.distance-2.ensures) }

pub returns-then-distance-clause-from : goal.returns-then-distance-clause-from
returns-then-distance-clause-from c = let e = c.args.ends in
    let sx0 : IsShifted e.x0 c.shifted-x0.result = record { value = omega (arith, ints, c.shifted-x0.ensures.value) } in
    let sx1 : IsShifted e.x1 c.shifted-x1.result = record { value = omega (arith, ints, c.shifted-x1.ensures.value) } in
    let sy0 : IsShifted e.y0 c.shifted-y0.result = record { value = omega (arith, ints, c.shifted-y0.ensures.value) } in
    let sy1 : IsShifted e.y1 c.shifted-y1.result = record { value = omega (arith, ints, c.shifted-y1.ensures.value) } in
    level_is e c.shifted-x0.result c.shifted-y0.result c.shifted-x1.result c.shifted-y1.result sx0 sy0 sx1 sy1 (returns-then-distance-clause-course c)

pub returns-else-distance-clause-from : goal.returns-else-distance-clause-from
returns-else-distance-clause-from c = let e = c.args.ends in
    let sx0 : IsShifted e.x0 c.shifted-x0.result = record { value = omega (arith, ints, c.shifted-x0.ensures.value) } in
    let sx1 : IsShifted e.x1 c.shifted-x1.result = record { value = omega (arith, ints, c.shifted-x1.ensures.value) } in
    let sy0 : IsShifted e.y0 c.shifted-y0.result = record { value = omega (arith, ints, c.shifted-y0.ensures.value) } in
    let sy1 : IsShifted e.y1 c.shifted-y1.result = record { value = omega (arith, ints, c.shifted-y1.ensures.value) } in
    let more : apart c.shifted-x0.result c.shifted-x1.result < apart c.shifted-y0.result c.shifted-y1.result = omega (arith, c.distance.ensures, c.distance-2.ensures) in
    let some = ends_are_apart e c.shifted-x0.result c.shifted-x1.result c.shifted-y0.result c.shifted-y1.result sx0 sx1 sy0 sy1 c.requires in
    steep_is e c.shifted-x0.result c.shifted-y0.result c.shifted-x1.result c.shifted-y1.result sx0 sy0 sx1 sy1
    (record { from_u = c.shifted-y0.ensures.bound; from_v = c.shifted-x0.ensures.bound; to_u = c.shifted-y1.ensures.bound; to_v = c.shifted-x1.ensures.bound; some = some.1; longer = omega (arith, more) }) more
