use Rattle.std.proofs.Common.{◌≤◌, ◌<◌, length, take, ◌∙◌, sym, arith, length-set, rules}
use Rattle.std.proofs.lemmas.List.{take_more_set, length-take-le}
use Rattle.info_lic.proofs.Names.{unit_read, other_next, too_long, all_read, half_left, ascii_more, large_unit, small_unit, none_left, one_left}
use Rattle.info_lic.proofs.client_info.wide_name.Goals as goal
use Rattle.info_lic.proofs.client_info.wide_name.Goals.{then-count-eq-NAME_LENGTH-via-then-count-eq-NAME_LENGTH, then-count-eq-NAME_LENGTH-via-else-count-eq-NAME_LENGTH+then-high-ne0, then-count-eq-NAME_LENGTH-via-else-count-eq-NAME_LENGTH+else-high-ne0+then-not-is_ascii}

pub returns-then-count-eq-NAME_LENGTH : goal.returns-then-count-eq-NAME_LENGTH
returns-then-count-eq-NAME_LENGTH c =
    let before = c.loop-left.invariant in
    let front = take c.loop-left.count c.loop-left.name in
    let left = c.loop-left.left.now in
    let size = length-take-le c.loop-left.count c.loop-left.name (omega (arith, before.size, before.few)) in
    let some : 2 ≤ length left = c.loop-left-test.true in
    c.new.ensures ∙ sym (
    elim c.then-count-eq-NAME_LENGTH.branch [
      | then-count-eq-NAME_LENGTH-via-then-count-eq-NAME_LENGTH w ↦ too_long front left some (omega (arith, size, w.if-count-eq-NAME_LENGTH.true))
      | then-count-eq-NAME_LENGTH-via-else-count-eq-NAME_LENGTH+then-high-ne0 w ↦ other_next front left some (omega (arith, w.if-high-ne0.true))
      | then-count-eq-NAME_LENGTH-via-else-count-eq-NAME_LENGTH+else-high-ne0+then-not-is_ascii w ↦ other_next front left some (omega (arith, large_unit _ (sym w.is_ascii.ensures ∙ w.if-not-is_ascii.true)))
    ]) ∙ before.same

pub loop-left-preserved : goal.loop-left-preserved
loop-left-preserved c =
    let before = c.loop-left.invariant in
    let front = take c.loop-left.count c.loop-left.name in
    let left = c.loop-left.left.now in
    let room : c.loop-left.count < length c.loop-left.name = omega (arith, before.size, before.few, c.if-count-eq-NAME_LENGTH.false) in
    let more = take_more_set c.loop-left.name c.loop-left.count _ room in
    record {
      size = length-set c.loop-left.name c.loop-left.count _ ∙ before.size;
      few = omega (arith, before.few, c.if-count-eq-NAME_LENGTH.false);
      ascii = ascii_more front _ _ more before.ascii (small_unit _ (sym c.is_ascii.ensures ∙ c.if-not-is_ascii.false));
      same = unit_read front left _ _ c.loop-left-test.true c.if-high-ne0.false before.same more;
    }

pub returns-then-is_empty : goal.returns-then-is_empty
returns-then-is_empty c =
    let before = c.loop-left.invariant in
    let front = take c.loop-left.count c.loop-left.name in
    let size = length-take-le c.loop-left.count c.loop-left.name (omega (arith, before.size, before.few)) in
    c.new-then-is_empty.ensures
    ∙ sym (all_read front c.loop-left.left.now (none_left _ (sym c.is_empty.ensures ∙ c.if-is_empty.true)) (record { short = omega (arith, size, before.few); ascii = before.ascii })) ∙ before.same

pub returns-else-is_empty : goal.returns-else-is_empty
returns-else-is_empty c =
    let front = take c.loop-left.count c.loop-left.name in
    c.new-else-is_empty.ensures ∙ sym (half_left front c.loop-left.left.now (one_left _ (sym c.is_empty.ensures ∙ c.if-is_empty.false) c.loop-left-test.false)) ∙ c.loop-left.invariant.same

pub bounds-name-count : goal.bounds-name-count
bounds-name-count c = search rules
