use Rattle.std.proofs.Common.{◌∙◌, ap, sym, subst}
use Rattle.grow_lock.specs.Shares.{left_half, right_half, IsWhole}
use Rattle.grow_lock.proofs.Shares.{holds_same, whole_of_halves}
use Rattle.base_tests.proofs.turns.two_threads_append_a_thousand_entries_each.Goals as goal

-- both threads' passes came back with their halves
pub close-log-requires-clause-whole : goal.close-log-requires-clause-whole
close-log-requires-clause-whole g c =
    let split = c.split-second in let sides = c.join-first in let whole = c.in_ok-lock.first.share in
    subst IsWhole (sym c.meet-both.ensures.share)
    (whole_of_halves whole sides.result.0.share sides.result.1.share c.in_ok-lock.ensures.share
    (holds_same sides.result.0.share (left_half whole) (sides.ensures.first.1 ∙ ap (λ p. p.share) split.ensures.unchanged))
    (holds_same sides.result.1.share (right_half whole) (sides.ensures.second.1 ∙ split.ensures.share)))
