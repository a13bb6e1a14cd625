use Rattle.std.proofs.Common.{◌∙◌, ap, sym, subst}
use Rattle.grow_lock.specs.Shares.{Share, left_half, right_half, HoldsShare}
use Rattle.grow_lock.proofs.Shares.{holds_same, both_of_halves_turned}
use Rattle.base_tests.proofs.turns.append_find_and_meet.Goals as goal

-- both halves came back
pub returns : goal.returns
returns g c =
    let split = c.split-second in let whole = c.args.first.share in let mine = c.append-first.result.0.share in let theirs = c.find_an_entry-second.result.share in (
      c.meet-both.ensures.lock,
      subst (λ (s : Share). HoldsShare s whole) (sym c.meet-both.ensures.share)
          (both_of_halves_turned whole mine theirs (holds_same mine (left_half whole) (c.append-first.ensures.share ∙ ap (λ p. p.share) split.ensures.unchanged))
          (holds_same theirs (right_half whole) (c.find_an_entry-second.ensures.1 ∙ split.ensures.share))),
    )
