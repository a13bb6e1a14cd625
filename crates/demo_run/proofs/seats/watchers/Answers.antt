use Rattle.std.proofs.Common.{◌≡◌, ◌∙◌, ◌+◌, ℕ, [], ◌∷◌, length, ap, sym, subst, arith, length-append}
use Rattle.std.specs.Prelude.{slice_get}
use Rattle.demo_run.specs.Scene.{demo_size, preset_of}
use Rattle.demo_run.specs.declared.watcher.Watcher.{Watcher}
use Rattle.demo_run.specs.Watching.{IsNew}
use Rattle.demo_run.proofs.Loops.{pushed_get}
use Rattle.demo_run.proofs.seats.watchers.Goals as goal

pub loop-i-preserved : goal.loop-i-preserved
loop-i-preserved c =
    let old = c.loop-i.watchers.items in
    let one = c.in_ok-new.field-0 in
    let items = c.in_ok-push.ensures.items in
    let number = c.loop-i.invariant.number in
    let first = subst (λ k. IsNew k demo_size one) c.preset_of.ensures c.in_ok-new.ensures in
    let last = subst (λ n. IsNew (preset_of (n + 1)).confirmed demo_size one) (sym number) first in
    let count = ap length items in
    record {
      number = omega (arith, count, number, length-append old (one ∷ []));
      each = λ k w h. pushed_get old one (λ n x. IsNew (preset_of (n + 1)).confirmed demo_size x) c.loop-i.invariant.each last k w
          (ap (λ xs. slice_get xs k) (sym items) ∙ h);
    }
