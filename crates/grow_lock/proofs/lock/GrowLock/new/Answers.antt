use Rattle.std.proofs.Common.{ap, subst, sym, ◌∷◌, [], ◌≡◌, ◌∙◌, ◌++◌, refl, length, Some, rules}
use Rattle.atomic_table.specs.Table.{opening}
use Rattle.grow_lock.specs.Boxed.{boxed}
use Rattle.grow_lock.specs.Notes.{fresh_notes}
use Rattle.grow_lock.specs.Shares.{whole}
use Rattle.grow_lock.specs.Rule.{IsKept}
use Rattle.grow_lock.proofs.Passing.{opens}
use Rattle.grow_lock.proofs.lock.GrowLock.new.Goals as goal

pub new-requires-2 : goal.new-requires-2
new-requires-2 g c = let head = g.T.Grows.head in let list = g.T.Grows.list in let key = c.of-about.result.value in let home = c.in_ok-home.home in
    let is : home.value ≡ key = c.in_ok-home.ensures.ok ∙ sym c.of-about.ensures in
    let long : length (boxed list home) ≡ c.ready-count.result = ap (λ v. length (list v)) (is ∙ c.of-about.ensures) ∙ sym c.ready-count.ensures in
    let slots : Some home ∷ [] ≡ c.push.new.self.items = sym (c.in_ok-push.ensures.items ∙ ap (λ l. l ++ Some home ∷ []) c.new-slots.ensures.items) in
    subst (λ ws. IsKept (boxed head) (boxed list) (head key) (list key) (opening ws c.push.new.self.items (fresh_notes (Some (head key)) (list key) whole))) (ap (λ n. 0 ∷ n ∷ []) long)
    (subst (λ xs. IsKept (boxed head) (boxed list) (head key) (list key) (opening (0 ∷ length (boxed list home) ∷ []) xs (fresh_notes (Some (head key)) (list key) whole))) slots
    (subst (λ v. IsKept (boxed head) (boxed list) (head v) (list v) (opening (0 ∷ length (boxed list home) ∷ []) (Some home ∷ []) (fresh_notes (Some (head v)) (list v) whole))) is (opens (boxed head) (boxed list) (head home.value) (list home.value) home refl refl)))

pub returns-in-Ok-clause-share : goal.returns-in-Ok-clause-share
returns-in-Ok-clause-share g c = search rules
