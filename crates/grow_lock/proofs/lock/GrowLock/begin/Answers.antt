use Rattle.std.proofs.Common.{◌∷◌, rules, ap, sym, ◌∙◌, Some}
use Rattle.atomic_table.specs.Table.{rest}
use Rattle.grow_lock.specs.Boxed.{boxed}
use Rattle.grow_lock.specs.Notes.{base_of}
use Rattle.grow_lock.specs.declared.notes.Stage.TheVariants.{Taken}
use Rattle.grow_lock.proofs.Turning.{reads_length}
use Rattle.grow_lock.proofs.lock.GrowLock.begin.Goals as goal

pub load-requires : goal.load-requires
load-requires g c = let taken = c.requires.taken in (
  search rules,
  search rules,
  reads_length (boxed g.T.Grows.head) (boxed g.T.Grows.list) _ _ _ _ _ (taken.2 ∙ sym (ap (λ s. Taken (base_of s)) taken.2)),
)

pub exchange-requires : goal.exchange-requires
exchange-requires g c = let taken = c.requires.taken in let has = c.load.ensures.2.2 ∙ taken.1 in
    (search rules, (Some taken.0, has ∙ ap (λ l. (0, Some taken.0) ∷ rest l) (sym has)))
