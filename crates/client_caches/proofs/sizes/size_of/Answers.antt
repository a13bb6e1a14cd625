use Rattle.std.proofs.Common.{◌∙◌, sym, arith}
use Rattle.caps_sets.specs.Confirmed.{sized}
use Rattle.client_caches.proofs.Stores.{size_by_place}
use Rattle.client_caches.proofs.sizes.size_of.Goals as goal

pub returns-in-Some : goal.returns-in-Some
returns-in-Some c = c.in-Some.ensures.lookup.4 (omega arith) (sized 0 0) ∙ sym (size_by_place c.args.sizes.now c.args.cache)

pub returns-in-None : goal.returns-in-None
returns-in-None c = c.in-None.ensures.lookup.4 (omega arith) (sized 0 0) ∙ sym (size_by_place c.args.sizes.now c.args.cache)
