use Rattle.headline.proofs.Packed.{at_a_miss, at_a_hit, index_is, remembered}
use Rattle.headline.proofs.ScriptRuns.{orders_of_run, named_indices}
use Rattle.headline.proofs.orders.cache_orders_stand_at_misses.Goals as goal

pub returns : goal.returns
returns k = record {
  miss = at_a_miss;
  hit = at_a_hit;
  index = index_is;
  remembered = remembered;
  run = λ c uses cache glyphs. orders_of_run c cache glyphs uses;
  named = named_indices;
}
