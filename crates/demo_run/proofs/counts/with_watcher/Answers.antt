use Rattle.demo_run.proofs.Sums.{shown_more}
use Rattle.demo_run.proofs.counts.with_watcher.Goals as goal

pub returns : goal.returns
returns c = λ done n s h. shown_more done n c.args.others _ c.args.watcher.now s h (record {
  marks = c.marks.result;
  orders = c.orders.result;
  tiles = c.tiles.result;
  marks_are = c.marks.ensures.shown;
  orders_are = c.orders.ensures.shown;
  tiles_are = c.tiles.ensures.shown;
  takes_added = c.saturating_add.ensures;
  marks_added = c.saturating_add-2.ensures;
  orders_added = c.saturating_add-3.ensures;
  tiles_added = c.saturating_add-4.ensures;
  bytes_added = c.saturating_add-5.ensures;
})
