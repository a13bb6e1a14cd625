use Rattle.std.proofs.Common.{◌≡◌, ◌∙◌, ◌+◌, ap, sym, subst, arith}
use Rattle.std.proofs.lemmas.Option.{slice_get_within}
use Rattle.demo_run.specs.Counts.{kept}
use Rattle.demo_run.specs.Asks.{IsViewer}
use Rattle.demo_run.proofs.Scenes.{joins_are_by_present, joins_confirm_caches, joins_seat_all, joins_give_control, joins_are_let_in, none_kept}
use Rattle.demo_run.proofs.Beginning.{first_watches}
use Rattle.demo_run.proofs.demo.Demo.new.Goals as goal

pub returns : goal.returns
returns c =
    let new = c.in_ok-watchers.ensures in
    let first : IsViewer 1 = (omega arith, omega arith) in
    record {
      head = c.in_ok-seated.ensures.head;
      run = c.in_ok-seated.ensures.run;
      present = joins_are_by_present;
      caches = joins_confirm_caches;
      seated = joins_seat_all;
      holder = subst IsViewer (sym joins_give_control) first;
      number = new.number;
      watchers = λ i w h.
          let low = slice_get_within c.in_ok-watchers.field-0.items i w h in
          let count = new.number in
          let viewer : IsViewer (i + 1) = (omega arith, omega (arith, low, count)) in
          first_watches (i + 1) w viewer (new.each i w h);
      refused = none_kept ∙ ap kept (sym joins_are_let_in);
    }
