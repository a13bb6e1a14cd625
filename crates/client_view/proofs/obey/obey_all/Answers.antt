use Rattle.std.proofs.Common.{◌∙◌, sym}
use Rattle.std.proofs.lemmas.Result.{err_from_is_err_and}
use Rattle.std.proofs.lemmas.List.{take-map, map_more}
use Rattle.order_read.specs.Told.{told_read, told_reads}
use Rattle.client_view.proofs.Obeyed.{told_left, one_less, one_stopped}
use Rattle.client_view.proofs.obey.obey_all.Goals as goal

pub returns-in_err-obey-clause-stopped : goal.returns-in_err-obey-clause-stopped
returns-in_err-obey-clause-stopped c = λ v s.
    let m = c.args.viewer.now in
    let i = c.loop-read.read-index in
    let p = err_from_is_err_and c.from_residual.result c.from_residual.ensures.1 in
    rw p.1 (one_stopped m.confirmed m.pictures.size v _ i (told_reads c.args.body.now c.args.reads.now) _ _ c.loop-read.viewer c.obey.new.viewer (c.loop-read.invariant.left v s) (take-map (told_read c.args.body.now) i c.args.reads.now)
    c.in_err-obey.ensures.same c.in_err-obey.ensures.kept)

pub loop-read-preserved : goal.loop-read-preserved
loop-read-preserved c =
    let m = c.args.viewer.now in
    let body = c.args.body.now in
    let reads = c.args.reads.now in
    let i = c.loop-read.read-index in
    let read = c.read-item.result in
    let is = sym c.read-item.is in
    let same = c.loop-read.invariant.same in
    record {
      left = λ v s.
          let l = c.loop-read.invariant.left v s in
          let obeyed = rw (same.confirmed, same.size) at (c.in_ok-obey.ensures.obeyed l.view l.stands) in
          one_less m.confirmed m.pictures.size v _ (told_read body read) _ _ _ _ _ _ l (rw is at (told_left body reads i read c.loop-read-test.true)) (rw is at (map_more (told_read body) reads i read c.loop-read-test.true)) obeyed;
      same = record { confirmed = c.in_ok-obey.ensures.same.confirmed ∙ same.confirmed; size = c.in_ok-obey.ensures.same.size ∙ same.size };
    }
