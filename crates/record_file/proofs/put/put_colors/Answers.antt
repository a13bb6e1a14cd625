use Rattle.std.proofs.Common.{drop, suc}
use Rattle.std.specs.Prelude.{flat_map}
use Rattle.std.proofs.lemmas.Result.{err_from_is_err_and}
use Rattle.byteorder.specs.Endian.{big_bytes}
use Rattle.wire_num.proofs.Sent.{sent_part}
use Rattle.record_file.proofs.Pieces.{item_first}
use Rattle.record_file.proofs.put.put_colors.Goals as goal

pub returns-in_err-put_color-clause-memory : goal.returns-in_err-put_color-clause-memory
returns-in_err-put_color-clause-memory c =
    let p = err_from_is_err_and c.from_residual.result c.from_residual.ensures.1 in
    rw p.1 (sent_part _ _ _ _ _ (flat_map (big_bytes 3) (drop (suc c.loop-color.color-index) c.args.colors.now)) _ c.loop-color.invariant c.in_err-put_color.ensures.memory
    (item_first (big_bytes 3) 0 c.loop-color.color-index c.args.colors.now c.loop-color-test.true))
