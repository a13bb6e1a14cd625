use Rattle.std.proofs.Common.{[], length, ◌-◌, refl, sym}
use Rattle.std.proofs.lemmas.Result.{err_from_is_err_and}
use Rattle.px_core.specs.declared.depth.Depth.TheVariants.{Bits24}
use Rattle.px_core.specs.Pixels.{pixel_bytes}
use Rattle.wire_num.proofs.Sent.{sent_piece, sent_part, sent_whole, sent_cut}
use Rattle.rle_enc.proofs.Counting.{flat_map_four}
use Rattle.rle_enc.proofs.data.put_fours.Goals as goal

pub loop-rest-preserved : goal.loop-rest-preserved
loop-rest-preserved c =
    sent_piece _ _ _ _ _ _ _ c.loop-rest.invariant c.in_ok-put_four.ensures.ok
    (sym (flat_map_four (pixel_bytes Bits24) [] _ c.loop-rest.rest.now (length c.loop-rest.rest.now - 4) c.in-len4-up.len_at_least refl refl))

pub returns-in_err-put_four-clause-memory : goal.returns-in_err-put_four-clause-memory
returns-in_err-put_four-clause-memory c =
    let p = err_from_is_err_and c.from_residual.result c.from_residual.ensures.1 in
    rw p.1 (sent_part _ _ _ _ _ _ _ c.loop-rest.invariant c.in_err-put_four.ensures.memory
    (sym (flat_map_four (pixel_bytes Bits24) [] _ c.loop-rest.rest.now (length c.loop-rest.rest.now - 4) c.in-len4-up.len_at_least refl refl)))

pub returns-clause-ok : goal.returns-clause-ok
returns-clause-ok c = sent_whole c.put_each.result _ _ _ _ _ c.loop-rest.invariant c.put_each.ensures.ok

pub returns-clause-memory : goal.returns-clause-memory
returns-clause-memory c = sent_cut c.put_each.result _ _ _ _ _ c.loop-rest.invariant c.put_each.ensures.memory
