use Rattle.std.proofs.Common.{subst, List, ℕ, refl}
use Rattle.std.specs.Prelude.{OnErr}
use Rattle.std.proofs.lemmas.Result.{err_from_is_err_and}
use Rattle.wire_num.specs.Written.{AppendsFront}
use Rattle.rle_enc.proofs.Bytes.{nothing_put}
use Rattle.bitmap_upd.proofs.tile.write_tile_at.Goals as goal

pub returns-in_err-packed-clause-memory : goal.returns-in_err-packed-clause-memory
returns-in_err-packed-clause-memory c =
    let p = err_from_is_err_and c.from_residual.result c.from_residual.ensures.1 in
    rw p.1 (nothing_put _ _ _ refl)

pub returns-clause-memory : goal.returns-clause-memory
returns-clause-memory c = subst (λ (body : List ℕ). OnErr c.put.result (AppendsFront c.args.out.now.items body c.put.new.out.items)) c.of-body.ensures c.put.ensures.memory
