use Rattle.std.proofs.Common.{◌∙◌, ◌++◌, ℕ, List, [], ◌∷◌, map, take, get_or, ap, sym}
use Rattle.std.proofs.lemmas.List.{map_more}
use Rattle.session_core.specs.SessionModel.{SessionModel}
use Rattle.frame_plan.specs.Takes.{tile_taken}
use Rattle.frame_plan.specs.TileParts.{picture_by}
use Rattle.frame_plan.proofs.tiles.lend_tiles.Goals as goal

pub loop-tile-preserved : goal.loop-tile-preserved
loop-tile-preserved c =
    let s = c.args.session.now in
    let due = c.args.due.now in
    let i = c.loop-tile.tile-index in
    let same = c.loop-tile.invariant.same in
    record {
      same = c.lend_tile.ensures.unchanged ∙ same;
      lent = c.in_ok-push.ensures.items ∙ ap (λ (xs : List (ℕ × List ℕ)). xs ++ c.in_ok-lend_tile.field-0 ∷ []) c.loop-tile.invariant.lent
          ∙ ap (λ (x : ℕ × List ℕ). map (tile_taken s.head.size (picture_by s)) (take i due) ++ x ∷ []) (c.in_ok-lend_tile.ensures.lent ∙ ap (λ (v : SessionModel). tile_taken v.head.size (picture_by v) (get_or due i 0)) same)
          ∙ sym (map_more (tile_taken s.head.size (picture_by s)) due i 0 c.loop-tile-test.true);
    }
