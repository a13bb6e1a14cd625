use Rattle.std.proofs.Common.{ap, ◌∙◌, drop}
use Rattle.std.proofs.lemmas.Result.{err_from_is_err_and}
use Rattle.wire_num.specs.Cursor.{rest}
use Rattle.share_pdu.proofs.Areas.{no_number, areas_missing, areas_found}
use Rattle.share_pdu.proofs.refresh.find_areas.Goals as goal

pub returns-in_err-count : goal.returns-in_err-count
returns-in_err-count c =
    let p = err_from_is_err_and c.from_residual.result c.from_residual.ensures.1 in
    rw p.1 (no_number _ _ c.in_err-count.ensures.0, c.in_err-count.ensures.1, ap (λ s. s.at) p.2 ∙ c.in_err-count.ensures.2)

pub returns-in_err-skip_areas : goal.returns-in_err-skip_areas
returns-in_err-skip_areas c =
    let p = err_from_is_err_and c.from_residual-in_err-skip_areas.result c.from_residual-in_err-skip_areas.ensures.1 in
    rw p.1 (areas_missing _ _ _ _ c.in_ok-count.ensures.0 c.in_err-skip_areas.ensures.0, c.in_err-skip_areas.ensures.1 ∙ c.in_ok-count.ensures.1, ap (λ s. s.at) p.2 ∙ c.in_err-skip_areas.ensures.2)

pub returns : goal.returns
returns c =
    let here = ap rest c.go_to.ensures in
    let found = areas_found _ _ _ _ c.in_ok-count.ensures.0 c.in_ok-skip_areas.ensures.0 in
    let same = ap (λ k. drop k c.skip_areas.new.cursor.bytes) c.at-first.ensures.place ∙ ap (λ bs. drop c.read_count.new.cursor.at bs) c.in_ok-skip_areas.ensures.1 in
    rw (here, same) (found.0, found.1, ap (λ r. r.bytes) c.go_to.ensures ∙ c.in_ok-skip_areas.ensures.1 ∙ c.in_ok-count.ensures.1)
