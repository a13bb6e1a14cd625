use Rattle.std.proofs.Common.{◌∙◌, ap, false, get_or}
use Rattle.std.proofs.lemmas.List.{get_or-replicate}
use Rattle.capture_show.proofs.joined.Joined.new.Goals as goal

pub returns : goal.returns
returns c = λ u less. ap (λ flags. get_or flags u false) (c.in_ok-vec.ensures.items_if_clones_equal (λ y h. h)) ∙ get_or-replicate 65536 u false false less
