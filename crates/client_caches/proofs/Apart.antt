-- The blocks that share no position with a new one are those that a filter keeps.
use Rattle.std.proofs.Common.{◌≡◌, List, [], ◌∷◌, Bool, true, false, refl, ap}
use Rattle.std.specs.List.{filter}
use Rattle.order_means.specs.ClientState.{Block, are_apart, kept_block, apart_from}

kept_by : (t : Bool) (new b : Block) (bs : List Block) → filter (are_apart new) bs ≡ apart_from new bs → are_apart new b ≡ t → filter (are_apart new) (b ∷ bs) ≡ kept_block t b (apart_from new bs)
kept_by true new b bs e t = rw t (ap (λ xs. b ∷ xs) e)
kept_by false new b bs e t = rw t e

pub filter_is_apart : (new : Block) (bs : List Block) → filter (are_apart new) bs ≡ apart_from new bs
filter_is_apart new [] = refl
filter_is_apart new (b ∷ bs) = kept_by (are_apart new b) new b bs (filter_is_apart new bs) refl
