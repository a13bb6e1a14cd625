-- A stored name is found again from its bytes.
use Rattle.std.specs.Prelude.{◌≡◌, List, ℕ, length, take}
use Rattle.std.proofs.Common.{sym}
use Rattle.info_lic.specs.Stored.{IsStored, filled_up}
use Rattle.info_lic.specs.declared.name.Name.TheInside.{Inside}

abbrev pub stored_again : List ℕ → Inside
stored_again bytes = record { stored = filled_up bytes; count = length bytes }

pub inverse-view : (n : Inside) → IsStored n.stored n.count → stored_again (take n.count n.stored) ≡ n
inverse-view n h = λ i. record { stored = (sym h.filled) i; count = h.count_is i }
