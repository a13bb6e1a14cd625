-- A name's bytes written over zeros are stored.
use Rattle.std.proofs.Common.{◌≡◌, ℕ, List, ◌++◌, length, take, drop, replicate, sym, ap, ◌∙◌, subst}
use Rattle.std.proofs.lemmas.List.{drop-replicate}
use Rattle.std.proofs.Math.Seq.{take-append_seam}
use Rattle.info_lic.specs.Name.{IsName}
use Rattle.info_lic.specs.Stored.{IsStored, filled_up}

pub IsStored-written : (bytes : List ℕ) → IsName bytes → IsStored (bytes ++ drop (length bytes) (replicate 64 0)) (length bytes)
IsStored-written bytes h =
    let zeros : List ℕ = drop (length bytes) (replicate 64 0) in
    let front : take (length bytes) (bytes ++ zeros) ≡ bytes = take-append_seam bytes zeros in
    record {
      name = subst IsName (sym front) h;
      count_is = ap length front;
      filled = ap (λ z. bytes ++ z) (drop-replicate (length bytes) 64 0) ∙ sym (ap filled_up front);
    }
