-- The offset at which a Connect-Initial is refused.
use Rattle.std.proofs.Common.{◌≡◌, ℕ, ◌-◌, List, length, refl, ap, ◌∙◌}
use Rattle.std.specs.Prelude.{Result, Ok, Err}
use Rattle.wire_num.specs.declared.range.Range.{Range}
use Rattle.wire_num.specs.FieldValue.{placed}
use Rattle.wire_num.specs.Field.{Read, map_read}
use Rattle.wire_num.specs.Layout.{fields_at}
use Rattle.tpkt_x224.specs.Grammar.{IsBrokenAt}
use Rattle.tpkt_x224.proofs.Broken.{broken, broken_there, offset_of}
use Rattle.mcs_ber.specs.declared.bad_ber.BadBer.{BadBer}
use Rattle.mcs_ber.specs.ConnectInitial.{connect_initial, user_of, user_data_of}

abbrev fault_at : ℕ → BadBer
fault_at at = record { at = at }

abbrev refusal : ℕ → Result Range BadBer
refusal at = Err (fault_at at)

same_fault : (n at : ℕ) → refusal n ≡ refusal at → n ≡ at
same_fault n at e = let h : fault_at n ≡ fault_at at = cc in ap (λ f. f.at) h

by_fields : (r : Read (List ℕ)) (bytes : List ℕ) (at : ℕ) → fields_at connect_initial bytes ≡ r
    → placed fault_at bytes (map_read (user_of (length bytes)) r) ≡ refusal at
    → IsBrokenAt connect_initial bytes at
by_fields (Ok v) bytes at e f = absurd (let no : ⊥ = cc in no)
by_fields (Err left) bytes at e f = broken connect_initial bytes left at e (same_fault (length bytes - length left) at f)

pub initial_broken : (bytes : List ℕ) (at : ℕ) → user_data_of bytes ≡ Err (record { at = at }) → IsBrokenAt connect_initial bytes at
initial_broken bytes at e = by_fields (fields_at connect_initial bytes) bytes at refl e

pub broken_initial : (bytes : List ℕ) (at : ℕ) → IsBrokenAt connect_initial bytes at → user_data_of bytes ≡ Err (record { at = at })
broken_initial bytes at b =
    ap (λ r. placed fault_at bytes (map_read (user_of (length bytes)) r)) (broken_there connect_initial bytes at b)
    ∙ ap refusal (offset_of connect_initial bytes at b)
