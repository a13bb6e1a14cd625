-- The MCS Connect-Initial (T.125, 7, Connect-Initial; MS-RDPBCGR, 2.2.1.3).
use Rattle.std.specs.Prelude.{ℕ, ◌-◌, List, [], ◌∷◌, length, slice_index, Result}
use Rattle.wire_num.specs.declared.range.Range.{Range}
use Rattle.wire_num.specs.FieldValue.{placed, is_any}
use Rattle.wire_num.specs.Field.{map_read}
use Rattle.wire_num.specs.Layout.{Layout, End, Bytes, Any, Content, Counted, Within, Basic, ◌▸◌, fields_at}
use Rattle.mcs_ber.specs.declared.bad_ber.BadBer.{BadBer}
use Rattle.mcs_ber.specs.DomainParameters.{domain_parameters}

-- a tag; an octet string of any bytes
abbrev pub domain_selector : Layout → Layout
domain_selector next =
    Bytes (4 ∷ [])
    ▸ Counted Basic is_any
    ▸ next

-- tag; userData, to the end
unfoldable pub user_data : Layout
user_data =
    Bytes (4 ∷ [])
    ▸ Content Basic

-- targetParameters; minimumParameters; maximumParameters
unfoldable pub three_parameters : Layout
three_parameters =
    domain_parameters
    ▸ domain_parameters
    ▸ domain_parameters
    ▸ user_data

-- upwardFlag
unfoldable pub upward_flag : Layout
upward_flag =
    Bytes (1 ∷ 1 ∷ [])
    ▸ Any 1
    ▸ three_parameters

-- callingDomainSelector; calledDomainSelector
unfoldable pub initial_fields : Layout
initial_fields =
    domain_selector
    ▸ domain_selector
    ▸ upward_flag

-- tag; these fields
unfoldable pub connect_initial : Layout
connect_initial =
    Bytes (127 ∷ 101 ∷ [])
    ▸ Within Basic initial_fields
    ▸ End

-- the user data are the last bytes of a text of that size
abbrev pub user_of : ℕ → List ℕ → Range
user_of size values = record { from = size - slice_index values 0; to = size }

-- where the user data of a text stand
abbrev pub user_data_of : List ℕ → Result Range BadBer
user_data_of bs =
    placed (λ at. record { at = at }) bs (map_read (user_of (length bs)) (fields_at connect_initial bs))
