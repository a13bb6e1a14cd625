-- The Erect Domain Request (T.125, 7, ErectDomainRequest; MS-RDPBCGR, 2.2.1.5).
use Rattle.std.specs.Prelude.{[], ◌∷◌}
use Rattle.wire_num.specs.FieldValue.{is_any}
use Rattle.wire_num.specs.Layout.{Layout, Rest, Bytes, Counted, OneByte, ◌▸◌}

-- choice; subHeight; subInterval; what follows is dropped, since one client writes two plain numbers of two bytes here
unfoldable pub erect_domain_request : Layout
erect_domain_request =
    Bytes (4 ∷ [])
    ▸ Counted OneByte is_any
    ▸ Counted OneByte is_any
    ▸ Rest
