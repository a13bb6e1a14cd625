-- The style of a cached brush among the fields of an order ([MS-RDPEGDI] 2.2.2.2.1.1.2.3 and 2.2.2.2.1.1.2.10).
use Rattle.std.specs.Prelude.{ℕ, ◌==◌, pos, set, Option, Some, None, if◌then◌else◌}
use Rattle.px_core.specs.declared.depth.Depth.{Depth}
use Rattle.px_core.specs.Depth.{brush_style}
use Rattle.order_fields.specs.OrderTable.{FieldList, field_list}

-- the place of BrushStyle among the fields of PatBlt, type 1, and of Mem3Blt, type 14
abbrev pub style_place : ℕ → Option ℕ
style_place code = if code == 1 then Some 9 else (if code == 14 then Some 12 else None)

abbrev pub styled_at : Depth → Option ℕ → FieldList → FieldList
styled_at d None o = o
styled_at d (Some place) o = field_list o.code (set o.values.numbers place (pos (brush_style d))) o.values.bytes

-- the fields of an order with the style of a depth's brushes, where it has one
abbrev pub styled : Depth → FieldList → FieldList
styled d o = styled_at d (style_place o.code) o
