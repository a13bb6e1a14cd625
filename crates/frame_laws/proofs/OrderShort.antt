-- An order of a drawing has some bytes, and few.
use Rattle.std.proofs.Common.{ℕ, suc, ◌+◌, ◌≤◌, List, [], ◌∷◌, ◌++◌, length, arith, Some, None, Bool, true, false, length-append}
use Rattle.std.specs.Prelude.{ℤ, Option}
use Rattle.std.proofs.lemmas.Bool.Decides.{nat_tests}
use Rattle.px_core.specs.declared.rectangle.Rect.{Rect}
use Rattle.px_core.specs.declared.depth.Depth.{Depth}
use Rattle.order_fields.specs.declared.kind.FieldKind.{FieldKind}
use Rattle.order_fields.specs.declared.kind.FieldKind.TheVariants.{Coordinate, Number, Signed, Color}
use Rattle.byteorder.specs.Endian.{little_bytes}
use Rattle.wire_num.proofs.Numbers.{length-little}
use Rattle.order_fields.specs.OrderTable.{Row, Edges, Registers, Values, last_values, dst_blt, pat_blt, scr_blt, opaque_rect, save_bitmap, mem_blt, mem3_blt, glyph_index}
use Rattle.order_fields.specs.OrderDelta.{Field, fields_of, is_unchanged, value_bytes, unless_same, field_bytes, present_bytes, shown, change, edge_bytes, later_edges, far_edges, bounds_bytes, keeps_bounds, type_bytes, row_bytes, order_bytes, flags_of, fields_in, keeps_bytes_in, takes_deltas, is_typed}
use Rattle.order_fields.specs.declared.change.Change.{Change}
use Rattle.order_fields.specs.declared.change.Change.TheVariants.{Same, Moved, Anew}
use Rattle.order_fields.specs.NamedDrawing as named
use Rattle.order_fields.specs.NamedDrawing.{NamedDrawing}
use Rattle.order_fields.specs.NamedDrawing.NamedDrawing.{Dst, Pat, Scr, Opaque, SaveBlock, RestoreBlock, Mem, Mem3, Glyphs}

-- the most bytes of a field
abbrev width : FieldKind → ℕ
width Coordinate = 2
width (Number n) = n
width Signed = 2
width Color = 3

abbrev widths : List FieldKind → ℕ
widths [] = 0
widths (k ∷ ks) = width k + widths ks

value_short : (k : FieldKind) (delta : Bool) (last z : ℤ) → length (value_bytes k delta last z) ≤ width k
value_short Coordinate true last z = omega arith
value_short Coordinate false last z = omega arith
value_short (Number n) delta last z = omega (arith, length-little n)
value_short Signed delta last z = omega arith
value_short Color delta last z = omega arith

unless_short : (b : Bool) (bytes : List ℕ) (n : ℕ) → length bytes ≤ n → length (unless_same b bytes) ≤ n
unless_short true bytes n h = omega arith
unless_short false bytes n h = h

present_short : (ks : List FieldKind) (ls zs : List ℤ) (delta keeps : Bool) (bytes : List ℕ)
    → length (present_bytes (fields_of ks ls zs) delta keeps bytes) ≤ widths ks + suc (length bytes)
present_short [] ls zs delta keeps bytes = let c = unless_short keeps (length bytes ∷ bytes) (suc (length bytes)) (omega arith) in omega (arith, c)
present_short (k ∷ ks) [] zs delta keeps bytes = let c = unless_short keeps (length bytes ∷ bytes) (suc (length bytes)) (omega arith) in omega (arith, c)
present_short (k ∷ ks) (l ∷ ls) [] delta keeps bytes = let c = unless_short keeps (length bytes ∷ bytes) (suc (length bytes)) (omega arith) in omega (arith, c)
present_short (k ∷ ks) (l ∷ ls) (z ∷ zs) delta keeps bytes =
    let f : Field = record { kind = k; last = l; value = z } in
    let head = unless_short (is_unchanged f) (value_bytes k delta l z) (width k) (value_short k delta l z) in
    omega (arith, head, present_short ks ls zs delta keeps bytes, length-append (field_bytes delta f) (present_bytes (fields_of ks ls zs) delta keeps bytes))

shown_short : (n : ℕ) → shown n ≤ 3
shown_short n = grind (arith, nat_tests)

type_short : (b : Bool) (code : ℕ) → length (type_bytes b code) ≤ 1
type_short true code = omega arith
type_short false code = omega arith

edge_short : (c : Change) (l z : ℤ) → length (edge_bytes c l z) ≤ 2
edge_short Same l z = omega arith
edge_short Moved l z = omega arith
edge_short Anew l z = omega arith

bounds_short : (keeps : Bool) (old : Edges) (new : Option Edges) → length (bounds_bytes keeps old new) ≤ 9
bounds_short keeps old None = omega arith
bounds_short true old (Some new) = omega arith
bounds_short false old (Some new) =
    let l = edge_bytes (change old.left new.left) old.left new.left in
    let t = edge_bytes (change old.top new.top) old.top new.top in
    let r = edge_bytes (change old.right new.right) old.right new.right in
    let b = edge_bytes (change old.bottom new.bottom) old.bottom new.bottom in
    omega (
      arith,
      length-append l (later_edges old new),
      length-append t (far_edges old new),
      length-append r b,
      edge_short (change old.left new.left) old.left new.left,
      edge_short (change old.top new.top) old.top new.top,
      edge_short (change old.right new.right) old.right new.right,
      edge_short (change old.bottom new.bottom) old.bottom new.bottom,
    )

row_short : (r : Row) (regs : Registers) (z : Bool) (vs : Values) (bounds : Option Edges)
    → length (row_bytes r regs z vs bounds) ≤ 15 + (widths r.kinds + length vs.bytes)
row_short r regs z vs bounds =
    let fs = fields_in r regs vs in
    let keeps = keeps_bytes_in r regs vs in
    let flags = flags_of fs keeps in
    let a = type_bytes (is_typed r regs) r.code in
    let b = little_bytes (shown flags) flags in
    let e = bounds_bytes (keeps_bounds z regs.bounds bounds) regs.bounds bounds in
    let c = present_bytes fs (takes_deltas fs) keeps vs.bytes in
    omega (
      arith,
      length-append a (b ++ (e ++ c)),
      length-append b (e ++ c),
      length-append e c,
      type_short (is_typed r regs) r.code,
      length-little (shown flags) flags,
      shown_short flags,
      bounds_short (keeps_bounds z regs.bounds bounds) regs.bounds bounds,
      present_short r.kinds (last_values regs r.code).numbers vs.numbers (takes_deltas fs) keeps vs.bytes,
    )

-- by the drawing: its bytes, beside those of a run, are at most so many
pub drawing_short : (depth : Depth) (regs : Registers) (z : Bool) (area : Rect) (d : NamedDrawing) (bounds : Option Edges)
    → length (order_bytes regs z (named.drawing_fields depth area d) bounds) ≤ 90 + length (named.drawing_fields depth area d).values.bytes
drawing_short depth regs z area (Dst r code) bounds = let s = row_short dst_blt regs z (named.drawing_fields depth area (Dst r code)).values bounds in omega (arith, s)
drawing_short depth regs z area (Pat r code entry) bounds =
    let s = row_short pat_blt regs z (named.drawing_fields depth area (Pat r code entry)).values bounds in omega (arith, s)
drawing_short depth regs z area (Scr r code sx sy) bounds =
    let s = row_short scr_blt regs z (named.drawing_fields depth area (Scr r code sx sy)).values bounds in omega (arith, s)
drawing_short depth regs z area (Opaque r color) bounds = let s = row_short opaque_rect regs z (named.drawing_fields depth area (Opaque r color)).values bounds in omega
    (arith, s)
drawing_short depth regs z area (SaveBlock position r) bounds =
    let s = row_short save_bitmap regs z (named.drawing_fields depth area (SaveBlock position r)).values bounds in omega (arith, s)
drawing_short depth regs z area (RestoreBlock position r) bounds =
    let s = row_short save_bitmap regs z (named.drawing_fields depth area (RestoreBlock position r)).values bounds in omega (arith, s)
drawing_short depth regs z area (Mem cache index r code sx sy) bounds =
    let s = row_short mem_blt regs z (named.drawing_fields depth area (Mem cache index r code sx sy)).values bounds in omega (arith, s)
drawing_short depth regs z area (Mem3 cache index r code sx sy entry) bounds =
    let s = row_short mem3_blt regs z (named.drawing_fields depth area (Mem3 cache index r code sx sy entry)).values bounds in omega (arith, s)
drawing_short depth regs z area (Glyphs cache x y color run) bounds =
    let s = row_short glyph_index regs z (named.drawing_fields depth area (Glyphs cache x y color run)).values bounds in omega (arith, s)

pub drawing_some : (depth : Depth) (regs : Registers) (z : Bool) (area : Rect) (d : NamedDrawing) (bounds : Option Edges)
    → 1 ≤ length (order_bytes regs z (named.drawing_fields depth area d) bounds)
drawing_some depth regs z area (Dst r code) bounds = omega arith
drawing_some depth regs z area (Pat r code entry) bounds = omega arith
drawing_some depth regs z area (Scr r code sx sy) bounds = omega arith
drawing_some depth regs z area (Opaque r color) bounds = omega arith
drawing_some depth regs z area (SaveBlock position r) bounds = omega arith
drawing_some depth regs z area (RestoreBlock position r) bounds = omega arith
drawing_some depth regs z area (Mem cache index r code sx sy) bounds = omega arith
drawing_some depth regs z area (Mem3 cache index r code sx sy entry) bounds = omega arith
drawing_some depth regs z area (Glyphs cache x y color run) bounds = omega arith
