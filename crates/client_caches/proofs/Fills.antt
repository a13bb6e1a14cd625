-- Fills among the drawings of orders.
use Rattle.std.proofs.Common.{◌≡◌, ◌≤ℤ◌, ℕ, ℤ, pos, negsuc, List, [], ◌∷◌, Bool, true, false, zero, suc, refl, ap, ◌∙◌, subst, Some, None, arith, rules, to_z, of_z, w32, w64}
use Rattle.std.specs.Prelude.{Option, ◌==◌, ⊤, nat_abs}
use Rattle.std.proofs.lemmas.Int.{ints}
use Rattle.px_core.specs.Picture.{nat_of}
use Rattle.std.proofs.lemmas.Bool.Decides.{nat_tests}
use Rattle.px_core.specs.declared.rectangle.Rect.{Rect}
use Rattle.px_core.specs.declared.depth.Depth.{Depth}
use Rattle.order_fields.specs.OrderTable.{OrderName, Row, table, row_of, row_in, chosen_row, FieldList, Values, fits_coordinate, IsBelow}
use Rattle.order_fields.specs.OrderTable.OrderName.{DstBlt, PatBlt, ScrBlt, OpaqueRect, SaveBitmap, MemBlt, Mem3Blt, GlyphIndex}
use Rattle.order_fields.specs.NamedDrawing.{NamedDrawing, drawing_of, drawing_of_values, drawing_in_row, drawing_if, save_if, save_or_restore}
use Rattle.order_fields.specs.NamedDrawing.NamedDrawing.{Dst, Pat, Scr, Opaque, SaveBlock, RestoreBlock, Mem, Mem3, Glyphs}
use Rattle.order_fields.proofs.Rows.{code_of_row}
use Rattle.client_caches.specs.Named.{fill_in, fill_of_drawing, optional_fill}

-- ---- a fill says its drawing

drawing_by : (d : NamedDrawing) (rect : Rect) (color : ℕ) → fill_of_drawing d ≡ Some (rect, color) → d ≡ Opaque rect color
drawing_by (Dst r code) rect color e = absurd (let no : ⊥ = cc in no)
drawing_by (Pat r code entry) rect color e = absurd (let no : ⊥ = cc in no)
drawing_by (Scr r code sx sy) rect color e = absurd (let no : ⊥ = cc in no)
drawing_by (Opaque r c) rect color e = let pair : ◌≡◌ {A = Rect × ℕ} (r, c) (rect, color) = cc in ap (λ (p : Rect × ℕ). Opaque p.0 p.1) pair
drawing_by (SaveBlock position r) rect color e = absurd (let no : ⊥ = cc in no)
drawing_by (RestoreBlock position r) rect color e = absurd (let no : ⊥ = cc in no)
drawing_by (Mem cache index r code sx sy) rect color e = absurd (let no : ⊥ = cc in no)
drawing_by (Mem3 cache index r code sx sy entry) rect color e = absurd (let no : ⊥ = cc in no)
drawing_by (Glyphs cache x y c run) rect color e = absurd (let no : ⊥ = cc in no)

pub drawing_filled : (o : Option NamedDrawing) (rect : Rect) (color : ℕ) → fill_in o ≡ Some (rect, color) → o ≡ Some (Opaque rect color)
drawing_filled None rect color e = absurd (let no : ⊥ = cc in no)
drawing_filled (Some d) rect color e = ap (λ x. Some x) (drawing_by d rect color e)

pub same_fill : (p : Option (Rect × ℕ)) → fill_in (optional_fill p) ≡ p
same_fill None = refl
same_fill (Some p) = refl

-- ---- only OpaqueRect orders are fills

abbrev is_opaque : OrderName → Bool
is_opaque DstBlt = false
is_opaque PatBlt = false
is_opaque ScrBlt = false
is_opaque OpaqueRect = true
is_opaque SaveBitmap = false
is_opaque MemBlt = false
is_opaque Mem3Blt = false
is_opaque GlyphIndex = false

no_fill_if : (test : Bool) (d : NamedDrawing) → fill_of_drawing d ≡ None → fill_in (drawing_if test d) ≡ None
no_fill_if true d e = e
no_fill_if false d e = refl

no_save : (operation position : ℕ) (r : Rect) → fill_in (save_or_restore operation position r) ≡ None
no_save zero position r = refl
no_save (suc zero) position r = refl
no_save (suc (suc n)) position r = refl

no_save_if : (test : Bool) (operation position : ℕ) (r : Rect) → fill_in (save_if test operation position r) ≡ None
no_save_if true operation position r = no_save operation position r
no_save_if false operation position r = refl

no_fill_named : (depth : Depth) (name : OrderName) (vs : List ℤ) (bytes : List ℕ) → is_opaque name ≡ false → fill_in (drawing_of_values depth name vs bytes) ≡ None
no_fill_named depth DstBlt vs bytes e = no_fill_if _ _ refl
no_fill_named depth PatBlt vs bytes e = no_fill_if _ _ refl
no_fill_named depth ScrBlt vs bytes e = no_fill_if _ _ refl
no_fill_named depth OpaqueRect vs bytes e = absurd (let no : ⊥ = cc in no)
no_fill_named depth SaveBitmap vs bytes e = no_save_if _ _ _ _
no_fill_named depth MemBlt vs bytes e = no_fill_if _ _ refl
no_fill_named depth Mem3Blt vs bytes e = no_fill_if _ _ refl
no_fill_named depth GlyphIndex vs bytes e = no_fill_if _ _ refl

abbrev EachNamed : List Row → Type 0
EachNamed [] = ⊤
EachNamed (r ∷ rs) = (is_opaque r.name ≡ (r.code == 10)) × EachNamed rs

chosen_name : (b : Bool) (x : Row) (later : Option Row) (r : Row) → is_opaque x.name ≡ (x.code == 10) → (later ≡ Some r → is_opaque r.name ≡ (r.code == 10)) → chosen_row b x later ≡ Some r → is_opaque r.name ≡ (r.code == 10)
chosen_name true x later r h more e = let same : x ≡ r = cc in subst (λ (y : Row). is_opaque y.name ≡ (y.code == 10)) same h
chosen_name false x later r h more e = more e

row_named : (rows : List Row) (code : ℕ) (r : Row) → EachNamed rows → row_in rows code ≡ Some r → is_opaque r.name ≡ (r.code == 10)
row_named [] code r h e = absurd (let no : ⊥ = cc in no)
row_named (x ∷ rows) code r h e = chosen_name (x.code == code) x (row_in rows code) r h.0 (λ f. row_named rows code r h.1 f) e

table_named : EachNamed table
table_named = (refl, (refl, (refl, (refl, (refl, (refl, (refl, (refl, tt))))))))

no_fill_by : (depth : Depth) (code : ℕ) (found : Option Row) (vs : Values) → row_of code ≡ found → (code ≡ 10 → ⊥) → fill_in (drawing_in_row depth found vs) ≡ None
no_fill_by depth code None vs e other = refl
no_fill_by depth code (Some r) vs e other =
    let is : r.code ≡ code = code_of_row code r e in
    let test : (r.code == 10) ≡ false = grind (arith, nat_tests) in
    no_fill_named depth r.name vs.numbers vs.bytes (row_named table code r table_named e ∙ test)

-- an order of another type is no fill
pub no_fill : (depth : Depth) (o : FieldList) (kind : ℕ) → kind ≡ o.code → (kind ≡ 10 → ⊥) → fill_in (drawing_of depth o) ≡ None
no_fill depth o kind is other = no_fill_by depth o.code (row_of o.code) o.values refl (λ e. other (is ∙ e))

-- ---- the values of a fill

low_coordinate : (z : ℤ) → fits_coordinate z ≡ true → negsuc 32767 ≤ℤ z
low_coordinate z h = grind (arith, ints, nat_tests, h)

high_coordinate : (z : ℤ) → fits_coordinate z ≡ true → z ≤ℤ pos 32767
high_coordinate z h = grind (arith, ints, nat_tests, h)

pub wide_coordinate : (z : ℤ) → fits_coordinate z ≡ true → to_z w64 (of_z w64 z) ≡ z
wide_coordinate z h = let low = low_coordinate z h in let high = high_coordinate z h in search rules

pub short_coordinate : (z : ℤ) → fits_coordinate z ≡ true → to_z w32 (of_z w32 z) ≡ z
short_coordinate z h = let low = low_coordinate z h in let high = high_coordinate z h in search rules

pub wide_byte : (z : ℤ) → IsBelow 256 z → to_z w64 (of_z w64 z) ≡ z
wide_byte (pos n) h = search rules
wide_byte (negsuc n) h = absurd h

pub byte_size : (z : ℤ) → IsBelow 256 z → nat_abs z ≡ nat_of z
byte_size (pos n) h = refl
byte_size (negsuc n) h = absurd h
