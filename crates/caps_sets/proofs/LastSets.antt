-- Sets that count one after the other come to what the last ones of each kind say.
use Rattle.std.proofs.Common.{◌≡◌, ℕ, cond, List, [], ◌∷◌, map, refl, ap, ◌∙◌}
use Rattle.std.specs.Prelude.{filter}
use Rattle.px_core.specs.declared.depth.Depth.{Depth}
use Rattle.caps_sets.specs.declared.confirmed.Confirmed.{Confirmed}
use Rattle.caps_sets.specs.declared.sets_so_far.SetsSoFar.{SetsSoFar}
use Rattle.caps_sets.specs.declared.set_kind.SetKind.{SetKind}
use Rattle.caps_sets.specs.declared.set_kind.SetKind.TheVariants.{General, Bitmap, Order, BitmapCache, Pointer, Brush, GlyphCache, Other}
use Rattle.caps_sets.specs.CapabilitySets.{says_cautious, says_no_header, says_fast, says_support, says_zero_bounds, says_marker, says_bitmaps, says_pointers, says_brush_level, says_glyphs, says_glyph_level, with_set, before_sets, confirmed_together}
use Rattle.caps_sets.specs.Grammar.{Set, kind_in, is_same_kind, last_or, last_says, said_by}

-- one set after the other
abbrev pub with_sets : List Set → SetsSoFar → SetsSoFar
with_sets [] c = c
with_sets (set ∷ sets) c = with_sets sets (with_set (kind_in set) set.content c)

-- what the last ones say, in place of what was confirmed before; brushes aside
abbrev confirmed_over : Confirmed → List Set → Confirmed
confirmed_over c sets = record {
  dst = last_says Order (says_support 0) c.dst sets;
  pat = last_says Order (says_support 1) c.pat sets;
  scr = last_says Order (says_support 2) c.scr sets;
  mem = last_says Order (says_support 3) c.mem sets;
  mem3 = last_says Order (says_support 4) c.mem3 sets;
  save = last_says Order (says_support 11) c.save sets;
  glyph = last_says Order (says_support 27) c.glyph sets;
  zero_bounds = last_says Order says_zero_bounds c.zero_bounds sets;
  marker = last_says Order says_marker c.marker sets;
  no_header = last_says General says_no_header c.no_header sets;
  brush = c.brush;
  glyph_level = last_says GlyphCache says_glyph_level c.glyph_level sets;
  bitmaps = last_says BitmapCache says_bitmaps c.bitmaps sets;
  glyphs = last_says GlyphCache says_glyphs c.glyphs sets;
  cautious = last_says General says_cautious c.cautious sets;
  depth = c.depth;
  fast = last_says General says_fast c.fast sets;
  pointers = last_says Pointer says_pointers c.pointers sets;
}

abbrev over : SetsSoFar → List Set → SetsSoFar
over s sets = record { confirmed = confirmed_over s.confirmed sets; brush_level = last_says Brush says_brush_level s.brush_level sets }

-- the same of a first set of this kind, and others
abbrev says_first : {A : Type 0} → SetKind → SetKind → (List ℕ → A) → A → Set → List Set → A
says_first first kind says none set sets =
    last_or none (map (λ s. says s.content) (cond (is_same_kind kind first) (set ∷ filter (λ s. is_same_kind kind (kind_in s)) sets) (filter (λ s. is_same_kind kind (kind_in s)) sets)))

abbrev confirmed_first : SetKind → Confirmed → Set → List Set → Confirmed
confirmed_first first c set sets = record {
  dst = says_first first Order (says_support 0) c.dst set sets;
  pat = says_first first Order (says_support 1) c.pat set sets;
  scr = says_first first Order (says_support 2) c.scr set sets;
  mem = says_first first Order (says_support 3) c.mem set sets;
  mem3 = says_first first Order (says_support 4) c.mem3 set sets;
  save = says_first first Order (says_support 11) c.save set sets;
  glyph = says_first first Order (says_support 27) c.glyph set sets;
  zero_bounds = says_first first Order says_zero_bounds c.zero_bounds set sets;
  marker = says_first first Order says_marker c.marker set sets;
  no_header = says_first first General says_no_header c.no_header set sets;
  brush = c.brush;
  glyph_level = says_first first GlyphCache says_glyph_level c.glyph_level set sets;
  bitmaps = says_first first BitmapCache says_bitmaps c.bitmaps set sets;
  glyphs = says_first first GlyphCache says_glyphs c.glyphs set sets;
  cautious = says_first first General says_cautious c.cautious set sets;
  depth = c.depth;
  fast = says_first first General says_fast c.fast set sets;
  pointers = says_first first Pointer says_pointers c.pointers set sets;
}

abbrev over_first : SetKind → SetsSoFar → Set → List Set → SetsSoFar
over_first first s set sets = record { confirmed = confirmed_first first s.confirmed set sets; brush_level = says_first first Brush says_brush_level s.brush_level set sets }

one_more : (first : SetKind) (s : SetsSoFar) (set : Set) (sets : List Set) → over (with_set first set.content s) sets ≡ over_first first s set sets
one_more General s set sets = refl
one_more Bitmap s set sets = refl
one_more Order s set sets = refl
one_more BitmapCache s set sets = refl
one_more Pointer s set sets = refl
one_more Brush s set sets = refl
one_more GlyphCache s set sets = refl
one_more Other s set sets = refl

all_count : (sets : List Set) (s : SetsSoFar) → with_sets sets s ≡ over s sets
all_count [] s = refl
all_count (set ∷ sets) s = all_count sets (with_set (kind_in set) set.content s) ∙ one_more (kind_in set) s set sets

pub last_ones_count : (depth : Depth) (sets : List Set) → confirmed_together (with_sets sets (before_sets depth)) ≡ said_by depth sets
last_ones_count depth sets = ap confirmed_together (all_count sets (before_sets depth))
