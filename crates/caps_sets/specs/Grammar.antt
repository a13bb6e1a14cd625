-- What a Confirm Active PDU is, apart from reading: which bytes stand there, and what they confirm.
use Rattle.std.specs.Prelude.{◌≡◌, ◌≤◌, ℕ, ◌+◌, Bool, true, false, List, [], ◌∷◌, ◌++◌, length, map, filter, replicate}
use Rattle.wire_num.specs.Grammar.{IsText}
use Rattle.px_core.specs.declared.depth.Depth.{Depth}
use Rattle.caps_sets.specs.declared.confirmed.Confirmed.{Confirmed}
use Rattle.caps_sets.specs.declared.set_kind.SetKind.{SetKind}
use Rattle.caps_sets.specs.declared.set_kind.SetKind.TheVariants.{General, Bitmap, Order, BitmapCache, Pointer, Brush, GlyphCache, Other}
use Rattle.caps_sets.specs.Confirmed.{sized}
use Rattle.caps_sets.specs.CapabilitySets.{kind_of, least_length, says_cautious, says_no_header, says_fast, says_support, says_zero_bounds}
use Rattle.caps_sets.specs.CapabilitySets.{says_marker, says_bitmaps, says_pointers, says_brush_level, takes_brushes, says_glyphs, says_glyph_level}
use Rattle.caps_sets.specs.ConfirmActive.{confirm_lengths, confirm_counts, set_header}

-- a capability set: its type, and its content behind the header
pub record Set : Type 0 where
  pub type : ℕ
  pub content : List ℕ

-- its kind
abbrev pub kind_in : Set → SetKind
kind_in set = kind_of set.type

-- The bytes begin with this set: its type, and its length, which counts header and content and isn't below the least one of its kind; then its content.
-- Others follow.
pub record IsSet (bytes : List ℕ) (set : Set) (after : List ℕ) : Type 0 where
  pub header : IsText set_header bytes (set.type ∷ (4 + length set.content) ∷ []) (set.content ++ after)
  pub least : least_length (kind_in set) ≤ 4 + length set.content

-- the bytes begin with these sets, one after the other, and others follow
abbrev pub AreSets : List ℕ → List Set → List ℕ → Type 0
AreSets bytes [] after = bytes ≡ after
AreSets bytes (set ∷ sets) after = (more : List ℕ) × IsSet bytes set more × AreSets more sets after

-- ---- what sets confirm

-- two kinds are the same
abbrev pub is_same_kind : SetKind → SetKind → Bool
is_same_kind General General = true
is_same_kind Bitmap Bitmap = true
is_same_kind Order Order = true
is_same_kind BitmapCache BitmapCache = true
is_same_kind Pointer Pointer = true
is_same_kind Brush Brush = true
is_same_kind GlyphCache GlyphCache = true
is_same_kind Other Other = true
is_same_kind kind unlike = false

-- the last of these, or what stands before them where there are none
abbrev pub last_or : {A : Type 0} → A → List A → A
last_or none [] = none
last_or none (x ∷ xs) = last_or x xs

-- what the last set of a kind says, by its content, or what holds where there is none
abbrev pub last_says : {A : Type 0} → SetKind → (List ℕ → A) → A → List Set → A
last_says kind says none sets = last_or none (map (λ set. says set.content) (filter (λ set. is_same_kind kind (kind_in set)) sets))

-- each set's last one counts, and a missing one confirms nothing; the depth is the viewer's
abbrev pub said_by : Depth → List Set → Confirmed
said_by depth sets = record {
  dst = last_says Order (says_support 0) false sets;
  pat = last_says Order (says_support 1) false sets;
  scr = last_says Order (says_support 2) false sets;
  mem = last_says Order (says_support 3) false sets;
  mem3 = last_says Order (says_support 4) false sets;
  save = last_says Order (says_support 11) false sets;
  glyph = last_says Order (says_support 27) false sets;
  zero_bounds = last_says Order says_zero_bounds false sets;
  marker = last_says Order says_marker false sets;
  no_header = last_says General says_no_header false sets;
  brush = takes_brushes (last_says General says_cautious false sets) (last_says Brush says_brush_level 0 sets);
  glyph_level = last_says GlyphCache says_glyph_level 0 sets;
  bitmaps = last_says BitmapCache says_bitmaps (replicate 3 (sized 0 0)) sets;
  glyphs = last_says GlyphCache says_glyphs (replicate 10 (sized 0 0)) sets;
  cautious = last_says General says_cautious false sets;
  depth = depth;
  fast = last_says General says_fast false sets;
  pointers = last_says Pointer says_pointers 0 sets;
}

-- the bytes are a Confirm Active PDU: the fields before the sets, and as many sets as these count; any bytes may follow
pub record IsConfirmActive (depth : Depth) (bytes : List ℕ) (confirmed : Confirmed) : Type 0 where
  pub source : ℕ
  pub described : List ℕ
  pub sets : List Set
  pub counted : List ℕ
  pub after : List ℕ
  pub lengths : IsText confirm_lengths bytes (source ∷ []) described
  pub counts : IsText (confirm_counts source) described (length sets ∷ []) counted
  pub each : AreSets counted sets after
  pub says : confirmed ≡ said_by depth sets
