-- What capability sets confirm has its caches.
use Rattle.std.proofs.Common.{◌≡◌, ℕ, zero, suc, ◌+◌, Bool, true, false, cond, List, length, refl, ap}
use Rattle.std.specs.Prelude.{nat_le, ◌&&◌, slice_index, Result, Ok, Err}
use Rattle.wire_num.specs.Field.{Read, then_read, map_read}
use Rattle.wire_num.specs.Layout.{fields_at}
use Rattle.px_core.specs.declared.depth.Depth.{Depth}
use Rattle.caps_sets.specs.declared.confirmed.Confirmed.{Confirmed}
use Rattle.caps_sets.specs.declared.sets_so_far.SetsSoFar.{SetsSoFar}
use Rattle.caps_sets.specs.declared.set_kind.SetKind.{SetKind}
use Rattle.caps_sets.specs.declared.set_kind.SetKind.TheVariants.{General, Bitmap, Order, BitmapCache, Pointer, Brush, GlyphCache, Other}
use Rattle.caps_sets.specs.declared.caps_fault.CapsFault.{CapsFault}
use Rattle.caps_sets.specs.declared.caps_fault.CapsFault.TheVariants.{BadCaps}
use Rattle.caps_sets.specs.CapabilitySets.{kind_of, least_length, caches_in, says_bitmaps, says_glyphs, with_set, before_sets, confirmed_together}
use Rattle.caps_sets.specs.ConfirmActive.{confirm_lengths, confirm_counts, set_header, with_content_of, set_at, sets_at, confirm_at, confirmed_of}
use Rattle.wire_num.specs.FieldValue.{placed}
use Rattle.conn_rules.specs.Sound.{HasItsCaches}

so_many : (n offset : ℕ) (content : List ℕ) → length (caches_in n offset content) ≡ n
so_many zero offset content = refl
so_many (suc n) offset content = ap suc (so_many n (offset + 4) content)

three : (content : List ℕ) → length (says_bitmaps content) ≡ 3
unfolding says_bitmaps
three content = so_many 3 28 content

ten : (content : List ℕ) → length (says_glyphs content) ≡ 10
unfolding says_glyphs
ten content = so_many 10 4 content

-- the sets so far confirm them
abbrev SoFar : SetsSoFar → Type 0
SoFar s = HasItsCaches s.confirmed

none_caches : (depth : Depth) → SoFar (before_sets depth)
none_caches depth = record { bitmaps = refl; glyphs = refl }

set_caches : (kind : SetKind) (content : List ℕ) (s : SetsSoFar) → SoFar s → SoFar (with_set kind content s)
set_caches General content s h = record { bitmaps = h.bitmaps; glyphs = h.glyphs }
set_caches Bitmap content s h = h
set_caches Order content s h = record { bitmaps = h.bitmaps; glyphs = h.glyphs }
set_caches BitmapCache content s h = record { bitmaps = three content; glyphs = h.glyphs }
set_caches Pointer content s h = record { bitmaps = h.bitmaps; glyphs = h.glyphs }
set_caches Brush content s h = h
set_caches GlyphCache content s h = record { bitmaps = h.bitmaps; glyphs = ten content }
set_caches Other content s h = h

together_caches : (s : SetsSoFar) → SoFar s → HasItsCaches (confirmed_together s)
together_caches s h = record { bitmaps = h.bitmaps; glyphs = h.glyphs }

-- ---- what was read

abbrev ReadsSoFar : Read SetsSoFar → Type 0
ReadsSoFar (Ok v) = SoFar v.0
ReadsSoFar (Err left) = Unit {0}

mapped : (kind : SetKind) (s : SetsSoFar) (r : Read (List ℕ)) → SoFar s → ReadsSoFar (map_read (λ content. with_set kind content s) r)
mapped kind s (Ok v) h = set_caches kind v.0 s h
mapped kind s (Err left) h = tt

content_by : (b : Bool) (kind : SetKind) (s : SetsSoFar) (bs : List ℕ) (r : Read (List ℕ)) → SoFar s
    → ReadsSoFar (cond b (map_read (λ content. with_set kind content s) r) (Err bs))
content_by true kind s bs r h = mapped kind s r h
content_by false kind s bs r h = tt

content_caches : (n : ℕ) (kind : SetKind) (s : SetsSoFar) (bs more : List ℕ) → SoFar s → ReadsSoFar (with_content_of n kind s bs more)
unfolding with_content_of
content_caches n kind s bs more h = content_by (nat_le (least_length kind) n && nat_le n (4 + length more)) kind s bs _ h

header_caches : (s : SetsSoFar) (bs : List ℕ) (r : Read (List ℕ)) → SoFar s
    → ReadsSoFar (then_read r (λ header more. with_content_of (slice_index header 1) (kind_of (slice_index header 0)) s bs more))
header_caches s bs (Ok v) h = content_caches (slice_index v.0 1) (kind_of (slice_index v.0 0)) s bs v.1 h
header_caches s bs (Err left) h = tt

one_caches : (s : SetsSoFar) (bs : List ℕ) → SoFar s → ReadsSoFar (set_at s bs)
unfolding set_at
one_caches s bs h = header_caches s bs (fields_at set_header bs) h

further : (r : Read SetsSoFar) (f : SetsSoFar → List ℕ → Read SetsSoFar) → ReadsSoFar r → ((s : SetsSoFar) (bs : List ℕ) → SoFar s → ReadsSoFar (f s bs))
    → ReadsSoFar (then_read r f)
further (Ok v) f h each = each v.0 v.1 h
further (Err left) f h each = tt

sets_caches : (n : ℕ) (s : SetsSoFar) (bs : List ℕ) → SoFar s → ReadsSoFar (sets_at n s bs)
sets_caches zero s bs h = h
sets_caches (suc n) s bs h = further (set_at s bs) (λ more after. sets_at n more after) (one_caches s bs h) (sets_caches n)

abbrev ReadsCaches : Read Confirmed → Type 0
ReadsCaches (Ok v) = HasItsCaches v.0
ReadsCaches (Err left) = Unit {0}

all_caches : (r : Read SetsSoFar) → ReadsSoFar r → ReadsCaches (map_read confirmed_together r)
all_caches (Ok v) h = together_caches v.0 h
all_caches (Err left) h = tt

abbrev sets_of : Depth → List ℕ → List ℕ → Read Confirmed
sets_of depth counts sets = map_read confirmed_together (sets_at (slice_index counts 0) (before_sets depth) sets)

counts_caches : (depth : Depth) (r : Read (List ℕ)) → ReadsCaches (then_read r (sets_of depth))
counts_caches depth (Ok v) = all_caches (sets_at (slice_index v.0 0) (before_sets depth) v.1) (sets_caches (slice_index v.0 0) (before_sets depth) v.1 (none_caches depth))
counts_caches depth (Err left) = tt

lengths_caches : (depth : Depth) (r : Read (List ℕ)) → ReadsCaches (then_read r (λ lengths more. then_read (fields_at (confirm_counts (slice_index lengths 0)) more) (sets_of depth)))
lengths_caches depth (Ok v) = counts_caches depth (fields_at (confirm_counts (slice_index v.0 0)) v.1)
lengths_caches depth (Err left) = tt

confirm_caches : (depth : Depth) (bs : List ℕ) → ReadsCaches (confirm_at depth bs)
unfolding confirm_at
confirm_caches depth bs = lengths_caches depth (fields_at confirm_lengths bs)

abbrev pub GivesCaches : Result Confirmed CapsFault → Type 0
GivesCaches (Ok c) = HasItsCaches c
GivesCaches (Err fault) = Unit {0}

placed_caches : (fault : ℕ → CapsFault) (bs : List ℕ) (r : Read Confirmed) → ReadsCaches r → GivesCaches (placed fault bs r)
placed_caches fault bs (Ok v) h = h
placed_caches fault bs (Err left) h = tt

pub confirmed_caches : (depth : Depth) (bs : List ℕ) → GivesCaches (confirmed_of depth bs)
confirmed_caches depth bs = placed_caches BadCaps bs (confirm_at depth bs) (confirm_caches depth bs)
