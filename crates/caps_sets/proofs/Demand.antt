-- A Demand Active PDU is written in three parts; the sample's, byte by byte.
use Rattle.std.proofs.Common.{◌≡◌, ℕ, ◌+◌, Bool, true, false, List, [], ◌∷◌, ◌++◌, length, replicate, refl, ap, sym, ◌∙◌, arith, append_assoc, append-nil, length-append}
use Rattle.std.specs.Prelude.{slice_set}
use Rattle.wire_num.specs.Written.{AppendsFront}
use Rattle.wire_num.proofs.Fronts.{front_before, front_after}
use Rattle.px_core.specs.declared.depth.Depth.{Depth}
use Rattle.px_core.specs.declared.depth.Depth.TheVariants.{Bits24, Bits16}
use Rattle.px_core.specs.declared.surface.Size.{Size}
use Rattle.caps_sets.specs.DemandActive.{bitmap_set, before_bitmap, after_bitmap, demand_active}

-- where nothing was written, nothing of it stands there
pub nothing_put : (old more new : List ℕ) → new ≡ old → AppendsFront old more new
nothing_put old more new e = record { sent = []; rest = more; whole = refl; written = e ∙ sym (append-nil old) }

pub first_cut : (size : Size) (depth : Depth) (resizes : Bool) (old new : List ℕ) → AppendsFront old before_bitmap new → AppendsFront old (demand_active size depth resizes) new
unfolding demand_active
first_cut size depth resizes old new f = front_before old before_bitmap (bitmap_set size depth resizes ++ after_bitmap) new f

pub second_cut : (size : Size) (depth : Depth) (resizes : Bool) (old one new : List ℕ) → one ≡ old ++ before_bitmap → AppendsFront one (bitmap_set size depth resizes) new → AppendsFront old (demand_active size depth resizes) new
unfolding demand_active
second_cut size depth resizes old one new e f =
    front_after old before_bitmap (bitmap_set size depth resizes ++ after_bitmap) one new e (front_before one (bitmap_set size depth resizes) after_bitmap new f)

pub third_cut : (size : Size) (depth : Depth) (resizes : Bool) (old one two new : List ℕ) → one ≡ old ++ before_bitmap → two ≡ one ++ bitmap_set size depth resizes → AppendsFront two after_bitmap new
    → AppendsFront old (demand_active size depth resizes) new
unfolding demand_active
third_cut size depth resizes old one two new e f g =
    front_after old before_bitmap (bitmap_set size depth resizes ++ after_bitmap) one new e (front_after one (bitmap_set size depth resizes) after_bitmap two new f g)

-- for a picture of 64 by 48 pixels
sample : demand_active (record { w = 64; h = 48 }) Bits24 false
    ≡ (32 ∷ 1 ∷ 17 ∷ 0 ∷ 234 ∷ 3 ∷ [])
    ++ (234 ∷ 3 ∷ 1 ∷ 0 ∷ 4 ∷ 0 ∷ 10 ∷ 1 ∷ 82 ∷ 68 ∷ 80 ∷ 0 ∷ 8 ∷ 0 ∷ 0 ∷ 0 ∷ [])
    ++ (1 ∷ 0 ∷ 24 ∷ 0 ∷ 1 ∷ 0 ∷ 3 ∷ 0 ∷ 0 ∷ 2 ∷ 0 ∷ 0 ∷ 0 ∷ 0 ∷ 1 ∷ 4 ∷ 0 ∷ 0 ∷ 0 ∷ 0 ∷ 0 ∷ 0 ∷ 1 ∷ 1 ∷ [])
    ++ (2 ∷ 0 ∷ 28 ∷ 0 ∷ 24 ∷ 0 ∷ 1 ∷ 0 ∷ 1 ∷ 0 ∷ 1 ∷ 0 ∷ 64 ∷ 0 ∷ 48 ∷ 0 ∷ 0 ∷ 0 ∷ 0 ∷ 0 ∷ 1 ∷ 0 ∷ 0 ∷ 0 ∷ 1 ∷ 0 ∷ 0 ∷ 0 ∷ [])
    ++ (3 ∷ 0 ∷ 88 ∷ 0 ∷ []) ++ replicate 20 0 ++ (1 ∷ 0 ∷ 20 ∷ 0 ∷ 0 ∷ 0 ∷ 1 ∷ 0 ∷ 0 ∷ 0 ∷ 138 ∷ 0 ∷ [])
    ++ (1 ∷ 1 ∷ 1 ∷ 1 ∷ 1 ∷ 0 ∷ 0 ∷ 0 ∷ 0 ∷ 0 ∷ 0 ∷ 1 ∷ 0 ∷ 0 ∷ 0 ∷ 0 ∷ 0 ∷ 0 ∷ 0 ∷ 0 ∷ 0 ∷ 0 ∷ 0 ∷ 0 ∷ 0 ∷ 0 ∷ 0 ∷ 1 ∷ 0 ∷ 0 ∷ 0 ∷ 0 ∷ [])
    ++ (0 ∷ 0 ∷ 4 ∷ 0 ∷ 0 ∷ 0 ∷ 0 ∷ 0 ∷ 0 ∷ 132 ∷ 3 ∷ 0 ∷ []) ++ replicate 8 0
    ++ (8 ∷ 0 ∷ 10 ∷ 0 ∷ 1 ∷ 0 ∷ 25 ∷ 0 ∷ 25 ∷ 0 ∷ [])
    ++ (13 ∷ 0 ∷ 88 ∷ 0 ∷ 61 ∷ 0 ∷ 0 ∷ 0 ∷ []) ++ replicate 80 0
    ++ (20 ∷ 0 ∷ 8 ∷ 0 ∷ 0 ∷ 0 ∷ 0 ∷ 0 ∷ [])
    ++ (9 ∷ 0 ∷ 8 ∷ 0 ∷ 234 ∷ 3 ∷ 0 ∷ 0 ∷ [])
    ++ (14 ∷ 0 ∷ 8 ∷ 0 ∷ 1 ∷ 0 ∷ 0 ∷ 0 ∷ [])
    ++ replicate 4 0
unfolding demand_active before_bitmap after_bitmap
sample = refl

-- to a client that is to resize its window: one byte more isn't 0, behind pad2octets
resized : demand_active (record { w = 64; h = 48 }) Bits24 true ≡ slice_set (demand_active (record { w = 64; h = 48 }) Bits24 false) 64 1
unfolding demand_active before_bitmap after_bitmap
resized = refl

-- to a viewer that is shown 16 bits: preferredBitsPerPixel
at_sixteen_bits : demand_active (record { w = 64; h = 48 }) Bits16 false ≡ slice_set (demand_active (record { w = 64; h = 48 }) Bits24 false) 50 16
unfolding demand_active before_bitmap after_bitmap
at_sixteen_bits = refl

-- as long as its share control header says, and its sets as long as lengthCombinedCapabilities, with count and pad
total : (size : Size) (depth : Depth) (resizes : Bool) → length (demand_active size depth resizes) ≡ 288
unfolding demand_active before_bitmap after_bitmap
total size depth resizes = refl

all_written : (size : Size) (depth : Depth) (resizes : Bool) (old one two new : List ℕ) → one ≡ old ++ before_bitmap → two ≡ one ++ bitmap_set size depth resizes → new ≡ two ++ after_bitmap → new ≡ old ++ demand_active size depth resizes
unfolding demand_active
all_written size depth resizes old one two new e f g =
    g ∙ ap (λ xs. xs ++ after_bitmap) (f ∙ ap (λ xs. xs ++ bitmap_set size depth resizes) e)
    ∙ append_assoc (old ++ before_bitmap) (bitmap_set size depth resizes) after_bitmap ∙ append_assoc old before_bitmap (bitmap_set size depth resizes ++ after_bitmap)

pub written_size : (size : Size) (depth : Depth) (resizes : Bool) (old one two new : List ℕ) → one ≡ old ++ before_bitmap → two ≡ one ++ bitmap_set size depth resizes → new ≡ two ++ after_bitmap
    → length new ≡ length old + 288
written_size size depth resizes old one two new e f g =
    omega (arith, ap length (all_written size depth resizes old one two new e f g), length-append old (demand_active size depth resizes), total size depth resizes)
