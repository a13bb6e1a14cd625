-- The bytes of a pointer's packet are bytes.
use Rattle.std.proofs.Common.{ℕ, ◌-◌, ◌/◌, ◌%◌, List, [], ◌∷◌, ◌++◌, map, reverse, refl, arith, Bool, true, false, Some, None}
use Rattle.std.specs.Prelude.{◌<◌, ◌==◌, replicate, if◌then◌else◌}
use Rattle.std.proofs.lemmas.List.Elements.{All-head, All-tail, All-replicate}
use Rattle.caps_sets.specs.declared.confirmed.Confirmed.{Confirmed}
use Rattle.caps_sets.specs.Confirmed.{pointer_cells}
use Rattle.byteorder.specs.Endian.{little_bytes}
use Rattle.wire_num.proofs.Numbers.{little_are_bytes}
use Rattle.cache_plan.specs.CacheUse.{misses, cache_index}
use Rattle.order_means.specs.PointerPackets.{pointer_kind, pointer_packet}
use Rattle.frame_rules.specs.Pointers.{Pointer, rows_of, pointer_color, joined, part_of, row_colors, wide_colors, wide_mask, shape_of}
use Rattle.frame_rules.specs.Pointers.{pointer_of_key, key_shape}
use Rattle.frame_rules.specs.Told.{hot_spot, sides, mask_length, xor_length, message_head, is_told, message_by_miss, message_of}
use Rattle.frame_rules.specs.Told.{bytes_told, pointer_bytes}
use Rattle.headline.specs.Sent.{AreBytes}
use Rattle.headline.proofs.OrderBytes.{bytes_nil, bytes_cons, bytes_append, bytes_after}
use Rattle.headline.proofs.FrameBytes.{share_packet_are_bytes}

-- ---- a shape

joined_are_bytes : {A : Type 0} (f : A → List ℕ) (xs : List A) → ((x : A) → AreBytes (f x)) → AreBytes (joined (map f xs))
joined_are_bytes f [] h = bytes_nil
joined_are_bytes f (x ∷ xs) h = bytes_append (f x) (joined (map f xs)) (h x) (joined_are_bytes f xs h)

part_is_byte : (row bit part : ℕ) → part < 256 → part_of row bit part < 256
part_is_byte row bit part h = by (row / bit % 2 == 1)
  where
    by : (b : Bool) → (if b then part else 0) < 256
    by true = h
    by false = omega arith

parts_are_bytes : (row bit : ℕ) (color : List ℕ) → AreBytes color → AreBytes (map (part_of row bit) color)
parts_are_bytes row bit [] h = bytes_nil
parts_are_bytes row bit (part ∷ color) h =
    bytes_cons (part_of row bit part) (map (part_of row bit) color) (part_is_byte row bit part (All-head (λ b. b < 256) part color h))
    (parts_are_bytes row bit color (All-tail (λ b. b < 256) part color h))

colors_are_bytes : (wide : Bool) (color : List ℕ) (row : ℕ) → AreBytes color → AreBytes (wide_colors wide color row)
colors_are_bytes wide color row h =
    bytes_append (row_colors color row) (if wide then replicate 24 0 else [])
    (joined_are_bytes (λ bit. map (part_of row bit) color) (128 ∷ 64 ∷ 32 ∷ 16 ∷ 8 ∷ 4 ∷ 2 ∷ 1 ∷ []) (λ bit. parts_are_bytes row bit color h)) (clear wide)
  where
    clear : (b : Bool) → AreBytes (if b then replicate 24 0 else [])
    clear true = All-replicate (λ b. b < 256) 24 0 (omega arith)
    clear false = bytes_nil

mask_are_bytes : (wide : Bool) (row : ℕ) → AreBytes (wide_mask wide row)
mask_are_bytes wide row = bytes_cons (255 - row) ((if wide then 0xFF else 0) ∷ []) (omega arith) (right wide)
  where
    right : (b : Bool) → AreBytes ((if b then 0xFF else 0) ∷ [])
    right true = bytes_after (0xFF ∷ []) [] refl bytes_nil
    right false = bytes_after (0 ∷ []) [] refl bytes_nil

xor_are_bytes : (wide : Bool) (p : Pointer) → AreBytes (shape_of wide p).xor
xor_are_bytes wide p =
    let color = little_bytes 3 (pointer_color p.holder) in
    joined_are_bytes (wide_colors wide color) (reverse (rows_of p.code)) (λ row. colors_are_bytes wide color row (little_are_bytes 3 (pointer_color p.holder)))

and_are_bytes : (wide : Bool) (p : Pointer) → AreBytes (shape_of wide p).mask
and_are_bytes wide p = joined_are_bytes (wide_mask wide) (reverse (rows_of p.code)) (mask_are_bytes wide)

-- ---- a message

head_are_bytes : (wide : Bool) (index : ℕ) → AreBytes (message_head wide index)
head_are_bytes wide index =
    bytes_after (6 ∷ 0 ∷ 0 ∷ 0 ∷ []) (little_bytes 2 index ++ (hot_spot ++ (sides wide ++ (mask_length ++ xor_length wide)))) refl
    (bytes_append (little_bytes 2 index) (hot_spot ++ (sides wide ++ (mask_length ++ xor_length wide))) (little_are_bytes 2 index) (by wide))
  where
    by : (b : Bool) → AreBytes (hot_spot ++ (sides b ++ (mask_length ++ xor_length b)))
    by true = bytes_after (hot_spot ++ (sides true ++ (mask_length ++ xor_length true))) [] refl bytes_nil
    by false = bytes_after (hot_spot ++ (sides false ++ (mask_length ++ xor_length false))) [] refl bytes_nil

message_are_bytes : (wide miss : Bool) (index key : ℕ) → AreBytes (message_by_miss wide miss index (key_shape wide key))
message_are_bytes wide true index key =
    let s = key_shape wide key in
    bytes_append (message_head wide index) (s.xor ++ s.mask) (head_are_bytes wide index)
    (bytes_append s.xor s.mask (xor_are_bytes wide (pointer_of_key key)) (and_are_bytes wide (pointer_of_key key)))
message_are_bytes wide false index key = bytes_after (7 ∷ 0 ∷ 0 ∷ 0 ∷ []) (little_bytes 2 index) refl (little_are_bytes 2 index)

-- ---- before a frame

pub pointer_are_bytes : (c : Confirmed) (keys : List ℕ) (key : ℕ) → AreBytes (pointer_bytes c keys key)
pointer_are_bytes c keys key = by (pointer_cells c == 0) (is_told keys key)
  where
    message : List ℕ
    message = message_of c.cautious (pointer_cells c) keys key

    are : AreBytes message
    are = message_are_bytes c.cautious (misses (pointer_cells c) keys key) (cache_index (pointer_cells c) keys key) key

    by : (none told : Bool) → AreBytes (if none then [] else bytes_told (if told then None else Some (pointer_packet message)))
    by true told = bytes_nil
    by false true = bytes_nil
    by false false = share_packet_are_bytes pointer_kind message (omega arith) are
