-- What a viewer is told of the pointer, take by take, by two messages of the Pointer PDU: 6 brings a shape to an entry of the viewer's cache and shows it
-- ([MS-RDPBCGR]
-- 2.2.9.1.1.4.4), 7 shows the shape of an entry (2.2.9.1.1.4.6). The keys of the pointers that it was told stand in a list, the latest first.
use Rattle.std.specs.Prelude.{ℕ, ◌==◌, Bool, true, false, List, [], ◌∷◌, ◌++◌, Option, Some, None, if◌then◌else◌}
use Rattle.byteorder.specs.Endian.{little_bytes}
use Rattle.px_core.specs.declared.surface.Size.{Size}
use Rattle.caps_sets.specs.declared.confirmed.Confirmed.{Confirmed}
use Rattle.caps_sets.specs.Confirmed.{pointer_cells}
use Rattle.cache_plan.specs.CacheUse.{misses, cache_index}
use Rattle.cache_plan.specs.declared.uses.Use.{Use}
use Rattle.cache_plan.specs.declared.uses.Use.TheVariants.{Hit, Miss}
use Rattle.frame_rules.specs.Pointers.{Shape, pointer_at, pointer_key, key_shape}
use Rattle.session_rules.specs.declared.entry.Entry.{Entry}
use Rattle.order_means.specs.PointerPackets.{pointer_packet}

-- ---- messages

-- hot spot: xPos, yPos
abbrev pub hot_spot : List ℕ
hot_spot = 0 ∷ 0 ∷ 0 ∷ 0 ∷ []

-- width, height
abbrev pub sides : Bool → List ℕ
sides wide = (if wide then 16 else 8) ∷ 0 ∷ 8 ∷ 0 ∷ []

-- lengthAndMask, lengthXorMask
abbrev pub mask_length : List ℕ
mask_length = 16 ∷ 0 ∷ []

abbrev pub xor_length : Bool → List ℕ
xor_length wide = (if wide then 0x80 else 0xC0) ∷ (if wide then 1 else 0) ∷ []

-- the bytes of the colours
abbrev pub xor_size : Bool → ℕ
xor_size wide = if wide then 384 else 192

-- messageType 6, pad2Octets; cacheIndex; hot spot; sides; lengths
abbrev pub message_head : Bool → ℕ → List ℕ
message_head wide index = 6 ∷ 0 ∷ 0 ∷ 0 ∷ (little_bytes 2 index ++ (hot_spot ++ (sides wide ++ (mask_length ++ xor_length wide))))

-- xorMaskData and andMaskData behind them
abbrev pub message_6 : Bool → ℕ → Shape → List ℕ
message_6 wide index s = message_head wide index ++ (s.xor ++ s.mask)

-- messageType 7, pad2Octets; cacheIndex
abbrev pub message_7 : ℕ → List ℕ
message_7 index = 7 ∷ 0 ∷ 0 ∷ 0 ∷ little_bytes 2 index

-- ---- what is told

-- whether a key is the one that was told last
abbrev pub is_told : List ℕ → ℕ → Bool
is_told [] key = false
is_told (k ∷ keys) key = k == key

-- a message of a shape for an entry at a miss, else of the entry that has it
abbrev pub message_by_miss : Bool → Bool → ℕ → Shape → List ℕ
message_by_miss wide true index s = message_6 wide index s
message_by_miss wide false index s = message_7 index

-- likewise by what a use of the cache answers
abbrev pub message_by_use : Bool → Use → Shape → List ℕ
message_by_use wide (Miss index) s = message_6 wide index s
message_by_use wide (Hit index) s = message_7 index

-- the message of a pointer to a viewer of so many cells: its shape where no cell holds it any more, by the rule of caches
abbrev pub message_of : Bool → ℕ → List ℕ → ℕ → List ℕ
message_of wide cells keys key = message_by_miss wide (misses cells keys key) (cache_index cells keys key) (key_shape wide key)

-- the packet before a frame whose pointer has this key: none where it is the pointer that was told last
abbrev pub told_packet : Bool → ℕ → List ℕ → ℕ → Option (List ℕ)
told_packet wide cells keys key = if is_told keys key then None else Some (pointer_packet (message_of wide cells keys key))

abbrev pub told_after : List ℕ → ℕ → List ℕ
told_after keys key = if is_told keys key then keys else key ∷ keys

-- whether a key is the one that was told last, by that one
abbrev pub is_last : Option ℕ → ℕ → Bool
is_last None key = false
is_last (Some k) key = k == key

-- the key that was told last
abbrev pub last_told : List ℕ → Option ℕ
last_told [] = None
last_told (k ∷ keys) = Some k

-- ---- before a frame

-- the key of the pointer after so many entries of a journal
abbrev pub key_at : Size → List Entry → ℕ → ℕ
key_at size j n = pointer_key (pointer_at size j n)

abbrev pub bytes_told : Option (List ℕ) → List ℕ
bytes_told None = []
bytes_told (Some packet) = packet

-- the bytes before a frame whose pointer has this key, to a viewer that was told these; one without a pointer cache is told nothing
abbrev pub pointer_bytes : Confirmed → List ℕ → ℕ → List ℕ
pointer_bytes c keys key = if pointer_cells c == 0 then [] else bytes_told (told_packet c.cautious (pointer_cells c) keys key)
