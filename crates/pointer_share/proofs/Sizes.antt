-- How long shapes and messages are.
use Rattle.std.proofs.Common.{◌≡◌, ◌≤◌, ℕ, ◌+◌, ◌/◌, ◌%◌, List, ◌++◌, length, refl, ap, ◌∙◌, arith, length-append}
use Rattle.std.specs.Prelude.{Bool, true, false, ◌==◌, if◌then◌else◌}
use Rattle.byteorder.specs.Endian.{little_bytes}
use Rattle.cache_plan.specs.CacheUse.{misses, cache_index}
use Rattle.session_rules.specs.Board.{sign_of}
use Rattle.frame_rules.specs.Pointers.{arrow, pointer_color, colors_up, masks_up, key_shape}
use Rattle.frame_rules.specs.Told.{message_head, message_6, message_7, xor_size, message_by_miss, message_of}

colors_long : (wide arrows : Bool) (color code : ℕ) → length (colors_up wide (little_bytes 3 color) (if arrows then arrow else sign_of code)) ≡ xor_size wide
colors_long true true color code = refl
colors_long true false color code = refl
colors_long false true color code = refl
colors_long false false color code = refl

masks_long : (wide arrows : Bool) (code : ℕ) → length (masks_up wide (if arrows then arrow else sign_of code)) ≡ 16
masks_long wide true code = refl
masks_long wide false code = refl

pub xor_long : (wide : Bool) (key : ℕ) → length (key_shape wide key).xor ≡ xor_size wide
xor_long wide key = colors_long wide (key % 256 == 0) (pointer_color (key / 256)) (key % 256)

pub mask_long : (wide : Bool) (key : ℕ) → length (key_shape wide key).mask ≡ 16
mask_long wide key = masks_long wide (key % 256 == 0) (key % 256)

size_by : (wide : Bool) (index xor mask : ℕ) → xor ≡ xor_size wide → mask ≡ 16 → length (message_head wide index) + (xor + mask) ≡ (if wide then 418 else 226)
size_by true index xor mask x m = rw (x, m) refl
size_by false index xor mask x m = rw (x, m) refl

pub size_is : (wide : Bool) (index key : ℕ) → length (message_6 wide index (key_shape wide key)) ≡ (if wide then 418 else 226)
size_is wide index key =
    length-append (message_head wide index) ((key_shape wide key).xor ++ (key_shape wide key).mask)
    ∙ ap (λ n. length (message_head wide index) + n) (length-append (key_shape wide key).xor (key_shape wide key).mask)
    ∙ size_by wide index (length (key_shape wide key).xor) (length (key_shape wide key).mask) (xor_long wide key) (mask_long wide key)

short_if : (wide : Bool) (n : ℕ) → n ≡ (if wide then 418 else 226) → n ≤ 16365
short_if true n e = omega (arith, e)
short_if false n e = omega (arith, e)

short_by : (wide miss : Bool) (index key : ℕ) → length (message_by_miss wide miss index (key_shape wide key)) ≤ 16365
short_by wide true index key = short_if wide (length (message_6 wide index (key_shape wide key))) (size_is wide index key)
short_by wide false index key = let six : length (message_7 index) ≡ 6 = refl in omega (arith, six)

-- what is told fits in a packet
pub message_short : (wide : Bool) (cells key : ℕ) (keys : List ℕ) → length (message_of wide cells keys key) ≤ 16365
message_short wide cells key keys = short_by wide (misses cells keys key) (cache_index cells keys key) key
