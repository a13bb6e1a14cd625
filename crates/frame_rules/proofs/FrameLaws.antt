-- Frames over a journal that goes on, and the encoder at first.
use Rattle.std.proofs.Common.{◌≡◌, ℕ, zero, suc, ◌≤◌, ◌<◌, List, [], ◌∷◌, ◌++◌, refl, ap, ◌∙◌, arith, length, drop, take, map}
use Rattle.std.specs.Prelude.{Bool, true, false, None, pos, ◌^◌, ◌*◌, ◌%◌}
use Rattle.std.proofs.lemmas.List.{take-append-le, length-replicate}
use Rattle.px_core.specs.declared.surface.Size.{Size}
use Rattle.px_core.specs.Picture.{pixel_count}
use Rattle.caps_sets.specs.declared.cache_size.CacheSize.{CacheSize}
use Rattle.caps_sets.specs.declared.confirmed.Confirmed.{Confirmed}
use Rattle.order_fields.specs.declared.kind.FieldKind.{FieldKind}
use Rattle.order_fields.specs.declared.kind.FieldKind.TheVariants.{Coordinate, Number, Signed, Color}
use Rattle.order_fields.specs.OrderTable.{Row, table, FitsKind, FitKinds, BytesFit, AreLasts, zero_fields, first_registers, AreRegisters}
use Rattle.order_means.specs.ClientState.{ClientState, first_client, empty_cache, brush_entries}
use Rattle.session_rules.specs.declared.entry.Entry.{Entry}
use Rattle.session_rules.specs.Journal.{state_after, holder_at}
use Rattle.session_rules.specs.Steps.{TakeOf}
use Rattle.session_rules.proofs.Journals.{reached_at-append}
use Rattle.frame_rules.specs.Blocks.{Held}
use Rattle.session_rules.specs.Pending.{pending_from, pending_between}
use Rattle.session_rules.specs.Typing.{last_typed}
use Rattle.frame_rules.specs.Frame.{frame_over, frame_of, is_first}
use Rattle.frame_rules.specs.FrameBytes.{frame_bytes}
use Rattle.frame_rules.specs.Pointers.{code_shown, pointer_key}
use Rattle.frame_rules.specs.Told.{key_at, pointer_bytes}
use Rattle.frame_rules.specs.Encoder.{Encoder, first_encoder, take_bytes, encoder_after, encoder_after_frame, with_told, pointed_bytes}
use Rattle.frame_rules.specs.Describes.{DescribesClient}

state_after-append : (size : Size) (j more : List Entry) (n : ℕ) → n ≤ length j → state_after size (j ++ more) n ≡ state_after size j n
state_after-append size j more n below = ap (λ r. r.state) (reached_at-append size j more n below)

pending_between-append : (size : Size) (j more : List Entry) (m n : ℕ) → m ≤ n → n ≤ length j → pending_between size (j ++ more) m n ≡ pending_between size j m n
pending_between-append size j more m n up below =
    ap (λ st. pending_from size st (drop m (take n (j ++ more)))) (state_after-append size j more m (omega arith))
    ∙ ap (λ es. pending_from size (state_after size j m) (drop m es)) (take-append-le n j more below)

-- the pointer after entries that are there already
pub key_at-append : (size : Size) (j more : List Entry) (n : ℕ) → n ≤ length j → key_at size (j ++ more) n ≡ key_at size j n
key_at-append size j more n below =
    ap (λ r. pointer_key (record { holder = r.holder % 16; code = code_shown (last_typed (take n (j ++ more))) })) (reached_at-append size j more n below)
    ∙ ap (λ es. pointer_key (record { holder = holder_at size j n % 16; code = code_shown (last_typed es) })) (take-append-le n j more below)

pub frame_of-append : (size : Size) (c : Confirmed) (j more : List Entry) (held : Held) (t : TakeOf) → t.before ≤ t.number → t.number ≤ length j
    → frame_of size c (j ++ more) held t ≡ frame_of size c j held t
frame_of-append size c j more held t up below =
    ap (λ ps. frame_over size c (is_first t) held t.asked (state_after size (j ++ more) t.number).surface.picture ps) (pending_between-append size j more t.before t.number up below)
    ∙ ap (λ st. frame_over size c (is_first t) held t.asked st.surface.picture (pending_between size j t.before t.number)) (state_after-append size j more t.number below)

pub take_bytes-append : (size : Size) (c : Confirmed) (j more : List Entry) (e : Encoder) (t : TakeOf) → t.before ≤ t.number → t.number ≤ length j
    → take_bytes size c (j ++ more) e t ≡ take_bytes size c j e t
take_bytes-append size c j more e t up below = ap (frame_bytes size c e.registers e.uses) (frame_of-append size c j more e.held t up below)

pub encoder_after-append : (size : Size) (c : Confirmed) (j more : List Entry) (e : Encoder) (t : TakeOf) → t.before ≤ t.number → t.number ≤ length j
    → encoder_after size c (j ++ more) e t ≡ encoder_after size c j e t
encoder_after-append size c j more e t up below =
    ap (λ key. with_told key (encoder_after_frame size c e (frame_of size c (j ++ more) e.held t))) (key_at-append size j more t.number below)
    ∙ ap (λ f. with_told (key_at size j t.number) (encoder_after_frame size c e f)) (frame_of-append size c j more e.held t up below)

pub pointed_bytes-append : (size : Size) (c : Confirmed) (j more : List Entry) (e : Encoder) (t : TakeOf) → t.before ≤ t.number → t.number ≤ length j
    → pointed_bytes size c (j ++ more) e t ≡ pointed_bytes size c j e t
pointed_bytes-append size c j more e t up below =
    ap (λ key. pointer_bytes c e.told key ++ take_bytes size c (j ++ more) e t) (key_at-append size j more t.number below)
    ∙ ap (λ bytes. pointer_bytes c e.told (key_at size j t.number) ++ bytes) (take_bytes-append size c j more e t up below)

-- what is told of a pointer says nothing of frames
pub DescribesClient-told : (size : Size) (c : Confirmed) (j : List Entry) (n key : ℕ) (e : Encoder) (client : ClientState)
    → DescribesClient size c j n e client → DescribesClient size c j n (with_told key e) client
DescribesClient-told size c j n key e client d = record {
  registers = d.registers;
  are_registers = d.are_registers;
  sized = d.sized;
  caches = d.caches;
  blocks = d.blocks;
  apart = d.apart;
  pixels = d.pixels;
  picture = d.picture;
}

-- ---- at first

lengths_of_empty : (A : Type 0) (sizes : List CacheSize) → map length (map (empty_cache {A = A}) sizes) ≡ map (λ s. s.entries) sizes
lengths_of_empty A [] = refl
lengths_of_empty A (s ∷ ss) =
    ap (λ n. n ∷ map length (map (empty_cache {A = A}) ss)) (length-replicate s.entries None) ∙ ap (λ ns. s.entries ∷ ns) (lengths_of_empty A ss)

power_positive : (n : ℕ) → 0 < 256 ^ n
power_positive zero = omega arith
power_positive (suc n) = let power : 256 ^ suc n ≡ 256 * 256 ^ n = grind arith in omega (arith, power, power_positive n)

zero_fits : (k : FieldKind) → FitsKind k (pos 0)
zero_fits Coordinate = refl
zero_fits (Number n) = power_positive n
zero_fits Signed = refl
zero_fits Color = omega arith

zeros_fit : (ks : List FieldKind) → FitKinds ks (map (λ k. pos 0) ks)
zeros_fit [] = tt
zeros_fit (k ∷ ks) = (zero_fits k, zeros_fit ks)

no_bytes_fit : (counted : Bool) → BytesFit counted []
no_bytes_fit true = omega arith
no_bytes_fit false = refl

zero_lasts : (rows : List Row) → AreLasts rows (map zero_fields rows)
zero_lasts [] = tt
zero_lasts (r ∷ rs) = (refl, record { numbers = zeros_fit r.kinds; bytes = no_bytes_fit r.counted }, zero_lasts rs)

pub first_are_registers : AreRegisters first_registers
first_are_registers = record { lasts = zero_lasts table; bounds = record { left = refl; top = refl; right = refl; bottom = refl } }

pub DescribesClient-first : (size : Size) (c : Confirmed) (j : List Entry) → DescribesClient size c j 0 first_encoder (first_client c size)
DescribesClient-first size c j = record {
  registers = refl;
  are_registers = first_are_registers;
  sized = record { depth = refl; images = lengths_of_empty _ c.bitmaps; glyphs = lengths_of_empty _ c.glyphs; brushes = length-replicate (brush_entries c.brush) None };
  caches = record { images = λ cache key few held. absurd (cc held); glyphs = λ cache key few held. absurd (cc held); brushes = λ key held. absurd (cc held) };
  blocks = λ slot place h. absurd (cc h);
  apart = tt;
  pixels = length-replicate (pixel_count size) None;
  picture = λ h. absurd (omega (arith, h));
}
