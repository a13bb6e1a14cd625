-- What is kept of a view: of each shape its outline, which is the blue of its colour and the bits of its top row.
use Rattle.std.specs.Prelude.{◌≡◌, ℕ, zero, suc, ◌+◌, ◌-◌, ◌*◌, ◌/◌, ◌%◌, ◌==◌, Bool, List, [], ◌∷◌, map, slice_index, Option, Some, None, Result, Ok}
use Rattle.std.specs.Prelude.{Err, if◌then◌else◌}
use Rattle.wire_num.specs.Field.{Read, then_read, map_read, bytes_at, ended}
use Rattle.wire_num.specs.Number.{little_at}
use Rattle.wire_num.specs.Caused.{Caused, caused, then_caused, map_caused}
use Rattle.draw_ops.specs.Slots.{Slots, lookup, filled_slot}
use Rattle.pointer_share.specs.declared.fault.Cause.{Cause}
use Rattle.pointer_share.specs.declared.fault.Cause.TheVariants.{Broken, Missing}
use Rattle.pointer_share.specs.declared.fault.ViewFault.{ViewFault}
use Rattle.pointer_share.specs.declared.fault.ViewFault.TheVariants.{BadPointer, NoEntry, OutOfMemory}
use Rattle.pointer_share.specs.declared.message.Sent.{Sent}
use Rattle.pointer_share.specs.declared.message.Sent.TheVariants.{Brings, Points}
use Rattle.frame_rules.specs.Pointers.{Shape}
use Rattle.frame_rules.specs.Told.{xor_size}
use Rattle.pointer_share.specs.Messages.{Message, fixed_at, is_entry, is_filled, index_at}
use Rattle.pointer_share.specs.Messages.Message.{Brings as BringsShape, Points as PointsAt}
use Rattle.order_means.specs.PointerPackets.{compression_at}
use Rattle.pointer_share.specs.Views.{View, opening_view, view_fed}

-- ---- the outline of a shape, whose rows are sent from the bottom up

-- the pixels of 8 rows, which are counted from the top left
abbrev pub pixels : Bool → ℕ
pixels wide = if wide then 128 else 64

-- the bit of a column in its byte of the mask, from the left
abbrev pub bit_of : ℕ → ℕ
bit_of column = slice_index (128 ∷ 64 ∷ 32 ∷ 16 ∷ 8 ∷ 4 ∷ 2 ∷ 1 ∷ []) column

-- the place of a pixel's byte in the mask, whose rows have two bytes, and of its blue byte in the colours
abbrev pub mask_place : Bool → ℕ → ℕ
mask_place wide k = if wide then 2 * (7 - k / 16) + k % 16 / 8 else 2 * (7 - k / 8)

abbrev pub blue_place : Bool → ℕ → ℕ
blue_place wide k = if wide then 3 * (16 * (7 - k / 16) + k % 16) else 3 * (8 * (7 - k / 8) + k % 8)

-- a pixel is set where its bit of the mask is 0
abbrev pub is_set : Bool → List ℕ → ℕ → Bool
is_set wide mask k = slice_index mask (mask_place wide k) / bit_of (k % 8) % 2 == 0

-- the blue byte of the first pixel that is set, of so many from one on; 0 where none is
abbrev pub first_blue : Bool → List ℕ → List ℕ → ℕ → ℕ → ℕ
first_blue wide xor mask zero k = 0
first_blue wide xor mask (suc n) k = if is_set wide mask k then slice_index xor (blue_place wide k) else first_blue wide xor mask n (k + 1)

-- the first byte of the top row of the mask is its last but one
abbrev pub outline : Bool → Shape → ℕ × ℕ
outline wide s = (first_blue wide s.xor s.mask (pixels wide) 0, 255 - slice_index s.mask 14)

abbrev pub outlined : Bool → Option Shape → Option (ℕ × ℕ)
outlined wide None = None
outlined wide (Some s) = Some (outline wide s)

abbrev pub outlines : Bool → Slots Shape → Slots (ℕ × ℕ)
outlines wide cells = map (outlined wide) cells

-- ---- what is kept of a view

pub record ViewOf : Type 0 where
  pub wide : Bool
  pub cells : Slots (ℕ × ℕ)
  pub shown : Option (ℕ × ℕ)

-- it is kept of this view
pub record HasView (o : ViewOf) (v : View) : Type 0 where
  pub cells : o.cells ≡ outlines o.wide v.cells
  pub shown : o.shown ≡ outlined o.wide v.shown

-- it is that of a viewer with so many cells, which was told nothing
pub record IsNewView (wide : Bool) (cells : ℕ) (o : ViewOf) : Type 0 where
  pub form : o.wide ≡ wide
  pub opens : HasView o (opening_view cells)

-- ---- a message, of whose shape the outline is read

abbrev pub shape_at : Bool → List ℕ → Read (ℕ × ℕ)
shape_at wide bs = then_read (bytes_at (xor_size wide) bs) (λ xor e. map_read (λ mask. outline wide (record { xor = xor; mask = mask })) (bytes_at 16 e))

abbrev pub outline_at : Bool → List ℕ → Read (ℕ × ℕ)
outline_at wide bs = then_read (fixed_at wide bs) (λ fixed d. shape_at wide d)

abbrev pub sent_brought : Bool → Slots (ℕ × ℕ) → List ℕ → Caused Cause Sent
sent_brought wide cells bs = then_caused (index_at (is_entry cells) bs) (λ index rest. caused Broken (map_read (λ o. Brings index o) (outline_at wide rest)))

abbrev pub sent_by : Bool → Slots (ℕ × ℕ) → ℕ → List ℕ → List ℕ → Caused Cause Sent
sent_by wide cells kind whole bs = if kind == 6 then sent_brought wide cells bs else
    (if kind == 7 then map_caused Points (index_at (is_filled cells) bs) else Err (Broken, whole))

abbrev pub sent_behind : Bool → Slots (ℕ × ℕ) → List ℕ → Caused Cause Sent
sent_behind wide cells bs = then_caused (caused Broken (little_at 4 bs)) (λ kind a. sent_by wide cells kind bs a)

abbrev pub sent_at : Bool → Slots (ℕ × ℕ) → List ℕ → Caused Cause Sent
sent_at wide cells bs = then_caused (sent_behind wide cells bs) (λ m b. caused Broken (ended m b))

abbrev pub sent_in : Bool → Slots (ℕ × ℕ) → List ℕ → Caused Cause Sent
sent_in wide cells bs = then_caused (caused Broken (compression_at bs)) (λ compression a. sent_at wide cells a)

-- what it is of a message
abbrev pub sent_of : Bool → Message → Sent
sent_of wide (BringsShape index s) = Brings index (outline wide s)
sent_of wide (PointsAt index) = Points index

-- what is kept after it
abbrev pub kept_after : ViewOf → Sent → ViewOf
kept_after o (Brings index outline) = record { wide = o.wide; cells = filled_slot index outline o.cells; shown = Some outline }
kept_after o (Points index) = record o { shown = lookup index o.cells }

-- ---- as a call says it

-- The call fed a packet to a view: it said whether that is a pointer packet, and keeps what the view is then; or it refused the packet at a place, or for an
-- entry. It wants no memory.
abbrev pub Feeds : Bool → View → List ℕ → Result Bool ViewFault → ViewOf → Type 0
Feeds wide v packet (Ok pointer) new = (after : View) × (view_fed wide v packet ≡ Ok (after, pointer)) × HasView new after
Feeds wide v packet (Err (BadPointer at)) new = view_fed wide v packet ≡ Err (Broken, at)
Feeds wide v packet (Err (NoEntry index)) new = (at : ℕ) × (view_fed wide v packet ≡ Err (Missing index, at))
Feeds wide v packet (Err OutOfMemory) new = ⊥
