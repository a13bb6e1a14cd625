-- How far a cutter has come, and what a byte gives.
use Rattle.std.specs.Prelude.{◌≡◌, ◌≤◌, ℕ, zero, suc, ◌+◌, ◌-◌, ◌*◌, ◌^◌, min, nat_lt, nat_le, ◌==◌, ◌&&◌, ◌||◌, if◌then◌else◌, Bool, true, false}
use Rattle.std.specs.Prelude.{List, [], ◌∷◌, length, take, drop, slice_index, Option, Some, None, ⊤}
use Rattle.wire_num.specs.declared.range.Range.{Range}
use Rattle.wire_num.specs.Cursor.{CursorOf}
use Rattle.order_means.specs.Updates.{BodyForm, Stage, body_at, Cutting, cutting, Updates, updates, before_updates, more_updates, refusal_in, turned}
use Rattle.order_means.specs.Updates.Stage.{Between, One, Two, Three, Inside, Fast, FastLong, FastInside, Refused}
use Rattle.update_read.specs.Forms.{told_form}
use Rattle.update_read.specs.declared.state.Found.{Found}
use Rattle.update_read.specs.declared.state.State.{State}
use Rattle.update_read.specs.declared.state.State.TheVariants.{Open, Update as Whole, Ended, Refused as RefusedAt}
use Rattle.update_read.specs.declared.step.Step.{Step}
use Rattle.update_read.specs.declared.step.Step.TheVariants.{More, Update, Refused as RefusedStep}

-- a place that is kept in 64 bits
abbrev pub capped : ℕ → ℕ
capped n = min n (2 ^ 64 - 1)

-- whether the viewer takes the fast path; the place of a packet's first byte, the bytes of it that are there, and whether it goes on, is whole, or is refused
pub record CutterOf : Type 0 where
  pub fast : Bool
  pub start : ℕ
  pub packet : List ℕ
  pub state : State

-- ---- packets of the fast path, whose first byte is 0

-- behind the first of two length bytes
abbrev pub long_length : ℕ → List ℕ → Option (ℕ × ℕ)
long_length high [] = None
long_length high (low ∷ bs) = Some (3, 256 * (high - 128) + low)

-- behind a first length byte that is below 128, or not
abbrev pub length_by : Bool → ℕ → List ℕ → Option (ℕ × ℕ)
length_by true l bs = Some (2, l)
length_by false l bs = long_length l bs

-- how many bytes the header has, the length included, and that length, where it is all there
abbrev pub fast_length : List ℕ → Option (ℕ × ℕ)
fast_length [] = None
fast_length (v ∷ []) = None
fast_length (v ∷ l ∷ bs) = length_by (nat_lt l 128) l bs

-- how far a packet has come of which these bytes are there
abbrev pub fast_stage : Option (ℕ × ℕ) → List ℕ → Stage
fast_stage None [] = Between
fast_stage None (v ∷ []) = Fast
fast_stage None (v ∷ l ∷ bs) = FastLong l
fast_stage (Some m) packet = FastInside (m.1 - (length packet + 1)) (take m.0 packet) (turned (drop m.0 packet) [])

-- the bytes of a packet that isn't whole
abbrev pub IsFastOpen : Option (ℕ × ℕ) → List ℕ → Type 0
IsFastOpen None packet = length packet ≤ 2
IsFastOpen (Some m) packet = (m.0 ≤ length packet) × (length packet + 1 ≤ m.1) × (m.1 ≤ 32767)

-- ---- packets of either kind

-- how far a packet has come of which these bytes are there
abbrev pub stage_of : List ℕ → Stage
stage_of [] = Between
stage_of (zero ∷ bs) = fast_stage (fast_length (zero ∷ bs)) (zero ∷ bs)
stage_of (suc a ∷ []) = One
stage_of (suc a ∷ b ∷ []) = Two b
stage_of (suc a ∷ b ∷ h ∷ []) = Three b h
stage_of (suc a ∷ b ∷ h ∷ l ∷ rest) = Inside ((256 * h + l - 5) - length rest) b h l (turned rest [])

-- the bytes of a packet that isn't whole, of at most 65,535
abbrev pub IsOpen : List ℕ → Type 0
IsOpen [] = ⊤
IsOpen (zero ∷ bs) = IsFastOpen (fast_length (zero ∷ bs)) (zero ∷ bs)
IsOpen (suc a ∷ []) = ⊤
IsOpen (suc a ∷ b ∷ []) = ⊤
IsOpen (suc a ∷ b ∷ h ∷ []) = ⊤
IsOpen (suc a ∷ b ∷ h ∷ l ∷ rest) = (5 + length rest ≤ 256 * h + l) × (256 * h + l ≤ 65535)

abbrev pub length_or : Option (ℕ × ℕ) → ℕ
length_or None = 0
length_or (Some m) = m.1

-- a packet's length, 0 where it isn't all there
abbrev pub length_in : List ℕ → ℕ
length_in [] = 0
length_in (zero ∷ bs) = length_or (fast_length (zero ∷ bs))
length_in (suc a ∷ []) = 0
length_in (suc a ∷ b ∷ []) = 0
length_in (suc a ∷ b ∷ h ∷ []) = 0
length_in (suc a ∷ b ∷ h ∷ l ∷ rest) = 256 * h + l

-- a part of a packet
abbrev pub part_of : List ℕ → Range → List ℕ
part_of packet part = take (part.to - part.from) (drop part.from packet)

-- an update of a packet of the fast path
abbrev pub told_found : List ℕ → Found → BodyForm × List ℕ
told_found packet found = (told_form found.form, part_of packet found.body)

-- it was read last
abbrev pub IsFound : Found → CursorOf → Type 0
IsFound found cursor = (found.body.from ≤ found.body.to) × (found.body.to ≡ cursor.at) × (found.behind ≡ cursor.at) × (cursor.at ≤ length cursor.bytes)

-- the updates of what is left of a packet that ends before a place
abbrev pub AreBehind : ℕ → List ℕ → Updates → Type 0
AreBehind end left more = (most : ℕ) × (length left ≤ most) × (more ≡ more_updates most end left)

-- an update of a packet that begins at a place, and those behind it
pub record TellsUpdate (found : Found) (u : Updates) (s : ℕ) (packet : List ℕ) : Type 0 where
  pub more : Updates
  pub told : u ≡ before_updates (body_at (s + found.body.from) (told_form found.form) (part_of packet found.body) ∷ []) more
  pub behind : AreBehind (s + length packet) (drop found.behind packet) more
  pub ordered : found.body.from ≤ found.body.to
  pub inside : found.body.to ≤ length packet

-- these updates are those of a packet that begins at a place and has come so far
abbrev pub Tells : State → Updates → ℕ → List ℕ → Type 0
Tells Open u s packet = (u ≡ updates [] (cutting (s + length packet) (stage_of packet))) × IsOpen packet
Tells (Whole found) u s packet = TellsUpdate found u s packet
Tells Ended u s packet = u ≡ updates [] (cutting (s + length packet) Between)
Tells (RefusedAt at) u s packet = (place : ℕ) × (u.bodies ≡ []) × (u.next.stage ≡ Refused place) × (at ≡ capped place)

-- the length in a packet's header counts its bytes
abbrev pub IsWhole : List ℕ → Type 0
IsWhole packet = length packet ≡ 256 * slice_index packet 2 + slice_index packet 3

-- ---- a cutter in the stream

-- these updates are those that the cutter gives: the one that its packet has come to, and those behind it
abbrev pub Gives : Updates → CutterOf → Type 0
Gives u m = (s : ℕ) × (m.start ≡ capped s) × Tells m.state u s m.packet

-- all updates were given, and the cutter has come as far as a cutting of the stream
abbrev pub Stands : Cutting → CutterOf → Type 0
Stands c m = Gives (updates [] c) m

-- without the first update
abbrev pub behind_first : Updates → Updates
behind_first u = updates (drop 1 u.bodies) u.next

-- so many bytes of a packet are missing before its last one
abbrev pub IsMissing : List ℕ → ℕ → Type 0
IsMissing packet n = length packet + 1 + n ≤ length_in packet

-- a byte begins a packet of a viewer that takes the fast path or not
abbrev pub begins_with : Bool → ℕ → Bool
begins_with fast b = (b == 3) || (fast && (b == 0))

-- no packet has begun
abbrev pub is_between : State → ℕ → Bool
is_between Open count = count == 0
is_between (Whole found) count = false
is_between Ended count = true
is_between (RefusedAt at) count = false

-- bytes give no update, refuse nothing, and the cutter has come as far
abbrev pub GoesOn : Cutting → Updates → CutterOf → Type 0
GoesOn c u m = (u.bodies ≡ []) × Stands u.next m × (refusal_in c.stage ≡ None → refusal_in u.next.stage ≡ None)

-- a packet that isn't whole is open; a body lies in its packet
abbrev pub IsSoundBy : State → List ℕ → Type 0
IsSoundBy Open packet = IsOpen packet
IsSoundBy (Whole found) packet = (found.body.from ≤ found.body.to) × (found.body.to ≤ length packet)
IsSoundBy Ended packet = ⊤
IsSoundBy (RefusedAt at) packet = ⊤

-- how many updates a packet has at most that weren't told, with the one that is told
abbrev pub pending_by : State → List ℕ → ℕ
pending_by Open packet = 0
pending_by (Whole found) packet = suc (length (drop found.behind packet))
pending_by Ended packet = 0
pending_by (RefusedAt at) packet = 0

abbrev pub pending : CutterOf → ℕ
pending m = pending_by m.state m.packet

-- what a cutter has come to
abbrev pub step_by : State → ℕ → Step
step_by Open start = More
step_by (Whole found) start = Update (capped (start + found.body.from)) found.form
step_by Ended start = More
step_by (RefusedAt at) start = RefusedStep at

abbrev pub step_of : CutterOf → Step
step_of m = step_by m.state m.start

-- the body of an update
abbrev pub body_by : State → List ℕ → List ℕ
body_by Open packet = []
body_by (Whole found) packet = part_of packet found.body
body_by Ended packet = []
body_by (RefusedAt at) packet = []

-- where the packet of the next byte begins, and how many bytes of it are there
abbrev pub place_after : State → ℕ → ℕ → ℕ × ℕ
place_after Open start count = (start, count)
place_after (Whole found) start count = (capped (start + count), 0)
place_after Ended start count = (capped (start + count), 0)
place_after (RefusedAt at) start count = (start, count)
