-- What a viewer with a pointer cache shows: its pointer at each mark, and which packets of pointers it was sent.
use Rattle.std.specs.Prelude.{◌≡◌, ℕ, ◌-◌, ◌==◌, Bool, true, false, List, [], ◌∷◌, ◌++◌, length, map, replicate, Option, Some, None, Result, Ok, Err}
use Rattle.std.specs.Prelude.{option_and_then, option_map, if◌then◌else◌}
use Rattle.px_core.specs.declared.surface.Size.{Size}
use Rattle.caps_sets.specs.declared.confirmed.Confirmed.{Confirmed}
use Rattle.caps_sets.specs.Confirmed.{pointer_cells}
use Rattle.session_rules.specs.declared.entry.Entry.{Entry}
use Rattle.order_means.specs.FrameMarks.{Refusal, ClientReading, first_reading, read_on}
use Rattle.order_means.specs.Packets.{pieces_in, pointer_packets}
use Rattle.frame_rules.specs.Pointers.{Shape, pointer_at, shape_of}
use Rattle.frame_rules.specs.Told.{told_packet, told_after, key_at}
use Rattle.pointer_share.specs.declared.fault.Cause.{Cause}
use Rattle.pointer_share.specs.Views.{View, opening_view, view_fed}

-- ---- reading

-- a viewer with its pointers, what it has read else, and the shape that it showed at each mark so far, if any
pub record Watching : Type 0 where
  pub pointer : View
  pub reading : ClientReading
  pub shapes : List (Option Shape)

abbrev pub first_watching : Confirmed → Size → Watching
first_watching c size = record { pointer = opening_view (pointer_cells c); reading = first_reading c size; shapes = [] }

-- the marks that were read more
abbrev pub marks_more : ClientReading → ClientReading → ℕ
marks_more before after = length after.view.pictures - length before.view.pictures

-- any packet that isn't a pointer's is read as without pointers, and at its marks the shape shown is the one of before it
abbrev pub watched_by : Watching → Result ClientReading Refusal → Option Watching
watched_by w (Ok r) = Some (record w { reading = r; shapes = w.shapes ++ replicate (marks_more w.reading r) w.pointer.shown })
watched_by w (Err refusal) = None

abbrev pub watched_as : Confirmed → Size → Watching → List ℕ → Result (View × Bool) (Cause × ℕ) → Option Watching
watched_as c size w piece (Ok (v, true)) = Some (record w { pointer = v })
watched_as c size w piece (Ok (v, false)) = watched_by w (read_on c size w.reading piece)
watched_as c size w piece (Err refusal) = None

-- a viewer after one more packet, unless that is refused
abbrev pub watched : Confirmed → Size → Watching → List ℕ → Option Watching
watched c size w piece = watched_as c size w piece (view_fed c.cautious w.pointer piece)

abbrev pub watched_all : Confirmed → Size → Watching → List (List ℕ) → Option Watching
watched_all c size w [] = Some w
watched_all c size w (piece ∷ pieces) = option_and_then (λ next. watched_all c size next pieces) (watched c size w piece)

-- the shapes that a viewer shows at its marks, unless a packet is refused
abbrev pub shapes_at_marks : Confirmed → Size → List ℕ → Option (List (Option Shape))
shapes_at_marks c size bytes = option_map (λ w. w.shapes) (watched_all c size (first_watching c size) (pieces_in bytes).pieces)

-- ---- what is to be shown

-- the shape of the pointer after so many entries of a journal; a viewer without a pointer cache shows none
abbrev pub shape_after : Confirmed → Size → List Entry → ℕ → Option Shape
shape_after c size j n = if pointer_cells c == 0 then None else Some (shape_of c.cautious (pointer_at size j n))

abbrev pub listed_packet : Option (List ℕ) → List (List ℕ)
listed_packet None = []
listed_packet (Some packet) = packet ∷ []

abbrev pub packet_told : Confirmed → List ℕ → ℕ → List (List ℕ)
packet_told c keys key = if pointer_cells c == 0 then [] else listed_packet (told_packet c.cautious (pointer_cells c) keys key)

-- the packets of pointers before frames of these numbers of entries, to a viewer that was told these keys: one for each change of the pointer, with a shape
-- exactly where the viewer's cache misses, and else with the entry that holds it
abbrev pub packets_told : Confirmed → Size → List Entry → List ℕ → List ℕ → List (List ℕ)
packets_told c size j keys [] = []
packets_told c size j keys (n ∷ ns) = packet_told c keys (key_at size j n) ++ packets_told c size j (told_after keys (key_at size j n)) ns

-- a viewer's bytes with its pointers aren't refused; at each mark it shows the pointer after exactly as many entries of the journal as the take found; and the
-- packets of pointers are exactly those for its changes
pub record SeesPointers (size : Size) (confirmed : Confirmed) (j : List Entry) (numbers : List ℕ) (written : List ℕ) : Type 0 where
  pub marks_show_pointers : shapes_at_marks confirmed size written ≡ Some (map (λ n. shape_after confirmed size j n) numbers)
  pub packets_are_told : pointer_packets written ≡ packets_told confirmed size j [] numbers
