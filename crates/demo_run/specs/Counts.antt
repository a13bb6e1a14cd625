-- The line that counts a run of the demonstration (profile).
use Rattle.std.specs.Prelude.{ℕ, ◌+◌, ◌-◌, ◌^◌, min, List, [], ◌∷◌, ◌++◌, length, sum, codes, decimal, Result, Ok, Err}
use Rattle.px_core.specs.Picture.{listed}
use Rattle.order_means.specs.FrameMarks.{View, ClientReading, Refusal, read_stream}
use Rattle.session_rules.specs.Steps.{Answer, journal_of_steps, answers_of_steps, frame_numbers}
use Rattle.session_rules.specs.Steps.Answer.{Joined, Left, Accepted, Refused, Nothing, Frame}
use Rattle.script_rules.specs.Script.{Asked}
use Rattle.script_rules.specs.CaptureText.{run_at_first, sent_from, encoder_frames}
use Rattle.headline.specs.Headline.{steps_of, confirmed_in}
use Rattle.demo_run.specs.Scene.{demo_size, demo_head, viewer_count}
use Rattle.demo_run.specs.Load.{demo_asked}

-- ---- each viewer

-- the bytes that a viewer is sent, frame after frame
abbrev pub sent_to : List Asked → ℕ → List ℕ
sent_to asked v = sent_from encoder_frames demo_head (run_at_first encoder_frames demo_size) asked v

-- how many of a viewer's takes have work
abbrev pub takes_of : List Asked → ℕ → ℕ
takes_of asked v = length (frame_numbers demo_head (steps_of asked) v)

-- what a client that confirmed what the viewer did makes of its bytes
abbrev pub read_by : List Asked → ℕ → Result ClientReading Refusal
read_by asked v = read_stream (confirmed_in demo_head asked v) demo_size (sent_to asked v)

-- what a reading shows, and of a refused stream nothing
abbrev pub counted_in : Result ClientReading Refusal → (View → ℕ) → ℕ
counted_in (Ok r) count = count r.view
counted_in (Err refusal) count = 0

-- marks, primary orders and rectangles of Bitmap updates, as the client reads them
abbrev pub marks_of : List Asked → ℕ → ℕ
marks_of asked v = counted_in (read_by asked v) (λ view. length view.pictures)

abbrev pub orders_of : List Asked → ℕ → ℕ
orders_of asked v = counted_in (read_by asked v) (λ view. view.orders)

abbrev pub tiles_of : List Asked → ℕ → ℕ
tiles_of asked v = counted_in (read_by asked v) (λ view. view.tiles)

-- ---- the whole run

abbrev pub over_viewers : (ℕ → ℕ) → ℕ
over_viewers count = sum (listed viewer_count 1 count)

abbrev pub refused_count : List Answer → ℕ
refused_count [] = 0
refused_count (Joined v ∷ answers) = refused_count answers
refused_count (Left ∷ answers) = refused_count answers
refused_count (Accepted ∷ answers) = refused_count answers
refused_count (Refused why ∷ answers) = 1 + refused_count answers
refused_count (Nothing ∷ answers) = refused_count answers
refused_count (Frame take ∷ answers) = refused_count answers

pub record Counts : Type 0 where
  pub steps : ℕ
  pub entries : ℕ
  pub takes : ℕ
  pub marks : ℕ
  pub orders : ℕ
  pub tiles : ℕ
  pub bytes : ℕ
  pub refused : ℕ

-- the counts of a run: the steps that were drawn, the entries of the journal, the takes with work, what the viewers' clients show, the bytes that they were
-- sent,
-- and the steps that were refused
abbrev pub counts_of : ℕ → List Asked → Counts
counts_of steps asked = record {
  steps = steps;
  entries = length (journal_of_steps demo_head (steps_of asked));
  takes = over_viewers (takes_of asked);
  marks = over_viewers (marks_of asked);
  orders = over_viewers (orders_of asked);
  tiles = over_viewers (tiles_of asked);
  bytes = over_viewers (λ v. length (sent_to asked v));
  refused = refused_count (answers_of_steps demo_head (steps_of asked));
}

-- a count stands still at the last number of 64 bits
abbrev pub kept : ℕ → ℕ
kept n = min n (2 ^ 64 - 1)

-- a word and a count behind it
abbrev pub counted : List ℕ → ℕ → List ℕ
counted word n = word ++ decimal (kept n)

abbrev pub line_of : Counts → List ℕ
line_of c = counted (codes "steps ") c.steps
    ++ (counted (codes " entries ") c.entries ++ (counted (codes " takes ") c.takes ++ (counted (codes " marks ") c.marks
    ++ (counted (codes " orders ") c.orders
    ++ (counted (codes " tiles ") c.tiles ++ (counted (codes " bytes ") c.bytes ++ (counted (codes " refused ") c.refused
    ++ 10 ∷ [])))))))

-- the line of a seed and a number of steps
abbrev pub demo_line : ℕ → ℕ → List ℕ
demo_line seed steps = line_of (counts_of steps (demo_asked seed steps))
