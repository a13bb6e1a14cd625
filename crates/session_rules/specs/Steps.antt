-- Steps: what is asked of a session, what each step is answered, the journal that steps make, and the frames that viewers take.
use Rattle.std.specs.Prelude.{◌≡◌, ℕ, ◌+◌, ◌≤◌, ◌==◌, Bool, true, false, ◌&&◌, ◌||◌, not, List, [], ◌∷◌, ◌++◌, map, Option, Some, None, is_none}
use Rattle.std.specs.Prelude.{option_to_list, if◌then◌else◌}
use Rattle.line_text.specs.Words.{is_same_word}
use Rattle.px_core.specs.declared.surface.Size.{Size}
use Rattle.px_core.specs.declared.rectangle.Rect.{Rect}
use Rattle.px_core.specs.Tiles.{Tiles, no_tiles, all_tiles, either_tiles, tiles_of, share_tile}
use Rattle.draw_ops.specs.declared.shape.Drawing.{Drawing}
use Rattle.input_pdu.specs.declared.event.Event.{Event}
use Rattle.input_pdu.specs.declared.event.Event.TheVariants.{Sync, Scan, Unicode, Mouse, MouseX}
use Rattle.session_rules.specs.declared.entry.Role.{Role}
use Rattle.session_rules.specs.declared.entry.Entry.{Entry}
use Rattle.session_rules.specs.declared.entry.Entry.TheVariants.{Join, Leave, Give, Input, Draw}
use Rattle.session_rules.specs.Journal.{Head, Row, Reached, Refusal, reached_at_first, reached_after_entry, next_of, holds, f12, is_f12, is_same_role}
use Rattle.session_rules.specs.Journal.{refusal_of}
use Rattle.session_rules.specs.Journal.Refusal.{NotInvited}

-- ---- steps and answers

-- a step, of a viewer by its number; a join comes with a name instead
pub data Step : Type 0 where
  JoinStep : List ℕ → Step
  LeaveStep : ℕ → Step
  InputStep : ℕ → Event → Step
  DrawStep : ℕ → Drawing → Step
  RefreshStep : ℕ → Rect → Step
  SuppressStep : ℕ → Bool → Step
  TakeStep : ℕ → Step

-- a take with work: the viewer's number before it, the journal's length that it found, and the tiles that the viewer had asked for
pub record TakeOf : Type 0 where
  pub before : ℕ
  pub number : ℕ
  pub asked : Tiles

pub data Answer : Type 0 where
  Joined : ℕ → Answer
  Left : Answer
  Accepted : Answer
  Refused : Refusal → Answer
  Nothing : Answer
  Frame : TakeOf → Answer

-- ---- a session in the course of steps

-- what is kept of each viewer, by its number
abbrev pub PerViewer : Type 0 → Type 0
PerViewer A = ℕ → A

abbrev pub replaced_for : {A : Type 0} → ℕ → A → PerViewer A → PerViewer A
replaced_for v x kept u = if v == u then x else kept u

-- what the journal has reached, and of each viewer the tiles that it asked for, whether it is suppressed, and the number of its last take
pub record Play : Type 0 where
  pub reached : Reached
  pub asked : PerViewer Tiles
  pub suppressed : PerViewer Bool
  pub taken : PerViewer ℕ

abbrev pub play_at_first : Size → Play
play_at_first size = record { reached = reached_at_first size; asked = λ v. no_tiles; suppressed = λ v. false; taken = λ v. 0 }

-- ---- what a step does

-- a step enters an entry, where that is legal; or it changes what is kept of a viewer; or it is only answered
pub data Effect : Type 0 where
  Enters : Entry → Answer → Effect
  Asks : ℕ → Tiles → Effect
  Suppresses : ℕ → Bool → Effect
  Takes : ℕ → Effect
  Answers : Answer → Effect

-- the role of the row that has a name
abbrev pub row_role : List ℕ → List Row → Option Role
row_role name [] = None
row_role name (row ∷ rows) = if is_same_word name row.name then Some row.role else row_role name rows

-- viewers are numbered by their joins, from 1
abbrev pub join_effect : Play → Option Role → Effect
join_effect p None = Answers (Refused NotInvited)
join_effect p (Some role) = Enters (Join (p.reached.joins + 1) role) (Joined (p.reached.joins + 1))

abbrev pub is_release : Event → Bool
is_release Sync = false
is_release (Scan code up) = up
is_release (Unicode code up) = up
is_release (Mouse flags x y) = false
is_release MouseX = false

-- to whom F12 of a viewer gives control: of the holder to the next, of another to itself
abbrev pub receiver_of : Reached → ℕ → ℕ
receiver_of r v = if holds r v then next_of r.viewers v else v

-- F12 gives control where it is pressed and does nothing where it is released; any other event is for the board
abbrev pub input_effect : Play → ℕ → Event → Effect
input_effect p v e = if is_f12 e
    then (if is_release e then Answers Accepted else Enters (Give v (receiver_of p.reached v)) Accepted)
    else Enters (Input v e) Accepted

-- whether a take has work: the viewer isn't suppressed, and the journal has grown since its last take or a tile is asked for
abbrev pub has_work : Size → Play → ℕ → Bool
has_work size p v = not (p.suppressed v) && (not (p.taken v == p.reached.length) || share_tile size (p.asked v) all_tiles)

abbrev pub take_effect : Bool → ℕ → Effect
take_effect true v = Takes v
take_effect false v = Answers Nothing

abbrev pub effect_of : Head → Play → Step → Effect
effect_of head p (JoinStep name) = join_effect p (row_role name head.rows)
effect_of head p (LeaveStep v) = Enters (Leave v) Left
effect_of head p (InputStep v e) = input_effect p v e
effect_of head p (DrawStep v d) = Enters (Draw v d) Accepted
effect_of head p (RefreshStep v r) = Asks v (tiles_of head.size r)
effect_of head p (SuppressStep v stop) = Suppresses v stop
effect_of head p (TakeStep v) = take_effect (has_work head.size p v) v

-- ---- what comes of a step

abbrev pub take_of : Play → ℕ → TakeOf
take_of p v = record { before = p.taken v; number = p.reached.length; asked = p.asked v }

-- the entry that a step appends, if any, its answer, and the session after it
pub record Outcome : Type 0 where
  pub entry : Option Entry
  pub answer : Answer
  pub play : Play

-- an entry that is refused changes nothing
abbrev pub entered : Head → Play → Entry → Answer → Option Refusal → Outcome
entered head p e a None = record { entry = Some e; answer = a; play = record p { reached = reached_after_entry head.size p.reached e } }
entered head p e a (Some r) = record { entry = None; answer = Refused r; play = p }

abbrev pub outcome_of : Head → Play → Effect → Outcome
outcome_of head p (Enters e a) = entered head p e a (refusal_of head p.reached e)
outcome_of head p (Asks v tiles) = record {
  entry = None;
  answer = Accepted;
  play = record p {
    asked = replaced_for v
        (either_tiles (p.asked v) tiles) p.asked;
  };
}
outcome_of head p (Suppresses v stop) = record { entry = None; answer = Accepted; play = record p { suppressed = replaced_for v stop p.suppressed } }
outcome_of head p (Takes v) = record {
  entry = None;
  answer = Frame (take_of p v);
  play = record p { asked = replaced_for v no_tiles p.asked; taken = replaced_for v p.reached.length p.taken };
}
outcome_of head p (Answers a) = record { entry = None; answer = a; play = p }

abbrev pub outcome : Head → Play → Step → Outcome
outcome head p s = outcome_of head p (effect_of head p s)

-- ---- one step after the other

-- the answer of a step
abbrev pub answer_of_step : Head → Play → Step → Answer
answer_of_step head p s = (outcome head p s).answer

-- the session after steps
abbrev pub session_after : Head → Play → List Step → Play
session_after head p [] = p
session_after head p (s ∷ ss) = session_after head (outcome head p s).play ss

abbrev pub entries_from : Head → Play → List Step → List Entry
entries_from head p [] = []
entries_from head p (s ∷ ss) = option_to_list (outcome head p s).entry ++ entries_from head (outcome head p s).play ss

abbrev pub answers_from : Head → Play → List Step → List Answer
answers_from head p [] = []
answers_from head p (s ∷ ss) = answer_of_step head p s ∷ answers_from head (outcome head p s).play ss

-- the take of a viewer that an effect is
abbrev pub take_in : ℕ → Play → Effect → List TakeOf
take_in v p (Enters e a) = []
take_in v p (Asks w tiles) = []
take_in v p (Suppresses w stop) = []
take_in v p (Takes w) = if w == v then take_of p v ∷ [] else []
take_in v p (Answers a) = []

abbrev pub takes_from : Head → Play → ℕ → List Step → List TakeOf
takes_from head p v [] = []
takes_from head p v (s ∷ ss) = take_in v p (effect_of head p s) ++ takes_from head (outcome head p s).play v ss

-- ---- whole runs

-- the journal that steps make of a new session
abbrev pub journal_of_steps : Head → List Step → List Entry
journal_of_steps head steps = entries_from head (play_at_first head.size) steps

-- the answers of steps
abbrev pub answers_of_steps : Head → List Step → List Answer
answers_of_steps head steps = answers_from head (play_at_first head.size) steps

-- the takes with work of a viewer
abbrev pub takes_of : Head → List Step → ℕ → List TakeOf
takes_of head steps v = takes_from head (play_at_first head.size) v steps

-- the numbers of a viewer's frames
abbrev pub frame_numbers : Head → List Step → ℕ → List ℕ
frame_numbers head steps v = map (λ t. t.number) (takes_of head steps v)

-- ---- a journal as steps

-- the name of the first row that has a role
abbrev pub name_of_role : Role → List Row → List ℕ
name_of_role role [] = []
name_of_role role (row ∷ rows) = if is_same_role role row.role then row.name else name_of_role role rows

-- the step that makes an entry: a Give becomes F12 pressed by its giver
abbrev pub step_of_entry : Head → Entry → Step
step_of_entry head (Join v role) = JoinStep (name_of_role role head.rows)
step_of_entry head (Leave v) = LeaveStep v
step_of_entry head (Give by to) = InputStep by (Scan f12 false)
step_of_entry head (Input by event) = InputStep by event
step_of_entry head (Draw by d) = DrawStep by d

abbrev pub steps_of_journal : Head → List Entry → List Step
steps_of_journal head j = map (step_of_entry head) j

-- ---- facts about steps

-- a viewer's takes follow each other: each begins with the number that the one before ended with, and numbers never fall
abbrev pub TakesFollow : ℕ → List TakeOf → ℕ → Type 0
TakesFollow from [] to = from ≡ to
TakesFollow from (t ∷ ts) to = (t.before ≡ from) × (from ≤ t.number) × TakesFollow t.number ts to

-- whether no row of a list has a name
abbrev pub is_new_name : List ℕ → List Row → Bool
is_new_name name rows = is_none (row_role name rows)

-- the rows' names differ from each other
abbrev pub are_names_distinct : List Row → Bool
are_names_distinct [] = true
are_names_distinct (row ∷ rows) = is_new_name row.name rows && are_names_distinct rows
