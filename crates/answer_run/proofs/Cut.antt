-- The frames in a front of an answer show the first takes.
use Rattle.std.proofs.Common.{◌≡◌, ℕ, zero, suc, List, [], ◌∷◌, ◌++◌, length, take, drop, refl, ap, sym, ◌∙◌, subst}
use Rattle.std.specs.Prelude.{All}
use Rattle.std.proofs.lemmas.List.Elements.{All-nil, All-cons, All-head, All-tail}
use Rattle.px_core.specs.declared.surface.Size.{Size}
use Rattle.session_rules.specs.Steps.{journal_of_steps, frame_numbers}
use Rattle.session_rules.proofs.Journals.{IsLegalJournal-journal_of_steps}
use Rattle.session_rules.proofs.Changes.{ChangesAreTheHolders-legal}
use Rattle.headline.specs.Headline.{ConfirmAllCaches, HasSessionSize, steps_of, confirmed_in}
use Rattle.headline.specs.Fronts.{IsFront}
use Rattle.headline.specs.Pointed.{packets_told}
use Rattle.headline.proofs.PointedFronts.{front_sees_both}
use Rattle.conn_rules.specs.declared.conn_step.ConnStep.{ConnStep}
use Rattle.conn_rules.specs.declared.conn_step.ConnStep.TheVariants as step
use Rattle.conn_rules.specs.Sound.{ConfirmsCaches, AllConfirmCaches}
use Rattle.conn_rules.proofs.SoundSteps.{heard_sound}
use Rattle.answer_run.specs.Asking.{first_guest, client, owners_head}
use Rattle.answer_run.specs.Service.{first_service, heard_of, ultimatum_of, asked_of_stream, replies_of_stream, frames_of_stream, ending_of_stream, answer_of_stream}
use Rattle.answer_run.specs.Cut.{frames_in, ShowsFirstTakes, IsFrontOfAnswer}
use Rattle.answer_run.specs.Visits.{HasCaches}
use Rattle.answer_run.proofs.Streams.{all_caches}
use Rattle.answer_run.proofs.Present.{client_sees}

-- ---- what a stream confirms

caches_of : (one : ConnStep) → ConfirmsCaches one → HasCaches one
caches_of (step.Named name) p = tt
caches_of (step.Ready confirmed) p = record { bitmaps = p.bitmaps; glyphs = p.glyphs }
caches_of (step.Event event) p = tt
caches_of (step.Refresh area) p = tt
caches_of (step.Suppress stop) p = tt
caches_of step.Shutdown p = tt
caches_of step.Bye p = tt
caches_of step.Packet p = tt

all_of : (steps : List ConnStep) → AllConfirmCaches steps → All HasCaches steps
all_of [] p = All-nil HasCaches
all_of (one ∷ steps) p =
    All-cons HasCaches one steps (caches_of one (All-head ConfirmsCaches one steps p)) (all_of steps (All-tail ConfirmsCaches one steps p))

pub stream_caches : (size : Size) (owner stream : List ℕ) → ConfirmAllCaches (asked_of_stream size owner stream)
stream_caches size owner stream =
    let x = heard_of (first_service size) stream in
    all_caches (owners_head size owner) first_guest x.steps (all_of x.steps (heard_sound (first_service size).hearing stream tt).0)

-- ---- fronts

dropped : (n : ℕ) (front rest : List ℕ) → IsFront (drop n front) (drop n (front ++ rest))
dropped zero front rest = record { rest = rest; joined = refl }
dropped (suc n) [] rest = record { rest = drop (suc n) rest; joined = refl }
dropped (suc n) (b ∷ front) rest = dropped n front rest

taken : (n : ℕ) (front rest : List ℕ) → IsFront (take n front) (take n (front ++ rest))
taken zero front rest = record { rest = []; joined = refl }
taken (suc n) [] rest = record { rest = take (suc n) rest; joined = refl }
taken (suc n) (b ∷ front) rest = let f = taken n front rest in record { rest = f.rest; joined = ap (λ xs. b ∷ xs) f.joined }

behind : (replies more : List ℕ) → drop (length replies) (replies ++ more) ≡ more
behind [] more = refl
behind (b ∷ replies) more = behind replies more

before : (frames more : List ℕ) → take (length frames) (frames ++ more) ≡ frames
before [] more = refl
before (b ∷ frames) more = ap (λ xs. b ∷ xs) (before frames more)

grouped : (replies frames last : List ℕ) → (replies ++ frames) ++ last ≡ replies ++ (frames ++ last)
grouped [] frames last = refl
grouped (b ∷ replies) frames last = ap (λ xs. b ∷ xs) (grouped replies frames last)

frames_front : (replies frames last text rest : List ℕ) → (replies ++ frames) ++ last ≡ text ++ rest → IsFront (frames_in replies frames text) frames
frames_front replies frames last text rest e =
    let d = dropped (length replies) text rest in
    let t = taken (length frames) (drop (length replies) text) d.rest in
    let whole : take (length frames) (drop (length replies) (text ++ rest)) ≡ frames =
    ap (λ xs. take (length frames) (drop (length replies) xs)) (sym e ∙ grouped replies frames last)
    ∙ ap (take (length frames)) (behind replies (frames ++ last)) ∙ before frames last in
    record { rest = t.rest; joined = sym whole ∙ ap (take (length frames)) d.joined ∙ t.joined }

-- ---- a service that was cut off

pub front_shows : (size : Size) (owner stream text : List ℕ) → HasSessionSize (owners_head size owner) → IsFront text (answer_of_stream size owner stream)
    → IsFrontOfAnswer size owner stream text
front_shows size owner stream text sized f =
    let head = owners_head size owner in
    let asked = asked_of_stream size owner stream in
    let sees = client_sees size owner [] (heard_of (first_service size) stream).steps sized (stream_caches size owner stream) in
    record {
      front = f;
      shows_journal = record {
        client_sees = front_sees_both size (confirmed_in head asked client) (journal_of_steps head (steps_of asked)) (frame_numbers head (steps_of asked) client)
            (frames_of_stream size owner stream) (frames_in (replies_of_stream size owner stream) (frames_of_stream size owner stream) text)
            (sees.viewers client) (sees.pointers client)
            (frames_front (replies_of_stream size owner stream) (frames_of_stream size owner stream) (ultimatum_of (ending_of_stream size owner stream)) text f.rest f.joined);
        journal_is_legal = sees.journal_is_legal;
        changes_are_the_holders = sees.changes_are_the_holders;
      };
    }

-- a service that wrote nothing
no_frames : (replies frames : List ℕ) → [] ≡ frames_in replies frames []
no_frames [] [] = refl
no_frames [] (f ∷ frames) = refl
no_frames (b ∷ replies) [] = refl
no_frames (b ∷ replies) (f ∷ frames) = refl

pub nothing_shows : (size : Size) (owner stream : List ℕ) → IsFrontOfAnswer size owner stream []
nothing_shows size owner stream =
    let head = owners_head size owner in
    let asked = asked_of_stream size owner stream in
    let legal = IsLegalJournal-journal_of_steps head (steps_of asked) in
    record {
      front = record { rest = answer_of_stream size owner stream; joined = refl };
      shows_journal = subst (λ xs. ShowsFirstTakes head asked xs) (no_frames (replies_of_stream size owner stream) (frames_of_stream size owner stream)) (record {
        client_sees = record {
          pictures = record {
            seen = [];
            are_first = record { rest = frame_numbers head (steps_of asked) client; joined = refl };
            marks_show_journal = refl;
          };
          pointers = record {
            marks_show_pointers = refl;
            packets_are_first = record {
              rest = packets_told (confirmed_in head asked client) size (journal_of_steps head (steps_of asked)) [] (frame_numbers head (steps_of asked) client);
              joined = refl;
            };
          };
        };
        journal_is_legal = legal;
        changes_are_the_holders = ChangesAreTheHolders-legal head (journal_of_steps head (steps_of asked)) legal;
      });
    }
