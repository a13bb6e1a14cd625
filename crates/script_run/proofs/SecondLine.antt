-- The second line was found: an invite begins a script of several viewers, and before any other the one viewer joins.
use Rattle.std.proofs.Common.{◌≡◌, ℕ, List, [], ◌∷◌, refl, ap, sym, ◌∙◌, subst, Bool, true, false}
use Rattle.std.specs.Prelude.{◌&&◌, not, is_some}
use Rattle.px_core.specs.declared.surface.Size.{Size}
use Rattle.line_text.specs.Lines.{Line, is_past_limits}
use Rattle.line_text.specs.Words.{words_of}
use Rattle.edge_io.specs.declared.reader.Found.{Found}
use Rattle.edge_io.specs.declared.reader.Found.TheVariants as found
use Rattle.frame_rules.specs.Encoder.{Encoder}
use Rattle.script_rules.specs.Script.{ScriptReading, begins_with_invite, invite_form, opened_reading}
use Rattle.script_rules.specs.CaptureText.{Run}
use Rattle.script_run.specs.Outcomes.{is_invite_found}
use Rattle.script_run.specs.Solo.{first_run, solo_reading, solo_run}
use Rattle.script_run.specs.Steps.{BeginsLines}
use Rattle.script_run.specs.Writing.{Writing, joined, IsWriting}
use Rattle.script_run.proofs.Outcomes.{StartAs}
use Rattle.script_run.proofs.NextLine.{Leads}

and_true : (b c : Bool) → b ≡ true → c ≡ true → (b && c) ≡ true
and_true b c e f = ap (λ x. x && c) e ∙ f

nothing_and : (b c : Bool) → c ≡ false → (b && c) ≡ false
nothing_and true c e = e
nothing_and false c e = refl

invited_start : (f : Found) (at : ℕ) (text : List ℕ) (lines : List Line)
    → ((ended : Bool) → f ≡ found.Line ended → is_past_limits at (record { text = text; ended = ended }) ≡ false)
    → is_invite_found f text ≡ true → StartAs f at text lines → begins_with_invite at lines ≡ true
invited_start (found.Line ended) at text [] within invite s = absurd s
invited_start (found.Line ended) at text (line ∷ lines) within invite s =
    ap (λ l. not (is_past_limits at l) && is_some (invite_form (words_of l.text))) s
    ∙ and_true (not (is_past_limits at (record { text = text; ended = ended }))) (is_some (invite_form (words_of text)))
    (ap not (within ended refl)) invite
invited_start found.PastLimits at text lines within invite s = absurd (cc invite)
invited_start found.End at text lines within invite s = absurd (cc invite)
invited_start found.Failed at text lines within invite s = absurd (cc invite)

solo_start : (f : Found) (at : ℕ) (text : List ℕ) (lines : List Line) → is_invite_found f text ≡ false → StartAs f at text lines
    → begins_with_invite at lines ≡ false
solo_start (found.Line ended) at text [] none s = absurd s
solo_start (found.Line ended) at text (line ∷ lines) none s =
    ap (λ l. not (is_past_limits at l) && is_some (invite_form (words_of l.text))) s
    ∙ nothing_and (not (is_past_limits at (record { text = text; ended = ended }))) (is_some (invite_form (words_of text))) none
solo_start found.PastLimits at text [] none s = absurd s
solo_start found.PastLimits at text (line ∷ lines) none s = ap (λ p. not p && is_some (invite_form (words_of line.text))) s
solo_start found.End at text [] none s = refl
solo_start found.End at text (line ∷ lines) none s = absurd s
solo_start found.Failed at text lines none s = absurd s

leads_invited : (made : Writing) (laws : IsWriting made) (f : Found) (size : Size) (at : ℕ) (text : List ℕ)
    → ((ended : Bool) → f ≡ found.Line ended → is_past_limits at (record { text = text; ended = ended }) ≡ false) → is_invite_found f text ≡ true
    → Leads (made.rest size at) f at text [] (made.from 2 at (opened_reading size []) (first_run size))
leads_invited made laws f size at text within invite = record {
  writes = λ lines s. (laws.invited size at lines (invited_start f at text lines within invite s)).writes;
  so_far = λ line lines s. (laws.invited size at (line ∷ lines) (invited_start f at text (line ∷ lines) within invite s)).so_far line lines refl;
  refuses = λ lines s. (laws.invited size at lines (invited_start f at text lines within invite s)).refuses;
  none_yet = laws.none_behind size at;
}

leads_solo : (made : Writing) (laws : IsWriting made) (f : Found) (size : Size) (at : ℕ) (text : List ℕ) → is_invite_found f text ≡ false
    → Leads (made.rest size at) f at text (joined made size) (made.from 2 at (solo_reading size) (solo_run size))
leads_solo made laws f size at text none = record {
  writes = λ lines s. (laws.solo size at lines (solo_start f at text lines none s)).writes;
  so_far = λ line lines s. (laws.solo size at (line ∷ lines) (solo_start f at text (line ∷ lines) none s)).so_far line lines refl;
  refuses = λ lines s. (laws.solo size at lines (solo_start f at text lines none s)).refuses;
  none_yet = laws.none_behind size at;
}

-- what was written before the second line leads to what its line and those behind it give
pub record SecondBegins (made : Writing) (f : Found) (size : Size) (at : ℕ) (text begun : List ℕ) (stands : ScriptReading → Run Encoder → Type 0) : Type 0 where
  pub r : ScriptReading
  pub run : Run Encoder
  pub standing : stands r run
  pub leads : Leads (made.rest size at) f at text begun (made.from 2 at r run)

pub second_leads : (made : Writing) (laws : IsWriting made) (invite : Bool) (f : Found) (size : Size) (at : ℕ) (text begun : List ℕ) (stands : ScriptReading → Run Encoder → Type 0)
    → ((ended : Bool) → f ≡ found.Line ended → is_past_limits at (record { text = text; ended = ended }) ≡ false)
    → is_invite_found f text ≡ invite → BeginsLines made invite size stands begun → SecondBegins made f size at text begun stands
second_leads made laws true f size at text begun stands within is b = record {
  r = opened_reading size [];
  run = first_run size;
  standing = b.0;
  leads = subst (λ t. Leads (made.rest size at) f at text t (made.from 2 at (opened_reading size []) (first_run size))) (sym b.1)
      (leads_invited made laws f size at text within is);
}
second_leads made laws false f size at text begun stands within is b = record {
  r = solo_reading size;
  run = solo_run size;
  standing = b.0;
  leads = subst (λ t. Leads (made.rest size at) f at text t (made.from 2 at (solo_reading size) (solo_run size))) (sym b.1) (leads_solo made laws f size at text is);
}
