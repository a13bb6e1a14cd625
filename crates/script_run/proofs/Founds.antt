-- What is done where a line was found.
use Rattle.std.proofs.Common.{◌≡◌, ℕ, List, refl, ap, sym, ◌∙◌, subst, Some, None, Bool, append-nil}
use Rattle.std.specs.Prelude.{Option}
use Rattle.edge_io.specs.declared.reader.Found.{Found}
use Rattle.edge_io.specs.declared.reader.Found.TheVariants as found
use Rattle.frame_rules.specs.Encoder.{Encoder}
use Rattle.script_rules.specs.Script.{ScriptReading, LineOutcome}
use Rattle.script_rules.specs.Script.LineOutcome.{Breaks, Invites, Asks}
use Rattle.script_rules.specs.CaptureText.{Run}
use Rattle.script_lines.specs.Lines.{number_of_rule}
use Rattle.script_lines.specs.declared.rule.LineRule.{LineRule}
use Rattle.script_lines.specs.declared.rule.LineRule.TheVariants as rule
use Rattle.script_run.specs.Outcomes.{outcome_within, found_outcome}
use Rattle.script_run.specs.Steps.{LineAnswered, DoesLine}
use Rattle.script_run.specs.Writing.{Writing}

-- ---- a line that breaks no rule was done

answered : (made : Writing) → (o : LineOutcome) (broken : Option LineRule) (r : ScriptReading) (run : Run Encoder) (k : ℕ) (stands : ScriptReading → Run Encoder → Type 0) (old new : List ℕ)
    → LineAnswered made o broken r run stands old new → broken ≡ None → DoesLine made (Some o) k r run stands (Some old) (Some new)
answered made (Breaks rule) None r run k stands old new done e = absurd done
answered made (Breaks rule) (Some b) r run k stands old new done e = absurd (cc e)
answered made (Invites row) None r run k stands old new done e =
    record { outcome = Invites row; is = refl; breaks_none = tt; standing = done.0; written = done.1 ∙ sym (append-nil old) }
answered made (Invites row) (Some b) r run k stands old new done e = absurd done
answered made (Asks a) None r run k stands old new done e = record { outcome = Asks a; is = refl; breaks_none = tt; standing = done.standing; written = done.written }
answered made (Asks a) (Some b) r run k stands old new done e = absurd done

pub line_done : (made : Writing) → (f : Found) (ended : Bool) (text : List ℕ) (broken answer : Option LineRule) (r : ScriptReading) (run : Run Encoder) (k : ℕ) (done stands : ScriptReading → Run Encoder → Type 0)
    (old new line : List ℕ) → f ≡ found.Line ended → LineAnswered made (outcome_within r text ended) broken r run done old new
    → answer ≡ broken → answer ≡ None → stands ≡ done → line ≡ new → DoesLine made (found_outcome f r text) k r run stands (Some old) (Some line)
line_done made f ended text broken answer r run k done stands old new line is does same none holds same_line =
    subst (λ x. DoesLine made (found_outcome x r text) k r run stands (Some old) (Some line)) (sym is)
    (subst (λ h. DoesLine made (Some (outcome_within r text ended)) k r run h (Some old) (Some line)) (sym holds)
    (subst (λ l. DoesLine made (Some (outcome_within r text ended)) k r run done (Some old) (Some l)) (sym same_line)
    (answered made (outcome_within r text ended) broken r run k done old new does (sym same ∙ none))))

-- ---- a line that breaks a rule

broken_is : (made : Writing) → (o : LineOutcome) (broken : Option LineRule) (b : LineRule) (r : ScriptReading) (run : Run Encoder) (stands : ScriptReading → Run Encoder → Type 0) (old new : List ℕ)
    → LineAnswered made o broken r run stands old new → broken ≡ Some b → o ≡ Breaks (number_of_rule b)
broken_is made (Breaks n) None b r run stands old new done e = absurd done
broken_is made (Breaks n) (Some c) b r run stands old new done e = let same : c ≡ b = cc e in ap Breaks (sym done.0 ∙ ap number_of_rule same)
broken_is made (Invites row) None b r run stands old new done e = absurd (cc e)
broken_is made (Invites row) (Some c) b r run stands old new done e = absurd done
broken_is made (Asks a) None b r run stands old new done e = absurd (cc e)
broken_is made (Asks a) (Some c) b r run stands old new done e = absurd done

pub line_broken : (made : Writing) → (f : Found) (ended : Bool) (text : List ℕ) (broken answer : Option LineRule) (b : LineRule) (r : ScriptReading) (run : Run Encoder) (done : ScriptReading → Run Encoder → Type 0)
    (old new : List ℕ) → f ≡ found.Line ended → LineAnswered made (outcome_within r text ended) broken r run done old new → answer ≡ broken → answer ≡ Some b
    → found_outcome f r text ≡ Some (Breaks (number_of_rule b))
line_broken made f ended text broken answer b r run done old new is does same some =
    ap (λ x. found_outcome x r text) is
    ∙ ap (λ o. Some o) (broken_is made (outcome_within r text ended) broken b r run done old new does (sym same ∙ some))

pub past_broken : (f : Found) (text : List ℕ) (answer : Option LineRule) (b : LineRule) (r : ScriptReading) → f ≡ found.PastLimits → answer ≡ Some rule.Text
    → answer ≡ Some b → found_outcome f r text ≡ Some (Breaks (number_of_rule b))
past_broken f text answer b r is past some =
    let same : rule.Text ≡ b = cc (past, some) in ap (λ x. found_outcome x r text) is ∙ ap (λ c. Some (Breaks (number_of_rule c))) same

-- nothing was appended of it
unsaid : (made : Writing) → (o : LineOutcome) (broken : Option LineRule) (b : LineRule) (r : ScriptReading) (run : Run Encoder) (stands : ScriptReading → Run Encoder → Type 0) (old new : List ℕ)
    → LineAnswered made o broken r run stands old new → broken ≡ Some b → new ≡ old
unsaid made (Breaks n) None b r run stands old new done e = absurd done
unsaid made (Breaks n) (Some c) b r run stands old new done e = done.1
unsaid made (Invites row) None b r run stands old new done e = absurd (cc e)
unsaid made (Invites row) (Some c) b r run stands old new done e = absurd done
unsaid made (Asks a) None b r run stands old new done e = absurd (cc e)
unsaid made (Asks a) (Some c) b r run stands old new done e = absurd done

pub line_unsaid : (made : Writing) → (ended : Bool) (text : List ℕ) (broken answer : Option LineRule) (b : LineRule) (r : ScriptReading) (run : Run Encoder) (done : ScriptReading → Run Encoder → Type 0)
    (old new : List ℕ) → LineAnswered made (outcome_within r text ended) broken r run done old new → answer ≡ broken → answer ≡ Some b → new ≡ old
line_unsaid made ended text broken answer b r run done old new does same some = unsaid made (outcome_within r text ended) broken b r run done old new does (sym same ∙ some)

-- what does the lines stands as before
standing_on : (made : Writing) (o : LineOutcome) (broken : Option LineRule) (b : LineRule) (r : ScriptReading) (run : Run Encoder) (stands : ScriptReading → Run Encoder → Type 0)
    (old new : List ℕ) → LineAnswered made o broken r run stands old new → broken ≡ Some b → stands r run
standing_on made (Breaks n) None b r run stands old new done e = absurd done
standing_on made (Breaks n) (Some c) b r run stands old new done e = done.2
standing_on made (Invites row) None b r run stands old new done e = absurd (cc e)
standing_on made (Invites row) (Some c) b r run stands old new done e = absurd done
standing_on made (Asks a) None b r run stands old new done e = absurd (cc e)
standing_on made (Asks a) (Some c) b r run stands old new done e = absurd done

pub line_stands : (made : Writing) (ended : Bool) (text : List ℕ) (broken answer : Option LineRule) (b : LineRule) (r : ScriptReading) (run : Run Encoder)
    (done stands : ScriptReading → Run Encoder → Type 0) (old new : List ℕ) → LineAnswered made (outcome_within r text ended) broken r run done old new → answer ≡ broken
    → answer ≡ Some b → stands ≡ done → stands r run
line_stands made ended text broken answer b r run done stands old new does same some holds =
    subst (λ (s : ScriptReading → Run Encoder → Type 0). s r run) (sym holds) (standing_on made (outcome_within r text ended) broken b r run done old new does (sym same ∙ some))
