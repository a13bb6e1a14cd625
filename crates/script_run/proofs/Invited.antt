-- A row was added.
use Rattle.std.proofs.Common.{◌≡◌, ℕ, ◌<◌, List, [], ◌∷◌, length, refl, ap, sym, ◌∙◌, subst, Some, None, Bool, true, false, arith}
use Rattle.std.specs.Prelude.{◌||◌, not, nat_le}
use Rattle.std.proofs.lemmas.Bool.Decides.{nat_tests}
use Rattle.draw_ops.specs.Fits.{first_some}
use Rattle.frame_rules.specs.Encoder.{Encoder}
use Rattle.session_rules.specs.declared.entry.Role.{Role}
use Rattle.session_rules.specs.Journal.{Row}
use Rattle.script_rules.specs.Script.{ScriptReading, form_outcome, unless_broken, broken_if, is_name, is_invited, row_limit, order_rule, name_rule, with_row}
use Rattle.script_rules.specs.Script.LineForm.{InviteForm}
use Rattle.script_rules.specs.Script.LineOutcome.{Invites}
use Rattle.script_rules.specs.CaptureText.{Run}
use Rattle.script_run.specs.Standing.{Seen, Stands}
use Rattle.script_run.specs.Steps.{LineAnswered}
use Rattle.script_run.specs.Writing.{Writing}

abbrev row_of : List ℕ → Role → Row
row_of name role = record { name = name; role = role }

fits : (r : ScriptReading) (name : List ℕ) (role : Role) → r.begun ≡ false → is_name name ≡ true → is_invited name r.head.rows ≡ false → length r.head.rows < 64
    → form_outcome r (Some (InviteForm name role)) ≡ Invites (row_of name role)
fits r name role begun named fresh room =
    let few : nat_le row_limit (length r.head.rows) ≡ false = grind (arith, nat_tests, room) in
    let outcome = λ (b n : Bool). unless_broken (first_some (broken_if b order_rule ∷ broken_if n name_rule ∷ [])) (Invites (row_of name role)) in
    ap (λ b. outcome b (not (is_name name) || (is_invited name r.head.rows || nat_le row_limit (length r.head.rows)))) begun
    ∙ ap (λ n. outcome false (not n || (is_invited name r.head.rows || nat_le row_limit (length r.head.rows)))) named
    ∙ ap (λ i. outcome false (i || nat_le row_limit (length r.head.rows))) fresh
    ∙ ap (outcome false) few

pub invited : (made : Writing) (r : ScriptReading) (run : Run Encoder) (seen : Seen) (keeps stands : ScriptReading → Run Encoder → Type 0) (name : List ℕ) (role : Role) (out : List ℕ)
    → Stands seen keeps r run → seen.begun ≡ false → is_name name ≡ true → is_invited name seen.head.rows ≡ false → length seen.head.rows < 64
    → stands (with_row r (row_of name role)) run → LineAnswered made (form_outcome r (Some (InviteForm name role))) None r run stands out out
invited made r run seen keeps stands name role out s begun named fresh room standing =
    let rows : r.head.rows ≡ seen.head.rows = ap (λ h. h.rows) s.head in
    let outcome = fits r name role (s.begun ∙ begun) named (ap (is_invited name) rows ∙ fresh) (subst (λ rs. length rs < 64) (sym rows) room) in
    subst (λ o. LineAnswered made o None r run stands out out) (sym outcome) (standing, refl)
