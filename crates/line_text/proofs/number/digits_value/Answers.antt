use Rattle.std.proofs.Common.{◌≡◌, ◌∷◌, None, drop, get_or, suc, drop-cons, refl, sym, ◌∙◌, ap}
use Rattle.std.specs.Char.{is_digit}
use Rattle.line_text.specs.Numbers.{digits_behind, at_most}
use Rattle.line_text.proofs.DigitLemmas.{number_stops}
use Rattle.line_text.proofs.number.digits_value.Goals as goal

pub returns-in_err-value-clause-value : goal.returns-in_err-value-clause-value
returns-in_err-value-clause-value c =
    let i = c.loop-digit.digit-index in
    let digits = c.args.digits.now in
    let b = get_or digits i 0 in
    let stops : at_most c.args.most (digits_behind 10 c.loop-digit.value (b ∷ drop (suc i) digits)) ≡ None =
    number_stops c.args.most c.loop-digit.value b (drop (suc i) digits) (is_digit b 10) refl c.in_err-value.ensures.value in
    let step : drop i digits ≡ b ∷ drop (suc i) digits = drop-cons digits i 0 c.loop-digit-test.true in
    c.from_residual.ensures ∙ sym stops ∙ ap (λ ds. at_most c.args.most (digits_behind 10 c.loop-digit.value ds)) (sym step) ∙ c.loop-digit.invariant.value
