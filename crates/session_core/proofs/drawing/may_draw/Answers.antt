use Rattle.std.proofs.Common.{◌≡◌, ◌+◌, ◌∙◌, None, false, refl, ap, sym, subst}
use Rattle.std.proofs.lemmas.Result.{err_from_is_err_and}
use Rattle.std.specs.Prelude.{Err, ◌&&◌, not, nat_lt, nat_le}
use Rattle.draw_ops.specs.Fits.{broken_rule, slot_misfit}
use Rattle.session_rules.specs.Journal.{names_board_slot}
use Rattle.session_core.specs.declared.about.About.{About}
use Rattle.session_core.specs.Refusing.{SaysFit, KeepsRules}
use Rattle.session_core.specs.Standing.{reached_of}
use Rattle.session_core.proofs.DrawAnswers.{not_none, not_holder, breaks_rule, lacks_slot, by_room}
use Rattle.session_core.proofs.drawing.may_draw.Goals as goal

pub returns-then-not-holds : goal.returns-then-not-holds
returns-then-not-holds c head n same = (
  not_holder head (reached_of c.args.standing.now n) c.args.v c.args.d.now c.ranges.v.fits c.requires.range (sym (c.holds.ensures n) ∙ c.if-not-holds.true),
  not_none _,
)

pub returns-in_err-keeps_rules : goal.returns-in_err-keeps_rules
returns-in_err-keeps_rules c head n same =
    let p = err_from_is_err_and c.from_residual.result c.from_residual.ensures.1 in
    rw (p.1, p.2) (breaks_rule head (reached_of c.args.standing.now n) c.args.v c.args.d.now c.in_err-keeps_rules.field-0.0 c.ranges.v.fits c.requires.range
    (sym (c.holds.ensures n) ∙ c.if-not-holds.false)
    (subst (λ own. KeepsRules (Err c.in_err-keeps_rules.field-0.0) (broken_rule head.size c.args.d.now) own) (ap (λ (a : About). a.is_boards) c.requires.about)
    (subst (λ s. KeepsRules (Err c.in_err-keeps_rules.field-0.0) (broken_rule s c.args.d.now) c.args.about.is_boards) (sym same) c.in_err-keeps_rules.ensures)))

pub returns-in_err-fit : goal.returns-in_err-fit
returns-in_err-fit c head n same =
    let p = err_from_is_err_and c.from_residual-in_err-fit.result c.from_residual-in_err-fit.ensures.1 in
    let kept : (broken_rule c.args.standing.now.surface.size c.args.d.now ≡ None) × (c.args.about.is_boards ≡ false) = c.in_ok-keeps_rules.ensures in
    let other : names_board_slot c.args.d.now.shape ≡ false = sym (ap (λ (a : About). a.is_boards) c.requires.about) ∙ kept.1 in
    rw (p.1, p.2) (lacks_slot head (reached_of c.args.standing.now n) c.args.v c.args.d.now c.in_err-fit.field-0.0 c.ranges.v.fits c.requires.range
    (sym (c.holds.ensures n) ∙ c.if-not-holds.false) (ap (λ s. broken_rule s c.args.d.now) same ∙ kept.0) other
    (subst (λ s. SaysFit (Err c.in_err-fit.field-0.0) (slot_misfit s c.args.standing.now.surface.state c.args.d.now.shape)) (sym same) c.in_err-fit.ensures))

pub returns-then-is_full : goal.returns-then-is_full
returns-then-is_full c head n same =
    let kept : (broken_rule c.args.standing.now.surface.size c.args.d.now ≡ None) × (c.args.about.is_boards ≡ false) = c.in_ok-keeps_rules.ensures in
    let other : names_board_slot c.args.d.now.shape ≡ false = sym (ap (λ (a : About). a.is_boards) c.requires.about) ∙ kept.1 in
    let fits : slot_misfit c.args.standing.now.surface.size c.args.standing.now.surface.state c.args.d.now.shape ≡ None = c.in_ok-fit.ensures in (
      by_room head (reached_of c.args.standing.now n) c.args.v c.args.d.now c.is_full.result c.ranges.v.fits c.requires.range
          (sym (c.holds.ensures n) ∙ c.if-not-holds.false) (ap (λ s. broken_rule s c.args.d.now) same ∙ kept.0) other
          (ap (λ s. slot_misfit s c.args.standing.now.surface.state c.args.d.now.shape) same ∙ fits) (c.is_full.ensures ∙ ap (λ (a : About). not (nat_lt c.args.standing.now.limited 1048576 && nat_le (c.args.standing.now.image_pixels + a.pixels) 67108864)) c.requires.about)
          ∙ rw c.if-is_full.true refl,
      not_none _,
    )

pub returns : goal.returns
returns c head n same =
    let kept : (broken_rule c.args.standing.now.surface.size c.args.d.now ≡ None) × (c.args.about.is_boards ≡ false) = c.in_ok-keeps_rules.ensures in
    let other : names_board_slot c.args.d.now.shape ≡ false = sym (ap (λ (a : About). a.is_boards) c.requires.about) ∙ kept.1 in
    let fits : slot_misfit c.args.standing.now.surface.size c.args.standing.now.surface.state c.args.d.now.shape ≡ None = c.in_ok-fit.ensures in
    by_room head (reached_of c.args.standing.now n) c.args.v c.args.d.now c.is_full.result c.ranges.v.fits c.requires.range
    (sym (c.holds.ensures n) ∙ c.if-not-holds.false) (ap (λ s. broken_rule s c.args.d.now) same ∙ kept.0) other
    (ap (λ s. slot_misfit s c.args.standing.now.surface.state c.args.d.now.shape) same ∙ fits) (c.is_full.ensures ∙ ap (λ (a : About). not (nat_lt c.args.standing.now.limited 1048576 && nat_le (c.args.standing.now.image_pixels + a.pixels) 67108864)) c.requires.about)
    ∙ rw c.if-is_full.false refl
