use Rattle.std.proofs.Common.{◌≡◌, ◌∙◌, length, ap, sym, subst, arith}
use Rattle.session_rules.specs.Steps.{journal_of_steps}
use Rattle.script_rules.specs.CaptureText.{run_at_first, encoder_frames}
use Rattle.headline.specs.Headline.{steps_of}
use Rattle.demo_run.specs.Scene.{demo_size, demo_head}
use Rattle.demo_run.specs.Standing.{AreWatching}
use Rattle.demo_run.specs.Sums.{AreShown}
use Rattle.demo_run.proofs.Runs.{journal_is}
use Rattle.demo_run.proofs.counts.count_run.Goals as goal

pub returns : goal.returns
returns c = λ done s.
    let entries : c.entries.result ≡ length (journal_of_steps demo_head (steps_of done)) =
    c.entries.ensures ∙ ap length (sym s.run.journal ∙ journal_is demo_head (run_at_first encoder_frames demo_size) done) in
    let few = c.entries.type_inv in
    let shown = subst (λ n. AreShown done n c.shown_to_all.result) (ap length c.deref.ensures.value ∙ s.number)
    (c.shown_to_all.ensures done (subst (AreWatching done) (sym c.deref.ensures.value) s.watchers)) in
    record {
      steps = omega (arith, c.ranges.steps.fits);
      entries = omega (arith, entries, few);
      takes = shown.takes;
      marks = shown.marks;
      orders = shown.orders;
      tiles = shown.tiles;
      bytes = shown.bytes;
      refused = s.refused;
    }
