use Rattle.std.proofs.Common.{◌∙◌, sym}
use Rattle.session_core.specs.Standing.{reached_of}
use Rattle.session_core.proofs.DrawAnswers.{not_none}
use Rattle.session_core.proofs.EventAnswers.{input_not_holder, input_by_room, full, roomy}
use Rattle.session_core.proofs.events.may_react.Goals as goal

pub returns-then-not-holds : goal.returns-then-not-holds
returns-then-not-holds c head n other = (
  input_not_holder head (reached_of c.args.standing.now n) c.args.v c.args.e c.ranges.v.fits c.recall_event_range.ensures (sym (c.holds.ensures n) ∙ c.if-not-holds.true),
  not_none _,
)

pub returns-then-standing-ge-MOST_ENTRIES : goal.returns-then-standing-ge-MOST_ENTRIES
returns-then-standing-ge-MOST_ENTRIES c head n other = (
  input_by_room head (reached_of c.args.standing.now n) c.args.v c.args.e c.ranges.v.fits c.recall_event_range.ensures (sym (c.holds.ensures n) ∙ c.if-not-holds.false) other
      ∙ full (reached_of c.args.standing.now n) c.if-standing-ge-MOST_ENTRIES.true,
  not_none _,
)

pub returns : goal.returns
returns c head n other =
    input_by_room head (reached_of c.args.standing.now n) c.args.v c.args.e c.ranges.v.fits c.recall_event_range.ensures (sym (c.holds.ensures n) ∙ c.if-not-holds.false) other
    ∙ roomy (reached_of c.args.standing.now n) c.if-standing-ge-MOST_ENTRIES.false
