use Rattle.viewer_rules.specs.ClientPackets.{sets_of}
use Rattle.viewer_wire.specs.Writes.{confirm_start}
use Rattle.viewer_wire.proofs.Written.{before, confirm_length}
use Rattle.viewer_wire.proofs.finals.put_confirm_body.Goals as goal

pub returns-clause-written : goal.returns-clause-written
returns-clause-written c = before c.args.body.now.items (confirm_start c.args.user) (sets_of c.args.c.now) _ _ c.in_ok-put_confirm_start.ensures c.in_ok-put_sets.ensures.written

pub returns-clause-size : goal.returns-clause-size
returns-clause-size c = confirm_length c.args.user c.args.c.now c.in_ok-put_sets.ensures.bitmaps c.in_ok-put_sets.ensures.glyphs
