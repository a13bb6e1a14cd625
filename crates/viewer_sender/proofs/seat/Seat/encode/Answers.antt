use Rattle.std.proofs.Common.{sym, subst}
use Rattle.viewer_sender.specs.Shown.{Shows}
use Rattle.viewer_sender.proofs.OkBoth.{ok_both}
use Rattle.viewer_sender.proofs.seat.Seat.encode.Goals as goal

pub returns-in-Ok-clause-bytes : goal.returns-in-Ok-clause-bytes
returns-in-Ok-clause-bytes c = rw (← c.self.view_is)
    (ok_both _ _ _ c.point.result c.point.ensures.bytes c.point.ensures.same (λ out pointed same. record {
      frame = c.in-Ok.frame.items;
      pointed = pointed;
      bytes = c.in-Ok.ensures.bytes;
      shows = subst (λ s. Shows c.self.inside.sender s c.args.take c.in-Ok.frame.items) (sym same) c.in-Ok.ensures.shows;
    }))
