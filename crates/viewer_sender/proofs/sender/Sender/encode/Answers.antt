use Rattle.viewer_sender.proofs.OkBoth.{ok_both}
use Rattle.viewer_sender.proofs.Sends.{shows}
use Rattle.viewer_sender.proofs.sender.Sender.encode.Goals as goal

pub returns-clause-shows : goal.returns-clause-shows
returns-clause-shows c =
    ok_both _ _ _ c.write_next.result c.write_next.ensures.bytes c.write_next.ensures.after
    (λ out bytes after. shows c.args.self.now c.write_next.new.self c.args.take out.items c.requires.own.all bytes after)
