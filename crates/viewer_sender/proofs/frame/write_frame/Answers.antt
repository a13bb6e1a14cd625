use Rattle.std.proofs.Common.{◌∙◌, List, ℕ, ap}
use Rattle.px_core.specs.declared.surface.Size.{Size}
use Rattle.viewer_sender.specs.declared.writer.FrameWriter.{FrameWriter}
use Rattle.viewer_sender.specs.Gathering.{nothing_gathered}
use Rattle.viewer_sender.proofs.Loops.{with_tiles}
use Rattle.viewer_sender.proofs.Sends.{frame_bytes_are, frame_caches_stand}
use Rattle.viewer_sender.proofs.frame.write_frame.Goals as goal

pub returns-clause-bytes : goal.returns-clause-bytes
returns-clause-bytes c = λ uses f stands is.
    let w : FrameWriter = record c.args.writer.now { updates = c.begin.new.self } in
    let w1 = c.put_orders.new.writer in
    let w2 : FrameWriter = record w1 { updates = c.close.new.self } in
    let take = c.args.take.now in
    let tiles = c.in_ok-put_tiles.ensures ∙ (ap (λ (s : Size). with_tiles w2 s c.tiles.result.now) c.size.ensures ∙ ap (λ (ts : List (ℕ × List ℕ)). with_tiles w2 take.size ts) c.tiles.ensures) in
    frame_bytes_are take.size w w1 c.put_tiles.new.writer c.put_mark.new.writer c.close.new.self take.frame uses f (c.in_ok-put_orders.ensures.1 uses stands) c.in_ok-put_orders.ensures.0
    tiles c.in_ok-put_mark.ensures is c.take_packets.result.items (c.begin.ensures ∙ ap nothing_gathered c.of-framing.ensures) c.in_ok-close.ensures c.take_packets.ensures.packets

pub returns-clause-caches : goal.returns-clause-caches
returns-clause-caches c = λ uses f stands is.
    let w : FrameWriter = record c.args.writer.now { updates = c.begin.new.self } in
    let w1 = c.put_orders.new.writer in
    let w2 : FrameWriter = record w1 { updates = c.close.new.self } in
    let take = c.args.take.now in
    let tiles = c.in_ok-put_tiles.ensures ∙ (ap (λ (s : Size). with_tiles w2 s c.tiles.result.now) c.size.ensures ∙ ap (λ (ts : List (ℕ × List ℕ)). with_tiles w2 take.size ts) c.tiles.ensures) in
    frame_caches_stand take.size w w1 c.put_tiles.new.writer c.put_mark.new.writer c.close.new.self take.frame uses f (c.in_ok-put_orders.ensures.1 uses stands) c.in_ok-put_orders.ensures.0
    tiles c.in_ok-put_mark.ensures is
