use Rattle.std.proofs.Common.{take, rules}
use Rattle.edge_io.specs.Outside.{input_of, output_of, outside_of}
use Rattle.answer_run.specs.Asking.{owners_head}
use Rattle.answer_run.proofs.Served.{few_at_once, next_served, failed_served}
use Rattle.answer_run.proofs.serving.serve_next.Goals as goal

pub returns-in-Bytes-clause-done : goal.returns-in-Bytes-clause-done
returns-in-Bytes-clause-done g c =
    next_served c.serve_piece.result (owners_head c.args.host.now.size c.args.host.now.owner) c.args.serving.now c.serve_piece.new.serving (take c.in-Bytes.n c.read.new.buf)
    (outside_of g.S.Source g.K.Sink c.args.input.now c.args.output.now) (outside_of g.S.Source g.K.Sink c.read.new.self c.serve_piece.new.output)
    c.in-Bytes.ensures.bytes (few_at_once c.in-Bytes.n _ c.read.new.buf c.in-Bytes.ensures.count.1 c.requires.room) c.serve_piece.ensures.fault c.serve_piece.ensures.done

pub returns-in-Failed-clause-done : goal.returns-in-Failed-clause-done
returns-in-Failed-clause-done g c =
    failed_served (owners_head c.args.host.now.size c.args.host.now.owner) c.args.serving.now c.args.serving.now (input_of g.S.Source c.args.input.now) (input_of g.S.Source c.read.new.self)
    (output_of g.K.Sink c.args.output.now) c.in-Failed.ensures.bytes

pub returns-in-Failed-clause-read : goal.returns-in-Failed-clause-read
returns-in-Failed-clause-read g c = search rules
