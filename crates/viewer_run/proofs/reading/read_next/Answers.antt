use Rattle.std.proofs.Common.{◌≡◌, [], length, take, sym, refl, subst, arith}
use Rattle.std.proofs.lemmas.List.{length-take-le}
use Rattle.std.specs.Prelude.{true}
use Rattle.edge_io.specs.Outside.{input_of}
use Rattle.serve_rules.specs.Notices.{notice_in}
use Rattle.serve_rules.specs.Reading.{ReadEnd, ReadFaults}
use Rattle.viewer_run.proofs.Streams.{no_refusal}
use Rattle.viewer_run.proofs.Stretches.{nothing_read, input_ended, part_faults, kept_none, one_read_stops}
use Rattle.viewer_run.proofs.reading.read_next.Goals as goal

pub returns-in-End-clause-reads : goal.returns-in-End-clause-reads
returns-in-End-clause-reads g c =
    let h = c.args.conn.now.hearing in
    let before = input_of g.S.Source c.args.input.now in
    let now = input_of g.S.Source c.read.new.self in
    nothing_read c.args.stay.now.lock.now.head c.args.stay.now.v h c.args.pass c.args.noted.now before now c.end_of_input.result c.requires.going.led
    c.requires.room (kept_none before.left now.left c.in-End.ensures.bytes.1) (subst (ReadFaults h (notice_in c.args.noted.now) before now) (sym c.end_of_input.ensures)
    (part_faults h (notice_in c.args.noted.now) before now (length h.part) c.in-End.ensures.cause))
    (subst (ReadEnd true [] h (notice_in c.args.noted.now) before now) (sym c.end_of_input.ensures)
    (input_ended h (notice_in c.args.noted.now) before now (length h.part) c.requires.going c.in-End.ensures.bytes.0 refl))

pub returns-in-Failed-clause-reads : goal.returns-in-Failed-clause-reads
returns-in-Failed-clause-reads g c =
    let before = input_of g.S.Source c.args.input.now in
    let now = input_of g.S.Source c.read.new.self in
    nothing_read c.args.stay.now.lock.now.head c.args.stay.now.v c.args.conn.now.hearing c.args.pass c.args.noted.now before now _ c.requires.going.led
    c.requires.room (kept_none before.left now.left c.in-Failed.ensures.bytes) (no_refusal c.args.conn.now.hearing.stage (length c.args.conn.now.hearing.part) c.requires.going.unrefused, c.requires.going.unended) c.in-Failed.ensures.cause

pub read_piece-requires-clause-stops : goal.read_piece-requires-clause-stops
read_piece-requires-clause-stops g c =
    let read : length (take c.in-Bytes.n c.read.new.buf) ≡ c.in-Bytes.n = length-take-le c.in-Bytes.n c.read.new.buf (omega (arith, c.in-Bytes.ensures.count, c.read.auto.buf)) in
    one_read_stops c.args.conn.now.hearing _ (take c.in-Bytes.n c.read.new.buf) c.requires.going (omega (arith, read, c.in-Bytes.ensures.count, c.requires.one))
