use Rattle.std.proofs.Common.{◌<◌, ◌≤◌, vec_len}
use Rattle.edge_io.specs.Outside.{input_of}
use Rattle.grow_lock.specs.Passes.{IsPassOf}
use Rattle.serve_rules.specs.Notices.{notice_in}
use Rattle.serve_rules.specs.Reading.{ReadsInTurns, one_read}
use Rattle.serve_rules.specs.declared.ends.SideEnd.TheVariants.{Stopped}
use Rattle.std.specs.Prelude.{true}
use Rattle.viewer_run.specs.Feeding.{IsOpen}
use Rattle.viewer_run.proofs.reading.read_side.Given as goal

-- what was read so far was done, and the stream goes on
abbrev pub invariant-loop : goal.invariant-loop
invariant-loop g l = record {
  lock : IsPassOf l.lock l.now;
  room : 0 < l.noted.places.room;
  buffer : 0 < vec_len l.buffer;
  one : vec_len l.buffer ≤ one_read;
  going : IsOpen l.conn.hearing (notice_in l.noted);
  reads : ReadsInTurns l.lock.head l.v l.fn.rest true l.fn.conn.hearing l.conn.hearing l.fn.pass l.now l.fn.noted l.noted
      (input_of g.S.Source l.fn.input) (input_of g.S.Source l.input) Stopped;
}
