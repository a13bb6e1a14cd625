use Rattle.std.proofs.Common.{◌≡◌}
use Rattle.std.specs.Prelude.{vec_len}
use Rattle.edge_io.specs.Outside.{outside_of}
use Rattle.answer_run.specs.Asking.{owners_head}
use Rattle.answer_run.specs.Service.{first_service}
use Rattle.answer_run.specs.Cut.{read_room}
use Rattle.answer_run.specs.Serves.{WentOn}
use Rattle.answer_run.proofs.answer.run_answer.Given as goal

-- the service went on, and no fault was met
abbrev pub invariant-loop : goal.invariant-loop
invariant-loop g l = record {
  went : WentOn (owners_head l.fn.size l.fn.owner) (first_service l.fn.size) l.serving
      (outside_of g.S.Source g.K.Sink l.fn.input l.fn.output) (outside_of g.S.Source g.K.Sink l.input l.output);
  room : vec_len l.buffer ≡ read_room;
  read : g.S.Source.faults l.input ≡ g.S.Source.faults l.fn.input;
  write : g.K.Sink.faults l.output ≡ g.K.Sink.faults l.fn.output;
}
