use Rattle.std.proofs.Common.{◌≡◌, ◌++◌, ℕ, List, length}
use Rattle.line_text.specs.Hexadecimal.{hexadecimal_text}
use Rattle.script_run.specs.Held.{Holds}
use Rattle.script_run.proofs.text.hold_frame.Given as goal

-- what was held back or written and the digits of the bytes that are left are the digits of the bytes
abbrev pub invariant-loop-rest : goal.invariant-loop-rest
invariant-loop-rest g l = record {
  done : List ℕ;
  whole : hexadecimal_text l.fn.bytes ≡ done ++ hexadecimal_text l.rest;
  held : Holds (g.K.Sink.told l.fn.output) (g.K.Sink.told l.output) l.fn.page l.page done;
  write : g.K.Sink.faults l.output ≡ g.K.Sink.faults l.fn.output;
}

abbrev pub decreases-loop-rest : goal.decreases-loop-rest
decreases-loop-rest g l = length l.rest
