use Rattle.std.proofs.Common.{◌≡◌, length}
use Rattle.conn_core.specs.Stream.{hearing, IsStanding}
use Rattle.conn_core.proofs.Loop.{HearsSoFar}
use Rattle.conn_core.proofs.hear.hear.Given as goal

-- what was heard so far, and what is left to hear, is the whole
abbrev pub invariant-loop-left : goal.invariant-loop-left
invariant-loop-left l = record {
  so_far : HearsSoFar (hearing l.fn.talk l.fn.part.items) l.bytes (hearing l.talk l.part.items) l.left l.fn.out.items l.out.items l.fn.steps.items l.steps.items;
  standing : IsStanding (hearing l.talk l.part.items);
  size : l.talk.size ≡ l.fn.talk.size;
}

abbrev pub decreases-loop-left : goal.decreases-loop-left
decreases-loop-left l = length l.left
