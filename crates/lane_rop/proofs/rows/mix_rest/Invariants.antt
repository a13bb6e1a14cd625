use Rattle.lane_rop.specs.Rows.{AreMixed}
use Rattle.lane_rop.proofs.rows.mix_rest.Given as goal

-- the places so far are mixed
abbrev pub invariant-loop-k : goal.invariant-loop-k
invariant-loop-k l = AreMixed l.sums.code l.p l.s l.from l.k l.initial.d l.d
