-- The limits of time of a connection's reads.
use Rattle.std.specs.Prelude.{Bool, true, false}
use Rattle.tcp_edge.specs.declared.stage.Stage.{Stage}
use Rattle.tcp_edge.specs.declared.stage.Stage.TheVariants.{Silent, Heard, Free}

-- whether a read has one
abbrev pub is_limited : Stage → Bool
is_limited (Silent sequence) = true
is_limited (Heard until) = true
is_limited Free = false
