-- Which packets a frame goes in.
use Rattle.std.specs.Prelude.{Bool, true, false}
use Rattle.viewer_sender.specs.declared.framing.Framing.{Framing}
use Rattle.viewer_sender.specs.declared.framing.Framing.TheVariants.{Indications, FastPath}

-- whether the packets are of the fast path
abbrev pub is_fast : Framing → Bool
is_fast Indications = false
is_fast FastPath = true
