-- Both halves of a connection by turns.
use Rattle.std.specs.Prelude.{ℕ, zero, suc, List, []}
use Rattle.px_core.specs.declared.surface.Size.{Size}
use Rattle.caps_sets.specs.declared.confirmed.Confirmed.{Confirmed}
use Rattle.conn_rules.specs.Hearing.{host_handshake}
use Rattle.viewer_rules.specs.ViewerHandshake.{viewer_handshake}

-- what each half has sent
pub record Exchange : Type 0 where
  pub viewer : List ℕ
  pub host : List ℕ

abbrev pub exchange : List ℕ → List ℕ → Exchange
exchange viewer host = record { viewer = viewer; host = host }

-- the host answers all that the viewer has sent
abbrev pub host_answers : Size → List ℕ → Exchange
host_answers size viewer = exchange viewer (host_handshake size viewer).replies

-- after so many turns: in each the viewer answers all that the host has sent, and then the host all that the viewer has
abbrev pub after_turns : ℕ → Size → List ℕ → Confirmed → Exchange
after_turns zero size name c = exchange [] []
after_turns (suc n) size name c = host_answers size (viewer_handshake name c (after_turns n size name c).host).text
