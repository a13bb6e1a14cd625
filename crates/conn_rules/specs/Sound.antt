-- By which numbers a stream is refused, and what it says that a client confirmed.
use Rattle.std.specs.Prelude.{◌≡◌, ◌≤◌, ℕ, length, List, All, ⊤}
use Rattle.caps_sets.specs.declared.confirmed.Confirmed.{Confirmed}
use Rattle.conn_rules.specs.declared.conn_step.ConnStep.{ConnStep}
use Rattle.conn_rules.specs.declared.conn_step.ConnStep.TheVariants as step
use Rattle.conn_rules.specs.declared.stage.Stage.{Stage}
use Rattle.conn_rules.specs.declared.stage.Stage.TheVariants as stage
use Rattle.conn_rules.specs.declared.stage.SharePhase.TheVariants as phase

-- the number of a refusal
pub record IsRefusalNumber (k : ℕ) : Type 0 where
  pub least : 1 ≤ k
  pub most : k ≤ 14

-- three bitmap caches and ten glyph caches are confirmed, of whatever sizes
pub record HasItsCaches (confirmed : Confirmed) : Type 0 where
  pub bitmaps : length confirmed.bitmaps ≡ 3
  pub glyphs : length confirmed.glyphs ≡ 10

-- a stream that stands so is refused, if it is, by a number from 1 to 14; and what its client confirmed, if it did, has its caches
abbrev pub IsSound : Stage → Type 0
IsSound stage.Request = ⊤
IsSound (stage.Initial asked) = ⊤
IsSound (stage.Erect client) = ⊤
IsSound (stage.Attach client) = ⊤
IsSound (stage.Joins client user io) = ⊤
IsSound (stage.Shares channels (phase.Confirm depth)) = ⊤
IsSound (stage.Shares channels (phase.Finish confirmed next)) = HasItsCaches confirmed
IsSound (stage.Shares channels phase.Ready) = ⊤
IsSound stage.Over = ⊤
IsSound (stage.Refused k at) = IsRefusalNumber k

-- a client that is ready has its caches
abbrev pub ConfirmsCaches : ConnStep → Type 0
ConfirmsCaches (step.Named name) = ⊤
ConfirmsCaches (step.Ready confirmed) = HasItsCaches confirmed
ConfirmsCaches (step.Event event) = ⊤
ConfirmsCaches (step.Refresh area) = ⊤
ConfirmsCaches (step.Suppress stop) = ⊤
ConfirmsCaches step.Shutdown = ⊤
ConfirmsCaches step.Bye = ⊤
ConfirmsCaches step.Packet = ⊤

abbrev pub AllConfirmCaches : List ConnStep → Type 0
AllConfirmCaches steps = All ConfirmsCaches steps
