-- A whole packet, opened where it lies.
use Rattle.std.specs.Prelude.{◌≡◌, ℕ, ◌+◌, Bool, true, List, [], ◌∷◌, ◌++◌, length, slice_index, None}
use Rattle.order_means.specs.Updates.{Cutting, cutting, Updates, updates_by, updates_from, refusal_in}
use Rattle.order_means.specs.Updates.Stage.{Between}
use Rattle.update_read.specs.declared.state.State.{State}
use Rattle.update_read.specs.Cutters.{CutterOf, IsOpen, Tells, Gives, GoesOn, begins_with, is_between, stage_of}
use Rattle.update_read.specs.Wholes.{IsWholePacket}

-- no packet has begun, and these bytes are one of this viewer's
pub record MayOpen (k : CutterOf) (packet : List ℕ) : Type 0 where
  pub between : is_between k.state (length k.packet) ≡ true
  pub begins : begins_with k.fast (slice_index packet 0) ≡ true
  pub whole : IsWholePacket packet

-- what stands behind a packet that isn't refused begins the next one
abbrev pub Ends : ℕ → Updates → Type 0
Ends end u = refusal_in u.next.stage ≡ None → u.next ≡ cutting end Between

-- A packet that begins at a place is whole, and has come so far: none of its bytes but the last one gives an update or is refused.
pub record TellsWhole (state : State) (fast : Bool) (s : ℕ) (packet : List ℕ) : Type 0 where
  pub front : List ℕ
  pub last : ℕ
  pub whole : packet ≡ front ++ last ∷ []
  pub goes_on : IsOpen front
  pub goes : updates_from fast (cutting s Between) front ≡ record { bodies = []; next = cutting (s + length front) (stage_of front) }
  pub told : Tells state (updates_by fast (s + length front) (stage_of front) last) s packet
  pub ends : Ends (s + length packet) (updates_by fast (s + length front) (stage_of front) last)

-- a packet of the stream was opened: its bytes but the last one go on so, and with that it gives its updates
pub record Opens (c : Cutting) (packet : List ℕ) (m : CutterOf) : Type 0 where
  pub front : List ℕ
  pub last : ℕ
  pub whole : packet ≡ front ++ last ∷ []
  pub before : CutterOf
  pub fast : before.fast ≡ m.fast
  pub goes : GoesOn c (updates_from m.fast c front) before
  pub gives : (let next = (updates_from m.fast c front).next in Gives (updates_by m.fast next.place next.stage last) m)
  pub ends : Ends (c.place + length packet) (updates_from m.fast c packet)
