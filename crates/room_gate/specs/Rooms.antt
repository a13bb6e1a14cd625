-- The gate of a room, and the gate within.
use Rattle.std.specs.Prelude.{◌≡◌, ◌≤◌, ℕ, Bool, List, length, map, All}
use Rattle.edge_io.specs.declared.gate.Gate as gates
use Rattle.edge_io.specs.declared.link.Link as links
use Rattle.room_gate.specs.Ends.{SpentModel, HasEnded}

-- the gate within, whether no further link will come since the room was closed, and what came back of its links
pub record RoomModel (G Spent : Type 0) : Type 0 where
  pub gate : G
  pub shut : Bool
  pub finished : List (SpentModel Spent)

module _ {G L Reader Writer Spent : Type 0} (gate : gates.Ghosts G L Reader Writer Spent) (link : links.Ghosts L Reader Writer Spent) where
  -- what came back of a room's links is what came back to the gate within, in order, each as it has ended
  pub record HasBack (within : G) (finished : List (SpentModel Spent)) : Type 0 where
    pub finished_is : gate.finished within ≡ map (λ s. s.spent) finished
    pub ended : All (HasEnded link) finished

  -- so many links were given, and there is room for what is left of each
  pub record IsRoom (within : G) (given : ℕ) (finished : List (SpentModel Spent)) (room : ℕ) : Type 0 where
    pub given_is : length (gate.given within) ≡ given
    pub within_room : given ≤ room
    pub back : HasBack within finished
    pub order : length finished ≤ given
