-- Orders gathered into updates, said of the updates alone.
use Rattle.std.specs.Prelude.{ℕ, Bool, ◌+◌, ◌<◌, ◌≤◌, List, [], ◌∷◌, ◌++◌, length, ⊤}
use Rattle.order_means.specs.UpdateBodies.{orders_size}
use Rattle.frame_rules.specs.FrameBytes.{most_counted}

-- how many bytes some orders have
abbrev pub bytes_in : List (List ℕ) → ℕ
bytes_in [] = 0
bytes_in (order ∷ orders) = length order + bytes_in orders

-- orders of so many bytes fit into an update, of a packet of the fast path or of another one
abbrev pub FitsUpdate : Bool → ℕ → Type 0
FitsUpdate fast count = orders_size fast count ≤ most_counted

-- an update has an order, and its first one wouldn't have fitted into the update before it, whose orders have so many bytes
abbrev pub BeginsAnew : Bool → ℕ → List (List ℕ) → Type 0
BeginsAnew fast before [] = ⊥
BeginsAnew fast before (order ∷ orders) = most_counted < orders_size fast (before + length order)

-- each update is no longer than a packet takes, and ends only where the next order wouldn't have fitted
abbrev pub AreGathered : Bool → List (List (List ℕ)) → Type 0
AreGathered fast [] = ⊤
AreGathered fast (update ∷ []) = FitsUpdate fast (bytes_in update)
AreGathered fast (update ∷ next ∷ more) = FitsUpdate fast (bytes_in update) × BeginsAnew fast (bytes_in update) next × AreGathered fast (next ∷ more)

-- the orders of updates, one after the other
abbrev pub orders_of_updates : List (List (List ℕ)) → List (List ℕ)
orders_of_updates [] = []
orders_of_updates (update ∷ updates) = update ++ orders_of_updates updates

-- each order fits into an update of its own
abbrev pub EachFits : Bool → List (List ℕ) → Type 0
EachFits fast [] = ⊤
EachFits fast (order ∷ orders) = FitsUpdate fast (length order) × EachFits fast orders
