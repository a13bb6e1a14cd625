-- Orders that are gathered into updates, one by one: the packets that are whole, and the update that is begun.
use Rattle.std.specs.Prelude.{◌≡◌, ℕ, ◌+◌, ◌==◌, ◌≤◌, Bool, true, false, ◌&&◌, not, List, [], ◌∷◌, ◌++◌, length, take, drop}
use Rattle.fast_path.specs.Written.{fast_headers}
use Rattle.share_pdu.specs.Packet.{packet_headers}
use Rattle.order_means.specs.UpdateBodies.{orders_packet}
use Rattle.frame_rules.specs.FrameBytes.{joins_update}

-- whether the packets are of the fast path; the packets so far; the orders of the update that is begun, whose count is 0 where none is; and the bytes
-- of an order that hasn't joined one
pub record Gathering : Type 0 where
  pub fast : Bool
  pub packets : List ℕ
  pub begun : List ℕ
  pub count : ℕ
  pub tail : List ℕ

abbrev pub gathering : Bool → List ℕ → List ℕ → ℕ → List ℕ → Gathering
gathering fast packets begun count tail = record { fast = fast; packets = packets; begun = begun; count = count; tail = tail }

abbrev pub nothing_gathered : Bool → Gathering
nothing_gathered fast = gathering fast [] [] 0 []

-- whether an order goes into the update that is begun
abbrev pub goes_into : Gathering → List ℕ → Bool
goes_into g order = not (g.count == 0) && joins_update g.fast (length g.begun) (length order)

abbrev pub packets_if : Bool → Bool → List ℕ → List ℕ → ℕ → List ℕ
packets_if true fast packets begun count = packets
packets_if false fast packets begun count = packets ++ orders_packet fast count begun

-- the packets once no order follows
abbrev pub packets_of : Gathering → List ℕ
packets_of g = packets_if (g.count == 0) g.fast g.packets g.begun g.count

-- the update that is begun is ended
abbrev pub closed : Gathering → Gathering
closed g = gathering g.fast (packets_of g) [] 0 []

abbrev pub with_order : Gathering → List ℕ → Gathering
with_order g order = gathering g.fast g.packets (g.begun ++ order) (g.count + 1) []

abbrev pub after_order_by : Bool → Gathering → List ℕ → Gathering
after_order_by true g order = with_order g order
after_order_by false g order = with_order (closed g) order

-- after one more order
abbrev pub after_order : Gathering → List ℕ → Gathering
after_order g order = after_order_by (goes_into g order) g order

abbrev pub after_orders : Gathering → List (List ℕ) → Gathering
after_orders g [] = g
after_orders g (o ∷ os) = after_orders (after_order g o) os

-- after the packet of another update
abbrev pub with_packet : Gathering → List ℕ → Gathering
with_packet g packet = record g { packets = g.packets ++ packet }

-- what stands before so many bytes of a Bitmap update in its packet
abbrev pub tile_headers : Bool → ℕ → List ℕ
tile_headers false n = packet_headers 2 n
tile_headers true n = fast_headers 1 n

-- ---- the orders of the update that is begun, behind the room for what goes before them

-- the orders behind the room, of which so many bytes with the room are the update's
abbrev pub orders_in : List ℕ → ℕ → List ℕ
orders_in user end = drop 26 (take end user)

-- the most bytes of the room and the orders of one update: the headers of a packet of the fast path are 18 bytes shorter than the room
abbrev pub most_room : Bool → ℕ
most_room false = 16383
most_room true = 16401

-- so many bytes of room and orders, of which the first ones are an update's with so many orders
pub record IsBegun (fast : Bool) (room end count : ℕ) : Type 0 where
  pub begins : 26 ≤ end
  pub there : end ≤ room
  pub few : end ≤ most_room fast
  pub each : 26 + count ≤ end
  pub none : count ≡ 0 → end ≡ 26
