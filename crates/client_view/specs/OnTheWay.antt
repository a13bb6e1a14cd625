-- The views that a viewer comes to on its way through a host's bytes: before each update, and after each of its orders or rectangles.
use Rattle.std.specs.Prelude.{◌≡◌, ◌⊎◌, ℕ, List, [], ◌∷◌, ◌++◌, length, take, None, Ok, Err}
use Rattle.px_core.specs.declared.surface.Size.{Size}
use Rattle.wire_num.specs.Field.{Read}
use Rattle.caps_sets.specs.declared.confirmed.Confirmed.{Confirmed}
use Rattle.order_fields.specs.OrderStream.{Order, Stream, orders_in}
use Rattle.caps_sets.specs.Confirmed.{takes_fast}
use Rattle.order_means.specs.Updates.{Body, BodyForm, updates_by}
use Rattle.order_means.specs.FrameMarks.{View, Tile, Update, ClientReading, with_registers, view_after_orders, view_after_tiles, view_after_bodies}
use Rattle.order_means.specs.FrameMarks.{update_by_form, update_in, read_on}
use Rattle.order_means.specs.FrameMarks.Update.{Orders, Tiles, Synchronize}
use Rattle.order_read.specs.Told.{Told}
use Rattle.client_picture.specs.Pictures.{unknown_picture}
use Rattle.client_view.specs.declared.viewer.Viewer.{Viewer}
use Rattle.client_view.specs.Told.{view_after_all_told}
use Rattle.client_view.specs.Views.{capped, last_picture}

-- ---- what a viewer that stops has of a view

-- the picture of its last mark, and its counts
pub record HasCounts (v : View) (m : Viewer) : Type 0 where
  pub marked : m.pictures.marked ≡ last_picture (unknown_picture m.pictures.size) v.pictures
  pub marks : m.marks ≡ capped (length v.pictures)
  pub orders : m.orders ≡ capped v.orders
  pub tiles : m.tiles ≡ capped v.tiles

-- a viewer has those of one of these views
abbrev pub Stops : (View → Type 0) → Viewer → Type 0
Stops IsThere m = (w : View) × IsThere w × HasCounts w m

-- the picture of a viewer's last mark stays, and its counts
pub record SameCounts (old new : Viewer) : Type 0 where
  pub marked : new.pictures.marked ≡ old.pictures.marked
  pub marks : new.marks ≡ old.marks
  pub orders : new.orders ≡ old.orders
  pub tiles : new.tiles ≡ old.tiles

-- ---- within an update

-- after the first ones of what is told of orders, none, some or all
abbrev pub AfterFirstTold : Confirmed → Size → View → List Told → View → Type 0
AfterFirstTold confirmed size v ts w = (n : ℕ) × (view_after_all_told confirmed size v (take n ts) ≡ Ok w)

abbrev pub AfterFirstOrders : Confirmed → Size → View → List Order → View → Type 0
AfterFirstOrders confirmed size v os w = (n : ℕ) × (view_after_orders confirmed size v (take n os) ≡ Ok w)

abbrev pub AfterFirstTiles : Size → View → List Tile → View → Type 0
AfterFirstTiles size v ts w = (n : ℕ) × (view_after_tiles size v (take n ts) ≡ Ok w)

-- the orders of an update are obeyed once all of them were read
abbrev pub WithinStream : Confirmed → Size → View → Stream → View → Type 0
WithinStream confirmed size v s w = (s.refused ≡ None) × AfterFirstOrders confirmed size (with_registers v s.after) s.orders w

abbrev pub WithinUpdate : Confirmed → Size → View → Update → View → Type 0
WithinUpdate confirmed size v (Orders count bytes) w = WithinStream confirmed size v (orders_in v.client.depth bytes count v.client.registers) w
WithinUpdate confirmed size v (Tiles ts) w = AfterFirstTiles size v ts w
WithinUpdate confirmed size v Synchronize w = ⊥

abbrev pub WithinRead : Confirmed → Size → View → Read Update → View → Type 0
WithinRead confirmed size v (Ok u) w = WithinUpdate confirmed size v u.0 w
WithinRead confirmed size v (Err left) w = ⊥

-- before an update, or within it
abbrev pub MidUpdate : Confirmed → Size → View → Update → View → Type 0
MidUpdate confirmed size v u w = (w ≡ v) ⊎ WithinUpdate confirmed size v u w

abbrev pub MidBody : Confirmed → Size → View → BodyForm → List ℕ → View → Type 0
MidBody confirmed size v form bytes w = (w ≡ v) ⊎ WithinRead confirmed size v (update_by_form form bytes) w

-- ---- within the updates of a packet

-- within the first one of these updates
abbrev pub WithinFirst : Confirmed → Size → View → List Body → View → Type 0
WithinFirst confirmed size v [] w = ⊥
WithinFirst confirmed size v (body ∷ bodies) w = WithinRead confirmed size v (update_in body) w

-- the first updates of a packet are obeyed, none, some or all, and the view is the one after them, or within the next one
pub record WithinPacket (confirmed : Confirmed) (size : Size) (v : View) (bodies : List Body) (w : View) : Type 0 where
  pub front : List Body
  pub more : List Body
  pub whole : bodies ≡ front ++ more
  pub before : View
  pub obeyed : view_after_bodies confirmed size v front ≡ Ok before
  pub there : (w ≡ before) ⊎ WithinFirst confirmed size before more w

-- ---- in a stream

-- within the packet that the next byte ends
abbrev pub WithinNext : Confirmed → Size → ClientReading → List ℕ → View → Type 0
WithinNext confirmed size here [] w = ⊥
WithinNext confirmed size here (b ∷ bs) w = WithinPacket confirmed size here.view (updates_by (takes_fast confirmed) here.cut.place here.cut.stage b).bodies w

-- the view of a reading, or one within the packet that the next byte ends
abbrev pub ComesNext : Confirmed → Size → ClientReading → List ℕ → View → Type 0
ComesNext confirmed size here bytes w = (w ≡ here.view) ⊎ WithinNext confirmed size here bytes w

-- a viewer that reads on from a reading comes to this view: a front of the bytes is read, and the view is the one after it, or within the next packet
pub record ComesTo (confirmed : Confirmed) (size : Size) (r : ClientReading) (bytes : List ℕ) (w : View) : Type 0 where
  pub front : List ℕ
  pub left : List ℕ
  pub whole : bytes ≡ front ++ left
  pub here : ClientReading
  pub reads : read_on confirmed size r front ≡ Ok here
  pub there : ComesNext confirmed size here left w
