-- Views after updates.
use Rattle.std.proofs.Common.{◌≡◌, ℕ, ◌+◌, ◌-◌, List, length, take, ap, sym, ◌∙◌, None, arith}
use Rattle.std.specs.Prelude.{Ok, Err}
use Rattle.std.proofs.lemmas.List.{take-map}
use Rattle.px_core.specs.declared.surface.Size.{Size}
use Rattle.wire_num.specs.Field.{Read}
use Rattle.caps_sets.specs.declared.confirmed.Confirmed.{Confirmed}
use Rattle.order_fields.specs.OrderTable.{Registers}
use Rattle.order_fields.specs.OrderStream.{Stream}
use Rattle.order_read.specs.Told.{Told, told_order, told_orders}
use Rattle.order_means.specs.ClientState.{ClientState}
use Rattle.order_means.specs.ClientState.Fault.{Broken}
use Rattle.order_means.specs.Updates.{BodyForm, body_at}
use Rattle.order_means.specs.FrameMarks.{View, Update, meant, obeyed, with_registers, view_after_orders, view_after_stream, view_after_read}
use Rattle.update_read.specs.Told.{IsRefusedAt}
use Rattle.client_view.specs.declared.viewer.Viewer.{Viewer}
use Rattle.client_view.specs.Told.{view_after_all_told}
use Rattle.client_view.specs.Views.{StandsFor}
use Rattle.client_view.specs.OnTheWay.{AfterFirstTold, WithinStream}
use Rattle.client_view.specs.Refusals.{refusal}
use Rattle.client_view.proofs.ToldMeaning.{all_alike}

-- the orders of an update that was read whole, as they are told
pub stream_shown : (confirmed : Confirmed) (size : Size) (place : ℕ) (form : BodyForm) (bytes : List ℕ) (v : View) (s : Stream) (regs : Registers) (ts : List Told) → s.refused ≡ None → s.after ≡ regs → ts ≡ told_orders s.orders
    → view_after_stream confirmed size (body_at place form bytes) v s ≡ meant place (view_after_all_told confirmed size (with_registers v regs) ts)
stream_shown confirmed size place form bytes v s regs ts r a t =
    ap (obeyed confirmed size (body_at place form bytes) v s) r
    ∙ ap (meant place) (all_alike confirmed size (with_registers v s.after) s.orders ∙ ap (view_after_all_told confirmed size (with_registers v s.after)) (sym t))
    ∙ ap (λ (x : Registers). meant place (view_after_all_told confirmed size (with_registers v x) ts)) a

pub registers_stand : (v : View) (m : Viewer) (regs : Registers) → StandsFor v m → StandsFor (with_registers v regs) (record m { regs = regs })
registers_stand v m regs s = record {
  client = ap (λ (c : ClientState). record c { registers = regs }) s.client;
  marked = s.marked;
  marks = s.marks;
  orders = s.orders;
  tiles = s.tiles;
}

-- an update that is refused at a field
pub bad_update : (confirmed : Confirmed) (size : Size) (v : View) (place : ℕ) (form : BodyForm) (bytes : List ℕ) (read : Read Update) (at : ℕ) → IsRefusedAt bytes read at
    → view_after_read confirmed size (body_at place form bytes) v read ≡ Err (refusal (place + (0 + at)) Broken)
bad_update confirmed size v place form bytes (Ok u) at h = absurd h
bad_update confirmed size v place form bytes (Err left) at h =
    let same : length bytes - length left ≡ 0 + at = omega (arith, h) in
    ap (λ (n : ℕ). Err (refusal (place + n) Broken)) same

-- some of the orders of an update that was read whole, as they are told
pub within_stream : (confirmed : Confirmed) (size : Size) (v w : View) (s : Stream) (regs : Registers) (ts : List Told) → s.refused ≡ None → s.after ≡ regs → ts ≡ told_orders s.orders
    → AfterFirstTold confirmed size (with_registers v regs) ts w → WithinStream confirmed size v s w
within_stream confirmed size v w s regs ts r a t h =
    let n : ℕ = h.0 in
    let there : view_after_orders confirmed size (with_registers v s.after) (take n s.orders) ≡ Ok w =
    all_alike confirmed size (with_registers v s.after) (take n s.orders)
    ∙ ap (λ (x : Registers). view_after_all_told confirmed size (with_registers v x) (told_orders (take n s.orders))) a
    ∙ ap (view_after_all_told confirmed size (with_registers v regs)) (sym (take-map told_order n s.orders) ∙ ap (λ (xs : List Told). take n xs) (sym t))
    ∙ h.1
    in (r, (n, there))
