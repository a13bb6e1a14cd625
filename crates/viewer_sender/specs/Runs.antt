-- What a run's glyphs, some drawings and a frame send, as sendings; and the frames that drawings make.
use Rattle.std.specs.Prelude.{List, ◌++◌, Bool, ◌&&◌}
use Rattle.px_core.specs.declared.surface.Size.{Size}
use Rattle.caps_sets.specs.declared.confirmed.Confirmed.{Confirmed}
use Rattle.frame_rules.specs.Frame.{Sent}
use Rattle.frame_rules.specs.FrameOrders.{Uses, RunUse, Sending, sending, orders_from, uses_after, start_orders, black_orders}

abbrev pub run_sending : RunUse → Sending
run_sending r = sending r.orders r.uses

-- the orders of drawings, one after the other
abbrev pub drawings_sending : Confirmed → Uses → List Sent → Sending
drawings_sending c uses ss = sending (orders_from c uses ss) (uses_after c uses ss)

-- the orders of a frame before its tiles
abbrev pub frame_sending : Size → Confirmed → Bool → Uses → List Sent → Sending
frame_sending size c first uses ss =
    sending (start_orders c.marker ++ (black_orders size (first && c.pat) ++ orders_from c uses ss)) (uses_after c uses ss)
