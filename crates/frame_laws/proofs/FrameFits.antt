-- The orders of any frame go whole, and there are fewer than an update counts.
use Rattle.std.proofs.Common.{◌≡◌, ℕ, suc, ◌*◌, ◌≤◌, List, [], ◌∷◌, ◌++◌, length, refl, ap, sym, subst, arith, length-append, inl, inr, None}
use Rattle.std.specs.Prelude.{Bool, true, false, ◌&&◌, nat_lt}
use Rattle.std.proofs.lemmas.Bool.Decides.{nat_tests}
use Rattle.px_core.specs.declared.surface.Size.{Size}
use Rattle.px_core.specs.Rectangle.{whole}
use Rattle.px_core.specs.Tiles.{Tiles}
use Rattle.draw_ops.specs.declared.shape.Drawing.{Drawing}
use Rattle.draw_ops.specs.Slots.{SurfaceState}
use Rattle.draw_ops.specs.Drawing.{state_after_drawing}
use Rattle.caps_sets.specs.declared.confirmed.Confirmed.{Confirmed}
use Rattle.caps_sets.specs.Confirmed.{depth_of}
use Rattle.session_rules.specs.declared.entry.Entry.{Entry}
use Rattle.order_fields.specs.NamedDrawing.NamedDrawing.{Opaque}
use Rattle.save_plan.specs.Blocks.{AreApart}
use Rattle.frame_rules.specs.Blocks.{Held}
use Rattle.session_rules.specs.Pending.{pending_of, pending_drawings}
use Rattle.frame_rules.specs.Frame.{Walk, Sent, walked_pending, sent_from, first_dirty, framed_by, frame_over, most_orders}
use Rattle.frame_rules.specs.FrameOrders.{SentOrder, Uses, sending_of, orders_from, start_orders, black_orders, orders_before_tiles}
use Rattle.frame_rules.specs.Describes.{HasAllCaches}
use Rattle.session_rules.proofs.Fitting.{Sides}
use Rattle.frame_laws.specs.Drawings.{AllSound}
use Rattle.frame_laws.proofs.Rules.{rules_kept}
use Rattle.frame_laws.proofs.WalkKeeps.{NoneOrOne, none_or_one_pending, AllGood}
use Rattle.frame_laws.proofs.HeldApart.{walked_apart}
use Rattle.frame_laws.proofs.OrdersFit.{wire_below}
use Rattle.frame_laws.proofs.OrderValues.{AllGoWhole, whole_append, drawn_whole, side_fits}
use Rattle.frame_laws.proofs.SentOrCut.{Found, sent_or_cut_fits}

-- each drawing of those that find sound states is good there
pub all_good : (size : Size) (c : Confirmed) (j : List Entry) (narrow : size.w ≤ 2048) (ds : List Drawing) (st : SurfaceState) → AllSound size j st ds
    → AllGood size c j narrow (Found size j) st ds
all_good size c j narrow [] st h = tt
all_good size c j narrow (d ∷ ds) st h = (record { sound = h.0; suits = h.1 }, all_good size c j narrow ds (state_after_drawing size st d) h.2)

-- orders that go whole, so many at most
pub record FewWhole (c : Confirmed) (most : ℕ) (orders : List SentOrder) : Type 0 where
  pub all : AllGoWhole c orders
  pub few : length orders ≤ most

length-pending : (size : Size) (ds : List Drawing) (st : SurfaceState) → length (pending_drawings size st ds) ≡ length ds
length-pending size [] st = refl
length-pending size (d ∷ ds) st = ap suc (length-pending size ds (state_after_drawing size st d))

module _ (size : Size) (narrow : size.w ≤ 2048) (sides : Sides size.w size.h) (c : Confirmed) (all : HasAllCaches c) (j : List Entry) where
  walk_fits : (ds : List Drawing) (st : SurfaceState) (w : Walk) (uses : Uses) → AllSound size j st ds → AreApart w.held
      → FewWhole c (65 * length ds) (orders_from c uses (sent_from size c w (pending_drawings size st ds)))
  walk_fits [] st w uses h apart = record { all = tt; few = omega arith }
  walk_fits (d ∷ ds) st w uses h apart =
      by (none_or_one_pending size c w (pending_of size st d))
      (λ u. walk_fits ds (state_after_drawing size st d) (walked_pending size c w (pending_of size st d)).walk u h.2
      (walked_apart size c w (pending_of size st d) apart))
    where
      by : NoneOrOne (walked_pending size c w (pending_of size st d)).sent
          → ((u : Uses) → FewWhole c (65 * length ds) (orders_from c u (sent_from size c (walked_pending size c w (pending_of size st d)).walk
          (pending_drawings size (state_after_drawing size st d) ds))))
          → FewWhole c (65 * suc (length ds))
          (orders_from c uses ((walked_pending size c w (pending_of size st d)).sent
          ++ sent_from size c (walked_pending size c w (pending_of size st d)).walk (pending_drawings size (state_after_drawing size st d) ds)))
      by (inl none) rest =
          let more = sent_from size c (walked_pending size c w (pending_of size st d)).walk (pending_drawings size (state_after_drawing size st d) ds) in
          let r = rest uses in
          let few = r.few in
          subst (λ (ss : List Sent). FewWhole c (65 * suc (length ds)) (orders_from c uses (ss ++ more))) (sym none)
          (record { all = r.all; few = omega (arith, few) })
      by (inr one) rest =
          let s = one.0 in
          let more = sent_from size c (walked_pending size c w (pending_of size st d)).walk (pending_drawings size (state_after_drawing size st d) ds) in
          let f = sent_or_cut_fits size c j narrow all sides st w uses d s (record { sound = h.0; suits = h.1 }) apart one.1 in
          let r = rest (sending_of c uses s).uses in
          let first = f.few in
          let few = r.few in
          let orders = (sending_of c uses s).orders in
          let later = orders_from c (sending_of c uses s).uses more in
          subst (λ (ss : List Sent). FewWhole c (65 * suc (length ds)) (orders_from c uses (ss ++ more))) (sym one.1)
          (record { all = whole_append c orders later f.whole r.all; few = omega (arith, first, few, length-append orders later) })

  start_fits : (b : Bool) → FewWhole c 1 (start_orders b)
  start_fits true = record { all = (record { fits = tt; short = λ regs. omega arith; plain = refl }, tt); few = omega arith }
  start_fits false = record { all = tt; few = omega arith }

  black_fits : (b : Bool) → FewWhole c 1 (black_orders size b)
  black_fits true =
      let low = wire_below (depth_of c) 0 (omega arith) in
      record {
        all = (
          drawn_whole c (whole size) (Opaque (whole size) 0) None
              (record {
                numbers = (
                  refl,
                  (
                    refl,
                    (
                      side_fits size.w narrow,
                      (side_fits size.h sides.not_higher, (omega (arith, low), (omega (arith, low), (omega (arith, low), tt)))),
                    ),
                  ),
                );
                bytes = refl;
              }) tt (omega arith),
          tt,
        );
        few = omega arith;
      }
  black_fits false = record { all = tt; few = omega arith }

  together : (b black : Bool) (orders : List SentOrder) → FewWhole c 16640 orders → FewWhole c 65535 (start_orders b ++ (black_orders size black ++ orders))
  together b black orders h =
      let s = start_fits b in
      let k = black_fits black in
      let few = h.few in
      let one = s.few in
      let two = k.few in
      record {
        all = whole_append c (start_orders b) (black_orders size black ++ orders) s.all (whole_append c (black_orders size black) orders k.all h.all);
        few = omega (arith, few, one, two, length-append (start_orders b) (black_orders size black ++ orders), length-append (black_orders size black) orders);
      }

  -- of a frame over drawings that find sound states
  pub frame_fits : (st : SurfaceState) (held : Held) (uses : Uses) (ds : List Drawing) → AllSound size j st ds → AreApart held
      → (first : Bool) (asked : Tiles) (picture : List ℕ)
      → FewWhole c 65535 (orders_before_tiles size c uses (frame_over size c first held asked picture (pending_drawings size st ds)))
  frame_fits st held uses ds sound apart first asked picture = by (nat_lt most_orders (length (pending_drawings size st ds))) refl
    where
      w : Walk
      w = record { dirty = first_dirty size first c; held = held }

      by : (jump : Bool) → nat_lt most_orders (length (pending_drawings size st ds)) ≡ jump
          → FewWhole c 65535 (orders_before_tiles size c uses (framed_by jump size c first w asked picture (pending_drawings size st ds)))
      by true e = together c.marker (first && c.pat) [] (record { all = tt; few = omega arith })
      by false e =
          let h = walk_fits ds st w uses sound apart in
          let few = h.few in
          let count = length-pending size ds st in
          let most : length ds ≤ 256 = grind (arith, nat_tests, e, count) in
          together c.marker (first && c.pat) (orders_from c uses (sent_from size c w (pending_drawings size st ds)))
          (record { all = h.all; few = omega (arith, few, most) })
