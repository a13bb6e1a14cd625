-- Reading order by order: what is left of the stream, drawn onto what is drawn so far, is what the whole stream draws.
use Rattle.std.proofs.Common.{◌≡◌, ℕ, ◌+◌, ◌-◌, ◌*◌, ◌<◌, ◌≤◌, Bool, List, [], ◌∷◌, ◌++◌, length, replicate, refl, ap, sym, subst, ◌∙◌, arith, Some, Ok, Err, Result}
use Rattle.std.specs.Prelude.{nat_lt, unwrap_or}
use Rattle.px_core.specs.declared.depth.Depth.{Depth}
use Rattle.run_lengths.specs.declared.codes.Before.{Before}
use Rattle.run_lengths.specs.declared.strokes.Stroke.{Stroke}
use Rattle.wire_num.specs.Field.{Read, place_in}
use Rattle.run_lengths.specs.RunLength.{Order, run_size, drawn_over, order_at, onto_orders, orders_after, run_orders_in, Drawn, drawn_after, order_strokes, strokes_from, strokes_of, nothing_drawn, Decompresses, unrle, first_bad_run, pixels_of_orders, refused_place, follows_background, is_first_row, background_stroke, foreground_stroke, foreground_of, run_strokes, before_next}
use Rattle.run_lengths.proofs.Laws.{orders_in_next, order_leaves, Leaves, OrderDraws, length-run_strokes, decompressed_is_unrle}
use Rattle.rle_dec.specs.Drawing.{drawn_onto, drawn_rest, drawn_whole}
use Rattle.rle_dec.proofs.Drawn.{drawn_onto-append, length-drawn_onto, are_drawn_onto}

onto_drawn : (w : ℕ) (d : Drawn) (p : List ℕ) (o : Order) (r : Result (List Order) (List ℕ)) → drawn_rest w d p (onto_orders o r) ≡ drawn_rest w (drawn_after w d o) (drawn_onto w (order_strokes w d o) p) r
onto_drawn w d p o (Ok os) = ap Ok (drawn_onto-append w (order_strokes w d o) (strokes_from w (drawn_after w d o) os) p)
onto_drawn w d p o (Err refused) = refl

length-order_strokes : (w : ℕ) (d : Drawn) (o : Order) → length (order_strokes w d o) ≡ run_size o.run
length-order_strokes w d o = length-run_strokes o.run (follows_background d.before (is_first_row w d)) (background_stroke (is_first_row w d)) (foreground_stroke (is_first_row w d) (foreground_of o d))

-- one order more
pub order_step : (depth : Depth) (w count : ℕ) (d : Drawn) (p q stream rest : List ℕ) (o : Order) → length p < count → Ok (o, rest) ≡ order_at depth (count - length p) stream → q ≡ drawn_onto w (order_strokes w d o) p → drawn_rest w (drawn_after w d o) q (run_orders_in depth (count - length q) rest) ≡ drawn_rest w d p (run_orders_in depth (count - length p) stream)
order_step depth w count d p q stream rest o lt e f =
    let left : ℕ = count - length p in
    let size : length q ≡ length p + run_size o.run = ap length f ∙ length-drawn_onto w (order_strokes w d o) p ∙ ap (λ n. length p + n) (length-order_strokes w d o) in
    let same : count - length q ≡ left - run_size o.run = omega (arith, size) in
    let next : run_orders_in depth left stream ≡ onto_orders o (run_orders_in depth (left - run_size o.run) rest) = orders_in_next depth left stream (omega (arith, lt)) ∙ ap (λ r. orders_after left r (run_orders_in depth)) (sym e) in
    ap (λ n. drawn_rest w (drawn_after w d o) q (run_orders_in depth n rest)) same
    ∙ ap (λ xs. drawn_rest w (drawn_after w d o) xs (run_orders_in depth (left - run_size o.run) rest)) f
    ∙ sym (onto_drawn w d p o (run_orders_in depth (left - run_size o.run) rest))
    ∙ ap (drawn_rest w d p) (sym next)

-- an order that is refused
pub order_refused : (depth : Depth) (w count : ℕ) (d : Drawn) (p stream refused : List ℕ) → length p < count → Err refused ≡ order_at depth (count - length p) stream → drawn_rest w d p (run_orders_in depth (count - length p) stream) ≡ Err refused
order_refused depth w count d p stream refused lt e = ap (drawn_rest w d p) (orders_in_next depth (count - length p) stream (omega (arith, lt)) ∙ ap (λ r. orders_after (count - length p) r (run_orders_in depth)) (sym e))

-- nothing is left of the pixels
pub orders_end : (depth : Depth) (w count : ℕ) (d : Drawn) (p : List ℕ) → count ≤ length p → drawn_rest w d p (run_orders_in depth (count - length p) []) ≡ Ok p
orders_end depth w count d p le = let none : count - length p ≡ 0 = omega (arith, le) in ap (λ n. drawn_rest w d p (run_orders_in depth n [])) none

pub orders_end_late : (depth : Depth) (w count : ℕ) (d : Drawn) (p stream : List ℕ) → count ≤ length p → 1 ≤ length stream → drawn_rest w d p (run_orders_in depth (count - length p) stream) ≡ Err stream
orders_end_late depth w count d p [] le some = absurd (omega (arith, some))
orders_end_late depth w count d p (b ∷ stream) le some = let none : count - length p ≡ 0 = omega (arith, le) in ap (λ n. drawn_rest w d p (run_orders_in depth n (b ∷ stream))) none

-- bytes after an order, and those of a refused field, are no more than there were
pub rest_is_shorter : (depth : Depth) (left : ℕ) (stream rest : List ℕ) (o : Order) → Ok (o, rest) ≡ order_at depth left stream → length rest < length stream
rest_is_shorter depth left [] rest o e = cc
rest_is_shorter depth left (b ∷ stream) rest o e = let P : Read Order → Type 0 = λ r. Leaves (OrderDraws left) (length stream) r in let h = subst P (sym e) (order_leaves depth left b stream) in omega (arith, h.1)

pub refused_is_no_longer : (depth : Depth) (left : ℕ) (stream refused : List ℕ) → Err refused ≡ order_at depth left stream → length refused ≤ length stream
refused_is_no_longer depth left [] refused e = let same : refused ≡ [] = cc in omega (arith, ap length same)
refused_is_no_longer depth left (b ∷ stream) refused e = let P : Read Order → Type 0 = λ r. Leaves (OrderDraws left) (length stream) r in subst P (sym e) (order_leaves depth left b stream)

-- an order draws no more pixels than are left
pub order_fits : (depth : Depth) (left : ℕ) (stream rest : List ℕ) (o : Order) → Ok (o, rest) ≡ order_at depth left stream → run_size o.run ≤ left
order_fits depth left [] rest o e = cc
order_fits depth left (b ∷ stream) rest o e = let P : Read Order → Type 0 = λ r. Leaves (OrderDraws left) (length stream) r in let h = subst P (sym e) (order_leaves depth left b stream) in h.0.1

-- ---- the whole stream

pub drawn_is_decompressed : (depth : Depth) (bytes : List ℕ) (w h : ℕ) (p : List ℕ) → 1 ≤ w → Ok p ≡ drawn_whole depth w (w * h) bytes → Decompresses depth bytes w h p
drawn_is_decompressed depth bytes w h p some e = by_orders (run_orders_in depth (w * h) bytes) refl e where
  by_orders : (r : Result (List Order) (List ℕ)) → run_orders_in depth (w * h) bytes ≡ r → Ok p ≡ drawn_rest w (nothing_drawn depth) [] r → Decompresses depth bytes w h p
  by_orders (Ok os) cut f =
      let same : drawn_onto w (strokes_of depth w os) [] ≡ p = cc in
      let P : List ℕ → Type 0 = λ xs. xs ≡ drawn_over (strokes_of depth w os) (replicate w 0 ++ xs) in
      record { orders = os; cut = cut; drawn = subst P same (are_drawn_onto w [] (strokes_of depth w os) [] some refl refl) }
  by_orders (Err refused) cut f = cc

pub drawn_is_unrle : (depth : Depth) (bytes : List ℕ) (w h : ℕ) (p : List ℕ) → 1 ≤ w → Ok p ≡ drawn_whole depth w (w * h) bytes → unrle depth bytes w h ≡ Ok p
drawn_is_unrle depth bytes w h p some e = decompressed_is_unrle depth bytes w h p some (drawn_is_decompressed depth bytes w h p some e)

-- the place of the bytes that are refused
pub refused_is_unrle : (depth : Depth) (bytes refused : List ℕ) (w h at : ℕ) → at ≡ length bytes - length refused → Err refused ≡ drawn_whole depth w (w * h) bytes → (unrle depth bytes w h ≡ Err at) × (first_bad_run depth bytes w h ≡ Some at)
refused_is_unrle depth bytes refused w h at here e = by_orders (run_orders_in depth (w * h) bytes) e where
  by_orders : (r : Result (List Order) (List ℕ)) → Err refused ≡ drawn_rest w (nothing_drawn depth) [] r → (pixels_of_orders depth bytes w h r ≡ Err at) × (refused_place bytes r ≡ Some at)
  by_orders (Ok os) f = cc
  by_orders (Err left) f =
      let same : left ≡ refused = cc in
      let place : place_in bytes left ≡ at = ap (place_in bytes) same ∙ sym here in
      (ap Err place, ap Some place)

-- one order more, with the numbers as the code has them
pub code_step : (depth : Depth) (w count len fg fg' : ℕ) (before before' : Before) (first follows : Bool) (back fore : Stroke) (p q stream rest : List ℕ) (o : Order) →
    len ≡ length p → len < count → Ok (o, rest) ≡ order_at depth (count - len) stream → first ≡ nat_lt len w → fg' ≡ unwrap_or o.foreground fg → follows ≡ follows_background before first → back ≡ background_stroke first → fore ≡ foreground_stroke first fg' → before' ≡ before_next o.run first → q ≡ drawn_onto w (run_strokes o.run follows back fore) p →
    drawn_rest w (record { count = length q; foreground = fg'; before = before' }) q (run_orders_in depth (count - length q) rest) ≡ drawn_rest w (record { count = length p; foreground = fg; before = before }) p (run_orders_in depth (count - length p) stream)
code_step depth w count len fg fg' before before' first follows back fore p q stream rest o same lt e at f g h i j k =
    let d : Drawn = record { count = length p; foreground = fg; before = before } in
    let first' : first ≡ nat_lt (length p) w = at ∙ ap (λ n. nat_lt n w) same in
    let read : Ok (o, rest) ≡ order_at depth (count - length p) stream = e ∙ ap (λ n. order_at depth (count - n) stream) same in
    let strokes : run_strokes o.run follows back fore ≡ order_strokes w d o = cc in
    let drawn : q ≡ drawn_onto w (order_strokes w d o) p = k ∙ ap (λ ss. drawn_onto w ss p) strokes in
    let size : length q ≡ length p + run_size o.run = ap length drawn ∙ length-drawn_onto w (order_strokes w d o) p ∙ ap (λ n. length p + n) (length-order_strokes w d o) in
    let before'' : before' ≡ before_next o.run (nat_lt (length p) w) = j ∙ ap (before_next o.run) first' in
    let after : Drawn = record { count = length q; foreground = fg'; before = before' } in
    let same_after : after ≡ drawn_after w d o = λ x. record { count = size x; foreground = f x; before = before'' x } in
    ap (λ t. drawn_rest w t q (run_orders_in depth (count - length q) rest)) same_after ∙ order_step depth w count d p q stream rest o (omega (arith, same, lt)) read drawn

-- nothing is left of the pixels nor of the stream
pub all_drawn : (depth : Depth) (w count : ℕ) (d : Drawn) (p stream : List ℕ) (whole : Result (List ℕ) (List ℕ)) → count ≤ length p → length stream ≡ 0 → drawn_rest w d p (run_orders_in depth (count - length p) stream) ≡ whole → Ok p ≡ whole
all_drawn depth w count d p [] whole le none e = sym (orders_end depth w count d p le) ∙ e
all_drawn depth w count d p (b ∷ stream) whole le none e = absurd (omega (arith, none))
