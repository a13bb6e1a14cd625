-- A front of a stream that isn't refused isn't refused, and the pictures at its marks are the first ones.
use Rattle.std.proofs.Common.{◌≡◌, ℕ, ◌+◌, List, [], ◌∷◌, ◌++◌, refl, ap, sym, subst, ◌∙◌, Some, None, Bool, true, false, append_assoc}
use Rattle.std.specs.Prelude.{Option, Result, Ok, Err, ⊤, not}
use Rattle.std.proofs.lemmas.List.{append-nil}
use Rattle.px_core.specs.declared.surface.Size.{Size}
use Rattle.caps_sets.specs.declared.confirmed.Confirmed.{Confirmed}
use Rattle.caps_sets.specs.Confirmed.{takes_fast}
use Rattle.wire_num.specs.Field.{Read, bind}
use Rattle.order_fields.specs.OrderStream.{Order, Stream, orders_in}
use Rattle.order_fields.specs.OrderStream.Order.{Primary, Other}
use Rattle.px_core.specs.Picture.{turned_over}
use Rattle.order_means.specs.ClientState.{Fault, client_after_order, after_painting, needs}
use Rattle.order_means.specs.ClientState.Fault.{Broken}
use Rattle.order_means.specs.Updates.{Body, Cutting, updates_from, refusal_in}
use Rattle.order_means.specs.FrameMarks.{Tile, Update, View, ClientReading, Refusal, reading, first_reading, meant, marked_if, is_mark, counted_order, view_with}
use Rattle.order_means.specs.FrameMarks.{view_after_order, view_after_orders, is_packed_tile, tile_pixels, is_tile, showing, view_after_tile, view_after_tiles}
use Rattle.order_means.specs.FrameMarks.{with_registers, obeyed, view_after_update, view_after_read, view_after_body, view_after_bodies, update_in}
use Rattle.order_means.specs.FrameMarks.{unless_refused_at, read_on, read_stream, pictures_at_marks}
use Rattle.order_means.specs.FrameMarks.Update.{Orders, Tiles, Synchronize}
use Rattle.order_means.proofs.Pieces.{read_joined}
use Rattle.headline.specs.Fronts.{IsFront, ReadsFront, ShowsFirst}

-- ---- fronts of lists

pub front_of_itself : {A : Type 0} (xs : List A) → IsFront xs xs
front_of_itself xs = record { rest = []; joined = sym (append-nil xs) }

pub front_of_front : {A : Type 0} (xs ys zs : List A) → IsFront xs ys → IsFront ys zs → IsFront xs zs
front_of_front xs ys zs a b = record {
  rest = a.rest ++ b.rest;
  joined = b.joined ∙ ap (λ l. l ++ b.rest) a.joined ∙ append_assoc xs a.rest b.rest;
}

-- ---- a viewer's pictures only grow

abbrev pub Pictures : Type 0
Pictures = List (List (Option ℕ))

-- a view that is reached has these pictures first
abbrev Extends : {E : Type 0} → Pictures → Result View E → Type 0
Extends pictures (Ok v) = IsFront pictures v.pictures
Extends pictures (Err e) = ⊤

extends_from : {E : Type 0} (pictures : Pictures) (v : View) (r : Result View E) → IsFront pictures v.pictures → Extends v.pictures r → Extends pictures r
extends_from pictures v (Ok w) a b = front_of_front pictures v.pictures w.pictures a b
extends_from pictures v (Err e) a b = tt

bind_extends : {E : Type 0} (pictures : Pictures) (r : Result View E) (f : View → Result View E) → Extends pictures r
    → ((w : View) → Extends w.pictures (f w)) → Extends pictures (bind r f)
bind_extends pictures (Ok w) f a b = extends_from pictures w (f w) a (b w)
bind_extends pictures (Err e) f a b = tt

any_extends : {A E : Type 0} (pictures : Pictures) (r : Result A E) (f : A → Result View E) → ((x : A) → Extends pictures (f x)) → Extends pictures (bind r f)
any_extends pictures (Ok x) f h = h x
any_extends pictures (Err e) f h = tt

marked_extends : (b : Bool) (v : View) → IsFront v.pictures (marked_if b v).pictures
marked_extends true v = record { rest = v.client.picture ∷ []; joined = refl }
marked_extends false v = front_of_itself v.pictures

counted_extends : (confirmed : Confirmed) (o : Order) (v : View) → IsFront v.pictures (counted_order confirmed o v).pictures
counted_extends confirmed (Primary o bounds) v = front_of_itself v.pictures
counted_extends confirmed (Other o) v = marked_extends (is_mark confirmed o) v

order_extends : (confirmed : Confirmed) (size : Size) (v : View) (o : Order) → Extends v.pictures (view_after_order confirmed size v o)
order_extends confirmed size v o =
    any_extends v.pictures (client_after_order confirmed size v.client o) (λ c. Ok (counted_order confirmed o (view_with v c)))
    (λ c. counted_extends confirmed o (view_with v c))

orders_extend : (confirmed : Confirmed) (size : Size) (os : List Order) (v : View) → Extends v.pictures (view_after_orders confirmed size v os)
orders_extend confirmed size [] v = front_of_itself v.pictures
orders_extend confirmed size (o ∷ os) v =
    bind_extends v.pictures (view_after_order confirmed size v o) (λ w. view_after_orders confirmed size w os) (order_extends confirmed size v o)
    (λ w. orders_extend confirmed size os w)

needs_extends : (pictures : Pictures) (b : Bool) (fault : Fault) (r : Result View Fault) → Extends pictures r → Extends pictures (needs b fault r)
needs_extends pictures true fault r h = h
needs_extends pictures false fault r h = tt

tile_extends : (size : Size) (v : View) (t : Tile) → Extends v.pictures (view_after_tile size v t)
tile_extends size v t =
    let shown : List ℕ → View = λ wire. record v { client = after_painting size None (showing t (turned_over t.w t.h wire)) v.client; tiles = v.tiles + 1 } in
    needs_extends v.pictures (is_tile v.client.depth size t) Broken (bind (tile_pixels v.client.depth (is_packed_tile t.flags) t) (λ wire. Ok (shown wire)))
    (any_extends v.pictures (tile_pixels v.client.depth (is_packed_tile t.flags) t) (λ wire. Ok (shown wire)) (λ wire. front_of_itself v.pictures))

tiles_extend : (size : Size) (ts : List Tile) (v : View) → Extends v.pictures (view_after_tiles size v ts)
tiles_extend size [] v = front_of_itself v.pictures
tiles_extend size (t ∷ ts) v =
    bind_extends v.pictures (view_after_tile size v t) (λ w. view_after_tiles size w ts) (tile_extends size v t) (λ w. tiles_extend size ts w)

meant_extends : (pictures : Pictures) (place : ℕ) (r : Result View Fault) → Extends pictures r → Extends pictures (meant place r)
meant_extends pictures place (Ok w) h = h
meant_extends pictures place (Err fault) h = tt

obeyed_extends : (confirmed : Confirmed) (size : Size) (body : Body) (v : View) (s : Stream) (o : Option (List ℕ))
    → Extends v.pictures (obeyed confirmed size body v s o)
obeyed_extends confirmed size body v s None =
    meant_extends v.pictures body.place (view_after_orders confirmed size (with_registers v s.after) s.orders)
    (orders_extend confirmed size s.orders (with_registers v s.after))
obeyed_extends confirmed size body v s (Some left) = tt

update_extends : (confirmed : Confirmed) (size : Size) (body : Body) (v : View) (u : Update) → Extends v.pictures (view_after_update confirmed size body v u)
update_extends confirmed size body v (Orders count bytes) =
    let s = orders_in v.client.depth bytes count v.client.registers in obeyed_extends confirmed size body v s s.refused
update_extends confirmed size body v (Tiles ts) = meant_extends v.pictures body.place (view_after_tiles size v ts) (tiles_extend size ts v)
update_extends confirmed size body v Synchronize = marked_extends (not confirmed.marker) v

read_extends : (confirmed : Confirmed) (size : Size) (body : Body) (v : View) (r : Read Update) → Extends v.pictures (view_after_read confirmed size body v r)
read_extends confirmed size body v (Ok u) = update_extends confirmed size body v u.0
read_extends confirmed size body v (Err left) = tt

bodies_extend : (confirmed : Confirmed) (size : Size) (bs : List Body) (v : View) → Extends v.pictures (view_after_bodies confirmed size v bs)
bodies_extend confirmed size [] v = front_of_itself v.pictures
bodies_extend confirmed size (b ∷ bs) v =
    bind_extends v.pictures (view_after_body confirmed size v b) (λ w. view_after_bodies confirmed size w bs)
    (read_extends confirmed size b v (update_in b)) (λ w. bodies_extend confirmed size bs w)

-- a reading that is reached has these pictures first
abbrev pub ReadingExtends : Pictures → Result ClientReading Refusal → Type 0
ReadingExtends pictures (Ok r) = IsFront pictures r.view.pictures
ReadingExtends pictures (Err e) = ⊤

reading_extends : (pictures : Pictures) (r : Result View Refusal) (o : Option ℕ) (cut : Cutting) → Extends pictures r
    → ReadingExtends pictures (bind r (λ w. unless_refused_at o (reading w cut)))
reading_extends pictures (Ok w) None cut h = h
reading_extends pictures (Ok w) (Some place) cut h = tt
reading_extends pictures (Err e) o cut h = tt

pub reading_on_extends : (confirmed : Confirmed) (size : Size) (r : ClientReading) (bytes : List ℕ) → ReadingExtends r.view.pictures (read_on confirmed size r bytes)
reading_on_extends confirmed size r bytes =
    let u = updates_from (takes_fast confirmed) r.cut bytes in
    reading_extends r.view.pictures (view_after_bodies confirmed size r.view u.bodies) (refusal_in u.next.stage) u.next
    (bodies_extend confirmed size u.bodies r.view)

-- ---- fronts of streams

pub stream_front : (confirmed : Confirmed) (size : Size) (front rest : List ℕ) (whole : ClientReading) → read_stream confirmed size (front ++ rest) ≡ Ok whole
    → ReadsFront confirmed size front rest whole
stream_front confirmed size front rest whole e =
    by (read_stream confirmed size front) refl (sym (read_joined confirmed size (first_reading confirmed size) front rest) ∙ e)
  where
    by : (r : Result ClientReading Refusal) → read_stream confirmed size front ≡ r → bind r (λ s. read_on confirmed size s rest) ≡ Ok whole
        → ReadsFront confirmed size front rest whole
    by (Ok s) is more = record {
      reached = s;
      front_is_read = is;
      rest_is_read = more;
      pictures_are_first = subst (ReadingExtends s.view.pictures) more (reading_on_extends confirmed size s rest);
    }
    by (Err refusal) is more = absurd (cc more)

-- these pictures are the first ones of those of a list that is reached
abbrev pub AreFirstOf : Pictures → Result Pictures Refusal → Type 0
AreFirstOf shown (Ok pictures) = IsFront shown pictures
AreFirstOf shown (Err refusal) = ⊤

pub marks_front : (confirmed : Confirmed) (size : Size) (front rest : List ℕ) (pictures : Pictures)
    → pictures_at_marks confirmed size (front ++ rest) ≡ Ok pictures
    → ShowsFirst confirmed size front pictures
marks_front confirmed size front rest pictures e = by (read_stream confirmed size (front ++ rest)) refl e
  where
    by : (r : Result ClientReading Refusal) → read_stream confirmed size (front ++ rest) ≡ r → bind r (λ s. Ok s.view.pictures) ≡ Ok pictures
        → ShowsFirst confirmed size front pictures
    by (Ok whole) is more =
        let reads = stream_front confirmed size front rest whole is in
        record {
          shown = reads.reached.view.pictures;
          marks_show = ap (λ r. bind r (λ s. Ok s.view.pictures)) reads.front_is_read;
          are_first = subst (AreFirstOf reads.reached.view.pictures) more reads.pictures_are_first;
        }
    by (Err refusal) is more = absurd (cc more)
