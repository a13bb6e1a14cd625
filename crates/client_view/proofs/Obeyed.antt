-- Views after orders, and the viewers that stand for them.
use Rattle.std.proofs.Common.{◌≡◌, ◌<◌, ℕ, ◌+◌, ◌-◌, ◌^◌, min, Bool, true, false, List, [], ◌∷◌, ◌++◌, length, get_or, take, drop, refl, ap, sym, subst, ◌∙◌, Some, arith}
use Rattle.std.specs.Prelude.{Option, Result, Ok, Err}
use Rattle.std.proofs.lemmas.List.{length-append}
use Rattle.std.proofs.Math.Seq.{drop-cons}
use Rattle.std.proofs.Common.{add-one}
use Rattle.px_core.specs.declared.surface.Size.{Size}
use Rattle.px_core.specs.declared.rectangle.Rect.{Rect}
use Rattle.wire_num.specs.Field.{bind}
use Rattle.caps_sets.specs.declared.confirmed.Confirmed.{Confirmed}
use Rattle.order_fields.specs.OrderTable.{FieldList}
use Rattle.order_fields.specs.Secondary.{Cached}
use Rattle.order_fields.specs.NamedDrawing.{NamedDrawing, drawing_of}
use Rattle.order_read.specs.declared.read.Read.{Read}
use Rattle.order_read.specs.Told.{Told, told_read, told_reads}
use Rattle.order_read.specs.Told.Told.{Drawn, Stored}
use Rattle.order_means.specs.ClientState.{ClientState, Fault, Block, found}
use Rattle.order_means.specs.ClientState.Fault.{Broken}
use Rattle.order_means.specs.FrameMarks.{View, view_with, marked_if, is_mark}
use Rattle.client_picture.specs.Pictures.{Pictures, unknown_picture}
use Rattle.client_caches.specs.declared.obey_fault.ObeyFault.{ObeyFault}
use Rattle.client_caches.specs.Answers.{Gives, Refuses}
use Rattle.client_caches.specs.Caches.{CachesOf, with_caches}
use Rattle.client_caches.proofs.Stores.{refused_by}
use Rattle.client_view.specs.declared.viewer.Viewer.{Viewer}
use Rattle.client_view.specs.Told.{client_after_clipped, client_after_stored, counted_told, view_after_told, view_after_all_told}
use Rattle.client_view.specs.Views.{capped, client_of, last_picture, StandsFor, SameViewer, SamePlace, IsMarked, Obeys}
use Rattle.client_view.specs.OnTheWay.{HasCounts, SameCounts, Stops, AfterFirstTold}

-- ---- counts

pub one_more : (n m k : ℕ) → m ≡ capped n → k ≡ min (m + 1) (2 ^ 64 - 1) → k ≡ capped (n + 1)
one_more n m k e f = omega (arith, e, f)

-- ---- drawings

pub view_drawn : View → ClientState → View
view_drawn v after = record { client = after; pictures = v.pictures; orders = v.orders + 1; tiles = v.tiles }

abbrev counted : Confirmed → Told → View → Result ClientState Fault → Result View Fault
counted confirmed t v r = bind r (λ c. Ok (counted_told confirmed t (view_with v c)))

pub told_drawing : (confirmed : Confirmed) (size : Size) (v : View) (clip : Option Rect) (o : FieldList) (d : NamedDrawing) (c after : ClientState) → v.client ≡ c → drawing_of c.depth o ≡ Some d
    → client_after_clipped confirmed size clip c d ≡ Ok after → view_after_told confirmed size v (Drawn o clip) ≡ Ok (view_drawn v after)
unfolding view_drawn
told_drawing confirmed size v clip o d c after s e h =
    ap (λ (y : ClientState). counted confirmed (Drawn o clip) v (bind (found (drawing_of y.depth o) Broken) (client_after_clipped confirmed size clip y))) s
    ∙ ap (λ (x : Option NamedDrawing). counted confirmed (Drawn o clip) v (bind (found x Broken) (client_after_clipped confirmed size clip c))) e
    ∙ ap (counted confirmed (Drawn o clip) v) h

pub no_drawing : (f : ObeyFault) (confirmed : Confirmed) (size : Size) (v : View) (clip : Option Rect) (o : FieldList) (d : NamedDrawing) (c : ClientState) → v.client ≡ c → drawing_of c.depth o ≡ Some d
    → Refuses f (client_after_clipped confirmed size clip c d) → Refuses f (view_after_told confirmed size v (Drawn o clip))
no_drawing f confirmed size v clip o d c s e r =
    refused_by f (client_after_clipped confirmed size clip c d) (view_after_told confirmed size v (Drawn o clip)) (λ g h.
    ap (λ (y : ClientState). counted confirmed (Drawn o clip) v (bind (found (drawing_of y.depth o) Broken) (client_after_clipped confirmed size clip y))) s
    ∙ ap (λ (x : Option NamedDrawing). counted confirmed (Drawn o clip) v (bind (found x Broken) (client_after_clipped confirmed size clip c))) e
    ∙ ap (counted confirmed (Drawn o clip) v) h) r

pub drawn_stands : (v : View) (m : Viewer) (blocks : List Block) (pictures : Pictures) (orders : ℕ) → StandsFor v m → SamePlace m.pictures pictures → orders ≡ capped (v.orders + 1)
    → StandsFor (view_drawn v (client_of m.regs m.caches blocks pictures)) (record m { blocks = blocks; pictures = pictures; orders = orders })
unfolding view_drawn
drawn_stands v m blocks pictures orders s place count = record {
  client = refl;
  marked = place.marked ∙ s.marked ∙ ap (λ (size : Size). last_picture (unknown_picture size) v.pictures) (sym place.size);
  marks = s.marks;
  orders = count;
  tiles = s.tiles;
}

-- ---- cache orders

stored_by : (confirmed : Confirmed) (size : Size) (v : View) (o : Cached) (c after : ClientState) → v.client ≡ c → is_mark confirmed o ≡ false → client_after_stored confirmed c o ≡ Ok after
    → view_after_told confirmed size v (Stored o) ≡ Ok (view_with v after)
stored_by confirmed size v o c after s t h =
    ap (λ (y : ClientState). counted confirmed (Stored o) v (client_after_stored confirmed y o)) s
    ∙ ap (counted confirmed (Stored o) v) h
    ∙ ap (λ (b : Bool). Ok (marked_if b (view_with v after))) t

-- the caches after a cache order are the client's
pub stored_obeys : (result : Result (Unit {0}) ObeyFault) (confirmed : Confirmed) (size : Size) (v : View) (o : Cached) (m : Viewer) (caches : CachesOf) → StandsFor v m → is_mark confirmed o ≡ false
    → Gives (λ _. with_caches (client_of m.regs m.caches m.blocks m.pictures) caches) result (client_after_stored confirmed (client_of m.regs m.caches m.blocks m.pictures) o)
    → Obeys result (view_after_told confirmed size v (Stored o)) (record m { caches = caches })
stored_obeys (Ok done) confirmed size v o m caches s t h =
    let c : ClientState = client_of m.regs m.caches m.blocks m.pictures in
    let after : ClientState = with_caches c caches in
    (view_with v after, stored_by confirmed size v o c after s.client t h, record { client = refl; marked = s.marked; marks = s.marks; orders = s.orders; tiles = s.tiles })
stored_obeys (Err f) confirmed size v o m caches s t h =
    let c : ClientState = client_of m.regs m.caches m.blocks m.pictures in
    refused_by f (client_after_stored confirmed c o) (view_after_told confirmed size v (Stored o)) (λ g e.
    ap (λ (y : ClientState). counted confirmed (Stored o) v (client_after_stored confirmed y o)) s.client ∙ ap (counted confirmed (Stored o) v) e) h

-- ---- marks

last_pushed : (other p : List (Option ℕ)) (ps : List (List (Option ℕ))) → last_picture other (ps ++ p ∷ []) ≡ p
last_pushed other p [] = refl
last_pushed other p (q ∷ ps) = last_pushed q p ps

pub marked_stands : (v : View) (m n : Viewer) → StandsFor v m → IsMarked m n → StandsFor (marked_if true v) n
marked_stands v m n s is =
    let here : v.client.picture ≡ m.pictures.picture = ap (λ (c : ClientState). c.picture) s.client in
    let count : capped (m.marks + 1) ≡ capped (length (v.pictures ++ v.client.picture ∷ [])) = omega (arith, s.marks, length-append v.pictures (v.client.picture ∷ [])) in
    subst (StandsFor (marked_if true v)) (sym is) (record {
      client = s.client;
      marked = sym here ∙ sym (last_pushed (unknown_picture m.pictures.size) v.client.picture v.pictures);
      marks = count;
      orders = s.orders;
      tiles = s.tiles;
    })

-- ---- what stays of a view

pub counts_of : (v : View) (m : Viewer) → StandsFor v m → HasCounts v m
counts_of v m s = record { marked = s.marked; marks = s.marks; orders = s.orders; tiles = s.tiles }

pub counts_stay : (v : View) (m n : Viewer) → StandsFor v m → SameViewer m n → SameCounts m n → HasCounts v n
counts_stay v m n s same kept = record {
  marked = kept.marked ∙ s.marked ∙ ap (λ (size : Size). last_picture (unknown_picture size) v.pictures) (sym same.size);
  marks = kept.marks ∙ s.marks;
  orders = kept.orders ∙ s.orders;
  tiles = kept.tiles ∙ s.tiles;
}

pub joined_by : {A B C E : Type 0} (r : Result A E) (f : A → Result B E) (g : B → Result C E) (h : A → Result C E) → ((a : A) → h a ≡ bind (f a) g) → bind r h ≡ bind (bind r f) g
joined_by (Ok a) f g h e = e a
joined_by (Err x) f g h e = refl

-- ---- one by one

-- what is left comes to what all came to, and what was obeyed to a view
pub record LeftTold (confirmed : Confirmed) (size : Size) (first : View) (whole : Result View Fault) (done left : List Told) (m : Viewer) : Type 0 where
  pub view : View
  pub same : whole ≡ view_after_all_told confirmed size view left
  pub reached : view_after_all_told confirmed size first done ≡ Ok view
  pub stands : StandsFor view m

pub all_left : (confirmed : Confirmed) (size : Size) (v : View) (ts : List Told) (m : Viewer) → StandsFor v m → LeftTold confirmed size v (view_after_all_told confirmed size v ts) [] ts m
all_left confirmed size v ts m s = record { view = v; same = refl; reached = refl; stands = s }

pub told_left : (body : List ℕ) (reads : List Read) (i : ℕ) (d : Read) → i < length reads → told_reads body (drop i reads) ≡ told_read body (get_or reads i d) ∷ told_reads body (drop (i + 1) reads)
told_left body reads i d h = ap (told_reads body) (drop-cons reads i d h) ∙ ap (λ (n : ℕ). told_read body (get_or reads i d) ∷ told_reads body (drop n reads)) (sym (add-one i))

told_joined : (confirmed : Confirmed) (size : Size) (v : View) (xs ys : List Told) → view_after_all_told confirmed size v (xs ++ ys) ≡ bind (view_after_all_told confirmed size v xs) (λ w. view_after_all_told confirmed size w ys)
told_joined confirmed size v [] ys = refl
told_joined confirmed size v (x ∷ xs) ys =
    joined_by (view_after_told confirmed size v x) (λ w. view_after_all_told confirmed size w xs) (λ w. view_after_all_told confirmed size w ys) (λ w. view_after_all_told confirmed size w (xs ++ ys)) (λ w. told_joined confirmed size w xs ys)

pub one_less : (confirmed : Confirmed) (size : Size) (first : View) (whole : Result View Fault) (t : Told) (done next ts left : List Told) (m n : Viewer) → (l : LeftTold confirmed size first whole done left m) → left ≡ t ∷ ts → next ≡ done ++ t ∷ []
    → Obeys (Ok tt) (view_after_told confirmed size l.view t) n → LeftTold confirmed size first whole next ts n
one_less confirmed size first whole t done next ts left m n l e d o = record {
  view = o.0;
  same = l.same ∙ ap (view_after_all_told confirmed size l.view) e ∙ ap (λ (r : Result View Fault). bind r (λ w. view_after_all_told confirmed size w ts)) o.1;
  reached = ap (view_after_all_told confirmed size first) d ∙ told_joined confirmed size first done (t ∷ []) ∙ ap (λ (r : Result View Fault). bind r (λ w. view_after_all_told confirmed size w (t ∷ []))) l.reached
      ∙ ap (λ (r : Result View Fault). bind r (λ w. Ok w)) o.1;
  stands = o.2;
}

pub one_refused : (f : ObeyFault) (confirmed : Confirmed) (size : Size) (first : View) (whole : Result View Fault) (t : Told) (done ts left : List Told) (m : Viewer) → (l : LeftTold confirmed size first whole done left m) → left ≡ t ∷ ts
    → Refuses f (view_after_told confirmed size l.view t) → Refuses f whole
one_refused f confirmed size first whole t done ts left m l e r =
    refused_by f (view_after_told confirmed size l.view t) whole (λ g h.
    l.same ∙ ap (view_after_all_told confirmed size l.view) e ∙ ap (λ (r : Result View Fault). bind r (λ w. view_after_all_told confirmed size w ts)) h) r

-- an order leaves the marks and the counts of those before it
pub one_stopped : (confirmed : Confirmed) (size : Size) (first : View) (whole : Result View Fault) (i : ℕ) (all done left : List Told) (m n : Viewer) → LeftTold confirmed size first whole done left m → take i all ≡ done
    → SameViewer m n → SameCounts m n → Stops (AfterFirstTold confirmed size first all) n
one_stopped confirmed size first whole i all done left m n l e same kept =
    (l.view, (i, ap (view_after_all_told confirmed size first) e ∙ l.reached), counts_stay l.view m n l.stands same kept)

pub none_left : (confirmed : Confirmed) (size : Size) (first : View) (whole : Result View Fault) (done left : List Told) (m : Viewer) → LeftTold confirmed size first whole done left m → left ≡ [] → Obeys (Ok tt) whole m
none_left confirmed size first whole done left m l e = (l.view, l.same ∙ ap (view_after_all_told confirmed size l.view) e, l.stands)
