-- Views after the rectangles of Bitmap updates.
use Rattle.std.proofs.Common.{◌≡◌, ◌<◌, ℕ, ◌+◌, Bool, true, List, [], ◌∷◌, ◌++◌, length, get_or, take, drop, refl, ap, sym, ◌∙◌, Some, None, add-one}
use Rattle.std.specs.Prelude.{Option, Result, Ok, Err}
use Rattle.std.proofs.Math.Seq.{drop-cons}
use Rattle.px_core.specs.declared.surface.Size.{Size}
use Rattle.px_core.specs.declared.depth.Depth.{Depth}
use Rattle.wire_num.specs.Field.{bind}
use Rattle.px_core.specs.Picture.{turned_over}
use Rattle.order_means.specs.ClientState.{Fault, needs, after_painting, wire_pixels}
use Rattle.order_means.specs.ClientState.Fault.{Broken}
use Rattle.order_means.specs.FrameMarks.{View, Tile as Rectangle, is_tile, is_packed_tile, tile_pixels, showing, view_after_tile, view_after_tiles}
use Rattle.update_read.specs.declared.tile.Tile.{Tile}
use Rattle.update_read.specs.Told.{told_tile, told_tiles}
use Rattle.client_picture.specs.Pictures.{Pictures, painted_within, unknown_picture}
use Rattle.client_caches.specs.declared.obey_fault.ObeyFault.{ObeyFault}
use Rattle.client_caches.specs.Answers.{Refuses}
use Rattle.client_caches.specs.Caches.{upright_pixels}
use Rattle.client_caches.proofs.Stores.{refused_by}
use Rattle.client_view.specs.declared.viewer.Viewer.{Viewer}
use Rattle.client_view.specs.Views.{capped, client_of, last_picture, StandsFor, SameViewer, Obeys}
use Rattle.client_view.specs.OnTheWay.{SameCounts, Stops, AfterFirstTiles}
use Rattle.client_view.proofs.Obeyed.{joined_by, counts_stay}

-- a view after the pixels of a rectangle
pub view_tiled : Size → View → Rectangle → List ℕ → View
view_tiled size v t pixels = record { client = after_painting size None (showing t pixels) v.client; pictures = v.pictures; orders = v.orders; tiles = v.tiles + 1 }

upright_is : (r : Result (List ℕ) Fault) (w h : ℕ) (pixels : List ℕ) (next : List ℕ → Result View Fault) → bind r (λ p. Ok (turned_over w h p)) ≡ Ok pixels → bind r (λ wire. next (turned_over w h wire)) ≡ next pixels
upright_is (Ok p) w h pixels next e = let is : turned_over w h p ≡ pixels = cc in ap next is
upright_is (Err f) w h pixels next e = absurd (let no : ⊥ = cc in no)

pub tile_shown : (size : Size) (v : View) (t : Rectangle) (packed : Bool) (pixels : List ℕ) (depth : Depth) → v.client.depth ≡ depth → is_tile depth size t ≡ true → is_packed_tile t.flags ≡ Some packed → upright_pixels depth packed t.w t.h t.bytes ≡ Ok pixels
    → view_after_tile size v t ≡ Ok (view_tiled size v t pixels)
unfolding view_tiled
tile_shown size v t packed pixels depth here test flags e =
    let next : List ℕ → Result View Fault = λ ps. Ok (view_tiled size v t ps) in
    ap (λ (d : Depth). needs (is_tile d size t) Broken (bind (tile_pixels d (is_packed_tile t.flags) t) (λ wire. next (turned_over t.w t.h wire)))) here
    ∙ ap (λ (b : Bool). needs b Broken (bind (tile_pixels depth (is_packed_tile t.flags) t) (λ wire. next (turned_over t.w t.h wire)))) test
    ∙ ap (λ (o : Option Bool). bind (tile_pixels depth o t) (λ wire. next (turned_over t.w t.h wire))) flags
    ∙ upright_is (wire_pixels depth packed t.w t.h t.bytes) t.w t.h pixels next e

pub tile_stands : (v : View) (m : Viewer) (t : Rectangle) (pixels : List ℕ) (pictures : Pictures) (tiles : ℕ) → StandsFor v m → pictures ≡ painted_within None (showing t pixels) m.pictures → tiles ≡ capped (v.tiles + 1)
    → StandsFor (view_tiled m.pictures.size v t pixels) (record m { pictures = pictures; tiles = tiles })
unfolding view_tiled
tile_stands v m t pixels pictures tiles s e count = record {
  client = ap (after_painting m.pictures.size None (showing t pixels)) s.client ∙ ap (λ (p : Pictures). client_of m.regs m.caches m.blocks p) (sym e);
  marked = ap (λ (p : Pictures). p.marked) e ∙ s.marked ∙ ap (λ (p : Pictures). last_picture (unknown_picture p.size) v.pictures) (sym e);
  marks = s.marks;
  orders = s.orders;
  tiles = count;
}

-- ---- one by one

-- what is left comes to what all came to, and what was written to a view
pub record LeftTiles (size : Size) (first : View) (whole : Result View Fault) (done left : List Rectangle) (m : Viewer) : Type 0 where
  pub view : View
  pub same : whole ≡ view_after_tiles size view left
  pub reached : view_after_tiles size first done ≡ Ok view
  pub stands : StandsFor view m

pub all_tiles_left : (size : Size) (v : View) (ts : List Rectangle) (m : Viewer) → StandsFor v m → LeftTiles size v (view_after_tiles size v ts) [] ts m
all_tiles_left size v ts m s = record { view = v; same = refl; reached = refl; stands = s }

pub tiles_left : (body : List ℕ) (tiles : List Tile) (i : ℕ) (d : Tile) → i < length tiles → told_tiles body (drop i tiles) ≡ told_tile body (get_or tiles i d) ∷ told_tiles body (drop (i + 1) tiles)
tiles_left body tiles i d h = ap (told_tiles body) (drop-cons tiles i d h) ∙ ap (λ (n : ℕ). told_tile body (get_or tiles i d) ∷ told_tiles body (drop n tiles)) (sym (add-one i))

tiles_joined : (size : Size) (v : View) (xs ys : List Rectangle) → view_after_tiles size v (xs ++ ys) ≡ bind (view_after_tiles size v xs) (λ w. view_after_tiles size w ys)
tiles_joined size v [] ys = refl
tiles_joined size v (x ∷ xs) ys =
    joined_by (view_after_tile size v x) (λ w. view_after_tiles size w xs) (λ w. view_after_tiles size w ys) (λ w. view_after_tiles size w (xs ++ ys)) (λ w. tiles_joined size w xs ys)

pub one_tile_less : (size : Size) (first : View) (whole : Result View Fault) (t : Rectangle) (done next ts left : List Rectangle) (m n : Viewer) → (l : LeftTiles size first whole done left m) → left ≡ t ∷ ts → next ≡ done ++ t ∷ []
    → Obeys (Ok tt) (view_after_tile size l.view t) n → LeftTiles size first whole next ts n
one_tile_less size first whole t done next ts left m n l e d o = record {
  view = o.0;
  same = l.same ∙ ap (view_after_tiles size l.view) e ∙ ap (λ (r : Result View Fault). bind r (λ w. view_after_tiles size w ts)) o.1;
  reached = ap (view_after_tiles size first) d ∙ tiles_joined size first done (t ∷ []) ∙ ap (λ (r : Result View Fault). bind r (λ w. view_after_tiles size w (t ∷ []))) l.reached
      ∙ ap (λ (r : Result View Fault). bind r (λ w. Ok w)) o.1;
  stands = o.2;
}

pub one_tile_refused : (f : ObeyFault) (size : Size) (first : View) (whole : Result View Fault) (t : Rectangle) (done ts left : List Rectangle) (m : Viewer) → (l : LeftTiles size first whole done left m) → left ≡ t ∷ ts
    → Refuses f (view_after_tile size l.view t) → Refuses f whole
one_tile_refused f size first whole t done ts left m l e r =
    refused_by f (view_after_tile size l.view t) whole (λ g h.
    l.same ∙ ap (view_after_tiles size l.view) e ∙ ap (λ (r : Result View Fault). bind r (λ w. view_after_tiles size w ts)) h) r

-- a rectangle leaves the marks and the counts of those before it
pub one_tile_stopped : (size : Size) (first : View) (whole : Result View Fault) (i : ℕ) (all done left : List Rectangle) (m n : Viewer) → LeftTiles size first whole done left m → take i all ≡ done
    → SameViewer m n → SameCounts m n → Stops (AfterFirstTiles size first all) n
one_tile_stopped size first whole i all done left m n l e same kept =
    (l.view, (i, ap (view_after_tiles size first) e ∙ l.reached), counts_stay l.view m n l.stands same kept)

pub no_tile_left : (size : Size) (first : View) (whole : Result View Fault) (done left : List Rectangle) (m : Viewer) → LeftTiles size first whole done left m → left ≡ [] → Obeys (Ok tt) whole m
no_tile_left size first whole done left m l e = (l.view, l.same ∙ ap (view_after_tiles size l.view) e, l.stands)
