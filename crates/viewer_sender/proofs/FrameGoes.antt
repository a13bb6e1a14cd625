-- Each drawing and each tile of a frame over a legal journal can be written.
use Rattle.std.proofs.Common.{◌≡◌, ℕ, ◌*◌, ◌≤◌, List, [], ◌∷◌, ◌++◌, length, map, refl, ap, sym, ◌∙◌, subst, arith, Some, None, inl, inr}
use Rattle.std.specs.Prelude.{Bool, true, false, ◌&&◌, nat_lt, Option, pos, ◌+ℤ◌, int_le}
use Rattle.std.proofs.lemmas.Int.{ints}
use Rattle.std.proofs.lemmas.Bool.{and_parts}
use Rattle.px_core.specs.declared.surface.Size.{Size}
use Rattle.px_core.specs.Picture.{rows_of}
use Rattle.px_core.specs.Rectangle.{is_session_size, cut_out, pixel_of}
use Rattle.px_core.specs.Tiles.{Tiles, tile_on}
use Rattle.draw_ops.specs.declared.shape.Drawing.{Drawing}
use Rattle.draw_ops.specs.Slots.{SurfaceState}
use Rattle.draw_ops.specs.Drawing.{state_after_drawing}
use Rattle.caps_sets.specs.declared.confirmed.Confirmed.{Confirmed}
use Rattle.session_rules.specs.declared.entry.Entry.{Entry}
use Rattle.session_rules.specs.Journal.{Head, state_after, IsLegalJournal}
use Rattle.session_rules.specs.Steps.{TakeOf}
use Rattle.save_plan.specs.Blocks.{AreApart}
use Rattle.bitmap_upd.specs.Place.{IsUpdated}
use Rattle.frame_rules.specs.Blocks.{Held}
use Rattle.session_rules.specs.Pending.{Pending, pending_of, pending_drawings}
use Rattle.frame_rules.specs.Cautious.{cut, cut_if}
use Rattle.frame_rules.specs.Frame.{Walk, Sent, walked, walked_as, walked_pending, sent_from, first_dirty, framed_by, frame_over, frame_of, is_first, most_orders}
use Rattle.frame_rules.specs.Describes.{HasAllCaches}
use Rattle.session_rules.proofs.Fitting.{Sides, sides_of}
use Rattle.frame_laws.proofs.CutDrawing.{cut_does}
use Rattle.frame_laws.specs.Sound.{AreColors}
use Rattle.frame_laws.specs.Tile.{IsTileRect}
use Rattle.frame_laws.specs.SoundState.{IsSound}
use Rattle.frame_laws.specs.Drawings.{Suits, AllSound, drawings_between}
use Rattle.frame_laws.proofs.Colored.{length-listed, colors_cut}
use Rattle.frame_laws.proofs.Entries.{pending_between_is}
use Rattle.frame_laws.proofs.Journals.{between_sound, state_sound}
use Rattle.frame_laws.proofs.Rules.{rules_kept}
use Rattle.frame_laws.proofs.SoundGood.{good_of}
use Rattle.frame_laws.proofs.WalkKeeps.{NoneOrOne, none_or_one_pending}
use Rattle.frame_laws.proofs.HeldApart.{walked_apart}
use Rattle.frame_laws.proofs.CutSuits.{cut_suits}
use Rattle.frame_laws.proofs.SentOrCut.{sent_or_cut_fits}
use Rattle.frame_laws.proofs.FrameShown.{AreTiles}
use Rattle.frame_laws.proofs.TileRects.{are_tiles}
use Rattle.viewer_sender.proofs.UseSteps.{colors_are}
use Rattle.frame_plan.specs.Takes.{tile_taken}
use Rattle.viewer_sender.specs.Goes.{SentGoes, AllGo, TilesGo}
use Rattle.viewer_sender.proofs.ShapeGoes.{sent_goes}

module _ (size : Size) (sides : Sides size.w size.h) (c : Confirmed) (all : HasAllCaches c) (j : List Entry) where
  abbrev Goes : SurfaceState → Walk → Drawing → Sent → Type 0
  Goes st w d s = (walked_pending size c w (pending_of size st d)).sent ≡ s ∷ [] → SentGoes c s

  -- a drawing itself, or its cut
  drawing_goes : (st : SurfaceState) (w : Walk) (d : Drawing) (s : Sent) → IsSound size j st → Suits size st d → AreApart w.held
      → (walked_pending size c w (pending_of size st d)).sent ≡ s ∷ [] → SentGoes c s
  drawing_goes st w d s h suits apart e = by_caution c.cautious e
    where
      goes : (d' : Drawing) → Suits size st d' → (walked size c w (pending_of size st d') d'.shape).sent ≡ s ∷ [] → SentGoes c s
      goes d' suits' e' = sent_goes size c j st w d'.clip d'.shape s h (rules_kept size st d' suits'.fits) (good_of size j st d' h suits')
          (sent_or_cut_fits size c j sides.not_wider all sides st w [] d s (record { sound = h; suits = suits }) apart e).whole e'

      by_cut : (o : Option Pending) → cut size (pending_of size st d) ≡ o → (walked_as size c w o).sent ≡ s ∷ [] → SentGoes c s
      by_cut None is k = absurd (cc k)
      by_cut (Some q) is k =
          let does = cut_does size st h.sized.pixels d.shape d.clip q is in
          goes q.drawing (cut_suits size sides st d q suits is) (ap (λ p. (walked size c w p q.drawing.shape).sent) (sym does.pending) ∙ k)

      by_caution : (b : Bool) → (walked_as size c w (cut_if b size (pending_of size st d))).sent ≡ s ∷ [] → SentGoes c s
      by_caution true k = by_cut (cut size (pending_of size st d)) refl k
      by_caution false k = goes d suits k

  walk_goes : (ds : List Drawing) (st : SurfaceState) (w : Walk) → AllSound size j st ds → AreApart w.held → AllGo c (sent_from size c w (pending_drawings size st ds))
  walk_goes [] st w h apart = tt
  walk_goes (d ∷ ds) st w h apart =
      by (none_or_one_pending size c w (pending_of size st d))
      (walk_goes ds (state_after_drawing size st d) (walked_pending size c w (pending_of size st d)).walk h.2 (walked_apart size c w (pending_of size st d) apart))
    where
      more : List Sent
      more = sent_from size c (walked_pending size c w (pending_of size st d)).walk (pending_drawings size (state_after_drawing size st d) ds)

      by : NoneOrOne (walked_pending size c w (pending_of size st d)).sent → AllGo c more → AllGo c ((walked_pending size c w (pending_of size st d)).sent ++ more)
      by (inl none) rest = subst (λ (ss : List Sent). AllGo c (ss ++ more)) (sym none) rest
      by (inr one) rest = subst (λ (ss : List Sent). AllGo c (ss ++ more)) (sym one.1) (drawing_goes st w d one.0 h.0 h.1 apart one.1, rest)

  over_goes : (ds : List Drawing) (st : SurfaceState) (held : Held) → AllSound size j st ds → AreApart held → (first : Bool) (asked : Tiles) (picture : List ℕ)
      → AllGo c (frame_over size c first held asked picture (pending_drawings size st ds)).sent
  over_goes ds st held h apart first asked picture = by (nat_lt most_orders (length (pending_drawings size st ds)))
    where
      by : (b : Bool) → AllGo c (framed_by b size c first (record { dirty = first_dirty size first c; held = held }) asked picture (pending_drawings size st ds)).sent
      by true = tt
      by false = walk_goes ds st (record { dirty = first_dirty size first c; held = held }) h apart

-- ---- tiles

updated : (size : Size) (tile : ℕ) → Sides size.w size.h → IsTileRect size (tile_on size tile) → IsUpdated (tile_on size tile)
updated size tile sides t =
    let r = tile_on size tile in
    let e = and_parts (int_le (pos 0) r.x && int_le (r.x +ℤ pos r.w) (pos size.w)) (int_le (pos 0) r.y && int_le (r.y +ℤ pos r.h) (pos size.h)) t.inside in
    let x = (and_parts (int_le (pos 0) r.x) (int_le (r.x +ℤ pos r.w) (pos size.w)) e.0).1 in
    let y = (and_parts (int_le (pos 0) r.y) (int_le (r.y +ℤ pos r.h) (pos size.h)) e.1).1 in
    let wide = sides.not_wider in
    let high = sides.not_higher in
    record {
      left = t.left;
      top = t.top;
      right = omega (arith, ints, x, wide);
      bottom = omega (arith, ints, y, high);
      wide = t.wide;
      narrow = t.narrow;
      fours = t.four;
      tall = t.high;
      low = t.low;
    }

tiles_go : (size : Size) (picture : List ℕ) → Sides size.w size.h → AreColors picture → (ts : List ℕ) → AreTiles size ts → TilesGo size (map (tile_taken size picture) ts)
tiles_go size picture sides colors [] h = tt
tiles_go size picture sides colors (t ∷ ts) h =
    let r = tile_on size t in (
      record {
        place = updated size t sides h.0;
        whole = length-listed (r.w * r.h) 0 (pixel_of (rows_of size.w size.h picture) 0 r);
        colors = colors_are (cut_out size picture 0 r) (colors_cut size picture r colors);
      },
      tiles_go size picture sides colors ts h.1,
    )

framed_tiles : (b : Bool) (size : Size) (c : Confirmed) (first : Bool) (w : Walk) (asked : Tiles) (picture : List ℕ) (ps : List Pending) → is_session_size size.w size.h ≡ true
    → AreTiles size (framed_by b size c first w asked picture ps).tiles
framed_tiles true size c first w asked picture ps sized = are_tiles size _ sized
framed_tiles false size c first w asked picture ps sized = are_tiles size _ sized

framed_picture : (b : Bool) (size : Size) (c : Confirmed) (first : Bool) (w : Walk) (asked : Tiles) (picture : List ℕ) (ps : List Pending) → (framed_by b size c first w asked picture ps).picture ≡ picture
framed_picture true size c first w asked picture ps = refl
framed_picture false size c first w asked picture ps = refl

module _ (head : Head) (c : Confirmed) (all : HasAllCaches c) (j : List Entry) (held : Held) (t : TakeOf) (sized : is_session_size head.size.w head.size.h ≡ true)
    (legal : IsLegalJournal head j) (up : t.before ≤ t.number) (apart : AreApart held) where
  pub frame_goes : AllGo c (frame_of head.size c j held t).sent
  frame_goes =
      let size = head.size in
      let picture = (state_after size j t.number).surface.picture in
      subst (λ (ps : List Pending). AllGo c (frame_over size c (is_first t) held t.asked picture ps).sent) (sym (pending_between_is size j t.before t.number))
      (over_goes size (sides_of size.w size.h sized) c all j (drawings_between size j t.before t.number) (state_after size j t.before).surface held
      (between_sound head j sized legal t.before t.number up) apart (is_first t) t.asked picture)

  pub frame_tiles_go : TilesGo head.size (map (tile_taken head.size (frame_of head.size c j held t).picture) (frame_of head.size c j held t).tiles)
  frame_tiles_go =
      let size = head.size in
      let f = frame_of size c j held t in
      let picture = (state_after size j t.number).surface.picture in
      let is : f.picture ≡ picture = framed_picture _ size c (is_first t) _ t.asked picture _ in
      subst (λ (p : List ℕ). TilesGo size (map (tile_taken size p) f.tiles)) (sym is)
      (tiles_go size picture (sides_of size.w size.h sized) (state_sound head j sized legal t.number).colors f.tiles (framed_tiles _ size c (is_first t) _ t.asked picture _ sized))
