-- A drawing that is sent can be written: from its orders, which go whole, to each of its shapes.
use Rattle.std.proofs.Common.{◌≡◌, ℕ, ◌<◌, ◌≤◌, List, [], ◌∷◌, ◌++◌, length, suc, refl, ap, sym, ◌∙◌, subst, arith, Some, None}
use Rattle.std.specs.Prelude.{Bool, true, false, ◌&&◌, not, nat_le, Option, is_some, ℤ}
use Rattle.std.proofs.lemmas.Bool.{and_parts}
use Rattle.std.proofs.lemmas.Bool.Decides.{nat_tests}
use Rattle.px_core.specs.declared.surface.Size.{Size}
use Rattle.px_core.specs.declared.rectangle.Rect.{Rect}
use Rattle.draw_ops.specs.declared.shape.Shape.{Shape}
use Rattle.draw_ops.specs.declared.shape.Shape.TheVariants.{Fill, Dst, Pat, Copy, Blit, Blit3, Text, Line, Save, Restore, LoadImage, LoadBrush, LoadGlyph}
use Rattle.draw_ops.specs.Content.{ImageOf, GlyphOf}
use Rattle.draw_ops.specs.Slots.{SurfaceState, Loaded, lookup, glyph_slot}
use Rattle.draw_ops.specs.Fits.{rules_of, starts_at_0, deltas_are_small}
use Rattle.caps_sets.specs.declared.confirmed.Confirmed.{Confirmed}
use Rattle.caps_sets.specs.Confirmed.{depth_of}
use Rattle.session_rules.specs.declared.entry.Entry.{Entry}
use Rattle.session_rules.proofs.OwnSteps.{AllNone}
use Rattle.px_core.specs.declared.depth.Depth.{Depth}
use Rattle.order_fields.specs.OrderTable.{IsFieldList}
use Rattle.order_fields.specs.NamedDrawing.{drawing_fields}
use Rattle.order_fields.specs.NamedDrawing.NamedDrawing.{Pat as PatBlt, Mem as MemBlt, Mem3 as Mem3Blt, Glyphs as GlyphIndex}
use Rattle.frame_rules.specs.Blocks.{Place, positions_of, least_free, place_of, without_slot}
use Rattle.session_rules.specs.Pending.{onto_optional, pending_of, run_glyphs}
use Rattle.frame_rules.specs.Support.{supports, image_cache, run_cache, has_glyph_level}
use Rattle.frame_rules.specs.Frame.{Walk, Sent, saved_at, saved_if, given_up, restored_from, block_if, reads_clean_tiles, walked}
use Rattle.frame_rules.specs.FrameOrders.{SentOrder, sending_of, or_0, bounds_of, image_use, brush_use, run_use, run_pairs}
use Rattle.frame_rules.specs.FrameOrders.SentOrder.{Drawn}
use Rattle.frame_laws.specs.Agreement.{drawn}
use Rattle.frame_laws.specs.Run.{AreGlyphs}
use Rattle.frame_laws.specs.SoundState.{IsSound}
use Rattle.frame_laws.proofs.Rules.{kept_test}
use Rattle.frame_laws.proofs.SentKeeps.{passed, only_one, glyphs_are, GoodShape}
use Rattle.frame_laws.proofs.OrderValues.{GoesWhole, AllGoWhole}
use Rattle.viewer_sender.specs.Goes.{ImageGoes, BrushGoes, GlyphsGo, GoesWith, SentGoes}
use Rattle.frame_plan.specs.Orders.{cached_with}

-- the last one of some orders
last_whole : (c : Confirmed) (os : List SentOrder) (o : SentOrder) → AllGoWhole c (os ++ o ∷ []) → GoesWhole c o
last_whole c [] o h = h.0
last_whole c (x ∷ xs) o h = last_whole c xs o h.1

-- those after some others
rest_whole : (c : Confirmed) (os ps : List SentOrder) → AllGoWhole c (os ++ ps) → AllGoWhole c ps
rest_whole c [] ps h = h
rest_whole c (x ∷ xs) ps h = rest_whole c xs ps h.1

-- ---- other entries of caches

other_brush : (d : Depth) (r : Rect) (code entry other : ℕ) → IsFieldList (drawing_fields d r (PatBlt r code entry)) → other < 256 → IsFieldList (drawing_fields d r (PatBlt r code other))
other_brush d r code entry other h below =
    let n = h.numbers in
    record {
      numbers = (
        n.0,
        (
          n.1.0,
          (
            n.1.1.0,
            (
              n.1.1.1.0,
              (
                n.1.1.1.1.0,
                (
                  n.1.1.1.1.1.0,
                  (
                    n.1.1.1.1.1.1.0,
                    (
                      n.1.1.1.1.1.1.1.0,
                      (
                        n.1.1.1.1.1.1.1.1.0,
                        (
                          n.1.1.1.1.1.1.1.1.1.0,
                          (omega (arith, below), n.1.1.1.1.1.1.1.1.1.1.1),
                        ),
                      ),
                    ),
                  ),
                ),
              ),
            ),
          ),
        ),
      );
      bytes = h.bytes;
    }

other_image : (d : Depth) (r : Rect) (cache index code : ℕ) (sx sy : ℤ) (k i : ℕ) → IsFieldList (drawing_fields d r (MemBlt cache index r code sx sy)) → k < 3 → i < 65536
    → IsFieldList (drawing_fields d r (MemBlt k i r code sx sy))
other_image d r cache index code sx sy k i h few below =
    let n = h.numbers in
    record {
      numbers = (omega (arith, few), (n.1.0, (n.1.1.0, (n.1.1.1.0, (n.1.1.1.1.0, (n.1.1.1.1.1.0, (n.1.1.1.1.1.1.0, (n.1.1.1.1.1.1.1.0, (omega (arith, below), tt)))))))));
      bytes = h.bytes;
    }

other_both : (d : Depth) (r : Rect) (cache index code : ℕ) (sx sy : ℤ) (entry k i e : ℕ) → IsFieldList (drawing_fields d r (Mem3Blt cache index r code sx sy entry)) → k < 3 → i < 65536 → e < 256
    → IsFieldList (drawing_fields d r (Mem3Blt k i r code sx sy e))
other_both d r cache index code sx sy entry k i e h few below low =
    let n = h.numbers in
    record {
      numbers = (
        omega (arith, few),
        (
          n.1.0,
          (
            n.1.1.0,
            (
              n.1.1.1.0,
              (
                n.1.1.1.1.0,
                (
                  n.1.1.1.1.1.0,
                  (
                    n.1.1.1.1.1.1.0,
                    (
                      n.1.1.1.1.1.1.1.0,
                      (
                        n.1.1.1.1.1.1.1.1.0,
                        (
                          n.1.1.1.1.1.1.1.1.1.0,
                          (
                            n.1.1.1.1.1.1.1.1.1.1.0,
                            (
                              n.1.1.1.1.1.1.1.1.1.1.1.0,
                              (
                                n.1.1.1.1.1.1.1.1.1.1.1.1.0,
                                (omega (arith, low), (n.1.1.1.1.1.1.1.1.1.1.1.1.1.1.0, (omega (arith, below), tt))),
                              ),
                            ),
                          ),
                        ),
                      ),
                    ),
                  ),
                ),
              ),
            ),
          ),
        ),
      );
      bytes = h.bytes;
    }

other_run : (d : Depth) (area : Rect) (cache : ℕ) (x y : ℤ) (color : ℕ) (pairs : List ℕ) (k : ℕ) (others : List ℕ) → IsFieldList (drawing_fields d area (GlyphIndex cache x y color pairs)) → k < 10
    → length others < 256 → IsFieldList (drawing_fields d area (GlyphIndex k x y color others))
other_run d area cache x y color pairs k others h few short = record { numbers = (omega (arith, few), h.numbers.1); bytes = short }

-- ---- runs

as_many : (st : SurfaceState) (font : ℕ) (run : List (ℕ × ℕ)) (gs : List (Loaded GlyphOf)) → AreGlyphs st font run gs → length gs ≡ length run
as_many st font [] [] h = refl
as_many st font [] (g ∷ gs) h = absurd h
as_many st font (p ∷ ps) [] h = absurd h
as_many st font (p ∷ ps) (g ∷ gs) h = ap suc (as_many st font ps gs h.1)

glyphs_go : (size : Size) (j : List Entry) (st : SurfaceState) (font : ℕ) (run : List (ℕ × ℕ)) → IsSound size j st → GlyphsGo (run_glyphs st.glyphs font run)
glyphs_go size j st font [] h = tt
glyphs_go size j st font (p ∷ ps) h = by (lookup (glyph_slot font p.0) st.glyphs) refl (glyphs_go size j st font ps h)
  where
    by : (o : Option (Loaded GlyphOf)) → lookup (glyph_slot font p.0) st.glyphs ≡ o → GlyphsGo (run_glyphs st.glyphs font ps) → GlyphsGo (onto_optional o (run_glyphs st.glyphs font ps))
    by None e more = more
    by (Some g) e more = ((h.glyphs (glyph_slot font p.0) g e).sound, more)

at_most : (m n : ℕ) → nat_le m n ≡ true → m ≤ n
at_most m n h = grind (arith, nat_tests, h)

-- ---- what they take from caches

with_brush : (r : Rect) (code brush : ℕ) (o : Option (Loaded (List ℕ))) (b : Loaded (List ℕ)) → o ≡ Some b → GoesWith (Pat r code brush) (cached_with None None o)
with_brush r code brush None b e = absurd (cc e)
with_brush r code brush (Some held) b e = tt

with_image : (r : Rect) (code image : ℕ) (sx sy : ℤ) (k : Option ℕ) (o : Option (Loaded ImageOf)) (i : Loaded ImageOf) → is_some k ≡ true → o ≡ Some i
    → GoesWith (Blit r code image sx sy) (cached_with k o None)
with_image r code image sx sy None o i test e = absurd (cc test)
with_image r code image sx sy (Some cache) None i test e = absurd (cc e)
with_image r code image sx sy (Some cache) (Some held) i test e = tt

with_both : (r : Rect) (code image : ℕ) (sx sy : ℤ) (brush : ℕ) (k : Option ℕ) (o : Option (Loaded ImageOf)) (p : Option (Loaded (List ℕ))) (i : Loaded ImageOf)
    (b : Loaded (List ℕ)) → is_some k ≡ true → o ≡ Some i → p ≡ Some b → GoesWith (Blit3 r code image sx sy brush) (cached_with k o p)
with_both r code image sx sy brush None o p i b test e f = absurd (cc test)
with_both r code image sx sy brush (Some cache) None p i b test e f = absurd (cc e)
with_both r code image sx sy brush (Some cache) (Some held) None i b test e f = absurd (cc f)
with_both r code image sx sy brush (Some cache) (Some held) (Some own) i b test e f = tt

with_run : (x y : ℤ) (color font : ℕ) (run : List (ℕ × ℕ)) (k : Option ℕ) → is_some k ≡ true → GoesWith (Text x y color font run) (cached_with k None None)
with_run x y color font run None test = absurd (cc test)
with_run x y color font run (Some cache) test = tt

-- ---- by the shape

module _ (size : Size) (c : Confirmed) (j : List Entry) where
  abbrev Whole : Sent → Type 0
  Whole s = AllGoWhole c (sending_of c [] s).orders

  save_goes : (st : SurfaceState) (w : Walk) (clip : Option Rect) (slot : ℕ) (r : Rect) (sent : Sent) → Whole sent
      → (walked size c w (pending_of size st (drawn (Save slot r) clip)) (Save slot r)).sent ≡ sent ∷ [] → SentGoes c sent
  save_goes st w clip slot r sent whole e = by_test (supports c (pending_of size st (drawn (Save slot r) clip)) (Save slot r) && reads_clean_tiles size w (Save slot r)) e
    where
      by_position : (o : Option ℕ) → (saved_at size (given_up slot w) (pending_of size st (drawn (Save slot r) clip)) slot r o).sent ≡ sent ∷ [] → SentGoes c sent
      by_position None e = absurd (cc e)
      by_position (Some position) e =
          let is = only_one (record { pending = pending_of size st (drawn (Save slot r) clip); position = position }) sent e in
          let h = subst (λ (s : Sent). Whole s) is whole in
          subst (λ (s : Sent). SentGoes c s) (sym is)
          (record { shape = record { fields = h.0.fits.0; bounds = h.0.fits.1 }; cached = tt; image = tt; brush = tt; glyphs = tt })

      by_test : (b : Bool) → (saved_if b size (given_up slot w) (pending_of size st (drawn (Save slot r) clip)) slot r).sent ≡ sent ∷ [] → SentGoes c sent
      by_test false e = absurd (cc e)
      by_test true e = by_position (least_free (positions_of r.w r.h) (without_slot slot w.held)) e

  restore_goes : (st : SurfaceState) (w : Walk) (clip : Option Rect) (slot : ℕ) (x y : ℤ) (sent : Sent) → Whole sent
      → (walked size c w (pending_of size st (drawn (Restore slot x y) clip)) (Restore slot x y)).sent ≡ sent ∷ [] → SentGoes c sent
  restore_goes st w clip slot x y sent whole e = by_test (supports c (pending_of size st (drawn (Restore slot x y) clip)) (Restore slot x y)) e
    where
      by_place : (o : Option Place) → (restored_from size w (pending_of size st (drawn (Restore slot x y) clip)) o).sent ≡ sent ∷ [] → SentGoes c sent
      by_place None e = absurd (cc e)
      by_place (Some place) e =
          let is = only_one (record { pending = pending_of size st (drawn (Restore slot x y) clip); position = place.position }) sent e in
          let h = subst (λ (s : Sent). Whole s) is whole in
          subst (λ (s : Sent). SentGoes c s) (sym is)
          (record { shape = record { fields = h.0.fits.0; bounds = h.0.fits.1 }; cached = tt; image = tt; brush = tt; glyphs = tt })

      by_test : (b : Bool) → (restored_from size w (pending_of size st (drawn (Restore slot x y) clip)) (block_if b slot w)).sent ≡ sent ∷ [] → SentGoes c sent
      by_test false e = absurd (cc e)
      by_test true e = by_place (place_of slot w.held) e

  pub sent_goes : (st : SurfaceState) (w : Walk) (clip : Option Rect) (s : Shape) (sent : Sent) → IsSound size j st
      → AllNone (rules_of size clip s) → GoodShape size j st clip s → AllGoWhole c (sending_of c [] sent).orders
      → (walked size c w (pending_of size st (drawn s clip)) s).sent ≡ sent ∷ [] → SentGoes c sent
  sent_goes st w clip (Fill r color) sent h rules g whole e =
      let p = pending_of size st (drawn (Fill r color) clip) in
      let t = passed (supports c p (Fill r color)) size w p sent e in
      let o = subst (λ (s : Sent). Whole s) t.is whole in
      subst (λ (s : Sent). SentGoes c s) (sym t.is) (record { shape = record { fields = o.0.fits.0; bounds = o.0.fits.1 }; cached = tt; image = tt; brush = tt; glyphs = tt })
  sent_goes st w clip (Dst r code) sent h rules g whole e =
      let p = pending_of size st (drawn (Dst r code) clip) in
      let t = passed (supports c p (Dst r code)) size w p sent e in
      let o = subst (λ (s : Sent). Whole s) t.is whole in
      subst (λ (s : Sent). SentGoes c s) (sym t.is) (record { shape = record { fields = o.0.fits.0; bounds = o.0.fits.1 }; cached = tt; image = tt; brush = tt; glyphs = tt })
  sent_goes st w clip (Copy r code sx sy) sent h rules g whole e =
      let p = pending_of size st (drawn (Copy r code sx sy) clip) in
      let t = passed (supports c p (Copy r code sx sy) && reads_clean_tiles size w (Copy r code sx sy)) size w p sent e in
      let o = subst (λ (s : Sent). Whole s) t.is whole in
      subst (λ (s : Sent). SentGoes c s) (sym t.is) (record { shape = record { fields = o.0.fits.0; bounds = o.0.fits.1 }; cached = tt; image = tt; brush = tt; glyphs = tt })
  sent_goes st w clip (Pat r code brush) sent h rules g whole e =
      let p = pending_of size st (drawn (Pat r code brush) clip) in
      let t = passed (supports c p (Pat r code brush)) size w p sent e in
      let b = g.1 in
      let k = h.brushes brush b.brush b.held in
      let o = last_whole c _ _ (subst (λ (s : Sent). Whole s) t.is whole) in
      subst (λ (s : Sent). SentGoes c s) (sym t.is) (record {
        shape = λ entry below. record { fields = other_brush (depth_of c) r code _ entry o.fits.0 below; bounds = o.fits.1 };
        cached = with_brush r code brush (lookup brush st.brushes) b.brush b.held;
        image = tt;
        brush = subst BrushGoes (sym b.held) (k.whole, k.colors);
        glyphs = tt;
      })
  sent_goes st w clip (Blit r code image sx sy) sent h rules g whole e =
      let p = pending_of size st (drawn (Blit r code image sx sy) clip) in
      let t = passed (supports c p (Blit r code image sx sy)) size w p sent e in
      let i = g.1 in
      let o = last_whole c _ _ (subst (λ (s : Sent). Whole s) t.is whole) in
      subst (λ (s : Sent). SentGoes c s) (sym t.is) (record {
        shape = λ cache index few below. record { fields = other_image (depth_of c) r _ _ code sx sy cache index o.fits.0 few below; bounds = o.fits.1 };
        cached = with_image r code image sx sy (image_cache c (lookup image st.images)) (lookup image st.images) i.image
            (and_parts c.mem (is_some (image_cache c (lookup image st.images))) t.test).1 i.held;
        image = subst ImageGoes (sym i.held) i.sound;
        brush = tt;
        glyphs = tt;
      })
  sent_goes st w clip (Blit3 r code image sx sy brush) sent h rules g whole e =
      let p = pending_of size st (drawn (Blit3 r code image sx sy brush) clip) in
      let t = passed (supports c p (Blit3 r code image sx sy brush)) size w p sent e in
      let i = g.1 in
      let b = g.2 in
      let k = h.brushes brush b.brush b.held in
      let im = lookup image st.images in
      let k0 = or_0 (image_cache c im) in
      let iu = image_use c [] k0 im in
      let bu = brush_use c iu.uses (lookup brush st.brushes) in
      let d : SentOrder = Drawn r (Mem3Blt k0 iu.index r code sx sy bu.index) (bounds_of r clip) in
      let o : GoesWhole c d = last_whole c bu.orders d (rest_whole c iu.orders (bu.orders ++ d ∷ []) (subst (λ (s : Sent). Whole s) t.is whole)) in
      subst (λ (s : Sent). SentGoes c s) (sym t.is) (record {
        shape = λ cache index entry few below low. record { fields = other_both (depth_of c) r k0 iu.index code sx sy bu.index cache index entry o.fits.0 few below low; bounds = o.fits.1 };
        cached = with_both r code image sx sy brush (image_cache c im) im (lookup brush st.brushes) i.image b.brush
            (and_parts (is_some (image_cache c im)) c.brush (and_parts c.mem3 (is_some (image_cache c im) && c.brush) t.test).1).0 i.held b.held;
        image = subst ImageGoes (sym i.held) i.sound;
        brush = subst BrushGoes (sym b.held) (k.whole, k.colors);
        glyphs = tt;
      })
  sent_goes st w clip (Text x y color font run) sent h rules g whole e =
      let p = pending_of size st (drawn (Text x y color font run) clip) in
      let t = passed (supports c p (Text x y color font run)) size w p sent e in
      let gs = run_glyphs st.glyphs font run in
      let k = or_0 (run_cache c gs) in
      let u = run_use c [] k gs in
      let o : GoesWhole c (Drawn p.rect (GlyphIndex k x y color (run_pairs u.indices run)) (bounds_of p.rect clip)) =
      last_whole c u.orders (Drawn p.rect (GlyphIndex k x y color (run_pairs u.indices run)) (bounds_of p.rect clip)) (subst (λ (s : Sent). Whole s) t.is whole) in
      let length_test = and_parts (nat_le (length run) 64) (starts_at_0 run && deltas_are_small run)
      (kept_test (nat_le (length run) 64 && (starts_at_0 run && deltas_are_small run)) 8 rules.1.1.1.1.0) in
      subst (λ (s : Sent). SentGoes c s) (sym t.is) (record {
        shape = (
          λ cache pairs few short. record { fields = other_run (depth_of c) p.rect k x y color (run_pairs u.indices run) cache pairs o.fits.0 few short; bounds = o.fits.1 },
          ap length (glyphs_are st font run g.glyphs g.held) ∙ as_many st font run g.glyphs g.held,
          at_most (length run) 64 length_test.0,
        );
        cached = with_run x y color font run (run_cache c gs)
            (and_parts (c.glyph && has_glyph_level c.glyph_level) (is_some (run_cache c gs))
            (and_parts (not c.cautious) ((c.glyph && has_glyph_level c.glyph_level) && is_some (run_cache c gs)) t.test).1).1;
        image = tt;
        brush = tt;
        glyphs = glyphs_go size j st font run h;
      })
  sent_goes st w clip (Line x0 y0 x1 y1 color) sent h rules g whole e = absurd (cc e)
  sent_goes st w clip (Save slot r) sent h rules g whole e = save_goes st w clip slot r sent whole e
  sent_goes st w clip (Restore slot x y) sent h rules g whole e = restore_goes st w clip slot x y sent whole e
  sent_goes st w clip (LoadImage slot image) sent h rules g whole e = absurd (cc e)
  sent_goes st w clip (LoadBrush slot brush) sent h rules g whole e = absurd (cc e)
  sent_goes st w clip (LoadGlyph font code glyph) sent h rules g whole e = absurd (cc e)
