-- The cut of a drawing stands where calls may be given it.
use Rattle.std.proofs.Common.{◌≡◌, ℕ, ap, sym, ◌∙◌, subst, arith, Some, None}
use Rattle.std.specs.Prelude.{Bool, true, false, Option, ℤ, pos, ◌+ℤ◌, ◌&&◌, int_le, ⊤}
use Rattle.std.proofs.lemmas.Bool.{and_parts}
use Rattle.std.proofs.lemmas.Int.{ints}
use Rattle.px_core.specs.declared.surface.Size.{Size}
use Rattle.px_core.specs.declared.rectangle.Rect.{Rect}
use Rattle.px_core.specs.Rectangle.{boxed, has_pixel, is_inside, is_session_size, IsPlaced}
use Rattle.draw_ops.specs.declared.shape.Shape.{Shape}
use Rattle.draw_ops.specs.declared.shape.Shape.TheVariants.{Fill, Dst, Pat, Copy, Blit, Blit3, Text, Line, Save, Restore, LoadImage, LoadBrush, LoadGlyph}
use Rattle.session_rules.proofs.Fitting.{sides_of}
use Rattle.session_rules.specs.Pending.{Pending}
use Rattle.frame_rules.specs.Cautious.{area_of, changes_nothing, moved, unless, cut_to, is_cut}
use Rattle.frame_laws.proofs.CutSource.{cut_inside}
use Rattle.frame_plan.specs.Cuts.{ReadsPlaced, IsWalkable, CanMove, IsCuttable, NearSource}

-- ---- shapes whose source is moved along

module _ (a : Rect) (s : Shape) (r : Rect) (code : ℕ) (sx sy x y : ℤ) (kept : changes_nothing code ≡ false) (ex : x ≡ moved r.x a.x sx) (ey : y ≡ moved r.y a.y sy) where
  goes : (shape : ℤ → ℤ → Shape) → Some (shape x y) ≡ unless (changes_nothing code) (shape (moved r.x a.x sx) (moved r.y a.y sy))
  goes shape = ap (λ z. Some (shape z y)) ex ∙ ap (λ z. Some (shape (moved r.x a.x sx) z)) ey
      ∙ ap (λ b. unless b (shape (moved r.x a.x sx) (moved r.y a.y sy))) (sym kept)

  pub copy_moves : s ≡ Copy r code sx sy → Some (Copy a code x y) ≡ cut_to a s
  copy_moves e = goes (Copy a code) ∙ ap (cut_to a) (sym e)

  pub blit_moves : (image : ℕ) → s ≡ Blit r code image sx sy → Some (Blit a code image x y) ≡ cut_to a s
  blit_moves image e = goes (Blit a code image) ∙ ap (cut_to a) (sym e)

  pub blit3_moves : (image brush : ℕ) → s ≡ Blit3 r code image sx sy brush → Some (Blit3 a code image x y brush) ≡ cut_to a s
  blit3_moves image brush e = goes (λ p q. Blit3 a code image p q brush) ∙ ap (cut_to a) (sym e)

-- ---- rectangles inside a picture

pub inside_placed : (size : Size) (r : Rect) → is_session_size size.w size.h ≡ true → is_inside size r ≡ true → IsPlaced r
inside_placed size r session h =
    let s = sides_of size.w size.h session in
    let w = s.not_wider in
    let t = s.not_higher in
    let p = and_parts (int_le (pos 0) r.x && int_le (r.x +ℤ pos r.w) (pos size.w)) (int_le (pos 0) r.y && int_le (r.y +ℤ pos r.h) (pos size.h)) h in
    let u = and_parts (int_le (pos 0) r.x) (int_le (r.x +ℤ pos r.w) (pos size.w)) p.0 in
    let v = and_parts (int_le (pos 0) r.y) (int_le (r.y +ℤ pos r.h) (pos size.h)) p.1 in
    let u0 = u.0 in
    let u1 = u.1 in
    let v0 = v.0 in
    let v1 = v.1 in
    record {
      left = omega (arith, ints, u0);
      right = omega (arith, ints, u1, w);
      above = omega (arith, ints, v0);
      below = omega (arith, ints, v1, t);
      wide = omega (arith, ints, u0, u1, w);
      high = omega (arith, ints, v0, v1, t);
    }

-- ---- what is cut

-- the sources of a drawing that can be cut are near
near : (s : Shape) (touched : Rect) (size : Size) → IsPlaced touched → ReadsPlaced s → CanMove size touched s → NearSource s
near (Fill r color) touched size placed reads source = tt
near (Dst r code) touched size placed reads source = tt
near (Pat r code brush) touched size placed reads source = tt
near (Copy r code sx sy) touched size placed reads source = (subst IsPlaced source.0 placed, reads)
near (Blit r code image sx sy) touched size placed reads source = (subst IsPlaced source.0 placed, source.1)
near (Blit3 r code image sx sy brush) touched size placed reads source = (subst IsPlaced source.0 placed, source.1)
near (Text x y color font run) touched size placed reads source = tt
near (Line x0 y0 x1 y1 color) touched size placed reads source = tt
near (Save slot r) touched size placed reads source = tt
near (Restore slot x y) touched size placed reads source = tt
near (LoadImage slot image) touched size placed reads source = tt
near (LoadBrush slot brush) touched size placed reads source = tt
near (LoadGlyph font code glyph) touched size placed reads source = tt

pub source_near : (size : Size) (p : Pending) → IsCuttable size p → NearSource p.drawing.shape
source_near size p h = near p.drawing.shape p.rect size h.walkable.rect h.walkable.reads h.source

-- where there is a cut, its order reads within the picture
abbrev ReadsIfSome : Option Shape → Type 0
ReadsIfSome None = ⊤
ReadsIfSome (Some s) = ReadsPlaced s

reads_unless : (b : Bool) (s : Shape) → ReadsPlaced s → ReadsIfSome (unless b s)
reads_unless true s h = tt
reads_unless false s h = h

cut_reads : (size : Size) (p : Pending) (s : Shape) → is_session_size size.w size.h ≡ true → has_pixel (area_of size p) ≡ true → is_cut s ≡ true → CanMove size p.rect s
    → ReadsIfSome (cut_to (area_of size p) s)
cut_reads size p (Fill r color) session some is source = tt
cut_reads size p (Dst r code) session some is source = reads_unless (changes_nothing code) (Dst (area_of size p) code) tt
cut_reads size p (Pat r code brush) session some is source = reads_unless (changes_nothing code) (Pat (area_of size p) code brush) tt
cut_reads size p (Copy r code sx sy) session some is source =
    let a = area_of size p in
    let inside = cut_inside size size p.rect p.drawing.clip sx sy some (subst (λ (t : Rect). is_inside size (boxed sx sy t.w t.h) ≡ true) (sym source.0) source.1) in
    reads_unless (changes_nothing code) (Copy a code (moved r.x a.x sx) (moved r.y a.y sy))
    (subst (λ (t : Rect). IsPlaced (boxed (moved t.x a.x sx) (moved t.y a.y sy) a.w a.h)) source.0
    (inside_placed size (boxed (moved p.rect.x a.x sx) (moved p.rect.y a.y sy) a.w a.h) session inside))
cut_reads size p (Blit r code image sx sy) session some is source =
    let a = area_of size p in reads_unless (changes_nothing code) (Blit a code image (moved r.x a.x sx) (moved r.y a.y sy)) tt
cut_reads size p (Blit3 r code image sx sy brush) session some is source =
    let a = area_of size p in reads_unless (changes_nothing code) (Blit3 a code image (moved r.x a.x sx) (moved r.y a.y sy) brush) tt
cut_reads size p (Text x y color font run) session some is source = absurd (cc is)
cut_reads size p (Line x0 y0 x1 y1 color) session some is source = absurd (cc is)
cut_reads size p (Save slot r) session some is source = absurd (cc is)
cut_reads size p (Restore slot x y) session some is source = absurd (cc is)
cut_reads size p (LoadImage slot image) session some is source = absurd (cc is)
cut_reads size p (LoadBrush slot brush) session some is source = absurd (cc is)
cut_reads size p (LoadGlyph font code glyph) session some is source = absurd (cc is)

-- a drawing with another shape over another rectangle, and without a clip
abbrev pub cut_as : Shape → Pending → Rect → Pending
cut_as s p a = record p { drawing = record { shape = s; clip = None }; rect = a }

pub cut_walkable : (size : Size) (p q : Pending) (s : Shape) → is_session_size size.w size.h ≡ true → has_pixel (area_of size p) ≡ true → is_cut p.drawing.shape ≡ true
    → IsPlaced (area_of size p) → CanMove size p.rect p.drawing.shape → cut_to (area_of size p) p.drawing.shape ≡ Some s
    → q ≡ cut_as s p (area_of size p) → IsWalkable q
cut_walkable size p q s session some is placed source e same =
    subst IsWalkable (sym same) (record {
      rect = placed;
      clip = tt;
      reads = subst ReadsIfSome e (cut_reads size p p.drawing.shape session some is source);
    })
