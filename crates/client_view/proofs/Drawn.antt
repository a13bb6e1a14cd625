-- What becomes of a client that draws with what its caches hold.
use Rattle.std.proofs.Common.{◌≡◌, ℕ, ℤ, Bool, true, List, [], ◌∷◌, refl, ap, ap₂, sym, ◌∙◌, Some, None}
use Rattle.std.specs.Prelude.{Option, Result, Ok, Err, nat_lt}
use Rattle.px_core.specs.declared.surface.Size.{Size}
use Rattle.px_core.specs.declared.rectangle.Rect.{Rect}
use Rattle.px_core.specs.Picture.{rows_of, item}
use Rattle.rop3_core.specs.Palette.{client_colors}
use Rattle.wire_num.specs.Field.{bind}
use Rattle.draw_ops.specs.Content.{ImageOf, GlyphOf}
use Rattle.draw_ops.specs.Slots.{Slots, lookup}
use Rattle.draw_ops.specs.Formulas.{Operand, brushed, imaged, image_rows}
use Rattle.caps_sets.specs.declared.confirmed.Confirmed.{Confirmed}
use Rattle.order_fields.specs.NamedDrawing.NamedDrawing.{Pat, Mem, Mem3, Glyphs}
use Rattle.order_means.specs.ClientState.{ClientState, Fault, needs, found, cached, mixing, no_operand, brush_used, image_used, glyph_used, source_rect, pairs_of, with_glyphs, writing}
use Rattle.order_means.specs.ClientState.Fault.{Broken}
use Rattle.client_picture.specs.declared.source.Source.{Source}
use Rattle.client_picture.specs.Pictures.{source_operand, source_rows}
use Rattle.client_caches.specs.Runs.{run_used}
use Rattle.client_view.specs.Told.{clipped_painting, client_after_clipped}
use Rattle.client_view.specs.Views.{IsSourceOf}

-- ---- a brush

abbrev with_brush : Size → Option Rect → Rect → ℕ → ClientState → Result (List ℕ) Fault → Result ClientState Fault
with_brush size clip r code c used = bind used (λ brush. Ok (clipped_painting size clip (mixing c.depth r code (brushed client_colors brush) no_operand) c))

pub patterned : (confirmed : Confirmed) (size : Size) (clip : Option Rect) (r : Rect) (code entry : ℕ) (c : ClientState) (brush : List ℕ) → brush_used confirmed c entry ≡ Ok brush
    → client_after_clipped confirmed size clip c (Pat r code entry) ≡ Ok (clipped_painting size clip (mixing c.depth r code (brushed client_colors brush) no_operand) c)
patterned confirmed size clip r code entry c brush e = ap (with_brush size clip r code c) e

pub no_pattern : (confirmed : Confirmed) (size : Size) (clip : Option Rect) (r : Rect) (code entry : ℕ) (c : ClientState) (f : Fault) → brush_used confirmed c entry ≡ Err f → client_after_clipped confirmed size clip c (Pat r code entry) ≡ Err f
no_pattern confirmed size clip r code entry c f e = ap (with_brush size clip r code c) e

-- ---- an image

-- an image as a source is the image
pub source_same : (r : Rect) (image : ImageOf) (sx sy : ℤ) (s : Source) → IsSourceOf image sx sy s → ◌≡◌ {A = Operand (Option ℕ)} (imaged client_colors (image_rows image) r sx sy) (source_operand r (Some s))
source_same r image sx sy s is =
    let rows : image_rows image ≡ source_rows s =
    ap (λ (n : ℕ). rows_of n image.h image.pixels) (sym is.w) ∙ ap₂ (λ (n : ℕ) (xs : List ℕ). rows_of s.w n xs) (sym is.h) (sym is.pixels) in
    ap (λ (rs : List (List ℕ)). imaged client_colors rs r sx sy) rows ∙ ap₂ (λ (a b : ℤ). imaged client_colors (source_rows s) r a b) (sym is.sx_is) (sym is.sy_is)

abbrev with_image : Size → Option Rect → Rect → ℕ → ℤ → ℤ → ClientState → Result ImageOf Fault → Result ClientState Fault
with_image size clip r code sx sy c used = bind used (λ image. Ok (clipped_painting size clip (mixing c.depth r code no_operand (imaged client_colors (image_rows image) r sx sy)) c))

pub imaged_by : (confirmed : Confirmed) (size : Size) (clip : Option Rect) (cache index : ℕ) (r : Rect) (code : ℕ) (sx sy : ℤ) (c : ClientState) (image : ImageOf) (s : Source) → image_used confirmed c cache index (source_rect r sx sy) ≡ Ok image
    → IsSourceOf image sx sy s → client_after_clipped confirmed size clip c (Mem cache index r code sx sy) ≡ Ok (clipped_painting size clip (mixing c.depth r code no_operand (source_operand r (Some s))) c)
imaged_by confirmed size clip cache index r code sx sy c image s e is =
    ap (with_image size clip r code sx sy c) e ∙ ap (λ (o : Operand (Option ℕ)). Ok (clipped_painting size clip (mixing c.depth r code no_operand o) c)) (source_same r image sx sy s is)

pub no_image : (confirmed : Confirmed) (size : Size) (clip : Option Rect) (cache index : ℕ) (r : Rect) (code : ℕ) (sx sy : ℤ) (c : ClientState) (f : Fault) → image_used confirmed c cache index (source_rect r sx sy) ≡ Err f
    → client_after_clipped confirmed size clip c (Mem cache index r code sx sy) ≡ Err f
no_image confirmed size clip cache index r code sx sy c f e = ap (with_image size clip r code sx sy c) e

-- ---- an image and a brush

abbrev with_both : Size → Option Rect → Rect → ℕ → ℤ → ℤ → ClientState → Result (List ℕ) Fault → Result ImageOf Fault → Result ClientState Fault
with_both size clip r code sx sy c brush used =
    bind used (λ image. bind brush (λ b. Ok (clipped_painting size clip (mixing c.depth r code (brushed client_colors b) (imaged client_colors (image_rows image) r sx sy)) c)))

pub mixed_by : (confirmed : Confirmed) (size : Size) (clip : Option Rect) (cache index : ℕ) (r : Rect) (code : ℕ) (sx sy : ℤ) (entry : ℕ) (c : ClientState) (image : ImageOf) (brush : List ℕ) (s : Source)
    → image_used confirmed c cache index (source_rect r sx sy) ≡ Ok image → brush_used confirmed c entry ≡ Ok brush → IsSourceOf image sx sy s
    → client_after_clipped confirmed size clip c (Mem3 cache index r code sx sy entry) ≡ Ok (clipped_painting size clip (mixing c.depth r code (brushed client_colors brush) (source_operand r (Some s))) c)
mixed_by confirmed size clip cache index r code sx sy entry c image brush s e b is =
    ap₂ (λ (y : Result (List ℕ) Fault) (x : Result ImageOf Fault). with_both size clip r code sx sy c y x) b e
    ∙ ap (λ (o : Operand (Option ℕ)). Ok (clipped_painting size clip (mixing c.depth r code (brushed client_colors brush) o) c)) (source_same r image sx sy s is)

pub no_mixed_image : (confirmed : Confirmed) (size : Size) (clip : Option Rect) (cache index : ℕ) (r : Rect) (code : ℕ) (sx sy : ℤ) (entry : ℕ) (c : ClientState) (f : Fault) → image_used confirmed c cache index (source_rect r sx sy) ≡ Err f
    → client_after_clipped confirmed size clip c (Mem3 cache index r code sx sy entry) ≡ Err f
no_mixed_image confirmed size clip cache index r code sx sy entry c f e = ap (with_both size clip r code sx sy c (brush_used confirmed c entry)) e

pub no_mixed_brush : (confirmed : Confirmed) (size : Size) (clip : Option Rect) (cache index : ℕ) (r : Rect) (code : ℕ) (sx sy : ℤ) (entry : ℕ) (c : ClientState) (image : ImageOf) (f : Fault) → image_used confirmed c cache index (source_rect r sx sy) ≡ Ok image
    → brush_used confirmed c entry ≡ Err f → client_after_clipped confirmed size clip c (Mem3 cache index r code sx sy entry) ≡ Err f
no_mixed_brush confirmed size clip cache index r code sx sy entry c image f e b =
    ap₂ (λ (y : Result (List ℕ) Fault) (x : Result ImageOf Fault). with_both size clip r code sx sy c y x) b e

-- ---- a run of glyphs

-- nothing more is to be done
abbrev done : Result (Unit {0}) Fault
done = Ok tt

all_by : {A : Type 0} (r : Result GlyphOf Fault) (here : Result (Unit {0}) Fault) (next more : Result A Fault) → bind r (λ _. here) ≡ Ok tt → (here ≡ Ok tt → more ≡ next) → bind r (λ _. more) ≡ next
all_by (Ok g) here next more e same = same e
all_by (Err f) here next more e same = absurd (let no : ⊥ = cc in no)

-- where all glyphs are there, it goes on
with_all : {A : Type 0} (glyph : ℕ → Result GlyphOf Fault) (ps : List (ℕ × ℕ)) (next : Result A Fault) → with_glyphs glyph ps done ≡ Ok tt → with_glyphs glyph ps next ≡ next
with_all glyph [] next e = refl
with_all glyph (p ∷ ps) next e = all_by (glyph p.0) (with_glyphs glyph ps done) next (with_glyphs glyph ps next) e (λ h. with_all glyph ps next h)

missing_by : {A : Type 0} (r : Result GlyphOf Fault) (here : Result (Unit {0}) Fault) (more : Result A Fault) (f : Fault) → bind r (λ _. here) ≡ Err f → (here ≡ Err f → more ≡ Err f) → bind r (λ _. more) ≡ Err f
missing_by (Ok g) here more f e same = same e
missing_by (Err g) here more f e same = let is : g ≡ f = cc in ap (λ x. Err x) is

with_missing : {A : Type 0} (glyph : ℕ → Result GlyphOf Fault) (ps : List (ℕ × ℕ)) (next : Result A Fault) (f : Fault) → with_glyphs glyph ps done ≡ Err f → with_glyphs glyph ps next ≡ Err f
with_missing glyph [] next f e = absurd (let no : ⊥ = cc in no)
with_missing glyph (p ∷ ps) next f e = missing_by (glyph p.0) (with_glyphs glyph ps done) (with_glyphs glyph ps next) f e (λ h. with_missing glyph ps next f h)

-- a run that is used is pairs
pub run_pairs : (glyph : ℕ → Result GlyphOf Fault) (o : Option (List (ℕ × ℕ))) → run_used glyph o ≡ Ok tt → (pairs : List (ℕ × ℕ)) × (o ≡ Some pairs)
run_pairs glyph None e = absurd (let no : ⊥ = cc in no)
run_pairs glyph (Some ps) e = (ps, refl)

run_by : {A : Type 0} (glyph : ℕ → Result GlyphOf Fault) (o : Option (List (ℕ × ℕ))) (pairs : List (ℕ × ℕ)) (next : List (ℕ × ℕ) → Result A Fault) → o ≡ Some pairs → run_used glyph o ≡ Ok tt
    → bind (found o Broken) (λ ps. with_glyphs glyph ps (next ps)) ≡ next pairs
run_by glyph None pairs next s e = absurd (let no : ⊥ = cc in no)
run_by glyph (Some ps) pairs next s e = let is : ps ≡ pairs = cc in with_all glyph ps (next ps) e ∙ ap next is

no_run_by : {A : Type 0} (glyph : ℕ → Result GlyphOf Fault) (o : Option (List (ℕ × ℕ))) (next : List (ℕ × ℕ) → Result A Fault) (f : Fault) → run_used glyph o ≡ Err f → bind (found o Broken) (λ ps. with_glyphs glyph ps (next ps)) ≡ Err f
no_run_by glyph None next f e = let is : Broken ≡ f = cc in ap (λ x. Err x) is
no_run_by glyph (Some ps) next f e = with_missing glyph ps (next ps) f e

abbrev written_by : Size → Option Rect → ℕ → ℤ → ℤ → ℕ → ClientState → List (ℕ × ℕ) → Result ClientState Fault
written_by size clip cache x y color c pairs = Ok (clipped_painting size clip (writing (λ index. cached cache index c.glyphs) x y color pairs) c)

pub written : (confirmed : Confirmed) (size : Size) (clip : Option Rect) (cache : ℕ) (x y : ℤ) (color : ℕ) (run : List ℕ) (c : ClientState) (pairs : List (ℕ × ℕ)) (slots : Slots GlyphOf) → nat_lt cache 10 ≡ true
    → pairs_of run ≡ Some pairs → run_used (glyph_used confirmed c cache) (pairs_of run) ≡ Ok tt → slots ≡ item c.glyphs cache []
    → client_after_clipped confirmed size clip c (Glyphs cache x y color run) ≡ Ok (clipped_painting size clip (writing (λ index. lookup index slots) x y color pairs) c)
written confirmed size clip cache x y color run c pairs slots t s e same =
    let glyph : ℕ → Result GlyphOf Fault = glyph_used confirmed c cache in
    ap (λ (b : Bool). needs b Broken (bind (found (pairs_of run) Broken) (λ ps. with_glyphs glyph ps (written_by size clip cache x y color c ps)))) t
    ∙ run_by glyph (pairs_of run) pairs (written_by size clip cache x y color c) s e
    ∙ ap (λ (g : Slots GlyphOf). Ok (clipped_painting size clip (writing (λ index. lookup index g) x y color pairs) c)) (sym same)

pub no_run : (confirmed : Confirmed) (size : Size) (clip : Option Rect) (cache : ℕ) (x y : ℤ) (color : ℕ) (run : List ℕ) (c : ClientState) (f : Fault) → nat_lt cache 10 ≡ true
    → run_used (glyph_used confirmed c cache) (pairs_of run) ≡ Err f → client_after_clipped confirmed size clip c (Glyphs cache x y color run) ≡ Err f
no_run confirmed size clip cache x y color run c f t e =
    let glyph : ℕ → Result GlyphOf Fault = glyph_used confirmed c cache in
    ap (λ (b : Bool). needs b Broken (bind (found (pairs_of run) Broken) (λ ps. with_glyphs glyph ps (written_by size clip cache x y color c ps)))) t
    ∙ no_run_by glyph (pairs_of run) (written_by size clip cache x y color c) f e
