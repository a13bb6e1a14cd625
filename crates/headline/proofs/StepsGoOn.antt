-- What an encoder knows of its client stays true, however the journal goes on.
use Rattle.std.proofs.Common.{◌≡◌, ℕ, zero, suc, ◌<◌, ◌≤◌, List, [], ◌∷◌, ◌++◌, length, map, refl, sym, ap, ◌∙◌, subst, arith, append_assoc, length-append}
use Rattle.std.specs.Prelude.{Option, Some, None, option_and_then, slice_get}
use Rattle.std.proofs.lemmas.Option.{slice_get_within, slice_get-get_or, get_or_from_slice_get}
use Rattle.std.proofs.lemmas.List.{get_or_append_left}
use Rattle.px_core.specs.declared.surface.Size.{Size}
use Rattle.draw_ops.specs.declared.shape.Drawing.{Drawing}
use Rattle.draw_ops.specs.declared.shape.Shape.{Shape}
use Rattle.px_core.specs.Depth.{seen}
use Rattle.caps_sets.specs.declared.confirmed.Confirmed.{Confirmed}
use Rattle.caps_sets.specs.Confirmed.{depth_of}
use Rattle.order_means.specs.ClientState.{ClientState}
use Rattle.session_rules.specs.declared.entry.Entry.{Entry}
use Rattle.session_rules.specs.Board.{Board, opening_board}
use Rattle.session_rules.specs.Journal.{state_after, drawings_of, board_after}
use Rattle.session_rules.proofs.Journals.{reached_at-append}
use Rattle.frame_rules.specs.FrameOrders.{Uses}
use Rattle.frame_rules.specs.Encoder.{Encoder}
use Rattle.frame_rules.specs.Describes.{drawings_from, shape_numbered, image_in, brush_in, glyph_in, CachesAgree, BlocksAgree, DescribesClient}

-- a member that is there stays where more members follow
member_stays : {A : Type 0} (xs ys : List A) (n : ℕ) (x : A) → slice_get xs n ≡ Some x → slice_get (xs ++ ys) n ≡ Some x
member_stays xs ys n x e =
    let inside : n < length xs = slice_get_within xs n x e in
    let before : n < length (xs ++ ys) = omega (arith, inside, length-append xs ys) in
    slice_get-get_or (xs ++ ys) n x before ∙ ap Some (get_or_append_left xs ys x n inside ∙ get_or_from_slice_get xs n x x e)

-- the drawings of a journal are a front of those of a longer one
drawings_front : (size : Size) (b : Board) (j more : List Entry)
    → (rest : List Drawing) × (drawings_from size b (j ++ more) ≡ drawings_from size b j ++ rest)
drawings_front size b [] more = (drawings_from size b more, refl)
drawings_front size b (e ∷ es) more =
    let r = drawings_front size (board_after size b e) es more in (
      r.0,
      ap (λ ds. drawings_of size b e ++ ds) r.1
          ∙ sym (append_assoc (drawings_of size b e) (drawings_from size (board_after size b e) es) r.0),
    )

number_stays : (size : Size) (j more : List Entry) (number : ℕ) (s : Shape) → shape_numbered size j number ≡ Some s
    → shape_numbered size (j ++ more) number ≡ Some s
number_stays size j more zero s e = cc
number_stays size j more (suc n) s e = by (slice_get (drawings_from size opening_board j) n) refl e
  where
    by : (found : Option Drawing) → slice_get (drawings_from size opening_board j) n ≡ found → option_and_then (λ d. Some d.shape) found ≡ Some s
        → shape_numbered size (j ++ more) (suc n) ≡ Some s
    by None is shape = cc
    by (Some d) is shape =
        let r = drawings_front size opening_board j more in
        ap (λ ds. option_and_then (λ d. Some d.shape) (slice_get ds n)) r.1
        ∙ (ap (option_and_then (λ d. Some d.shape)) (member_stays (drawings_from size opening_board j) r.0 n d is) ∙ shape)

-- what a drawing of the journal loaded, it loaded
load_stays : {A : Type 0} (load : Shape → Option A) (size : Size) (j more : List Entry) (number : ℕ) (content : A)
    → option_and_then load (shape_numbered size j number) ≡ Some content → option_and_then load (shape_numbered size (j ++ more) number) ≡ Some content
load_stays load size j more number content e = by (shape_numbered size j number) refl e
  where
    by : (found : Option Shape) → shape_numbered size j number ≡ found → option_and_then load found ≡ Some content
        → option_and_then load (shape_numbered size (j ++ more) number) ≡ Some content
    by None is loaded = cc
    by (Some s) is loaded = ap (option_and_then load) (number_stays size j more number s is) ∙ loaded

caches_stay : (size : Size) (c : Confirmed) (j more : List Entry) (uses : Uses) (client : ClientState) → CachesAgree size c j uses client
    → CachesAgree size c (j ++ more) uses client
caches_stay size c j more uses client a = record {
  images = λ cache key low held. let w = a.images cache key low held in (w.0, load_stays image_in size j more key w.0 w.1, w.2);
  glyphs = λ cache key low held. let w = a.glyphs cache key low held in (w.0, load_stays glyph_in size j more key w.0 w.1, w.2);
  brushes = λ key held. let w = a.brushes key held in (w.0, load_stays brush_in size j more key w.0 w.1, w.2);
}

pub describes_on : (size : Size) (c : Confirmed) (j more : List Entry) (number : ℕ) (e : Encoder) (client : ClientState) → number ≤ length j
    → DescribesClient size c j number e client → DescribesClient size c (j ++ more) number e client
describes_on size c j more number e client low d =
    let same : state_after size (j ++ more) number ≡ state_after size j number = ap (λ r. r.state) (reached_at-append size j more number low) in record {
      registers = d.registers;
      are_registers = d.are_registers;
      sized = d.sized;
      caches = caches_stay size c j more e.uses client d.caches;
      blocks = subst (λ st. BlocksAgree st.surface e.held client) (sym same) d.blocks;
      apart = d.apart;
      pixels = d.pixels;
      picture = λ some. d.picture some ∙ ap (λ st. map (seen (depth_of c)) st.surface.picture) (sym same);
    }
