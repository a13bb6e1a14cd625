-- The packet of a tile is read: its rectangle shows the pixels that were sent, as they are shown at its depth.
use Rattle.std.proofs.Common.{◌≡◌, ℕ, ◌+◌, ◌*◌, ◌-◌, ◌%◌, ◌<◌, ◌≤◌, List, [], ◌∷◌, length, refl, ap, ◌∙◌, arith, Some}
use Rattle.std.specs.Prelude.{◌^◌, Bool, true, false, ◌&&◌, ◌==◌, nat_lt, nat_le, pos, Ok}
use Rattle.std.proofs.lemmas.Bool.{and_from}
use Rattle.std.proofs.lemmas.Bool.Decides.{nat_tests}
use Rattle.px_core.specs.declared.depth.Depth.{Depth}
use Rattle.px_core.specs.declared.depth.Depth.TheVariants.{Bits24, Bits16}
use Rattle.px_core.specs.declared.surface.Size.{Size}
use Rattle.px_core.specs.declared.rectangle.Rect.{Rect}
use Rattle.px_core.specs.Depth.{bits_in, shown, shown_colors}
use Rattle.px_core.specs.Pixels.{are_pixels}
use Rattle.px_core.specs.Picture.{nat_of, rows_of, Area, painted, turned_over}
use Rattle.px_core.specs.Rectangle.{boxed, in_rect, is_inside}
use Rattle.rop3_core.specs.Palette.{client_colors}
use Rattle.draw_ops.specs.Formulas.{replaced, imaged}
use Rattle.caps_sets.specs.declared.confirmed.Confirmed.{Confirmed}
use Rattle.caps_sets.specs.Confirmed.{takes_fast}
use Rattle.wire_num.specs.Field.{bind}
use Rattle.wire_num.proofs.Numbers.{little_back}
use Rattle.run_lengths.specs.WirePixels.{PixelData, data_of}
use Rattle.order_means.specs.UpdateBodies.{tile_flags, tile_data_bytes, tile_body, tile_packet}
use Rattle.order_means.specs.Updates.{Body, body_at}
use Rattle.order_means.specs.Updates.BodyForm.{Slow, FastBitmap}
use Rattle.order_means.specs.ClientState.{needs, is_bitmap}
use Rattle.order_means.specs.ClientState.Fault.{Broken}
use Rattle.order_means.specs.FrameMarks.{View, Tile, tile_at, update_in, tile_rect, is_tile, is_packed_tile, tile_pixels, view_after_tile, view_after_tiles, view_after_body, view_after_read, meant}
use Rattle.order_means.specs.FrameMarks.Update.{Tiles}
use Rattle.frame_rules.specs.FrameRead.{Reads}
use Rattle.frame_rules.proofs.TileLaws.{pos-nat_of}
use Rattle.px_core.proofs.Turned.{turned_over-map}
use Rattle.wire_num.proofs.Bytes.{taken_all}
use Rattle.frame_rules.proofs.UpdatesBack.{packet_obeyed, fast_obeyed}
use Rattle.frame_laws.specs.Sound.{AreColors}
use Rattle.frame_laws.specs.Tile.{IsTileRect, view_after_cut}
use Rattle.frame_laws.proofs.TurnedOver.{turned_over_twice, length-turned_over, colors_turned_over}
use Rattle.frame_laws.proofs.WireBack.{pixels_back, shown_pixels, length-shown, data_short}

-- a tile as it is read
abbrev pub read_tile : Depth → ℕ → ℕ → ℕ → ℕ → PixelData → Tile
read_tile depth x y w h d = record {
  left = x;
  top = y;
  right = x + w - 1;
  bottom = y + h - 1;
  w = w;
  h = h;
  depth = bits_in depth;
  flags = tile_flags d.is_packed;
  bytes = d.bytes;
}

flags_fit : (b : Bool) → tile_flags b < 256 ^ 2
flags_fit true = omega arith
flags_fit false = omega arith

bits_fit : (depth : Depth) → bits_in depth < 256 ^ 2
bits_fit Bits24 = omega arith
bits_fit Bits16 = omega arith

-- ---- the body is read

tile_data_back : (depth : Depth) (x y w h : ℕ) (d : PixelData) → x + w < 65536 → y + h < 65536 → length d.bytes < 65536
    → tile_at (tile_data_bytes depth x y w h d) ≡ Ok (read_tile depth x y w h d, [])
tile_data_back depth x y w h d hx hy few =
    let a : x < 256 ^ 2 = omega arith in
    let b : y < 256 ^ 2 = omega arith in
    let e : x + w - 1 < 256 ^ 2 = omega arith in
    let f : y + h - 1 < 256 ^ 2 = omega arith in
    let g : w < 256 ^ 2 = omega arith in
    let i : h < 256 ^ 2 = omega arith in
    let n : length d.bytes < 256 ^ 2 = omega arith in
    rw (
      little_back 2 x a,
      little_back 2 y b,
      little_back 2 (x + w - 1) e,
      little_back 2 (y + h - 1) f,
      little_back 2 w g,
      little_back 2 h i,
      little_back 2 (bits_in depth) (bits_fit depth),
      little_back 2 (tile_flags d.is_packed)
          (flags_fit d.is_packed),
      little_back 2 (length d.bytes) n,
      taken_all d.bytes d.bytes,
    ) refl

same_bits : (n : ℕ) → (n == n) ≡ true
same_bits n = grind (arith, nat_tests)

less_one : (n : ℕ) → n < 65536 → n < 256 ^ 2
less_one n h = omega (arith, h)

module _ (size : Size) (depth : Depth) (no_header : Bool) (r : Rect) (pixels : List ℕ) (is : IsTileRect size r) (whole : length pixels ≡ r.w * r.h) (c : AreColors pixels) where
  abbrev wire : List ℕ
  wire = turned_over r.w r.h (shown_colors depth pixels)

  abbrev sent : PixelData
  sent = data_of depth no_header r.w wire

  abbrev tile : Tile
  tile = read_tile depth (nat_of r.x) (nat_of r.y) r.w r.h sent

  whole_shown : length (shown_colors depth pixels) ≡ r.w * r.h
  whole_shown = length-shown depth pixels ∙ whole

  few_pixels : r.w * r.h ≤ 4096
  few_pixels =
      let a = is.narrow in
      let b = is.low in
      let one : r.w * r.h ≤ 64 * r.h = grind (arith, a) in
      omega (arith, one, b)

  few_bytes : length sent.bytes ≤ 12288
  few_bytes =
      let n = length-turned_over r.w r.h (shown_colors depth pixels) whole_shown in
      let most = data_short depth no_header r.w wire in
      let few = few_pixels in
      omega (arith, n, most, few)

  rect_back : tile_rect tile ≡ r
  rect_back =
      let hx = is.wide in
      let hy = is.high in
      let w : (nat_of r.x + r.w - 1 + 1) - nat_of r.x ≡ r.w = omega (arith, hx) in
      let h : (nat_of r.y + r.h - 1 + 1) - nat_of r.y ≡ r.h = omega (arith, hy) in
      ap (λ x. boxed x (pos (nat_of r.y)) ((nat_of r.x + r.w - 1 + 1) - nat_of r.x) ((nat_of r.y + r.h - 1 + 1) - nat_of r.y)) (pos-nat_of r.x is.left)
      ∙ ap (λ y. boxed r.x y ((nat_of r.x + r.w - 1 + 1) - nat_of r.x) ((nat_of r.y + r.h - 1 + 1) - nat_of r.y)) (pos-nat_of r.y is.top)
      ∙ ap (λ n. boxed r.x r.y n ((nat_of r.y + r.h - 1 + 1) - nat_of r.y)) w
      ∙ ap (λ n. boxed r.x r.y r.w n) h

  bitmap_test : is_bitmap depth r.w r.h (bits_in depth) ≡ true
  bitmap_test =
      let a = is.wide in
      let b = is.narrow in
      let d = is.high in
      let e = is.low in
      let f = is.four in
      let wide : nat_lt 0 r.w ≡ true = grind (arith, nat_tests, a) in
      let narrow : nat_le r.w 64 ≡ true = grind (arith, nat_tests, b) in
      let high : nat_lt 0 r.h ≡ true = grind (arith, nat_tests, d) in
      let low : nat_le r.h 64 ≡ true = grind (arith, nat_tests, e) in
      let four : (r.w % 4 == 0) ≡ true = grind (arith, nat_tests, f) in
      and_from _ _ (and_from _ _ (and_from _ _ wide narrow) (and_from _ _ high low)) (and_from _ _ four (same_bits (bits_in depth)))

  is_tile_test : is_tile depth size tile ≡ true
  is_tile_test =
      let a = is.wide in
      let some : nat_le 1 r.w ≡ true = grind (arith, nat_tests, a) in
      let same : nat_le r.w r.w ≡ true = grind (arith, nat_tests) in
      let high : (r.h == r.h) ≡ true = grind (arith, nat_tests) in
      ap (λ q. is_bitmap depth r.w r.h (bits_in depth) && (is_inside size q && ((nat_le 1 q.w && nat_le q.w r.w) && (q.h == r.h)))) rect_back
      ∙ and_from _ _ bitmap_test (and_from _ _ is.inside (and_from _ _ (and_from _ _ some same) high))

  flags_back : (b : Bool) → is_packed_tile (tile_flags b) ≡ Some b
  flags_back true = refl
  flags_back false = refl

  wire_shown : are_pixels depth wire ≡ true
  wire_shown = ap (are_pixels depth) (turned_over-map (shown depth) r.w r.h pixels)
      ∙ shown_pixels depth (turned_over r.w r.h pixels) (colors_turned_over r.w r.h pixels c)

  pixels_read : tile_pixels depth (is_packed_tile tile.flags) tile ≡ Ok wire
  pixels_read =
      let n = length-turned_over r.w r.h (shown_colors depth pixels) whole_shown in
      let few = few_pixels in
      ap (λ o. tile_pixels depth o tile) (flags_back sent.is_packed)
      ∙ pixels_back depth no_header r.w r.h wire is.wide is.high n (omega (arith, n, few)) wire_shown

  -- the view after some pixels in a rectangle
  abbrev painted_in : View → Area → Rect → List ℕ → View
  painted_in v area q ps = record v {
    client = record v.client { picture = painted size area (replaced (imaged client_colors (rows_of r.w r.h ps) q (pos 0) (pos 0))) v.client.picture };
    tiles = v.tiles + 1;
  }

  and_true : (b : Bool) → (b && true) ≡ b
  and_true true = refl
  and_true false = refl

  -- a view of the tile's depth
  tile_shown : (v : View) → v.client.depth ≡ depth → view_after_tile size v tile ≡ Ok (view_after_cut size v r (shown_colors depth pixels))
  tile_shown v same =
      ap (λ k. needs (is_tile k size tile) Broken (bind (tile_pixels k (is_packed_tile tile.flags) tile)
      (λ ps. Ok (painted_in v (λ x y. true && (in_rect (tile_rect tile) x y && true)) (tile_rect tile) (turned_over r.w r.h ps))))) same
      ∙ ap (λ b. needs b Broken (bind (tile_pixels depth (is_packed_tile tile.flags) tile)
      (λ ps. Ok (painted_in v (λ x y. true && (in_rect (tile_rect tile) x y && true)) (tile_rect tile) (turned_over r.w r.h ps))))) is_tile_test
      ∙ ap (λ o. bind o (λ ps. Ok (painted_in v (λ x y. true && (in_rect (tile_rect tile) x y && true)) (tile_rect tile) (turned_over r.w r.h ps)))) pixels_read
      ∙ ap (λ ps. Ok (painted_in v (λ x y. true && (in_rect (tile_rect tile) x y && true)) (tile_rect tile) ps)) (turned_over_twice r.w r.h (shown_colors depth pixels) whole_shown)
      ∙ ap (λ q. Ok (painted_in v (λ x y. true && (in_rect q x y && true)) q (shown_colors depth pixels))) rect_back
      ∙ (λ k. Ok (painted_in v (λ x y. and_true (in_rect r x y) k) r (shown_colors depth pixels)))

  -- the body is read as one rectangle, slow or fast, and is short
  pub body_back : (place : ℕ) → update_in (body_at place Slow (tile_body depth no_header r pixels)) ≡ Ok (Tiles (tile ∷ []), [])
  body_back place =
      let few = few_bytes in
      rw (tile_data_back depth (nat_of r.x) (nat_of r.y) r.w r.h sent is.x_fits is.y_fits (omega (arith, few))) refl

  pub fast_body_back : (place : ℕ) → update_in (body_at place FastBitmap (tile_body depth no_header r pixels)) ≡ Ok (Tiles (tile ∷ []), [])
  fast_body_back place =
      let few = few_bytes in
      rw (tile_data_back depth (nat_of r.x) (nat_of r.y) r.w r.h sent is.x_fits is.y_fits (omega (arith, few))) refl

  pub body_short : 18 + length (tile_body depth no_header r pixels) < 16384
  body_short = let few = few_bytes in omega (arith, few)

  pub fast_body_short : length (tile_body depth no_header r pixels) < 32760
  fast_body_short = let few = few_bytes in omega (arith, few)

  body_obeyed : (conf : Confirmed) (v : View) (b : Body) → update_in b ≡ Ok (Tiles (tile ∷ []), []) → v.client.depth ≡ depth
      → view_after_body conf size v b ≡ Ok (view_after_cut size v r (shown_colors depth pixels))
  body_obeyed conf v b back same =
      ap (view_after_read conf size b v) back
      ∙ ap (λ o. meant b.place (bind o (λ w. view_after_tiles size w []))) (tile_shown v same)

  packet_by : (conf : Confirmed) (v : View) (place : ℕ) (fast : Bool) → takes_fast conf ≡ fast → v.client.depth ≡ depth
      → Reads conf size v place (tile_packet depth fast no_header r pixels) (view_after_cut size v r (shown_colors depth pixels))
  packet_by conf v place false kind same = packet_obeyed conf size v (view_after_cut size v r (shown_colors depth pixels)) place (tile_body depth no_header r pixels)
      body_short (λ p. body_obeyed conf v (body_at p Slow (tile_body depth no_header r pixels)) (body_back p) same)
  packet_by conf v place true kind same = fast_obeyed conf size v (view_after_cut size v r (shown_colors depth pixels)) place 1 FastBitmap (tile_body depth no_header r pixels)
      kind refl fast_body_short (λ p. body_obeyed conf v (body_at p FastBitmap (tile_body depth no_header r pixels)) (fast_body_back p) same)

  pub tile_obeyed : (conf : Confirmed) (v : View) (place : ℕ) → v.client.depth ≡ depth
      → Reads conf size v place (tile_packet depth (takes_fast conf) no_header r pixels) (view_after_cut size v r (shown_colors depth pixels))
  tile_obeyed conf v place same = packet_by conf v place (takes_fast conf) refl same
