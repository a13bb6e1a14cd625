-- What a client keeps of cache orders, test by test.
use Rattle.std.proofs.Common.{◌≡◌, ℕ, zero, suc, ◌*◌, Bool, true, false, List, [], ◌∷◌, get_or, refl, ap, ◌∙◌}
use Rattle.std.specs.Prelude.{Result, Ok, Err}
use Rattle.wire_num.specs.Field.{bind}
use Rattle.px_core.specs.Picture.{turned_over}
use Rattle.px_core.specs.declared.depth.Depth.{Depth}
use Rattle.px_core.specs.Depth.{bytes_in}
use Rattle.draw_ops.specs.Content.{ImageOf}
use Rattle.caps_sets.specs.declared.cache_size.CacheSize.{CacheSize}
use Rattle.caps_sets.specs.declared.confirmed.Confirmed.{Confirmed}
use Rattle.caps_sets.specs.Confirmed.{sized, cache_size}
use Rattle.order_means.specs.ClientState.{ClientState, Fault, needs, holds, with_cached, wire_pixels, client_after_bitmap}
use Rattle.order_means.specs.ClientState.Fault.{Broken as broken_fault, Oversized as oversized_fault, Empty as empty_fault}
use Rattle.client_caches.specs.declared.obey_fault.ObeyFault.{ObeyFault}
use Rattle.client_caches.specs.declared.obey_fault.ObeyFault.TheVariants.{Broken, Oversized, Empty, OutOfMemory}
use Rattle.client_caches.specs.declared.cached_bitmap.CachedBitmap.{CachedBitmap}
use Rattle.client_caches.specs.Answers.{Refuses}
use Rattle.client_caches.specs.Caches.{kept_image}
use Rattle.client_caches.specs.Stored.{bitmap_order, is_cached_bitmap}

pub size_by_place : (sizes : List CacheSize) (cache : ℕ) → cache_size sizes cache ≡ get_or sizes cache (sized 0 0)
size_by_place [] cache = refl
size_by_place (s ∷ ss) zero = refl
size_by_place (s ∷ ss) (suc cache) = size_by_place ss cache

-- a refusal of one part is a refusal of the whole
pub refused_by : {A B : Type 0} (f : ObeyFault) (part : Result A Fault) (whole : Result B Fault) → ((g : Fault) → part ≡ Err g → whole ≡ Err g) → Refuses f part → Refuses f whole
refused_by Broken part whole through r = through broken_fault r
refused_by (Oversized cache index) part whole through r = through (oversized_fault cache index) r
refused_by (Empty cache index) part whole through r = through (empty_fault cache index) r
refused_by OutOfMemory part whole through r = tt

-- ---- bitmaps

abbrev image_from : ℕ → ℕ → List ℕ → ImageOf
image_from w h pixels = record { w = w; h = h; pixels = pixels }

kept_by : (r : Result (List ℕ) Fault) (w h : ℕ) (more : ImageOf → Result ClientState Fault) →
    bind r (λ pixels. more (image_from w h (turned_over w h pixels))) ≡ bind (bind (bind r (λ p. Ok (turned_over w h p))) (λ p. Ok (image_from w h p))) more
kept_by (Ok p) w h more = refl
kept_by (Err f) w h more = refl

-- an image is kept where its cache has the entry and its cell
abbrev after_image : Confirmed → ClientState → CachedBitmap → Depth → ImageOf → Result ClientState Fault
after_image confirmed c b depth image =
    needs (holds (cache_size confirmed.bitmaps b.cache) b.index (bytes_in depth * (b.w * b.h))) (oversized_fault b.cache b.index) (Ok (record c { images = with_cached b.cache b.index image c.images }))

abbrev after_test : Confirmed → ClientState → CachedBitmap → List ℕ → Depth → Bool → Result ClientState Fault
after_test confirmed c b bytes depth test = needs test broken_fault (bind (kept_image depth b.packed b.w b.h bytes) (after_image confirmed c b depth))

module _ (confirmed : Confirmed) (c : ClientState) (depth : Depth) (b : CachedBitmap) (bytes : List ℕ) (same : c.depth ≡ depth) where
  bitmap_parts : client_after_bitmap confirmed c (bitmap_order b bytes) ≡ after_test confirmed c b bytes depth (is_cached_bitmap depth b)
  bitmap_parts =
      ap (needs (is_cached_bitmap c.depth b) broken_fault) (kept_by (wire_pixels c.depth b.packed b.w b.h bytes) b.w b.h (after_image confirmed c b c.depth))
      ∙ ap (λ (d : Depth). after_test confirmed c b bytes d (is_cached_bitmap d b)) same

  taken : is_cached_bitmap depth b ≡ true → client_after_bitmap confirmed c (bitmap_order b bytes) ≡ bind (kept_image depth b.packed b.w b.h bytes) (after_image confirmed c b depth)
  taken t = bitmap_parts ∙ ap (after_test confirmed c b bytes depth) t

  pub not_taken : is_cached_bitmap depth b ≡ false → client_after_bitmap confirmed c (bitmap_order b bytes) ≡ Err broken_fault
  not_taken t = bitmap_parts ∙ ap (after_test confirmed c b bytes depth) t

  pub no_image : (f : ObeyFault) → is_cached_bitmap depth b ≡ true → Refuses f (kept_image depth b.packed b.w b.h bytes) → Refuses f (client_after_bitmap confirmed c (bitmap_order b bytes))
  no_image f t r =
      refused_by f (kept_image depth b.packed b.w b.h bytes) (client_after_bitmap confirmed c (bitmap_order b bytes)) (λ g e. taken t ∙ ap (λ k. bind k (after_image confirmed c b depth)) e) r

  image_kept : (image : ImageOf) (test : Bool) → is_cached_bitmap depth b ≡ true → kept_image depth b.packed b.w b.h bytes ≡ Ok image
      → holds (cache_size confirmed.bitmaps b.cache) b.index (bytes_in depth * (b.w * b.h)) ≡ test
      → client_after_bitmap confirmed c (bitmap_order b bytes) ≡ needs test (oversized_fault b.cache b.index) (Ok (record c { images = with_cached b.cache b.index image c.images }))
  image_kept image test t e h =
      taken t ∙ ap (λ k. bind k (after_image confirmed c b depth)) e
      ∙ ap (λ s. needs s (oversized_fault b.cache b.index) (Ok (record c { images = with_cached b.cache b.index image c.images }))) h

  pub too_large : (image : ImageOf) → is_cached_bitmap depth b ≡ true → kept_image depth b.packed b.w b.h bytes ≡ Ok image
      → holds (cache_size confirmed.bitmaps b.cache) b.index (bytes_in depth * (b.w * b.h)) ≡ false → client_after_bitmap confirmed c (bitmap_order b bytes) ≡ Err (oversized_fault b.cache b.index)
  too_large image t e h = image_kept image false t e h

  pub is_kept : (image : ImageOf) → is_cached_bitmap depth b ≡ true → kept_image depth b.packed b.w b.h bytes ≡ Ok image
      → holds (cache_size confirmed.bitmaps b.cache) b.index (bytes_in depth * (b.w * b.h)) ≡ true → client_after_bitmap confirmed c (bitmap_order b bytes) ≡ Ok (record c { images = with_cached b.cache b.index image c.images })
  is_kept image t e h = image_kept image true t e h
