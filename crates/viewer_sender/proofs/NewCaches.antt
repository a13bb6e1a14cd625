-- The caches of a new viewer.
use Rattle.std.proofs.Common.{◌≡◌, ℕ, zero, suc, ◌+◌, ◌-◌, ◌<◌, ◌≤◌, List, [], ◌∷◌, ◌++◌, length, map, take, get_or, refl, ap, sym, ◌∙◌, subst, arith, length-append, append_assoc}
use Rattle.std.specs.Prelude.{Bool, true, false, nat_lt, Option, if◌then◌else◌}
use Rattle.std.proofs.lemmas.Bool.Decides.{nat_tests}
use Rattle.draw_ops.specs.Slots.{lookup}
use Rattle.caps_sets.specs.declared.cache_size.CacheSize.{CacheSize}
use Rattle.caps_sets.specs.declared.confirmed.Confirmed.{Confirmed}
use Rattle.caps_sets.specs.Confirmed.{cache_size}
use Rattle.cache_plan.specs.Kept.{Kept}
use Rattle.frame_rules.specs.Support.{used_bitmap_entries, used_glyph_entries}
use Rattle.frame_rules.specs.FrameOrders.{entries_of}
use Rattle.viewer_sender.specs.Stands.{CacheStands, CachesStand, AreNew}

pub one_more : (os : List (Option Kept)) (ns : List ℕ) (o : Option Kept) (n : ℕ) → AreNew os ns → CacheStands o n [] → AreNew (os ++ o ∷ []) (ns ++ n ∷ [])
one_more [] [] o n h k = (k, tt)
one_more [] (m ∷ ns) o n h k = absurd h
one_more (p ∷ os) [] o n h k = absurd h
one_more (p ∷ os) (m ∷ ns) o n h k = (h.0, one_more os ns o n h.1 k)

pub as_many : (os : List (Option Kept)) (ns : List ℕ) → AreNew os ns → length os ≡ length ns
as_many [] [] h = refl
as_many [] (n ∷ ns) h = absurd h
as_many (o ∷ os) [] h = absurd h
as_many (o ∷ os) (n ∷ ns) h = ap suc (as_many os ns h.1)

pub map_taken : {A B : Type 0} (f : A → B) (xs : List A) (i : ℕ) (d : A) → i < length xs → map f (take (i + 1) xs) ≡ map f (take i xs) ++ f (get_or xs i d) ∷ []
map_taken {A} {B} f xs i d h = let same : i + 1 ≡ suc i = omega arith in ap (λ n. map f (take n xs)) same ∙ by xs i h
  where
    by : (xs : List A) (i : ℕ) → i < length xs → map f (take (suc i) xs) ≡ map f (take i xs) ++ f (get_or xs i d) ∷ []
    by [] i h = absurd (omega (arith, h))
    by (x ∷ xs) zero h = refl
    by (x ∷ xs) (suc i) h = ap (λ ys. f x ∷ ys) (by xs i (omega (arith, h)))

-- ---- by their numbers

new_at : (os : List (Option Kept)) (ns : List ℕ) (k : ℕ) → AreNew os ns → k < length ns → CacheStands (lookup k os) (get_or ns k 0) []
new_at [] [] k h below = absurd (omega (arith, below))
new_at [] (n ∷ ns) k h below = absurd h
new_at (o ∷ os) [] k h below = absurd h
new_at (o ∷ os) (n ∷ ns) zero h below = h.0
new_at (o ∷ os) (n ∷ ns) (suc k) h below = new_at os ns k h.1 (omega (arith, below))

mapped_at : (f : CacheSize → ℕ) (sizes : List CacheSize) (rest : List ℕ) (k : ℕ) → k < length sizes → get_or (map f sizes ++ rest) k 0 ≡ f (cache_size sizes k)
mapped_at f [] rest k h = absurd (omega (arith, h))
mapped_at f (s ∷ ss) rest zero h = refl
mapped_at f (s ∷ ss) rest (suc k) h = mapped_at f ss rest k (omega (arith, h))

behind : (f : CacheSize → ℕ) (sizes : List CacheSize) (rest : List ℕ) (k : ℕ) → length sizes ≤ k → get_or (map f sizes ++ rest) k 0 ≡ get_or rest (k - length sizes) 0
behind f [] rest k h = let same : k - 0 ≡ k = omega arith in ap (λ n. get_or rest n 0) (sym same)
behind f (s ∷ ss) rest zero h = absurd (omega (arith, h))
behind f (s ∷ ss) rest (suc k) h = let same : suc k - suc (length ss) ≡ k - length ss = omega arith in behind f ss rest k (omega (arith, h)) ∙ ap (λ n. get_or rest n 0) (sym same)

length-mapped : {A : Type 0} (f : A → ℕ) (xs : List A) → length (map f xs) ≡ length xs
length-mapped f [] = refl
length-mapped f (x ∷ xs) = ap suc (length-mapped f xs)

abbrev pub all_entries : Confirmed → List ℕ
all_entries c = map used_bitmap_entries c.bitmaps ++ map used_glyph_entries c.glyphs ++ 64 ∷ []

module _ (c : Confirmed) (three : length c.bitmaps ≡ 3) (ten : length c.glyphs ≡ 10) where
  pub fourteen : length (all_entries c) ≡ 14
  fourteen =
      let a = length-mapped used_bitmap_entries c.bitmaps in
      let b = length-mapped used_glyph_entries c.glyphs in
      omega (arith, three, ten, a, b, length-append (map used_bitmap_entries c.bitmaps ++ map used_glyph_entries c.glyphs) (64 ∷ []), length-append (map used_bitmap_entries c.bitmaps) (map used_glyph_entries c.glyphs))

  grouped : all_entries c ≡ map used_bitmap_entries c.bitmaps ++ (map used_glyph_entries c.glyphs ++ 64 ∷ [])
  grouped = append_assoc (map used_bitmap_entries c.bitmaps) (map used_glyph_entries c.glyphs) (64 ∷ [])

  entry_is : (k : ℕ) → k < 14 → get_or (all_entries c) k 0 ≡ entries_of c k
  entry_is k below = ap (λ ns. get_or ns k 0) grouped ∙ by (nat_lt k 3) refl (nat_lt k 13) refl
    where
      by : (a : Bool) → nat_lt k 3 ≡ a → (b : Bool) → nat_lt k 13 ≡ b
          → get_or (map used_bitmap_entries c.bitmaps ++ (map used_glyph_entries c.glyphs ++ 64 ∷ [])) k 0 ≡ entries_of c k
      by true e b f =
          let few : k < 3 = grind (arith, nat_tests, e) in
          mapped_at used_bitmap_entries c.bitmaps (map used_glyph_entries c.glyphs ++ 64 ∷ []) k (omega (arith, few, three))
          ∙ sym (ap (λ t. if t then used_bitmap_entries (cache_size c.bitmaps k) else (if nat_lt k 13 then used_glyph_entries (cache_size c.glyphs (k - 3)) else 64)) e)
      by false e true f =
          let many : 3 ≤ k = grind (arith, nat_tests, e) in
          let few : k < 13 = grind (arith, nat_tests, f) in
          let same : k - length c.bitmaps ≡ k - 3 = omega (arith, three) in
          behind used_bitmap_entries c.bitmaps (map used_glyph_entries c.glyphs ++ 64 ∷ []) k (omega (arith, many, three))
          ∙ (ap (λ n. get_or (map used_glyph_entries c.glyphs ++ 64 ∷ []) n 0) same
          ∙ (mapped_at used_glyph_entries c.glyphs (64 ∷ []) (k - 3) (omega (arith, many, few, ten))
          ∙ sym (ap (λ t. if t then used_bitmap_entries (cache_size c.bitmaps k) else (if nat_lt k 13 then used_glyph_entries (cache_size c.glyphs (k - 3)) else 64)) e
          ∙ ap (λ t. if t then used_glyph_entries (cache_size c.glyphs (k - 3)) else 64) f)))
      by false e false f =
          let many : 13 ≤ k = grind (arith, nat_tests, f) in
          let last : k - length c.bitmaps - length c.glyphs ≡ 0 = omega (arith, three, ten, below, many) in
          behind used_bitmap_entries c.bitmaps (map used_glyph_entries c.glyphs ++ 64 ∷ []) k (omega (arith, many, three))
          ∙ (behind used_glyph_entries c.glyphs (64 ∷ []) (k - length c.bitmaps) (omega (arith, many, three, ten))
          ∙ (ap (λ n. get_or (64 ∷ []) n 0) last
          ∙ sym (ap (λ t. if t then used_bitmap_entries (cache_size c.bitmaps k) else (if nat_lt k 13 then used_glyph_entries (cache_size c.glyphs (k - 3)) else 64)) e
          ∙ ap (λ t. if t then used_glyph_entries (cache_size c.glyphs (k - 3)) else 64) f)))

  pub new_caches_stand : (os : List (Option Kept)) → AreNew os (all_entries c) → CachesStand c os []
  new_caches_stand os h k below = subst (λ n. CacheStands (lookup k os) n []) (entry_is k below) (new_at os (all_entries c) k h (let n = fourteen in omega (arith, n, below)))
