-- A save that is sent keeps the agreement: the client's block is the session's, and no held block is touched.
use Rattle.std.proofs.Common.{◌≡◌, ℕ, ◌+◌, List, [], ◌∷◌, refl, ap, sym, ◌∙◌, arith, Some, ◌<◌, ◌≤◌}
use Rattle.std.specs.Prelude.{Option, None, Bool, true, false, ◌&&◌, ◌==◌, nat_le, min, max, ◌||◌}
use Rattle.std.proofs.lemmas.Bool.{and_parts}
use Rattle.std.proofs.lemmas.Bool.Decides.{nat_tests}
use Rattle.order_means.specs.ClientState.{Block, are_apart, kept_block, apart_from, chosen_block, block_at}
use Rattle.frame_rules.specs.Blocks.{Place, Held, positions_of, end_of, is_apart, has_room, lesser, lesser_if, least_end, least_free, place_of}

-- ---- the least free position is free

min_keeps : (t : ℕ → Bool) (a b : ℕ) → t a ≡ true → t b ≡ true → t (min a b) ≡ true
min_keeps t a b h k = by (nat_le a b) refl
  where
    by : (s : Bool) → nat_le a b ≡ s → t (min a b) ≡ true
    by true e = let same : min a b ≡ a = grind (arith, nat_tests, e) in ap t same ∙ h
    by false e = let same : min a b ≡ b = grind (arith, nat_tests, e) in ap t same ∙ k

some_is : (a b : ℕ) → Some a ≡ Some b → a ≡ b
some_is a b h = cc

lesser_passes : (t : ℕ → Bool) (n : ℕ) (o : Option ℕ) (p : ℕ) → t n ≡ true → ((q : ℕ) → o ≡ Some q → t q ≡ true) → lesser n o ≡ Some p → t p ≡ true
lesser_passes t n None p h rest e = ap t (sym (some_is n p e)) ∙ h
lesser_passes t n (Some q) p h rest e = ap t (sym (some_is (min n q) p e)) ∙ min_keeps t n q h (rest q refl)

lesser_if_passes : (t : ℕ → Bool) (b : Bool) (n : ℕ) (o : Option ℕ) (p : ℕ) → t n ≡ b → ((q : ℕ) → o ≡ Some q → t q ≡ true) → lesser_if b n o ≡ Some p → t p ≡ true
lesser_if_passes t true n o p h rest e = lesser_passes t n o p h rest e
lesser_if_passes t false n o p h rest e = rest p e

least_end_passes : (n : ℕ) (held ends : Held) (p : ℕ) → least_end n held ends ≡ Some p → has_room n held p ≡ true
least_end_passes n held [] p h = absurd (cc h)
least_end_passes n held (b ∷ bs) p h = lesser_if_passes (has_room n held) (has_room n held (end_of b.1)) (end_of b.1) (least_end n held bs) p refl (λ q e. least_end_passes n held bs q e) h

pub least_free-room : (n : ℕ) (held : Held) (p : ℕ) → least_free n held ≡ Some p → has_room n held p ≡ true
least_free-room n held p h = lesser_if_passes (has_room n held) (has_room n held 0) 0 (least_end n held held) p refl (λ q e. least_end_passes n held held q e) h

pub room_fits : (n : ℕ) (held : Held) (p : ℕ) → has_room n held p ≡ true → nat_le (p + n) 57600 ≡ true
room_fits n [] p h = h
room_fits n (b ∷ bs) p h = room_fits n bs p (and_parts (is_apart p n b.1) (has_room n bs p) h).1

room_apart : (n : ℕ) (held : Held) (p k : ℕ) (place : Place) → has_room n held p ≡ true → place_of k held ≡ Some place → is_apart p n place ≡ true
room_apart n [] p k place h e = absurd (cc e)
room_apart n (b ∷ bs) p k place h e = by (b.0 == k) refl (room_apart n bs p k place (and_parts (is_apart p n b.1) (has_room n bs p) h).1)
  where
    by : (s : Bool) → (b.0 == k) ≡ s → (place_of k bs ≡ Some place → is_apart p n place ≡ true) → is_apart p n place ≡ true
    by true f rest = let same : b.1 ≡ place = cc (rw f at e) in ap (is_apart p n) (sym same) ∙ (and_parts (is_apart p n b.1) (has_room n bs p) h).0
    by false f rest = rest (rw f at e)

-- two stretches that aren't empty and have nothing in common: one ends before the other begins
stretches_apart : (from n position m : ℕ) → 0 < n → 0 < m → min (from + n) (position + m) ≤ max from position → (nat_le (from + n) position || nat_le (position + m) from) ≡ true
stretches_apart from n position m some more h = by (nat_le (from + n) position) (nat_le (position + m) from) refl refl
  where
    by : (s t : Bool) → nat_le (from + n) position ≡ s → nat_le (position + m) from ≡ t → (nat_le (from + n) position || nat_le (position + m) from) ≡ true
    by true t e f = ap (λ b. b || nat_le (position + m) from) e
    by false true e f = ap (λ b. b || nat_le (position + m) from) e ∙ f
    by false false e f =
        let a : position < from + n = grind (arith, nat_tests, e) in
        let b : from < position + m = grind (arith, nat_tests, f) in
        absurd (omega (arith, h))

pub free_apart : (n : ℕ) (held : Held) (p k : ℕ) (place : Place) → 0 < n → 0 < positions_of place.w place.h → has_room n held p ≡ true → place_of k held ≡ Some place
    → (nat_le (p + n) place.position || nat_le (end_of place) p) ≡ true
free_apart n held p k place some more h e =
    let t = room_apart n held p k place h e in
    let common : min (p + n) (end_of place) ≤ max p place.position = grind (arith, nat_tests, t) in
    stretches_apart p n place.position (positions_of place.w place.h) some more common

-- ---- the client's blocks

is_at : Block → ℕ → ℕ → ℕ → Bool
is_at b position w h = (b.position == position) && ((b.w == w) && (b.h == h))

found_is : (x b : Block) → Some x ≡ Some b → x ≡ b
found_is x b h = cc

blocks_step : (new b x : Block) (bs : List Block) (here keep : Bool) → is_at x b.position b.w b.h ≡ here → are_apart new x ≡ keep → are_apart new b ≡ true
    → chosen_block here x (block_at b.position b.w b.h bs) ≡ Some b → (block_at b.position b.w b.h bs ≡ Some b → block_at b.position b.w b.h (apart_from new bs) ≡ Some b)
    → block_at b.position b.w b.h (kept_block keep x (apart_from new bs)) ≡ Some b
unfolding is_at
blocks_step new b x bs true true at apart other h more = ap (λ s. chosen_block s x (block_at b.position b.w b.h (apart_from new bs))) at ∙ h
blocks_step new b x bs true false at apart other h more = absurd (cc (sym apart ∙ ap (are_apart new) (found_is x b h) ∙ other))
blocks_step new b x bs false true at apart other h more = ap (λ s. chosen_block s x (block_at b.position b.w b.h (apart_from new bs))) at ∙ more h
blocks_step new b x bs false false at apart other h more = more h

-- a block that shares no position with a new one is kept
pub blocks_kept : (new b : Block) (bs : List Block) → block_at b.position b.w b.h bs ≡ Some b → are_apart new b ≡ true → block_at b.position b.w b.h (apart_from new bs) ≡ Some b
unfolding is_at
blocks_kept new b [] h apart = h
blocks_kept new b (x ∷ bs) h apart =
    blocks_step new b x bs (is_at x b.position b.w b.h) (are_apart new x) refl refl apart h (λ e. blocks_kept new b bs e apart)
