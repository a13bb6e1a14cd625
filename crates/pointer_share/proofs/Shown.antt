-- Each take shows its pointer.
use Rattle.std.proofs.Common.{◌≡◌, ℕ, zero, suc, ◌+◌, ◌*◌, ◌/◌, ◌%◌, ◌<◌, ◌^◌, List, [], ◌∷◌, ◌++◌, length, refl, ap, sym, ◌∙◌, subst, arith, Some, None}
use Rattle.std.specs.Prelude.{Bool, true, false, ◌==◌, Option, Ok, is_some, if◌then◌else◌}
use Rattle.std.proofs.lemmas.Bool.Decides.{nat_tests}
use Rattle.wire_num.specs.Field.{bytes_at}
use Rattle.wire_num.proofs.Numbers.{little_back}
use Rattle.wire_num.proofs.Bytes.{taken_back, taken_all}
use Rattle.draw_ops.specs.Slots.{Slots, lookup, filled_slot}
use Rattle.cache_plan.specs.CacheUse.{misses, cache_index}
use Rattle.cache_plan.proofs.Indices.{cache_index_below, index_of_use, held_after_use}
use Rattle.frame_laws.proofs.CacheHeld.{holds_hit, holds_miss}
use Rattle.frame_rules.specs.Pointers.{Shape, Pointer, key_shape, pointer_key, pointer_of_key}
use Rattle.order_means.specs.PointerPackets.{pointer_packet}
use Rattle.frame_rules.specs.Told.{xor_size, message_6, message_7, is_told, message_by_miss, message_of, told_packet}
use Rattle.pointer_share.specs.Messages.{is_entry, is_filled, message_at}
use Rattle.pointer_share.specs.Messages.Message.{Brings, Points}
use Rattle.pointer_share.specs.Views.{View, view_after, view_by}
use Rattle.pointer_share.specs.Shows.{DescribesPointers, view_told, its_view, ShowsPointer}
use Rattle.pointer_share.proofs.Sizes.{xor_long, mask_long, message_short}
use Rattle.pointer_share.proofs.Sent.{view_back}

pub key_tells : (p : Pointer) → p.code < 256 → pointer_of_key (pointer_key p) ≡ p
key_tells p small =
    let high : (256 * p.holder + p.code) / 256 ≡ p.holder = omega (arith, small) in
    let low : (256 * p.holder + p.code) % 256 ≡ p.code = omega (arith, small) in
    rw (high, low) refl

-- ---- the messages are read back

bytes_back : (xs rest : List ℕ) (n : ℕ) → length xs ≡ n → bytes_at n (xs ++ rest) ≡ Ok (xs, rest)
bytes_back xs rest n e = subst (λ k. bytes_at k (xs ++ rest) ≡ Ok (xs, rest)) e (taken_back (xs ++ rest) xs rest)

last_back : (xs : List ℕ) (n : ℕ) → length xs ≡ n → bytes_at n xs ≡ Ok (xs, [])
last_back xs n e = subst (λ k. bytes_at k xs ≡ Ok (xs, [])) e (taken_all xs xs)

brings_back : (wide : Bool) (cells : Slots Shape) (index : ℕ) (s : Shape) → index < 65536 → length s.xor ≡ xor_size wide → length s.mask ≡ 16 → is_entry cells index ≡ true
    → message_at wide cells (message_6 wide index s) ≡ Ok (Brings index s, [])
brings_back true cells index s below xor mask inside =
    let small : index < 256 ^ 2 = omega (arith, below) in
    let colors = bytes_back s.xor s.mask 384 xor in
    let masks = last_back s.mask 16 mask in
    rw (little_back 2 index small, inside, colors, masks) refl
brings_back false cells index s below xor mask inside =
    let small : index < 256 ^ 2 = omega (arith, below) in
    let colors = bytes_back s.xor s.mask 192 xor in
    let masks = last_back s.mask 16 mask in
    rw (little_back 2 index small, inside, colors, masks) refl

points_back : (wide : Bool) (cells : Slots Shape) (index : ℕ) → index < 65536 → is_filled cells index ≡ true → message_at wide cells (message_7 index) ≡ Ok (Points index, [])
points_back wide cells index below filled =
    let small : index < 256 ^ 2 = omega (arith, below) in
    rw (little_back 2 index small, filled) refl

-- ---- one take

length-filled : {A : Type 0} (slots : Slots A) (i : ℕ) (x : A) → length (filled_slot i x slots) ≡ length slots
length-filled [] i x = refl
length-filled (y ∷ ys) zero x = refl
length-filled (y ∷ ys) (suc i) x = ap suc (length-filled ys i x)

same_key : (a b : ℕ) → (a == b) ≡ true → a ≡ b
same_key a b h = grind (arith, nat_tests, h)

module _ (wide : Bool) (cells : ℕ) (some : 0 < cells) (few : cells < 65536) (key : ℕ) (v : View) where
  abbrev index : List ℕ → ℕ
  index keys = cache_index cells keys key

  index_small : (keys : List ℕ) → index keys < 65536
  index_small keys = let below = cache_index_below cells keys key some in omega (arith, below, few)

  index_test : (keys : List ℕ) → length v.cells ≡ cells → is_entry v.cells (index keys) ≡ true
  index_test keys all = let below = cache_index_below cells keys key some in grind (arith, nat_tests, below, all)

  -- a message that is read comes in its packet
  packet_read : (keys : List ℕ) (after : View) → is_told keys key ≡ false → view_after wide v (message_of wide cells keys key) ≡ Ok after → view_told wide v (told_packet wide cells keys key) ≡ Ok after
  packet_read keys after new e =
      ap (λ b. view_told wide v (if b then None else Some (pointer_packet (message_of wide cells keys key)))) new
      ∙ ap its_view (view_back wide v after (message_of wide cells keys key) (message_short wide cells key keys) e)

  -- a shape that is brought
  brought : (keys : List ℕ) → DescribesPointers wide cells keys v → misses cells keys key ≡ true → is_told keys key ≡ false → ShowsPointer wide cells keys key v
  brought keys d miss new =
      let inside : index keys < length v.cells = let below = cache_index_below cells keys key some in let all = d.entries in omega (arith, below, all) in
      let after : View = record { cells = filled_slot (index keys) (key_shape wide key) v.cells; shown = Some (key_shape wide key) } in
      record {
        after = after;
        reads = packet_read keys after new (ap (λ b. view_after wide v (message_by_miss wide b (index keys) (key_shape wide key))) miss
            ∙ ap (view_by v (message_6 wide (index keys) (key_shape wide key))) (brings_back wide v.cells (index keys) (key_shape wide key) (index_small keys) (xor_long wide key) (mask_long wide key) (index_test keys d.entries)));
        shows = refl;
        describes = subst (λ ks. DescribesPointers wide cells ks after) (sym (ap (λ b. if b then keys else key ∷ keys) new)) (record {
          entries = length-filled v.cells (index keys) (key_shape wide key) ∙ d.entries;
          holds = holds_miss (key_shape wide) (λ k. Some k) cells keys v.cells key key refl some inside d.holds;
          last = refl;
        });
      }

  -- a shape that is held
  pointed : (keys : List ℕ) → DescribesPointers wide cells keys v → misses cells keys key ≡ false → is_told keys key ≡ false → ShowsPointer wide cells keys key v
  pointed keys d hit new =
      let all = holds_hit (key_shape wide) (λ k. Some k) cells keys v.cells key hit d.holds in
      let own = all key (held_after_use cells keys key some) in
      let same : own.0 ≡ key = cc (sym own.1) in
      let there : lookup (index keys) v.cells ≡ Some (key_shape wide key) = ap (λ i. lookup i v.cells) (index_of_use cells keys key) ∙ own.2 ∙ ap (λ k. Some (key_shape wide k)) same in
      let after : View = record v { shown = Some (key_shape wide key) } in
      record {
        after = after;
        reads = packet_read keys after new (ap (λ b. view_after wide v (message_by_miss wide b (index keys) (key_shape wide key))) hit
            ∙ ap (view_by v (message_7 (index keys))) (points_back wide v.cells (index keys) (index_small keys) (ap is_some there))
            ∙ ap (λ (o : Option Shape). Ok (record v { shown = o })) there);
        shows = refl;
        describes = subst (λ ks. DescribesPointers wide cells ks after) (sym (ap (λ b. if b then keys else key ∷ keys) new)) (record { entries = d.entries; holds = all; last = refl });
      }

  -- the pointer that was told last
  kept : (keys : List ℕ) → DescribesPointers wide cells keys v → is_told keys key ≡ true → ShowsPointer wide cells keys key v
  kept [] d told = absurd (cc told)
  kept (k ∷ keys) d told = record {
    after = v;
    reads = ap (λ b. view_told wide v (if b then None else Some (pointer_packet (message_of wide cells (k ∷ keys) key)))) told;
    shows = d.last ∙ ap (λ n. Some (key_shape wide n)) (same_key k key told);
    describes = subst (λ ks. DescribesPointers wide cells ks v) (sym (ap (λ b. if b then k ∷ keys else key ∷ k ∷ keys) told)) d;
  }

  pub take_points : (keys : List ℕ) → DescribesPointers wide cells keys v → ShowsPointer wide cells keys key v
  take_points keys d = by (is_told keys key) (misses cells keys key) refl refl
    where
      by : (t m : Bool) → is_told keys key ≡ t → misses cells keys key ≡ m → ShowsPointer wide cells keys key v
      by true m told e = kept keys d told
      by false true new e = brought keys d e new
      by false false new e = pointed keys d e new
