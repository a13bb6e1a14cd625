-- The update that is begun: its room, its orders, and the order behind them.
use Rattle.std.proofs.Common.{◌≡◌, ℕ, zero, suc, ◌+◌, ◌<◌, ◌≤◌, List, [], ◌∷◌, ◌++◌, length, take, drop, refl, ap, sym, ◌∙◌, arith, length-drop}
use Rattle.std.specs.Prelude.{Bool, true, false, ◌&&◌, ◌==◌, not}
use Rattle.std.proofs.lemmas.Bool.Decides.{nat_tests}
use Rattle.std.proofs.lemmas.List.{length-take-le, take_at, drop_at, take_all, drop-drop, take-append-drop}
use borrow.Rule.Slice.PartMut.{put_mid, post_of}
use Rattle.order_means.specs.UpdateBodies.{orders_size}
use Rattle.frame_rules.specs.FrameBytes.{joins_update}
use Rattle.viewer_sender.specs.Gathering.{Gathering, gathering, packets_if, packets_of, goes_into, closed, with_order, after_order, after_order_by, orders_in, most_room, IsBegun}

-- ---- how many bytes

-- the room alone is within either limit
room_least : (fast : Bool) → 26 ≤ most_room fast
room_least false = omega arith
room_least true = omega arith

-- the limits of room and orders, and of what is counted of a packet, are the same
pub within_packet : (fast : Bool) (n : ℕ) → 26 + n ≤ most_room fast → orders_size fast n ≤ 16383
within_packet false n h = h
within_packet true n h = omega (arith, h)

pub past_packet : (fast : Bool) (n : ℕ) → most_room fast < 26 + n → 16383 < orders_size fast n
past_packet false n h = h
past_packet true n h = omega (arith, h)

-- an order of an update of its own is within either
pub short_enough : (fast : Bool) (n : ℕ) → n ≤ 16357 → 26 + n ≤ most_room fast
short_enough false n h = omega (arith, h)
short_enough true n h = omega (arith, h)

-- no update is begun
pub begun_none : (fast : Bool) (room : ℕ) → 26 ≤ room → IsBegun fast room 26 0
begun_none fast room h = record { begins = omega arith; there = h; few = room_least fast; each = omega arith; none = λ e. refl }

-- and where none is, the next one may be of either kind
pub begun_of_kind : (old new : Bool) (room end count : ℕ) → IsBegun old room end count → count ≡ 0 → IsBegun new room end count
begun_of_kind old new room end count b none =
    let is = b.none none in
    let least = room_least new in
    record { begins = b.begins; there = b.there; few = omega (arith, is, least); each = b.each; none = b.none }

-- an order joined the update
pub begun_more : (fast : Bool) (room end count more : ℕ) → IsBegun fast room end count → end + more ≡ room → 1 ≤ more → room ≤ most_room fast → IsBegun fast room room (count + 1)
begun_more fast room end count more b e some few =
    let a = b.begins in
    let d = b.each in
    record { begins = omega (arith, a, e); there = omega arith; few = few; each = omega (arith, d, e, some); none = λ z. absurd (omega (arith, z)) }

-- user data are the room, the orders of the update and what stands behind them
pub length-user : (user : List ℕ) (end : ℕ) → 26 ≤ end → end ≤ length user → 26 + (length (orders_in user end) + length (drop end user)) ≡ length user
length-user user end a b =
    let t = length-take-le end user b in
    let d = length-drop 26 (take end user) in
    let r = length-drop end user in
    omega (arith, t, d, r, a, b)

-- nothing stands behind the whole, and the orders are all that stands behind the room
pub nothing_behind : (user : List ℕ) → drop (length user) user ≡ []
nothing_behind [] = refl
nothing_behind (x ∷ xs) = nothing_behind xs

-- the orders with what stands behind them
pub orders_joined : (user : List ℕ) (end : ℕ) → 26 ≤ end → orders_in user end ++ drop end user ≡ orders_in user (length user)
orders_joined user end a =
    let whole : take (length user) user ≡ user = take_all (length user) user (omega arith) in
    joined 26 end user a ∙ ap (drop 26) (sym whole)
  where
    joined : (n end : ℕ) (xs : List ℕ) → n ≤ end → drop n (take end xs) ++ drop end xs ≡ drop n xs
    joined zero end xs h = take-append-drop end xs
    joined (suc n) zero xs h = absurd (omega (arith, h))
    joined (suc n) (suc end) [] h = refl
    joined (suc n) (suc end) (x ∷ xs) h = joined n end xs (omega (arith, h))

-- ---- an order behind an update

-- behind an update's bytes stands what was put there
pub tail_is : (user order : List ℕ) (end : ℕ) → end ≤ length user → drop end (take end user ++ order) ≡ order
tail_is user order end h = drop_at (take end user) order end (length-take-le end user h)

-- and the update's orders are those that they were
pub begun_is : (user order : List ℕ) (end : ℕ) → end ≤ length user → orders_in (take end user ++ order) end ≡ orders_in user end
begun_is user order end h = ap (drop 26) (take_at (take end user) order end (length-take-le end user h))

-- ---- whether an order joins

module _ (g : Gathering) (order : List ℕ) where
  pub joins : ((g.count == 0) ≡ true → g.begun ≡ []) → orders_size g.fast (length g.begun + length order) ≤ 16383 → with_order g order ≡ after_order g order
  joins none few = by (g.count == 0) refl
    where
      fits : joins_update g.fast (length g.begun) (length order) ≡ true
      fits = grind (arith, nat_tests, few)

      by : (b : Bool) → (g.count == 0) ≡ b → with_order g order ≡ after_order g order
      by true e =
          let goes : goes_into g order ≡ false = ap (λ t. not t && joins_update g.fast (length g.begun) (length order)) e in
          let zero_ : g.count ≡ 0 = grind (arith, nat_tests, e) in
          let packets : packets_of g ≡ g.packets = ap (λ t. packets_if t g.fast g.packets g.begun g.count) e in
          ap (λ bs. gathering g.fast g.packets (bs ++ order) (g.count + 1) []) (none e)
          ∙ (ap (λ n. gathering g.fast g.packets order (n + 1) []) zero_
          ∙ (ap (λ ps. gathering g.fast ps order 1 []) (sym packets) ∙ ap (λ t. after_order_by t g order) (sym goes)))
      by false e =
          let goes : goes_into g order ≡ true = ap (λ t. not t && joins_update g.fast (length g.begun) (length order)) e ∙ fits in
          ap (λ t. after_order_by t g order) (sym goes)

  pub begins : 16383 < orders_size g.fast (length g.begun + length order) → with_order (closed g) order ≡ after_order g order
  begins many =
      let over : joins_update g.fast (length g.begun) (length order) ≡ false = grind (arith, nat_tests, many) in
      let goes : goes_into g order ≡ false = ap (λ t. not (g.count == 0) && t) over ∙ never (not (g.count == 0)) in
      ap (λ t. after_order_by t g order) (sym goes)
    where
      never : (b : Bool) → (b && false) ≡ false
      never true = refl
      never false = refl

-- ---- user data that are cut, and filled

-- the room of user data that are cut to it
pub room_left : (user now : List ℕ) → now ≡ take 26 user → 26 ≤ length user → 26 ≤ length now
room_left user now e h = let n = length-take-le 26 user h in let m = ap length e in omega (arith, n, m)

-- the bytes before the orders are put where they belong
pub head_put : (user head : List ℕ) → 26 ≤ length user → length head ≡ 8 → drop 18 (put_mid 18 8 user head) ≡ head ++ drop 26 user
head_put user head h n = drop_at (take 18 user) (head ++ post_of 18 8 user) 18 (length-take-le 18 user (omega (arith, h))) ∙ ap (λ t. head ++ t) (drop-drop 8 18 user)

pub count_put : (user count : List ℕ) → 26 ≤ length user → length count ≡ 2 → drop 24 (put_mid 24 2 user count) ≡ count ++ drop 26 user
count_put user count h n = drop_at (take 24 user) (count ++ post_of 24 2 user) 24 (length-take-le 24 user (omega (arith, h))) ∙ ap (λ t. count ++ t) (drop-drop 2 24 user)

-- what stands between a place and itself
pub drop-take-all : (n : ℕ) (xs : List ℕ) → drop n (take n xs) ≡ []
drop-take-all zero xs = refl
drop-take-all (suc n) [] = refl
drop-take-all (suc n) (x ∷ xs) = drop-take-all n xs

-- an update without orders has none
pub none_begun : (fast : Bool) (user : List ℕ) (end count : ℕ) → IsBegun fast (length user) end count → (count == 0) ≡ true → orders_in user end ≡ []
none_begun fast user end count b e =
    let zero_ : count ≡ 0 = grind (arith, nat_tests, e) in
    ap (orders_in user) (b.none zero_) ∙ drop-take-all 26 user
