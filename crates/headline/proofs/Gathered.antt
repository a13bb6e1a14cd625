-- Orders are gathered as far as they fit.
use Rattle.std.proofs.Common.{◌≡◌, ℕ, ◌+◌, ◌<◌, ◌≤◌, List, [], ◌∷◌, length, refl, ap, ◌∙◌, subst, arith}
use Rattle.std.specs.Prelude.{Bool, true, false, nat_le, if◌then◌else◌}
use Rattle.std.proofs.lemmas.Bool.Decides.{nat_tests}
use Rattle.px_core.specs.Rectangle.{is_session_size}
use Rattle.session_rules.specs.declared.entry.Entry.{Entry}
use Rattle.session_rules.specs.Journal.{Head, IsLegalJournal}
use Rattle.session_rules.specs.Steps.{TakeOf}
use Rattle.session_rules.proofs.Fitting.{sides_of}
use Rattle.order_means.specs.ClientState.{ClientState}
use Rattle.caps_sets.specs.declared.confirmed.Confirmed.{Confirmed}
use Rattle.caps_sets.specs.Confirmed.{takes_fast}
use Rattle.order_fields.specs.OrderTable.{Registers}
use Rattle.order_means.specs.UpdateBodies.{orders_size}
use Rattle.frame_rules.specs.FrameOrders.{SentOrder, orders_before_tiles}
use Rattle.frame_rules.specs.FrameBytes.{bytes_of_order, bytes_of_orders, registers_after_order, most_counted, joins_update, onto_update, gathered_after, gathered}
use Rattle.frame_rules.specs.FrameRead.{AreShort}
use Rattle.frame_rules.specs.Encoder.{Encoder, encoder_frame}
use Rattle.frame_rules.specs.Describes.{DescribesClient, HasAllCaches}
use Rattle.frame_laws.proofs.JournalShown.{sound_take}
use Rattle.headline.specs.Gathering.{bytes_in, FitsUpdate, BeginsAnew, AreGathered, orders_of_updates, EachFits}

-- ---- no order is lost, and none is moved

orders_onto : (order : List ℕ) (updates : List (List (List ℕ))) → orders_of_updates (onto_update order updates) ≡ order ∷ orders_of_updates updates
orders_onto order [] = refl
orders_onto order (update ∷ updates) = refl

orders_after : (fast : Bool) (orders : List (List ℕ)) (used : ℕ) → orders_of_updates (gathered_after fast used orders) ≡ orders
orders_after fast [] used = refl
orders_after fast (o ∷ os) used = by (joins_update fast used (length o)) (λ n. orders_after fast os n)
  where
    by : (b : Bool) → ((n : ℕ) → orders_of_updates (gathered_after fast n os) ≡ os)
        → orders_of_updates (if b then onto_update o (gathered_after fast (used + length o) os) else [] ∷ onto_update o (gathered_after fast (length o) os)) ≡ o ∷ os
    by true rest = orders_onto o (gathered_after fast (used + length o) os) ∙ ap (λ (l : List (List ℕ)). o ∷ l) (rest (used + length o))
    by false rest = orders_onto o (gathered_after fast (length o) os) ∙ ap (λ (l : List (List ℕ)). o ∷ l) (rest (length o))

pub orders_stay : (fast : Bool) (orders : List (List ℕ)) → orders_of_updates (gathered fast orders) ≡ orders
orders_stay fast [] = refl
orders_stay fast (o ∷ os) = orders_onto o (gathered_after fast (length o) os) ∙ ap (λ (l : List (List ℕ)). o ∷ l) (orders_after fast os (length o))

-- ---- each update is full

fits_still : (fast : Bool) (n : ℕ) → nat_le (orders_size fast n) most_counted ≡ true → FitsUpdate fast n
fits_still false n e = grind (arith, nat_tests, e)
fits_still true n e = grind (arith, nat_tests, e)

fits_no_more : (fast : Bool) (n : ℕ) → nat_le (orders_size fast n) most_counted ≡ false → most_counted < orders_size fast n
fits_no_more false n e = grind (arith, nat_tests, e)
fits_no_more true n e = grind (arith, nat_tests, e)

short_fits : (fast : Bool) (n : ℕ) → n ≤ 16357 → FitsUpdate fast n
short_fits false n h = omega (arith, h)
short_fits true n h = omega (arith, h)

module _ (fast : Bool) where
  -- updates, where the first one has so many bytes of orders before these
  abbrev AreGatheredAfter : ℕ → List (List (List ℕ)) → Type 0
  AreGatheredAfter used [] = ⊥
  AreGatheredAfter used (update ∷ []) = FitsUpdate fast (used + bytes_in update)
  AreGatheredAfter used (update ∷ next ∷ more) = FitsUpdate fast (used + bytes_in update) × BeginsAnew fast (used + bytes_in update) next × AreGathered fast (next ∷ more)

  from_nothing : (updates : List (List (List ℕ))) → AreGatheredAfter 0 updates → AreGathered fast updates
  from_nothing [] h = tt
  from_nothing (u ∷ []) h =
      let same : 0 + bytes_in u ≡ bytes_in u = omega arith in
      subst (FitsUpdate fast) same h
  from_nothing (u ∷ v ∷ more) h =
      let same : 0 + bytes_in u ≡ bytes_in u = omega arith in
      (subst (FitsUpdate fast) same h.0, subst (λ n. BeginsAnew fast n v) same h.1, h.2)

  onto_first : (o : List ℕ) (updates : List (List (List ℕ))) (used : ℕ) → AreGatheredAfter (used + length o) updates
      → AreGatheredAfter used (onto_update o updates)
  onto_first o [] used h = absurd h
  onto_first o (u ∷ []) used h =
      let same : used + length o + bytes_in u ≡ used + (length o + bytes_in u) = omega arith in
      subst (FitsUpdate fast) same h
  onto_first o (u ∷ v ∷ more) used h =
      let same : used + length o + bytes_in u ≡ used + (length o + bytes_in u) = omega arith in
      (subst (FitsUpdate fast) same h.0, subst (λ n. BeginsAnew fast n v) same h.1, h.2)

  -- an order that begins an update
  first_order : (o : List ℕ) (updates : List (List (List ℕ))) → AreGatheredAfter (length o) updates → AreGathered fast (onto_update o updates)
  first_order o updates h =
      let same : length o ≡ 0 + length o = omega arith in
      from_nothing (onto_update o updates) (onto_first o updates 0 (subst (λ n. AreGatheredAfter n updates) same h))

  begins : (o : List ℕ) (updates : List (List (List ℕ))) (used : ℕ) → FitsUpdate fast used → most_counted < orders_size fast (used + length o)
      → AreGatheredAfter (length o) updates
      → AreGatheredAfter used ([] ∷ onto_update o updates)
  begins o [] used fits full h = absurd h
  begins o (u ∷ more) used fits full h =
      let none : used ≡ used + 0 = omega arith in
      (subst (FitsUpdate fast) none fits, subst (λ n. most_counted < orders_size fast (n + length o)) none full, first_order o (u ∷ more) h)

  gathered_on : (os : List (List ℕ)) (used : ℕ) → FitsUpdate fast used → EachFits fast os → AreGatheredAfter used (gathered_after fast used os)
  gathered_on [] used fits each = let none : used ≡ used + 0 = omega arith in subst (FitsUpdate fast) none fits
  gathered_on (o ∷ os) used fits each = by (joins_update fast used (length o)) refl (λ n still. gathered_on os n still each.1)
    where
      by : (b : Bool) → joins_update fast used (length o) ≡ b → ((n : ℕ) → FitsUpdate fast n → AreGatheredAfter n (gathered_after fast n os))
          → AreGatheredAfter used (if b then onto_update o (gathered_after fast (used + length o) os) else [] ∷ onto_update o (gathered_after fast (length o) os))
      by true e rest = onto_first o (gathered_after fast (used + length o) os) used (rest (used + length o) (fits_still fast (used + length o) e))
      by false e rest = begins o (gathered_after fast (length o) os) used fits (fits_no_more fast (used + length o) e) (rest (length o) each.0)

  pub gathered_full : (orders : List (List ℕ)) → EachFits fast orders → AreGathered fast (gathered fast orders)
  gathered_full [] each = tt
  gathered_full (o ∷ os) each = first_order o (gathered_after fast (length o) os) (gathered_on os (length o) each.0 each.1)

-- ---- the orders of a frame

each_fits : (c : Confirmed) (regs : Registers) (os : List SentOrder) → AreShort c regs os → EachFits (takes_fast c) (bytes_of_orders c regs os)
each_fits c regs [] h = tt
each_fits c regs (o ∷ os) h = (short_fits (takes_fast c) (length (bytes_of_order c regs o)) h.0, each_fits c (registers_after_order c regs o) os h.1)

pub frame_gathered : (c : Confirmed) (regs : Registers) (os : List SentOrder) → AreShort c regs os
    → AreGathered (takes_fast c) (gathered (takes_fast c) (bytes_of_orders c regs os))
frame_gathered c regs os h = gathered_full (takes_fast c) (bytes_of_orders c regs os) (each_fits c regs os h)

-- of every take
pub take_gathered : (head : Head) (c : Confirmed) (j : List Entry) (e : Encoder) (t : TakeOf) (client : ClientState)
    → is_session_size head.size.w head.size.h ≡ true → HasAllCaches c → IsLegalJournal head j → t.before ≤ t.number
    → DescribesClient head.size c j t.before e client
    → AreGathered (takes_fast c) (gathered (takes_fast c) (bytes_of_orders c e.registers (orders_before_tiles head.size c e.uses (encoder_frame head.size c j e t))))
take_gathered head c j e t client sized all legal up old =
    frame_gathered c e.registers (orders_before_tiles head.size c e.uses (encoder_frame head.size c j e t))
    (sound_take head c j sized all legal e t client (sides_of head.size.w head.size.h sized) up old).short
