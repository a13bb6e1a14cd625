-- A Send Data Indication is read as the fields of its table.
use Rattle.std.proofs.Common.{◌≡◌, ℕ, ◌-◌, Bool, true, false, List, [], ◌∷◌, ◌++◌, length, drop, refl, ap, sym, ◌∙◌, arith, append_assoc, length-append}
use Rattle.std.specs.Prelude.{Ok, Err, ◌==◌, slice_index, if◌then◌else◌}
use Rattle.std.proofs.lemmas.Bool.Decides.{nat_tests}
use Rattle.wire_num.specs.Field.{Read, then_read, map_read, kept, wanted}
use Rattle.wire_num.specs.Length.{per_len_at}
use Rattle.wire_num.specs.Layout.{Layout, Bytes, Body, Packed, exactly_at, fields_at}
use Rattle.wire_num.proofs.ReadIsText.{wanted_ok, count_ok}
use Rattle.tpkt_x224.specs.Data.{data_header}
use Rattle.share_pdu.specs.Share.{Within, share_at}
use Rattle.share_pdu.specs.Packet.{counted_share, indication_at}
use Rattle.order_means.specs.Indication.{indication_layout}

-- ---- what is read of the last bytes of a whole

-- these are the last bytes of a whole
pub record Ends (whole bs : List ℕ) : Type 0 where
  pub front : List ℕ
  pub joined : whole ≡ front ++ bs

behind : (whole xs bs : List ℕ) (ws : List ℕ) → Ends whole xs → xs ≡ ws ++ bs → Ends whole bs
behind whole xs bs ws ends e = record {
  front = ends.front ++ ws;
  joined = ends.joined ∙ ap (λ ys. ends.front ++ ys) e ∙ sym (append_assoc ends.front ws bs);
}

last_bytes : (whole bs : List ℕ) (n : ℕ) → Ends whole bs → length bs ≡ n → drop (length whole - n) whole ≡ bs
last_bytes whole bs n ends e =
    let place : length whole - n ≡ length ends.front = omega (arith, e, ap length ends.joined, length-append ends.front bs) in
    ap (λ k. drop k whole) place ∙ ap (drop (length ends.front)) ends.joined ∙ drop_front ends.front bs
  where
    drop_front : (xs ys : List ℕ) → drop (length xs) (xs ++ ys) ≡ ys
    drop_front [] ys = refl
    drop_front (x ∷ xs) ys = drop_front xs ys

-- what is read behind certain bytes, in two ways
wanted_then : {A B : Type 0} (whole bs ws : List ℕ) (f : List ℕ → Read A) (g : List ℕ → Read B) (k : B → List ℕ → Read A) → Ends whole bs
    → ((rest : List ℕ) → Ends whole rest → f rest ≡ then_read (g rest) k)
    → then_read (wanted ws bs) (λ _ rest. f rest) ≡ then_read (then_read (wanted ws bs) (λ _ rest. g rest)) k
wanted_then {A = A} {B = B} whole bs ws f g k ends h = by (wanted ws bs) refl
  where
    by : (r : Read (List ℕ)) → wanted ws bs ≡ r → then_read r (λ _ rest. f rest) ≡ then_read (then_read r (λ _ rest. g rest)) k
    by (Ok v) e = h v.1 (behind whole bs v.1 ws ends (wanted_ok ws bs v e))
    by (Err left) e = refl

-- ---- the length and the user data

-- the share data PDU is in so many last bytes
abbrev pub share_in : List ℕ → List ℕ → List ℕ → Read Within
share_in whole values rest = share_at (drop (length whole - slice_index values 0) whole)

counted_by : (whole rest : List ℕ) (n : ℕ) (t : Bool) → (length rest == n) ≡ t → Ends whole rest →
    kept t (share_at rest) rest ≡ then_read (map_read (λ (x : List ℕ). n ∷ []) (if t then Ok (rest, []) else Err rest)) (share_in whole)
counted_by whole rest n true e ends =
    let same : length rest ≡ n = grind (arith, nat_tests, e) in
    ap share_at (sym (last_bytes whole rest n ends same))
counted_by whole rest n false e ends = refl

counted_ends : (whole bs rest : List ℕ) (n : ℕ) → Ends whole bs → per_len_at bs ≡ Ok (n, rest) → Ends whole rest
counted_ends whole bs rest n ends e = let c = count_ok Packed bs (n, rest) e in behind whole bs rest c.0 ends c.2

body_is : (whole bs : List ℕ) → Ends whole bs → then_read (per_len_at bs) (λ n rest. counted_share n rest) ≡ then_read (fields_at (Body Packed) bs) (share_in whole)
unfolding exactly_at
body_is whole bs ends = by (per_len_at bs) refl
  where
    by : (r : Read ℕ) → per_len_at bs ≡ r →
        then_read r (λ n rest. counted_share n rest)
        ≡ then_read (then_read r (λ n rest. map_read (λ (x : List ℕ). n ∷ []) (if length rest == n then Ok (rest, []) else Err rest))) (share_in whole)
    by (Ok v) e = counted_by whole v.1 v.0 (length v.1 == v.0) refl (counted_ends whole bs v.1 v.0 ends e)
    by (Err left) e = refl

-- ---- all fields

-- the share data PDU behind each field, and the fields of the table behind each
behind_priority : List ℕ → Read Within
behind_priority bs = then_read (per_len_at bs) (λ n rest. counted_share n rest)

behind_channel : List ℕ → Read Within
behind_channel bs = then_read (wanted (0x70 ∷ []) bs) (λ _ rest. behind_priority rest)

behind_initiator : List ℕ → Read Within
behind_initiator bs = then_read (wanted (3 ∷ 0xEB ∷ []) bs) (λ _ rest. behind_channel rest)

behind_choice : List ℕ → Read Within
behind_choice bs = then_read (wanted (0 ∷ 1 ∷ []) bs) (λ _ rest. behind_initiator rest)

behind_x224 : List ℕ → Read Within
behind_x224 bs = then_read (wanted (0x68 ∷ []) bs) (λ _ rest. behind_choice rest)

after_channel : Layout
after_channel = Bytes (0x70 ∷ []) (Body Packed)

after_initiator : Layout
after_initiator = Bytes (3 ∷ 0xEB ∷ []) after_channel

after_choice : Layout
after_choice = Bytes (0 ∷ 1 ∷ []) after_initiator

after_x224 : Layout
after_x224 = Bytes (0x68 ∷ []) after_choice

channel_is : (whole bs : List ℕ) → Ends whole bs → behind_channel bs ≡ then_read (fields_at after_channel bs) (share_in whole)
unfolding behind_channel behind_priority after_channel
channel_is whole bs ends = wanted_then whole bs (0x70 ∷ []) behind_priority (fields_at (Body Packed)) (share_in whole) ends (body_is whole)

initiator_is : (whole bs : List ℕ) → Ends whole bs → behind_initiator bs ≡ then_read (fields_at after_initiator bs) (share_in whole)
unfolding behind_initiator after_initiator
initiator_is whole bs ends = wanted_then whole bs (3 ∷ 0xEB ∷ []) behind_channel (fields_at after_channel) (share_in whole) ends (channel_is whole)

choice_is : (whole bs : List ℕ) → Ends whole bs → behind_choice bs ≡ then_read (fields_at after_choice bs) (share_in whole)
unfolding behind_choice after_choice
choice_is whole bs ends = wanted_then whole bs (0 ∷ 1 ∷ []) behind_initiator (fields_at after_initiator) (share_in whole) ends (initiator_is whole)

x224_is : (whole bs : List ℕ) → Ends whole bs → behind_x224 bs ≡ then_read (fields_at after_x224 bs) (share_in whole)
unfolding behind_x224 after_x224
x224_is whole bs ends = wanted_then whole bs (0x68 ∷ []) behind_choice (fields_at after_choice) (share_in whole) ends (choice_is whole)

pub indication_is : (bs : List ℕ) → indication_at bs ≡ then_read (fields_at indication_layout bs) (share_in bs)
unfolding behind_x224 behind_choice behind_initiator behind_channel behind_priority after_x224 after_choice after_initiator after_channel
indication_is bs = wanted_then bs bs data_header behind_x224 (fields_at after_x224) (share_in bs) (record { front = []; joined = refl }) (x224_is bs)
