-- The headers of a packet from their parts.
use Rattle.std.proofs.Common.{◌≡◌, ℕ, List, [], ◌∷◌, length, refl, ap, ◌∙◌}
use Rattle.std.specs.Prelude.{Bool, true, false, Ok, Err, ◌==◌}
use Rattle.wire_num.specs.Field.{Read, then_read, given, kept, bytes_at, wanted}
use Rattle.wire_num.specs.Number.{little_at}
use Rattle.wire_num.specs.Length.{per_len_at}
use Rattle.share_pdu.specs.Share.{headers_at, share_at, body_within}
use Rattle.share_pdu.specs.Packet.{indication_at}
use Rattle.order_means.specs.PointerPackets.{pdu_type_at, head_at, kind_at, compression_at, content_by, content_at, mcs_at, indicated_at}
use Rattle.update_read.specs.PacketParts.{front_at, total_at}

-- a field before what is read after those behind it
step : {A B C : Type 0} (r : Read A) (f : A → List ℕ → Read B) (g : A → List ℕ → Read C) (after : B → List ℕ → Read C) → ((v : A) (more : List ℕ) → g v more ≡ then_read (f v more) after) → then_read r g ≡ then_read (then_read r f) after
step (Ok v) f g after e = e v.0 v.1
step (Err left) f g after e = refl

pub both_parts : (bs : List ℕ) → headers_at bs ≡ then_read (kind_at 2 bs) (λ kind more. compression_at more)
both_parts bs =
    step (pdu_type_at bs) _ _ _ (λ type a. step (bytes_at 2 a) _ _ _ (λ source b. step (bytes_at 4 b) _ _ _ (λ share c. step (bytes_at 1 c) _ _ _ (λ pad d. step (bytes_at 1 d) _ _ _ (λ stream e. refl)))))
    ∙ step (head_at bs) _ _ _ (λ head f. refl)

-- ---- before the share data PDU

counted : {A : Type 0} (b : Bool) (read : List ℕ → Read A) (bs : List ℕ) → kept b (read bs) bs ≡ then_read (given {A = List ℕ} b [] bs bs) (λ count more. read more)
counted true read bs = refl
counted false read bs = refl

by_front : {A : Type 0} (read : List ℕ → Read A) (bs : List ℕ) → then_read (mcs_at bs) (λ mcs e. then_read (per_len_at e) (λ n f. kept (length f == n) (read f) f)) ≡ then_read (front_at bs) (λ front more. read more)
by_front read bs = step (mcs_at bs) _ _ _ (λ mcs e. step (per_len_at e) _ _ _ (λ n f. counted (length f == n) read f))

pub behind_front : (bs : List ℕ) → indication_at bs ≡ then_read (front_at bs) (λ front more. share_at more)
behind_front bs =
    step (wanted (2 ∷ 0xF0 ∷ 0x80 ∷ []) bs) _ _ _ (λ x224 a. step (wanted (0x68 ∷ []) a) _ _ _ (λ indication b. step (wanted (0 ∷ 1 ∷ []) b) _ _ _ (λ initiator c. step (wanted (3 ∷ 0xEB ∷ []) c) _ _ _ (λ channel d. refl))))
    ∙ by_front share_at bs

pub kind_behind_front : (kind : ℕ) (bs : List ℕ) → indicated_at kind bs ≡ then_read (front_at bs) (λ front more. content_at kind more)
kind_behind_front kind bs = by_front (content_at kind) bs

pub front_missing : (kind : ℕ) (bs left : List ℕ) → front_at bs ≡ Err left → indicated_at kind bs ≡ Err left
front_missing kind bs left e = kind_behind_front kind bs ∙ ap (λ (r : Read (List ℕ)). then_read r (λ front more. content_at kind more)) e

-- ---- behind the total

pub share_behind_total : (bs : List ℕ) → share_at bs ≡ then_read (total_at bs) (λ inside after. body_within (headers_at inside) after)
share_behind_total bs = step (little_at 2 bs) _ _ _ (λ total a. refl)

pub content_behind_total : (kind : ℕ) (bs : List ℕ) → content_at kind bs ≡ then_read (total_at bs) (λ inside after. content_by (kind_at kind inside) after)
content_behind_total kind bs = step (little_at 2 bs) _ _ _ (λ total a. refl)
