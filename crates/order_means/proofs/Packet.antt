-- A packet that is written is read, of either kind.
use Rattle.std.proofs.Common.{◌≡◌, ℕ, zero, suc, ◌+◌, ◌-◌, ◌*◌, ◌/◌, ◌%◌, ◌<◌, ◌≤◌, Bool, true, false, List, [], ◌∷◌, ◌++◌, length, refl, ap, ◌∙◌, arith, length-append}
use Rattle.std.specs.Prelude.{Some, Ok, nat_le, nat_lt}
use Rattle.std.proofs.lemmas.Bool.Decides.{nat_tests}
use Rattle.byteorder.specs.Endian.{little_bytes}
use Rattle.wire_num.specs.Field.{map_read, bytes_at}
use Rattle.wire_num.specs.Number.{little_value}
use Rattle.wire_num.specs.Length.{per_len_of}
use Rattle.wire_num.proofs.Bytes.{taken_all}
use Rattle.fast_path.specs.Written.{fast_headers, fast_packet}
use Rattle.share_pdu.specs.Share.{share_bytes}
use Rattle.share_pdu.specs.Packet.{update_packet, indication_at}
use Rattle.share_pdu.proofs.Share.{length_share}
use Rattle.share_pdu.proofs.Packet.{carried, indication_back, per_short}
use Rattle.px_core.specs.Picture.{turned}
use Rattle.order_means.specs.Updates.{BodyForm, Updates, updates, body_at, cutting, updates_from, before_updates, whole_packet, form_of, fast_data_at, fast_update_at, then_updates, more_updates, whole_fast, fast_begun}
use Rattle.order_means.specs.Updates.BodyForm.{Slow}
use Rattle.order_means.specs.Updates.Stage.{Between, Inside, FastInside}

-- ---- cutting off a packet

-- the rest of a packet, and what follows it
inside_cut : (fast : Bool) (at second high low : ℕ) (front : List ℕ) (b : ℕ) (tail more : List ℕ) →
    updates_from fast (cutting at (Inside (length tail) second high low front)) ((b ∷ tail) ++ more)
    ≡ before_updates (whole_packet (at + suc (length tail)) (indication_at (turned front (b ∷ tail)))).bodies (updates_from fast (whole_packet (at + suc (length tail)) (indication_at (turned front (b ∷ tail)))).next more)
inside_cut fast at second high low front b [] more = refl
inside_cut fast at second high low front b (c ∷ tail) more =
    let same : (at + 1) + suc (length tail) ≡ at + suc (suc (length tail)) = omega arith in
    inside_cut fast (at + 1) second high low (b ∷ front) c tail more
    ∙ ap (λ n. before_updates (whole_packet n (indication_at (turned front (b ∷ c ∷ tail)))).bodies (updates_from fast (whole_packet n (indication_at (turned front (b ∷ c ∷ tail)))).next more)) same

-- a whole packet at the front
pub packet_cut : (fast : Bool) (at second high low b : ℕ) (tail more : List ℕ) → 256 * high + low ≡ 5 + length tail → 2 ≤ length tail →
    updates_from fast (cutting at Between) (3 ∷ second ∷ high ∷ low ∷ ((b ∷ tail) ++ more))
    ≡ before_updates (whole_packet (at + (5 + length tail)) (indication_at (b ∷ tail))).bodies (updates_from fast (whole_packet (at + (5 + length tail)) (indication_at (b ∷ tail))).next more)
packet_cut fast at second high low b tail more total enough =
    let long : nat_le 7 (256 * high + low) ≡ true = grind (arith, nat_tests, total, enough) in
    let left : (256 * high + low) - 5 ≡ length tail = omega (arith, total) in
    let same : (((at + 1) + 1) + 1) + 1 + suc (length tail) ≡ at + (5 + length tail) = omega arith in
    rw (long, left) (inside_cut fast ((((at + 1) + 1) + 1) + 1) second high low [] b tail more
    ∙ ap (λ n. before_updates (whole_packet n (indication_at (b ∷ tail))).bodies (updates_from fast (whole_packet n (indication_at (b ∷ tail))).next more)) same)

-- ---- an update's packet at the front of a stream

high_low : (n : ℕ) → n < 65536 → 256 * ((n / 256) % 256) + n % 256 ≡ n
high_low n h = omega (arith, h)

pub update_cut : (fast : Bool) (at : ℕ) (bytes more : List ℕ) → 18 + length bytes < 16384 →
    updates_from fast (cutting at Between) (update_packet bytes ++ more)
    ≡ before_updates (body_at ((at + length (update_packet bytes)) - length bytes) Slow bytes ∷ []) (updates_from fast (cutting (at + length (update_packet bytes)) Between) more)
update_cut fast at bytes more h =
    let mcs = carried 2 bytes in
    let tail = 0xF0 ∷ 0x80 ∷ mcs in
    let whole = 4 + length (2 ∷ tail) in
    let user = length_share 2 bytes in
    let per = per_short (length (share_bytes 2 bytes)) in
    let inner = length-append (per_len_of (length (share_bytes 2 bytes))) (share_bytes 2 bytes) in
    let small : whole < 65536 = omega (arith, user, per, inner, h) in
    let total : 256 * ((whole / 256) % 256) + whole % 256 ≡ 5 + length tail = high_low whole small ∙ omega arith in
    let enough : 2 ≤ length tail = omega arith in
    packet_cut fast at 0 ((whole / 256) % 256) (whole % 256) 2 tail more total enough
    ∙ ap (λ r. before_updates (whole_packet (at + (5 + length tail)) r).bodies (updates_from fast (whole_packet (at + (5 + length tail)) r).next more)) (indication_back 2 bytes h)
    ∙ ap (λ n. before_updates (body_at ((at + n) - length bytes) Slow bytes ∷ []) (updates_from fast (cutting (at + n) Between) more)) (omega arith)

-- ---- cutting off a packet of the fast path

-- the updates of a packet with these bytes behind its header, which ends before a place, and what follows it
abbrev pub after_fast : ℕ → List ℕ → List ℕ → Updates
after_fast end bs more = let first = whole_fast end bs in before_updates first.bodies (updates_from true first.next more)

-- the rest of a packet, and what follows it
fast_rest : (at : ℕ) (head front : List ℕ) (b : ℕ) (tail more : List ℕ) →
    updates_from true (cutting at (FastInside (length tail) head front)) ((b ∷ tail) ++ more) ≡ after_fast (at + suc (length tail)) (turned front (b ∷ tail)) more
fast_rest at head front b [] more = refl
fast_rest at head front b (c ∷ tail) more =
    let same : (at + 1) + suc (length tail) ≡ at + suc (suc (length tail)) = omega arith in
    fast_rest (at + 1) head (b ∷ front) c tail more ∙ ap (λ n. after_fast n (turned front (b ∷ c ∷ tail)) more) same

-- all that its length counts behind a header
pub behind_head : (next place n : ℕ) (head bs more : List ℕ) → n ≡ length head + length bs →
    (let begun = fast_begun next place n head in before_updates begun.bodies (updates_from true begun.next (bs ++ more))) ≡ after_fast (next + length bs) bs more
behind_head next place n head [] more e =
    let enough : nat_lt n (length head) ≡ false = grind (arith, nat_tests, e) in
    let left : n - length head ≡ 0 = omega (arith, e) in
    let same : next ≡ next + 0 = omega arith in
    rw (enough, left) (ap (λ k. after_fast k [] more) same)
behind_head next place n head (b ∷ tail) more e =
    let enough : nat_lt n (length head) ≡ false = grind (arith, nat_tests, e) in
    let left : n - length head ≡ suc (length tail) = omega (arith, e) in
    rw (enough, left) (fast_rest next head [] b tail more)

-- ---- a packet of the fast path with one update

two_bytes : (n : ℕ) → n < 65536 → little_value (little_bytes 2 n) ≡ n
two_bytes n h = omega (arith, h)

data_back : (form : BodyForm) (whole bytes : List ℕ) → length bytes < 65536 → fast_data_at (Some form) whole (little_bytes 2 (length bytes) ++ bytes) ≡ Ok ((form, bytes), [])
data_back form whole bytes h =
    ap (λ n. map_read (λ xs. (form, xs)) (bytes_at n bytes)) (two_bytes (length bytes) h) ∙ ap (map_read (λ xs. (form, xs))) (taken_all bytes bytes)

-- code, size, data
abbrev content : ℕ → List ℕ → List ℕ
content code bytes = code ∷ (little_bytes 2 (length bytes) ++ bytes)

content_back : (code : ℕ) (form : BodyForm) (bytes : List ℕ) → form_of code ≡ Some form → length bytes < 65536 → fast_update_at (content code bytes) ≡ Ok ((form, bytes), [])
content_back code form bytes f h =
    let same : little_value (code ∷ []) ≡ code = omega arith in
    ap (λ k. fast_data_at (form_of k) (content code bytes) (little_bytes 2 (length bytes) ++ bytes)) same
    ∙ ap (λ o. fast_data_at o (content code bytes) (little_bytes 2 (length bytes) ++ bytes)) f
    ∙ data_back form (content code bytes) bytes h

one_update : (end most : ℕ) (form : BodyForm) (bytes : List ℕ) → then_updates end (Ok ((form, bytes), [])) (more_updates most end) ≡ updates (body_at (end - length bytes) form bytes ∷ []) (cutting end Between)
one_update end most form bytes = by most
  where
    place : updates (body_at (end - (0 + length bytes)) form bytes ∷ []) (cutting end Between) ≡ updates (body_at (end - length bytes) form bytes ∷ []) (cutting end Between)
    place = let same : 0 + length bytes ≡ length bytes = omega arith in ap (λ n. updates (body_at (end - n) form bytes ∷ []) (cutting end Between)) same

    by : (most : ℕ) → then_updates end (Ok ((form, bytes), [])) (more_updates most end) ≡ updates (body_at (end - length bytes) form bytes ∷ []) (cutting end Between)
    by zero = place
    by (suc most) = place

whole_back : (end code : ℕ) (form : BodyForm) (bytes : List ℕ) → form_of code ≡ Some form → length bytes < 65536
    → whole_fast end (content code bytes) ≡ updates (body_at (end - length bytes) form bytes ∷ []) (cutting end Between)
whole_back end code form bytes f h =
    ap (λ r. then_updates end r (more_updates (length (content code bytes)) end)) (content_back code form bytes f h) ∙ one_update end (length (content code bytes)) form bytes

pub fast_packet_cut : (code : ℕ) (form : BodyForm) (at : ℕ) (bytes more : List ℕ) → form_of code ≡ Some form → length bytes ≤ 32761 →
    updates_from true (cutting at Between) (fast_packet code bytes ++ more)
    ≡ before_updates (body_at ((at + length (fast_packet code bytes)) - length bytes) form bytes ∷ []) (updates_from true (cutting (at + length (fast_packet code bytes)) Between) more)
unfolding fast_headers
fast_packet_cut code form at bytes more f h = by (nat_lt (5 + length bytes) 128) refl
  where
    Cut : List ℕ → Type 0
    Cut packet = updates_from true (cutting at Between) (packet ++ more)
        ≡ before_updates (body_at ((at + length packet) - length bytes) form bytes ∷ []) (updates_from true (cutting (at + length packet) Between) more)

    made : (end : ℕ) → before_updates (whole_fast end (content code bytes)).bodies (updates_from true (whole_fast end (content code bytes)).next more)
        ≡ before_updates (body_at (end - length bytes) form bytes ∷ []) (updates_from true (cutting end Between) more)
    made end = ap (λ u. before_updates u.bodies (updates_from true u.next more)) (whole_back end code form bytes f (omega (arith, h)))

    ends : (m n : ℕ) → m ≡ n → before_updates (body_at (m - length bytes) form bytes ∷ []) (updates_from true (cutting m Between) more)
        ≡ before_updates (body_at (n - length bytes) form bytes ∷ []) (updates_from true (cutting n Between) more)
    ends m n e = ap (λ k. before_updates (body_at (k - length bytes) form bytes ∷ []) (updates_from true (cutting k Between) more)) e

    short : 5 + length bytes < 128 → Cut (0 ∷ (5 + length bytes) ∷ content code bytes)
    short s =
        let one : nat_lt (5 + length bytes) 128 ≡ true = grind (arith, nat_tests, s) in
        rw one (behind_head ((at + 1) + 1) (at + 1) (5 + length bytes) (0 ∷ (5 + length bytes) ∷ []) (content code bytes) more (omega arith)
        ∙ made (((at + 1) + 1) + length (content code bytes)) ∙ ends (((at + 1) + 1) + length (content code bytes)) (at + length (0 ∷ (5 + length bytes) ∷ content code bytes)) (omega arith))

    high : ℕ
    high = ((32768 + (6 + length bytes)) / 256) % 256

    low : ℕ
    low = (32768 + (6 + length bytes)) % 256

    long : Cut (0 ∷ high ∷ low ∷ content code bytes)
    long =
        let big : 128 ≤ high = omega (arith, h) in
        let two : nat_lt high 128 ≡ false = grind (arith, nat_tests, big) in
        let total : 256 * (high - 128) + low ≡ 3 + length (content code bytes) = omega (arith, h) in
        rw two (behind_head (((at + 1) + 1) + 1) (((at + 1) + 1) - 1) (256 * (high - 128) + low)
        (0 ∷ high ∷ low ∷ []) (content code bytes) more total
        ∙ made ((((at + 1) + 1) + 1) + length (content code bytes)) ∙ ends ((((at + 1) + 1) + 1) + length (content code bytes)) (at + length (0 ∷ high ∷ low ∷ content code bytes)) (omega arith))

    by : (b : Bool) → nat_lt (5 + length bytes) 128 ≡ b → Cut (fast_packet code bytes)
    by true e = rw e (short (grind (arith, nat_tests, e)))
    by false e = rw e long

-- the same with the bound of the laws of frames
pub fast_cut : (code : ℕ) (form : BodyForm) (at : ℕ) (bytes more : List ℕ) → form_of code ≡ Some form → length bytes < 32760 →
    updates_from true (cutting at Between) (fast_packet code bytes ++ more)
    ≡ before_updates (body_at ((at + length (fast_packet code bytes)) - length bytes) form bytes ∷ []) (updates_from true (cutting (at + length (fast_packet code bytes)) Between) more)
fast_cut code form at bytes more f h = fast_packet_cut code form at bytes more f (omega (arith, h))
