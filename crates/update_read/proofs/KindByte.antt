-- The packet of a Pointer PDU has its kind behind a length of one byte or of two.
use Rattle.std.proofs.Common.{◌≡◌, ◌≤◌, ◌<◌, ◌+◌, ◌*◌, ◌-◌, ◌⊎◌, inl, inr, ℕ, suc, Bool, true, false, List, [], ◌∷◌, length, take, drop, get_or, refl, ap, sym, subst, ◌∙◌, arith}
use Rattle.std.specs.Prelude.{Ok, Err, nat_le, nat_lt, ◌&&◌, ◌||◌, ◌==◌, ◌%◌, if◌then◌else◌}
use Rattle.std.proofs.lemmas.Bool.Decides.{nat_tests}
use Rattle.std.proofs.lemmas.List.{length-drop, length-take-le, get_or-drop, get_or-take}
use Rattle.wire_num.specs.Field.{Read, given, kept, taken, bytes_at, wanted}
use Rattle.wire_num.specs.FieldValue.{as_one_field}
use Rattle.wire_num.specs.Number.{little_at}
use Rattle.wire_num.specs.Length.{per_len_at, long_per_at}
use Rattle.wire_num.proofs.Steps.{then_ok, one_ok}
use Rattle.wire_num.proofs.ReadIsText.{bytes_ok, little_ok, wanted_ok}
use Rattle.share_pdu.specs.Share.{tested}
use Rattle.tpkt_x224.specs.Tpkt.{packet_at}
use Rattle.order_means.specs.PointerPackets.{pointer_kind, pdu_type_at, head_at, kind_at, content_by, content_at, mcs_at, indicated_at, is_all, is_read, pointer_content, is_pointer}
use Rattle.update_read.specs.Wholes.{has_kind_at, may_be_pointer}
use Rattle.update_read.proofs.Contents.{taken_as}

-- a byte stands at an offset
abbrev StandsAt : ℕ → ℕ → List ℕ → Type 0
StandsAt i b xs = (i < length xs) × (get_or xs i 0 ≡ b)

stands_behind : (n i j b : ℕ) (xs ys : List ℕ) → n ≤ length xs → drop n xs ≡ ys → j ≡ n + i → StandsAt i b ys → StandsAt j b xs
stands_behind n i j b xs ys fits e at s =
    let size = length-drop n xs in
    let long : length (drop n xs) ≡ length ys = ap length e in
    let less = s.0 in (
      omega (arith, size, long, less, fits, at),
      ap (λ (k : ℕ). get_or xs k 0) at ∙ sym (get_or-drop n xs i 0) ∙ ap (λ (zs : List ℕ). get_or zs i 0) e ∙ s.1,
    )

stands_in_front : (n i b : ℕ) (xs ys : List ℕ) → n ≤ length xs → take n xs ≡ ys → StandsAt i b ys → StandsAt i b xs
stands_in_front n i b xs ys fits e s =
    let size = length-take-le n xs fits in
    let long : length (take n xs) ≡ length ys = ap length e in
    let less = s.0 in
    let inside : i < n = omega (arith, size, long, less) in
    (omega (arith, inside, fits), sym (get_or-take n xs i 0 inside) ∙ ap (λ (zs : List ℕ). get_or zs i 0) e ∙ s.1)

-- ---- what was read

kept_ok : {A : Type 0} (b : Bool) (r : Read A) (whole : List ℕ) (y : A × List ℕ) → kept b r whole ≡ Ok y → r ≡ Ok y
kept_ok true r whole y e = e
kept_ok false r whole y e = absurd (let no : ⊥ = cc in no)

given_ok : (b : Bool) (v rest whole : List ℕ) (y : List ℕ × List ℕ) → given b v rest whole ≡ Ok y → rest ≡ y.1
given_ok true v rest whole y e = let same : (v, rest) ≡ y = cc in ap (λ (x : List ℕ × List ℕ). x.1) same
given_ok false v rest whole y e = absurd (let no : ⊥ = cc in no)

tested_ok : (test : ℕ → Bool) (whole field rest : List ℕ) (y : List ℕ × List ℕ) → tested test whole field rest ≡ Ok y → rest ≡ y.1
tested_ok test whole [] rest y e = absurd (let no : ⊥ = cc in no)
tested_ok test whole (b ∷ bs) rest y e = given_ok (test b) (b ∷ bs) rest whole y e

pdu_type_ok : (bs : List ℕ) (y : List ℕ × List ℕ) → pdu_type_at bs ≡ Ok y → (2 ≤ length bs) × (drop 2 bs ≡ y.1)
pdu_type_ok bs y e =
    let p = then_ok (bytes_at 2 bs) _ y e in
    let q = bytes_ok 2 bs p.0 p.1 in
    (q.0, q.2 ∙ tested_ok (λ b. b % 16 == 7) bs p.0.0 p.0.1 y p.2)

-- behind the headers up to the kind
head_stands : (i j b : ℕ) (bs : List ℕ) (y : List ℕ × List ℕ) → head_at bs ≡ Ok y → j ≡ 12 + i → StandsAt i b y.1 → StandsAt j b bs
head_stands i j b bs y e at s =
    let type = then_ok (pdu_type_at bs) _ y e in
    let source = then_ok (bytes_at 2 type.0.1) _ y type.2 in
    let share = then_ok (bytes_at 4 source.0.1) _ y source.2 in
    let pad = then_ok (bytes_at 1 share.0.1) _ y share.2 in
    let stream = then_ok (bytes_at 1 pad.0.1) _ y pad.2 in
    let t = pdu_type_ok bs type.0 type.1 in
    let c = bytes_ok 2 type.0.1 source.0 source.1 in
    let h = bytes_ok 4 source.0.1 share.0 share.1 in
    let p = bytes_ok 1 share.0.1 pad.0 pad.1 in
    let m = bytes_ok 1 pad.0.1 stream.0 stream.1 in
    let n = bytes_ok 2 stream.0.1 y stream.2 in
    let on_size : StandsAt (2 + i) b stream.0.1 = stands_behind 2 i (2 + i) b stream.0.1 y.1 n.0 n.2 refl s in
    let on_stream : StandsAt (3 + i) b pad.0.1 = stands_behind 1 (2 + i) (3 + i) b pad.0.1 stream.0.1 m.0 m.2 (omega arith) on_size in
    let on_pad : StandsAt (4 + i) b share.0.1 = stands_behind 1 (3 + i) (4 + i) b share.0.1 pad.0.1 p.0 p.2 (omega arith) on_stream in
    let on_share : StandsAt (8 + i) b source.0.1 = stands_behind 4 (4 + i) (8 + i) b source.0.1 share.0.1 h.0 h.2 (omega arith) on_pad in
    let on_source : StandsAt (10 + i) b type.0.1 = stands_behind 2 (8 + i) (10 + i) b type.0.1 source.0.1 c.0 c.2 (omega arith) on_share in
    stands_behind 2 (10 + i) j b bs type.0.1 t.0 t.1 (omega (arith, at)) on_source

first_is : (b : ℕ) (bs after : List ℕ) → bs ≡ b ∷ after → StandsAt 0 b bs
first_is b bs after e = subst (λ (xs : List ℕ). StandsAt 0 b xs) (sym e) (omega arith, refl)

kind_stands : (kind : ℕ) (bs : List ℕ) (y : List ℕ × List ℕ) → kind_at kind bs ≡ Ok y → StandsAt 12 kind bs
kind_stands kind bs y e =
    let head = then_ok (head_at bs) _ y e in
    head_stands 0 12 kind bs head.0 head.1 refl (first_is kind head.0.1 y.1 (wanted_ok (kind ∷ []) head.0.1 y head.2))

-- behind the total
by_ok : (r : Read (List ℕ)) (after : List ℕ) (y : List ℕ × List ℕ) → content_by r after ≡ Ok y → (v : List ℕ × List ℕ) × (r ≡ Ok v)
by_ok (Ok v) after y e = (v, refl)
by_ok (Err left) after y e = absurd (let no : ⊥ = cc in no)

content_stands : (kind : ℕ) (bs : List ℕ) (y : List ℕ × List ℕ) → content_at kind bs ≡ Ok y → StandsAt 14 kind bs
content_stands kind bs y e =
    let total = then_ok (little_at 2 bs) _ y e in
    let t = little_ok 2 bs total.0 total.1 in
    let n : ℕ = total.0.0 in
    let a : List ℕ = total.0.1 in
    let inside = then_ok (kept (nat_le 6 n && nat_le n (length bs)) (taken bs (n - 2) a) bs) _ y total.2 in
    let read = kept_ok (nat_le 6 n && nat_le n (length bs)) (taken bs (n - 2) a) bs inside.0 inside.1 in
    let front = bytes_ok (n - 2) a inside.0 (one_ok bs (taken a (n - 2) a) inside.0 (taken_as bs a (n - 2) a ∙ read)) in
    let kinds = by_ok (kind_at kind inside.0.0) inside.0.1 y inside.2 in
    stands_behind 2 12 14 kind bs a t.0 t.2 refl (stands_in_front (n - 2) 12 kind a inside.0.0 front.0 front.1 (kind_stands kind inside.0.0 kinds.0 kinds.1))

-- behind the length
short_ok : (t : Bool) (b : ℕ) (bs : List ℕ) (y : ℕ × List ℕ) → (if t then Ok (b, bs) else as_one_field (b ∷ bs) (long_per_at b bs)) ≡ Ok y → (b ∷ bs ≡ b ∷ y.1) ⊎ ((c : ℕ) × (b ∷ bs ≡ b ∷ c ∷ y.1))
short_ok true b bs y e = let same : (b, bs) ≡ y = cc in inl (ap (λ (x : ℕ × List ℕ). b ∷ x.1) same)
short_ok false b [] y e = absurd (let no : ⊥ = cc in no)
short_ok false b (c ∷ bs) y e = inr (c, by (nat_lt b 192) (one_ok (b ∷ c ∷ bs) (long_per_at b (c ∷ bs)) y e))
  where
    by : (t : Bool) → (if t then Ok (256 * (b - 128) + c, bs) else Err (c ∷ bs)) ≡ Ok y → b ∷ c ∷ bs ≡ b ∷ c ∷ y.1
    by true f = let same : (256 * (b - 128) + c, bs) ≡ y = cc in ap (λ (x : ℕ × List ℕ). b ∷ c ∷ x.1) same
    by false f = absurd (let no : ⊥ = cc in no)

length_ok : (bs : List ℕ) (y : ℕ × List ℕ) → per_len_at bs ≡ Ok y → ((b : ℕ) × (bs ≡ b ∷ y.1)) ⊎ ((b : ℕ) × (c : ℕ) × (bs ≡ b ∷ c ∷ y.1))
length_ok [] y e = absurd (let no : ⊥ = cc in no)
length_ok (b ∷ bs) y e = by (short_ok (nat_lt b 128) b bs y e)
  where
    by : (b ∷ bs ≡ b ∷ y.1) ⊎ ((c : ℕ) × (b ∷ bs ≡ b ∷ c ∷ y.1)) → ((d : ℕ) × (b ∷ bs ≡ d ∷ y.1)) ⊎ ((d : ℕ) × (c : ℕ) × (b ∷ bs ≡ d ∷ c ∷ y.1))
    by (inl f) = inl (b, f)
    by (inr f) = inr (b, f.0, f.1)

abbrev EitherStands : ℕ → ℕ → List ℕ → Type 0
EitherStands i b xs = StandsAt i b xs ⊎ StandsAt (suc i) b xs

length_stands : (kind : ℕ) (bs : List ℕ) (y : ℕ × List ℕ) → per_len_at bs ≡ Ok y → StandsAt 14 kind y.1 → EitherStands 15 kind bs
length_stands kind bs y e s = by (length_ok bs y e)
  where
    by : ((b : ℕ) × (bs ≡ b ∷ y.1)) ⊎ ((b : ℕ) × (c : ℕ) × (bs ≡ b ∷ c ∷ y.1)) → EitherStands 15 kind bs
    by (inl f) = let less = s.0 in inl (subst (λ (xs : List ℕ). StandsAt 15 kind xs) (sym f.1) (omega (arith, less), s.1))
    by (inr f) = let less = s.0 in inr (subst (λ (xs : List ℕ). StandsAt 16 kind xs) (sym f.2) (omega (arith, less), s.1))

-- behind the front of the headers
mcs_ok : (bs : List ℕ) (y : List ℕ × List ℕ) → mcs_at bs ≡ Ok y → bs ≡ 2 ∷ 0xF0 ∷ 0x80 ∷ 0x68 ∷ 0 ∷ 1 ∷ 3 ∷ 0xEB ∷ 0x70 ∷ y.1
mcs_ok bs y e =
    let x = then_ok (wanted (2 ∷ 0xF0 ∷ 0x80 ∷ []) bs) _ y e in
    let i = then_ok (wanted (0x68 ∷ []) x.0.1) _ y x.2 in
    let u = then_ok (wanted (0 ∷ 1 ∷ []) i.0.1) _ y i.2 in
    let c = then_ok (wanted (3 ∷ 0xEB ∷ []) u.0.1) _ y u.2 in
    wanted_ok (2 ∷ 0xF0 ∷ 0x80 ∷ []) bs x.0 x.1
    ∙ ap (λ (xs : List ℕ). 2 ∷ 0xF0 ∷ 0x80 ∷ xs) (wanted_ok (0x68 ∷ []) x.0.1 i.0 i.1)
    ∙ ap (λ (xs : List ℕ). 2 ∷ 0xF0 ∷ 0x80 ∷ 0x68 ∷ xs) (wanted_ok (0 ∷ 1 ∷ []) i.0.1 u.0 u.1)
    ∙ ap (λ (xs : List ℕ). 2 ∷ 0xF0 ∷ 0x80 ∷ 0x68 ∷ 0 ∷ 1 ∷ xs) (wanted_ok (3 ∷ 0xEB ∷ []) u.0.1 c.0 c.1)
    ∙ ap (λ (xs : List ℕ). 2 ∷ 0xF0 ∷ 0x80 ∷ 0x68 ∷ 0 ∷ 1 ∷ 3 ∷ 0xEB ∷ xs) (wanted_ok (0x70 ∷ []) c.0.1 y c.2)

indicated_stands : (kind : ℕ) (bs : List ℕ) (y : List ℕ × List ℕ) → indicated_at kind bs ≡ Ok y → EitherStands 24 kind bs
indicated_stands kind bs y e =
    let mcs = then_ok (mcs_at bs) _ y e in
    let count = then_ok (per_len_at mcs.0.1) _ y mcs.2 in
    let content = kept_ok (length count.0.1 == count.0.0) (content_at kind count.0.1) count.0.1 y count.2 in
    by mcs.0.1 (mcs_ok bs mcs.0 mcs.1) (length_stands kind mcs.0.1 count.0 count.1 (content_stands kind count.0.1 y content))
  where
    by : (rest : List ℕ) → bs ≡ 2 ∷ 0xF0 ∷ 0x80 ∷ 0x68 ∷ 0 ∷ 1 ∷ 3 ∷ 0xEB ∷ 0x70 ∷ rest → EitherStands 15 kind rest → EitherStands 24 kind bs
    by rest f (inl s) = let less = s.0 in inl (subst (λ (xs : List ℕ). StandsAt 24 kind xs) (sym f) (omega (arith, less), s.1))
    by rest f (inr s) = let less = s.0 in inr (subst (λ (xs : List ℕ). StandsAt 25 kind xs) (sym f) (omega (arith, less), s.1))

-- ---- a packet

stands_test : (at : ℕ) (packet : List ℕ) → StandsAt at pointer_kind packet → has_kind_at packet at ≡ true
stands_test at packet s =
    let less = s.0 in
    let is = s.1 in
    let there : nat_lt at (length packet) ≡ true = grind (arith, nat_tests, less) in
    let same : (get_or packet at 0 == pointer_kind) ≡ true = grind (arith, nat_tests, is) in
    rw (there, same) refl

either_test : (a b : Bool) → (a ≡ true) ⊎ (b ≡ true) → (a || b) ≡ true
either_test true b e = refl
either_test false b (inl e) = absurd (let no : ⊥ = cc in no)
either_test false b (inr e) = e

found_ok : (r : Read (List ℕ)) → is_read r ≡ true → (v : List ℕ × List ℕ) × (r ≡ Ok v)
found_ok (Ok v) e = (v, refl)
found_ok (Err left) e = absurd (let no : ⊥ = cc in no)

room : (at : ℕ) (packet : List ℕ) → StandsAt at pointer_kind (drop 4 packet) → 4 ≤ length packet
room at packet s = let less = s.0 in let size = length-drop 4 packet in omega (arith, less, size)

pointer_stands : (packet : List ℕ) → is_pointer packet ≡ true → may_be_pointer packet ≡ true
pointer_stands packet e =
    let found = found_ok (pointer_content packet) e in
    by (indicated_stands pointer_kind (drop 4 packet) found.0 (kept_ok (is_all (packet_at packet) (length packet)) (indicated_at pointer_kind (drop 4 packet)) packet found.0 found.1))
  where
    at : (i j : ℕ) → j ≡ 4 + i → StandsAt i pointer_kind (drop 4 packet) → has_kind_at packet j ≡ true
    at i j e s = stands_test j packet (stands_behind 4 i j pointer_kind packet (drop 4 packet) (room i packet s) refl e s)

    by : EitherStands 24 pointer_kind (drop 4 packet) → may_be_pointer packet ≡ true
    by (inl s) = either_test (has_kind_at packet 28) (has_kind_at packet 29) (inl (at 24 28 refl s))
    by (inr s) = either_test (has_kind_at packet 28) (has_kind_at packet 29) (inr (at 25 29 refl s))

-- where neither byte is the kind, it is no packet of a pointer
pub no_pointer : (packet : List ℕ) → may_be_pointer packet ≡ false → is_pointer packet ≡ false
no_pointer packet none = by (is_pointer packet) refl
  where
    by : (t : Bool) → is_pointer packet ≡ t → t ≡ false
    by true e = let some = pointer_stands packet e in absurd (let no : ⊥ = cc in no)
    by false e = refl
