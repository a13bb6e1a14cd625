-- A packet is read like an update's up to its kind; so no packet is read at two kinds.
use Rattle.std.proofs.Common.{◌≡◌, ◌-◌, ℕ, List, [], ◌∷◌, length, refl, ap, sym, ◌∙◌, arith}
use Rattle.std.specs.Prelude.{Bool, true, false, Ok, Err, nat_le, ◌&&◌, ◌==◌}
use Rattle.std.proofs.lemmas.Bool.Decides.{nat_tests}
use Rattle.wire_num.specs.Field.{Read, then_read, kept, taken, bytes_at, wanted}
use Rattle.wire_num.specs.Number.{little_at}
use Rattle.wire_num.specs.Length.{per_len_at}
use Rattle.share_pdu.specs.Share.{Within, data_headers_at, body_within, data_at}
use Rattle.share_pdu.specs.Packet.{counted_data, data_indication_at, indication_at}
use Rattle.order_means.specs.PointerPackets.{pointer_kind, pdu_type_at, head_at, kind_at, content_by, content_at, mcs_at, indicated_at, is_read, compression_at, with_compression}

-- a field before what is read after those behind it
step : {A B C : Type 0} (r : Read A) (f : A → List ℕ → Read B) (g : A → List ℕ → Read C) (after : B → List ℕ → Read C) → ((v : A) (more : List ℕ) → g v more ≡ then_read (f v more) after) → then_read r g ≡ then_read (then_read r f) after
step (Ok v) f g after e = e v.0 v.1
step (Err left) f g after e = refl

-- a field before what goes on alike
under : {A : Type 0} (r : Read A) (g : A → List ℕ → Read (List ℕ)) (h : A → List ℕ → Read Within) → ((v : A) (more : List ℕ) → h v more ≡ with_compression (g v more)) → then_read r h ≡ with_compression (then_read r g)
under (Ok v) g h e = e v.0 v.1
under (Err left) g h e = refl

headers_are : (kind : ℕ) (bs : List ℕ) → data_headers_at kind bs ≡ then_read (kind_at kind bs) (λ k g. compression_at g)
headers_are kind bs =
    step (pdu_type_at bs) _ _ _ (λ type a. step (bytes_at 2 a) _ _ _ (λ source b. step (bytes_at 4 b) _ _ _ (λ share c. step (bytes_at 1 c) _ _ _ (λ pad d. step (bytes_at 1 d) _ _ _ (λ stream e. refl)))))
    ∙ step (head_at bs) _ _ _ (λ head f. refl)

within_is : (r : Read (List ℕ)) (after : List ℕ) → body_within (then_read r (λ k g. compression_at g)) after ≡ with_compression (content_by r after)
within_is (Ok v) after = refl
within_is (Err left) after = refl

data_is : (kind : ℕ) (bs : List ℕ) → data_at kind bs ≡ with_compression (content_at kind bs)
data_is kind bs =
    under (little_at 2 bs) _ _ (λ total a. under (kept (nat_le 6 total && nat_le total (length bs)) (taken bs (total - 2) a) bs) _ _ (λ inside after.
    ap (λ r. body_within r after) (headers_are kind inside) ∙ within_is (kind_at kind inside) after))

kept_is : (b : Bool) (x : Read Within) (y : Read (List ℕ)) (bs : List ℕ) → x ≡ with_compression y → kept b x bs ≡ with_compression (kept b y bs)
kept_is true x y bs e = e
kept_is false x y bs e = refl

behind_mcs : (kind : ℕ) (bs : List ℕ) → data_indication_at kind bs ≡ then_read (mcs_at bs) (λ mcs e. then_read (per_len_at e) (λ n f. counted_data kind n f))
behind_mcs kind bs =
    step (wanted (2 ∷ 0xF0 ∷ 0x80 ∷ []) bs) _ _ _ (λ x224 a. step (wanted (0x68 ∷ []) a) _ _ _ (λ indication b. step (wanted (0 ∷ 1 ∷ []) b) _ _ _ (λ initiator c.
    step (wanted (3 ∷ 0xEB ∷ []) c) _ _ _ (λ channel d. refl))))

pub indication_is : (kind : ℕ) (bs : List ℕ) → data_indication_at kind bs ≡ with_compression (indicated_at kind bs)
indication_is kind bs =
    behind_mcs kind bs ∙ under (mcs_at bs) _ _ (λ mcs e. under (per_len_at e) _ _ (λ n f. kept_is (length f == n) (data_at kind f) (content_at kind f) f (data_is kind f)))

-- ---- one kind

-- one of both is refused
abbrev AreApart : Read (List ℕ) → Read (List ℕ) → Type 0
AreApart x y = (is_read x && is_read y) ≡ false

apart_behind : {A : Type 0} (r : Read A) (f g : A → List ℕ → Read (List ℕ)) → ((v : A) (more : List ℕ) → AreApart (f v more) (g v more)) → AreApart (then_read r f) (then_read r g)
apart_behind (Ok v) f g e = e v.0 v.1
apart_behind (Err left) f g e = refl

apart_kept : (b : Bool) (x y : Read (List ℕ)) (bs : List ℕ) → AreApart x y → AreApart (kept b x bs) (kept b y bs)
apart_kept true x y bs e = e
apart_kept false x y bs e = refl

apart_by : (x y : Read (List ℕ)) (after : List ℕ) → AreApart x y → AreApart (content_by x after) (content_by y after)
apart_by (Ok v) (Ok w) after e = e
apart_by (Ok v) (Err left) after e = refl
apart_by (Err left) y after e = refl

-- no byte is both kinds
apart_kinds : (bs : List ℕ) → AreApart (wanted (2 ∷ []) bs) (wanted (pointer_kind ∷ []) bs)
apart_kinds [] = refl
apart_kinds (b ∷ bs) = by (2 == b) refl
  where
    by : (t : Bool) → (2 == b) ≡ t → AreApart (kept t (Ok ([], bs)) (b ∷ bs)) (wanted (pointer_kind ∷ []) (b ∷ bs))
    by true e =
        let other : (0x1B == b) ≡ false = grind (arith, nat_tests, e) in
        rw other refl
    by false e = refl

apart_contents : (bs : List ℕ) → AreApart (content_at 2 bs) (content_at pointer_kind bs)
apart_contents bs =
    apart_behind (little_at 2 bs) _ _ (λ total a. apart_behind (kept (nat_le 6 total && nat_le total (length bs)) (taken bs (total - 2) a) bs) _ _ (λ inside after.
    apart_by (kind_at 2 inside) (kind_at pointer_kind inside) after (apart_behind (head_at inside) _ _ (λ head f. apart_kinds f))))

apart_indicated : (bs : List ℕ) → AreApart (indicated_at 2 bs) (indicated_at pointer_kind bs)
apart_indicated bs =
    apart_behind (mcs_at bs) _ _ (λ mcs e. apart_behind (per_len_at e) _ _ (λ n f. apart_kept (length f == n) (content_at 2 f) (content_at pointer_kind f) f (apart_contents f)))

-- what has compressed type and length behind its kind has a kind
read_before : (r : Read (List ℕ)) (v : Within × List ℕ) → with_compression r ≡ Ok v → is_read r ≡ true
read_before (Ok w) v e = refl
read_before (Err left) v e = absurd (let no : ⊥ = cc in no)

other_refused : (a b : Bool) → (a && b) ≡ false → a ≡ true → b ≡ false
other_refused true b e f = e
other_refused false b e f = absurd (let no : ⊥ = cc in no)

-- what is read of an update is no pointer's
pub update_not_pointer : (bs : List ℕ) (v : Within × List ℕ) → indication_at bs ≡ Ok v → is_read (indicated_at pointer_kind bs) ≡ false
update_not_pointer bs v e =
    other_refused (is_read (indicated_at 2 bs)) (is_read (indicated_at pointer_kind bs)) (apart_indicated bs) (read_before (indicated_at 2 bs) v (sym (indication_is 2 bs) ∙ e))
