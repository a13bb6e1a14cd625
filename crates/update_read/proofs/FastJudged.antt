-- A packet of the fast path that got a further byte.
use Rattle.std.proofs.Common.{◌≡◌, ◌≤◌, ◌<◌, ◌+◌, ◌*◌, ◌-◌, ◌⊎◌, inl, inr, ℕ, zero, suc, List, [], ◌∷◌, ◌++◌, length, length-append, take, drop, refl, ap, sym, subst, ◌∙◌, arith, true, false}
use Rattle.std.specs.Prelude.{Bool, Option, Some, None, nat_lt, slice_index, if◌then◌else◌}
use Rattle.std.proofs.lemmas.Bool.Decides.{nat_tests}
use Rattle.order_means.specs.Updates.{cutting, updates, updates_by, whole_fast, fast_inside, fast_begun, turned}
use Rattle.order_means.specs.Updates.Stage.{FastLong, FastInside, Refused}
use Rattle.update_read.specs.Cutters.{stage_of, IsOpen, length_by, fast_length, fast_stage, IsFastOpen}
use Rattle.update_read.proofs.Judged.{after_byte, turned-append, turned_twice}

take_front : (k : ℕ) (xs ys : List ℕ) → k ≤ length xs → take k (xs ++ ys) ≡ take k xs
take_front zero xs ys h = refl
take_front (suc k) [] ys h = absurd (omega (arith, h))
take_front (suc k) (x ∷ xs) ys h = ap (λ (zs : List ℕ). x ∷ zs) (take_front k xs ys (omega (arith, h)))

drop_front : (k : ℕ) (xs ys : List ℕ) → k ≤ length xs → drop k (xs ++ ys) ≡ drop k xs ++ ys
drop_front zero xs ys h = refl
drop_front (suc k) [] ys h = absurd (omega (arith, h))
drop_front (suc k) (x ∷ xs) ys h = drop_front k xs ys (omega (arith, h))

-- ---- the header

-- a length that is there stays, whatever follows
same_by : (t : Bool) (h l : ℕ) (xs ys : List ℕ) → length_by t h (l ∷ xs) ≡ length_by t h (l ∷ ys)
same_by true h l xs ys = refl
same_by false h l xs ys = refl

short_by : (t : Bool) (h : ℕ) (ys : List ℕ) (m : ℕ × ℕ) → length_by t h [] ≡ Some m → length_by t h ys ≡ Some m
short_by true h ys m e = e
short_by false h ys m e = absurd (let no : ⊥ = cc in no)

pub length_stays : (xs ys : List ℕ) (m : ℕ × ℕ) → fast_length xs ≡ Some m → fast_length (xs ++ ys) ≡ Some m
length_stays [] ys m e = absurd (let no : ⊥ = cc in no)
length_stays (v ∷ []) ys m e = absurd (let no : ⊥ = cc in no)
length_stays (v ∷ h ∷ []) ys m e = short_by (nat_lt h 128) h ys m e
length_stays (v ∷ h ∷ l ∷ xs) ys m e = same_by (nat_lt h 128) h l (xs ++ ys) xs ∙ e

head_by : (t : Bool) (v h : ℕ) (xs : List ℕ) (m : ℕ × ℕ) → length_by t h xs ≡ Some m → m.0 ≤ length (v ∷ h ∷ xs)
head_by true v h xs m e = let is : (2, h) ≡ m = cc in let two : 2 ≡ m.0 = ap (λ (x : ℕ × ℕ). x.0) is in omega (arith, two)
head_by false v h [] m e = absurd (let no : ⊥ = cc in no)
head_by false v h (l ∷ xs) m e = let is : (3, 256 * (h - 128) + l) ≡ m = cc in let three : 3 ≡ m.0 = ap (λ (x : ℕ × ℕ). x.0) is in omega (arith, three)

-- the header is there
pub head_there : (packet : List ℕ) (m : ℕ × ℕ) → fast_length packet ≡ Some m → m.0 ≤ length packet
head_there [] m e = absurd (let no : ⊥ = cc in no)
head_there (v ∷ []) m e = absurd (let no : ⊥ = cc in no)
head_there (v ∷ h ∷ xs) m e = head_by (nat_lt h 128) v h xs m e

-- ---- its last byte is behind the header, or in it

-- the byte before the last one was behind the header, or the header's last one
pub record Further (fast : Bool) (s : ℕ) (front : List ℕ) (b : ℕ) (m : ℕ × ℕ) : Type 0 where
  pub before : fast_length front ≡ Some m
  pub after : after_byte fast s front b ≡ updates_by fast (s + length front) (fast_stage (Some m) front) b
  pub fits : IsFastOpen (Some m) front

-- the last byte ends the header
pub record Begun (fast : Bool) (s : ℕ) (front : List ℕ) (b : ℕ) (m : ℕ × ℕ) : Type 0 where
  pub size : length (front ++ b ∷ []) ≡ m.0
  pub after : after_byte fast s front b ≡ fast_begun (s + length (front ++ b ∷ [])) (s + 1) m.1 (front ++ b ∷ [])

further : (fast : Bool) (s : ℕ) (bs : List ℕ) (b : ℕ) (m : ℕ × ℕ) → fast_length (zero ∷ bs) ≡ Some m → IsOpen (zero ∷ bs) → Further fast s (zero ∷ bs) b m
further fast s bs b m e fits = record {
  before = e;
  after = ap (λ (o : Option (ℕ × ℕ)). updates_by fast (s + length (zero ∷ bs)) (fast_stage o (zero ∷ bs)) b) e;
  fits = subst (λ (o : Option (ℕ × ℕ)). IsFastOpen o (zero ∷ bs)) e fits;
}

first_length : (t : Bool) (fast : Bool) (s b : ℕ) (m : ℕ × ℕ) → nat_lt b 128 ≡ t → length_by t b [] ≡ Some m → Begun fast s (zero ∷ []) b m
first_length true fast s b m t e =
    let is : (2, b) ≡ m = cc in
    let place : (s + 1) + 1 ≡ s + 2 = omega arith in
    record {
      size = ap (λ (x : ℕ × ℕ). x.0) is;
      after = ap (λ c. if c then fast_begun ((s + 1) + 1) (s + 1) b (0 ∷ b ∷ []) else updates [] (cutting ((s + 1) + 1) (FastLong b))) t
          ∙ ap (λ (n : ℕ). fast_begun n (s + 1) b (0 ∷ b ∷ [])) place
          ∙ ap (λ (n : ℕ). fast_begun (s + 2) (s + 1) n (0 ∷ b ∷ [])) (ap (λ (x : ℕ × ℕ). x.1) is);
    }
first_length false fast s b m t e = absurd (let no : ⊥ = cc in no)

second_length : (t : Bool) (fast : Bool) (s h b : ℕ) (m : ℕ × ℕ) → nat_lt h 128 ≡ t → length_by t h (b ∷ []) ≡ Some m → IsOpen (zero ∷ h ∷ []) → Further fast s (zero ∷ h ∷ []) b m ⊎ Begun fast s (zero ∷ h ∷ []) b m
second_length true fast s h b m t e fits = inl (further fast s (h ∷ []) b m (ap (λ c. length_by c h []) t ∙ e) fits)
second_length false fast s h b m t e fits =
    let is : (3, 256 * (h - 128) + b) ≡ m = cc in
    let next : (s + 2) + 1 ≡ s + 3 = omega arith in
    let place : (s + 2) - 1 ≡ s + 1 = omega arith in
    inr (record {
      size = ap (λ (x : ℕ × ℕ). x.0) is;
      after = ap (λ c. updates_by fast (s + 2) (fast_stage (length_by c h []) (zero ∷ h ∷ [])) b) t
          ∙ ap (λ (n : ℕ). fast_begun n ((s + 2) - 1) (256 * (h - 128) + b) (0 ∷ h ∷ b ∷ [])) next
          ∙ ap (λ (n : ℕ). fast_begun (s + 3) n (256 * (h - 128) + b) (0 ∷ h ∷ b ∷ [])) place
          ∙ ap (λ (n : ℕ). fast_begun (s + 3) (s + 1) n (0 ∷ h ∷ b ∷ [])) (ap (λ (x : ℕ × ℕ). x.1) is);
    })

either : (fast : Bool) (s : ℕ) (front : List ℕ) (b : ℕ) (m : ℕ × ℕ) → slice_index (front ++ b ∷ []) 0 ≡ 0 → fast_length (front ++ b ∷ []) ≡ Some m → IsOpen front → Further fast s front b m ⊎ Begun fast s front b m
either fast s [] b m first e fits = absurd (let no : ⊥ = cc in no)
either fast s (suc x ∷ xs) b m first e fits = absurd (let is : suc x ≡ 0 = first in omega (arith, is))
either fast s (zero ∷ []) b m first e fits = inr (first_length (nat_lt b 128) fast s b m refl e)
either fast s (zero ∷ h ∷ []) b m first e fits = second_length (nat_lt h 128) fast s h b m refl e fits
either fast s (zero ∷ h ∷ l ∷ xs) b m first e fits = inl (further fast s (h ∷ l ∷ xs) b m (same_by (nat_lt h 128) h l xs (xs ++ b ∷ []) ∙ e) fits)

-- ---- the length is that of the header, or more, or too small

begun_short : (next place n : ℕ) (head : List ℕ) → n < length head → fast_begun next place n head ≡ updates [] (cutting next (Refused place))
begun_short next place n head few =
    let test : nat_lt n (length head) ≡ true = grind (arith, nat_tests, few) in
    ap (λ c. if c then updates [] (cutting next (Refused place)) else fast_inside next (n - length head) head) test

begun_long : (next place n k : ℕ) (head : List ℕ) → n - length head ≡ k → length head ≤ n → fast_begun next place n head ≡ fast_inside next k head
begun_long next place n k head e many =
    let test : nat_lt n (length head) ≡ false = grind (arith, nat_tests, many) in
    ap (λ c. if c then updates [] (cutting next (Refused place)) else fast_inside next (n - length head) head) test ∙ ap (λ (i : ℕ). fast_inside next i head) e

taken_whole : (k : ℕ) (xs : List ℕ) → length xs ≡ k → take k xs ≡ xs
taken_whole zero [] e = refl
taken_whole zero (x ∷ xs) e = absurd (omega (arith, e))
taken_whole (suc k) [] e = absurd (omega (arith, e))
taken_whole (suc k) (x ∷ xs) e = ap (λ (ys : List ℕ). x ∷ ys) (taken_whole k xs (omega (arith, e)))

dropped_whole : (k : ℕ) (xs : List ℕ) → length xs ≡ k → drop k xs ≡ []
dropped_whole zero [] e = refl
dropped_whole zero (x ∷ xs) e = absurd (omega (arith, e))
dropped_whole (suc k) [] e = absurd (omega (arith, e))
dropped_whole (suc k) (x ∷ xs) e = dropped_whole k xs (omega (arith, e))

fast_open_stage : (packet : List ℕ) (m : ℕ × ℕ) → slice_index packet 0 ≡ 0 → fast_length packet ≡ Some m → stage_of packet ≡ fast_stage (Some m) packet
fast_open_stage [] m first e = absurd (let no : ⊥ = cc in no)
fast_open_stage (suc x ∷ xs) m first e = absurd (let is : suc x ≡ 0 = first in omega (arith, is))
fast_open_stage (zero ∷ xs) m first e = ap (λ (o : Option (ℕ × ℕ)). fast_stage o (zero ∷ xs)) e

is_fast_open : (packet : List ℕ) (m : ℕ × ℕ) → slice_index packet 0 ≡ 0 → fast_length packet ≡ Some m → IsFastOpen (Some m) packet → IsOpen packet
is_fast_open [] m first e fits = absurd (let no : ⊥ = cc in no)
is_fast_open (suc x ∷ xs) m first e fits = absurd (let is : suc x ≡ 0 = first in omega (arith, is))
is_fast_open (zero ∷ xs) m first e fits = subst (λ (o : Option (ℕ × ℕ)). IsFastOpen o (zero ∷ xs)) (sym e) fits

-- it goes on
on_after : (fast : Bool) (s : ℕ) (front : List ℕ) (b : ℕ) (m : ℕ × ℕ) → Further fast s front b m ⊎ Begun fast s front b m → length (front ++ b ∷ []) < m.1
    → after_byte fast s front b ≡ updates [] (cutting (s + length (front ++ b ∷ [])) (fast_stage (Some m) (front ++ b ∷ [])))
on_after fast s front b m (inl f) below =
    let size : length (front ++ b ∷ []) ≡ length front + 1 = length-append front (b ∷ []) in
    let room = f.fits.0 in
    let missing : m.1 - (length front + 1) ≡ suc (m.1 - (length (front ++ b ∷ []) + 1)) = omega (arith, size, below) in
    let place : (s + length front) + 1 ≡ s + length (front ++ b ∷ []) = omega (arith, size) in
    let n : ℕ = m.1 - (length (front ++ b ∷ []) + 1) in
    f.after
    ∙ ap (λ (i : ℕ). updates_by fast (s + length front) (FastInside i (take m.0 front) (turned (drop m.0 front) [])) b) missing
    ∙ ap (λ (i : ℕ). updates [] (cutting i (FastInside n (take m.0 front) (b ∷ turned (drop m.0 front) [])))) place
    ∙ ap (λ (head : List ℕ). updates [] (cutting (s + length (front ++ b ∷ [])) (FastInside n head (b ∷ turned (drop m.0 front) [])))) (sym (take_front m.0 front (b ∷ []) room))
    ∙ ap (λ (xs : List ℕ). updates [] (cutting (s + length (front ++ b ∷ [])) (FastInside n (take m.0 (front ++ b ∷ [])) xs))) (sym (turned-append (drop m.0 front) b []) ∙ ap (λ (xs : List ℕ). turned xs []) (sym (drop_front m.0 front (b ∷ []) room)))
on_after fast s front b m (inr g) below =
    let q : List ℕ = front ++ b ∷ [] in
    let more : m.1 - length q ≡ suc (m.1 - (length q + 1)) = omega (arith, below) in
    g.after
    ∙ begun_long (s + length q) (s + 1) m.1 (suc (m.1 - (length q + 1))) q more (omega (arith, below))
    ∙ ap (λ (xs : List ℕ). updates [] (cutting (s + length q) (FastInside (m.1 - (length q + 1)) xs []))) (sym (taken_whole m.0 q g.size))
    ∙ ap (λ (xs : List ℕ). updates [] (cutting (s + length q) (FastInside (m.1 - (length q + 1)) (take m.0 q) (turned xs [])))) (sym (dropped_whole m.0 q g.size))

pub fast_goes_on : (fast : Bool) (s : ℕ) (packet front : List ℕ) (b : ℕ) (m : ℕ × ℕ) → packet ≡ front ++ b ∷ [] → slice_index packet 0 ≡ 0 → fast_length packet ≡ Some m → IsOpen front → m.1 ≤ 32767 → length packet < m.1
    → (after_byte fast s front b ≡ updates [] (cutting (s + length packet) (stage_of packet))) × IsOpen packet
fast_goes_on fast s packet front b m e first there fits most below =
    let long : length (front ++ b ∷ []) < m.1 = subst (λ (p : List ℕ). length p < m.1) e below in
    let on = on_after fast s front b m (either fast s front b m (subst (λ (p : List ℕ). slice_index p 0 ≡ 0) e first) (subst (λ (p : List ℕ). fast_length p ≡ Some m) e there) fits) long in (
      subst (λ (p : List ℕ). after_byte fast s front b ≡ updates [] (cutting (s + length p) (fast_stage (Some m) p))) (sym e) on ∙ ap (λ st. updates [] (cutting (s + length packet) st)) (sym (fast_open_stage packet m first there)),
      is_fast_open packet m first there (head_there packet m there, omega (arith, below), most),
    )

-- it is whole
whole_after : (fast : Bool) (s : ℕ) (front : List ℕ) (b : ℕ) (m : ℕ × ℕ) → Further fast s front b m ⊎ Begun fast s front b m → m.1 ≤ length (front ++ b ∷ []) → (length (front ++ b ∷ []) ≡ m.0 → m.0 ≤ m.1)
    → after_byte fast s front b ≡ whole_fast (s + length (front ++ b ∷ [])) (drop m.0 (front ++ b ∷ []))
whole_after fast s front b m (inl f) many least =
    let size : length (front ++ b ∷ []) ≡ length front + 1 = length-append front (b ∷ []) in
    let room = f.fits.0 in
    let below = f.fits.1 in
    let missing : m.1 - (length front + 1) ≡ 0 = omega (arith, size, many) in
    let place : (s + length front) + 1 ≡ s + length (front ++ b ∷ []) = omega (arith, size) in
    f.after
    ∙ ap (λ (i : ℕ). updates_by fast (s + length front) (FastInside i (take m.0 front) (turned (drop m.0 front) [])) b) missing
    ∙ ap (λ (i : ℕ). whole_fast i (turned (turned (drop m.0 front) []) (b ∷ []))) place
    ∙ ap (whole_fast (s + length (front ++ b ∷ []))) (turned_twice (drop m.0 front) [] (b ∷ []) ∙ sym (drop_front m.0 front (b ∷ []) room))
whole_after fast s front b m (inr g) many least =
    let q : List ℕ = front ++ b ∷ [] in
    let enough = least g.size in
    let size = g.size in
    g.after
    ∙ begun_long (s + length q) (s + 1) m.1 0 q (omega (arith, many)) (omega (arith, enough, size))
    ∙ ap (whole_fast (s + length q)) (sym (dropped_whole m.0 q g.size))

pub fast_is_whole : (fast : Bool) (s : ℕ) (packet front : List ℕ) (b : ℕ) (m : ℕ × ℕ) → packet ≡ front ++ b ∷ [] → slice_index packet 0 ≡ 0 → fast_length packet ≡ Some m → IsOpen front → m.1 ≤ length packet → (length packet ≡ m.0 → m.0 ≤ m.1)
    → after_byte fast s front b ≡ whole_fast (s + length packet) (drop m.0 packet)
fast_is_whole fast s packet front b m e first there fits many least =
    subst (λ (p : List ℕ). slice_index p 0 ≡ 0 → fast_length p ≡ Some m → m.1 ≤ length p → (length p ≡ m.0 → m.0 ≤ m.1) → after_byte fast s front b ≡ whole_fast (s + length p) (drop m.0 p)) (sym e)
    (λ a c. whole_after fast s front b m (either fast s front b m a c fits)) first there many least

-- its length is too small
short_after : (fast : Bool) (s : ℕ) (front : List ℕ) (b : ℕ) (m : ℕ × ℕ) → Further fast s front b m ⊎ Begun fast s front b m → length (front ++ b ∷ []) ≡ m.0 → m.1 < m.0
    → after_byte fast s front b ≡ updates [] (cutting (s + length (front ++ b ∷ [])) (Refused (s + 1)))
short_after fast s front b m (inl f) all few =
    let size : length (front ++ b ∷ []) ≡ length front + 1 = length-append front (b ∷ []) in
    let room = f.fits.0 in
    absurd (omega (arith, size, room, all))
short_after fast s front b m (inr g) all few = g.after ∙ begun_short (s + length (front ++ b ∷ [])) (s + 1) m.1 (front ++ b ∷ []) (omega (arith, all, few))

pub fast_too_short : (fast : Bool) (s : ℕ) (packet front : List ℕ) (b : ℕ) (m : ℕ × ℕ) → packet ≡ front ++ b ∷ [] → slice_index packet 0 ≡ 0 → fast_length packet ≡ Some m → IsOpen front → length packet ≡ m.0 → m.1 < m.0
    → after_byte fast s front b ≡ updates [] (cutting (s + length packet) (Refused (s + 1)))
fast_too_short fast s packet front b m e first there fits all few =
    subst (λ (p : List ℕ). slice_index p 0 ≡ 0 → fast_length p ≡ Some m → length p ≡ m.0 → after_byte fast s front b ≡ updates [] (cutting (s + length p) (Refused (s + 1)))) (sym e)
    (λ a c d. short_after fast s front b m (either fast s front b m a c fits) d few) first there all

-- the length isn't all there
none_by : (t : Bool) (fast : Bool) (s b : ℕ) → nat_lt b 128 ≡ t → length_by t b [] ≡ None
    → (after_byte fast s (zero ∷ []) b ≡ updates [] (cutting (s + 2) (fast_stage (length_by t b []) (zero ∷ b ∷ [])))) × IsFastOpen (length_by t b []) (zero ∷ b ∷ [])
none_by true fast s b t e = absurd (let no : ⊥ = cc in no)
none_by false fast s b t e =
    let place : (s + 1) + 1 ≡ s + 2 = omega arith in (
      ap (λ c. if c then fast_begun ((s + 1) + 1) (s + 1) b (0 ∷ b ∷ []) else updates [] (cutting ((s + 1) + 1) (FastLong b))) t ∙ ap (λ (n : ℕ). updates [] (cutting n (FastLong b))) place,
      omega arith,
    )

some_by : (t : Bool) (h l : ℕ) (xs : List ℕ) → length_by t h (l ∷ xs) ≡ None → ⊥
some_by true h l xs e = let no : ⊥ = cc in no
some_by false h l xs e = let no : ⊥ = cc in no

none_after : (fast : Bool) (s : ℕ) (front : List ℕ) (b : ℕ) → 2 ≤ length (front ++ b ∷ []) → slice_index (front ++ b ∷ []) 0 ≡ 0 → fast_length (front ++ b ∷ []) ≡ None
    → (after_byte fast s front b ≡ updates [] (cutting (s + length (front ++ b ∷ [])) (stage_of (front ++ b ∷ [])))) × IsOpen (front ++ b ∷ [])
none_after fast s [] b some first e = absurd (omega (arith, some))
none_after fast s (suc x ∷ xs) b some first e = absurd (let is : suc x ≡ 0 = first in omega (arith, is))
none_after fast s (zero ∷ []) b some first e = none_by (nat_lt b 128) fast s b refl e
none_after fast s (zero ∷ h ∷ []) b some first e = absurd (some_by (nat_lt h 128) h b [] e)
none_after fast s (zero ∷ h ∷ l ∷ xs) b some first e = absurd (some_by (nat_lt h 128) h l (xs ++ b ∷ []) e)

pub no_length : (fast : Bool) (s : ℕ) (packet front : List ℕ) (b : ℕ) → packet ≡ front ++ b ∷ [] → 2 ≤ length packet → slice_index packet 0 ≡ 0 → fast_length packet ≡ None
    → (after_byte fast s front b ≡ updates [] (cutting (s + length packet) (stage_of packet))) × IsOpen packet
no_length fast s packet front b e some first none =
    subst (λ (p : List ℕ). 2 ≤ length p → slice_index p 0 ≡ 0 → fast_length p ≡ None → (after_byte fast s front b ≡ updates [] (cutting (s + length p) (stage_of p))) × IsOpen p) (sym e) (none_after fast s front b) some first none

-- ---- the header, byte by byte

pub no_second : (packet : List ℕ) → length packet < 2 → fast_length packet ≡ None
no_second [] few = refl
no_second (v ∷ []) few = refl
no_second (v ∷ h ∷ xs) few = absurd (omega (arith, few))

pub short_second : (packet : List ℕ) → 2 ≤ length packet → slice_index packet 1 < 128 → fast_length packet ≡ Some (2, slice_index packet 1)
short_second [] many small = absurd (omega (arith, many))
short_second (v ∷ []) many small = absurd (omega (arith, many))
short_second (v ∷ h ∷ xs) many small =
    let below : h < 128 = small in
    let test : nat_lt h 128 ≡ true = grind (arith, nat_tests, below) in
    ap (λ t. length_by t h xs) test

pub long_second : (packet : List ℕ) → 2 ≤ length packet → length packet < 3 → 128 ≤ slice_index packet 1 → fast_length packet ≡ None
long_second [] many few large = absurd (omega (arith, many))
long_second (v ∷ []) many few large = absurd (omega (arith, many))
long_second (v ∷ h ∷ []) many few large =
    let above : 128 ≤ h = large in
    let test : nat_lt h 128 ≡ false = grind (arith, nat_tests, above) in
    ap (λ t. length_by t h []) test
long_second (v ∷ h ∷ l ∷ xs) many few large = absurd (omega (arith, few))

pub third : (packet : List ℕ) → 3 ≤ length packet → 128 ≤ slice_index packet 1 → fast_length packet ≡ Some (3, 256 * (slice_index packet 1 - 128) + slice_index packet 2)
third [] many large = absurd (omega (arith, many))
third (v ∷ []) many large = absurd (omega (arith, many))
third (v ∷ h ∷ []) many large = absurd (omega (arith, many))
third (v ∷ h ∷ l ∷ xs) many large =
    let above : 128 ≤ h = large in
    let test : nat_lt h 128 ≡ false = grind (arith, nat_tests, above) in
    ap (λ t. length_by t h (l ∷ xs)) test
