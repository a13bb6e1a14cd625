-- A whole packet that is opened where it lies: the bytes but the last one go on so, and with that one it gives its updates.
use Rattle.std.proofs.Common.{◌≡◌, ◌≤◌, ◌<◌, ◌+◌, ◌*◌, ◌-◌, inl, inr, ℕ, zero, suc, Bool, true, false, List, [], ◌∷◌, ◌++◌, length, take, drop, min, refl, ap, sym, subst, ◌∙◌, arith}
use Rattle.std.specs.Prelude.{nat_le, nat_lt, slice_index, Option, Some, None, Ok, Err, if◌then◌else◌}
use Rattle.std.proofs.lemmas.Bool.Decides.{nat_tests}
use Rattle.std.proofs.lemmas.List.{length-take-le}
use Rattle.wire_num.specs.Field.{Read}
use Rattle.tpkt_x224.specs.Tpkt.{IsPacket}
use Rattle.share_pdu.specs.Share.{Within}
use Rattle.share_pdu.specs.Packet.{indication_at}
use Rattle.order_means.specs.Updates.{BodyForm, Cutting, cutting, Updates, updates, updates_by, updates_from, before_updates, stage_if, fast_begun, fast_update_at, then_updates, more_updates, whole_packet, refusal_in}
use Rattle.order_means.specs.Updates.Stage.{Between, Inside, FastLong}
use Rattle.order_means.proofs.Pieces.{cut_joined}
use Rattle.update_read.specs.declared.state.State.{State}
use Rattle.update_read.specs.declared.state.State.TheVariants.{Open, Update, Ended, Refused as RefusedAt}
use Rattle.update_read.specs.Cutters.{CutterOf, capped, fast_length, length_by, stage_of, IsOpen, IsWhole, Tells, Gives, Stands, place_after, begins_with, is_between, IsSoundBy}
use Rattle.update_read.specs.Wholes.{IsCounted, IsFastWhole, IsWholePacket}
use Rattle.update_read.specs.Opens.{Ends, TellsWhole, MayOpen, Opens}
use Rattle.update_read.proofs.Judged.{after_byte, is_whole}
use Rattle.update_read.proofs.FastJudged.{fast_goes_on, fast_is_whole}
use Rattle.update_read.proofs.Pushed.{sound_by}
use Rattle.update_read.proofs.Taken.{gone, slow_from, fast_from, open_stage}

-- these bytes are the front of a packet that goes on
abbrev Goes : Bool → ℕ → List ℕ → Type 0
Goes fast s xs = (updates_from fast (cutting s Between) xs ≡ gone s xs) × IsOpen xs

-- ---- a header of four bytes

four_gone : (fast : Bool) (s b h l : ℕ) → 7 ≤ 256 * h + l → updates_from fast (cutting s Between) (3 ∷ b ∷ h ∷ l ∷ []) ≡ gone s (3 ∷ b ∷ h ∷ l ∷ [])
four_gone fast s b h l enough =
    let test : nat_le 7 (256 * h + l) ≡ true = grind (arith, nat_tests, enough) in
    let place : ((s + 1) + 1 + 1) + 1 ≡ s + 4 = omega arith in
    let none : (256 * h + l) - 5 ≡ (256 * h + l - 5) - 0 = omega arith in
    ap (λ t. updates [] (cutting (((s + 1) + 1 + 1) + 1) (stage_if t (Inside ((256 * h + l) - 5) b h l []) (((s + 1) + 1 + 1) - 1)))) test
    ∙ ap (λ (n : ℕ). updates [] (cutting n (Inside ((256 * h + l) - 5) b h l []))) place
    ∙ ap (λ (n : ℕ). updates [] (cutting (s + 4) (Inside n b h l []))) none

four_then : (fast : Bool) (s b h l : ℕ) (xs : List ℕ) → updates_from fast (cutting s Between) (3 ∷ b ∷ h ∷ l ∷ xs)
    ≡ (let u = updates_from fast (cutting s Between) (3 ∷ b ∷ h ∷ l ∷ []) in before_updates u.bodies (updates_from fast u.next xs))
four_then fast s b h l xs = refl

slow_goes : (fast : Bool) (s b h l : ℕ) (xs : List ℕ) → 7 ≤ 256 * h + l → 5 + length xs ≤ 256 * h + l → 256 * h + l ≤ 65535 → Goes fast s (3 ∷ b ∷ h ∷ l ∷ xs)
slow_goes fast s b h l xs enough fits most = (
  four_then fast s b h l xs ∙ ap (λ (u : Updates). before_updates u.bodies (updates_from fast u.next xs)) (four_gone fast s b h l enough)
      ∙ slow_from fast s 2 b h l [] xs (omega (arith, fits)) most,
  (fits, most),
)

-- ---- one of the fast path

-- with a length of one byte
short_goes : (s l : ℕ) (xs : List ℕ) → nat_lt l 128 ≡ true → 2 + 1 + length xs ≤ l → l ≤ 32767 → Goes true s (0 ∷ l ∷ xs)
short_goes s l xs t fits most =
    let is : fast_length (0 ∷ l ∷ []) ≡ Some (2, l) = ap (λ c. length_by c l []) t in
    let on = fast_goes_on true s (0 ∷ l ∷ []) (0 ∷ []) l (2, l) refl refl is (omega arith) most (omega (arith, fits)) in
    let more = fast_from true s (l ∷ []) xs (2, l) is on.1 (omega (arith, fits)) most in
    (ap (λ (u : Updates). before_updates u.bodies (updates_from true u.next xs)) on.0 ∙ more.0, more.1)

-- the first one of two
two_gone : (s h : ℕ) → nat_lt h 128 ≡ false → (updates_by true (s + 1) (stage_of (0 ∷ [])) h ≡ gone s (0 ∷ h ∷ [])) × IsOpen (0 ∷ h ∷ [])
two_gone s h t =
    let none : fast_length (0 ∷ h ∷ []) ≡ None = ap (λ c. length_by c h []) t in
    let place : (s + 1) + 1 ≡ s + 2 = omega arith in (
      ap (λ c. if c then fast_begun ((s + 1) + 1) (s + 1) h (0 ∷ h ∷ []) else updates [] (cutting ((s + 1) + 1) (FastLong h))) t
          ∙ ap (λ (n : ℕ). updates [] (cutting n (FastLong h))) place ∙ rw none refl,
      rw none (omega arith),
    )

-- of two
long_goes : (s h l : ℕ) (xs : List ℕ) → nat_lt h 128 ≡ false → 3 + 1 + length xs ≤ 256 * (h - 128) + l → 256 * (h - 128) + l ≤ 32767 → Goes true s (0 ∷ h ∷ l ∷ xs)
long_goes s h l xs t fits most =
    let is : fast_length (0 ∷ h ∷ l ∷ []) ≡ Some (3, 256 * (h - 128) + l) = ap (λ c. length_by c h (l ∷ [])) t in
    let on = fast_goes_on true s (0 ∷ h ∷ l ∷ []) (0 ∷ h ∷ []) l (3, 256 * (h - 128) + l) refl refl is (two_gone s h t).1 most (omega (arith, fits)) in
    let more = fast_from true s (h ∷ l ∷ []) xs (3, 256 * (h - 128) + l) is on.1 (omega (arith, fits)) most in (
      ap (λ (u : Updates). before_updates u.bodies (updates_from true u.next (l ∷ xs))) (two_gone s h t).0
          ∙ ap (λ (u : Updates). before_updates u.bodies (updates_from true u.next xs)) on.0 ∙ more.0,
      more.1,
    )

-- ---- all bytes but the last one

record Last (xs : List ℕ) : Type 0 where
  pub front : List ℕ
  pub last : ℕ
  pub whole : xs ≡ front ++ last ∷ []
  pub size : length xs ≡ length front + 1

last_of : (x : ℕ) (xs : List ℕ) → Last (x ∷ xs)
last_of x [] = record { front = []; last = x; whole = refl; size = refl }
last_of x (y ∷ ys) =
    let l = last_of y ys in
    let size = l.size in
    record { front = x ∷ l.front; last = l.last; whole = ap (λ (zs : List ℕ). x ∷ zs) l.whole; size = omega (arith, size) }

record Split (fast : Bool) (s : ℕ) (packet : List ℕ) : Type 0 where
  pub front : List ℕ
  pub last : ℕ
  pub whole : packet ≡ front ++ last ∷ []
  pub goes : Goes fast s front

slow_split : (fast : Bool) (s v r h l : ℕ) (carried : List ℕ) → IsPacket (v ∷ r ∷ h ∷ l ∷ carried) → 256 * h + l ≤ 65535 → Split fast s (v ∷ r ∷ h ∷ l ∷ carried)
slow_split fast s v r h l [] is most = absurd (let few = is.2 in omega (arith, few))
slow_split fast s v r h l (x ∷ xs) is most =
    let p = last_of x xs in
    let size = p.size in
    let total = is.1 in
    let enough = is.2 in
    subst (λ (w : ℕ). Split fast s (w ∷ r ∷ h ∷ l ∷ x ∷ xs)) (sym is.0)
    (record {
      front = 3 ∷ r ∷ h ∷ l ∷ p.front;
      last = p.last;
      whole = ap (λ (zs : List ℕ). 3 ∷ r ∷ h ∷ l ∷ zs) p.whole;
      goes = slow_goes fast s r h l p.front (omega (arith, total, enough)) (omega (arith, total, size)) most;
    })

one_goes : (s : ℕ) → Goes true s (0 ∷ [])
one_goes s = (refl, omega arith)

short_split : (s h : ℕ) (bs : List ℕ) → nat_lt h 128 ≡ true → 2 ≤ h → h ≡ length (0 ∷ h ∷ bs) → Split true s (0 ∷ h ∷ bs)
short_split s h [] t low size = record { front = 0 ∷ []; last = h; whole = refl; goes = one_goes s }
short_split s h (b ∷ bs) t low size =
    let p = last_of b bs in
    let one = p.size in
    let small : h < 128 = grind (arith, nat_tests, t) in
    record { front = 0 ∷ h ∷ p.front; last = p.last; whole = ap (λ (zs : List ℕ). 0 ∷ h ∷ zs) p.whole; goes = short_goes s h p.front t (omega (arith, one, size)) (omega (arith, small)) }

long_split : (s h l : ℕ) (bs : List ℕ) → nat_lt h 128 ≡ false → 256 * (h - 128) + l ≡ length (0 ∷ h ∷ l ∷ bs) → 256 * (h - 128) + l ≤ 32767 → Split true s (0 ∷ h ∷ l ∷ bs)
long_split s h l [] t size most =
    let two = two_gone s h t in
    record {
      front = 0 ∷ h ∷ [];
      last = l;
      whole = refl;
      goes = (ap (λ (u : Updates). before_updates u.bodies (updates_from true u.next [])) two.0, two.1);
    }
long_split s h l (b ∷ bs) t size most =
    let p = last_of b bs in
    let one = p.size in
    record { front = 0 ∷ h ∷ l ∷ p.front; last = p.last; whole = ap (λ (zs : List ℕ). 0 ∷ h ∷ l ∷ zs) p.whole; goes = long_goes s h l p.front t (omega (arith, one, size)) most }

fast_split : (t : Bool) (s h : ℕ) (bs : List ℕ) → nat_lt h 128 ≡ t → IsCounted (length_by t h bs) (length (0 ∷ h ∷ bs)) → ((m : ℕ × ℕ) → length_by t h bs ≡ Some m → m.1 ≤ 32767) → Split true s (0 ∷ h ∷ bs)
fast_split true s h bs t is most = short_split s h bs t is.0 is.1
fast_split false s h [] t is most = absurd is
fast_split false s h (l ∷ bs) t is most = long_split s h l bs t is.1 (most (3, 256 * (h - 128) + l) refl)

-- ---- what is behind it

packet_ends : (end : ℕ) (r : Read Within) → Ends end (whole_packet end r)
packet_ends end (Ok v) = λ none. refl
packet_ends end (Err left) = λ none. absurd (let no : ⊥ = cc in no)

then_ends : (end : ℕ) (r : Read (BodyForm × List ℕ)) (others : List ℕ → Updates) → ((bs : List ℕ) → Ends end (others bs)) → Ends end (then_updates end r others)
then_ends end (Ok v) others h = h v.1
then_ends end (Err left) others h = λ none. absurd (let no : ⊥ = cc in no)

more_ends : (most end : ℕ) (bs : List ℕ) → Ends end (more_updates most end bs)
more_ends zero end [] = λ none. refl
more_ends zero end (b ∷ bs) = λ none. refl
more_ends (suc most) end [] = λ none. refl
more_ends (suc most) end (b ∷ bs) = then_ends end (fast_update_at (b ∷ bs)) (more_updates most end) (more_ends most end)

-- ---- of either kind

takes_fast : (fast : Bool) → begins_with fast 0 ≡ true → fast ≡ true
takes_fast true e = refl
takes_fast false e = absurd (let no : ⊥ = cc in no)

version_is : (fast : Bool) (a : ℕ) → begins_with fast (suc a) ≡ true → suc a ≡ 3
version_is true a e = grind (arith, nat_tests, e)
version_is false a e = grind (arith, nat_tests, e)

-- what the judgement of a packet says
pub record Judges (state : State) (fast : Bool) (start : ℕ) (packet : List ℕ) : Type 0 where
  pub told : (s : ℕ) (front : List ℕ) (b : ℕ) → packet ≡ front ++ b ∷ [] → IsOpen front → start ≡ capped s → Tells state (after_byte fast s front b) s packet
  pub slow : (slice_index packet 0 ≡ 0 → ⊥) → 4 ≤ length packet → 256 * slice_index packet 2 + slice_index packet 3 ≤ 65535
  pub fast_most : slice_index packet 0 ≡ 0 → (m : ℕ × ℕ) → fast_length packet ≡ Some m → m.1 ≤ 32767

tells_by : (state : State) (fast : Bool) (start s : ℕ) (packet : List ℕ) → Judges state fast start packet → start ≡ capped s → (p : Split fast s packet) → Ends (s + length packet) (after_byte fast s p.front p.last)
    → TellsWhole state fast s packet
tells_by state fast start s packet j at p ends = record {
  front = p.front;
  last = p.last;
  whole = p.whole;
  goes_on = p.goes.1;
  goes = p.goes.0;
  told = j.told s p.front p.last p.whole p.goes.1 at;
  ends = ends;
}

slow_tells : (state : State) (fast : Bool) (start s : ℕ) (packet : List ℕ) → Judges state fast start packet → start ≡ capped s → IsPacket packet → TellsWhole state fast s packet
slow_tells state fast start s (v ∷ r ∷ h ∷ l ∷ carried) j at is =
    let three = is.0 in
    let total = is.1 in
    let enough = is.2 in
    let slow : slice_index (v ∷ r ∷ h ∷ l ∷ carried) 0 ≡ 0 → ⊥ = λ first. absurd (let zero_is : v ≡ 0 = first in omega (arith, three, zero_is)) in
    let p = slow_split fast s v r h l carried is (j.slow slow (omega arith)) in
    let whole : IsWhole (v ∷ r ∷ h ∷ l ∷ carried) = omega (arith, total) in
    let e = is_whole fast s (v ∷ r ∷ h ∷ l ∷ carried) p.front p.last p.whole p.goes.1 (omega (arith, enough)) whole slow in
    tells_by state fast start s (v ∷ r ∷ h ∷ l ∷ carried) j at p (subst (Ends (s + length (v ∷ r ∷ h ∷ l ∷ carried))) (sym e) (packet_ends _ (indication_at (drop 4 (v ∷ r ∷ h ∷ l ∷ carried)))))
slow_tells state fast start s (v ∷ r ∷ h ∷ []) j at is = absurd is
slow_tells state fast start s (v ∷ r ∷ []) j at is = absurd is
slow_tells state fast start s (v ∷ []) j at is = absurd is
slow_tells state fast start s [] j at is = absurd is

counted_tells : (o : Option (ℕ × ℕ)) (state : State) (start s h : ℕ) (bs : List ℕ) → Judges state true start (0 ∷ h ∷ bs) → start ≡ capped s → fast_length (0 ∷ h ∷ bs) ≡ o → IsCounted o (length (0 ∷ h ∷ bs))
    → Split true s (0 ∷ h ∷ bs) → TellsWhole state true s (0 ∷ h ∷ bs)
counted_tells None state start s h bs j at e is p = absurd is
counted_tells (Some m) state start s h bs j at e is p =
    let size = is.1 in
    let same = fast_is_whole true s (0 ∷ h ∷ bs) p.front p.last m p.whole refl e p.goes.1 (omega (arith, size)) (λ all. is.0) in
    tells_by state true start s (0 ∷ h ∷ bs) j at p (subst (Ends (s + length (0 ∷ h ∷ bs))) (sym same) (then_ends _ (fast_update_at (drop m.0 (0 ∷ h ∷ bs))) _ (more_ends _ _)))

fast_tells : (state : State) (start s : ℕ) (packet : List ℕ) → Judges state true start packet → start ≡ capped s → IsFastWhole packet → TellsWhole state true s packet
fast_tells state start s [] j at is = absurd is
fast_tells state start s (suc b ∷ bs) j at is = absurd (let none = is.0 in omega (arith, none))
fast_tells state start s (zero ∷ []) j at is = absurd is.1
fast_tells state start s (zero ∷ h ∷ bs) j at is =
    counted_tells (fast_length (0 ∷ h ∷ bs)) state start s h bs j at refl is.1 (fast_split (nat_lt h 128) s h bs refl is.1 (j.fast_most refl))

first_zero : (packet : List ℕ) → IsFastWhole packet → slice_index packet 0 ≡ 0
first_zero [] is = absurd is
first_zero (b ∷ bs) is = is.0

-- a whole packet of the viewer's
pub tells_whole : (state : State) (fast : Bool) (start s : ℕ) (packet : List ℕ) → Judges state fast start packet → start ≡ capped s → begins_with fast (slice_index packet 0) ≡ true → IsWholePacket packet → TellsWhole state fast s packet
tells_whole state fast start s packet j at begins (inl is) = slow_tells state fast start s packet j at is
tells_whole state fast start s packet j at begins (inr is) =
    let taken : fast ≡ true = takes_fast fast (subst (λ (v : ℕ). begins_with fast v ≡ true) (first_zero packet is) begins) in
    subst (λ (f : Bool). TellsWhole state f s packet) (sym taken) (fast_tells state start s packet (subst (λ (f : Bool). Judges state f start packet) taken j) at is)

-- ---- a cutter between packets

-- it is between packets
pub record IsBetween (start : ℕ) (c : Cutting) : Type 0 where
  pub s : ℕ
  pub is : c ≡ cutting s Between
  pub place : start ≡ capped s

pub between : (state : State) (fast : Bool) (items : List ℕ) (start count : ℕ) (c : Cutting) → is_between state count ≡ true → count ≤ length items
    → Stands c (record { fast = fast; start = start; packet = take count items; state = state }) → IsBetween (place_after state start count).0 c
between Open fast items start count c e room stands =
    let none : count ≡ 0 = grind (arith, nat_tests, e) in
    let here : c ≡ cutting (stands.0 + length (take count items)) (stage_of (take count items)) = ap (λ (u : Updates). u.next) stands.2.0 in
    let zero_more : stands.0 + 0 ≡ stands.0 = omega arith in
    record {
      s = stands.0;
      is = here ∙ ap (λ (n : ℕ). cutting (stands.0 + length (take n items)) (stage_of (take n items))) none ∙ ap (λ (n : ℕ). cutting n Between) zero_more;
      place = stands.1;
    }
between Ended fast items start count c e room stands =
    let size : length (take count items) ≡ count = length-take-le count items room in
    let before = stands.1 in
    record {
      s = stands.0 + length (take count items);
      is = ap (λ (u : Updates). u.next) stands.2;
      place = omega (arith, before, size);
    }
between (Update found) fast items start count c e room stands = absurd (let no : ⊥ = cc in no)
between (RefusedAt at) fast items start count c e room stands = absurd (let no : ⊥ = cc in no)

-- ---- opened

opens_there : (m : CutterOf) (s : ℕ) → m.start ≡ capped s → TellsWhole m.state m.fast s m.packet → Opens (cutting s Between) m.packet m
opens_there m s at t =
    let joined : updates_from m.fast (cutting s Between) m.packet ≡ before_updates [] (updates_from m.fast (cutting (s + length t.front) (stage_of t.front)) (t.last ∷ [])) =
    ap (updates_from m.fast (cutting s Between)) t.whole ∙ cut_joined m.fast (cutting s Between) t.front (t.last ∷ [])
    ∙ ap (λ (u : Updates). before_updates u.bodies (updates_from m.fast u.next (t.last ∷ []))) t.goes in
    record {
      front = t.front;
      last = t.last;
      whole = t.whole;
      before = record { fast = m.fast; start = m.start; packet = t.front; state = Open };
      fast = refl;
      goes = (
        ap (λ (u : Updates). u.bodies) t.goes,
        (s, at, (ap (λ (u : Updates). updates [] u.next) t.goes, t.goes_on)),
        λ none. ap (λ (u : Updates). refusal_in u.next.stage) t.goes ∙ open_stage t.front,
      );
      gives = subst (λ (u : Updates). Gives (updates_by m.fast u.next.place u.next.stage t.last) m) (sym t.goes) (s, at, t.told);
      ends = subst (Ends (s + length m.packet)) (sym joined) t.ends;
    }

pub opens : (state : State) (fast : Bool) (items : List ℕ) (start count : ℕ) (m : CutterOf) (c : Cutting) → is_between state count ≡ true → count ≤ length items → m.start ≡ (place_after state start count).0
    → begins_with m.fast (slice_index m.packet 0) ≡ true → IsWholePacket m.packet → Judges m.state m.fast m.start m.packet
    → Stands c (record { fast = fast; start = start; packet = take count items; state = state }) → Opens c m.packet m
opens state fast items start count m c e room first begins whole j stands =
    let b = between state fast items start count c e room stands in
    let at : m.start ≡ capped b.s = first ∙ b.place in
    subst (λ (x : Cutting). Opens x m.packet m) (sym b.is) (opens_there m b.s at (tells_whole m.state m.fast m.start b.s m.packet j at begins whole))

-- it has come to what is sound
pub opens_sound : (state : State) (fast : Bool) (start : ℕ) (packet : List ℕ) → Judges state fast start packet → start ≡ capped start → (k : CutterOf) → k.fast ≡ fast → MayOpen k packet → IsSoundBy state packet
opens_sound state fast start packet j at k same may =
    let t = tells_whole state fast start start packet j at (subst (λ (f : Bool). begins_with f (slice_index packet 0) ≡ true) same may.begins) may.whole in
    sound_by state _ start packet t.told

pub some_bytes : (packet : List ℕ) → IsWholePacket packet → 1 ≤ length packet
some_bytes [] (inl is) = absurd is
some_bytes [] (inr is) = absurd is
some_bytes (b ∷ bs) is = omega arith

-- past it
pub passed : (state : State) (fast : Bool) (items all : List ℕ) (start count first next n : ℕ) (c : Cutting) → is_between state count ≡ true → count ≤ length items → first ≡ (place_after state start count).0
    → next ≡ min (first + n) 18446744073709551615 → Stands c (record { fast = fast; start = start; packet = take count items; state = state })
    → Stands (cutting (c.place + n) Between) (record { fast = fast; start = next; packet = take 0 all; state = Open })
passed state fast items all start count first next n c e room at there stands =
    let b = between state fast items start count c e room stands in
    let place = b.place in
    let here : c.place ≡ b.s = ap (λ (x : Cutting). x.place) b.is in
    let none : b.s + n ≡ c.place + n = omega (arith, here) in
    let zero_more : (b.s + n) + 0 ≡ b.s + n = omega arith in
    (b.s + n, omega (arith, at, there, place), (ap (λ (k : ℕ). updates [] (cutting k Between)) (sym none ∙ sym zero_more), tt))
