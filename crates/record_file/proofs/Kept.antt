-- The picture that is kept, and how many entries a legal journal has.
use Rattle.std.proofs.Common.{◌≡◌, ◌≢◌, ℕ, zero, suc, ◌+◌, ◌*◌, ◌/◌, ◌%◌, ◌<◌, ◌≤◌, Bool, true, false, List, [], ◌∷◌, ◌++◌, length, mod-lt, mul_comm, zero-add, refl, ap, sym, ◌∙◌, arith, Some, None, eq-eqb}
use Rattle.std.specs.Prelude.{Option, option_map, cond, find, is_some, is_none, nat_le, ◌==◌, pos, ◌+ℤ◌, if◌then◌else◌}
use Rattle.std.proofs.lemmas.Bool.{and_parts, eqb-true}
use Rattle.std.proofs.lemmas.Bool.Decides.{nat_tests}
use Rattle.std.proofs.lemmas.Int.{ints}
use Rattle.std.proofs.lemmas.Nat.{div_below}
use Rattle.std.proofs.lemmas.List.{length-append}
use Rattle.px_core.specs.declared.surface.Size.{Size}
use Rattle.px_core.specs.Picture.{pixel_count, nat_of, item, rows_of}
use Rattle.px_core.specs.Rectangle.{whole, boxed, cut_out, pixel_of, is_inside, is_session_size}
use Rattle.px_core.proofs.Pictures.{same_items, length-listed, item-listed, pixel-rows_of}
use Rattle.session_rules.specs.declared.entry.Entry.{Entry}
use Rattle.session_rules.specs.declared.entry.Entry.TheVariants.{Join, Leave, Give, Input, Draw}
use Rattle.session_rules.specs.Journal.{Head, Viewer, Reached, refusal_of, is_present, without_viewer, reached_at_first, reached_after, reached_after_entry, are_legal_after, picture_after_entries, state_after, IsLegalJournal}
use Rattle.session_rules.specs.Journal.Refusal.{Unfit}
use Rattle.session_rules.proofs.OwnSteps.{tests-legal, unless-none, is_none-≡}
use Rattle.session_rules.proofs.Sound.{sound_reached}
use Rattle.session_rules.proofs.Journals.{reached_at-append, length-reached_after}
use Rattle.session_core.specs.SessionModel.{SessionModel}
use Rattle.surface_parts.specs.Surfaces.{SurfaceOf}
use Rattle.session_core.proofs.Sessions.{reached_at_end}
use Rattle.record_file.specs.Replaying.{picture_of}
use Rattle.record_file.specs.Told.{picture_counted}

-- ---- the pixels of a whole picture

column_below : (w h i : ℕ) → i < w * h → i % w < w
column_below zero h i k = absurd (omega (arith, k))
column_below (suc w) h i k = mod-lt i (omega arith)

row_below : (w h i : ℕ) → i < w * h → i / w < h
row_below zero h i k = absurd (omega (arith, k))
row_below (suc w) h i k = div_below i (suc w) h (omega arith) (rw (mul_comm h (suc w)) k)

at_place : (w h i : ℕ) → i < w * h → w * (i / w) + i % w ≡ i
at_place zero h i k = absurd (omega (arith, k))
at_place (suc w) h i k = omega arith

from_zero : (n : ℕ) → nat_of (pos 0 +ℤ pos n) ≡ n
from_zero n = zero-add n

whole_pixel : (size : Size) (ps : List ℕ) (k : ℕ) → k < size.w * size.h → pixel_of (rows_of size.w size.h ps) 0 (whole size) k ≡ item ps k 0
whole_pixel size ps k below =
    let rows = rows_of size.w size.h ps in
    ap (λ y. item (item rows y []) (nat_of (pos 0 +ℤ pos (k % size.w))) 0) (from_zero (k / size.w))
    ∙ ap (λ x. item (item rows (k / size.w) []) x 0) (from_zero (k % size.w))
    ∙ pixel-rows_of size.w size.h ps (k % size.w) (k / size.w) 0 (column_below size.w size.h k below) (row_below size.w size.h k below)
    ∙ ap (λ i. item ps i 0) (at_place size.w size.h k below)

pub whole_cut : (size : Size) (ps : List ℕ) → length ps ≡ pixel_count size → cut_out size ps 0 (whole size) ≡ ps
whole_cut size ps e =
    let n = size.w * size.h in
    let f = pixel_of (rows_of size.w size.h ps) 0 (whole size) in
    same_items 0 (cut_out size ps 0 (whole size)) ps (length-listed n 0 f ∙ sym e) (λ k lt.
    let below : k < n = omega (arith, lt, length-listed n 0 f) in
    item-listed n 0 f k 0 below ∙ ap f (zero-add k) ∙ whole_pixel size ps k below)

pub whole_inside : (size : Size) → is_inside size (whole size) ≡ true
whole_inside size = grind (arith, ints, nat_tests)

-- the picture after a legal journal has the session's pixels
pub picture_sized : (head : Head) (j : List Entry) → is_session_size head.size.w head.size.h ≡ true → IsLegalJournal head j → length (picture_after_entries head.size j (length j)) ≡ pixel_count head.size
picture_sized head j size legal =
    ap (λ (r : Reached). length r.state.surface.picture) (reached_at_end head.size j) ∙ (sound_reached head j size legal).agrees.sized.pixels

-- ---- the picture after so many entries

same_picture : (size : Size) (j more : List Entry) (stop : ℕ) → stop ≤ length j → picture_after_entries size (j ++ more) stop ≡ picture_after_entries size j stop
same_picture size j more stop within = ap (λ (r : Reached). r.state.surface.picture) (reached_at-append size j more stop within)

counted_push : (size : Size) (head : Head) (j : List Entry) (e : Entry) (stop : ℕ) → head.size ≡ size
    → (if length (j ++ e ∷ []) == stop then Some (picture_after_entries size (j ++ e ∷ []) (length (j ++ e ∷ []))) else (if nat_le stop (length j) then Some (picture_after_entries size j stop) else None))
    ≡ (if nat_le stop (length (j ++ e ∷ [])) then Some (picture_after_entries size (j ++ e ∷ []) stop) else None)
counted_push size head j e stop same = by (length (j ++ e ∷ []) == stop) (nat_le stop (length j)) refl refl
  where
    long : length (j ++ e ∷ []) ≡ length j + 1
    long = length-append j (e ∷ [])

    here : nat_le stop (length (j ++ e ∷ [])) ≡ true → Some (picture_after_entries size (j ++ e ∷ []) stop)
        ≡ (if nat_le stop (length (j ++ e ∷ [])) then Some (picture_after_entries size (j ++ e ∷ []) stop) else None)
    here t = rw t refl

    by : (a b : Bool) → (length (j ++ e ∷ []) == stop) ≡ a → nat_le stop (length j) ≡ b
        → (if a then Some (picture_after_entries size (j ++ e ∷ []) (length (j ++ e ∷ []))) else (if b then Some (picture_after_entries size j stop) else None))
        ≡ (if nat_le stop (length (j ++ e ∷ [])) then Some (picture_after_entries size (j ++ e ∷ []) stop) else None)
    by true b f g =
        let at : length (j ++ e ∷ []) ≡ stop = eqb-true (length (j ++ e ∷ [])) stop f in
        let t : nat_le stop (length (j ++ e ∷ [])) ≡ true = grind (arith, nat_tests, at) in
        ap (λ n. Some (picture_after_entries size (j ++ e ∷ []) n)) at ∙ here t
    by false true f g =
        let within : stop ≤ length j = grind (arith, nat_tests, g) in
        let t : nat_le stop (length (j ++ e ∷ [])) ≡ true = grind (arith, nat_tests, within, long) in
        ap Some (sym (same_picture size j (e ∷ []) stop within)) ∙ here t
    by false false f g =
        let t : nat_le stop (length (j ++ e ∷ [])) ≡ false = grind (arith, nat_tests, f, g, long) in
        rw t refl

-- after one more entry
pub picture_next : (s : SessionModel) (head : Head) (j : List Entry) (e : Entry) (stop : ℕ) (other : Option (List ℕ)) → s.head ≡ head → s.journal ≡ j ++ e ∷ []
    → other ≡ picture_of (Some head) j stop → picture_counted s stop other ≡ picture_of (Some s.head) s.journal stop
picture_next s head j e stop other same is kept =
    ap (picture_counted s stop) kept
    ∙ ap (λ (h : Head). if length s.journal == stop then Some (picture_after_entries h.size s.journal (length s.journal)) else picture_of (Some head) j stop) same
    ∙ ap (λ i. if length i == stop then Some (picture_after_entries head.size i (length i)) else picture_of (Some head) j stop) is
    ∙ counted_push head.size head j e stop refl
    ∙ ap (λ i. picture_of (Some head) i stop) (sym is)
    ∙ ap (λ h. picture_of (Some h) s.journal stop) (sym same)

-- before the first entry
pub picture_first : (s : SessionModel) (stop : ℕ) (other : Option (List ℕ)) → s.journal ≡ [] → other ≡ None → picture_counted s stop other ≡ picture_of (Some s.head) s.journal stop
picture_first s stop other is none =
    ap (picture_counted s stop) none
    ∙ ap (λ i. if length i == stop then Some (picture_after_entries s.head.size i (length i)) else None) is
    ∙ by (0 == stop) (nat_le stop 0) refl refl
    ∙ ap (λ i. picture_of (Some s.head) i stop) (sym is)
  where
    by : (a b : Bool) → (0 == stop) ≡ a → nat_le stop 0 ≡ b
        → (if a then Some (picture_after_entries s.head.size [] 0) else None) ≡ (if b then Some (picture_after_entries s.head.size [] stop) else None)
    by true true f g = ap (λ n. Some (picture_after_entries s.head.size [] n)) (eqb-true 0 stop f)
    by true false f g = absurd (grind (arith, nat_tests, f, g))
    by false true f g = absurd (grind (arith, nat_tests, f, g))
    by false false f g = refl

-- ---- how many entries

length_without : (v : ℕ) (xs : List Viewer) → is_present v xs ≡ true → length (without_viewer v xs) + 1 ≡ length xs
length_without v [] h = absurd (cc h)
length_without v (x ∷ xs) h = by (x.number == v) refl h (length_without v xs)
  where
    by : (b : Bool) → (x.number == v) ≡ b → is_some (option_map (λ (y : Viewer). y.role) (cond b (Some x) (find (λ (y : Viewer). y.number == v) xs))) ≡ true
        → (is_present v xs ≡ true → length (without_viewer v xs) + 1 ≡ length xs) → length (if b then xs else x ∷ without_viewer v xs) + 1 ≡ suc (length xs)
    by true e k others = omega arith
    by false e k others = omega (arith, others k)

-- each viewer that is present has joined and hasn't left
abbrev IsCounted : Reached → Type 0
IsCounted r = r.length + length r.viewers ≤ 2 * r.joins + r.limited

counted_after : (head : Head) (r : Reached) (e : Entry) → refusal_of head r e ≡ None → IsCounted r → IsCounted (reached_after_entry head.size r e)
counted_after head r (Join v role) legal h = let l = length-append r.viewers (record { number = v; role = role } ∷ []) in omega (arith, h, l)
counted_after head r (Leave v) legal h =
    let l = length_without v r.viewers (unless-none (is_present v r.viewers) Unfit (tests-legal head r (Leave v) legal).0) in
    omega (arith, h, l)
counted_after head r (Give by to) legal h = omega (arith, h)
counted_after head r (Input by e) legal h = omega (arith, h)
counted_after head r (Draw by d) legal h = omega (arith, h)

counted_from : (head : Head) (r : Reached) (j : List Entry) → are_legal_after head r j ≡ true → IsCounted r → IsCounted (reached_after head.size r j)
counted_from head r [] legal h = h
counted_from head r (e ∷ es) legal h =
    let k = and_parts (is_none (refusal_of head r e)) (are_legal_after head (reached_after_entry head.size r e) es) legal in
    counted_from head (reached_after_entry head.size r e) es k.1 (counted_after head r e (is_none-≡ (refusal_of head r e) k.0) h)

pub few_entries : (head : Head) (j : List Entry) → is_session_size head.size.w head.size.h ≡ true → IsLegalJournal head j → length j ≤ 1179646
few_entries head j size legal =
    let c = counted_from head (reached_at_first head.size) j legal (omega arith) in
    let s = sound_reached head j size legal in
    let l = length-reached_after head.size (reached_at_first head.size) j in
    omega (arith, c, s.few_joins, s.few_entries, l)

-- ---- what is counted

pub counted_there : (s : SessionModel) (stop n : ℕ) (other : Option (List ℕ)) (ps : List ℕ) → n ≡ length s.journal → n ≡ stop → ps ≡ picture_after_entries s.head.size s.journal (length s.journal)
    → Some ps ≡ picture_counted s stop other
counted_there s stop n other ps counted here e = by (length s.journal == stop) (eq-eqb (length s.journal) stop (sym counted ∙ here))
  where
    by : (t : Bool) → t ≡ true → Some ps ≡ (if t then Some (picture_after_entries s.head.size s.journal (length s.journal)) else other)
    by true k = ap Some e
    by false k = absurd (cc k)

pub counted_elsewhere : (s : SessionModel) (stop n : ℕ) (other : Option (List ℕ)) → n ≡ length s.journal → n ≢ stop → other ≡ picture_counted s stop other
counted_elsewhere s stop n other counted ne = by (length s.journal == stop) refl
  where
    by : (t : Bool) → (length s.journal == stop) ≡ t → other ≡ (if t then Some (picture_after_entries s.head.size s.journal (length s.journal)) else other)
    by true k = absurd (ne (counted ∙ eqb-true (length s.journal) stop k))
    by false k = refl

-- the pixels of a session's surface
pub pixels_are : (s : SessionModel) (f : SurfaceOf) (size : Size) → size ≡ s.head.size → f ≡ record { size = s.head.size; state = (state_after s.head.size s.journal (length s.journal)).surface }
    → is_session_size s.head.size.w s.head.size.h ≡ true → IsLegalJournal s.head s.journal
    → cut_out f.size f.state.picture 0 (boxed (pos 0) (pos 0) size.w size.h) ≡ picture_after_entries s.head.size s.journal (length s.journal)
pixels_are s f size sized is right legal =
    ap (λ (g : SurfaceOf). cut_out g.size g.state.picture 0 (whole size)) is
    ∙ ap (λ z. cut_out s.head.size (picture_after_entries s.head.size s.journal (length s.journal)) 0 (whole z)) sized
    ∙ whole_cut s.head.size (picture_after_entries s.head.size s.journal (length s.journal)) (picture_sized s.head s.journal right legal)
