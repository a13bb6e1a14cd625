-- Items that are read one by one.
use Rattle.std.proofs.Common.{◌≡◌, ◌<◌, ◌≤◌, ℕ, zero, suc, ◌+◌, ◌-◌, ◌*◌, List, [], ◌∷◌, ◌++◌, length, take, drop, refl, ap, sym, ◌∙◌, ◌^◌, append_assoc, arith}
use Rattle.std.specs.Prelude.{Vec, Result, Ok, Err, Bool, true, false, ◌&&◌, ◌==◌, not, nat_le, nat_lt, slice_index, get_or}
use Rattle.std.proofs.lemmas.List.{length-take-le, take_all}
use Rattle.std.proofs.lemmas.Bool.{and_parts}
use Rattle.std.proofs.lemmas.Bool.Decides.{nat_tests}
use Rattle.std.specs.Str.{IsAscii}
use Rattle.std.proofs.lemmas.Str.Ascii.{IsAscii-nil}
use Rattle.info_lic.specs.Name.{IsName}
use Rattle.session_rules.specs.Journal.{Row}
use Rattle.session_core.specs.declared.head.Invite.{Invite}
use Rattle.session_core.specs.Heads.{rows_of}
use Rattle.script_rules.specs.Script.{is_name, is_name_byte, all_bytes}
use Rattle.std.proofs.lemmas.Grind.{common_steps}
use Rattle.wire_num.proofs.Bytes.{bytes_at_is}
use Rattle.wire_num.proofs.Content.{rest_of_content}
use Rattle.wire_num.specs.Number.{big_value}
use Rattle.px_core.specs.Colors.{are_colors}
use Rattle.px_core.proofs.Colors.{pushed_are_colors}
use Rattle.wire_num.specs.Field.{Read, bytes_at}
use Rattle.wire_num.specs.Caused.{Caused, caused, then_caused, before_caused}
use Rattle.wire_num.specs.Cursor.{CursorOf, rest}
use Rattle.record_rules.specs.Reading.{Lack, colors_in, counted_at, body_at, framed_at, row_at, rows_at}
use Rattle.record_rules.specs.Reading.Lack.{Missing, Broken}
use Rattle.record_file.specs.declared.read_fault.BodyFault.{BodyFault}
use Rattle.record_file.specs.declared.read_fault.BodyFault.TheVariants as refusal
use Rattle.record_file.specs.declared.read_fault.ReadFault.{ReadFault}
use Rattle.record_file.specs.declared.read_fault.ReadFault.TheVariants as fault
use Rattle.record_file.specs.Reads.{row_of, ReadsOr, ReadsOnce}

-- ---- a refusal that is handed on

-- a field within others is refused, and so are these
pub or_err : {X Y A B : Type 0} (view : X → A) (seen : Y → B) (field : List ℕ → Read A) (whole : List ℕ → Read B) (e : BodyFault) (old mid new : CursorOf)
    → ((left : List ℕ) → field (rest mid) ≡ Err left → whole (rest old) ≡ Err left) → mid.bytes ≡ old.bytes → ReadsOr view field (Err e) mid new → ReadsOr seen whole (Err e) old new
or_err view seen field whole (refusal.Broken at) old mid new h same r = (h (rest new) r.0, r.1 ∙ same, r.2)
or_err view seen field whole refusal.OutOfMemory old mid new h same r = tt

pub once_err : {X Y A B : Type 0} (view : X → A) (seen : Y → B) (field : List ℕ → Caused Lack A) (whole : List ℕ → Caused Lack B) (e : ReadFault) (old mid new : CursorOf)
    → ((why : Lack) (left : List ℕ) → field (rest mid) ≡ Err (why, left) → whole (rest old) ≡ Err (why, left)) → mid.bytes ≡ old.bytes
    → ReadsOnce view field (Err e) mid new → ReadsOnce seen whole (Err e) old new
once_err view seen field whole (fault.Missing at) old mid new h same r = (h Missing (rest new) r.0, r.1 ∙ same, r.2)
once_err view seen field whole (fault.Broken at) old mid new h same r = (h Broken (rest new) r.0, r.1 ∙ same, r.2)
once_err view seen field whole fault.OutOfMemory old mid new h same r = tt

-- what is left of fields is read as they say
pub or_on : {X A B : Type 0} (view : X → A) (seen : X → B) (field : List ℕ → Read A) (whole : List ℕ → Read B) (result : Result X BodyFault) (old mid new : CursorOf)
    → ((v : X) (more : List ℕ) → field (rest mid) ≡ Ok (view v, more) → whole (rest old) ≡ Ok (seen v, more))
    → ((left : List ℕ) → field (rest mid) ≡ Err left → whole (rest old) ≡ Err left) → mid.bytes ≡ old.bytes → ReadsOr view field result mid new → ReadsOr seen whole result old new
or_on view seen field whole (Ok v) old mid new k h same r = (k v (rest new) r.0, r.1 ∙ same)
or_on view seen field whole (Err e) old mid new k h same r = or_err view seen field whole e old mid new h same r

-- ---- a body behind its length

-- the body is refused, and so is the entry, at the same place of the bytes
pub framed_broken : (bytes : List ℕ) (after inner now : CursorOf) → counted_at bytes ≡ Ok (rest inner, rest after) → after.bytes ≡ bytes → inner.bytes ≡ take after.at bytes → after.at ≤ length bytes
    → body_at (rest inner) ≡ Err (rest now) → now.bytes ≡ inner.bytes → now.at ≤ length now.bytes → (now.at ≤ length bytes) × (framed_at bytes ≡ Err (Broken, drop now.at bytes))
unfolding framed_at
framed_broken bytes after inner now found same cut inside refused kept within =
    let here : now.bytes ≡ take after.at bytes = kept ∙ cut in
    let long : length (take after.at bytes) ≡ after.at = length-take-le after.at bytes inside in
    let size : length now.bytes ≡ after.at = ap length here ∙ long in
    let few : now.at ≤ after.at = omega (arith, within, size) in
    let place : rest now ++ rest after ≡ drop now.at bytes =
    ap (λ xs. drop now.at xs ++ rest after) here ∙ ap (λ xs. drop now.at (take after.at bytes) ++ drop after.at xs) same ∙ rest_of_content now.at after.at bytes few inside in
    let low : now.at ≤ length bytes = omega (arith, few, inside) in (
      low,
      ap (λ r. then_caused (caused Missing r) (λ body left. before_caused left (caused Broken (body_at body)))) found
          ∙ ap (λ r. before_caused (rest after) (caused Broken r)) refused ∙ ap (λ left. Err (Broken, left)) place,
    )

-- ---- colours

-- so many bytes of any value are so many
pub counted : (n : ℕ) (bs part more : List ℕ) → bytes_at n bs ≡ Ok (part, more) → length part ≡ n
counted n bs part more e = grind (arith, common_steps, sym (bytes_at_is n bs) ∙ e)

pub length-colors_in : (n : ℕ) (bs : List ℕ) → length bs ≡ 3 * n → length (colors_in bs) ≡ n
length-colors_in n [] h = omega (arith, h)
length-colors_in n (r ∷ []) h = absurd (omega (arith, h))
length-colors_in n (r ∷ g ∷ []) h = absurd (omega (arith, h))
length-colors_in zero (r ∷ g ∷ b ∷ bs) h = absurd (omega (arith, h))
length-colors_in (suc n) (r ∷ g ∷ b ∷ bs) h = let more = length-colors_in n bs (omega (arith, h)) in omega (arith, more)

-- a colour more
pub colors_more : (whole done now left : List ℕ) (n color : ℕ) → 3 ≤ length left → n ≡ length left - 3 → now ≡ done ++ color ∷ []
    → color ≡ big_value (get_or left 0 0 ∷ get_or left 1 0 ∷ get_or left 2 0 ∷ []) → color < 2 ^ 24 → colors_in whole ≡ done ++ colors_in left → are_colors done ≡ true
    → (colors_in whole ≡ now ++ colors_in (take n (drop 3 left))) × (are_colors now ≡ true)
colors_more whole done now [] n color h m e is fits w k = absurd (omega (arith, h))
colors_more whole done now (r ∷ []) n color h m e is fits w k = absurd (omega (arith, h))
colors_more whole done now (r ∷ g ∷ []) n color h m e is fits w k = absurd (omega (arith, h))
colors_more whole done now (r ∷ g ∷ b ∷ bs) n color h m e is fits w k =
    let all : take n bs ≡ bs = take_all n bs (omega (arith, m)) in (
      w ∙ ap (λ (c : ℕ). done ++ c ∷ colors_in bs) (sym is) ∙ sym (append_assoc done (color ∷ []) (colors_in bs)) ∙ ap (λ xs. xs ++ colors_in bs) (sym e) ∙ ap (λ xs. now ++ colors_in xs) (sym all),
      rw e (pushed_are_colors done color k fits),
    )

-- ---- names

-- a name is ASCII, and short
small : (b : ℕ) → is_name_byte b ≡ true → b < 128
small b h = by (nat_lt b 128) refl
  where
    by : (t : Bool) → nat_lt b 128 ≡ t → b < 128
    by true eq = grind (arith, nat_tests, eq)
    by false eq =
        let above : 128 ≤ b = grind (arith, nat_tests, eq) in
        let no : is_name_byte b ≡ false = grind (arith, nat_tests, above) in
        absurd (cc (no, h))

ascii : (bs : List ℕ) → all_bytes is_name_byte bs ≡ true → IsAscii bs
ascii [] h = IsAscii-nil
ascii (b ∷ bs) h =
    let parts = and_parts (is_name_byte b) (all_bytes is_name_byte bs) h in
    λ i. by (small b parts.0) (ascii bs parts.1) i
  where
    by : b < 128 → IsAscii bs → (i : ℕ) → slice_index (b ∷ bs) i < 128
    by low rest zero = low
    by low rest (suc i) = rest i

pub is_short_ascii : (name : List ℕ) → is_name name ≡ true → IsName name
is_short_ascii [] h = absurd (cc h)
is_short_ascii (b ∷ bs) h =
    let parts = and_parts (nat_le (length bs) 63 && all_bytes is_name_byte (b ∷ bs)) (not (b == 45)) h in
    let both = and_parts (nat_le (length bs) 63) (all_bytes is_name_byte (b ∷ bs)) parts.0 in
    let short = both.0 in
    record { short = grind (arith, nat_tests, short); ascii = ascii (b ∷ bs) both.1 }

-- ---- rows

-- the rows of invites with one more
pub rows_push : (xs : List Invite) (x : Invite) → rows_of (xs ++ x ∷ []) ≡ rows_of xs ++ row_of x ∷ []
rows_push [] x = refl
rows_push (y ∷ ys) x = ap (λ (rows : List Row). row_of y ∷ rows) (rows_push ys x)

count_more : (n k : ℕ) → k < n → n - k ≡ suc (n - (k + 1))
count_more n k h = omega (arith, h)

-- a row more
pub row_read : (n k : ℕ) (rows : List Invite) (row : Invite) (bs more : List ℕ) → k < n → row_at (rows_of rows) bs ≡ Ok (row_of row, more)
    → rows_at (n - (k + 1)) (rows_of (rows ++ row ∷ [])) more ≡ rows_at (n - k) (rows_of rows) bs
row_read n k rows row bs more h e =
    let next = λ (v : Row) (left : List ℕ). rows_at (n - (k + 1)) (rows_of rows ++ v ∷ []) left in
    ap (λ earlier. rows_at (n - (k + 1)) earlier more) (rows_push rows row)
    ∙ sym (ap (λ c. rows_at c (rows_of rows) bs) (count_more n k h) ∙ ap (λ r. then_caused r next) e)

row_refused : (n k : ℕ) (rows : List Invite) (bs left : List ℕ) (why : Lack) → k < n → row_at (rows_of rows) bs ≡ Err (why, left) → rows_at (n - k) (rows_of rows) bs ≡ Err (why, left)
row_refused n k rows bs left why h e =
    let next = λ (v : Row) (left : List ℕ). rows_at (n - (k + 1)) (rows_of rows ++ v ∷ []) left in
    ap (λ c. rows_at c (rows_of rows) bs) (count_more n k h) ∙ ap (λ r. then_caused r next) e

-- a row is refused, and so are they all
pub rows_stop : (Z : Type 0) (n k : ℕ) (rows : List Invite) (e : ReadFault) (old mid new : CursorOf) → k < n
    → (rows_at (n - k) (rows_of rows) (rest mid) ≡ rows_at n [] (rest old)) × (mid.bytes ≡ old.bytes)
    → ReadsOnce row_of (row_at (rows_of rows)) (Err e) mid new → ReadsOnce (λ (found : Vec Invite Z). rows_of found.items) (rows_at n []) (Err e) old new
rows_stop Z n k rows e old mid new h i r =
    once_err row_of (λ (found : Vec Invite Z). rows_of found.items) (row_at (rows_of rows)) (rows_at n []) e old mid new (λ why left refused. sym i.0 ∙ row_refused n k rows (rest mid) left why h refused) i.1 r
