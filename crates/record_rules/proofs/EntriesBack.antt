-- Each entry that is written is read back, behind its length too, whatever follows it.
use Rattle.std.proofs.Common.{◌≡◌, ℕ, Bool, true, false, List, [], ◌∷◌, ◌++◌, length, refl, ap, sym, ◌∙◌, Ok, Some, None, append_assoc, append-nil}
use Rattle.std.specs.Prelude.{Option, nat_le, ◌==◌, ◌&&◌}
use Rattle.std.proofs.lemmas.Bool.{and_parts}
use Rattle.wire_num.specs.Field.{Read, then_read, map_read, bytes_at, all_of}
use Rattle.wire_num.specs.FieldValue.{is_at_most, as_one_field}
use Rattle.wire_num.specs.Caused.{then_caused, before_caused, caused}
use Rattle.px_core.specs.declared.rectangle.Rect.{Rect}
use Rattle.draw_ops.specs.Ranges.{is_u16, is_u32}
use Rattle.draw_ops.specs.declared.shape.Drawing.{Drawing}
use Rattle.input_pdu.specs.declared.event.Event.{Event}
use Rattle.input_pdu.specs.declared.event.Event.TheVariants.{Sync, Scan, Unicode, Mouse, MouseX}
use Rattle.session_rules.specs.declared.entry.Role.{Role}
use Rattle.session_rules.specs.declared.entry.Role.TheVariants.{Owner, Control, View}
use Rattle.session_rules.specs.declared.entry.Entry.{Entry}
use Rattle.session_rules.specs.declared.entry.Entry.TheVariants.{Join, Leave, Give, Input, Draw}
use Rattle.record_rules.specs.declared.field.Field.{Field}
use Rattle.record_rules.specs.declared.field.Field.TheVariants.{Byte, Short, Long}
use Rattle.record_rules.specs.Fields.{field_bytes, fields_bytes, are_in_place}
use Rattle.record_rules.specs.Tables.{flag, role_number, event_fields, rect_fields, clip_fields, shape_fields, shape_rest, entry_fields, entry_rest, body_bytes, entry_bytes, is_recordable, is_entry_rest_in_place}
use Rattle.record_rules.specs.Reading.{byte_at, short_at, long_at, flag_at, zero_at, shape_at, clip_at, clip_by, role_at, role_numbered, last_role, last_tag, zeros_at, key_at, mouse_at, event_at, event_by, join_at, leave_at, give_at, input_at, draw_at, entry_at, entry_by, is_kind, body_at, counted_at, framed_at}
use Rattle.record_rules.specs.Reading.Lack.{Missing, Broken}
use Rattle.record_rules.proofs.FieldsBack.{then_back, map_back, passing_back, byte_back, short_back, long_back, bytes_back, rect_back}
use Rattle.record_rules.proofs.ShapesBack.{in_place_parts, first_in_place, shape_back}

-- fields after fields
pub fields_bytes-append : (xs ys : List Field) → fields_bytes (xs ++ ys) ≡ fields_bytes xs ++ fields_bytes ys
fields_bytes-append [] ys = refl
fields_bytes-append (x ∷ xs) ys = ap (λ bs. field_bytes x ++ bs) (fields_bytes-append xs ys) ∙ sym (append_assoc (field_bytes x) (fields_bytes xs) (fields_bytes ys))

-- a number of four bytes before other fields
long_first : {A : Type 0} (n : ℕ) (more : List ℕ) (f : ℕ → List ℕ → Read A) → is_u32 n ≡ true → then_read (long_at (field_bytes (Long n) ++ more)) f ≡ f n more
long_first n more f h = then_back _ n more f (long_back n more h)

short_first : {A : Type 0} (n : ℕ) (more : List ℕ) (f : ℕ → List ℕ → Read A) → is_u16 n ≡ true → then_read (short_at (field_bytes (Short n) ++ more)) f ≡ f n more
short_first n more f h = then_back _ n more f (short_back n more h)

-- ---- events

zero_back : (rest : List ℕ) → zero_at (field_bytes (Short 0) ++ rest) ≡ Ok (0, rest)
zero_back rest = passing_back (is_at_most 0) short_at _ 0 rest (short_back 0 rest refl) refl

flag_back : (up : Bool) (rest : List ℕ) → flag_at (field_bytes (Short (flag up)) ++ rest) ≡ Ok (flag up, rest)
flag_back true rest = passing_back (is_at_most 1) short_at _ 1 rest (short_back 1 rest refl) refl
flag_back false rest = passing_back (is_at_most 1) short_at _ 0 rest (short_back 0 rest refl) refl

flag_is : (up : Bool) → (flag up == 1) ≡ up
flag_is true = refl
flag_is false = refl

zeros_back : (rest : List ℕ) → zeros_at (fields_bytes (Short 0 ∷ Short 0 ∷ Short 0 ∷ []) ++ rest) ≡ Ok (0, rest)
unfolding zeros_at
zeros_back rest =
    then_back _ 0 (fields_bytes (Short 0 ∷ Short 0 ∷ []) ++ rest) (λ _ more. then_read (zero_at more) (λ _ more. zero_at more)) (zero_back _)
    ∙ then_back _ 0 (fields_bytes (Short 0 ∷ []) ++ rest) (λ _ more. zero_at more) (zero_back _)
    ∙ zero_back rest

key_back : (code : ℕ) (up : Bool) (rest : List ℕ) → is_u16 code ≡ true → key_at (fields_bytes (Short code ∷ Short (flag up) ∷ Short 0 ∷ []) ++ rest) ≡ Ok ((code, up), rest)
unfolding key_at
key_back code up rest h =
    short_first code (fields_bytes (Short (flag up) ∷ Short 0 ∷ []) ++ rest) (λ code more. then_read (flag_at more) (λ up more. map_read (λ _. (code, up == 1)) (zero_at more))) h
    ∙ then_back _ (flag up) (fields_bytes (Short 0 ∷ []) ++ rest) (λ up more. map_read (λ _. (code, up == 1)) (zero_at more)) (flag_back up _)
    ∙ map_back _ 0 rest (λ _. (code, flag up == 1)) (zero_back rest)
    ∙ ap (λ (b : Bool). Ok ((code, b), rest)) (flag_is up)

mouse_back : (flags x y : ℕ) (rest : List ℕ) → are_in_place (Short flags ∷ Short x ∷ Short y ∷ []) ≡ true
    → mouse_at (fields_bytes (Short flags ∷ Short x ∷ Short y ∷ []) ++ rest) ≡ Ok (Mouse flags x y, rest)
unfolding mouse_at
mouse_back flags x y rest h =
    let a = first_in_place (Short flags) (Short x ∷ Short y ∷ []) h in
    let b = first_in_place (Short x) (Short y ∷ []) a.1 in
    short_first flags (fields_bytes (Short x ∷ Short y ∷ []) ++ rest) (λ flags more. then_read (short_at more) (λ x more. map_read (λ y. Mouse flags x y) (short_at more))) a.0
    ∙ short_first x (fields_bytes (Short y ∷ []) ++ rest) (λ x more. map_read (λ y. Mouse flags x y) (short_at more)) b.0
    ∙ map_back _ y rest (λ y. Mouse flags x y) (short_back y rest (first_in_place (Short y) [] b.1).0)

tagged : (n : ℕ) (more : List ℕ) → nat_le n last_tag ≡ true → event_at (n ∷ more) ≡ event_by n more
unfolding event_at
tagged n more h = then_back _ n more (λ tag more. event_by tag more) (passing_back (is_at_most last_tag) byte_at (n ∷ more) n more (byte_back n more) h)

event_back : (e : Event) (rest : List ℕ) → are_in_place (event_fields e) ≡ true → event_at (fields_bytes (event_fields e) ++ rest) ≡ Ok (e, rest)
unfolding event_by
event_back Sync rest h = tagged 0 _ refl ∙ map_back _ 0 rest (λ _. Sync) (zeros_back rest)
event_back (Scan code up) rest h = tagged 1 _ refl ∙ map_back _ (code, up) rest (λ k. Scan k.0 k.1) (key_back code up rest (first_in_place (Short code) (Short (flag up) ∷ Short 0 ∷ []) h).0)
event_back (Unicode code up) rest h = tagged 2 _ refl ∙ map_back _ (code, up) rest (λ k. Unicode k.0 k.1) (key_back code up rest (first_in_place (Short code) (Short (flag up) ∷ Short 0 ∷ []) h).0)
event_back (Mouse flags x y) rest h = tagged 3 _ refl ∙ mouse_back flags x y rest h
event_back MouseX rest h = tagged 4 _ refl ∙ map_back _ 0 rest (λ _. MouseX) (zeros_back rest)

-- ---- drawings

clip_back : (clip : Option Rect) (rest : List ℕ) → are_in_place (clip_fields clip) ≡ true → clip_at (fields_bytes (clip_fields clip) ++ rest) ≡ Ok (clip, rest)
unfolding clip_at clip_by
clip_back None rest h =
    then_back _ 0 rest (λ flag more. clip_by flag more) (passing_back (is_at_most 1) byte_at (0 ∷ rest) 0 rest (byte_back 0 rest) refl)
clip_back (Some r) rest h =
    then_back _ 1 (fields_bytes (rect_fields r) ++ rest) (λ flag more. clip_by flag more) (passing_back (is_at_most 1) byte_at _ 1 (fields_bytes (rect_fields r) ++ rest) (byte_back 1 (fields_bytes (rect_fields r) ++ rest)) refl)
    ∙ map_back _ r rest (λ r. Some r) (rect_back r rest h)

drawing_back : (by : ℕ) (d : Drawing) (rest : List ℕ) → is_u32 by ≡ true → are_in_place (clip_fields d.clip ++ shape_fields d.shape) ≡ true → is_entry_rest_in_place (Draw by d) ≡ true
    → draw_at (field_bytes (Long by) ++ (fields_bytes (clip_fields d.clip ++ shape_fields d.shape) ++ (shape_rest d.shape ++ rest))) ≡ Ok (Draw by d, rest)
unfolding draw_at
drawing_back by d rest h k held =
    let parts = in_place_parts (clip_fields d.clip) (shape_fields d.shape) k in
    let behind : List ℕ = shape_rest d.shape ++ rest in
    let joined = ap (λ bs. bs ++ behind) (fields_bytes-append (clip_fields d.clip) (shape_fields d.shape)) ∙ append_assoc (fields_bytes (clip_fields d.clip)) (fields_bytes (shape_fields d.shape)) behind in
    long_first by (fields_bytes (clip_fields d.clip ++ shape_fields d.shape) ++ behind)
    (λ by more. then_read (clip_at more) (λ clip more. map_read (λ shape. Draw by (record { shape = shape; clip = clip })) (shape_at more))) h
    ∙ ap (λ bs. then_read (clip_at bs) (λ clip more. map_read (λ shape. Draw by (record { shape = shape; clip = clip })) (shape_at more))) joined
    ∙ then_back _ d.clip (fields_bytes (shape_fields d.shape) ++ behind) (λ clip more. map_read (λ shape. Draw by (record { shape = shape; clip = clip })) (shape_at more))
    (clip_back d.clip (fields_bytes (shape_fields d.shape) ++ behind) parts.0)
    ∙ map_back _ d.shape rest (λ shape. Draw by (record { shape = shape; clip = d.clip })) (shape_back d.shape rest parts.1 held)

-- ---- entries

role_back : (role : Role) (rest : List ℕ) → role_at (role_number role ∷ rest) ≡ Ok (role, rest)
unfolding role_at
role_back Owner rest = map_back _ 0 rest role_numbered (passing_back (is_at_most last_role) byte_at (0 ∷ rest) 0 rest (byte_back 0 rest) refl)
role_back Control rest = map_back _ 1 rest role_numbered (passing_back (is_at_most last_role) byte_at (1 ∷ rest) 1 rest (byte_back 1 rest) refl)
role_back View rest = map_back _ 2 rest role_numbered (passing_back (is_at_most last_role) byte_at (2 ∷ rest) 2 rest (byte_back 2 rest) refl)

kinded : (n : ℕ) (more : List ℕ) → is_kind n ≡ true → entry_at (n ∷ more) ≡ entry_by n more
unfolding entry_at
kinded n more h = then_back _ n more (λ kind more. entry_by kind more) (passing_back is_kind byte_at (n ∷ more) n more (byte_back n more) h)

join_back : (v : ℕ) (role : Role) (rest : List ℕ) → is_u32 v ≡ true → join_at (field_bytes (Long v) ++ role_number role ∷ rest) ≡ Ok (Join v role, rest)
unfolding join_at
join_back v role rest h = long_first v (role_number role ∷ rest) (λ v more. map_read (λ role. Join v role) (role_at more)) h ∙ map_back _ role rest (λ role. Join v role) (role_back role rest)

leave_back : (v : ℕ) (rest : List ℕ) → is_u32 v ≡ true → leave_at (field_bytes (Long v) ++ rest) ≡ Ok (Leave v, rest)
unfolding leave_at
leave_back v rest h = map_back _ v rest (λ v. Leave v) (long_back v rest h)

give_back : (by to : ℕ) (rest : List ℕ) → is_u32 by ≡ true → is_u32 to ≡ true → give_at (field_bytes (Long by) ++ (field_bytes (Long to) ++ rest)) ≡ Ok (Give by to, rest)
unfolding give_at
give_back by to rest h k = long_first by (field_bytes (Long to) ++ rest) (λ by more. map_read (λ to. Give by to) (long_at more)) h ∙ map_back _ to rest (λ to. Give by to) (long_back to rest k)

input_back : (by : ℕ) (event : Event) (rest : List ℕ) → is_u32 by ≡ true → are_in_place (event_fields event) ≡ true
    → input_at (field_bytes (Long by) ++ (fields_bytes (event_fields event) ++ rest)) ≡ Ok (Input by event, rest)
unfolding input_at
input_back by event rest h k =
    long_first by (fields_bytes (event_fields event) ++ rest) (λ by more. map_read (λ event. Input by event) (event_at more)) h
    ∙ map_back _ event rest (λ event. Input by event) (event_back event rest k)

-- an entry that has place is read back
pub entry_back : (e : Entry) (rest : List ℕ) → are_in_place (entry_fields e) ≡ true → is_entry_rest_in_place e ≡ true → entry_at (fields_bytes (entry_fields e) ++ (entry_rest e ++ rest)) ≡ Ok (e, rest)
unfolding entry_by
entry_back (Join v role) rest h held = kinded 1 _ refl ∙ join_back v role rest (first_in_place (Long v) (Byte (role_number role) ∷ []) h).0
entry_back (Leave v) rest h held = kinded 2 _ refl ∙ leave_back v rest (first_in_place (Long v) [] h).0
entry_back (Give by to) rest h held =
    let k = first_in_place (Long by) (Long to ∷ []) h in
    kinded 3 _ refl ∙ give_back by to rest k.0 (first_in_place (Long to) [] k.1).0
entry_back (Input by event) rest h held = let k = first_in_place (Long by) (event_fields event) h in kinded 4 _ refl ∙ input_back by event rest k.0 k.1
entry_back (Draw by d) rest h held = let k = first_in_place (Long by) (clip_fields d.clip ++ shape_fields d.shape) h in kinded 5 _ refl ∙ drawing_back by d rest k.0 k.1 held

-- ---- behind its length

body_back : (e : Entry) → are_in_place (entry_fields e) ≡ true → is_entry_rest_in_place e ≡ true → body_at (body_bytes e) ≡ Ok (e, [])
body_back e h held =
    let whole = sym (ap (λ bs. fields_bytes (entry_fields e) ++ bs) (append-nil (entry_rest e))) in
    ap (λ bs. all_of (entry_at bs)) whole ∙ ap all_of (entry_back e [] h held)

pub counted_back : (body rest : List ℕ) → is_u16 (length body) ≡ true → counted_at (field_bytes (Short (length body)) ++ (body ++ rest)) ≡ Ok (body, rest)
unfolding counted_at
counted_back body rest h =
    ap (as_one_field (field_bytes (Short (length body)) ++ (body ++ rest))) (short_first (length body) (body ++ rest) (λ n more. bytes_at n more) h ∙ bytes_back (length body) body rest refl)

-- an entry that a record can hold is read back
pub framed_back : (e : Entry) (rest : List ℕ) → is_recordable e ≡ true → framed_at (entry_bytes e ++ rest) ≡ Ok (e, rest)
unfolding framed_at
framed_back e rest h =
    let k = and_parts (are_in_place (entry_fields e) && is_entry_rest_in_place e) (is_u16 (length (body_bytes e))) h in
    let m = and_parts (are_in_place (entry_fields e)) (is_entry_rest_in_place e) k.0 in
    let joined = append_assoc (field_bytes (Short (length (body_bytes e)))) (body_bytes e) rest in
    ap (λ bs. then_caused (caused Missing (counted_at bs)) (λ body after. before_caused after (caused Broken (body_at body)))) joined
    ∙ ap (λ r. then_caused (caused Missing r) (λ body after. before_caused after (caused Broken (body_at body)))) (counted_back (body_bytes e) rest k.1)
    ∙ ap (λ r. before_caused rest (caused Broken r)) (body_back e m.0 m.1)
