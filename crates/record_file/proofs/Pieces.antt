-- Items of a list that are written one by one.
use Rattle.std.proofs.Common.{◌≡◌, ℕ, zero, suc, ◌+◌, ◌<◌, ◌≤◌, List, [], ◌∷◌, ◌++◌, length, drop, refl, ap, sym, ◌∙◌, arith, true}
use Rattle.std.specs.Prelude.{flat_map, get_or}
use Rattle.std.proofs.lemmas.Bool.{and_parts}
use Rattle.record_rules.specs.declared.field.Field.{Field}
use Rattle.record_rules.specs.Fields.{fields_bytes, is_in_place, are_in_place}
use Rattle.std.proofs.lemmas.Bool.Decides.{nat_tests}
use Rattle.std.proofs.lemmas.List.{length-append}
use Rattle.draw_ops.specs.declared.shape.Drawing.{Drawing}
use Rattle.draw_ops.specs.Ranges.{is_u16}
use Rattle.session_rules.specs.declared.entry.Entry.TheVariants.{Draw}
use Rattle.session_rules.specs.Journal.{Row}
use Rattle.script_rules.specs.Script.{is_name}
use Rattle.session_core.specs.declared.head.Invite.{Invite}
use Rattle.session_core.specs.Heads.{rows_of}
use Rattle.record_rules.specs.Tables.{clip_fields, shape_fields, shape_rest, body_bytes, row_bytes, rows_bytes, are_named}
use Rattle.record_rules.proofs.EntriesBack.{fields_bytes-append}

-- the item at a place, and those behind it
pub item_first : {X : Type 0} (f : X → List ℕ) (d : X) (k : ℕ) (xs : List X) → k < length xs → flat_map f (drop k xs) ≡ f (get_or xs k d) ++ flat_map f (drop (suc k) xs)
item_first f d k [] h = absurd (omega (arith, h))
item_first f d zero (x ∷ xs) h = refl
item_first f d (suc k) (x ∷ xs) h = item_first f d k xs (omega (arith, h))

-- each of fields that have place has place
pub in_place_at : (d : Field) (k : ℕ) (fs : List Field) → are_in_place fs ≡ true → k < length fs → is_in_place (get_or fs k d) ≡ true
in_place_at d k [] h few = absurd (omega (arith, few))
in_place_at d zero (f ∷ fs) h few = (and_parts (is_in_place f) (are_in_place fs) h).0
in_place_at d (suc k) (f ∷ fs) h few = in_place_at d k fs (and_parts (is_in_place f) (are_in_place fs) h).1 (omega (arith, few))

-- ---- rows

drop_first : {X : Type 0} (k : ℕ) (xs : List X) (x : X) → k < length xs → x ≡ get_or xs k x → drop k xs ≡ x ∷ drop (suc k) xs
drop_first k [] x h e = absurd (omega (arith, h))
drop_first zero (y ∷ ys) x h e = ap (λ z. z ∷ ys) (sym e)
drop_first (suc k) (y ∷ ys) x h e = drop_first k ys x (omega (arith, h)) e

abbrev pub row_of : Invite → Row
row_of row = record { name = row.name; role = row.role }

-- the row at a place, and those behind it
pub row_first : (k : ℕ) (rows : List Invite) (row : Invite) → k < length rows → row ≡ get_or rows k row
    → rows_bytes (rows_of (drop k rows)) ≡ row_bytes (row_of row) ++ rows_bytes (rows_of (drop (suc k) rows))
row_first k rows row h e = ap (λ xs. rows_bytes (rows_of xs)) (drop_first k rows row h e)

-- each of rows whose names keep the rule has such a name
pub named_at : (k : ℕ) (rows : List Invite) (row : Invite) → are_named (rows_of rows) ≡ true → k < length rows → row ≡ get_or rows k row → is_name row.name ≡ true
named_at k [] row h few e = absurd (omega (arith, few))
named_at zero (x ∷ xs) row h few e = ap (λ (r : Invite). is_name r.name) e ∙ (and_parts (is_name x.name) (are_named (rows_of xs)) h).0
named_at (suc k) (x ∷ xs) row h few e = named_at k xs row (and_parts (is_name x.name) (are_named (rows_of xs)) h).1 (omega (arith, few)) e

-- ---- the body's length

-- what stands behind a shape's fields is no longer than the body
pub rest_few : (by : ℕ) (d : Drawing) → is_u16 (length (body_bytes (Draw by d))) ≡ true → length (shape_rest d.shape) ≤ 65535
rest_few by d h =
    let l = length-append (fields_bytes (clip_fields d.clip ++ shape_fields d.shape)) (shape_rest d.shape) in
    let few : 5 + length (fields_bytes (clip_fields d.clip ++ shape_fields d.shape) ++ shape_rest d.shape) < 65536 = grind (arith, nat_tests, h) in
    omega (arith, l, few)

pub drawing_parts : (d : Drawing) → length (fields_bytes (clip_fields d.clip ++ shape_fields d.shape) ++ shape_rest d.shape)
    ≡ length (fields_bytes (clip_fields d.clip)) + length (fields_bytes (shape_fields d.shape)) + length (shape_rest d.shape)
drawing_parts d =
    length-append (fields_bytes (clip_fields d.clip ++ shape_fields d.shape)) (shape_rest d.shape)
    ∙ ap (λ n. n + length (shape_rest d.shape)) (ap length (fields_bytes-append (clip_fields d.clip) (shape_fields d.shape)) ∙ length-append (fields_bytes (clip_fields d.clip)) (fields_bytes (shape_fields d.shape)))
