-- A row is added to those of a list.
use Rattle.std.proofs.Common.{◌≡◌, ◌≢◌, ℕ, zero, suc, ◌<◌, ◌≤◌, List, [], ◌∷◌, ◌++◌, length, refl, ap, ◌∙◌, arith, length-append}
use Rattle.std.specs.Prelude.{Bool, true, false, ◌&&◌, ◌==◌, not, nat_le, nat_lt, slice_index, is_some, is_none, Option, Some, None, if◌then◌else◌}
use Rattle.std.proofs.lemmas.Bool.{and_parts, and_from}
use Rattle.std.proofs.lemmas.List.Elements.{All-push}
use Rattle.std.proofs.lemmas.Bool.Decides.{nat_tests}
use Rattle.std.specs.Str.{IsAscii}
use Rattle.std.proofs.lemmas.Str.Ascii.{IsAscii-nil}
use Rattle.line_text.specs.Words.{is_same_word}
use Rattle.info_lic.specs.Name.{IsName}
use Rattle.session_rules.specs.Journal.{Head, Row}
use Rattle.session_rules.specs.Steps.{row_role, is_new_name, are_names_distinct}
use Rattle.session_core.specs.declared.head.Invite.{Invite}
use Rattle.session_core.specs.Heads.{rows_of}
use Rattle.session_core.specs.SessionModel.{AreInvited, new_session}
use Rattle.frame_rules.specs.Encoder.{Encoder}
use Rattle.script_rules.specs.Script.{is_name, is_name_byte, all_bytes, is_invited}
use Rattle.script_rules.specs.CaptureText.{Run}
use Rattle.script_run.specs.Hosts.{HostModel, host_of, HasHead}
use Rattle.script_run.specs.Runs.{IsRunOf}

same_sym : (a b : ℕ) → (a == b) ≡ (b == a)
same_sym a b = grind arith

word_sym : (a b : List ℕ) → is_same_word a b ≡ is_same_word b a
word_sym [] [] = refl
word_sym [] (y ∷ ys) = refl
word_sym (x ∷ xs) [] = refl
word_sym (x ∷ xs) (y ∷ ys) = ap (λ t. t && is_same_word xs ys) (same_sym x y) ∙ ap (λ t. (y == x) && t) (word_sym xs ys)

-- a name that no row has differs from each row's
apart : (name : List ℕ) (row : Row) (rows : List Row) → is_invited name (row ∷ rows) ≡ false → (is_same_word name row.name ≡ false) × (is_invited name rows ≡ false)
apart name row rows h = by (is_same_word name row.name) refl h
  where
    by : (t : Bool) → is_same_word name row.name ≡ t → is_some (if t then Some row.role else row_role name rows) ≡ false
        → (is_same_word name row.name ≡ false) × (is_invited name rows ≡ false)
    by true eq k = absurd (cc k)
    by false eq k = (eq, k)

new_push : (name : List ℕ) (rows : List Row) (row : Row) → is_new_name name rows ≡ true → is_same_word name row.name ≡ false → is_new_name name (rows ++ row ∷ []) ≡ true
new_push name [] row h ne = rw ne refl
new_push name (x ∷ xs) row h ne = by (is_same_word name x.name) h (λ k. new_push name xs row k ne)
  where
    by : (t : Bool) → is_none (if t then Some x.role else row_role name xs) ≡ true → (is_new_name name xs ≡ true → is_new_name name (xs ++ row ∷ []) ≡ true)
        → is_none (if t then Some x.role else row_role name (xs ++ row ∷ [])) ≡ true
    by true k again = absurd (cc k)
    by false k again = again k

distinct_push : (rows : List Row) (row : Row) → are_names_distinct rows ≡ true → is_invited row.name rows ≡ false → are_names_distinct (rows ++ row ∷ []) ≡ true
distinct_push [] row h new = refl
distinct_push (x ∷ xs) row h new =
    let parts = and_parts (is_new_name x.name xs) (are_names_distinct xs) h in
    let others = apart row.name x xs new in
    and_from _ _ (new_push x.name xs row parts.0 (word_sym x.name row.name ∙ others.0)) (distinct_push xs row parts.1 others.1)

named : (name : List ℕ) → is_name name ≡ true → name ≢ []
named name h e = let k = ap is_name e in absurd (cc (h, k))

-- a name is ASCII, and short
small : (b : ℕ) → is_name_byte b ≡ true → b < 128
small b h = by (nat_lt b 128) refl
  where
    by : (t : Bool) → nat_lt b 128 ≡ t → b < 128
    by true eq = grind (arith, nat_tests, eq)
    by false eq =
        let above : 128 ≤ b = grind (arith, nat_tests, eq) in
        let no : is_name_byte b ≡ false = grind (arith, nat_tests, above) in
        absurd (cc (no, h))

ascii : (bs : List ℕ) → all_bytes is_name_byte bs ≡ true → IsAscii bs
ascii [] h = IsAscii-nil
ascii (b ∷ bs) h =
    let parts = and_parts (is_name_byte b) (all_bytes is_name_byte bs) h in
    λ i. by (small b parts.0) (ascii bs parts.1) i
  where
    by : b < 128 → IsAscii bs → (i : ℕ) → slice_index (b ∷ bs) i < 128
    by low rest zero = low
    by low rest (suc i) = rest i

pub is_short_ascii : (name : List ℕ) → is_name name ≡ true → IsName name
is_short_ascii [] h = absurd (cc h)
is_short_ascii (b ∷ bs) h =
    let parts = and_parts (nat_le (length bs) 63 && all_bytes is_name_byte (b ∷ bs)) (not (b == 45)) h in
    let both = and_parts (nat_le (length bs) 63) (all_bytes is_name_byte (b ∷ bs)) parts.0 in
    let short = both.0 in
    record { short = grind (arith, nat_tests, short); ascii = ascii (b ∷ bs) both.1 }

-- the rows of a list of invites with one more
pub rows_push : (xs : List Invite) (x : Invite) → rows_of (xs ++ x ∷ []) ≡ rows_of xs ++ record { name = x.name; role = x.role } ∷ []
rows_push [] x = refl
rows_push (y ∷ ys) x = ap (λ (rows : List Row). record { name = y.name; role = y.role } ∷ rows) (rows_push ys x)

-- the rows of an invitation list with one more
pub invited_push : (rows : List Row) (row : Row) → AreInvited rows → is_name row.name ≡ true → is_invited row.name rows ≡ false → length rows < 64 → AreInvited (rows ++ row ∷ [])
invited_push rows row h name new room = record {
  few = omega (arith, room, length-append rows (row ∷ []));
  distinct = distinct_push rows row h.distinct new;
  named = All-push (λ (r : Row). r.name ≢ []) rows row h.named (named row.name name);
}

-- no step was asked for yet
pub not_running : (head : Head) (running : Option HostModel) → HasHead head running → (host_of head running).begun ≡ false → running ≡ None
not_running head None h early = refl
not_running head (Some r) h early = let b = h.1 in absurd (cc (b, early))

-- before the first step a run stands for a host of whatever rows, and for one that begins
pub same_at_first : (head other : Head) (begun : Bool) (run : Run Encoder) → head.size ≡ other.size → IsRunOf (host_of head None) run
    → IsRunOf (record { begun = begun; session = new_session other; seats = [] }) run
same_at_first head other begun run size r = record {
  journal = r.journal;
  reached = rw (← size) r.reached;
  present = λ v here. absurd (cc here);
  later = λ v above. let l = r.later v above in record { asked = l.asked; suppressed = l.suppressed; taken = l.taken; encoder = l.encoder; nobody = refl };
}
