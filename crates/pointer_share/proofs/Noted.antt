-- The pointer of a whole journal is what a session tells of itself, and what its desk tells of it.
use Rattle.std.proofs.Common.{◌≡◌, ℕ, ◌+◌, ◌*◌, ◌/◌, ◌%◌, ◌<◌, ◌≤◌, List, [], ◌∷◌, length, take, refl, ap, sym, ◌∙◌, arith, Some, None}
use Rattle.std.specs.Prelude.{Bool, true, false, ◌&&◌, not, Option, if◌then◌else◌}
use Rattle.std.proofs.lemmas.Bool.Decides.{nat_tests}
use Rattle.input_pdu.specs.declared.event.Event.{Event}
use Rattle.input_pdu.specs.declared.event.Event.TheVariants.{Sync, Scan, Unicode, Mouse, MouseX}
use Rattle.session_rules.specs.declared.entry.Entry.{Entry}
use Rattle.session_rules.specs.declared.entry.Entry.TheVariants.{Join, Leave, Give, Input, Draw}
use Rattle.session_rules.specs.Typing.{is_shown_code, typed_by_event, typed_after, typed_by_entries, last_typed}
use Rattle.px_core.specs.declared.surface.Size.{Size}
use Rattle.session_rules.specs.Journal.{holder_at}
use Rattle.cache_plan.specs.CacheUse.{misses, cache_index}
use Rattle.cache_plan.specs.Answers.{use_by, use_of}
use Rattle.cache_plan.specs.declared.uses.Use.{Use}
use Rattle.frame_rules.specs.Pointers.{code_shown, pointer_at, pointer_key, Shape, key_shape}
use Rattle.order_means.specs.PointerPackets.{pointer_packet}
use Rattle.frame_rules.specs.Told.{is_told, is_last, last_told, message_by_miss, message_by_use, message_of, told_packet}
use Rattle.pointer_share.specs.Desk.{IsKey}

take_all : {A : Type 0} (xs : List A) → take (length xs) xs ≡ xs
take_all [] = refl
take_all (x ∷ xs) = ap (λ ys. x ∷ ys) (take_all xs)

pub whole_typed : (j : List Entry) → last_typed (take (length j) j) ≡ last_typed j
whole_typed j = ap last_typed (take_all j)

abbrev Small : Option ℕ → Type 0
Small typed = code_shown typed ≤ 126

small_if : (shown up : Bool) (code : ℕ) (before : Option ℕ) → is_shown_code code ≡ shown → Small before → Small (if not up && shown then Some code else before)
small_if true true code before is small = small
small_if true false code before is small = grind (arith, nat_tests, is)
small_if false true code before is small = small
small_if false false code before is small = small

small_event : (before : Option ℕ) (e : Event) → Small before → Small (typed_by_event before e)
small_event before Sync small = small
small_event before (Scan code up) small = small
small_event before (Unicode code up) small = small_if (is_shown_code code) up code before refl small
small_event before (Mouse flags x y) small = small
small_event before MouseX small = small

small_entry : (before : Option ℕ) (e : Entry) → Small before → Small (typed_after before e)
small_entry before (Join v role) small = small
small_entry before (Leave v) small = small
small_entry before (Give by to) small = small
small_entry before (Input by event) small = small_event before event small
small_entry before (Draw by d) small = small

small_entries : (before : Option ℕ) (j : List Entry) → Small before → Small (typed_by_entries before j)
small_entries before [] small = small
small_entries before (e ∷ es) small = small_entries (typed_after before e) es (small_entry before e small)

-- a code that was typed last is at most the tilde's
pub typed_small : (j : List Entry) → code_shown (last_typed j) ≤ 126
typed_small j = let zero : 0 ≤ 126 = omega arith in small_entries None j zero

key_small : (holder code : ℕ) → holder < 16 → code ≤ 126 → IsKey (256 * holder + code)
key_small holder code h c =
    let high : (256 * holder + code) / 256 ≡ holder = omega (arith, c) in
    let low : (256 * holder + code) % 256 ≡ code = omega (arith, c) in
    (rw high h, rw low c)

-- the key of a session's pointer is one
pub is_key : (size : Size) (j : List Entry) (n : ℕ) → IsKey (pointer_key (pointer_at size j n))
is_key size j n =
    let below : holder_at size j n % 16 < 16 = omega arith in
    key_small (holder_at size j n % 16) (code_shown (last_typed (take n j))) below (typed_small (take n j))

-- ---- what is told

pub last_is : (keys : List ℕ) (key : ℕ) → is_last (last_told keys) key ≡ is_told keys key
last_is [] key = refl
last_is (k ∷ keys) key = refl

pub use_told : (wide miss : Bool) (index : ℕ) (s : Shape) → message_by_use wide (use_by miss index) s ≡ message_by_miss wide miss index s
use_told wide true index s = refl
use_told wide false index s = refl

pub told_is : (wide : Bool) (cells key : ℕ) (keys : List ℕ) (told : Option ℕ) (answer : Use) → told ≡ last_told keys → is_last told key ≡ false → answer ≡ use_of cells keys key
    → Some (pointer_packet (message_by_use wide answer (key_shape wide key))) ≡ told_packet wide cells keys key
told_is wide cells key keys told answer same new is =
    ap (λ a. Some (pointer_packet (message_by_use wide a (key_shape wide key)))) is
    ∙ ap (λ m. Some (pointer_packet m)) (use_told wide (misses cells keys key) (cache_index cells keys key) (key_shape wide key))
    ∙ ap (λ b. if b then None else Some (pointer_packet (message_of wide cells keys key))) (sym (sym (last_is keys key) ∙ ap (λ o. is_last o key) (sym same) ∙ new))
