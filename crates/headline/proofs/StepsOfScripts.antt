-- What a script's lines ask for keeps the premises of the headline over lists of steps.
use Rattle.std.proofs.Common.{◌≡◌, ℕ, ◌+◌, Bool, true, false, List, [], ◌∷◌, length, refl, sym, subst, ◌∙◌, Some, None}
use Rattle.std.specs.Prelude.{Option, IfSome, IsTrue, ⊤, not, ◌-◌, ◌==◌, ◌&&◌, ◌||◌, nat_le, codes, drop, if◌then◌else◌}
use Rattle.std.specs.Bool.{then_some}
use Rattle.std.specs.Char.{is_ascii_digit}
use Rattle.std.proofs.lemmas.List.{length-set}
use Rattle.std.specs.Option.{option_map, option_and_then}
use Rattle.px_core.specs.declared.surface.Size.{Size}
use Rattle.px_core.specs.Rectangle.{is_session_size}
use Rattle.px_core.specs.declared.depth.Depth.TheVariants.{Bits16}
use Rattle.caps_sets.specs.declared.confirmed.Confirmed.{Confirmed}
use Rattle.caps_sets.specs.declared.cache_size.CacheSize.{CacheSize}
use Rattle.caps_sets.specs.Confirmed.{most_pointers, plain, with_bitmap_cache, with_glyph_cache}
use Rattle.draw_ops.specs.Fits.{first_some}
use Rattle.line_text.specs.Lines.{Line, line_bytes, lines_of}
use Rattle.line_text.specs.Words.{words_of, parts_at, is_same_word}
use Rattle.line_text.specs.Numbers.{number_of, number_up_to}
use Rattle.frame_rules.specs.Describes.{HasAllCaches}
use Rattle.session_rules.specs.Journal.{Row, is_present}
use Rattle.session_rules.specs.Steps.{Step, Play, play_at_first, outcome}
use Rattle.session_rules.specs.Steps.Step.{JoinStep, LeaveStep, InputStep, DrawStep, RefreshStep, SuppressStep, TakeStep}
use Rattle.caps_sets.specs.Presets.{Preset, presets, preset_named, size_by, with_cache, overridden, is_pointer_word, with_pointers, overridden_word, overridden_by, confirmed_by}
use Rattle.script_rules.specs.Script.{Asked, Script, ScriptReading, LineForm, LineOutcome, Opening, without_preset, broken_if}
use Rattle.script_rules.specs.Script.{unless_broken, join_outcome, form_outcome, line_outcome, line_form, is_name, is_invited, row_limit}
use Rattle.script_rules.specs.Script.{order_rule, name_rule, presence_rule, text_rule, breaks_text_rule, with_asked, with_row}
use Rattle.script_rules.specs.Script.{after_step, proceeding, script_from, size_with, size_of_words, opened_reading, begins_with_invite, solo_rows, solo_join}
use Rattle.script_rules.specs.Script.{invited_script, solo_script, script_after, opening_by, opening_of_lines, opening_of}
use Rattle.script_rules.specs.Script.LineForm.{InviteForm, JoinForm, StepForm}
use Rattle.script_rules.specs.Script.LineOutcome.{Breaks, Invites, Asks}
use Rattle.script_rules.specs.Script.Opening.{NoSize, Unended, Opened}
use Rattle.headline.specs.Headline.{is_by_present_viewer, AreByPresentFrom, ConfirmAllCaches, HasSessionSize, AreByPresentViewers, IfOpened}
use Rattle.script_rules.proofs.FormsOfViewers.{IsStepOf, IsFormOfItsViewer, line_form_is, some_of}

-- ---- what is confirmed

has_plain : HasAllCaches plain
has_plain = record { bitmaps = refl; glyphs = refl }

abbrev HaveAllCaches : List Preset → Type 0
HaveAllCaches [] = ⊤
HaveAllCaches (p ∷ ps) = HasAllCaches p.confirmed × HaveAllCaches ps

presets_have : HaveAllCaches presets
presets_have = (
  has_plain,
  (record { bitmaps = refl; glyphs = refl }, (record { bitmaps = refl; glyphs = refl }, (record { bitmaps = refl; glyphs = refl }, tt))),
)

with_cache_has : (c : Confirmed) (kind : List ℕ) (cache : ℕ) (size : CacheSize) → HasAllCaches c → IfSome (with_cache c kind cache size) HasAllCaches
with_cache_has c kind cache size h = by (is_same_word kind (codes "bc") && nat_le cache 2) (is_same_word kind (codes "gc") && nat_le cache 9)
  where
    by : (b g : Bool) → IfSome (if b then Some (with_bitmap_cache cache size c) else (if g then Some (with_glyph_cache cache size c) else None)) HasAllCaches
    by true g = record { bitmaps = length-set c.bitmaps cache size ∙ h.bitmaps; glyphs = h.glyphs }
    by false true = record { bitmaps = h.bitmaps; glyphs = length-set c.glyphs cache size ∙ h.glyphs }
    by false false = tt

overridden_has : (c : Confirmed) (word : List ℕ) → HasAllCaches c → IfSome (overridden c word) HasAllCaches
overridden_has c [] h = tt
overridden_has c (a ∷ []) h = tt
overridden_has c (a ∷ b ∷ []) h = tt
overridden_has c (a ∷ b ∷ k ∷ []) h = tt
overridden_has c (a ∷ b ∷ k ∷ sign ∷ rest) h = by (is_ascii_digit k && (sign == 61))
  where
    by : (t : Bool) → IfSome (if t then option_and_then (with_cache c (a ∷ b ∷ []) (k - 48)) (size_by (parts_at 44 rest)) else None) HasAllCaches
    by true = some_of HasAllCaches (with_cache c (a ∷ b ∷ []) (k - 48)) (size_by (parts_at 44 rest)) (λ size. with_cache_has c (a ∷ b ∷ []) (k - 48) size h)
    by false = tt

with_pointers_has : (c : Confirmed) (digits : List ℕ) → HasAllCaches c → IfSome (with_pointers c digits) HasAllCaches
with_pointers_has c digits h = by (number_up_to most_pointers digits)
  where
    by : (o : Option ℕ) → IfSome (option_map (λ n. record c { pointers = n }) o) HasAllCaches
    by None = tt
    by (Some n) = record { bitmaps = h.bitmaps; glyphs = h.glyphs }

overridden_word_has : (c : Confirmed) (word : List ℕ) → HasAllCaches c → IfSome (overridden_word c word) HasAllCaches
overridden_word_has c word h =
    by (is_same_word word (codes "cautious")) (is_same_word word (codes "fast")) (is_same_word word (codes "bpp=16")) (is_pointer_word word)
    (with_pointers_has c (drop 8 word) h) (overridden_has c word h)
  where
    by : (cautious fast sixteen pointer : Bool) → IfSome (with_pointers c (drop 8 word)) HasAllCaches → IfSome (overridden c word) HasAllCaches
        → IfSome (if cautious then Some (record c { cautious = true }) else (if fast then Some (record c { fast = true })
        else (if sixteen then Some (record c { depth = Bits16 }) else (if pointer then with_pointers c (drop 8 word) else overridden c word)))) HasAllCaches
    by true fast sixteen pointer counted more = record { bitmaps = h.bitmaps; glyphs = h.glyphs }
    by false true sixteen pointer counted more = record { bitmaps = h.bitmaps; glyphs = h.glyphs }
    by false false true pointer counted more = record { bitmaps = h.bitmaps; glyphs = h.glyphs }
    by false false false true counted more = counted
    by false false false false counted more = more

overridden_by_has : (c : Confirmed) (words : List (List ℕ)) → HasAllCaches c → IfSome (overridden_by c words) HasAllCaches
overridden_by_has c [] h = h
overridden_by_has c (word ∷ words) h = by (overridden_word c word) (overridden_word_has c word h) (λ d k. overridden_by_has d words k)
  where
    by : (o : Option Confirmed) → IfSome o HasAllCaches → ((d : Confirmed) → HasAllCaches d → IfSome (overridden_by d words) HasAllCaches)
        → IfSome (option_and_then (λ d. overridden_by d words) o) HasAllCaches
    by None k rest = tt
    by (Some d) k rest = rest d k

preset_has : (ps : List Preset) (word : List ℕ) → HaveAllCaches ps → IfSome (preset_named ps word) HasAllCaches
preset_has [] word h = tt
preset_has (p ∷ ps) word h = by (is_same_word word p.word) (preset_has ps word h.1)
  where
    by : (t : Bool) → IfSome (preset_named ps word) HasAllCaches → IfSome (if t then Some p.confirmed else preset_named ps word) HasAllCaches
    by true rest = h.0
    by false rest = rest

confirmed_has : (ps : List Preset) (words : List (List ℕ)) → HaveAllCaches ps → IfSome (confirmed_by ps words) HasAllCaches
confirmed_has ps [] h = tt
confirmed_has ps (word ∷ words) h = by (preset_named ps word) (preset_has ps word h)
  where
    by : (o : Option Confirmed) → IfSome o HasAllCaches → IfSome (option_and_then (λ c. overridden_by c words) o) HasAllCaches
    by None k = tt
    by (Some c) k = overridden_by_has c words k

-- ---- a line

-- rows are invited before the first step, and a step is by a present viewer or a join
abbrev Keeps : ScriptReading → LineOutcome → Type 0
Keeps r (Breaks rule) = ⊤
Keeps r (Invites row) = r.begun ≡ false
Keeps r (Asks a) = IsTrue (is_by_present_viewer r.play a.step) × HasAllCaches a.confirmed

present_is : (p : Play) (v : ℕ) (step : Step) → IsStepOf v step → IsTrue (is_present v p.reached.viewers) → IsTrue (is_by_present_viewer p step)
present_is p v (JoinStep name) of h = absurd of
present_is p v (LeaveStep u) of h = subst (λ w. IsTrue (is_present w p.reached.viewers)) (sym of) h
present_is p v (InputStep u event) of h = subst (λ w. IsTrue (is_present w p.reached.viewers)) (sym of) h
present_is p v (DrawStep u d) of h = subst (λ w. IsTrue (is_present w p.reached.viewers)) (sym of) h
present_is p v (RefreshStep u rect) of h = subst (λ w. IsTrue (is_present w p.reached.viewers)) (sym of) h
present_is p v (SuppressStep u stop) of h = subst (λ w. IsTrue (is_present w p.reached.viewers)) (sym of) h
present_is p v (TakeStep u) of h = subst (λ w. IsTrue (is_present w p.reached.viewers)) (sym of) h

joins : (r : ScriptReading) (name : List ℕ) (words : List (List ℕ)) (o : Option Confirmed) → IfSome o HasAllCaches → Keeps r (join_outcome name words o)
joins r name words None h = tt
joins r name words (Some c) h = (refl, h)

form_keeps : (r : ScriptReading) (o : Option LineForm) → IfSome o IsFormOfItsViewer → Keeps r (form_outcome r o)
form_keeps r None is = tt
form_keeps r (Some (InviteForm name role)) is =
    by r.begun refl (not (is_name name) || (is_invited name r.head.rows || nat_le row_limit (length r.head.rows)))
  where
    by : (b : Bool) → r.begun ≡ b → (n : Bool)
        → Keeps r (unless_broken (first_some (broken_if b order_rule ∷ broken_if n name_rule ∷ [])) (Invites (record { name = name; role = role })))
    by true e n = tt
    by false e true = tt
    by false e false = e
form_keeps r (Some (JoinForm name words)) is = by (not (is_name name))
  where
    by : (n : Bool) → Keeps r (unless_broken (broken_if n name_rule) (join_outcome name words (confirmed_by presets words)))
    by true = tt
    by false = joins r name words (confirmed_by presets words) (confirmed_has presets words presets_have)
form_keeps r (Some (StepForm v step)) is = by (is_present v r.play.reached.viewers) refl
  where
    by : (p : Bool) → is_present v r.play.reached.viewers ≡ p → Keeps r (unless_broken (broken_if (not p) presence_rule) (Asks (without_preset step)))
    by false e = tt
    by true e = (present_is r.play v step is e, has_plain)

line_keeps : (at : ℕ) (r : ScriptReading) (line : Line) → Keeps r (line_outcome at r line)
line_keeps at r line = by (breaks_text_rule at line)
  where
    by : (b : Bool) → Keeps r (unless_broken (broken_if b text_rule) (form_outcome r (line_form (words_of line.text))))
    by true = tt
    by false = form_keeps r (line_form (words_of line.text)) (line_form_is (words_of line.text))

-- ---- the lines of a script

-- what is asked from a reading on: its head is the reading's where a step has stood
record KeepsPremises (r : ScriptReading) (s : Script) : Type 0 where
  head : r.begun ≡ true → s.head ≡ r.head
  size : s.head.size ≡ r.head.size
  present : AreByPresentFrom s.head r.play s.asked
  caches : ConfirmAllCaches s.asked

asks_on : (r : ScriptReading) (a : Asked) (s : Script) → IsTrue (is_by_present_viewer r.play a.step) → HasAllCaches a.confirmed → KeepsPremises (after_step r a.step) s
    → KeepsPremises r (with_asked a s)
asks_on r a s by has rest = record {
  head = λ begun. rest.head refl;
  size = rest.size;
  present = (by, subst (λ h. AreByPresentFrom s.head (outcome h r.play a.step).play s.asked) (sym (rest.head refl)) rest.present);
  caches = (has, rest.caches);
}

outcome_keeps_premises : (r : ScriptReading) (k : ℕ) (o : LineOutcome) (others : ScriptReading → Script) → Keeps r o → ((next : ScriptReading) → KeepsPremises next (others next))
    → KeepsPremises r (proceeding r k o others)
outcome_keeps_premises r k (Breaks rule) others keeps rest = record { head = λ begun. refl; size = refl; present = tt; caches = tt }
outcome_keeps_premises r k (Invites row) others keeps rest =
    let next = rest (with_row r row) in
    record { head = λ begun. absurd (cc (sym keeps ∙ begun)); size = next.size; present = next.present; caches = next.caches }
outcome_keeps_premises r k (Asks a) others keeps rest = asks_on r a (others (after_step r a.step)) keeps.0 keeps.1 (rest (after_step r a.step))

lines_keep_premises : (k at : ℕ) (r : ScriptReading) (lines : List Line) → KeepsPremises r (script_from k at r lines)
lines_keep_premises k at r [] = record { head = λ begun. refl; size = refl; present = tt; caches = tt }
lines_keep_premises k at r (line ∷ lines) =
    outcome_keeps_premises r k (line_outcome at r line) (λ next. script_from (k + 1) (at + length (line_bytes line)) next lines) (line_keeps at r line)
    (λ next. lines_keep_premises (k + 1) (at + length (line_bytes line)) next lines)

-- ---- whole scripts

-- the premises of the headline over lists of steps
pub record HasPremises (s : Script) : Type 0 where
  pub size : HasSessionSize s.head
  pub present : AreByPresentViewers s.head s.asked
  pub caches : ConfirmAllCaches s.asked

from_first : (size : Size) (rows : List Row) (s : Script) → IsTrue (is_session_size size.w size.h) → KeepsPremises (opened_reading size rows) s → HasPremises s
from_first size rows s is goes = record {
  size = subst (λ z. IsTrue (is_session_size z.w z.h)) (sym goes.size) is;
  present = subst (λ z. AreByPresentFrom s.head (play_at_first z) s.asked) (sym goes.size) goes.present;
  caches = goes.caches;
}

after_has : (at : ℕ) (size : Size) (lines : List Line) → IsTrue (is_session_size size.w size.h) → HasPremises (script_after at size lines)
after_has at size lines is = by (begins_with_invite at lines)
  where
    by : (b : Bool) → HasPremises (if b then invited_script at size lines else solo_script at size lines)
    by true = from_first size [] (invited_script at size lines) is (lines_keep_premises 2 at (opened_reading size []) lines)
    by false = from_first size solo_rows (solo_script at size lines) is
        (asks_on (opened_reading size solo_rows) solo_join (script_from 2 at (after_step (opened_reading size solo_rows) solo_join.step) lines) refl has_plain
        (lines_keep_premises 2 at (after_step (opened_reading size solo_rows) solo_join.step) lines))

opened_has : (line : Line) (o : Option Size) (lines : List Line) → IfSome o (λ size. IsTrue (is_session_size size.w size.h))
    → IfOpened (opening_by line o lines) HasPremises
opened_has line None lines is = tt
opened_has line (Some size) lines is = by line.ended
  where
    by : (b : Bool) → IfOpened (if b then Opened (script_after (length (line_bytes line)) size lines) else Unended) HasPremises
    by true = after_has (length (line_bytes line)) size lines is
    by false = tt

size_is : (w h : ℕ) → IfSome (size_with w h) (λ size. IsTrue (is_session_size size.w size.h))
size_is w h = by (is_session_size w h) refl
  where
    by : (b : Bool) → is_session_size w h ≡ b → IfSome {T = Size} (then_some b (record { w = w; h = h })) (λ size. IsTrue (is_session_size size.w size.h))
    by true e = e
    by false e = tt

words_have_size : (words : List (List ℕ)) → IfSome (size_of_words words) (λ size. IsTrue (is_session_size size.w size.h))
words_have_size [] = tt
words_have_size (word ∷ []) = tt
words_have_size (word ∷ w ∷ []) = tt
words_have_size (word ∷ w ∷ h ∷ []) = by (is_same_word word (codes "size"))
  where
    by : (b : Bool)
        → IfSome (if b then option_and_then (λ m. option_and_then (λ n. size_with m n) (number_of h)) (number_of w) else None)
        (λ size. IsTrue (is_session_size size.w size.h))
    by true = some_of (λ size. IsTrue (is_session_size size.w size.h)) (λ m. option_and_then (λ n. size_with m n) (number_of h)) (number_of w) (λ m.
        some_of (λ size. IsTrue (is_session_size size.w size.h)) (λ n. size_with m n) (number_of h) (λ n. size_is m n))
    by false = tt
words_have_size (word ∷ w ∷ h ∷ more ∷ words) = tt

opening_has : (lines : List Line) → IfOpened (opening_of_lines lines) HasPremises
opening_has [] = tt
opening_has (line ∷ lines) = opened_has line (size_of_words (words_of line.text)) lines (words_have_size (words_of line.text))

pub scripts_have : (bytes : List ℕ) → IfOpened (opening_of bytes) HasPremises
scripts_have bytes = opening_has (lines_of bytes)

-- a part of what an opened script has
pub part : (o : Opening) (fact other : Script → Type 0) → ((s : Script) → fact s → other s) → IfOpened o fact → IfOpened o other
part NoSize fact other f h = tt
part Unended fact other f h = tt
part (Opened s) fact other f h = f s h
