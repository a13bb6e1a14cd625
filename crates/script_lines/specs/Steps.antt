-- What a line asks of a session, as a step of a viewer.
use Rattle.std.specs.Prelude.{ℕ, ℤ, List, [], ◌∷◌, false}
use Rattle.std.specs.declared.option.Option.{Option}
use Rattle.std.specs.declared.option.Option.TheVariants.{Some, None}
use Rattle.std.specs.Option.{option_map, option_and_then}
use Rattle.line_text.specs.Numbers.{number_up_to}
use Rattle.line_text.specs.Hexadecimal.{hexadecimal_of}
use Rattle.px_core.specs.Picture.{nat_of}
use Rattle.input_pdu.specs.declared.event.Event.{Event}
use Rattle.input_pdu.specs.declared.event.Event.TheVariants.{Scan, Unicode, Mouse}
use Rattle.script_rules.specs.Forms.{is_up, unicode_limit}
use Rattle.script_rules.specs.Fields.{values_of}
use Rattle.script_rules.specs.Fields.Field.{Count, Digits}

-- ---- input events

-- a key by the words of its code and of its direction
abbrev pub key_by : List ℕ → List ℕ → Option Event
key_by code direction = option_and_then (λ c. option_map (λ up. Scan c up) (is_up direction)) (hexadecimal_of 2 code)

-- the Unicode event of a word
abbrev pub unicode_by : List ℕ → Option Event
unicode_by word = option_map (λ code. Unicode code false) (number_up_to unicode_limit word)

-- the events of the forms of input, by the words after the first
abbrev pub key_of : List (List ℕ) → Option Event
key_of [] = None
key_of (code ∷ []) = None
key_of (code ∷ direction ∷ []) = key_by code direction
key_of (code ∷ direction ∷ word ∷ words) = None

abbrev pub char_of : List (List ℕ) → Option Event
char_of [] = None
char_of (word ∷ []) = unicode_by word
char_of (word ∷ next ∷ words) = None

abbrev pub mouse_by : List ℤ → List (List ℕ) → Option Event
mouse_by (flags ∷ x ∷ y ∷ []) [] = Some (Mouse (nat_of flags) (nat_of x) (nat_of y))
mouse_by numbers words = None

abbrev pub mouse_of : List (List ℕ) → Option Event
mouse_of words = option_and_then (λ vs. mouse_by vs.numbers vs.words) (values_of (Digits 4 ∷ Count ∷ Count ∷ []) words)
