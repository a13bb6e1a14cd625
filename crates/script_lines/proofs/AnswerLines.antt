-- Lines of answers in pieces.
use Rattle.std.proofs.Common.{◌≡◌, ℕ, ◌+◌, ◌*◌, ◌/◌, ◌%◌, ◌<◌, List, [], ◌∷◌, ◌++◌, length, get_or, take, refl, ap, sym, ◌∙◌, arith, append_assoc, set}
use Rattle.std.specs.Prelude.{codes, decimal, ◌==◌, slice_set, count_by}
use Rattle.std.specs.List.{join_with_byte}
use Rattle.std.specs.Char.{digit_char}
use Rattle.std.proofs.lemmas.List.{append-nil, take_more_set, length-set}
use Rattle.std.proofs.lemmas.List.Splits.{join_with_byte-slice_split, length-slice_split}
use Rattle.px_core.specs.declared.surface.Size.{Size}
use Rattle.line_text.specs.Words.{words_of}
use Rattle.line_text.specs.Hexadecimal.{hexadecimal_text, HoldsFront}
use Rattle.line_text.proofs.HexadecimalLemmas.{hexadecimal_more}
use Rattle.script_rules.specs.Capture.{ended, of_viewer, spaced, joined_line}
use Rattle.script_lines.specs.Answers.{joined_text}

-- nothing was appended
pub none_of_it : (old text : List ℕ) → HoldsFront old old text
none_of_it old text = record { front = []; rest = text; whole = refl; held = sym (append-nil old) }

-- ---- a text, a space, another text and a line feed, in part

-- the first text
pub after_head : {old new : List ℕ} (head text : List ℕ) → new ≡ old ++ head → HoldsFront old new (ended (head ++ 32 ∷ text))
after_head head text e = record { front = head; rest = (32 ∷ text) ++ 10 ∷ []; whole = append_assoc head (32 ∷ text) (10 ∷ []); held = e }

-- the first text, the space and a front of the second
pub after_space : {old mid new : List ℕ} (head text : List ℕ) → mid ≡ (old ++ head) ++ 32 ∷ [] → HoldsFront mid new text → HoldsFront old new (ended (head ++ 32 ∷ text))
after_space {old} {mid} {new} head text e h =
    let f = h.front in
    let r = h.rest in
    record {
      front = (head ++ 32 ∷ []) ++ f;
      rest = r ++ 10 ∷ [];
      whole = ap (λ t. (head ++ 32 ∷ t) ++ 10 ∷ []) h.whole
          ∙ append_assoc head (32 ∷ (f ++ r)) (10 ∷ [])
          ∙ ap (λ t. head ++ 32 ∷ t) (append_assoc f r (10 ∷ []))
          ∙ sym (append_assoc (head ++ 32 ∷ []) f (r ++ 10 ∷ []) ∙ append_assoc head (32 ∷ []) (f ++ (r ++ 10 ∷ [])));
      held = h.held ∙ ap (λ t. t ++ f) (e ∙ append_assoc old head (32 ∷ [])) ∙ append_assoc old (head ++ 32 ∷ []) f;
    }

-- ---- digits

-- two digits more
pub two_digits : (digits : List ℕ) (bytes : List ℕ) (at a b : ℕ) → length digits ≡ 2 * length bytes → at < length bytes →
    take (2 * at) digits ≡ hexadecimal_text (take at bytes) → a ≡ digit_char (get_or bytes at 0 / 16) → b ≡ digit_char (get_or bytes at 0 % 16) →
    take (2 * (at + 1)) (slice_set (slice_set digits (2 * at) a) (2 * at + 1) b) ≡ hexadecimal_text (take (at + 1) bytes)
two_digits digits bytes at a b room lt written ea eb =
    let first = set digits (2 * at) a in
    let inside : 2 * at < length digits = omega (arith, room) in
    let long : length first ≡ length digits = length-set digits (2 * at) a in
    let inside_two : 2 * at + 1 < length first = omega (arith, room, long) in
    let place : 2 * (at + 1) ≡ (2 * at + 1) + 1 = omega arith in
    ap (λ n. take n (set first (2 * at + 1) b)) place
    ∙ take_more_set first (2 * at + 1) b inside_two
    ∙ ap (λ xs. xs ++ b ∷ []) (take_more_set digits (2 * at) a inside)
    ∙ append_assoc (take (2 * at) digits) (a ∷ []) (b ∷ [])
    ∙ ap (λ xs. xs ++ a ∷ b ∷ []) written
    ∙ ap (λ x. hexadecimal_text (take at bytes) ++ x ∷ b ∷ []) ea
    ∙ ap (λ x. hexadecimal_text (take at bytes) ++ digit_char (get_or bytes at 0 / 16) ∷ x ∷ []) eb
    ∙ sym (hexadecimal_more bytes at lt)

-- ---- preset words

spaced_join : (word : List ℕ) (words : List (List ℕ)) → spaced (word ∷ words) ≡ 32 ∷ join_with_byte 32 (word ∷ words)
spaced_join word [] = ap (λ w. 32 ∷ w) (append-nil word)
spaced_join word (next ∷ words) = ap (λ ws. 32 ∷ word ++ ws) (spaced_join next words)

some_spaced : (words : List (List ℕ)) → 0 < length words → spaced words ≡ 32 ∷ join_with_byte 32 words
some_spaced [] some = let none : ⊥ = omega (arith, some) in absurd none
some_spaced (word ∷ words) some = spaced_join word words

spaced_words : (text : List ℕ) → spaced (words_of text) ≡ 32 ∷ text
spaced_words text =
    let many : length (words_of text) ≡ count_by (λ b. b == 32) text + 1 = length-slice_split (λ b. b == 32) text in
    some_spaced (words_of text) (omega (arith, many)) ∙ ap (λ t. 32 ∷ t) (join_with_byte-slice_split 32 text)

-- a joined line by the text of its preset words
pub joined_is : (size : Size) (v : ℕ) (preset : List ℕ) → of_viewer v (joined_text size preset) ≡ joined_line size v (words_of preset)
joined_is size v preset = ap (λ ws. of_viewer v (codes "joined " ++ decimal size.w ++ 32 ∷ decimal size.h ++ ws)) (sym (spaced_words preset))
