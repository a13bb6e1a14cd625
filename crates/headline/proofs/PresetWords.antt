-- Preset words that confirm something have no line feed, so they stand on one line.
use Rattle.std.proofs.Common.{◌≡◌, ℕ, ◌+◌, ◌*◌, List, [], ◌∷◌, ◌++◌, refl, ap, sym, subst, ◌∙◌, arith, Some, None, Bool, true, false}
use Rattle.std.specs.Prelude.{Option, ⊤, is_some, ◌-◌, ◌==◌, ◌&&◌, nat_le, codes, drop, length, nat_eq, if◌then◌else◌}
use Rattle.std.specs.Option.{option_map, option_and_then}
use Rattle.std.specs.Char.{is_digit, digit_value, is_ascii_digit}
use Rattle.std.specs.List.{join_with_byte, starts_with}
use Rattle.std.proofs.lemmas.Bool.{and_parts}
use Rattle.std.proofs.lemmas.Bool.Decides.{nat_tests}
use Rattle.std.proofs.lemmas.List.Splits.{join_with_byte-slice_split}
use Rattle.std.proofs.lemmas.List.Elements.{All-head, All-tail}
use Rattle.px_core.specs.declared.depth.Depth.TheVariants.{Bits16}
use Rattle.caps_sets.specs.declared.confirmed.Confirmed.{Confirmed}
use Rattle.caps_sets.specs.declared.cache_size.CacheSize.{CacheSize}
use Rattle.caps_sets.specs.Confirmed.{most_pointers, sized, with_bitmap_cache, with_glyph_cache}
use Rattle.line_text.specs.Words.{parts_at, is_same_word}
use Rattle.line_text.specs.Numbers.{digits_behind, number_of, number_up_to}
use Rattle.caps_sets.specs.Presets.{Preset, presets, preset_named, cache_limit, size_by, with_cache, overridden, is_pointer_word, with_pointers, overridden_word, overridden_by, confirmed_by}
use Rattle.script_rules.proofs.ReadBack.{Lacks}
use Rattle.headline.proofs.Lacking.{lacks_nil, lacks_cons, lacks_append, lacks_by}
use Rattle.headline.proofs.Lines.{AreOneLine}

first_is : {A B : Type 0} (f : A → Option B) (o : Option A) → is_some (option_and_then f o) ≡ true → is_some o ≡ true
first_is f None e = absurd (cc e)
first_is f (Some x) e = refl

mapped_is : {A B : Type 0} (f : A → B) (o : Option A) → is_some (option_map f o) ≡ true → is_some o ≡ true
mapped_is f None e = absurd (cc e)
mapped_is f (Some x) e = refl

-- a word that is a known one
pub same_word : (a b : List ℕ) → is_same_word a b ≡ true → a ≡ b
same_word [] [] e = refl
same_word [] (b ∷ bs) e = absurd (cc e)
same_word (a ∷ word) [] e = absurd (cc e)
same_word (a ∷ word) (b ∷ bs) e =
    let p = and_parts (a == b) (is_same_word word bs) e in
    let head : a ≡ b = grind (arith, nat_tests, p.0) in
    ap (λ x. x ∷ word) head ∙ ap (λ xs. b ∷ xs) (same_word word bs p.1)

-- ---- numbers

digit_is_other : (b : ℕ) → is_digit b 10 ≡ true → (b == 10) ≡ false
digit_is_other b e = grind (arith, nat_tests, e)

digits_lack : (n : ℕ) (word : List ℕ) → is_some (digits_behind 10 n word) ≡ true → Lacks 10 word
digits_lack n [] e = lacks_nil 10
digits_lack n (b ∷ bs) e = by (is_digit b 10) refl e (λ more. digits_lack (10 * n + digit_value b) bs more)
  where
    by : (t : Bool) → is_digit b 10 ≡ t → is_some (if t then digits_behind 10 (10 * n + digit_value b) bs else None) ≡ true
        → (is_some (digits_behind 10 (10 * n + digit_value b) bs) ≡ true → Lacks 10 bs) → Lacks 10 (b ∷ bs)
    by true is more rest = lacks_cons 10 b bs (digit_is_other b is) (rest more)
    by false is more rest = absurd (cc more)

number_lacks : (word : List ℕ) → is_some (number_of word) ≡ true → Lacks 10 word
number_lacks [] e = lacks_nil 10
number_lacks (b ∷ []) e = digits_lack 0 (b ∷ []) e
number_lacks (b ∷ c ∷ bs) e = by (b == 48) e
  where
    by : (t : Bool) → is_some (if t then None else digits_behind 10 0 (b ∷ c ∷ bs)) ≡ true → Lacks 10 (b ∷ c ∷ bs)
    by true more = absurd (cc more)
    by false more = digits_lack 0 (b ∷ c ∷ bs) more

up_to_lacks : (most : ℕ) (word : List ℕ) → is_some (number_up_to most word) ≡ true → Lacks 10 word
up_to_lacks most word e = number_lacks word (first_is _ (number_of word) e)

-- ---- overrides

sizes_lack : (parts : List (List ℕ)) → is_some (size_by parts) ≡ true → Lacks 10 (join_with_byte 44 parts)
sizes_lack [] e = absurd (cc e)
sizes_lack (entries ∷ []) e = absurd (cc e)
sizes_lack (entries ∷ cell ∷ []) e = by (number_up_to cache_limit entries) refl e
  where
    by : (o : Option ℕ) → number_up_to cache_limit entries ≡ o → is_some (option_and_then (λ n. option_map (sized n) (number_up_to cache_limit cell)) o) ≡ true
        → Lacks 10 (entries ++ 44 ∷ cell)
    by None is more = absurd (cc more)
    by (Some n) is more =
        lacks_append 10 entries (44 ∷ cell) (up_to_lacks cache_limit entries (ap is_some is))
        (lacks_cons 10 44 cell refl (up_to_lacks cache_limit cell (mapped_is (sized n) (number_up_to cache_limit cell) more)))
sizes_lack (entries ∷ cell ∷ more ∷ parts) e = absurd (cc e)

rest_lacks : (rest : List ℕ) → is_some (size_by (parts_at 44 rest)) ≡ true → Lacks 10 rest
rest_lacks rest e = subst (Lacks 10) (join_with_byte-slice_split 44 rest) (sizes_lack (parts_at 44 rest) e)

named : (kind word : List ℕ) (more : Bool) → (is_same_word kind word && more) ≡ true → Lacks 10 word → Lacks 10 kind
named kind word more e h = subst (Lacks 10) (sym (same_word kind word (and_parts (is_same_word kind word) more e).0)) h

kind_lacks : (c : Confirmed) (kind : List ℕ) (cache : ℕ) (size : CacheSize) → is_some (with_cache c kind cache size) ≡ true → Lacks 10 kind
kind_lacks c kind cache size e = by (is_same_word kind (codes "bc") && nat_le cache 2) refl (is_same_word kind (codes "gc") && nat_le cache 9) refl e
  where
    by : (b : Bool) → (is_same_word kind (codes "bc") && nat_le cache 2) ≡ b → (g : Bool) → (is_same_word kind (codes "gc") && nat_le cache 9) ≡ g
        → is_some (if b then Some (with_bitmap_cache cache size c) else (if g then Some (with_glyph_cache cache size c) else None)) ≡ true → Lacks 10 kind
    by true is g other more = named kind (codes "bc") (nat_le cache 2) is (lacks_by 10 (codes "bc") refl)
    by false other true is more = named kind (codes "gc") (nat_le cache 9) is (lacks_by 10 (codes "gc") refl)
    by false other false is more = absurd (cc more)

sign_is_other : (k : ℕ) → is_ascii_digit k ≡ true → (k == 10) ≡ false
sign_is_other k e = grind (arith, nat_tests, e)

equals_is_other : (sign : ℕ) → (sign == 61) ≡ true → (sign == 10) ≡ false
equals_is_other sign e = grind (arith, nat_tests, e)

override_lacks : (c : Confirmed) (word : List ℕ) → is_some (overridden c word) ≡ true → Lacks 10 word
override_lacks c [] e = absurd (cc e)
override_lacks c (a ∷ []) e = absurd (cc e)
override_lacks c (a ∷ b ∷ []) e = absurd (cc e)
override_lacks c (a ∷ b ∷ k ∷ []) e = absurd (cc e)
override_lacks c (a ∷ b ∷ k ∷ sign ∷ rest) e = by (is_ascii_digit k && (sign == 61)) refl (size_by (parts_at 44 rest)) refl e
  where
    by : (t : Bool) → (is_ascii_digit k && (sign == 61)) ≡ t → (o : Option CacheSize) → size_by (parts_at 44 rest) ≡ o
        → is_some (if t then option_and_then (with_cache c (a ∷ b ∷ []) (k - 48)) o else None) ≡ true → Lacks 10 (a ∷ b ∷ k ∷ sign ∷ rest)
    by true is None size more = absurd (cc more)
    by true is (Some s) size more =
        let p = and_parts (is_ascii_digit k) (sign == 61) is in
        lacks_append 10 (a ∷ b ∷ []) (k ∷ sign ∷ rest) (kind_lacks c (a ∷ b ∷ []) (k - 48) s more)
        (lacks_cons 10 k (sign ∷ rest) (sign_is_other k p.0) (lacks_cons 10 sign rest (equals_is_other sign p.1) (rest_lacks rest (ap is_some size))))
    by false is o size more = absurd (cc more)

-- a word that begins with another one
start_lacks : (start word : List ℕ) → starts_with nat_eq word start ≡ true → Lacks 10 start → Lacks 10 (drop (length start) word) → Lacks 10 word
start_lacks [] word e h more = more
start_lacks (a ∷ start) [] e h more = lacks_nil 10
start_lacks (a ∷ start) (b ∷ word) e h more =
    let p = and_parts (nat_eq a b) (starts_with nat_eq word start) e in
    let same : a ≡ b = grind (arith, nat_tests, p.0) in
    lacks_cons 10 b word (subst (λ x. (x == 10) ≡ false) same (All-head (λ x. (x == 10) ≡ false) a start h))
    (start_lacks start word p.1 (All-tail (λ x. (x == 10) ≡ false) a start h) more)

-- a number of pointers behind its name
pointers_lack : (c : Confirmed) (word : List ℕ) → is_pointer_word word ≡ true → is_some (with_pointers c (drop 8 word)) ≡ true → Lacks 10 word
pointers_lack c word is e =
    let digits = up_to_lacks most_pointers (drop 8 word) (mapped_is (λ n. record c { pointers = n }) (number_up_to most_pointers (drop 8 word)) e) in
    start_lacks (codes "pointer=") word is (lacks_by 10 (codes "pointer=") refl) digits

word_lacks : (c : Confirmed) (word : List ℕ) → is_some (overridden_word c word) ≡ true → Lacks 10 word
word_lacks c word e = by (is_same_word word (codes "cautious")) refl (is_same_word word (codes "fast")) refl (is_same_word word (codes "bpp=16")) refl
    (is_pointer_word word) refl e
  where
    by : (cautious : Bool) → is_same_word word (codes "cautious") ≡ cautious → (fast : Bool) → is_same_word word (codes "fast") ≡ fast
        → (sixteen : Bool) → is_same_word word (codes "bpp=16") ≡ sixteen → (pointer : Bool) → is_pointer_word word ≡ pointer
        → is_some (if cautious then Some (record c { cautious = true }) else (if fast then Some (record c { fast = true })
        else (if sixteen then Some (record c { depth = Bits16 }) else (if pointer then with_pointers c (drop 8 word) else overridden c word)))) ≡ true
        → Lacks 10 word
    by true is fast fast_is sixteen sixteen_is pointer pointer_is more = subst (Lacks 10) (sym (same_word word (codes "cautious") is)) (lacks_by 10 (codes "cautious") refl)
    by false other true is sixteen sixteen_is pointer pointer_is more = subst (Lacks 10) (sym (same_word word (codes "fast") is)) (lacks_by 10 (codes "fast") refl)
    by false other false slow true is pointer pointer_is more = subst (Lacks 10) (sym (same_word word (codes "bpp=16") is)) (lacks_by 10 (codes "bpp=16") refl)
    by false other false slow false deep true is more = pointers_lack c word is more
    by false other false slow false deep false is more = override_lacks c word more

overrides_are : (c : Confirmed) (words : List (List ℕ)) → is_some (overridden_by c words) ≡ true → AreOneLine words
overrides_are c [] e = tt
overrides_are c (word ∷ words) e = by (overridden_word c word) refl e (λ d more. overrides_are d words more)
  where
    by : (o : Option Confirmed) → overridden_word c word ≡ o → is_some (option_and_then (λ d. overridden_by d words) o) ≡ true
        → ((d : Confirmed) → is_some (overridden_by d words) ≡ true → AreOneLine words) → AreOneLine (word ∷ words)
    by None is more rest = absurd (cc more)
    by (Some d) is more rest = (word_lacks c word (ap is_some is), rest d more)

-- ---- presets

abbrev NameOneLine : List Preset → Type 0
NameOneLine [] = ⊤
NameOneLine (p ∷ ps) = Lacks 10 p.word × NameOneLine ps

presets_name : NameOneLine presets
presets_name =
    (lacks_by 10 (codes "plain") refl, (lacks_by 10 (codes "full") refl, (lacks_by 10 (codes "marked") refl, (lacks_by 10 (codes "bare") refl, tt))))

preset_lacks : (ps : List Preset) (word : List ℕ) → NameOneLine ps → is_some (preset_named ps word) ≡ true → Lacks 10 word
preset_lacks [] word h e = absurd (cc e)
preset_lacks (p ∷ ps) word h e = by (is_same_word word p.word) refl e (λ more. preset_lacks ps word h.1 more)
  where
    by : (t : Bool) → is_same_word word p.word ≡ t → is_some (if t then Some p.confirmed else preset_named ps word) ≡ true
        → (is_some (preset_named ps word) ≡ true → Lacks 10 word) → Lacks 10 word
    by true is more rest = subst (Lacks 10) (sym (same_word word p.word is)) h.0
    by false is more rest = rest more

-- preset words that confirm something
pub preset_is_one_line : (words : List (List ℕ)) → is_some (confirmed_by presets words) ≡ true → AreOneLine words
preset_is_one_line [] e = absurd (cc e)
preset_is_one_line (word ∷ words) e = by (preset_named presets word) refl e
  where
    by : (o : Option Confirmed) → preset_named presets word ≡ o → is_some (option_and_then (λ c. overridden_by c words) o) ≡ true → AreOneLine (word ∷ words)
    by None is more = absurd (cc more)
    by (Some c) is more = (preset_lacks presets word presets_name (ap is_some is), overrides_are c words more)
