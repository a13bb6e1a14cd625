-- A text is read: each field that stands there is read.
use Rattle.std.proofs.Common.{◌≡◌, ℕ, ◌≤◌, Bool, true, false, cond, List, [], ◌∷◌, ◌++◌, length, take, refl, ap, sym, ◌∙◌, arith, append-nil, subst}
use Rattle.std.specs.Prelude.{nat_lt, nat_eq, ◌==◌, Ok, Err}
use Rattle.std.specs.List.{starts_with}
use lib.Pointwise.{pointwise}
use Rattle.std.specs.Cmp.Lexicographic.{other_text}
use Rattle.std.proofs.lemmas.Bool.Decides.{nat_tests}
use Rattle.std.proofs.Math.Seq.{take-append_seam, drop-append_seam}
use Rattle.wire_num.specs.Number.{little_value, big_value, big_at, little_at}
use Rattle.wire_num.proofs.Bytes.{taken_back, wanted_is}
use Rattle.wire_num.proofs.Numbers.{big_number_is, little_number_is}
use Rattle.byteorder.specs.Endian.{big_number, little_number}
use Rattle.wire_num.specs.FieldValue.{as_one_field, passing_at, end_at, at_least, rest_count_at}
use Rattle.wire_num.specs.Field.{Read, then_read, map_read, bytes_at, wanted}
use Rattle.wire_num.specs.Length.{per_len_at, ber_len_at}
use Rattle.wire_num.specs.Layout.{Layout, Open, End, Rest, Body, Content, Exactly, Bytes, Any, Big, Little, CountsRest, AtLeast, Length, Counted, Within, Count, OneByte, Packed, Basic, count_at, exactly_at, before, fields_at}
use Rattle.wire_num.specs.Grammar.{IsOneByte, IsPacked, IsBasic, IsCount, IsText}
use Rattle.wire_num.proofs.Steps.{not_short, counts}

-- ---- fields that stand there are read

abbrev pub got : List ℕ → List ℕ → Read (List ℕ)
got values left = Ok (values, left)

same_answer : (vs ws l k : List ℕ) → vs ≡ ws → l ≡ k → got vs l ≡ got ws k
same_answer vs ws l k e h = ap (λ x. got x l) e ∙ ap (λ x. got ws x) h

pub then_again : {A B : Type 0} (r : Read A) (v : A) (rest : List ℕ) (f : A → List ℕ → Read B) (y : Read B) → r ≡ Ok (v, rest) → f v rest ≡ y → then_read r f ≡ y
then_again r v rest f y e h = ap (λ x. then_read x f) e ∙ h

pub bytes_again : (text more : List ℕ) → bytes_at (length text) (text ++ more) ≡ Ok (text, more)
bytes_again text more = taken_back (text ++ more) text more

pub bytes_all : (bs : List ℕ) → bytes_at (length bs) bs ≡ Ok (bs, [])
bytes_all bs = ap (bytes_at (length bs)) (sym (append-nil bs)) ∙ bytes_again bs []

pub bytes_there : (n : ℕ) (text more : List ℕ) → length text ≡ n → bytes_at n (text ++ more) ≡ Ok (text, more)
bytes_there n text more h =
    let P : ℕ → Type 0 = λ k. bytes_at k (text ++ more) ≡ Ok (text, more) in subst P h (bytes_again text more)

big_again : (text more : List ℕ) → big_at (length text) (text ++ more) ≡ Ok (big_number (length text) text, more)
big_again text more = ap (map_read big_value) (taken_back (text ++ more) text more) ∙ ap (λ n. Ok (n, more)) (sym (big_number_is text))

pub big_there : (n : ℕ) (text more : List ℕ) → length text ≡ n → big_at n (text ++ more) ≡ Ok (big_number n text, more)
big_there n text more h =
    let P : ℕ → Type 0 = λ k. big_at k (text ++ more) ≡ Ok (big_number k text, more) in subst P h (big_again text more)

little_again : (text more : List ℕ) → little_at (length text) (text ++ more) ≡ Ok (little_number (length text) text, more)
little_again text more = ap (map_read little_value) (taken_back (text ++ more) text more) ∙ ap (λ n. Ok (n, more)) (sym (little_number_is text))

pub little_there : (n : ℕ) (text more : List ℕ) → length text ≡ n → little_at n (text ++ more) ≡ Ok (little_number n text, more)
little_there n text more h =
    let P : ℕ → Type 0 = λ k. little_at k (text ++ more) ≡ Ok (little_number k text, more) in subst P h (little_again text more)

pub passing_again : (test : ℕ → Bool) (read : List ℕ → Read ℕ) (bs : List ℕ) (v : ℕ) (rest : List ℕ) → read bs ≡ Ok (v, rest) → test v ≡ true → passing_at test read bs ≡ Ok (v, rest)
unfolding passing_at
passing_again test read bs v rest e t =
    then_again (read bs) v rest (λ x more. cond (test x) (Ok (x, more)) (Err bs)) (Ok (v, rest)) e (ap (λ b. cond b (Ok (v, rest)) (Err bs)) t)

-- a list begins with itself
told : (b : Bool) (xs ys : List ℕ) → xs ≡ ys → b ≡ pointwise nat_eq xs ys → b ≡ true
told true xs ys same e = refl
told false xs ys same e = absurd (other_text xs ys e same)

starts : (ws more : List ℕ) → starts_with nat_eq (ws ++ more) ws ≡ true
starts ws more = told (starts_with nat_eq (ws ++ more) ws) ws (take (length ws) (ws ++ more)) (sym (take-append_seam ws more)) refl

pub wanted_again : (ws more : List ℕ) → wanted ws (ws ++ more) ≡ Ok ([], more)
wanted_again ws more = wanted_is ws (ws ++ more) ∙ rw (starts ws more) (ap (λ xs. Ok ([], xs)) (drop-append_seam ws more))

pub end_again : end_at [] ≡ Ok ([], [])
end_again = refl

pub exactly_again : (bs : List ℕ) → exactly_at (length bs) bs ≡ Ok (bs, [])
unfolding exactly_at
exactly_again bs = rw (counts (length bs)) refl

pub at_least_again : (n : ℕ) (bs : List ℕ) → n ≤ length bs → at_least n bs ≡ Ok ([], bs)
unfolding at_least
at_least_again n bs h = rw (not_short n (length bs) h) refl

byte_again : (b : ℕ) (bs : List ℕ) → big_at 1 (b ∷ bs) ≡ Ok (b, bs)
byte_again b bs =
    let value : big_number 1 (b ∷ []) ≡ b = omega arith in
    big_there 1 (b ∷ []) bs refl ∙ ap (λ n. Ok (n, bs)) value

pub rest_count_again : (bs : List ℕ) → rest_count_at (length bs ∷ bs) ≡ Ok (length bs, bs)
unfolding rest_count_at
rest_count_again bs =
    then_again (big_at 1 (length bs ∷ bs)) (length bs) bs (λ n rest. cond (length rest == n) (Ok (n, rest)) (Err (length bs ∷ bs))) (Ok (length bs, bs))
    (byte_again (length bs) bs) (ap (λ b. cond b (Ok (length bs, bs)) (Err (length bs ∷ bs))) (counts (length bs)))

packed_again : (count : List ℕ) (n : ℕ) (more : List ℕ) → IsPacked count n → per_len_at (count ++ more) ≡ Ok (n, more)
packed_again [] n more p = absurd p
packed_again (b ∷ []) n more p =
    let low = p.0 in
    let short : nat_lt b 128 ≡ true = grind (arith, nat_tests, low) in
    rw short (ap (λ k. Ok (k, more)) (sym p.1))
packed_again (b ∷ c ∷ []) n more p =
    let low = p.0 in let high = p.1 in
    let long : nat_lt b 128 ≡ false = grind (arith, nat_tests, low) in
    let right : nat_lt b 192 ≡ true = grind (arith, nat_tests, high) in
    rw (long, right) (ap (λ k. Ok (k, more)) (sym p.2))
packed_again (b ∷ c ∷ d ∷ bs) n more p = absurd p

basic_again : (count : List ℕ) (n : ℕ) (more : List ℕ) → IsBasic count n → ber_len_at (count ++ more) ≡ Ok (n, more)
basic_again [] n more p = absurd p
basic_again (b ∷ []) n more p =
    let low = p.0 in
    let short : nat_lt b 128 ≡ true = grind (arith, nat_tests, low) in
    rw short (ap (λ k. Ok (k, more)) (sym p.1))
basic_again (b ∷ c ∷ []) n more p =
    let first : b ≡ 129 = p.0 in
    rw first (ap (as_one_field (129 ∷ c ∷ more)) (byte_again c more) ∙ ap (λ k. Ok (k, more)) (sym p.1))
basic_again (b ∷ c ∷ d ∷ []) n more p =
    let first : b ≡ 130 = p.0 in
    let value : big_number 2 (c ∷ d ∷ []) ≡ n = omega (arith, p.1) in
    rw first (ap (as_one_field (130 ∷ c ∷ d ∷ more)) (big_there 2 (c ∷ d ∷ []) more refl) ∙ ap (λ k. Ok (k, more)) value)
basic_again (b ∷ c ∷ d ∷ e ∷ bs) n more p = absurd p

one_again : (count : List ℕ) (n : ℕ) (more : List ℕ) → IsOneByte count n → big_at 1 (count ++ more) ≡ Ok (n, more)
one_again [] n more p = absurd p
one_again (b ∷ []) n more p = byte_again b more ∙ ap (λ k. Ok (k, more)) (sym p)
one_again (b ∷ c ∷ bs) n more p = absurd p

pub count_again : (form : Count) (count : List ℕ) (n : ℕ) (more : List ℕ) → IsCount form count n → count_at form (count ++ more) ≡ Ok (n, more)
count_again OneByte count n more p = one_again count n more p
count_again Packed count n more p = packed_again count n more p
count_again Basic count n more p = basic_again count n more p

-- a text is read
pub text_is_read : (layout : Layout) (bytes values left : List ℕ) → IsText layout bytes values left → fields_at layout bytes ≡ got values left
text_is_read Open bytes values left p = same_answer [] values bytes left (sym p.0) p.1
text_is_read End bytes values left p = ap end_at p.1 ∙ end_again ∙ same_answer [] values [] left (sym p.0) (sym p.2)
text_is_read Rest bytes values left p = same_answer [] values [] left (sym p.0) (sym p.1)
text_is_read (Body form) bytes values left p =
    let count = p.0 in let body = p.1 in
    ap (fields_at (Body form)) p.3
    ∙ then_again (count_at form (count ++ body)) (length body) body (λ n rest. map_read (λ _. n ∷ []) (exactly_at n rest)) (got (length body ∷ []) [])
    (count_again form count (length body) body p.2) (ap (map_read (λ _. length body ∷ [])) (exactly_again body))
    ∙ same_answer (length body ∷ []) values [] left (sym p.4) (sym p.5)
text_is_read (Content form) bytes values left p =
    let count = p.0 in let content = p.1 in
    let size = length content in
    ap (fields_at (Content form)) p.3
    ∙ then_again (count_at form (count ++ content)) size content (λ n rest. then_read (bytes_at n rest) (λ _ after. map_read (λ _. n ∷ []) (end_at after))) (got (size ∷ []) [])
    (count_again form count size content p.2)
    (then_again (bytes_at size content) content [] (λ _ after. map_read (λ _. size ∷ []) (end_at after)) (got (size ∷ []) []) (bytes_all content) (ap (map_read (λ _. size ∷ [])) end_again))
    ∙ same_answer (size ∷ []) values [] left (sym p.4) (sym p.5)
text_is_read (Exactly form next) bytes values left p =
    let count = p.0 in let content = p.1 in
    let size = length content in
    ap (fields_at (Exactly form next)) p.3
    ∙ then_again (count_at form (count ++ content)) size content (λ n rest. then_read (exactly_at n rest) (λ xs _. fields_at next xs)) (got values left)
    (count_again form count size content p.2)
    (then_again (exactly_at size content) content [] (λ xs _. fields_at next xs) (got values left) (exactly_again content) (text_is_read next content values left p.4))
text_is_read (Bytes ws next) bytes values left p =
    ap (fields_at (Bytes ws next)) p.1
    ∙ then_again (wanted ws (ws ++ p.0)) [] p.0 (λ _ rest. fields_at next rest) (got values left) (wanted_again ws p.0) (text_is_read next p.0 values left p.2)
text_is_read (Any n next) bytes values left p =
    ap (fields_at (Any n next)) p.3
    ∙ then_again (bytes_at n (p.0 ++ p.1)) p.0 p.1 (λ _ rest. fields_at next rest) (got values left) (bytes_there n p.0 p.1 p.2) (text_is_read next p.1 values left p.4)
text_is_read (Big n test next) bytes values left p =
    let text = p.0 in let more = p.1 in let others = p.2 in
    let v = big_number n text in
    ap (fields_at (Big n test next)) p.5
    ∙ then_again (passing_at test (big_at n) (text ++ more)) v more (λ x rest. map_read (λ vs. x ∷ vs) (fields_at next rest)) (got (v ∷ others) left)
    (passing_again test (big_at n) (text ++ more) v more (big_there n text more p.3) p.4)
    (ap (map_read (λ vs. v ∷ vs)) (text_is_read next more others left p.7))
    ∙ same_answer (v ∷ others) values left left (sym p.6) refl
text_is_read (Little n test next) bytes values left p =
    let text = p.0 in let more = p.1 in let others = p.2 in
    let v = little_number n text in
    ap (fields_at (Little n test next)) p.5
    ∙ then_again (passing_at test (little_at n) (text ++ more)) v more (λ x rest. map_read (λ vs. x ∷ vs) (fields_at next rest)) (got (v ∷ others) left)
    (passing_again test (little_at n) (text ++ more) v more (little_there n text more p.3) p.4)
    (ap (map_read (λ vs. v ∷ vs)) (text_is_read next more others left p.7))
    ∙ same_answer (v ∷ others) values left left (sym p.6) refl
text_is_read (CountsRest next) bytes values left p =
    ap (fields_at (CountsRest next)) p.1
    ∙ then_again (rest_count_at (length p.0 ∷ p.0)) (length p.0) p.0 (λ _ rest. fields_at next rest) (got values left) (rest_count_again p.0) (text_is_read next p.0 values left p.2)
text_is_read (AtLeast n next) bytes values left p =
    then_again (at_least n bytes) [] bytes (λ _ rest. fields_at next rest) (got values left) (at_least_again n bytes p.0) (text_is_read next bytes values left p.1)
text_is_read (Length form next) bytes values left p =
    ap (fields_at (Length form next)) p.4
    ∙ then_again (count_at form (p.0 ++ p.2)) p.1 p.2 (λ _ rest. fields_at next rest) (got values left) (count_again form p.0 p.1 p.2 p.3) (text_is_read next p.2 values left p.5)
text_is_read (Counted form test next) bytes values left p =
    let count = p.0 in let content = p.1 in let more = p.2 in
    ap (fields_at (Counted form test next)) p.5
    ∙ then_again (passing_at test (count_at form) (count ++ (content ++ more))) (length content) (content ++ more) (λ n rest. then_read (bytes_at n rest) (λ _ after. fields_at next after)) (got values left)
    (passing_again test (count_at form) (count ++ (content ++ more)) (length content) (content ++ more) (count_again form count (length content) (content ++ more) p.3) p.4)
    (then_again (bytes_at (length content) (content ++ more)) content more (λ _ after. fields_at next after) (got values left)
    (bytes_again content more) (text_is_read next more values left p.6))
text_is_read (Within form inner next) bytes values left p =
    let count = p.0 in let content = p.1 in let more = p.2 in let own = p.3 in let others = p.4 in
    let after_all : List ℕ → List ℕ → Read (List ℕ) = λ vs after. map_read (λ ws. vs ++ ws) (fields_at next after) in
    let inside : List ℕ → Read (List ℕ) = λ xs. then_read (fields_at inner xs) (λ vs rest. map_read (λ _. vs) (end_at rest)) in
    let whole : inside content ≡ got own [] =
    then_again (fields_at inner content) own [] (λ vs rest. map_read (λ _. vs) (end_at rest)) (got own []) (text_is_read inner content own [] p.6) (ap (map_read (λ _. own)) end_again) in
    ap (fields_at (Within form inner next)) p.7
    ∙ then_again (count_at form (count ++ (content ++ more))) (length content) (content ++ more) (λ n rest. then_read (bytes_at n rest) (λ xs after. then_read (before after (inside xs)) after_all)) (got (own ++ others) left)
    (count_again form count (length content) (content ++ more) p.5)
    (then_again (bytes_at (length content) (content ++ more)) content more (λ xs after. then_read (before after (inside xs)) after_all) (got (own ++ others) left)
    (bytes_again content more)
    (then_again (before more (inside content)) own more after_all (got (own ++ others) left) (ap (before more) whole)
    (ap (map_read (λ ws. own ++ ws)) (text_is_read next more others left p.9))))
    ∙ same_answer (own ++ others) values left left (sym p.8) refl
