-- A Connect-Initial that was read stands there, and one that stands there is read.
use Rattle.std.proofs.Common.{◌≡◌, ℕ, zero, suc, ◌-◌, ◌≤◌, Bool, true, false, List, [], ◌∷◌, ◌++◌, length, refl, ap, sym, ◌∙◌, arith, length-append, append_assoc, append-nil, subst}
use Rattle.std.specs.Prelude.{◌↔◌, ◌&&◌, nat_le, flat_map, Result, Ok, Err, IsErr, IfOk}
use Rattle.std.specs.List.{AllByRecursion}
use Rattle.std.proofs.lemmas.Bool.Decides.{nat_tests}
use Rattle.wire_num.specs.declared.range.Range.{Range}
use Rattle.wire_num.specs.FieldValue.{placed}
use Rattle.wire_num.specs.Field.{Read, map_read}
use Rattle.wire_num.specs.Layout.{Layout, fields_at}
use Rattle.wire_num.specs.Grammar.{IsText}
use Rattle.wire_num.proofs.Steps.{map_ok}
use Rattle.wire_num.proofs.ReadIsText.{read_is_text}
use Rattle.wire_num.proofs.TextIsRead.{text_is_read}
use Rattle.mcs_ber.specs.declared.bad_ber.BadBer.{BadBer}
use Rattle.mcs_ber.specs.DomainParameters.{is_integer_size, integers, domain_parameters}
use Rattle.mcs_ber.specs.ConnectInitial.{domain_selector, user_data, three_parameters, upward_flag, initial_fields, connect_initial, user_of, user_data_of}
use Rattle.mcs_ber.specs.Grammar.{IsTagged, IsSelector, IsInteger, AreParameters, IsEndOf, IsInitial}

-- ---- a tag, a length and content, and bytes behind them

tagged_front : (bytes tag later count content more : List ℕ) → bytes ≡ tag ++ later → later ≡ count ++ (content ++ more)
    → bytes ≡ (tag ++ (count ++ content)) ++ more
tagged_front bytes tag later count content more e f =
    e ∙ ap (λ xs. tag ++ xs) (f ∙ sym (append_assoc count content more)) ∙ sym (append_assoc tag (count ++ content) more)

tagged_back : (text tag count content more : List ℕ) → text ≡ tag ++ (count ++ content) → text ++ more ≡ tag ++ (count ++ (content ++ more))
tagged_back text tag count content more e =
    ap (λ xs. xs ++ more) e ∙ append_assoc tag (count ++ content) more ∙ ap (λ xs. tag ++ xs) (append_assoc count content more)

-- ---- a selector

record Selected (next : Layout) (bytes values left : List ℕ) : Type 0 where
  text : List ℕ
  more : List ℕ
  is : IsSelector text
  whole : bytes ≡ text ++ more
  then : IsText next more values left

selected : (next : Layout) (bytes values left : List ℕ) → IsText (domain_selector next) bytes values left → Selected next bytes values left
selected next bytes values left t =
    let c = t.2 in
    record {
      text = (4 ∷ []) ++ (c.0 ++ c.1);
      more = c.2;
      is = record { content = c.1; tagged = record { count = c.0; counted = c.3; whole = refl } };
      whole = tagged_front bytes (4 ∷ []) t.0 c.0 c.1 c.2 t.1 c.5;
      then = c.6;
    }

selector_again : (next : Layout) (text more values left : List ℕ) → IsSelector text → IsText next more values left
    → IsText (domain_selector next) (text ++ more) values left
selector_again next text more values left s p =
    let g = s.tagged in
    (g.count ++ (s.content ++ more), tagged_back text (4 ∷ []) g.count s.content more g.whole, (g.count, s.content, more, g.counted, refl, refl, p))

-- ---- integers

sized : (p q : Bool) → (p && q) ≡ true → (p ≡ true) × (q ≡ true)
sized true true e = (refl, refl)
sized true false e = absurd (let no : ⊥ = cc in no)
sized false q e = absurd (let no : ⊥ = cc in no)

record Size (n : ℕ) : Type 0 where
  some : 1 ≤ n
  few : n ≤ 4

size_is : (n : ℕ) → is_integer_size n ≡ true → Size n
size_is n e =
    let s = sized (nat_le 1 n) (nat_le n 4) e in
    let low = s.0 in let high = s.1 in
    record { some = grind (arith, nat_tests, low); few = grind (arith, nat_tests, high) }

size_again : (n : ℕ) → 1 ≤ n → n ≤ 4 → is_integer_size n ≡ true
size_again n low high =
    let a : nat_le 1 n ≡ true = grind (arith, nat_tests, low) in
    let b : nat_le n 4 ≡ true = grind (arith, nat_tests, high) in
    rw (a, b) refl

record Integers (n : ℕ) (bytes values : List ℕ) : Type 0 where
  all : List (List ℕ)
  so_many : length all ≡ n
  each : AllByRecursion IsInteger all
  whole : bytes ≡ flat_map (λ one. one) all
  none : values ≡ []

integers_stand : (n : ℕ) (bytes values left : List ℕ) → IsText (integers n) bytes values left → Integers n bytes values
integers_stand zero bytes values left t = record { all = []; so_many = refl; each = tt; whole = t.1; none = t.0 }
integers_stand (suc n) bytes values left t =
    let c = t.2 in
    let size = size_is (length c.1) c.4 in
    let text : List ℕ = (2 ∷ []) ++ (c.0 ++ c.1) in
    let later = integers_stand n c.2 values left c.6 in
    let first : IsInteger text = record { content = c.1; tagged = record { count = c.0; counted = c.3; whole = refl }; some = size.some; few = size.few } in
    record {
      all = text ∷ later.all;
      so_many = ap suc later.so_many;
      each = (first, later.each);
      whole = tagged_front bytes (2 ∷ []) t.0 c.0 c.1 c.2 t.1 c.5 ∙ ap (λ xs. text ++ xs) later.whole;
      none = later.none;
    }

integers_again : (all : List (List ℕ)) → AllByRecursion IsInteger all → IsText (integers (length all)) (flat_map (λ one. one) all) [] []
integers_again [] each = (refl, refl, refl)
integers_again (text ∷ all) each =
    let i = each.0 in
    let g = i.tagged in
    let more : List ℕ = flat_map (λ one. one) all in (
      g.count ++ (i.content ++ more),
      tagged_back text (2 ∷ []) g.count i.content more g.whole,
      (g.count, i.content, more, g.counted, size_again (length i.content) i.some i.few, refl, integers_again all each.1),
    )

-- ---- domain parameters

record Parameterised (next : Layout) (bytes values left : List ℕ) : Type 0 where
  text : List ℕ
  more : List ℕ
  is : AreParameters text
  whole : bytes ≡ text ++ more
  then : IsText next more values left

parameterised : (next : Layout) (bytes values left : List ℕ) → IsText (domain_parameters next) bytes values left → Parameterised next bytes values left
parameterised next bytes values left t =
    let w = t.2 in
    let i = integers_stand 8 w.1 w.3 [] w.6 in
    let same : values ≡ w.4 = w.8 ∙ ap (λ vs. vs ++ w.4) i.none in
    record {
      text = (48 ∷ []) ++ (w.0 ++ w.1);
      more = w.2;
      is = record {
        integers = i.all;
        eight = i.so_many;
        each = i.each;
        tagged = subst (λ xs. IsTagged (48 ∷ []) xs ((48 ∷ []) ++ (w.0 ++ w.1))) i.whole (record { count = w.0; counted = w.5; whole = refl });
      };
      whole = tagged_front bytes (48 ∷ []) t.0 w.0 w.1 w.2 t.1 w.7;
      then = subst (λ vs. IsText next w.2 vs left) (sym same) w.9;
    }

parameters_again : (next : Layout) (text more values left : List ℕ) → AreParameters text → IsText next more values left
    → IsText (domain_parameters next) (text ++ more) values left
parameters_again next text more values left a p =
    let g = a.tagged in
    let content : List ℕ = flat_map (λ one. one) a.integers in
    let all : IsText (integers 8) content [] [] = subst (λ n. IsText (integers n) content [] []) a.eight (integers_again a.integers a.each) in (
      g.count ++ (content ++ more),
      tagged_back text (48 ∷ []) g.count content more g.whole,
      (g.count, content, more, [], values, g.counted, all, refl, refl, p),
    )

-- ---- the fields

one_flag : (text : List ℕ) → length text ≡ 1 → (flag : ℕ) × (text ≡ flag ∷ [])
one_flag [] e = absurd (omega (arith, e))
one_flag (flag ∷ []) e = (flag, refl)
one_flag (a ∷ b ∷ text) e = absurd (omega (arith, e))

-- all fields behind one another
abbrev fields_of : List ℕ → List ℕ → ℕ → List ℕ → List ℕ → List ℕ → List ℕ → List ℕ
fields_of calling called flag target minimum maximum last = calling ++ (called ++ (1 ∷ 1 ∷ flag ∷ (target ++ (minimum ++ (maximum ++ last)))))

record Fields (content values : List ℕ) : Type 0 where
  calling : List ℕ
  called : List ℕ
  flag : ℕ
  target : List ℕ
  minimum : List ℕ
  maximum : List ℕ
  last : List ℕ
  user : List ℕ
  whole : content ≡ fields_of calling called flag target minimum maximum last
  by : IsSelector calling
  to : IsSelector called
  wanted : AreParameters target
  least : AreParameters minimum
  most : AreParameters maximum
  user_data_is : IsTagged (4 ∷ []) user last
  size : values ≡ length user ∷ []

fields_joined : (content a calling b called c d skipped target e minimum f maximum g last : List ℕ) (flag : ℕ)
    → content ≡ calling ++ a → a ≡ called ++ b → b ≡ 1 ∷ 1 ∷ c → c ≡ skipped ++ d → skipped ≡ flag ∷ [] → d ≡ target ++ e → e ≡ minimum ++ f → f ≡ maximum ++ g
    → g ≡ last
    → content ≡ fields_of calling called flag target minimum maximum last
fields_joined content a calling b called c d skipped target e minimum f maximum g last flag p q r s t u v w x =
    let parameters : d ≡ target ++ (minimum ++ (maximum ++ last)) =
    u ∙ ap (λ xs. target ++ xs) (v ∙ ap (λ xs. minimum ++ xs) (w ∙ ap (λ xs. maximum ++ xs) x)) in
    let flagged : b ≡ 1 ∷ 1 ∷ flag ∷ (target ++ (minimum ++ (maximum ++ last))) =
    r ∙ ap (λ xs. 1 ∷ 1 ∷ xs) (s ∙ ap (λ xs. xs ++ d) t ∙ ap (λ xs. flag ∷ xs) parameters) in
    p ∙ ap (λ xs. calling ++ xs) (q ∙ ap (λ xs. called ++ xs) flagged)

fields_stand : (content values left : List ℕ) → IsText initial_fields content values left → Fields content values
unfolding initial_fields upward_flag three_parameters user_data
fields_stand content values left t =
    let a = selected (domain_selector upward_flag) content values left t in
    let b = selected upward_flag a.more values left a.then in
    let f = b.then in
    let flag = one_flag f.2.0 f.2.2 in
    let p = parameterised (domain_parameters (domain_parameters user_data)) f.2.1 values left f.2.4 in
    let q = parameterised (domain_parameters user_data) p.more values left p.then in
    let r = parameterised user_data q.more values left q.then in
    let u = r.then in
    let last : List ℕ = (4 ∷ []) ++ (u.2.0 ++ u.2.1) in
    record {
      calling = a.text;
      called = b.text;
      flag = flag.0;
      target = p.text;
      minimum = q.text;
      maximum = r.text;
      last = last;
      user = u.2.1;
      whole = fields_joined content a.more a.text b.more b.text f.0 f.2.1 f.2.0 p.text p.more q.text q.more r.text r.more last flag.0
          a.whole b.whole f.1 f.2.3 flag.1 p.whole q.whole r.whole (u.1 ∙ ap (λ xs. 4 ∷ xs) u.2.3);
      by = a.is;
      to = b.is;
      wanted = p.is;
      least = q.is;
      most = r.is;
      user_data_is = record { count = u.2.0; counted = u.2.2; whole = refl };
      size = u.2.4;
    }

user_again : (text content : List ℕ) → IsTagged (4 ∷ []) content text → IsText user_data text (length content ∷ []) []
unfolding user_data
user_again text content g = (g.count ++ content, g.whole, (g.count, content, g.counted, refl, refl, refl))

fields_again : (bytes : List ℕ) (place : Range) (i : IsInitial bytes place)
    → IsText initial_fields (fields_of i.calling i.called i.flag i.target i.minimum i.maximum i.last) (length i.user ∷ []) []
unfolding initial_fields upward_flag three_parameters
fields_again bytes place i =
    let values : List ℕ = length i.user ∷ [] in
    let third = parameters_again user_data i.maximum i.last values [] i.most (user_again i.last i.user i.user_data) in
    let second = parameters_again (domain_parameters user_data) i.minimum (i.maximum ++ i.last) values [] i.least third in
    let first = parameters_again (domain_parameters (domain_parameters user_data)) i.target (i.minimum ++ (i.maximum ++ i.last)) values [] i.wanted second in
    let behind : List ℕ = i.target ++ (i.minimum ++ (i.maximum ++ i.last)) in
    let flag : IsText upward_flag (1 ∷ 1 ∷ i.flag ∷ behind) values [] = (i.flag ∷ behind, refl, (i.flag ∷ [], behind, refl, refl, first)) in
    selector_again (domain_selector upward_flag) i.calling (i.called ++ (1 ∷ 1 ∷ i.flag ∷ behind)) values [] i.by
    (selector_again upward_flag i.called (1 ∷ 1 ∷ i.flag ∷ behind) values [] i.to flag)

-- ---- where the user data are

abbrev EndsWith : List ℕ → List ℕ → Type 0
EndsWith xs part = (before : List ℕ) × (xs ≡ before ++ part)

behind : (front xs part : List ℕ) → EndsWith xs part → EndsWith (front ++ xs) part
behind front xs part e = (front ++ e.0, ap (λ ys. front ++ ys) e.1 ∙ sym (append_assoc front e.0 part))

tagged_ends : (tag content text part : List ℕ) → IsTagged tag content text → EndsWith content part → EndsWith text part
tagged_ends tag content text part g e =
    subst (λ xs. EndsWith xs part) (sym g.whole) (behind tag (g.count ++ content) part (behind g.count content part e))

fields_end : (calling called : List ℕ) (flag : ℕ) (target minimum maximum last user : List ℕ) → IsTagged (4 ∷ []) user last
    → EndsWith (fields_of calling called flag target minimum maximum last) user
fields_end calling called flag target minimum maximum last user g =
    let third = behind maximum last user (tagged_ends (4 ∷ []) user last user g ([], refl)) in
    let second = behind minimum (maximum ++ last) user third in
    let first = behind target (minimum ++ (maximum ++ last)) user second in
    let parameters : List ℕ = target ++ (minimum ++ (maximum ++ last)) in
    behind calling (called ++ (1 ∷ 1 ∷ flag ∷ parameters)) user (
    behind called (1 ∷ 1 ∷ flag ∷ parameters) user (behind (1 ∷ 1 ∷ flag ∷ []) parameters user first))

at_end : (bytes part : List ℕ) → EndsWith bytes part → IsEndOf bytes part (record { from = length bytes - length part; to = length bytes })
at_end bytes part e = record {
  before = e.0;
  whole = e.1;
  from = omega (arith, ap length e.1, length-append e.0 part);
  to = refl;
}

from_end : (bytes before part : List ℕ) → bytes ≡ before ++ part → length before ≡ length bytes - length part
from_end bytes before part e = omega (arith, ap length e, length-append before part)

-- ---- the whole

initial_stands : (bytes values left : List ℕ) → IsText connect_initial bytes values left → IsInitial bytes (user_of (length bytes) values)
unfolding connect_initial
initial_stands bytes values left t =
    let w = t.2 in
    let f = fields_stand w.1 w.3 [] w.6 in
    let all : values ≡ length f.user ∷ [] = w.8 ∙ ap (λ vs. w.3 ++ vs) w.9.0 ∙ append-nil w.3 ∙ f.size in
    let bytes_are : bytes ≡ (127 ∷ 101 ∷ []) ++ (w.0 ++ w.1) =
    t.1 ∙ ap (λ xs. 127 ∷ 101 ∷ xs) (w.7 ∙ ap (λ xs. w.0 ++ (w.1 ++ xs)) w.9.1 ∙ ap (λ xs. w.0 ++ xs) (append-nil w.1)) in
    let content : List ℕ = fields_of f.calling f.called f.flag f.target f.minimum f.maximum f.last in
    let whole : IsTagged (127 ∷ 101 ∷ []) content bytes =
    subst (λ xs. IsTagged (127 ∷ 101 ∷ []) xs bytes) f.whole (record { count = w.0; counted = w.5; whole = bytes_are }) in
    let ends = tagged_ends (127 ∷ 101 ∷ []) content bytes f.user whole (
    fields_end f.calling f.called f.flag f.target f.minimum f.maximum f.last f.user f.user_data_is) in
    record {
      calling = f.calling;
      called = f.called;
      flag = f.flag;
      target = f.target;
      minimum = f.minimum;
      maximum = f.maximum;
      last = f.last;
      user = f.user;
      whole = whole;
      by = f.by;
      to = f.to;
      wanted = f.wanted;
      least = f.least;
      most = f.most;
      user_data = f.user_data_is;
      there = subst (λ vs. IsEndOf bytes f.user (user_of (length bytes) vs)) (sym all) (at_end bytes f.user ends);
    }

placed_ok : (bs : List ℕ) (r : Read Range) (place : Range) → placed (λ at. let fault : BadBer = record { at = at } in fault) bs r ≡ Ok place
    → (left : List ℕ) × (r ≡ Ok (place, left))
placed_ok bs (Ok v) place e =
    let h : v.0 ≡ place = cc in (v.1, ap (λ q. Ok (q, v.1)) h)
placed_ok bs (Err left) place e = absurd (let no : ⊥ = cc in no)

abbrev Initial : List ℕ → Range → Type 0
Initial bytes place = IsInitial bytes place

pub initial_ok : (bytes : List ℕ) (place : Range) → user_data_of bytes ≡ Ok place → IsInitial bytes place
initial_ok bytes place e =
    let p = placed_ok bytes (map_read (user_of (length bytes)) (fields_at connect_initial bytes)) place e in
    let m = map_ok (user_of (length bytes)) (fields_at connect_initial bytes) (place, p.0) p.1 in
    subst (Initial bytes) m.2 (initial_stands bytes m.0.0 m.0.1 (read_is_text connect_initial bytes m.0.0 m.0.1 m.1))

initial_text : (bytes : List ℕ) (place : Range) (i : IsInitial bytes place) → IsText connect_initial bytes (length i.user ∷ []) []
unfolding connect_initial
initial_text bytes place i =
    let g = i.whole in
    let content : List ℕ = fields_of i.calling i.called i.flag i.target i.minimum i.maximum i.last in
    let values : List ℕ = length i.user ∷ [] in (
      g.count ++ content,
      g.whole,
      (g.count, content, [], values, [], g.counted, fields_again bytes place i, ap (λ xs. g.count ++ xs) (sym (append-nil content)), refl, (refl, refl, refl)),
    )

abbrev place_of : ℕ → ℕ → Range
place_of from to = record { from = from; to = to }

same_place : (place : Range) (from to : ℕ) → place.from ≡ from → place.to ≡ to → place_of from to ≡ place
same_place place from to e f = ap (λ x. place_of x to) (sym e) ∙ ap (λ y. place_of place.from y) (sym f)

pub initial_again : (bytes : List ℕ) (place : Range) → IsInitial bytes place → user_data_of bytes ≡ Ok place
initial_again bytes place i =
    let fault : ℕ → BadBer = λ at. record { at = at } in
    let there = i.there in
    let e = text_is_read connect_initial bytes (length i.user ∷ []) [] (initial_text bytes place i) in
    ap (λ r. placed fault bytes (map_read (user_of (length bytes)) r)) e
    ∙ ap Ok (same_place place (length bytes - length i.user) (length bytes) (there.from ∙ from_end bytes there.before i.user there.whole) there.to)

-- ---- where none stands

refused_by : (r : Result Range BadBer) (bytes : List ℕ) → user_data_of bytes ≡ r → IsErr r → (place : Range) → IsInitial bytes place → ⊥
refused_by (Ok v) bytes e err place i = let no : ⊥ = cc in no
refused_by (Err fault) bytes e err place i =
    let f = initial_again bytes place i in
    let no : ⊥ = cc in no

absent_by : (r : Result Range BadBer) (bytes : List ℕ) → user_data_of bytes ≡ r → ((place : Range) → IsInitial bytes place → ⊥) → IsErr r
absent_by (Ok v) bytes e none = absurd (none v (initial_ok bytes v e))
absent_by (Err fault) bytes e none = refl

pub none_stands : (bytes : List ℕ) → IsErr (user_data_of bytes) ↔ ((place : Range) → IsInitial bytes place → ⊥)
none_stands bytes = (refused_by (user_data_of bytes) bytes refl, absent_by (user_data_of bytes) bytes refl)

-- ---- the place within the bytes

ordered : (bytes : List ℕ) (place : Range) → IsInitial bytes place → (place.from ≤ place.to) × (place.to ≡ length bytes)
ordered bytes place i =
    let there = i.there in
    (omega (arith, there.from, there.to, ap length there.whole, length-append there.before i.user), there.to)

range_by : (r : Result Range BadBer) (bytes : List ℕ) → user_data_of bytes ≡ r → IfOk r (λ place. (place.from ≤ place.to) × (place.to ≡ length bytes))
range_by (Ok place) bytes e = ordered bytes place (initial_ok bytes place e)
range_by (Err fault) bytes e = tt

pub range_is : (bytes : List ℕ) → IfOk (user_data_of bytes) (λ place. (place.from ≤ place.to) × (place.to ≡ length bytes))
range_is bytes = range_by (user_data_of bytes) bytes refl
