-- Appending in several calls.
use Rattle.std.proofs.Common.{◌≡◌, ℕ, ◌+◌, ◌<◌, ◌≤◌, List, [], ◌∷◌, ◌++◌, length, get_or, drop, refl, ap, sym, ◌∙◌, append_assoc, append-nil, add-one, arith}
use Rattle.std.specs.Prelude.{map}
use Rattle.std.proofs.Math.Seq.{drop-cons, drop-length}
use Rattle.wire_num.specs.Written.{AppendsFront}
use Rattle.conn_rules.specs.declared.conn_step.ConnStep.{ConnStep}
use Rattle.conn_core.specs.Feeds.{TellsFront}

-- nothing was appended
pub none_sent : (old more : List ℕ) → AppendsFront old more old
none_sent old more = record { sent = []; rest = more; whole = refl; written = sym (append-nil old) }

pub none_told : (old more : List ConnStep) → TellsFront old more old
none_told old more = record { told = []; rest = more; whole = refl; given = sym (append-nil old) }

-- all of it was
pub all_sent : (old more new : List ℕ) → new ≡ old ++ more → AppendsFront old more new
all_sent old more new e = record { sent = more; rest = []; whole = sym (append-nil more); written = e }

pub all_told : (old more new : List ConnStep) → new ≡ old ++ more → TellsFront old more new
all_told old more new e = record { told = more; rest = []; whole = sym (append-nil more); given = e }

-- a first part stands there whole, and a front of the second
pub told_after : (old first second middle new : List ConnStep) → middle ≡ old ++ first → TellsFront middle second new → TellsFront old (first ++ second) new
told_after old first second middle new e f = record {
  told = first ++ f.told;
  rest = f.rest;
  whole = ap (λ xs. first ++ xs) f.whole ∙ sym (append_assoc first f.told f.rest);
  given = f.given ∙ ap (λ xs. xs ++ f.told) e ∙ append_assoc old first f.told;
}

-- a front of the first part is a front of both
pub told_before : (old first second new : List ConnStep) → TellsFront old first new → TellsFront old (first ++ second) new
told_before old first second new f = record {
  told = f.told;
  rest = f.rest ++ second;
  whole = ap (λ xs. xs ++ second) f.whole ∙ append_assoc f.told f.rest second;
  given = f.given;
}

-- ---- step by step

-- what was appended so far, and what is left to append, are the whole
pub record ToldSoFar (old now whole left : List ConnStep) : Type 0 where
  pub told : List ConnStep
  pub are : whole ≡ told ++ left
  pub given : now ≡ old ++ told

pub nothing_told : (old whole : List ConnStep) → ToldSoFar old old whole whole
nothing_told old whole = record { told = []; are = refl; given = sym (append-nil old) }

pub more_told : (old now new whole left one after : List ConnStep) → ToldSoFar old now whole left → left ≡ one ++ after → new ≡ now ++ one → ToldSoFar old new whole after
more_told old now new whole left one after t e w = record {
  told = t.told ++ one;
  are = t.are ∙ ap (λ xs. t.told ++ xs) e ∙ sym (append_assoc t.told one after);
  given = w ∙ ap (λ xs. xs ++ one) t.given ∙ append_assoc old t.told one;
}

pub whole_told : (old now whole left : List ConnStep) → ToldSoFar old now whole left → left ≡ [] → now ≡ old ++ whole
whole_told old now whole left t e = t.given ∙ ap (λ xs. old ++ xs) (sym (t.are ∙ ap (λ xs. t.told ++ xs) e ∙ append-nil t.told))

pub front_told : (old now whole left : List ConnStep) → ToldSoFar old now whole left → TellsFront old whole now
front_told old now whole left t = record { told = t.told; rest = left; whole = t.are; given = t.given }

-- ---- what is in a list, each as a step

-- the next one, and those behind it
pub one_left : {A : Type 0} (f : A → ConnStep) (xs : List A) (i : ℕ) (d : A) → i < length xs → map f (drop i xs) ≡ (f (get_or xs i d) ∷ []) ++ map f (drop (i + 1) xs)
one_left f xs i d h = ap (map f) (drop-cons xs i d h) ∙ ap (λ n. f (get_or xs i d) ∷ map f (drop n xs)) (sym (add-one i))

-- none is left
pub none_left : {A : Type 0} (f : A → ConnStep) (xs : List A) (i : ℕ) → length xs ≤ i → i ≤ length xs → map f (drop i xs) ≡ []
none_left f xs i low high =
    let e : i ≡ length xs = omega (arith, low, high) in
    ap (λ n. map f (drop n xs)) e ∙ ap (map f) (drop-length xs)
