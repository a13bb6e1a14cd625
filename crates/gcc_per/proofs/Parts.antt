-- Writing in two and in three parts.
use Rattle.std.proofs.Common.{◌≡◌, ℕ, List, ◌++◌, ap, ◌∙◌, sym, subst, append_assoc}
use Rattle.wire_num.specs.Written.{AppendsFront}
use Rattle.wire_num.proofs.Fronts.{front_before, front_after}

abbrev begun : List ℕ → List ℕ → List ℕ → Type 0
begun old new whole = AppendsFront old whole new

pub both : (old first second middle new whole : List ℕ) → whole ≡ first ++ second → middle ≡ old ++ first → new ≡ middle ++ second → new ≡ old ++ whole
both old first second middle new whole w e f =
    f ∙ ap (λ xs. xs ++ second) e ∙ append_assoc old first second ∙ ap (λ xs. old ++ xs) (sym w)

pub first_begun : (old first second new whole : List ℕ) → whole ≡ first ++ second → AppendsFront old first new → AppendsFront old whole new
first_begun old first second new whole w f = subst (begun old new) (sym w) (front_before old first second new f)

pub second_begun : (old first second middle new whole : List ℕ) → whole ≡ first ++ second → middle ≡ old ++ first → AppendsFront middle second new → AppendsFront old whole new
second_begun old first second middle new whole w e f = subst (begun old new) (sym w) (front_after old first second middle new e f)

pub all_three : (old first second third one two new whole : List ℕ) → whole ≡ first ++ (second ++ third) → one ≡ old ++ first → two ≡ one ++ second → new ≡ two ++ third → new ≡ old ++ whole
all_three old first second third one two new whole w e f g =
    let p : List ℕ = second ++ third in
    both old first p one new whole w e (g ∙ ap (λ xs. xs ++ third) f ∙ append_assoc one second third)

pub second_of_three : (old first second third one new whole : List ℕ) → whole ≡ first ++ (second ++ third) → one ≡ old ++ first → AppendsFront one second new → AppendsFront old whole new
second_of_three old first second third one new whole w e f = second_begun old first (second ++ third) one new whole w e (front_before one second third new f)

pub third_of_three : (old first second third one two new whole : List ℕ) → whole ≡ first ++ (second ++ third) → one ≡ old ++ first → two ≡ one ++ second → AppendsFront two third new
    → AppendsFront old whole new
third_of_three old first second third one two new whole w e f g = second_begun old first (second ++ third) one new whole w e (front_after one second third two new f g)
