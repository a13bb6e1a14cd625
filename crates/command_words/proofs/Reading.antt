-- What a run of clap gives, as what a command reads of the words.
use Rattle.std.specs.Prelude.{◌≡◌, true, List, [], ◌∷◌, Option, None, Result, Ok, Err, IfOk, OnOk}
use Rattle.std.proofs.Common.{refl, sym, ap, subst, inl, inr, ◌∙◌}
use Rattle.clap.specs.Words.{App, Row, Text, HasKind, Kinds, kind_of, fault_of, matches_of, is_simple, is_simple_and_free}
use Rattle.clap.specs.declared.error.Error.{Error}
use Rattle.clap.specs.declared.error.kind.ErrorKind.TheVariants as kind
use Rattle.wire_num.specs.declared.out_of_memory.OutOfMemory.{OutOfMemory}
use Rattle.command_words.specs.Reading.{read_if, read_by}

-- a fault that isn't want of memory is one of the words
faulty : {T : Type 0} (read : List Row → Option T) (e : Error) (kinds : Kinds) (rows : List Row) → HasKind kinds e → (kind_of e ≡ kind.OutOfMemory → ⊥) → None ≡ read_if read kinds rows
faulty read e [] rows (inl wants) other = absurd (other wants)
faulty read e [] rows (inr none) other = absurd none
faulty read e (k ∷ ks) rows has other = refl

pub refused_is : {T : Type 0} (command : App) (read : List Row → Option T) → is_simple_and_free command ≡ true → (a : App) → a ≡ command → (words : List Text) (e : Error)
    → (is_simple_and_free a ≡ true → HasKind (fault_of a words) e) → (kind_of e ≡ kind.OutOfMemory → ⊥) → None ≡ read_by command read words
refused_is command read free a same words e has other =
    faulty read e (fault_of command words) (matches_of command words) (subst (λ x. is_simple_and_free x ≡ true → HasKind (fault_of x words) e) same has free) other

-- where words are refused, or memory is wanting
pub refusal_is : {T : Type 0} (meant : Option T) (e : Error) (r : Result (Option T) OutOfMemory) → IfOk r (λ v. v ≡ None) → OnOk r (kind_of e ≡ kind.OutOfMemory → ⊥)
    → ((kind_of e ≡ kind.OutOfMemory → ⊥) → None ≡ meant) → IfOk r (λ v. v ≡ meant)
refusal_is meant e (Ok v) none other is = none ∙ is other
refusal_is meant e (Err fault) none other is = none

faultless : {T : Type 0} (read : List Row → Option T) (kinds : Kinds) (rows : List Row) → kinds ≡ [] → read rows ≡ read_if read kinds rows
faultless read kinds rows e = ap (λ ks. read_if read ks rows) (sym e)

-- where they are accepted
pub accepted_is : {T X : Type 0} (command : App) (read : List Row → Option T) → is_simple command ≡ true → is_simple_and_free command ≡ true → (a : App) → a ≡ command
    → (words : List Text) (rows : List Row) → (is_simple_and_free a ≡ true → fault_of a words ≡ []) → (is_simple a ≡ true → (rows ≡ matches_of a words) × X)
    → read rows ≡ read_by command read words
accepted_is {X = X} command read simple free a same words rows none has =
    ap read (subst (λ x. is_simple x ≡ true → (rows ≡ matches_of x words) × X) same has simple).0
    ∙ faultless read (fault_of command words) (matches_of command words) (subst (λ x. is_simple_and_free x ≡ true → fault_of x words ≡ []) same none free)

-- what was read of the values, where there was memory for it
pub found_is : {T : Type 0} (r : Result (Option T) OutOfMemory) (read meant : Option T) → IfOk r (λ v. v ≡ read) → read ≡ meant → IfOk r (λ v. v ≡ meant)
found_is (Ok v) read meant is same = is ∙ same
found_is (Err fault) read meant is same = tt
