-- Shares that are dealt out to jobs and come back.
use Rattle.std.proofs.Common.{◌≡◌, ◌⊎◌, List, [], ◌∷◌, ◌++◌, sym, ap, ◌∙◌, inl, inr, ⊎_elim, subst, true}
use Rattle.std.specs.Prelude.{Bool}
use Rattle.session_rules.specs.declared.entry.Entry.{Entry}
use Rattle.session_rules.specs.Journal.{Head}
use Rattle.grow_lock.specs.Passes.{LockModel, IsPassOf}
use Rattle.grow_lock.specs.Shares.{Share, covers, left_half, right_half, both, HoldsShare}
use Rattle.grow_lock.proofs.Shares.{in_a_half, both_first, both_second, of_both}
use Rattle.serve_rules.specs.Turns.{SessionPass}
use Rattle.gate_run.specs.Working.{IsAmong, IsDealtOut}

among_more : (given : List Share) (share : Share) (p : List Bool) → IsAmong given p → IsAmong (given ++ share ∷ []) p
among_more [] share p a = absurd a
among_more (s ∷ ss) share p a = ⊎_elim (λ (here : covers s p ≡ true). inl here) (λ (there : IsAmong ss p). inr (among_more ss share p there)) a

among_last : (given : List Share) (share : Share) (p : List Bool) → covers share p ≡ true → IsAmong (given ++ share ∷ []) p
among_last [] share p e = inl e
among_last (s ∷ ss) share p e = inr (among_last ss share p e)

-- nothing was given away yet
pub dealt_none : (s : Share) → IsDealtOut s s []
dealt_none s p e = inl e

-- one half is kept, and the other given away
pub dealt_more : (s kept kept' part : Share) (given given' : List Share) → IsDealtOut s kept given → kept' ≡ left_half kept → part ≡ right_half kept → given' ≡ given ++ part ∷ [] → IsDealtOut s kept' given'
dealt_more s kept kept' part given given' dealt left right more p e =
    subst (λ (l : List Share). (covers kept' p ≡ true) ⊎ IsAmong l p) (sym more)
    (⊎_elim
    (λ (own : covers kept p ≡ true). ⊎_elim
    (λ (x : covers (left_half kept) p ≡ true). inl (subst (λ (t : Share). covers t p ≡ true) (sym left) x))
    (λ (x : covers (right_half kept) p ≡ true). inr (among_last given part p (subst (λ (t : Share). covers t p ≡ true) (sym right) x)))
    (in_a_half kept p own))
    (λ (out : IsAmong given p). inr (among_more given part p out))
    (dealt p e))

-- the first of those that were given away came back
pub dealt_less : (s kept after part : Share) (given : List Share) → IsDealtOut s kept (part ∷ given) → HoldsShare after (both kept part) → IsDealtOut s after given
dealt_less s kept after part given dealt met p e = ⊎_elim
    (λ (own : covers kept p ≡ true). inl (met p (both_first kept part p own)))
    (λ (out : IsAmong (part ∷ given) p). ⊎_elim
    (λ (here : covers part p ≡ true). inl (met p (both_second kept part p here)))
    (λ (there : IsAmong given p). inr there)
    out)
    (dealt p e)

-- all came back
pub dealt_all : (s kept : Share) → IsDealtOut s kept [] → HoldsShare kept s
dealt_all s kept dealt p e = ⊎_elim (λ (own : covers kept p ≡ true). own) (λ (out : IsAmong [] p). absurd out) (dealt p e)

-- who meets more has more
pub both_grows : (s t more : Share) → HoldsShare more t → HoldsShare (both s more) (both s t)
both_grows s t more holds p e = ⊎_elim (λ (x : covers s p ≡ true). both_first s more p x) (λ (x : covers t p ≡ true). both_second s more p (holds p x)) (of_both s t p e)

-- a pass of which a share was split off is one of the same lock, and else as before
pub kept_lock : (lock : LockModel Head Entry) (old new : SessionPass) (s : Share) → new ≡ record old { share = s } → IsPassOf lock old → IsPassOf lock new
kept_lock lock old new s same of = (ap (λ (p : SessionPass). p.id) same ∙ of.0, ap (λ (p : SessionPass). p.head) same ∙ of.1)

pub kept_as : (pass old new : SessionPass) (s : Share) → new ≡ record old { share = s } → old ≡ record pass { share = old.share } → new ≡ record pass { share = new.share }
kept_as pass old new s same before =
    same ∙ (ap (λ (p : SessionPass). record p { share = s }) before ∙ (λ i. record pass { share = sym (ap (λ (p : SessionPass). p.share) same) i }))
