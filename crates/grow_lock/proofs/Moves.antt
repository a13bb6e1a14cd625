-- One lemma for each step that changes the notes of one seat: the rule is kept.
use Rattle.std.proofs.Common.{◌≡◌, ◌≢◌, ◌⊎◌, ℕ, zero, suc, ◌<◌, ◌≤◌, lt_of_not-le, List, [], ◌∷◌, length, set, sym, ap, ◌∙◌, subst, ⊎_elim, inl, inr, arith, true, Option, Some, None}
use Rattle.std.specs.Prelude.{Contains}
use Rattle.std.proofs.lemmas.List.Elements.{All-contains, All-weaker}
use Rattle.std.proofs.lemmas.Bool.{false≢true}
use mathlib.Core.Option.{none, some, some-ne-none, some-injective}
use mathlib.Core.Option as maybe
use mathlib.Core.Logic.{dite}
use native.Mathlib.Decide.{dec_le, ℕ_discrete}
use lib.ListN.{get_elem?}
use Rattle.atomic_table.proofs.Lists.{at_set, set_else, set_here}
use Rattle.grow_lock.specs.declared.notes.Notes.{Notes}
use Rattle.grow_lock.specs.declared.notes.Stage.{Stage}
use Rattle.grow_lock.specs.declared.notes.Stage.TheVariants.{Out, Taken, Measured, Published, Joined}
use Rattle.grow_lock.specs.Journal.{StartsWith}
use Rattle.grow_lock.specs.Notes.{is_in_turn}
use Rattle.grow_lock.specs.Shares.{HoldsShare}
use Rattle.grow_lock.specs.Rule.{IsAtStage, IsSpent, IsSeated, AreSeatsApart, IsHome, IsTable, LockTable, turn_word}
use Rattle.grow_lock.proofs.Lists.{starts_trans}

-- where no seat is in turn, this one isn't
pub none_in_turn : (seat : ℕ) → None ≡ Some seat → ⊥
none_in_turn seat e = cc

-- one seat is in turn at most
pub same_seat : (seat other : ℕ) → Some seat ≡ Some other → seat ≡ other
same_seat seat other e = cc

-- where there is an item, its place is in range
pub in_range : {A : Type 0} (l : List A) (i : ℕ) (a : A) → get_elem? l i ≡ some a → i < length l
in_range [] i a e = absurd (some-ne-none a (sym e))
in_range (x ∷ xs) zero a e = omega arith
in_range (x ∷ xs) (suc i) a e = let r = in_range xs i a e in omega (arith, r)

module _ {E : Type 0} where
  -- who isn't in turn knows nothing of the turn, and a longer journal suits it as well
  pub other_stays_at_stage : (journal journal' : List E) (turn turn' : Option ℕ) (seat : ℕ) (seen : List E) (found : List ℕ) → StartsWith journal' journal → (turn ≡ Some seat → ⊥) → (stage : Stage E)
      → IsAtStage journal turn seat seen found stage → IsAtStage journal' turn' seat seen found stage
  other_stays_at_stage journal journal' turn turn' seat seen found grows not Out k = tt
  other_stays_at_stage journal journal' turn turn' seat seen found grows not (Taken base) k = absurd (not k.0)
  other_stays_at_stage journal journal' turn turn' seat seen found grows not (Measured base) k = absurd (not k.0)
  other_stays_at_stage journal journal' turn turn' seat seen found grows not Published k = absurd (not k.0)
  other_stays_at_stage journal journal' turn turn' seat seen found grows not (Joined a b p q) k = (starts_trans journal' journal a grows k.0, starts_trans journal' journal b grows k.1, k.2)

module _ {H E : Type 0} where
  -- who knows a head isn't spent
  pub seated_by_head : (h head : H) (journal : List E) (turn : Option ℕ) (seat : ℕ) (notes : Notes H E) → notes.head ≡ Some head → IsSpent notes ⊎ IsSeated h journal turn seat notes → IsSeated h journal turn seat notes
  seated_by_head h head journal turn seat notes known (inl spent) = let f : None ≡ Some head = sym (ap (λ (z : Notes H E). z.head) spent) ∙ known in absurd (cc)
  seated_by_head h head journal turn seat notes known (inr seated) = seated

  -- who is in turn isn't spent
  pub seated_by_stage : (h : H) (journal : List E) (turn : Option ℕ) (seat : ℕ) (notes : Notes H E) → is_in_turn notes.stage ≡ true → IsSpent notes ⊎ IsSeated h journal turn seat notes → IsSeated h journal turn seat notes
  seated_by_stage h journal turn seat notes turning (inl spent) = absurd (false≢true (sym (ap (λ (z : Notes H E). is_in_turn z.stage) spent) ∙ turning))
  seated_by_stage h journal turn seat notes turning (inr seated) = seated

  -- nobody has a place at or past the journal's length
  pub no_place_past : (h : H) (journal : List E) (turn : Option ℕ) (seat : ℕ) (notes : Notes H E) → IsSpent notes ⊎ IsSeated h journal turn seat notes → (n : ℕ) → Contains notes.mine n → n < length journal
  no_place_past h journal turn seat notes (inl spent) n has = let none_has : Contains [] n = subst (λ (z : Notes H E). Contains z.mine n) spent has in let f = none_has.1 in absurd (omega arith)
  no_place_past h journal turn seat notes (inr seated) n has = All-contains (λ m. m < length journal) notes.mine n seated.below has

  -- what holds of a seat that isn't in turn still holds after another's step
  pub other_stays : (h : H) (journal journal' : List E) (turn turn' : Option ℕ) (seat : ℕ) (notes : Notes H E) → StartsWith journal' journal → length journal ≤ length journal' → (turn ≡ Some seat → ⊥)
      → IsSeated h journal turn seat notes → IsSeated h journal' turn' seat notes
  other_stays h journal journal' turn turn' seat notes grows le not old = record {
    head_is = old.head_is;
    begins = starts_trans journal' journal notes.seen grows old.begins;
    below = All-weaker (λ n. n < length journal) (λ n. n < length journal') (λ n lt. omega (arith, lt, le)) notes.mine old.below;
    held = old.held;
    at_stage = other_stays_at_stage journal journal' turn turn' seat notes.seen notes.found grows not notes.stage old.at_stage;
  }

  -- whom a seat is apart from is apart from it
  pub apart_turned : (v w : Notes H E) → AreSeatsApart v w → AreSeatsApart w v
  apart_turned v w apart = (λ n a b. apart.0 n b a, λ p a b. apart.1 p b a)

  -- Of a seat's notes v become w, with a journal that is as long or longer: w has the places of v and the new ones and no other, and no share but that of v.
  pub record HasOwn (journal journal' : List E) (v w : Notes H E) : Type 0 where
    pub more : (n : ℕ) → Contains w.mine n → Contains v.mine n ⊎ (length journal ≤ n)
    pub kept : (n : ℕ) → Contains v.mine n → Contains w.mine n
    pub new : (n : ℕ) → length journal ≤ n → n < length journal' → Contains w.mine n
    pub share : HoldsShare v.part.share w.part.share

  -- a step that adds no entry
  pub own_kept : (journal : List E) (v w : Notes H E) → w.mine ≡ v.mine → HoldsShare v.part.share w.part.share → HasOwn journal journal v w
  own_kept journal v w same share = record {
    more = λ n has. inl (subst (λ (l : List ℕ). Contains l n) same has);
    kept = λ n has. subst (λ (l : List ℕ). Contains l n) (sym same) has;
    new = λ n le lt. absurd (omega (arith, le, lt));
    share = share;
  }

module _ {T H E : Type 0} (head : T → H) (list : T → List E) (h : H) (first : List E) where
  -- A seat's notes v become w, with a journal that is as long or longer. It is enough that
  --   the words, the slot and w are as they should be, and each other seat stays as it should be,
  --   w has just its own places and share, the journal goes on, w has seen the journal or neither changed,
  --   and who is in turn is w, or another as before.
  pub moves : (journal journal' : List E) (turn turn' : Option ℕ) (s : LockTable T H E) (seat : ℕ) (v w : Notes H E) (words' : List ℕ) (homes' : List (maybe.Option (Option T))) → get_elem? s.views seat ≡ some v → IsTable head list h first journal turn s
      → words' ≡ turn_word turn' ∷ length journal' ∷ [] → IsHome head list h homes' journal' turn' → IsSeated h journal' turn' seat w
      → ((other : ℕ) (u : Notes H E) → other ≢ seat → IsSeated h journal turn other u → IsSeated h journal' turn' other u)
      → HasOwn journal journal' v w → StartsWith journal' journal
      → (w.seen ≡ journal') ⊎ ((journal' ≡ journal) × (w.seen ≡ v.seen))
      → ((other : ℕ) → turn' ≡ Some other → ((other ≡ seat) × (is_in_turn w.stage ≡ true)) ⊎ ((turn ≡ Some other) × (other ≢ seat)))
      → IsTable head list h first journal' turn' record { words = words'; homes = homes'; views = set s.views seat w }
  moves journal journal' turn turn' s seat v w words' homes' at k words_are home mine others own grows whole holds = record {
    words_are = words_are;
    home = home;
    begins = starts_trans journal' journal first grows k.begins;
    owned = λ n low lt. dite (dec_le (length journal) n)
        (λ (le : length journal ≤ n). (seat, w, here, own.new n le lt))
        (λ not. let o = k.owned n low (lt_of_not-le not) in dite (ℕ_discrete o.0 seat)
        (λ (e : o.0 ≡ seat). (seat, w, here, own.kept n (subst (λ (z : Notes H E). Contains z.mine n) (sym (some-injective v o.1 (sym at ∙ subst (λ (i : ℕ). get_elem? s.views i ≡ some o.1) e o.2))) o.3)))
        (λ (ne : o.0 ≢ seat). (o.0, o.1, set_else s.views seat o.0 w ne ∙ o.2, o.3)));
    longest = ⊎_elim
        (λ (now : w.seen ≡ journal'). (seat, w, here, now))
        (λ (same : (journal' ≡ journal) × (w.seen ≡ v.seen)). let l = k.longest in dite (ℕ_discrete l.0 seat)
        (λ (e : l.0 ≡ seat). (seat, w, here, same.1 ∙ ap (λ (z : Notes H E). z.seen) (some-injective v l.1 (sym at ∙ subst (λ (i : ℕ). get_elem? s.views i ≡ some l.1) e l.2)) ∙ l.3 ∙ sym same.0))
        (λ (ne : l.0 ≢ seat). (l.0, l.1, set_else s.views seat l.0 w ne ∙ l.2, l.3 ∙ sym same.0)))
        whole;
    each_seat = λ j u e. ⊎_elim
        (λ (t : (j ≡ seat) × (w ≡ u)). inr (subst (λ (x : ℕ × Notes H E). IsSeated h journal' turn' x.0 x.1) (λ i. (sym t.0 i, t.1 i)) mine))
        (λ (t : (j ≢ seat) × (get_elem? s.views j ≡ some u)). ⊎_elim (λ (spent : IsSpent u). inl spent) (λ (old : IsSeated h journal turn j u). inr (others j u t.0 old)) (k.each_seat j u t.1))
        (at_set s.views seat j w u e);
    apart = λ i j u u' e e' other. ⊎_elim
        (λ (t : (i ≡ seat) × (w ≡ u)). ⊎_elim
        (λ (t' : (j ≡ seat) × (w ≡ u')). absurd (other (t.0 ∙ sym t'.0)))
        (λ (t' : (j ≢ seat) × (get_elem? s.views j ≡ some u')). subst (λ (z : Notes H E). AreSeatsApart z u') t.1 (against j u' t'.0 t'.1))
        (at_set s.views seat j w u' e'))
        (λ (t : (i ≢ seat) × (get_elem? s.views i ≡ some u)). ⊎_elim
        (λ (t' : (j ≡ seat) × (w ≡ u')). subst (λ (z : Notes H E). AreSeatsApart u z) t'.1 (apart_turned w u (against i u t.0 t.1)))
        (λ (t' : (j ≢ seat) × (get_elem? s.views j ≡ some u')). k.apart i j u u' t.1 t'.1 other)
        (at_set s.views seat j w u' e'))
        (at_set s.views seat i w u e);
    in_turn = λ j e. ⊎_elim
        (λ (t : (j ≡ seat) × (is_in_turn w.stage ≡ true)). (w, subst (λ (i : ℕ). get_elem? (set s.views seat w) i ≡ some w) (sym t.0) here, t.1))
        (λ (t : (turn ≡ Some j) × (j ≢ seat)). let o = k.in_turn j t.0 in (o.0, set_else s.views seat j w t.1 ∙ o.1, o.2))
        (holds j e);
  }
    where
      here : get_elem? (set s.views seat w) seat ≡ some w
      here = set_here s.views seat w (in_range s.views seat v at)

      against : (j : ℕ) (u : Notes H E) → j ≢ seat → get_elem? s.views j ≡ some u → AreSeatsApart w u
      against j u ne at' = let old = k.apart seat j v u at at' (λ z. ne (sym z)) in (
        λ n has has'. ⊎_elim
            (λ (before : Contains v.mine n). old.0 n before has')
            (λ (new : length journal ≤ n). let b = no_place_past h journal turn j u (k.each_seat j u at') n has' in absurd (omega arith))
            (own.more n has),
        λ p e e'. old.1 p (own.share p e) e',
      )
