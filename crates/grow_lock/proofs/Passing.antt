-- The table at the start, the kinds 7 and 8, and the look after a join: they keep the rule, and tell what they should.
use Rattle.std.proofs.Common.{◌≡◌, ◌≢◌, ◌⊎◌, ℕ, zero, suc, ◌<◌, List, [], ◌∷◌, ◌++◌, length, get_or, set, sym, refl, ap, ◌∙◌, subst, ⊎_elim, inl, inr, arith, true, false, Option, Some, None}
use Rattle.std.specs.Prelude.{Contains}
use Rattle.std.proofs.lemmas.List.{set-get_or}
use Rattle.std.proofs.lemmas.List.Elements.{All-nil, All-append, Contains-append_left, Contains-append_right, Contains-append_cases}
use Rattle.std.proofs.lemmas.Bool.{false≢true}
use mathlib.Core.Option.{none, some, some-ne-none, some-injective}
use mathlib.Core.Logic.{dite}
use native.Mathlib.Decide.{ℕ_discrete}
use lib.ListN.{get_elem?}
use Rattle.atomic_table.specs.Table.{step, keeps, Allows, Splits, Joins, opening}
use Rattle.atomic_table.proofs.Lists.{at_set, set_else, set_here, at_longer}
use Rattle.grow_lock.specs.declared.notes.Notes.{Notes}
use Rattle.grow_lock.specs.declared.notes.Stage.{Stage}
use Rattle.grow_lock.specs.declared.notes.Stage.TheVariants.{Out, Taken, Measured, Published, Joined}
use Rattle.grow_lock.specs.Journal.{StartsWith}
use Rattle.grow_lock.specs.Notes.{is_in_turn, fresh_notes, kept_notes, split_notes, joined_notes, spent_notes}
use Rattle.grow_lock.specs.Shares.{whole}
use Rattle.grow_lock.specs.Rule.{IsAtStage, IsSeated, AreSeatsApart, IsTable, IsKept, LockTable}
use Rattle.grow_lock.specs.Steps.{Holder, IsJoinSound, ReadsJoined}
use Rattle.grow_lock.proofs.Lists.{none_has, starts_itself, longer_starts, starts_longer, longer_first, longer_second}
use Rattle.grow_lock.proofs.Moves.{none_in_turn, in_range, seated_by_head, apart_turned, own_kept, moves}
use Rattle.grow_lock.proofs.Shares.{holds_itself, left_within, right_within, halves_apart, left_held, right_held, both_first, of_both}

-- an item of a list with one more is an item of the list, or the last
at_end : {A : Type 0} (l : List A) (a b : A) (j : ℕ) → get_elem? (l ++ a ∷ []) j ≡ some b → (get_elem? l j ≡ some b) ⊎ ((j ≡ length l) × (a ≡ b))
at_end [] a b zero e = inr (refl, some-injective a b e)
at_end [] a b (suc j) e = absurd (some-ne-none b (sym e))
at_end (x ∷ xs) a b zero e = inl e
at_end (x ∷ xs) a b (suc j) e = ⊎_elim (λ old. inl old) (λ t. let n = t.0 in inr (omega (arith, n), t.1)) (at_end xs a b j e)

-- what the rule has for two seats that were joined
sound_at_stage : {E : Type 0} (journal : List E) (turn : Option ℕ) (seat : ℕ) (seen : List E) (found : List ℕ) (stage : Stage E) → IsAtStage journal turn seat seen found stage → IsJoinSound stage
sound_at_stage journal turn seat seen found Out k = tt
sound_at_stage journal turn seat seen found (Taken base) k = tt
sound_at_stage journal turn seat seen found (Measured base) k = tt
sound_at_stage journal turn seat seen found Published k = tt
sound_at_stage journal turn seat seen found (Joined a b p q) k = let l = longer_starts journal a b k.0 k.1 in (l.0, l.1, k.2)

module _ {T H E : Type 0} (head : T → H) (list : T → List E) (h : H) (first : List E) where
  -- the table as `new` makes it
  pub opens : (x : T) → head x ≡ h → list x ≡ first → IsKept head list h first (opening (0 ∷ length (list x) ∷ []) (Some x ∷ []) (fresh_notes (Some (head x)) (list x) whole))
  opens x e e' = (
    list x,
    None,
    record {
      words_are = refl;
      home = (x, refl, e, refl);
      begins = subst (StartsWith (list x)) e' (starts_itself (list x));
      owned = λ n low lt. absurd (omega (arith, low, lt, ap length e'));
      longest = (0, fresh_notes (Some (head x)) (list x) whole, refl, refl);
      each_seat = λ j v at. inr (subst (IsSeated h (list x) None j) (only j v at).1 record { head_is = ap Some e; begins = starts_itself (list x); below = All-nil (λ n. n < length (list x)); held = ([], refl); at_stage = tt });
      apart = λ i j v w a b other. absurd (other ((only i v a).0 ∙ sym (only j w b).0));
      in_turn = λ j f. absurd (none_in_turn j f);
    },
  )
    where
      only : (j : ℕ) (v : Notes H E) → get_elem? (fresh_notes (Some (head x)) (list x) whole ∷ []) j ≡ some v → (j ≡ 0) × (fresh_notes (Some (head x)) (list x) whole ≡ v)
      only zero v at = (refl, some-injective (fresh_notes (Some (head x)) (list x) whole) v at)
      only (suc j) v at = absurd (some-ne-none v (sym at))

  -- a further seat, which has no places and is apart from all others
  adds : (journal : List E) (turn : Option ℕ) (s : LockTable T H E) (u : Notes H E) → IsTable head list h first journal turn s → IsSeated h journal turn (length s.views) u
      → ((j : ℕ) (w : Notes H E) → get_elem? s.views j ≡ some w → AreSeatsApart w u) → IsTable head list h first journal turn record { words = s.words; homes = s.homes; views = s.views ++ u ∷ [] }
  adds journal turn s u k seated others = record {
    words_are = k.words_are;
    home = k.home;
    begins = k.begins;
    owned = λ n low lt. let o = k.owned n low lt in (o.0, o.1, at_longer s.views (u ∷ []) o.0 o.1 o.2, o.3);
    longest = let l = k.longest in (l.0, l.1, at_longer s.views (u ∷ []) l.0 l.1 l.2, l.3);
    each_seat = λ j w e. ⊎_elim
        (λ (old : get_elem? s.views j ≡ some w). k.each_seat j w old)
        (λ (new : (j ≡ length s.views) × (u ≡ w)). inr (subst (λ (x : ℕ × Notes H E). IsSeated h journal turn x.0 x.1) (λ i. (sym new.0 i, new.1 i)) seated))
        (at_end s.views u w j e);
    apart = λ i j w w' e e' other. ⊎_elim
        (λ (old : get_elem? s.views i ≡ some w). ⊎_elim
        (λ (old' : get_elem? s.views j ≡ some w'). k.apart i j w w' old old' other)
        (λ (new' : (j ≡ length s.views) × (u ≡ w')). subst (AreSeatsApart w) new'.1 (others i w old))
        (at_end s.views u w' j e'))
        (λ (new : (i ≡ length s.views) × (u ≡ w)). ⊎_elim
        (λ (old' : get_elem? s.views j ≡ some w'). subst (λ (z : Notes H E). AreSeatsApart z w') new.1 (apart_turned w' u (others j w' old')))
        (λ (new' : (j ≡ length s.views) × (u ≡ w')). absurd (other (new.0 ∙ sym new'.0)))
        (at_end s.views u w' j e'))
        (at_end s.views u w i e);
    in_turn = λ j e. let o = k.in_turn j e in (o.0, at_longer s.views (u ∷ []) j o.0 o.1, o.2);
  }

  -- kind 7
  pub splits : (id : ℕ) (known : H) (v : Notes H E) → v.head ≡ Some known → Splits (IsKept head list h first) id v (kept_notes v) (split_notes v)
  splits id known v is_known s k at =
      let ok = seated_by_head h known k.0 k.1 id v is_known (k.2.each_seat id v at) in
      let moved : IsTable head list h first k.0 k.1 record { words = s.words; homes = s.homes; views = set s.views id (kept_notes v) }
      = moves head list h first k.0 k.0 k.1 k.1 s id v (kept_notes v) s.words s.homes at k.2 k.2.words_are k.2.home
      record { head_is = ok.head_is; begins = ok.begins; below = ok.below; held = left_held v.part.share ok.held; at_stage = ok.at_stage }
      (λ j u _ old. old) (own_kept k.0 v (kept_notes v) refl (left_within v.part.share)) (starts_itself k.0) (inr (refl, refl)) turning in (
        k.0,
        k.1,
        adds k.0 k.1 record { words = s.words; homes = s.homes; views = set s.views id (kept_notes v) } (split_notes v) moved
            record { head_is = ok.head_is; begins = ok.begins; below = All-nil (λ n. n < length k.0); held = right_held v.part.share ok.held; at_stage = tt } others,
      )
    where
      turning : (j : ℕ) → k.1 ≡ Some j → ((j ≡ id) × (is_in_turn v.stage ≡ true)) ⊎ ((k.1 ≡ Some j) × (j ≢ id))
      turning j e = let o = k.2.in_turn j e in dite (ℕ_discrete j id)
          (λ (same : j ≡ id). inl (same, ap (λ (z : Notes H E). is_in_turn z.stage) (some-injective v o.0 (sym at ∙ subst (λ (i : ℕ). get_elem? s.views i ≡ some o.0) same o.1)) ∙ o.2))
          (λ (ne : j ≢ id). inr (e, ne))

      others : (j : ℕ) (u : Notes H E) → get_elem? (set s.views id (kept_notes v)) j ≡ some u → AreSeatsApart u (split_notes v)
      others j u e = ⊎_elim
          (λ (t : (j ≡ id) × (kept_notes v ≡ u)). subst (λ (z : Notes H E). AreSeatsApart z (split_notes v)) t.1 (λ n has none. none_has n none, halves_apart v.part.share))
          (λ (t : (j ≢ id) × (get_elem? s.views j ≡ some u)). (λ n has none. none_has n none, λ p a b. (k.2.apart j id u v t.1 at t.0).1 p a (right_within v.part.share p b)))
          (at_set s.views id j (kept_notes v) u e)

  -- kind 8
  pub joins : (id other : ℕ) (known known' : H) (v w : Notes H E) → v.head ≡ Some known → w.head ≡ Some known' → is_in_turn v.stage ≡ false → is_in_turn w.stage ≡ false
      → Joins (IsKept head list h first) id v other w (joined_notes v w) spent_notes
  joins id other known known' v w is_known is_known' calm calm' s k at other_than at' = let old : get_elem? s.views other ≡ some w = set_else' at' in (
    k.0,
    k.1,
    record {
      words_are = k.2.words_are;
      home = k.2.home;
      begins = k.2.begins;
      owned = λ n low lt. let o = k.2.owned n low lt in dite (ℕ_discrete o.0 id)
          (λ (e : o.0 ≡ id). let same : v ≡ o.1 = some-injective v o.1 (sym at ∙ subst (λ (i : ℕ). get_elem? s.views i ≡ some o.1) e o.2) in
          (id, joined_notes v w, joined_at, Contains-append_left v.mine w.mine n (subst (λ (z : Notes H E). Contains z.mine n) (sym same) o.3)))
          (λ (ne : o.0 ≢ id). dite (ℕ_discrete o.0 other)
          (λ (e : o.0 ≡ other). let same : w ≡ o.1 = some-injective w o.1 (sym old ∙ subst (λ (i : ℕ). get_elem? s.views i ≡ some o.1) e o.2) in
          (id, joined_notes v w, joined_at, Contains-append_right v.mine w.mine n (subst (λ (z : Notes H E). Contains z.mine n) (sym same) o.3)))
          (λ (ne' : o.0 ≢ other). (o.0, o.1, apart_at o.0 o.1 ne ne' o.2, o.3)));
      longest = let l = k.2.longest in dite (ℕ_discrete l.0 id)
          (λ (e : l.0 ≡ id). let same : v ≡ l.1 = some-injective v l.1 (sym at ∙ subst (λ (i : ℕ). get_elem? s.views i ≡ some l.1) e l.2) in let all : v.seen ≡ k.0 = ap (λ (z : Notes H E). z.seen) same ∙ l.3 in
          (id, joined_notes v w, joined_at, longer_first v.seen w.seen (subst (λ z. StartsWith z w.seen) (sym all) (seated' old).begins) ∙ all))
          (λ (ne : l.0 ≢ id). dite (ℕ_discrete l.0 other)
          (λ (e : l.0 ≡ other). let same : w ≡ l.1 = some-injective w l.1 (sym old ∙ subst (λ (i : ℕ). get_elem? s.views i ≡ some l.1) e l.2) in let all : w.seen ≡ k.0 = ap (λ (z : Notes H E). z.seen) same ∙ l.3 in
          (id, joined_notes v w, joined_at, longer_second v.seen w.seen (subst (λ z. StartsWith z v.seen) (sym all) seated.begins) ∙ all))
          (λ (ne' : l.0 ≢ other). (l.0, l.1, apart_at l.0 l.1 ne ne' l.2, l.3)));
      each_seat = λ j u e. ⊎_elim
          (λ (t : (j ≡ other) × (spent_notes ≡ u)). inl (sym t.1))
          (λ (t : (j ≢ other) × (get_elem? (set s.views id (joined_notes v w)) j ≡ some u)). ⊎_elim
          (λ (t' : (j ≡ id) × (joined_notes v w ≡ u)). inr (subst (IsSeated h k.0 k.1 j) t'.1 (joined j old)))
          (λ (t' : (j ≢ id) × (get_elem? s.views j ≡ some u)). k.2.each_seat j u t'.1)
          (at_set s.views id j (joined_notes v w) u t.1))
          (at_set (set s.views id (joined_notes v w)) other j spent_notes u e);
      apart = λ i j u u' e e' different. ⊎_elim
          (λ (t : (i ≡ other) × (spent_notes ≡ u)). subst (λ (z : Notes H E). AreSeatsApart z u') t.1 (spent_apart u'))
          (λ (t : (i ≢ other) × (get_elem? (set s.views id (joined_notes v w)) i ≡ some u)). ⊎_elim
          (λ (t' : (j ≡ other) × (spent_notes ≡ u')). subst (λ (z : Notes H E). AreSeatsApart u z) t'.1 (apart_turned spent_notes u (spent_apart u)))
          (λ (t' : (j ≢ other) × (get_elem? (set s.views id (joined_notes v w)) j ≡ some u')). ⊎_elim
          (λ (q : (i ≡ id) × (joined_notes v w ≡ u)). ⊎_elim
          (λ (q' : (j ≡ id) × (joined_notes v w ≡ u')). absurd (different (q.0 ∙ sym q'.0)))
          (λ (q' : (j ≢ id) × (get_elem? s.views j ≡ some u')). subst (λ (z : Notes H E). AreSeatsApart z u') q.1 (against old j u' q'.0 t'.0 q'.1))
          (at_set s.views id j (joined_notes v w) u' t'.1))
          (λ (q : (i ≢ id) × (get_elem? s.views i ≡ some u)). ⊎_elim
          (λ (q' : (j ≡ id) × (joined_notes v w ≡ u')). subst (λ (z : Notes H E). AreSeatsApart u z) q'.1 (apart_turned (joined_notes v w) u (against old i u q.0 t.0 q.1)))
          (λ (q' : (j ≢ id) × (get_elem? s.views j ≡ some u')). k.2.apart i j u u' q.1 q'.1 different)
          (at_set s.views id j (joined_notes v w) u' t'.1))
          (at_set s.views id i (joined_notes v w) u t.1))
          (at_set (set s.views id (joined_notes v w)) other j spent_notes u' e'))
          (at_set (set s.views id (joined_notes v w)) other i spent_notes u e);
      in_turn = λ j e. let o = k.2.in_turn j e in (
        o.0,
        apart_at j o.0
            (λ same. false≢true (sym calm ∙ ap (λ (z : Notes H E). is_in_turn z.stage) (some-injective v o.0 (sym at ∙ subst (λ (i : ℕ). get_elem? s.views i ≡ some o.0) same o.1)) ∙ o.2))
            (λ same. false≢true (sym calm' ∙ ap (λ (z : Notes H E). is_in_turn z.stage) (some-injective w o.0 (sym old ∙ subst (λ (i : ℕ). get_elem? s.views i ≡ some o.0) same o.1)) ∙ o.2)) o.1,
        o.2,
      );
    },
  )
    where
      joined_at : get_elem? (set (set s.views id (joined_notes v w)) other spent_notes) id ≡ some (joined_notes v w)
      joined_at = set_else (set s.views id (joined_notes v w)) other id spent_notes (λ e. other_than (sym e)) ∙ set_here s.views id (joined_notes v w) (in_range s.views id v at)

      apart_at : (j : ℕ) (u : Notes H E) → j ≢ id → j ≢ other → get_elem? s.views j ≡ some u → get_elem? (set (set s.views id (joined_notes v w)) other spent_notes) j ≡ some u
      apart_at j u a b e = set_else (set s.views id (joined_notes v w)) other j spent_notes b ∙ set_else s.views id j (joined_notes v w) a ∙ e

      set_else' : get_elem? (set s.views id (joined_notes v w)) other ≡ some w → get_elem? s.views other ≡ some w
      set_else' e = sym (set_else s.views id other (joined_notes v w) other_than) ∙ e

      seated : IsSeated h k.0 k.1 id v
      seated = seated_by_head h known k.0 k.1 id v is_known (k.2.each_seat id v at)

      seated' : get_elem? s.views other ≡ some w → IsSeated h k.0 k.1 other w
      seated' old = seated_by_head h known' k.0 k.1 other w is_known' (k.2.each_seat other w old)

      joined : (j : ℕ) → get_elem? s.views other ≡ some w → IsSeated h k.0 k.1 j (joined_notes v w)
      joined j old = let a = seated in let b = seated' old in record {
        head_is = a.head_is;
        begins = starts_longer k.0 v.seen w.seen a.begins b.begins;
        below = All-append (λ n. n < length k.0) v.mine w.mine a.below b.below;
        held = (a.held.0, both_first v.part.share w.part.share a.held.0 a.held.1);
        at_stage = (a.begins, b.begins, (k.2.apart id other v w at old (λ z. other_than (sym z))).0);
      }

      against : get_elem? s.views other ≡ some w → (j : ℕ) (u : Notes H E) → j ≢ id → j ≢ other → get_elem? s.views j ≡ some u → AreSeatsApart (joined_notes v w) u
      against old j u a b e = let one = k.2.apart id j v u at e (λ z. a (sym z)) in let two = k.2.apart other j w u old e (λ z. b (sym z)) in (
        λ n has has'. ⊎_elim (λ (x : Contains v.mine n). one.0 n x has') (λ (x : Contains w.mine n). two.0 n x has') (Contains-append_cases v.mine w.mine n has),
        λ p x y. ⊎_elim (λ z. one.1 p z y) (λ z. two.1 p z y) (of_both v.part.share w.part.share p x),
      )

      spent_apart : (u : Notes H E) → AreSeatsApart spent_notes u
      spent_apart u = (λ n has _. none_has n has, λ p e _. false≢true e)

  -- the look after a join
  pub reads_joined : (n id : ℕ) (known : H) (me : Holder T H E) → me.0.head ≡ Some known → is_in_turn me.0.stage ≡ false → Allows (IsKept head list h first) n id me 1 (λ y. y) (ReadsJoined (step n 1 0 0 none) me)
  reads_joined n id known me is_known calm s k wide at small =
      let v = me.0 in
      let y : ℕ = get_or s.words 1 0 in
      let w : Notes H E = record v { stage = Out } in
      let ok = seated_by_head h known k.0 k.1 id v is_known (k.2.each_seat id v at) in (
        w,
        keeps,
        tt,
        (
          k.0,
          k.1,
          moves head list h first k.0 k.0 k.1 k.1 s id v w (set s.words 1 y) s.homes at k.2 (set-get_or s.words 1 0 ∙ k.2.words_are) k.2.home
              record { head_is = ok.head_is; begins = ok.begins; below = ok.below; held = ok.held; at_stage = tt } (λ j u _ old. old) (own_kept k.0 v w refl (holds_itself v.part.share)) (starts_itself k.0) (inr (refl, refl))
              (λ j e. inr (e, λ same. let o = k.2.in_turn j e in false≢true (sym calm ∙ ap (λ (z : Notes H E). is_in_turn z.stage) (some-injective v o.0 (sym at ∙ subst (λ (i : ℕ). get_elem? s.views i ≡ some o.0) same o.1)) ∙ o.2))),
        ),
        (refl, refl, sound_at_stage k.0 k.1 id v.seen v.found v.stage ok.at_stage),
      )
