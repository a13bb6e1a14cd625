-- The kinds 1, 2, 4 and 6 keep the rule, and tell what they should: a turn is taken, its length read, its list published, and it is free again.
use Rattle.std.proofs.Common.{◌≡◌, ◌≢◌, ℕ, ◌<◌, ◌≤◌, eqb, List, [], ◌∷◌, ◌++◌, length, get_or, set, sym, refl, ap, ◌∙◌, subst, ⊎_elim, inl, inr, arith, true, Option, Some, None}
use Rattle.std.specs.Prelude.{Contains, Box}
use Rattle.std.proofs.lemmas.List.{set-get_or}
use Rattle.std.proofs.lemmas.List.Elements.{All-append, All-weaker, All-contains_itself, Contains-append_left, Contains-append_right, Contains-append_cases}
use mathlib.Core.Option.{none, some, some-injective}
use mathlib.Core.Option as maybe
use mathlib.Core.Logic.{dite}
use native.Mathlib.Decide.{ℕ_discrete}
use lib.ListN.{get_elem?}
use prog.Atomic.{either}
use Rattle.atomic_table.specs.Table.{step, Act, keeps, takes, gives, Valid, stepped, carried_after, Allows, Seen}
use Rattle.atomic_table.specs.Seated.{TableId}
use Rattle.atomic_table.proofs.Lists.{set_again, exchanged}
use Rattle.grow_lock.specs.declared.notes.Notes.{Notes}
use Rattle.grow_lock.specs.declared.notes.Stage.{Stage}
use Rattle.grow_lock.specs.declared.notes.Stage.TheVariants.{Out, Taken, Measured, Published}
use Rattle.grow_lock.specs.Boxed.{boxed}
use Rattle.grow_lock.specs.Journal.{StartsWith, added_places}
use Rattle.grow_lock.specs.Notes.{is_in_turn, base_of}
use Rattle.grow_lock.specs.Passes.{PassModel, TurnModel, pass_of}
use Rattle.grow_lock.specs.Shares.{IsWhole}
use Rattle.grow_lock.specs.Rule.{IsAtStage, IsSpent, IsSeated, IsHome, IsTable, IsKept, LockTable, turn_word}
use Rattle.grow_lock.specs.Steps.{Holder, carried_list, TakesTurn, ReadsLength, PublishesLength, FreesTurn}
use Rattle.grow_lock.proofs.Lists.{none_has, starts_itself, length_starts, added_places_within, added_places_all}
use Rattle.grow_lock.proofs.Moves.{none_in_turn, same_seat, seated_by_head, seated_by_stage, other_stays, own_kept, moves}
use Rattle.grow_lock.proofs.Shares.{holds_itself}

-- the list begins with the first one, and all places behind that are these
abbrev pub HasAll : {E : Type 0} → List E → List E → List ℕ → Type 0
HasAll entries front mine = StartsWith entries front × ((n : ℕ) → length front ≤ n → n < length entries → Contains mine n)

module _ {T H E : Type 0} (head : T → H) (list : T → List E) (h : H) (first : List E) where
  abbrev Seat : Type 0
  Seat = Holder T H E

  -- the step can go on at this table: the seat has new notes and an act, for which the rule is kept and the step tells what it should
  abbrev pub Goes : LockTable T H E → ℕ → ℕ → Seat → (ℕ → Seat → Type 0) → ℕ → Type 0
  Goes s word id me tells new = (w : Notes H E) × (a : Act (Option T)) × Valid s.homes me.1 a × IsKept head list h first (stepped s word new id me.1 w a) × tells (get_or s.words word 0) (w, carried_after me.1 a)

  -- a step that changes nothing
  pub stays : (s : LockTable T H E) → IsKept head list h first s → (word id : ℕ) (me : Seat) (tells : ℕ → Seat → Type 0) → get_elem? s.views id ≡ some me.0 → tells (get_or s.words word 0) me → Goes s word id me tells (get_or s.words word 0)
  stays s k word id me tells at told = (
    me.0,
    keeps,
    tt,
    (k.0, k.1, subst (λ (z : List ℕ × List (Notes H E)). IsTable head list h first k.0 k.1 record { words = z.0; homes = s.homes; views = z.1 }) (λ c. (sym (set-get_or s.words word 0) c, sym (set_again s.views id me.0 at) c)) k.2),
    told,
  )

  -- a try that finds 0
  take_at : (n id : ℕ) (known : H) (me : Seat) (s : LockTable T H E) (journal : List E) (turn : Option ℕ) → IsTable head list h first journal turn s → get_elem? s.views id ≡ some me.0 → me.0.head ≡ Some known → me.1 ≡ [] → get_or s.words 0 0 ≡ 0
      → Goes s 0 id me (TakesTurn head list (step n 0 0 1 none) me) 1
  take_at n id known me s journal None k at is_known none_held zero_is =
      let x : T = k.home.0 in
      let v = me.0 in
      let ok = seated_by_head h known journal None id v is_known (k.each_seat id v at) in
      let w : Notes H E = record v { stage = Taken (list x) } in (
        w,
        takes 0 (Some x),
        ap (λ (hs : List (maybe.Option (Option T))). get_elem? hs 0) k.home.1,
        (
          journal,
          Some id,
          moves head list h first journal journal None (Some id) s id v w (set s.words 0 1) (set s.homes 0 none) at k (ap (λ (ws : List ℕ). set ws 0 1) k.words_are) (ap (λ (hs : List (maybe.Option (Option T))). set hs 0 none) k.home.1)
              record { head_is = ok.head_is; begins = ok.begins; below = ok.below; held = ok.held; at_stage = (refl, k.home.3) }
              (λ j u other old. other_stays h journal journal None (Some id) j u (starts_itself journal) (omega arith) (none_in_turn j) old)
              (own_kept journal v w refl (holds_itself v.part.share)) (starts_itself journal) (inr (refl, refl)) (λ j e. inl (sym (same_seat id j e), refl)),
        ),
        (
          (λ _. (x, refl, refl, ok.head_is ∙ ap Some (sym k.home.2), subst (λ (l : List E). StartsWith l v.seen) (sym k.home.3) ok.begins)),
          (λ not. absurd (not zero_is)),
        ),
      )
  take_at n id known me s journal (Some j) k at is_known none_held zero_is = let one : get_or s.words 0 0 ≡ 1 = ap (λ (ws : List ℕ). get_or ws 0 0) k.words_are in absurd (omega arith)

  -- kind 1
  pub takes_turn : (n id : ℕ) (known : H) (me : Seat) → me.0.head ≡ Some known → me.1 ≡ [] → Allows (IsKept head list h first) n id me 0 (λ y. either (eqb y 0) 1 y) (TakesTurn head list (step n 0 0 1 none) me)
  takes_turn n id known me is_known empty s k wide at small = let y : ℕ = get_or s.words 0 0 in let tells = TakesTurn head list (step n 0 0 1 none) me in
      exchanged y 0 1 (Goes s 0 id me tells) (λ hit. take_at n id known me s k.0 k.1 k.2 at is_known empty hit)
      (λ miss. stays s k 0 id me tells at ((λ hit. absurd (miss hit)), λ _. refl))

  -- the seat is in turn, as far as its stage says
  turning_at : (s : LockTable T H E) (k : IsKept head list h first s) (id : ℕ) (v : Notes H E) → get_elem? s.views id ≡ some v → (stage : Stage E) → v.stage ≡ stage → is_in_turn stage ≡ true
      → IsSeated h k.0 k.1 id v × IsAtStage k.0 k.1 id v.seen v.found stage
  turning_at s k id v at stage is turning = let ok = seated_by_stage h k.0 k.1 id v (ap is_in_turn is ∙ turning) (k.2.each_seat id v at) in (ok, subst (IsAtStage k.0 k.1 id v.seen v.found) is ok.at_stage)

  -- kind 2
  pub reads_length : (n id : ℕ) (me : Seat) → me.0.stage ≡ Taken (base_of me.0.stage) → Allows (IsKept head list h first) n id me 1 (λ y. y) (ReadsLength (step n 1 0 0 none) me)
  reads_length n id me is s k wide at small =
      let v = me.0 in
      let base = base_of v.stage in
      let y : ℕ = get_or s.words 1 0 in
      let w : Notes H E = record v { stage = Measured base; found = v.found ++ y ∷ [] } in
      let now = turning_at s k id v at (Taken base) is refl in
      let ok = now.0 in
      let turning = now.1 in
      let read : y ≡ length k.0 = ap (λ (ws : List ℕ). get_or ws 1 0) k.2.words_are in (
        w,
        keeps,
        tt,
        (
          k.0,
          k.1,
          moves head list h first k.0 k.0 k.1 k.1 s id v w (set s.words 1 y) s.homes at k.2 (set-get_or s.words 1 0 ∙ k.2.words_are) k.2.home
              record { head_is = ok.head_is; begins = ok.begins; below = ok.below; held = ok.held; at_stage = (turning.0, turning.1, (v.found, ap (λ (m : ℕ). v.found ++ m ∷ []) read)) }
              (λ j u _ old. old) (own_kept k.0 v w refl (holds_itself v.part.share)) (starts_itself k.0) (inr (refl, refl)) (λ j e. inl (sym (same_seat id j (sym turning.0 ∙ e)), refl)),
        ),
        (read ∙ ap length (sym turning.1), refl, refl),
      )

  -- the slot is out while a seat is in turn, whatever the journal
  still_out : (homes : List (maybe.Option (Option T))) (journal journal' : List E) (turn : Option ℕ) (id : ℕ) → turn ≡ Some id → IsHome head list h homes journal turn → IsHome head list h homes journal' turn
  still_out homes journal journal' turn id is out = subst (IsHome head list h homes journal') (sym is) (subst (IsHome head list h homes journal) is out)

  -- the store, by the seat in turn
  publish_at : (n id new : ℕ) (v : Notes H E) (x : T) (more : List (ℕ × Option T)) (base : List E) → v.stage ≡ Measured base → StartsWith (list x) base → new ≡ length (list x)
      → (s : LockTable T H E) → IsKept head list h first s → get_elem? s.views id ≡ some v → Goes s 1 id (v, (0, Some x) ∷ more) (λ _ m. PublishesLength list (step n 1 new 0 none) (v, (0, Some x) ∷ more) new m) new
  publish_at n id new v x more base is grows long s k at =
      let now = turning_at s k id v at (Measured base) is refl in
      let ok = now.0 in
      let turning = now.1 in
      let longer_list : List E = list x in
      let added : List ℕ = added_places (base_of v.stage) longer_list in
      let w : Notes H E = record v { stage = Published; seen = longer_list; mine = v.mine ++ added } in
      let begun : base_of v.stage ≡ k.0 = ap base_of is ∙ turning.1 in
      let grows' : StartsWith longer_list k.0 = subst (StartsWith longer_list) turning.1 grows in
      let len : length k.0 ≤ length longer_list = length_starts longer_list k.0 grows' in
      let begun_len : length (base_of v.stage) ≡ length k.0 = ap length begun in
      let within = λ (m : ℕ) (has : Contains added m). added_places_within (base_of v.stage) longer_list m (omega (arith, begun_len, len)) has in (
        w,
        keeps,
        tt,
        (
          longer_list,
          k.1,
          moves head list h first k.0 longer_list k.1 k.1 s id v w (set s.words 1 new) s.homes at k.2 (ap (λ (ws : List ℕ). set ws 1 new) k.2.words_are ∙ ap (λ (z : ℕ). turn_word k.1 ∷ z ∷ []) long)
              (still_out s.homes k.0 longer_list k.1 id turning.0 k.2.home)
              record {
                head_is = ok.head_is;
                begins = starts_itself longer_list;
                below = All-append (λ (m : ℕ). m < length longer_list) v.mine added (All-weaker (λ (m : ℕ). m < length k.0) (λ (m : ℕ). m < length longer_list) (λ m lt. omega (arith, lt, len)) v.mine ok.below)
                    (All-weaker (Contains added) (λ (m : ℕ). m < length longer_list) (λ m has. (within m has).1) added (All-contains_itself added));
                held = ok.held;
                at_stage = (turning.0, refl);
              }
              (λ j u other old. other_stays h k.0 longer_list k.1 k.1 j u grows' len (λ e. other (sym (same_seat id j (sym turning.0 ∙ e)))) old)
              record {
                more = λ m has. ⊎_elim (λ a. inl a) (λ b. inr (let z = (within m b).0 in omega (arith, z, begun_len))) (Contains-append_cases v.mine added m has);
                kept = λ m has. Contains-append_left v.mine added m has;
                new = λ m le lt. Contains-append_right v.mine added m (added_places_all (base_of v.stage) longer_list m (omega (arith, le, begun_len)) lt);
                share = holds_itself v.part.share;
              }
              grows' (inl refl) (λ j e. inl (sym (same_seat id j (sym turning.0 ∙ e)), refl)),
        ),
        (refl, refl),
      )

  -- kind 4, for a seat that has its value home in the slot
  pub publishes : (n id new : ℕ) (me : Seat) (v : Notes H E) (x : T) → me ≡ (v, (0, Some x) ∷ []) → v.stage ≡ Measured (base_of v.stage) → StartsWith (list x) (base_of v.stage) → new ≡ length (list x)
      → Allows (IsKept head list h first) n id me 1 (λ _. new) (λ _ m. PublishesLength list (step n 1 new 0 none) me new m)
  publishes n id new me v x is stage grows long =
      subst (λ (z : Seat). Allows (IsKept head list h first) n id z 1 (λ _. new) (λ _ m. PublishesLength list (step n 1 new 0 none) z new m)) (sym is)
      (λ s k wide at small. publish_at n id new v x [] (base_of v.stage) stage grows long s k at)

  -- the store, by the seat that has published
  free_at : (n id : ℕ) (v : Notes H E) (x : T) → v.stage ≡ Published → v.head ≡ Some (head x) → list x ≡ v.seen
      → (s : LockTable T H E) → IsKept head list h first s → get_elem? s.views id ≡ some v → Goes s 0 id (v, (0, Some x) ∷ []) (λ _ m. FreesTurn (step n 0 0 0 none) (v, (0, Some x) ∷ []) 0 m) 0
  free_at n id v x is head_is list_is s k at =
      let now = turning_at s k id v at Published is refl in
      let ok = now.0 in
      let turning = now.1 in
      let w : Notes H E = record v { stage = Out } in
      let out : s.homes ≡ none ∷ [] = subst (IsHome head list h s.homes k.0) turning.0 k.2.home in
      let one_head : Some (head x) ≡ Some h = sym head_is ∙ ok.head_is in (
        w,
        gives,
        tt,
        (
          k.0,
          None,
          moves head list h first k.0 k.0 k.1 None s id v w (set s.words 0 0) (set s.homes 0 (some (Some x))) at k.2 (ap (λ (ws : List ℕ). set ws 0 0) k.2.words_are)
              (x, ap (λ (hs : List (maybe.Option (Option T))). set hs 0 (some (Some x))) out, (cc), list_is ∙ turning.1)
              record { head_is = ok.head_is; begins = ok.begins; below = ok.below; held = ok.held; at_stage = tt }
              (λ j u other old. other_stays h k.0 k.0 k.1 None j u (starts_itself k.0) (omega arith) (λ e. other (sym (same_seat id j (sym turning.0 ∙ e)))) old)
              (own_kept k.0 v w refl (holds_itself v.part.share)) (starts_itself k.0) (inr (refl, refl)) (λ j e. absurd (none_in_turn j e)),
        ),
        (refl, refl),
      )

  -- kind 6, after kind 4
  pub frees : (n id : ℕ) (me before : Seat) (v : Notes H E) (x : T) → before ≡ (v, (0, Some x) ∷ []) → PublishesLength list (step n 1 0 0 none) before 0 me → v.head ≡ Some (head x)
      → Allows (IsKept head list h first) n id me 0 (λ _. 0) (λ _ m. FreesTurn (step n 0 0 0 none) me 0 m)
  frees n id me before v x is published known s k wide at small =
      let held : me.1 ≡ (0, Some x) ∷ [] = published.1 ∙ ap (λ (z : Seat). z.1) is in
      let head_is : me.0.head ≡ Some (head x) = ap (λ (z : Notes H E). z.head) published.0 ∙ ap (λ (z : Seat). z.0.head) is ∙ known in
      let seen_is : me.0.seen ≡ list x = ap (λ (z : Notes H E). z.seen) published.0 ∙ ap (λ (z : Seat). carried_list list z.1) is in
      subst (λ (c : List (ℕ × Option T)). Goes s 0 id (me.0, c) (λ _ m. FreesTurn (step n 0 0 0 none) (me.0, c) 0 m) 0) (sym held)
      (free_at n id me.0 x (ap (λ (z : Notes H E). z.stage) published.0) head_is (sym seen_is) s k at)

  -- who is in turn and has the whole lock has all places behind the first list: nobody else has any part of it, so all others are spent
  pub closes : (s : LockTable T H E) (id : ℕ) (v : Notes H E) (base : List E) → Seen (IsKept head list h first) id v s → v.stage ≡ Measured base → IsWhole v.part.share → HasAll base first v.mine
  closes s id v base (k, at) is whole =
      let begun : base ≡ k.0 = (turning_at s k id v at (Measured base) is refl).1.1 in (
        subst (λ (l : List E). StartsWith l first) (sym begun) k.2.begins,
        λ n low lt. let o = k.2.owned n low (omega (arith, lt, ap length begun)) in dite (ℕ_discrete o.0 id)
            (λ (e : o.0 ≡ id). subst (λ (z : Notes H E). Contains z.mine n) (sym (some-injective v o.1 (sym at ∙ subst (λ (i : ℕ). get_elem? s.views i ≡ some o.1) e o.2))) o.3)
            (λ (ne : o.0 ≢ id). ⊎_elim
            (λ (spent : IsSpent o.1). absurd (none_has n (subst (λ (z : Notes H E). Contains z.mine n) spent o.3)))
            (λ (seated : IsSeated h k.0 k.1 o.0 o.1). absurd ((k.2.apart o.0 id o.1 v o.2 at ne).1 seated.held.0 seated.held.1 (whole seated.held.0)))
            (k.2.each_seat o.0 o.1 o.2)),
      )

module _ {T A H E : Type 0} (head : T → H) (list : T → List E) (h : H) (first : List E) where
  -- the same, of the turn and the pass by which the lock is closed
  pub closes_with : (s : LockTable (Box T A) H E) (id : ℕ) (v : Notes H E) (t : TurnModel T H E) (pass : PassModel H E) (table : TableId) (value : T) (front : List E) → Seen (IsKept (boxed head) (boxed list) h first) id v s
      → v.stage ≡ Measured (base_of v.stage) → record { value = value; base = base_of v.stage; pass = pass_of table v } ≡ t → t.base ≡ list t.value → t.pass.share ≡ pass.share → t.pass.mine ≡ pass.mine
      → IsWhole pass.share → first ≡ front → HasAll (list value) front pass.mine
  closes_with s id v t pass table value front seen is view base share mine whole first_is =
      subst (λ (z : List E × List E × List ℕ). HasAll z.0 z.1 z.2)
      (λ i. ((ap (λ (z : TurnModel T H E). z.base) view ∙ base ∙ sym (ap (λ (z : TurnModel T H E). list z.value) view)) i, first_is i, (ap (λ (z : TurnModel T H E). z.pass.mine) view ∙ mine) i))
      (closes (boxed head) (boxed list) h first s id v (base_of v.stage) seen is (subst IsWhole (sym (ap (λ (z : TurnModel T H E). z.pass.share) view ∙ share)) whole))
