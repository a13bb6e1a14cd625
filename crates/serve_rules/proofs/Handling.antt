-- Events that are handled one after the other, while the journal goes on.
use Rattle.std.proofs.Common.{◌≡◌, ℕ, ◌≤◌, List, [], ◌∷◌, ◌++◌, length, map, sym, refl, ap, ap₂, ◌∙◌, subst, arith, append_assoc, append-nil, length-append, Some, None, inl}
use Rattle.std.proofs.lemmas.List.{map-append}
use Rattle.std.specs.Prelude.{Option, option_to_list}
use Rattle.std.specs.List.{range_with_len}
use Rattle.input_pdu.specs.declared.event.Event.{Event}
use Rattle.session_rules.specs.declared.entry.Entry.{Entry}
use Rattle.session_rules.specs.Journal.{Head, reached_at}
use Rattle.session_rules.specs.Entering.{entry_of_event}
use Rattle.session_rules.proofs.Journals.{reached_at-append}
use Rattle.grow_lock.specs.Journal.{StartsWith}
use Rattle.grow_lock.proofs.Lists.{starts_itself, starts_trans, length_starts}
use Rattle.grow_lock.proofs.Shares.{holds_itself, holds_same, holds_trans}
use Rattle.serve_rules.specs.Turns.{SessionPass, KeepsShare, IsHandled, Idles, place_after}
use Rattle.serve_rules.specs.Events.{entry_at, Act, HasAt, next_low, HappenFrom, place_if, places_of, IsWithin, Handles}
use Rattle.serve_rules.proofs.Lists.{got_more, got_end, within_back, within_then}

next_low_ge : (at : ℕ) (o : Option Entry) → at ≤ next_low at o
next_low_ge at None = omega arith
next_low_ge at (Some e) = omega arith

has_more : (j more : List Entry) (at : ℕ) (o : Option Entry) → HasAt j at o → HasAt (j ++ more) at o
has_more j more at None s = tt
has_more j more at (Some e) s = got_more j more at e s

module _ (head : Head) (v : ℕ) where
  entry_at_more : (j more : List Entry) (a : Act) → a.at ≤ length j → entry_at head v (j ++ more) a ≡ entry_at head v j a
  entry_at_more j more a le = ap (entry_of_event head v a.event) (reached_at-append head.size j more a.at le)

  low_high : (j : List Entry) (low : ℕ) (acts : List Act) (high : ℕ) → HappenFrom head v j low acts high → low ≤ high
  low_high j low [] high h = h
  low_high j low (a ∷ acts) high h = omega (arith, h.0, next_low_ge a.at (entry_at head v j a), low_high j (next_low a.at (entry_at head v j a)) acts high h.2)

  first_at : (j : List Entry) (low : ℕ) (a : Act) (acts : List Act) (high : ℕ) → high ≤ length j → HappenFrom head v j low (a ∷ acts) high → a.at ≤ length j
  first_at j low a acts high le h = omega (arith, le, next_low_ge a.at (entry_at head v j a), low_high j (next_low a.at (entry_at head v j a)) acts high h.2)

  -- what happened stays, however the journal goes on
  happen_more : (j more : List Entry) (low : ℕ) (acts : List Act) (high : ℕ) → high ≤ length j → HappenFrom head v j low acts high → HappenFrom head v (j ++ more) low acts high
  happen_more j more low [] high le h = h
  happen_more j more low (a ∷ acts) high le h =
      let same : entry_at head v (j ++ more) a ≡ entry_at head v j a = entry_at_more j more a (first_at j low a acts high le h) in (
        h.0,
        subst (HasAt (j ++ more) a.at) (sym same) (has_more j more a.at (entry_at head v j a) h.1),
        subst (λ (o : Option Entry). HappenFrom head v (j ++ more) (next_low a.at o) acts high) (sym same) (happen_more j more (next_low a.at (entry_at head v j a)) acts high le h.2),
      )

  places_more : (j more : List Entry) (low : ℕ) (acts : List Act) (high : ℕ) → high ≤ length j → HappenFrom head v j low acts high → places_of head v (j ++ more) acts ≡ places_of head v j acts
  places_more j more low [] high le h = refl
  places_more j more low (a ∷ acts) high le h =
      ap₂ ◌++◌ (ap (place_if a.at) (entry_at_more j more a (first_at j low a acts high le h))) (places_more j more (next_low a.at (entry_at head v j a)) acts high le h.2)

  happen_lower : (j : List Entry) (lower low : ℕ) (acts : List Act) (high : ℕ) → lower ≤ low → HappenFrom head v j low acts high → HappenFrom head v j lower acts high
  happen_lower j lower low [] high le h = omega (arith, le, h)
  happen_lower j lower low (a ∷ acts) high le h = (omega (arith, le, h.0), h.1, h.2)

  happen_then : (j : List Entry) (low : ℕ) (acts : List Act) (mid low' : ℕ) (acts' : List Act) (high : ℕ) → mid ≤ low' → HappenFrom head v j low acts mid → HappenFrom head v j low' acts' high
      → HappenFrom head v j low (acts ++ acts') high
  happen_then j low [] mid low' acts' high le h h' = happen_lower j low low' acts' high (omega (arith, le, h)) h'
  happen_then j low (a ∷ acts) mid low' acts' high le h h' = (h.0, h.1, happen_then j (next_low a.at (entry_at head v j a)) acts mid low' acts' high le h.2 h')

  places_then : (j : List Entry) (acts acts' : List Act) → places_of head v j (acts ++ acts') ≡ places_of head v j acts ++ places_of head v j acts'
  places_then j [] acts' = refl
  places_then j (a ∷ acts) acts' = ap (λ ps. place_if a.at (entry_at head v j a) ++ ps) (places_then j acts acts') ∙ sym (append_assoc (place_if a.at (entry_at head v j a)) _ _)

  -- ---- what was handled between two states of a pass

  -- what was handled stays so for a pass that has seen more and was in further turns, in which it appended nothing
  pub handles_more : (es : List Event) (p q r : SessionPass) (P Q : List ℕ) (turns : List ℕ) → Handles head v es p q P Q → StartsWith r.seen q.seen → r.found ≡ q.found ++ turns → r.mine ≡ q.mine
      → KeepsShare q r → Handles head v es p r P Q
  handles_more es p q r P Q turns h grows found mine keeps =
      let kept : places_of head v r.seen h.acts ≡ places_of head v q.seen h.acts
      = ap (λ j. places_of head v j h.acts) grows.1 ∙ places_more q.seen grows.0 (length p.seen) h.acts h.high h.within_seen h.happen in
      record {
        acts = h.acts;
        of_events = h.of_events;
        grows = starts_trans r.seen q.seen p.seen grows h.grows;
        high = h.high;
        happen = subst (λ j. HappenFrom head v j (length p.seen) h.acts h.high) (sym grows.1) (happen_more q.seen grows.0 (length p.seen) h.acts h.high h.within_seen h.happen);
        within_seen = omega (arith, h.within_seen, length_starts r.seen q.seen grows);
        more_found = h.more_found ++ turns;
        found = found ∙ (ap (λ l. l ++ turns) h.found ∙ append_assoc p.found h.more_found turns);
        in_found = within_back turns (map (λ (a : Act). a.at) h.acts) h.more_found h.in_found;
        mine = mine ∙ (h.mine ∙ ap (λ l. p.mine ++ l) (sym kept));
        share = holds_trans r.share q.share p.share keeps h.share;
        places = h.places ∙ ap (λ l. P ++ l) (sym kept);
      }

  -- and no later turn found less than before
  pub high_stays : (es : List Event) (p q r : SessionPass) (P Q : List ℕ) (turns : List ℕ) (h : Handles head v es p q P Q) (grows : StartsWith r.seen q.seen)
      (found : r.found ≡ q.found ++ turns) (mine : r.mine ≡ q.mine) (keeps : KeepsShare q r) → (handles_more es p q r P Q turns h grows found mine keeps).high ≡ h.high
  unfolding handles_more
  high_stays es p q r P Q turns h grows found mine keeps = refl

  -- events after events
  pub handles_then : (es es' : List Event) (p q r : SessionPass) (P Q S : List ℕ) → Handles head v es p q P Q → Handles head v es' q r Q S → Handles head v (es ++ es') p r P S
  handles_then es es' p q r P Q S h k =
      let kept : places_of head v r.seen h.acts ≡ places_of head v q.seen h.acts
      = ap (λ j. places_of head v j h.acts) k.grows.1 ∙ places_more q.seen k.grows.0 (length p.seen) h.acts h.high h.within_seen h.happen in
      let both : places_of head v q.seen h.acts ++ places_of head v r.seen k.acts ≡ places_of head v r.seen (h.acts ++ k.acts)
      = ap (λ l. l ++ places_of head v r.seen k.acts) (sym kept) ∙ sym (places_then r.seen h.acts k.acts) in
      record {
        acts = h.acts ++ k.acts;
        of_events = map-append (λ (a : Act). a.event) h.acts k.acts ∙ ap₂ ◌++◌ h.of_events k.of_events;
        grows = starts_trans r.seen q.seen p.seen k.grows h.grows;
        high = k.high;
        happen = happen_then r.seen (length p.seen) h.acts h.high (length q.seen) k.acts k.high h.within_seen
            (subst (λ j. HappenFrom head v j (length p.seen) h.acts h.high) (sym k.grows.1) (happen_more q.seen k.grows.0 (length p.seen) h.acts h.high h.within_seen h.happen)) k.happen;
        within_seen = k.within_seen;
        more_found = h.more_found ++ k.more_found;
        found = k.found ∙ (ap (λ l. l ++ k.more_found) h.found ∙ append_assoc p.found h.more_found k.more_found);
        in_found = subst (λ l. IsWithin l (h.more_found ++ k.more_found)) (sym (map-append (λ (a : Act). a.at) h.acts k.acts))
            (within_then (map (λ (a : Act). a.at) h.acts) h.more_found (map (λ (a : Act). a.at) k.acts) k.more_found h.in_found k.in_found);
        share = holds_trans r.share q.share p.share k.share h.share;
        mine = k.mine ∙ (ap (λ l. l ++ places_of head v r.seen k.acts) h.mine ∙ (append_assoc p.mine _ _ ∙ ap (λ l. p.mine ++ l) both));
        places = k.places ∙ (ap (λ l. l ++ places_of head v r.seen k.acts) h.places ∙ (append_assoc P _ _ ∙ ap (λ l. P ++ l) both));
      }

  -- nothing was done
  pub handles_nothing : (p : SessionPass) (P : List ℕ) → Handles head v [] p p P P
  handles_nothing p P = record {
    acts = [];
    of_events = refl;
    grows = starts_itself p.seen;
    high = length p.seen;
    happen = omega arith;
    within_seen = omega arith;
    more_found = [];
    found = sym (append-nil p.found);
    in_found = tt;
    mine = sym (append-nil p.mine);
    share = holds_itself p.share;
    places = sym (append-nil P);
  }

  -- a turn in which nothing was appended
  pub handles_idle : (p q : SessionPass) (P : List ℕ) → Idles p q → Handles head v [] p q P P
  handles_idle p q P t = handles_more [] p p q P P (length t.0 ∷ []) (handles_nothing p P)
      (starts_trans q.seen t.0 p.seen ([], t.1.seen) t.1.goes_on) t.1.found (t.1.mine ∙ append-nil p.mine) (holds_same q.share p.share t.1.share)

  has_end : (base : List Entry) (o : Option Entry) → HasAt (base ++ option_to_list o) (length base) o
  has_end base None = tt
  has_end base (Some e) = got_end base e

  next_low_end : (base : List Entry) (o : Option Entry) → next_low (length base) o ≤ length (base ++ option_to_list o)
  next_low_end base None = omega (arith, length-append base [])
  next_low_end base (Some e) = omega (arith, length-append base (e ∷ []))

  places_end : (n : ℕ) (o : Option Entry) → range_with_len n (length (option_to_list o)) ≡ place_if n o ++ []
  places_end n None = refl
  places_end n (Some e) = refl

  place_end : (base : List Entry) (o : Option Entry) → option_to_list (place_after base o) ≡ place_if (length base) o ++ []
  place_end base None = refl
  place_end base (Some e) = refl

  -- one event, in a turn of its own
  pub handles_one : (event : Event) (p q : SessionPass) (P : List ℕ) (place : Option ℕ) → IsHandled head v event p q place → Handles head v (event ∷ []) p q P (P ++ option_to_list place)
  handles_one event p q P place h =
      let a : Act = record { event = event; at = length h.base } in
      let o : Option Entry = entry_of_event head v event (reached_at head.size h.base (length h.base)) in
      let t = h.turn in
      let same : entry_at head v q.seen a ≡ o
      = ap (λ j. entry_at head v j a) t.seen ∙ entry_at_more h.base (option_to_list o) a (omega arith) in
      record {
        acts = a ∷ [];
        of_events = refl;
        grows = starts_trans q.seen h.base p.seen (option_to_list o, t.seen) t.goes_on;
        high = next_low (length h.base) o;
        happen = (
          length_starts h.base p.seen t.goes_on,
          subst (HasAt q.seen (length h.base)) (sym same) (subst (λ j. HasAt j (length h.base) o) (sym t.seen) (has_end h.base o)),
          subst (λ (x : Option Entry). next_low (length h.base) x ≤ next_low (length h.base) o) (sym same) (omega arith),
        );
        within_seen = subst (λ (j : List Entry). next_low (length h.base) o ≤ length j) (sym t.seen) (next_low_end h.base o);
        more_found = length h.base ∷ [];
        found = t.found;
        in_found = inl (refl, tt);
        share = holds_same q.share p.share t.share;
        mine = t.mine ∙ ap (λ l. p.mine ++ l) (places_end (length h.base) o ∙ ap (λ x. place_if (length h.base) x ++ []) (sym same));
        places = ap (λ l. P ++ l) (ap option_to_list h.place_is ∙ (place_end h.base o ∙ ap (λ x. place_if (length h.base) x ++ []) (sym same)));
      }
