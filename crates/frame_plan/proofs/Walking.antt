-- Loops of the walk: what was walked so far comes to what all comes to.
use Rattle.std.proofs.Common.{◌≡◌, ℕ, zero, suc, ◌+◌, ◌≤◌, List, [], ◌∷◌, ◌++◌, length, map, take, refl, ap, sym, ◌∙◌, subst, arith, append_assoc, append-nil}
use Rattle.std.specs.Prelude.{Bool, true, false, not, ◌||◌, Option, Some, None, slice_get}
use Rattle.px_core.specs.declared.surface.Size.{Size}
use Rattle.px_core.specs.Rectangle.{has_pixel}
use Rattle.caps_sets.specs.declared.confirmed.Confirmed.{Confirmed}
use Rattle.session_rules.specs.Pending.{Pending}
use Rattle.frame_rules.specs.Cautious.{area_of, is_cut, cut, cut_if, cut_by}
use Rattle.frame_rules.specs.Frame.{Walk, Walked, Sent, walked, walked_as, walked_pending, walk_after, sent_from}
use Rattle.frame_plan.specs.declared.walk.Walker.{Walker}
use Rattle.frame_plan.specs.Orders.{sent_as, drawings_in, cache_for, cached_with, cached_of, all_cached, AreChosen}
use Rattle.frame_plan.specs.declared.orders.Planned.{Planned}
use Rattle.frame_plan.specs.Walks.{walk_of, HasDecided, HasGone, HasGoneOver, HasWalkedAll}
use Rattle.frame_plan.specs.Cuts.{AllCuttable, IsCuttable}

-- ---- lists

pub take_get : {A : Type 0} (l : List A) (i : ℕ) (x : A) → slice_get l i ≡ Some x → take (i + 1) l ≡ take i l ++ x ∷ []
take_get [] i x h = absurd (cc h)
take_get (y ∷ l) zero x h = let same : y ≡ x = cc h in ap (λ z. z ∷ []) same
take_get (y ∷ l) (suc i) x h = let one : suc i + 1 ≡ suc (i + 1) = omega arith in ap (λ n. take n (y ∷ l)) one ∙ ap (λ ys. y ∷ ys) (take_get l i x h)

pub take_end : {A : Type 0} (l : List A) (i : ℕ) → length l ≤ i → take i l ≡ l
take_end [] zero h = refl
take_end [] (suc i) h = refl
take_end (x ∷ l) zero h = absurd (omega (arith, h))
take_end (x ∷ l) (suc i) h = ap (λ ys. x ∷ ys) (take_end l i (omega (arith, h)))

pub cuttable_at : (size : Size) (ps : List Pending) (i : ℕ) (p : Pending) → AllCuttable size ps → slice_get ps i ≡ Some p → IsCuttable size p
cuttable_at size [] i p h g = absurd (cc g)
cuttable_at size (q ∷ ps) zero p h g = let same : q ≡ p = cc g in subst (IsCuttable size) same h.0
cuttable_at size (q ∷ ps) (suc i) p h g = cuttable_at size ps i p h.1 g

map_last : {A B : Type 0} (f : A → B) (xs : List A) (x : A) → map f (xs ++ x ∷ []) ≡ map f xs ++ f x ∷ []
map_last f [] x = refl
map_last f (y ∷ ys) x = ap (λ zs. f y ∷ zs) (map_last f ys x)

-- no drawing, and a drawing more, with what it takes of the cache that serves
pub none_chosen : (c : Confirmed) (ps : List Planned) → ps ≡ [] → AreChosen c ps
none_chosen c ps e = subst (AreChosen c) (sym e) refl

pub chosen_more : (c : Confirmed) (ps qs : List Planned) (p : Pending) (q : Planned) (cache : Option ℕ) → cache ≡ cache_for c p p.drawing.shape → q.pending ≡ p
    → q.cached ≡ cached_with cache q.pending.image q.pending.brush → qs ≡ ps ++ q ∷ [] → AreChosen c ps → AreChosen c qs
chosen_more c ps qs p q cache is same e more h =
    let one : q.cached ≡ cached_of c (sent_as q) =
    e ∙ (ap (λ (k : Option ℕ). cached_with k q.pending.image q.pending.brush) is
    ∙ ap (λ (x : Pending). cached_with (cache_for c x x.drawing.shape) q.pending.image q.pending.brush) (sym same)) in
    subst (AreChosen c) (sym more)
    (map_last (λ (x : Planned). x.cached) ps q
    ∙ (ap (λ xs. xs ++ q.cached ∷ []) h
    ∙ (ap (λ x. all_cached c (drawings_in ps) ++ x ∷ []) one
    ∙ sym (ap (all_cached c) (map_last sent_as ps q) ∙ map_last (cached_of c) (drawings_in ps) (sent_as q)))))

-- ---- one drawing

-- where it is walked as it is
pub walks_itself : (size : Size) (c : Confirmed) (w : Walk) (p : Pending) → (not c.cautious || not (is_cut p.drawing.shape)) ≡ true
    → walked_pending size c w p ≡ walked size c w p p.drawing.shape
walks_itself size c w p h = ap (walked_as size c w) (by c.cautious (is_cut p.drawing.shape) refl h)
  where
    by : (a b : Bool) → is_cut p.drawing.shape ≡ b → (not a || not b) ≡ true → cut_if a size p ≡ Some p
    by false b e h = refl
    by true false e h = ap (λ x. cut_by x (has_pixel (area_of size p)) size p) e
    by true true e h = absurd (cc h)

pub both_hold : (a b : Bool) → (not a || not b) ≡ false → (a ≡ true) × (b ≡ true)
both_hold true true h = (refl, refl)
both_hold true false h = absurd (cc h)
both_hold false b h = absurd (cc h)

-- where it is cut
pub when_cut : (size : Size) (c : Confirmed) (w : Walk) (p q : Pending) → c.cautious ≡ true → Some q ≡ cut size p → walked_pending size c w p ≡ walked size c w q q.drawing.shape
when_cut size c w p q h e = ap (λ b. walked_as size c w (cut_if b size p)) h ∙ ap (walked_as size c w) (sym e)

pub passed_over : (size : Size) (c : Confirmed) (old : Walker) (p : Pending) (before : List Sent) → c.cautious ≡ true → None ≡ cut size p
    → HasGone (walked_pending size c (walk_of old) p) before old before
passed_over size c old p before h e =
    let is : walked_pending size c (walk_of old) p ≡ walked_as size c (walk_of old) None = ap (λ b. walked_as size c (walk_of old) (cut_if b size p)) h ∙ ap (walked_as size c (walk_of old)) (sym e) in
    record { walk = ap (λ (w : Walked). w.walk) (sym is); sent = sym (append-nil before) ∙ ap (λ (w : Walked). before ++ w.sent) (sym is) }

pub gone_as : (v w : Walked) (before after : List Sent) (new : Walker) → v ≡ w → HasGone w before new after → HasGone v before new after
gone_as v w before after new e h = subst (λ (u : Walked). HasGone u before new after) (sym e) h

-- what goes as an order was appended
pub gone_nowhere : (w : Walked) (p : Pending) (before after : List Sent) (new : Walker) → HasDecided w p None new → after ≡ before → HasGone w before new after
gone_nowhere w p before after new h e = record { walk = h.walk; sent = e ∙ (sym (append-nil before) ∙ ap (λ ss. before ++ ss) h.sent) }

pub gone_there : (w : Walked) (p : Pending) (q : Planned) (before after : List Planned) (new : Walker) → HasDecided w p (Some q.position) new → q.pending ≡ p
    → after ≡ before ++ q ∷ [] → HasGone w (drawings_in before) new (drawings_in after)
gone_there w p q before after new h e put =
    record {
      walk = h.walk;
      sent = ap drawings_in put ∙ (map_last sent_as before q
          ∙ (ap (λ (x : Pending). drawings_in before ++ record { pending = x; position = q.position } ∷ []) e ∙ ap (λ ss. drawings_in before ++ ss) h.sent));
    }

-- ---- drawings one after the other

module _ (size : Size) (c : Confirmed) where
  walk_parts : (w : Walk) (ps qs : List Pending) → walk_after size c w (ps ++ qs) ≡ walk_after size c (walk_after size c w ps) qs
  walk_parts w [] qs = refl
  walk_parts w (p ∷ ps) qs = walk_parts (walked_pending size c w p).walk ps qs

  sent_parts : (w : Walk) (ps qs : List Pending) → sent_from size c w (ps ++ qs) ≡ sent_from size c w ps ++ sent_from size c (walk_after size c w ps) qs
  sent_parts w [] qs = refl
  sent_parts w (p ∷ ps) qs = let out = walked_pending size c w p in
      ap (λ ss. out.sent ++ ss) (sent_parts out.walk ps qs) ∙ sym (append_assoc out.sent (sent_from size c out.walk ps) (sent_from size c (walk_after size c out.walk ps) qs))

  pub gone_on : (old w new : Walker) (before mid after : List Sent) (ps qs all : List Pending) → HasGoneOver size c old before ps w mid → HasGoneOver size c w mid qs new after → ps ++ qs ≡ all
      → HasGoneOver size c old before all new after
  gone_on old w new before mid after ps qs all h k e =
      let first = sent_from size c (walk_of old) ps in
      subst (λ (xs : List Pending). HasGoneOver size c old before xs new after) e (record {
        walk = k.walk ∙ (ap (λ (v : Walk). walk_after size c v qs) h.walk ∙ sym (walk_parts (walk_of old) ps qs));
        sent = k.sent ∙ (ap (λ (v : Walk). mid ++ sent_from size c v qs) h.walk
            ∙ (ap (λ (ss : List Sent). ss ++ sent_from size c (walk_after size c (walk_of old) ps) qs) h.sent
            ∙ (append_assoc before first (sent_from size c (walk_after size c (walk_of old) ps) qs)
            ∙ ap (λ (ss : List Sent). before ++ ss) (sym (sent_parts (walk_of old) ps qs)))));
      })

  pub gone_one : (w new : Walker) (mid after : List Sent) (p : Pending) → HasGone (walked_pending size c (walk_of w) p) mid new after → HasGoneOver size c w mid (p ∷ []) new after
  gone_one w new mid after p h = record { walk = h.walk; sent = h.sent ∙ ap (λ (ss : List Sent). mid ++ ss) (sym (append-nil (walked_pending size c (walk_of w) p).sent)) }

  pub none_gone : (w : Walker) (before orders : List Sent) (ps : List Pending) → ps ≡ [] → orders ≡ before → HasGoneOver size c w before ps w orders
  none_gone w before orders ps e h =
      subst (λ (xs : List Pending). HasGoneOver size c w before xs w orders) (sym e) (record { walk = refl; sent = h ∙ sym (append-nil before) })

  pub all_gone : (old new : Walker) (ps : List Pending) (orders : List Sent) → HasGoneOver size c old [] ps new orders → HasWalkedAll size c old ps orders new
  all_gone old new ps orders h = record { walk = h.walk; sent = h.sent }
