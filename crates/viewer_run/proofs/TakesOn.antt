-- Takes after takes, and takes over a journal that goes on.
use Rattle.std.proofs.Common.{◌≡◌, ℕ, ◌≤◌, List, [], ◌∷◌, ◌++◌, length, refl, sym, ap, ap₂, ◌∙◌, subst, arith, append_assoc}
use Rattle.px_core.specs.declared.surface.Size.{Size}
use Rattle.caps_sets.specs.declared.confirmed.Confirmed.{Confirmed}
use Rattle.session_rules.specs.declared.entry.Entry.{Entry}
use Rattle.session_rules.specs.Journal.{Head, Reached, is_present}
use Rattle.session_rules.specs.Steps.{TakeOf, TakesFollow}
use Rattle.session_rules.proofs.Journals.{reached_at-append}
use Rattle.frame_rules.specs.FrameBytes.{joined_bytes}
use Rattle.frame_rules.specs.Encoder.{Encoder, pointed_bytes, encoder_after, pointed_of_takes, encoder_after_takes}
use Rattle.frame_rules.proofs.FrameLaws.{pointed_bytes-append, encoder_after-append}
use Rattle.grow_lock.specs.Journal.{StartsWith}
use Rattle.viewer_run.specs.Sending.{AtLeast, HaveWork, IsPresentAtEach}

pub follow_up : (from : ℕ) (ts : List TakeOf) (to : ℕ) → TakesFollow from ts to → from ≤ to
follow_up from [] to h = omega (arith, h)
follow_up from (t ∷ ts) to h = omega (arith, h.1, follow_up t.number ts to h.2)

-- takes that follow others
pub follow_then : (from : ℕ) (ts us : List TakeOf) (mid last : ℕ) → TakesFollow from ts mid → TakesFollow mid us last → TakesFollow from (ts ++ us) last
follow_then from [] us mid last h k = subst (λ (n : ℕ). TakesFollow n us last) (sym h) k
follow_then from (t ∷ ts) us mid last h k = (h.0, h.1, follow_then t.number ts us mid last h.2 k)

pub at_least_lower : (low less : ℕ) (ts : List TakeOf) → less ≤ low → AtLeast low ts → AtLeast less ts
at_least_lower low less [] le h = tt
at_least_lower low less (t ∷ ts) le h = (omega (arith, le, h.0), at_least_lower low less ts le h.1)

pub at_least_then : (low : ℕ) (ts us : List TakeOf) → AtLeast low ts → AtLeast low us → AtLeast low (ts ++ us)
at_least_then low [] us h k = k
at_least_then low (t ∷ ts) us h k = (h.0, at_least_then low ts us h.1 k)

pub work_then : (size : Size) (ts us : List TakeOf) → HaveWork size ts → HaveWork size us → HaveWork size (ts ++ us)
work_then size [] us h k = k
work_then size (t ∷ ts) us h k = (h.0, work_then size ts us h.1 k)

-- who is present at takes, and at those behind them
pub present_then : (head : Head) (v : ℕ) (j : List Entry) (ts us : List TakeOf) → IsPresentAtEach head v j ts → IsPresentAtEach head v j us → IsPresentAtEach head v j (ts ++ us)
present_then head v j [] us h k = k
present_then head v j (t ∷ ts) us h k = (h.0, present_then head v j ts us h.1 k)

present_goes_on : (head : Head) (v : ℕ) (j more : List Entry) (ts : List TakeOf) (from last : ℕ) → TakesFollow from ts last → last ≤ length j
    → IsPresentAtEach head v j ts → IsPresentAtEach head v (j ++ more) ts
present_goes_on head v j more [] from last follow within h = tt
present_goes_on head v j more (t ∷ ts) from last follow within h =
    let below : t.number ≤ length j = omega (arith, within, follow_up t.number ts last follow.2) in (
      ap (λ (r : Reached). is_present v r.viewers) (reached_at-append head.size j more t.number below) ∙ h.0,
      present_goes_on head v j more ts t.number last follow.2 within h.1,
    )

-- who is present at takes is so as the journal goes on after the last of them
pub present_stays : (head : Head) (v : ℕ) (whole j : List Entry) (ts : List TakeOf) (from last : ℕ) → TakesFollow from ts last → last ≤ length j → StartsWith whole j
    → IsPresentAtEach head v j ts → IsPresentAtEach head v whole ts
present_stays head v whole j ts from last follow within grows h =
    subst (λ (l : List Entry). IsPresentAtEach head v l ts) (sym grows.1) (present_goes_on head v j grows.0 ts from last follow within h)

pub joined_then : (xs ys : List (List ℕ)) → joined_bytes (xs ++ ys) ≡ joined_bytes xs ++ joined_bytes ys
joined_then [] ys = refl
joined_then (x ∷ xs) ys = ap (λ bs. x ++ bs) (joined_then xs ys) ∙ sym (append_assoc x (joined_bytes xs) (joined_bytes ys))

module _ (size : Size) (c : Confirmed) where
  pub pointed_then : (j : List Entry) (e : Encoder) (ts us : List TakeOf)
      → pointed_of_takes size c j e (ts ++ us) ≡ pointed_of_takes size c j e ts ++ pointed_of_takes size c j (encoder_after_takes size c j e ts) us
  pointed_then j e [] us = refl
  pointed_then j e (t ∷ ts) us = ap (λ (later : List (List ℕ)). pointed_bytes size c j e t ∷ later) (pointed_then j (encoder_after size c j e t) ts us)

  pub encoder_then : (j : List Entry) (e : Encoder) (ts us : List TakeOf)
      → encoder_after_takes size c j e (ts ++ us) ≡ encoder_after_takes size c j (encoder_after_takes size c j e ts) us
  encoder_then j e [] us = refl
  encoder_then j e (t ∷ ts) us = encoder_then j (encoder_after size c j e t) ts us

  -- what is sent for takes that follow each other, and the encoder after them, stay as the journal goes on after the last of them
  pub pointed_stay : (j more : List Entry) (e : Encoder) (ts : List TakeOf) (from last : ℕ) → TakesFollow from ts last → last ≤ length j
      → pointed_of_takes size c (j ++ more) e ts ≡ pointed_of_takes size c j e ts
  pointed_stay j more e [] from last follow within = refl
  pointed_stay j more e (t ∷ ts) from last follow within =
      let up : t.before ≤ t.number = omega (arith, follow.0, follow.1) in
      let below : t.number ≤ length j = omega (arith, within, follow_up t.number ts last follow.2) in
      ap₂ (λ (bytes : List ℕ) (later : List (List ℕ)). bytes ∷ later) (pointed_bytes-append size c j more e t up below)
      (ap (λ (next : Encoder). pointed_of_takes size c (j ++ more) next ts) (encoder_after-append size c j more e t up below)
      ∙ pointed_stay j more (encoder_after size c j e t) ts t.number last follow.2 within)

  pub encoder_stays : (j more : List Entry) (e : Encoder) (ts : List TakeOf) (from last : ℕ) → TakesFollow from ts last → last ≤ length j
      → encoder_after_takes size c (j ++ more) e ts ≡ encoder_after_takes size c j e ts
  encoder_stays j more e [] from last follow within = refl
  encoder_stays j more e (t ∷ ts) from last follow within =
      let up : t.before ≤ t.number = omega (arith, follow.0, follow.1) in
      let below : t.number ≤ length j = omega (arith, within, follow_up t.number ts last follow.2) in
      ap (λ (next : Encoder). encoder_after_takes size c (j ++ more) next ts) (encoder_after-append size c j more e t up below)
      ∙ encoder_stays j more (encoder_after size c j e t) ts t.number last follow.2 within
