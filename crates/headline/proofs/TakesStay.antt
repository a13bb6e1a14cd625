-- Takes that follow each other, over a journal that goes on after the last of them.
use Rattle.std.proofs.Common.{◌≡◌, ℕ, ◌≤◌, List, [], ◌∷◌, ◌++◌, length, refl, ap, ap₂, ◌∙◌, arith}
use Rattle.px_core.specs.declared.surface.Size.{Size}
use Rattle.caps_sets.specs.declared.confirmed.Confirmed.{Confirmed}
use Rattle.session_rules.specs.declared.entry.Entry.{Entry}
use Rattle.session_rules.specs.Steps.{TakeOf, TakesFollow}
use Rattle.session_rules.proofs.Takes.{TakesFollow-≤}
use Rattle.frame_rules.specs.Encoder.{Encoder, encoder_after, bytes_of_takes, pointed_of_takes, encoder_after_takes}
use Rattle.frame_rules.proofs.FrameLaws.{take_bytes-append, pointed_bytes-append, encoder_after-append}

-- the first of takes that follow each other ends within what the last one found
record FirstWithin (j : List Entry) (t : TakeOf) : Type 0 where
  up : t.before ≤ t.number
  within : t.number ≤ length j

first_within : (j : List Entry) (t : TakeOf) (ts : List TakeOf) (from last : ℕ) → TakesFollow from (t ∷ ts) last → last ≤ length j → FirstWithin j t
first_within j t ts from last follow within = record {
  up = omega (arith, follow.0, follow.1);
  within = omega (arith, within, TakesFollow-≤ t.number last ts follow.2);
}

pub encoder_stays : (size : Size) (c : Confirmed) (j more : List Entry) (e : Encoder) (ts : List TakeOf) (from last : ℕ) → TakesFollow from ts last
    → last ≤ length j → encoder_after_takes size c (j ++ more) e ts ≡ encoder_after_takes size c j e ts
encoder_stays size c j more e [] from last follow within = refl
encoder_stays size c j more e (t ∷ ts) from last follow within =
    let first = first_within j t ts from last follow within in
    ap (λ next. encoder_after_takes size c (j ++ more) next ts) (encoder_after-append size c j more e t first.up first.within)
    ∙ encoder_stays size c j more (encoder_after size c j e t) ts t.number last follow.2 within

pub bytes_stay : (size : Size) (c : Confirmed) (j more : List Entry) (e : Encoder) (ts : List TakeOf) (from last : ℕ) → TakesFollow from ts last
    → last ≤ length j → bytes_of_takes size c (j ++ more) e ts ≡ bytes_of_takes size c j e ts
bytes_stay size c j more e [] from last follow within = refl
bytes_stay size c j more e (t ∷ ts) from last follow within =
    let first = first_within j t ts from last follow within in
    ap₂ (λ (bytes : List ℕ) (later : List (List ℕ)). bytes ∷ later) (take_bytes-append size c j more e t first.up first.within)
    (ap (λ next. bytes_of_takes size c (j ++ more) next ts) (encoder_after-append size c j more e t first.up first.within)
    ∙ bytes_stay size c j more (encoder_after size c j e t) ts t.number last follow.2 within)

pub pointed_stay : (size : Size) (c : Confirmed) (j more : List Entry) (e : Encoder) (ts : List TakeOf) (from last : ℕ) → TakesFollow from ts last
    → last ≤ length j → pointed_of_takes size c (j ++ more) e ts ≡ pointed_of_takes size c j e ts
pointed_stay size c j more e [] from last follow within = refl
pointed_stay size c j more e (t ∷ ts) from last follow within =
    let first = first_within j t ts from last follow within in
    ap₂ (λ (bytes : List ℕ) (later : List (List ℕ)). bytes ∷ later) (pointed_bytes-append size c j more e t first.up first.within)
    (ap (λ next. pointed_of_takes size c (j ++ more) next ts) (encoder_after-append size c j more e t first.up first.within)
    ∙ pointed_stay size c j more (encoder_after size c j e t) ts t.number last follow.2 within)
