-- Bytes heard one stretch after another.
use Rattle.std.proofs.Common.{◌≡◌, ℕ, List, [], ◌∷◌, ◌++◌, length, take, drop, refl, ap, sym, ◌∙◌, subst, append_assoc, append-nil, arith}
use Rattle.std.proofs.lemmas.List.{take-append-drop}
use Rattle.wire_num.proofs.Fronts.{front_before, front_after}
use Rattle.conn_rules.specs.declared.conn_step.ConnStep.{ConnStep}
use Rattle.conn_rules.specs.Hearing.{Hearing, Heard, silent, then_heard, heard}
use Rattle.conn_rules.proofs.Pieces.{heard_then, then_assoc}
use Rattle.conn_core.specs.Feeds.{Appends, AppendsSome}
use Rattle.conn_core.proofs.Fronts.{none_sent, none_told, told_before, told_after}
use Rattle.conn_core.proofs.Part.{then_silent, silence}
use Rattle.conn_core.specs.declared.talk.Talk.{Talk}
use Rattle.conn_core.specs.Stream.{hearing, part_heard, IsStanding}

abbrev heard_with : List ℕ → List ConnStep → Hearing → Heard
heard_with replies steps after = record { replies = replies; steps = steps; after = after }

-- nothing was appended
pub none_heard : (x : Heard) (out : List ℕ) (steps : List ConnStep) → AppendsSome x out out steps steps
none_heard x out steps = record { written = none_sent out x.replies; given = none_told steps x.steps }

pub nothing_heard : (h : Hearing) (out : List ℕ) (steps : List ConnStep) → Appends (silent h) out out steps steps
nothing_heard h out steps = record { written = sym (append-nil out); given = sym (append-nil steps) }

-- a front of what is heard first
pub first_heard : (a b : Heard) (out new_out : List ℕ) (steps new_steps : List ConnStep) → AppendsSome a out new_out steps new_steps → AppendsSome (then_heard a b) out new_out steps new_steps
first_heard a b out new_out steps new_steps s = record {
  written = front_before out a.replies b.replies new_out s.written;
  given = told_before steps a.steps b.steps new_steps s.given;
}

-- bytes cut in two
pub cut_in_two : (h : Hearing) (bytes : List ℕ) (n : ℕ) → heard h bytes ≡ then_heard (heard h (take n bytes)) (heard (heard h (take n bytes)).after (drop n bytes))
cut_in_two h bytes n = ap (heard h) (sym (take-append-drop n bytes)) ∙ heard_then h (take n bytes) (drop n bytes)

pub front_heard : (h : Hearing) (bytes : List ℕ) (n : ℕ) (out new_out : List ℕ) (steps new_steps : List ConnStep)
    → AppendsSome (heard h (take n bytes)) out new_out steps new_steps → AppendsSome (heard h bytes) out new_out steps new_steps
front_heard h bytes n out new_out steps new_steps s =
    let first = heard h (take n bytes) in
    subst (λ x. AppendsSome x out new_out steps new_steps) (sym (cut_in_two h bytes n))
    (first_heard first (heard first.after (drop n bytes)) out new_out steps new_steps s)

-- what was heard so far, and what is heard of the bytes that are left, is the whole
pub record HearsSoFar (old : Hearing) (bytes : List ℕ) (now : Hearing) (left out now_out : List ℕ) (steps now_steps : List ConnStep) : Type 0 where
  pub replies : List ℕ
  pub told : List ConnStep
  pub same : heard old bytes ≡ then_heard (heard_with replies told now) (heard now left)
  pub written : now_out ≡ out ++ replies
  pub given : now_steps ≡ steps ++ told

pub hears_start : (h : Hearing) (bytes out : List ℕ) (steps : List ConnStep) → HearsSoFar h bytes h bytes out out steps steps
hears_start h bytes out steps = record { replies = []; told = []; same = refl; written = sym (append-nil out); given = sym (append-nil steps) }

pub hears_more : (old : Hearing) (bytes : List ℕ) (now : Hearing) (left out now_out new_out : List ℕ) (steps now_steps new_steps : List ConnStep) (n : ℕ) (after : Hearing)
    → HearsSoFar old bytes now left out now_out steps now_steps → after ≡ (heard now (take n left)).after → Appends (heard now (take n left)) now_out new_out now_steps new_steps
    → HearsSoFar old bytes after (drop n left) out new_out steps new_steps
hears_more old bytes now left out now_out new_out steps now_steps new_steps n after s e a =
    let x = heard now (take n left) in
    let before = heard_with s.replies s.told now in
    record {
      replies = s.replies ++ x.replies;
      told = s.told ++ x.steps;
      same = s.same ∙ ap (then_heard before) (cut_in_two now left n) ∙ then_assoc before x (heard x.after (drop n left))
          ∙ ap (λ h. then_heard (heard_with (s.replies ++ x.replies) (s.told ++ x.steps) h) (heard h (drop n left))) (sym e);
      written = a.written ∙ ap (λ xs. xs ++ x.replies) s.written ∙ append_assoc out s.replies x.replies;
      given = a.given ∙ ap (λ xs. xs ++ x.steps) s.given ∙ append_assoc steps s.told x.steps;
    }

abbrev whole_is : (old : Hearing) (bytes : List ℕ) (now : Hearing) (left out now_out : List ℕ) (steps now_steps : List ConnStep) (s : HearsSoFar old bytes now left out now_out steps now_steps) → heard now left ≡ silent now
    → heard old bytes ≡ heard_with s.replies s.told now
whole_is old bytes now left out now_out steps now_steps s e =
    let before = heard_with s.replies s.told now in
    s.same ∙ ap (then_heard before) e ∙ then_silent before

-- all is heard
pub hears_all : (old : Hearing) (bytes : List ℕ) (now : Hearing) (left out now_out : List ℕ) (steps now_steps : List ConnStep) → HearsSoFar old bytes now left out now_out steps now_steps → heard now left ≡ silent now
    → (now ≡ (heard old bytes).after) × Appends (heard old bytes) out now_out steps now_steps
hears_all old bytes now left out now_out steps now_steps s e =
    let w : heard old bytes ≡ heard_with s.replies s.told now = whole_is old bytes now left out now_out steps now_steps s e in (
      ap (λ x. x.after) (sym w),
      record { written = s.written ∙ ap (λ (x : Heard). out ++ x.replies) (sym w); given = s.given ∙ ap (λ (x : Heard). steps ++ x.steps) (sym w) },
    )

-- memory was wanting
pub hears_some : (old : Hearing) (bytes : List ℕ) (now : Hearing) (left out now_out new_out : List ℕ) (steps now_steps new_steps : List ConnStep)
    → HearsSoFar old bytes now left out now_out steps now_steps → AppendsSome (heard now left) now_out new_out now_steps new_steps → AppendsSome (heard old bytes) out new_out steps new_steps
hears_some old bytes now left out now_out new_out steps now_steps new_steps s a =
    let x = heard now left in
    subst (λ y. AppendsSome y out new_out steps new_steps) (sym s.same) (record {
      written = front_after out s.replies x.replies now_out new_out s.written a.written;
      given = told_after steps s.told x.steps now_steps new_steps s.given a.given;
    })

-- a part of a packet with more bytes behind it
pub heard_of_part : (talk : Talk) (part chunk bytes : List ℕ) → bytes ≡ part ++ chunk → part_heard talk bytes ≡ heard (hearing talk part) chunk
unfolding heard
heard_of_part talk part chunk bytes e = ap (λ (xs : List ℕ). part_heard talk xs) e

-- nothing is left to hear
pub hears_end : (h : Hearing) (left : List ℕ) → length left ≡ 0 → IsStanding h → heard h left ≡ silent h
hears_end h [] e s = silence h s
hears_end h (b ∷ bs) e s = absurd (omega (arith, e))
