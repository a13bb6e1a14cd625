-- Bytes that are sent piece by piece.
use Rattle.std.proofs.Common.{◌≡◌, List, [], ℕ, ◌++◌, ap, sym, ◌∙◌, append_assoc}
use Rattle.std.specs.Prelude.{Result, Ok, Err, OnOk, OnErr}
use Rattle.wire_num.specs.Written.{AppendsFront}
use Rattle.wire_num.proofs.Fronts.{front_after}

-- now is old and a front of all, and rest is what is left of all
pub record HasSent (old all now rest : List ℕ) : Type 0 where
  pub sent : List ℕ
  pub whole : all ≡ sent ++ rest
  pub written : now ≡ old ++ sent

pub sent_none : (old all : List ℕ) → old ≡ old ++ [] → HasSent old all old all
sent_none old all h = record { sent = []; whole = λ i. all; written = h }

-- a piece more
pub sent_piece : (old all now rest piece after new : List ℕ) → HasSent old all now rest → new ≡ now ++ piece → rest ≡ piece ++ after → HasSent old all new after
sent_piece old all now rest piece after new h put is = record {
  sent = h.sent ++ piece;
  whole = h.whole ∙ ap (λ r. h.sent ++ r) is ∙ sym (append_assoc h.sent piece after);
  written = put ∙ ap (λ o. o ++ piece) h.written ∙ append_assoc old h.sent piece;
}

-- a front of a piece
pub sent_part : (old all now rest piece after new : List ℕ) → HasSent old all now rest → AppendsFront now piece new → rest ≡ piece ++ after → AppendsFront old all new
sent_part old all now rest piece after new h cut is = record {
  sent = h.sent ++ cut.sent;
  rest = cut.rest ++ after;
  whole = h.whole ∙ ap (λ r. h.sent ++ r) (is ∙ ap (λ p. p ++ after) cut.whole ∙ append_assoc cut.sent cut.rest after) ∙ sym (append_assoc h.sent cut.sent (cut.rest ++ after));
  written = cut.written ∙ ap (λ o. o ++ cut.sent) h.written ∙ append_assoc old h.sent cut.sent;
}

-- the last piece
pub sent_last : (old all now piece new : List ℕ) → HasSent old all now piece → new ≡ now ++ piece → new ≡ old ++ all
sent_last old all now piece new h put = put ∙ ap (λ o. o ++ piece) h.written ∙ append_assoc old h.sent piece ∙ ap (λ r. old ++ r) (sym h.whole)

-- a front of the last piece
pub sent_last_part : (old all now piece new : List ℕ) → HasSent old all now piece → AppendsFront now piece new → AppendsFront old all new
sent_last_part old all now piece new h cut = record {
  sent = h.sent ++ cut.sent;
  rest = cut.rest;
  whole = h.whole ∙ ap (λ r. h.sent ++ r) cut.whole ∙ sym (append_assoc h.sent cut.sent cut.rest);
  written = cut.written ∙ ap (λ o. o ++ cut.sent) h.written ∙ append_assoc old h.sent cut.sent;
}

-- two pieces one after the other, the second by a call
pub both_sent : {A E : Type 0} (r : Result A E) (old a b mid new : List ℕ) → mid ≡ old ++ a → OnOk r (new ≡ mid ++ b) → OnOk r (new ≡ old ++ (a ++ b))
both_sent (Ok v) old a b mid new first second = second ∙ ap (λ m. m ++ b) first ∙ append_assoc old a b
both_sent (Err e) old a b mid new first second = second

pub both_cut : {A E : Type 0} (r : Result A E) (old a b mid new : List ℕ) → mid ≡ old ++ a → OnErr r (AppendsFront mid b new) → OnErr r (AppendsFront old (a ++ b) new)
both_cut (Ok v) old a b mid new first second = second
both_cut (Err e) old a b mid new first second = front_after old a b mid new first second

-- the last piece by a call
pub sent_whole : {A E : Type 0} (r : Result A E) (old all now piece new : List ℕ) → HasSent old all now piece → OnOk r (new ≡ now ++ piece) → OnOk r (new ≡ old ++ all)
sent_whole (Ok v) old all now piece new h put = sent_last old all now piece new h put
sent_whole (Err e) old all now piece new h put = put

pub sent_cut : {A E : Type 0} (r : Result A E) (old all now piece new : List ℕ) → HasSent old all now piece → OnErr r (AppendsFront now piece new) → OnErr r (AppendsFront old all new)
sent_cut (Ok v) old all now piece new h cut = cut
sent_cut (Err e) old all now piece new h cut = sent_last_part old all now piece new h cut
