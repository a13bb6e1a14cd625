-- The bodies of data PDUs, by their kinds.
use Rattle.std.proofs.Common.{◌≡◌, ℕ, ◌+◌, Bool, true, false, cond, List, [], ◌∷◌, length, refl, ap, sym, ◌∙◌, subst, arith}
use Rattle.std.specs.Prelude.{◌==◌, slice_index, Ok, Err, if◌then◌else◌}
use Rattle.std.proofs.lemmas.Bool.Decides.{nat_tests}
use Rattle.byteorder.specs.Endian.{big_number, little_number}
use Rattle.wire_num.specs.Field.{Read, map_read}
use Rattle.wire_num.specs.Layout.{fields_at}
use Rattle.wire_num.specs.Grammar.{IsText}
use Rattle.wire_num.proofs.Steps.{map_ok}
use Rattle.wire_num.proofs.ReadIsText.{read_is_text}
use Rattle.wire_num.proofs.Refused.{map_err, refused}
use Rattle.wire_num.proofs.RefusalIsRead.{refusal_is_read}
use Rattle.share_pdu.specs.declared.client_pdu.ClientPdu.{ClientPdu}
use Rattle.share_pdu.specs.declared.client_pdu.ClientPdu.TheVariants.{Synchronize, Cooperate, Request, FontList, KeyList, Input, Refresh, Suppress, Shutdown, Other}
use Rattle.share_pdu.specs.Bodies.{synchronize_body, is_client_action, control_body, pdu_of_action, suppress_body, is_stop, passed_refresh_at}
use Rattle.share_pdu.specs.ClientPdu.{last_bytes, data_body_at}
use Rattle.share_pdu.specs.Grammar.{Kind, ControlKind, InputKind, SynchronizeKind, RefreshKind, SuppressKind, ShutdownKind, FontListKind, KeyListKind, OtherKind, kind_of, LiesBehind, HasBody, Says}
use Rattle.share_pdu.specs.Faults.{HasBadBody}
use Rattle.share_pdu.proofs.Rects.{passed_ok, passed_err, passed_bad}

-- ---- reading by the kind

abbrev pub body_by : Kind → ℕ → List ℕ → Read ClientPdu
body_by ControlKind total bs = map_read (λ values. pdu_of_action (slice_index values 0)) (fields_at control_body bs)
body_by InputKind total bs = Ok (Input (last_bytes total bs), bs)
body_by SynchronizeKind total bs = map_read (λ _. Synchronize) (fields_at synchronize_body bs)
body_by RefreshKind total bs = map_read (λ _. Refresh (last_bytes total bs)) (passed_refresh_at bs)
body_by SuppressKind total bs = map_read (λ values. Suppress (is_stop values)) (fields_at suppress_body bs)
body_by ShutdownKind total bs = Ok (Shutdown, bs)
body_by FontListKind total bs = Ok (FontList, bs)
body_by KeyListKind total bs = Ok (KeyList, bs)
body_by OtherKind total bs = Ok (Other, bs)

abbrev kind_by : Bool → Bool → Bool → Bool → Bool → Bool → Bool → Bool → Kind
kind_by a b c d e f g h =
    if a then ControlKind
    else (if b then InputKind
    else (if c then SynchronizeKind
    else (if d then RefreshKind
    else (if e then SuppressKind
    else (if f then ShutdownKind
    else (if g then FontListKind
    else (if h then KeyListKind
    else OtherKind)))))))

abbrev read_by : Bool → Bool → Bool → Bool → Bool → Bool → Bool → Bool → ℕ → List ℕ → Read ClientPdu
read_by a b c d e f g h total bs =
    if a then body_by ControlKind total bs
    else (if b then body_by InputKind total bs
    else (if c then body_by SynchronizeKind total bs
    else (if d then body_by RefreshKind total bs
    else (if e then body_by SuppressKind total bs
    else (if f then body_by ShutdownKind total bs
    else (if g then body_by FontListKind total bs
    else (if h then body_by KeyListKind total bs
    else body_by OtherKind total bs)))))))

same_kind : (a b c d e f g h : Bool) (total : ℕ) (bs : List ℕ) → read_by a b c d e f g h total bs ≡ body_by (kind_by a b c d e f g h) total bs
same_kind true b c d e f g h total bs = refl
same_kind false true c d e f g h total bs = refl
same_kind false false true d e f g h total bs = refl
same_kind false false false true e f g h total bs = refl
same_kind false false false false true f g h total bs = refl
same_kind false false false false false true g h total bs = refl
same_kind false false false false false false true h total bs = refl
same_kind false false false false false false false true total bs = refl
same_kind false false false false false false false false total bs = refl

pub by_its_kind : (number total : ℕ) (bs : List ℕ) → data_body_at number total bs ≡ body_by (kind_of number) total bs
unfolding data_body_at
by_its_kind n total bs =
    same_kind (n == 0x14) (n == 0x1C) (n == 0x1F) (n == 0x21) (n == 0x23) (n == 0x24) (n == 0x27) (n == 0x2B) total bs

-- ---- values of bodies

record ActionRead (bs values : List ℕ) : Type 0 where
  action : ℕ
  are : values ≡ action ∷ []
  of_client : is_client_action action ≡ true

action_read : (bs values more : List ℕ) → IsText control_body bs values more → ActionRead bs values
unfolding control_body
action_read bs values more t = record {
  action = little_number 2 t.0;
  are = t.6 ∙ ap (λ xs. little_number 2 t.0 ∷ xs) t.7.4.4.0;
  of_client = t.4;
}

allow_read : (bs values more : List ℕ) → IsText suppress_body bs values more → (allow : ℕ) × (values ≡ allow ∷ [])
unfolding suppress_body
allow_read bs values more t = (big_number 1 t.0, t.6 ∙ ap (λ xs. big_number 1 t.0 ∷ xs) t.7.4.0)

no_values : (bs values more : List ℕ) → IsText synchronize_body bs values more → values ≡ []
unfolding synchronize_body
no_values bs values more t = t.2.4.0

-- ---- a body that was read

place_behind : (pdu body : List ℕ) → length pdu ≡ 18 + length body → LiesBehind 18 pdu (last_bytes (length pdu) body)
place_behind pdu body n = (omega (arith, n), refl)

control_says : (pdu body values more : List ℕ) (action : ℕ) (b : Bool) → (action == 4) ≡ b → is_client_action action ≡ true → HasBody pdu ControlKind body
    → IsText control_body body values more → values ≡ action ∷ [] → Says pdu (cond b Cooperate Request)
control_says pdu body values more action true e c has t v =
    let four : action ≡ 4 = grind (arith, nat_tests, e) in
    record { body = body; more = more; has = has; fields = subst (λ vs. IsText control_body body vs more) (v ∙ ap (λ n. n ∷ []) four) t }
control_says pdu body values more action false e c has t v =
    let one : action ≡ 1 = grind (arith, nat_tests, e, c) in
    record { body = body; more = more; has = has; fields = subst (λ vs. IsText control_body body vs more) (v ∙ ap (λ n. n ∷ []) one) t }

pub body_says : (kind : Kind) (pdu body : List ℕ) (y : ClientPdu × List ℕ) → HasBody pdu kind body → length pdu ≡ 18 + length body
    → body_by kind (length pdu) body ≡ Ok y → Says pdu y.0
body_says ControlKind pdu body y has n e =
    let m = map_ok (λ values. pdu_of_action (slice_index values 0)) (fields_at control_body body) y e in
    let t = read_is_text control_body body m.0.0 m.0.1 m.1 in
    let a = action_read body m.0.0 m.0.1 t in
    subst (Says pdu) (sym (ap (λ vs. pdu_of_action (slice_index vs 0)) a.are) ∙ m.2)
    (control_says pdu body m.0.0 m.0.1 a.action (a.action == 4) refl a.of_client has t a.are)
body_says InputKind pdu body y has n e =
    let same : (Input (last_bytes (length pdu) body), body) ≡ y = cc in
    subst (Says pdu) (ap (λ p. p.0) same) ((body, has), place_behind pdu body n)
body_says SynchronizeKind pdu body y has n e =
    let m = map_ok (λ _. Synchronize) (fields_at synchronize_body body) y e in
    let t = read_is_text synchronize_body body m.0.0 m.0.1 m.1 in
    subst (Says pdu) m.2 (record { body = body; more = m.0.1; has = has; fields = subst (λ vs. IsText synchronize_body body vs m.0.1) (no_values body m.0.0 m.0.1 t) t })
body_says RefreshKind pdu body y has n e =
    let m = map_ok (λ _. Refresh (last_bytes (length pdu) body)) (passed_refresh_at body) y e in
    let r = passed_ok body m.0 m.1 in
    subst (Says pdu) m.2 (record { body = body; areas = r.0; has = has; fields = r.1; fills = place_behind pdu body n })
body_says SuppressKind pdu body y has n e =
    let m = map_ok (λ values. Suppress (is_stop values)) (fields_at suppress_body body) y e in
    let t = read_is_text suppress_body body m.0.0 m.0.1 m.1 in
    let a = allow_read body m.0.0 m.0.1 t in
    subst (Says pdu) m.2 (record {
      allow = a.0;
      body = body;
      more = m.0.1;
      has = has;
      fields = subst (λ vs. IsText suppress_body body vs m.0.1) a.1 t;
      says = ap is_stop a.1;
    })
body_says ShutdownKind pdu body y has n e = let same : (Shutdown, body) ≡ y = cc in subst (Says pdu) (ap (λ p. p.0) same) (body, has)
body_says FontListKind pdu body y has n e = let same : (FontList, body) ≡ y = cc in subst (Says pdu) (ap (λ p. p.0) same) (body, has)
body_says KeyListKind pdu body y has n e = let same : (KeyList, body) ≡ y = cc in subst (Says pdu) (ap (λ p. p.0) same) (body, has)
body_says OtherKind pdu body y has n e = let same : (Other, body) ≡ y = cc in subst (Says pdu) (ap (λ p. p.0) same) (body, has)

-- ---- a body that is refused

pub body_bad : (kind : Kind) (total : ℕ) (body left : List ℕ) → body_by kind total body ≡ Err left → HasBadBody kind body left
body_bad ControlKind total body left e = refused control_body body left (map_err (λ values. pdu_of_action (slice_index values 0)) (fields_at control_body body) left e)
body_bad InputKind total body left e = let h : ⊥ = cc in h
body_bad SynchronizeKind total body left e = refused synchronize_body body left (map_err (λ _. Synchronize) (fields_at synchronize_body body) left e)
body_bad RefreshKind total body left e = passed_err body left (map_err (λ _. Refresh (last_bytes total body)) (passed_refresh_at body) left e)
body_bad SuppressKind total body left e = refused suppress_body body left (map_err (λ values. Suppress (is_stop values)) (fields_at suppress_body body) left e)
body_bad ShutdownKind total body left e = let h : ⊥ = cc in h
body_bad FontListKind total body left e = let h : ⊥ = cc in h
body_bad KeyListKind total body left e = let h : ⊥ = cc in h
body_bad OtherKind total body left e = let h : ⊥ = cc in h

abbrev pub no_body : List ℕ → Read ClientPdu
no_body left = Err left

pub bad_body : (kind : Kind) (total : ℕ) (body left : List ℕ) → HasBadBody kind body left → body_by kind total body ≡ no_body left
bad_body ControlKind total body left bad = ap (map_read (λ values. pdu_of_action (slice_index values 0))) (refusal_is_read control_body body left bad)
bad_body InputKind total body left bad = absurd bad
bad_body SynchronizeKind total body left bad = ap (map_read (λ _. Synchronize)) (refusal_is_read synchronize_body body left bad)
bad_body RefreshKind total body left bad = ap (map_read (λ _. Refresh (last_bytes total body))) (passed_bad body left bad)
bad_body SuppressKind total body left bad = ap (map_read (λ values. Suppress (is_stop values))) (refusal_is_read suppress_body body left bad)
bad_body ShutdownKind total body left bad = absurd bad
bad_body FontListKind total body left bad = absurd bad
bad_body KeyListKind total body left bad = absurd bad
bad_body OtherKind total body left bad = absurd bad
