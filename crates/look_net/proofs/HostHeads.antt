-- Heads of a host's bytes, as packets of the fast path are awaited or not.
use Rattle.std.proofs.Common.{◌≡◌, ◌≤◌, ◌<◌, ◌+◌, ◌*◌, ◌-◌, ◌%◌, ℕ, zero, suc, Bool, true, false, List, [], ◌∷◌, ◌++◌, length, take, refl, ap, sym, ◌∙◌, subst, inl, inr, arith}
use Rattle.std.specs.Prelude.{◌==◌, ◌≢◌, nat_lt, slice_index, if◌then◌else◌}
use Rattle.std.proofs.lemmas.Bool.Decides.{nat_tests}
use Rattle.std.proofs.Math.Seq.{take-length}
use Rattle.caps_sets.specs.declared.confirmed.Confirmed.{Confirmed}
use Rattle.caps_sets.specs.Confirmed.{takes_fast}
use Rattle.tpkt_x224.specs.declared.tpkt.Packet.{Packet}
use Rattle.tpkt_x224.specs.declared.tpkt.Packet.TheVariants.{Whole, Part, NotTpkt, BadLength}
use Rattle.tpkt_x224.specs.Tpkt.{packet_at}
use Rattle.tpkt_x224.proofs.Heads.{version_head, length_head}
use Rattle.fast_path.specs.Heads.{IsCounted as IsFastCounted, IsCountedLong, packet_of_size, after_long, after_action, fast_packet_at, stream_packet_at, is_fast}
use Rattle.fast_path.proofs.Heads.{by_short, by_long, which, action_never}
use Rattle.fast_path.proofs.Mixed.{at_tpkt as stream_tpkt, at_fast as stream_fast}
use Rattle.viewer_rules.specs.declared.stage.Stage.{Stage}
use Rattle.viewer_rules.specs.declared.stage.Stage.TheVariants as stage
use Rattle.update_read.specs.Cutters.{fast_length, length_by}
use Rattle.update_read.specs.Wholes.{IsCounted, IsFastWhole, IsWholePacket}
use Rattle.viewer_rules.specs.HostStream.{host_packet_at, IsHostPacket}
use Rattle.viewer_rules.specs.ViewerHandshake.{awaits_fast}
use Rattle.viewer_rules.proofs.HostStream.{host_whole, Kind, kind, Tpkt, Fast, Other, at_tpkt, at_fast, at_other, same_head}
use Rattle.look_net.specs.Watches.{is_shown}

-- ---- by the first byte

pub no_head : (fast : Bool) (bytes : List ℕ) → length bytes ≡ 0 → host_packet_at fast bytes ≡ Part
no_head fast [] e = refl
no_head fast (v ∷ bs) e = absurd (omega (arith, e))

pub slow_head : (fast : Bool) (bytes : List ℕ) → slice_index bytes 0 ≢ 0 → host_packet_at fast bytes ≡ packet_at bytes
slow_head fast [] n = refl
slow_head fast (v ∷ bs) n = elim (kind fast v) [
  | Tpkt t ↦ at_tpkt fast v bs t
  | Fast f z ↦ absurd (n z)
  | Other t f ↦ at_other fast v bs t f ∙ sym ((version_head (v ∷ bs)).1 t)
]

pub fast_head : (bytes : List ℕ) → length bytes ≢ 0 → slice_index bytes 0 ≡ 0 → host_packet_at true bytes ≡ fast_packet_at bytes
fast_head [] n e = absurd (n refl)
fast_head (v ∷ bs) n e = let zero_is : v ≡ 0 = e in at_fast true v bs refl zero_is

pub early_head : (bytes : List ℕ) → length bytes ≢ 0 → slice_index bytes 0 ≡ 0 → host_packet_at false bytes ≡ NotTpkt
early_head [] n e = absurd (n refl)
early_head (v ∷ bs) n e = let zero_is : v ≡ 0 = e in let three : v ≢ 3 = λ t. omega (arith, zero_is, t) in at_other false v bs three refl

-- where no byte of another packet stands first, it is so in a stream of both kinds
pub stream_of : (fast : Bool) (bytes : List ℕ) (p : Packet) → host_packet_at fast bytes ≡ p → (p ≡ NotTpkt → ⊥) → stream_packet_at bytes ≡ p
stream_of fast [] p e other = e
stream_of fast (v ∷ bs) p e other = elim (kind fast v) [
  | Tpkt t ↦ stream_tpkt v bs t ∙ (sym (at_tpkt fast v bs t) ∙ e)
  | Fast f z ↦ let action : v % 4 ≡ 0 = omega (arith, z) in stream_fast v bs action ∙ (sym (at_fast fast v bs f z) ∙ e)
  | Other t f ↦ absurd (other (sym e ∙ at_other fast v bs t f))
]

-- what is awaited is what the client takes, or less
pub awaited_head : (c : Confirmed) (here : Stage) (bytes : List ℕ) (p : Packet) → host_packet_at (awaits_fast c here) bytes ≡ p → (p ≡ NotTpkt → ⊥) → host_packet_at (takes_fast c) bytes ≡ p
awaited_head c stage.Confirm bytes p e other = same_head (takes_fast c) bytes p e other
awaited_head c stage.Response bytes p e other = same_head (takes_fast c) bytes p e other
awaited_head c stage.Attach bytes p e other = same_head (takes_fast c) bytes p e other
awaited_head c (stage.Joins user which) bytes p e other = same_head (takes_fast c) bytes p e other
awaited_head c (stage.Licence user) bytes p e other = same_head (takes_fast c) bytes p e other
awaited_head c (stage.Demand user) bytes p e other = same_head (takes_fast c) bytes p e other
awaited_head c (stage.Finish user which) bytes p e other = same_head (takes_fast c) bytes p e other
awaited_head c stage.Shown bytes p e other = e
awaited_head c stage.Over bytes p e other = same_head (takes_fast c) bytes p e other
awaited_head c (stage.Refused at) bytes p e other = same_head (takes_fast c) bytes p e other

-- before the Font Map none of the fast path is awaited
pub none_awaited : (c : Confirmed) (here : Stage) → is_shown here ≡ false → awaits_fast c here ≡ false
none_awaited c stage.Confirm e = refl
none_awaited c stage.Response e = refl
none_awaited c stage.Attach e = refl
none_awaited c (stage.Joins user which) e = refl
none_awaited c (stage.Licence user) e = refl
none_awaited c (stage.Demand user) e = refl
none_awaited c (stage.Finish user which) e = refl
none_awaited c stage.Shown e = absurd (let no : ⊥ = cc in no)
none_awaited c stage.Over e = refl
none_awaited c (stage.Refused at) e = refl

pub not_fast : (bytes : List ℕ) (p : Packet) → host_packet_at false bytes ≡ p → (p ≡ NotTpkt → ⊥) → is_fast bytes ≡ false
not_fast [] p e other = refl
not_fast (v ∷ bs) p e other = elim (kind false v) [
  | Tpkt t ↦ rw t refl
  | Fast f z ↦ absurd (let no : ⊥ = cc in no)
  | Other t f ↦ absurd (other (sym e ∙ at_other false v bs t f))
]

front_kind : (n : ℕ) (bytes : List ℕ) → 1 ≤ n → is_fast (take n bytes) ≡ is_fast bytes
front_kind zero bytes h = absurd (omega (arith, h))
front_kind (suc n) [] h = refl
front_kind (suc n) (v ∷ bs) h = refl

-- a packet of the handshake is none of the fast path
pub packet_slow : (c : Confirmed) (here : Stage) (bytes : List ℕ) (p : Packet) → host_packet_at (awaits_fast c here) bytes ≡ p → (p ≡ NotTpkt → ⊥) → is_shown here ≡ false → is_fast bytes ≡ false
packet_slow c here bytes p e other silent = not_fast bytes p (ap (λ (b : Bool). host_packet_at b bytes) (sym (none_awaited c here silent)) ∙ e) other

pub front_slow : (c : Confirmed) (here : Stage) (bytes : List ℕ) (n : ℕ) → 1 ≤ n → host_packet_at (awaits_fast c here) bytes ≡ Whole n → is_shown here ≡ false → is_fast (take n bytes) ≡ false
front_slow c here bytes n some e silent = front_kind n bytes some ∙ packet_slow c here bytes (Whole n) e (λ (f : Whole n ≡ NotTpkt). let no : ⊥ = cc in no) silent

-- ---- refusals stay

version_stays : (xs ys : List ℕ) → packet_at xs ≡ NotTpkt → packet_at (xs ++ ys) ≡ NotTpkt
version_stays [] ys e = absurd ((version_head []).0 e)
version_stays (v ∷ xs) ys e = (version_head (v ∷ (xs ++ ys))).1 ((version_head (v ∷ xs)).0 e)

length_stays : (xs ys : List ℕ) → packet_at xs ≡ BadLength → packet_at (xs ++ ys) ≡ BadLength
length_stays [] ys e = absurd ((length_head []).0 e)
length_stays (v ∷ []) ys e = absurd ((length_head (v ∷ [])).0 e)
length_stays (v ∷ r ∷ []) ys e = absurd ((length_head (v ∷ r ∷ [])).0 e)
length_stays (v ∷ r ∷ h ∷ []) ys e = absurd ((length_head (v ∷ r ∷ h ∷ [])).0 e)
length_stays (v ∷ r ∷ h ∷ l ∷ xs) ys e = (length_head (v ∷ r ∷ h ∷ l ∷ (xs ++ ys))).1 ((length_head (v ∷ r ∷ h ∷ l ∷ xs)).0 e)

pub neither_stays : (fast : Bool) (xs ys : List ℕ) → host_packet_at fast xs ≡ NotTpkt → host_packet_at fast (xs ++ ys) ≡ NotTpkt
neither_stays fast [] ys e = absurd (let no : ⊥ = cc in no)
neither_stays fast (v ∷ xs) ys e = elim (kind fast v) [
  | Tpkt t ↦ at_tpkt fast v (xs ++ ys) t ∙ version_stays (v ∷ xs) ys (sym (at_tpkt fast v xs t) ∙ e)
  | Fast f z ↦ absurd (action_never xs (sym (at_fast fast v xs f z) ∙ e))
  | Other t f ↦ at_other fast v (xs ++ ys) t f
]

size_stays_by : (b : Bool) (k n there now : ℕ) → nat_lt n k ≡ b → packet_of_size k n there ≡ BadLength → packet_of_size k n now ≡ BadLength
size_stays_by true k n there now t e = rw t refl
size_stays_by false k n there now t e = absurd (never (nat_lt there n) (rw t at e))
  where
    never : (c : Bool) → (if c then Part else Whole n) ≡ BadLength → ⊥
    never true f = let no : ⊥ = cc in no
    never false f = let no : ⊥ = cc in no

size_stays : (k n there now : ℕ) → packet_of_size k n there ≡ BadLength → packet_of_size k n now ≡ BadLength
size_stays k n there now e = size_stays_by (nat_lt n k) k n there now refl e

action_stays : (bs ys : List ℕ) → after_action bs ≡ BadLength → after_action (bs ++ ys) ≡ BadLength
action_stays [] ys e = absurd (let no : ⊥ = cc in no)
action_stays (l ∷ bs) ys e = elim (which l) [
  | inl h ↦ by_short l (bs ++ ys) h ∙ size_stays 2 l (2 + length bs) (2 + length (bs ++ ys)) (sym (by_short l bs h) ∙ e)
  | inr h ↦ long_stays l bs ys h (sym (by_long l bs h) ∙ e)
]
  where
    long_stays : (l : ℕ) (bs ys : List ℕ) → 128 ≤ l → after_long l bs ≡ BadLength → after_action (l ∷ (bs ++ ys)) ≡ BadLength
    long_stays l [] ys h e = absurd (let no : ⊥ = cc in no)
    long_stays l (b ∷ bs) ys h e = by_long l (b ∷ (bs ++ ys)) h ∙ size_stays 3 (256 * (l - 128) + b) (3 + length bs) (3 + length (bs ++ ys)) e

pub bad_stays : (fast : Bool) (xs ys : List ℕ) → host_packet_at fast xs ≡ BadLength → host_packet_at fast (xs ++ ys) ≡ BadLength
bad_stays fast [] ys e = absurd (let no : ⊥ = cc in no)
bad_stays fast (v ∷ xs) ys e = elim (kind fast v) [
  | Tpkt t ↦ at_tpkt fast v (xs ++ ys) t ∙ length_stays (v ∷ xs) ys (sym (at_tpkt fast v xs t) ∙ e)
  | Fast f z ↦ at_fast fast v (xs ++ ys) f z ∙ action_stays xs ys (sym (at_fast fast v xs f z) ∙ e)
  | Other t f ↦ absurd (let g = sym (at_other fast v xs t f) ∙ e in let no : ⊥ = cc in no)
]

pub same_kind : (fast : Bool) (xs ys : List ℕ) → host_packet_at fast xs ≡ BadLength → is_fast (xs ++ ys) ≡ is_fast xs
same_kind fast [] ys e = absurd (let no : ⊥ = cc in no)
same_kind fast (v ∷ xs) ys e = refl

-- a packet that is taken where none of its kind is awaited is one of the fast path, before the Font Map
pub early_kind : (c : Confirmed) (here : Stage) (bytes : List ℕ) (n : ℕ) → host_packet_at (awaits_fast c here) bytes ≡ NotTpkt → host_packet_at (takes_fast c) bytes ≡ Whole n → (is_fast bytes ≡ true) × (is_shown here ≡ false)
early_kind c here [] n e w = absurd (let no : ⊥ = cc in no)
early_kind c here (v ∷ bs) n e w = elim (kind (takes_fast c) v) [
  | Tpkt t ↦ absurd (let f = sym (at_tpkt (awaits_fast c here) v bs t ∙ (sym (at_tpkt (takes_fast c) v bs t) ∙ w)) ∙ e in let no : ⊥ = cc in no)
  | Fast f z ↦ (zero_fast v z, not_shown (is_shown here) refl)
  | Other t f ↦ absurd (let g = sym (at_other (takes_fast c) v bs t f) ∙ w in let no : ⊥ = cc in no)
]
  where
    zero_fast : (v : ℕ) → v ≡ 0 → (v % 4 == 0) ≡ true
    zero_fast v z = rw z refl

    shown_awaits : (s : Stage) → is_shown s ≡ true → awaits_fast c s ≡ takes_fast c
    shown_awaits stage.Confirm f = absurd (let no : ⊥ = cc in no)
    shown_awaits stage.Response f = absurd (let no : ⊥ = cc in no)
    shown_awaits stage.Attach f = absurd (let no : ⊥ = cc in no)
    shown_awaits (stage.Joins user which) f = absurd (let no : ⊥ = cc in no)
    shown_awaits (stage.Licence user) f = absurd (let no : ⊥ = cc in no)
    shown_awaits (stage.Demand user) f = absurd (let no : ⊥ = cc in no)
    shown_awaits (stage.Finish user which) f = absurd (let no : ⊥ = cc in no)
    shown_awaits stage.Shown f = refl
    shown_awaits stage.Over f = absurd (let no : ⊥ = cc in no)
    shown_awaits (stage.Refused at) f = absurd (let no : ⊥ = cc in no)

    not_shown : (b : Bool) → is_shown here ≡ b → is_shown here ≡ false
    not_shown true f = absurd (let g = sym w ∙ (ap (λ (x : Bool). host_packet_at x (v ∷ bs)) (sym (shown_awaits here f)) ∙ e) in let no : ⊥ = cc in no)
    not_shown false f = f

-- ---- as a client takes them

counted_short : (v l : ℕ) (bs : List ℕ) → l < 128 → l ≡ 2 + length bs → IsCounted (fast_length (v ∷ l ∷ bs)) (length (v ∷ l ∷ bs))
counted_short v l bs few size =
    let test : nat_lt l 128 ≡ true = grind (arith, nat_tests, few) in
    let counted : (2 ≤ l) × (l ≡ length (v ∷ l ∷ bs)) = (omega (arith, size), omega (arith, size)) in
    subst (λ t. IsCounted (length_by t l bs) (length (v ∷ l ∷ bs))) (sym test) counted

counted_long : (v l : ℕ) (bs : List ℕ) → 128 ≤ l → IsCountedLong l bs → IsCounted (fast_length (v ∷ l ∷ bs)) (length (v ∷ l ∷ bs))
counted_long v l [] many is = absurd is
counted_long v l (low ∷ bs) many is =
    let test : nat_lt l 128 ≡ false = grind (arith, nat_tests, many) in
    let counted : (3 ≤ 256 * (l - 128) + low) × (256 * (l - 128) + low ≡ length (v ∷ l ∷ low ∷ bs)) = (omega (arith, is), omega (arith, is)) in
    subst (λ t. IsCounted (length_by t l (low ∷ bs)) (length (v ∷ l ∷ low ∷ bs))) (sym test) counted

fast_whole : (v : ℕ) (bs : List ℕ) → v ≡ 0 → IsFastCounted bs → IsFastWhole (v ∷ bs)
fast_whole v [] none is = absurd is
fast_whole v (l ∷ bs) none is = (none, elim is [ inl h ↦ counted_short v l bs h.0 h.1 | inr h ↦ counted_long v l bs h.0 h.1 ])

client_packet : (fast : Bool) (p : List ℕ) → IsHostPacket fast p → IsWholePacket p
client_packet fast p (inl is) = inl is
client_packet fast [] (inr is) = absurd is.1
client_packet fast (v ∷ bs) (inr is) = inr (fast_whole v bs is.1.0 is.1.1)

pub whole_there : (fast : Bool) (bytes : List ℕ) (n : ℕ) → host_packet_at fast bytes ≡ Whole n → IsWholePacket (take n bytes)
whole_there fast bytes n e = client_packet fast (take n bytes) ((host_whole fast bytes n).0 e).1

pub whole_kept : (fast : Bool) (p : List ℕ) (n : ℕ) → host_packet_at fast p ≡ Whole n → n ≡ length p → IsWholePacket p
whole_kept fast p n e size = subst IsWholePacket (ap (λ (k : ℕ). take k p) size ∙ take-length p) (whole_there fast p n e)
