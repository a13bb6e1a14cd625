-- A host's bytes, one stretch after another.
use Rattle.std.proofs.Common.{◌≡◌, ℕ, List, [], ◌∷◌, ◌++◌, length, take, drop, refl, ap, sym, ◌∙◌, subst, arith, Bool, true, false, append-nil, append_assoc}
use Rattle.std.specs.Prelude.{Option, Some, None, Result, Ok, Err}
use Rattle.std.proofs.lemmas.List.{take-append-drop}
use Rattle.caps_sets.specs.declared.confirmed.Confirmed.{Confirmed}
use Rattle.caps_sets.specs.Confirmed.{takes_fast}
use Rattle.tpkt_x224.specs.declared.tpkt.Packet.{Packet}
use Rattle.tpkt_x224.specs.declared.tpkt.Packet.TheVariants.{Whole, Part, NotTpkt, BadLength}
use Rattle.tpkt_x224.specs.Pieces.{Cut}
use Rattle.tpkt_x224.proofs.AnyCutting.{one_cut}
use Rattle.std.proofs.Math.Seq.{take-length}
use Rattle.viewer_rules.specs.HostStream.{host_packet_at}
use Rattle.viewer_rules.proofs.HostStream.{reads_hosts, host_whole, host_alone}
use Rattle.viewer_rules.specs.declared.stage.Stage.{Stage}
use Rattle.viewer_rules.specs.declared.stage.Stage.TheVariants as stage
use Rattle.viewer_rules.specs.ViewerHandshake.{place_behind, Standing, Told, packet_told, packets_told, Watching, Watched, with_rest, cut_watched, watched, awaits_fast, length_place, head_refusal, refusal_by, refusal_in}
use Rattle.viewer_rules.specs.Shown.{first_refusal, look_refusal, has_ended, standing_at}
use Rattle.viewer_rules.proofs.Pieces.{then_watched, two_pieces}
use Rattle.look_net.specs.declared.look_fault.LookFault.{LookFault}
use Rattle.look_net.specs.declared.look_fault.LookFault.TheVariants.{Refused, OutOfMemory}
use Rattle.look_net.specs.declared.watcher.Watcher.{Watcher}
use Rattle.look_net.specs.Looks.{Keeps}
use Rattle.look_net.specs.Watches.{Stays, WatchesPacket, IsRefusedFrom, Goes, GoesOn, Stops, StopsBy}
use Rattle.look_net.proofs.Refusals.{client_reads, over_told, open_head, cut_of, uncut_by, version_refused, length_refused, packet_stays}
use Rattle.look_net.proofs.HostHeads.{awaited_head}

abbrev watched_as : List ℕ → Standing → List ℕ → Watched
watched_as text s part = record { text = text; after = record { at = s; part = part } }

-- ---- bytes between two packets

pub from_part : (name : List ℕ) (c : Confirmed) (w : Watching) (bytes : List ℕ) → watched name c w bytes ≡ watched name c (standing_at w.at) (w.part ++ bytes)
unfolding watched
from_part name c w bytes = refl

-- a whole packet
pub whole_is : (name : List ℕ) (c : Confirmed) (s : Standing) (p : List ℕ) (n : ℕ) → host_packet_at (takes_fast c) p ≡ Whole n → n ≡ length p
    → watched name c (standing_at s) p ≡ with_rest (packet_told name c s.stage s p) []
unfolding watched
whole_is name c s p n e k =
    let one : Told = packet_told name c s.stage s p in
    ap (λ (cut : Cut). cut_watched name c s cut) (one_cut (host_packet_at (takes_fast c)) (reads_hosts (takes_fast c)) p n e k) ∙ ap (λ (text : List ℕ). watched_as text one.after []) (append-nil one.text)

-- a part of one
pub part_is : (name : List ℕ) (c : Confirmed) (s : Standing) (bytes : List ℕ) → host_packet_at (takes_fast c) bytes ≡ Part → watched name c (standing_at s) bytes ≡ watched_as [] s bytes
unfolding watched
part_is name c s bytes e = ap (λ (cut : Cut). cut_watched name c s cut) (uncut_by c bytes Part e)

-- a packet's refusal, text and place are those of the bytes
pub packet_goes : (r : Result (Unit {0}) LookFault) (name : List ℕ) (c : Confirmed) (told : Told) (new : Watcher) (out new_out : List ℕ) (x : Watched) (part : List ℕ)
    → x ≡ with_rest told [] → WatchesPacket r told c new out new_out → part ≡ [] → GoesOn r name c x new part out new_out
packet_goes (Ok done) name c told new out new_out x part e h none =
    subst (λ (y : Watched). Goes y c new part out new_out) (sym e) (record { follows = h.0; keeps = record { same = λ _. none; waits = λ _. refl }; written = h.1 })
packet_goes (Err (Refused at)) name c told new out new_out x part e h none =
    subst (λ (y : Watched). IsRefusedFrom name c y.after at × (new_out ≡ out ++ y.text)) (sym e)
    (packet_stays name c (record { at = told.after; part = [] }) at h.0, h.2 ∙ sym (append-nil out) ∙ ap (λ (xs : List ℕ). out ++ xs) (sym h.1))
packet_goes (Err OutOfMemory) name c told new out new_out x part e h none = h

pub not_other : Part ≡ NotTpkt → ⊥
not_other e = cc

pub not_whole : (n : ℕ) → Whole n ≡ NotTpkt → ⊥
not_whole n e = cc

-- what stands at a head, of the packets that are awaited
abbrev pub awaited : Confirmed → Standing → List ℕ → Packet
awaited c s bytes = host_packet_at (awaits_fast c s.stage) bytes

-- the part of one is kept
pub part_goes : (name : List ℕ) (c : Confirmed) (s : Standing) (m : Watcher) (bytes out : List ℕ) → awaited c s bytes ≡ Part → Stays s c m
    → Goes (watched name c (standing_at s) bytes) c m bytes out out
part_goes name c s m bytes out e f =
    subst (λ (y : Watched). Goes y c m bytes out out) (sym (part_is name c s bytes (awaited_head c s.stage bytes Part e not_other)))
    (record { follows = f; keeps = record { same = λ _. refl; waits = λ _. e }; written = sym (append-nil out) })

abbrev held : Standing → List ℕ → Watching
held s bytes = record { at = s; part = bytes }

-- bytes from which on a stream is refused
refused_on : (name : List ℕ) (c : Confirmed) (s : Standing) (bytes : List ℕ) (at : ℕ) → IsRefusedFrom name c (held s bytes) at
    → IsRefusedFrom name c (watched name c (standing_at s) bytes).after at × ((watched name c (standing_at s) bytes).text ≡ [])
refused_on name c s bytes at h =
    let x : Watched = watched name c (standing_at s) bytes in
    let none : x.text ≡ [] =
    ap (λ (xs : List ℕ). (watched name c (standing_at s) xs).text) (sym (append-nil bytes)) ∙ ap (λ (y : Watched). y.text) (sym (from_part name c (held s bytes) [])) ∙ (h []).0 in (
      λ more.
          let y : Watched = watched name c x.after more in
          let pieces : watched name c (held s bytes) more ≡ then_watched x y = from_part name c (held s bytes) more ∙ two_pieces name c (standing_at s) bytes more in (
            ap (λ (xs : List ℕ). xs ++ y.text) (sym none) ∙ ap (λ (z : Watched). z.text) (sym pieces) ∙ (h more).0,
            ap (λ (z : Watched). look_refusal c z.after) (sym pieces) ∙ (h more).1,
          ),
      none,
    )

head_goes : (name : List ℕ) (c : Confirmed) (s : Standing) (m : Watcher) (bytes out part : List ℕ) (at : ℕ) → IsRefusedFrom name c (held s bytes) at
    → GoesOn (Err (Refused at)) name c (watched name c (standing_at s) bytes) m part out out
head_goes name c s m bytes out part at h =
    let r = refused_on name c s bytes at h in
    (r.0, sym (append-nil out) ∙ ap (λ (xs : List ℕ). out ++ xs) (sym r.1))

-- a first byte of no packet that is awaited, and a length below that of a packet's header
pub version_goes : (name : List ℕ) (c : Confirmed) (s : Standing) (m : Watcher) (bytes out part : List ℕ) → awaited c s bytes ≡ NotTpkt → Stays s c m → has_ended s.stage ≡ false
    → GoesOn (Err (Refused m.place)) name c (watched name c (standing_at s) bytes) m part out out
version_goes name c s m bytes out part e stays goes =
    head_goes name c s m bytes out part m.place
    (version_refused name c (held s bytes) m.place stays.open_is goes (client_reads c s.size s.shown m.client s.start stays.client_is) e (sym stays.place_is))

pub length_goes : (name : List ℕ) (c : Confirmed) (s : Standing) (m : Watcher) (bytes out part : List ℕ) (at : ℕ) → awaited c s bytes ≡ BadLength → Stays s c m → has_ended s.stage ≡ false
    → at ≡ place_behind m.place (length_place bytes) → GoesOn (Err (Refused at)) name c (watched name c (standing_at s) bytes) m part out out
length_goes name c s m bytes out part at e stays goes there =
    head_goes name c s m bytes out part at
    (length_refused name c (held s bytes) at stays.open_is goes (client_reads c s.size s.shown m.client s.start stays.client_is) e
    (ap (λ (place : ℕ). place_behind place (length_place bytes)) (sym stays.place_is) ∙ sym there))

-- ---- what is there of a packet

stands_as : (name : List ℕ) (c : Confirmed) (w : Watching) (part : List ℕ) → Keeps c w part → has_ended w.at.stage ≡ false → watched name c w [] ≡ watched_as [] w.at w.part
stands_as name c w part k goes =
    from_part name c w [] ∙ ap (watched name c (standing_at w.at)) (append-nil w.part) ∙ part_is name c w.at w.part (awaited_head c w.at.stage w.part Part (k.waits goes) not_other)

-- the host has ended the connection: nothing more is looked at
ended_is : (here : Stage) → has_ended here ≡ true → here ≡ stage.Over
ended_is stage.Confirm e = absurd (let h : ⊥ = cc in h)
ended_is stage.Response e = absurd (let h : ⊥ = cc in h)
ended_is stage.Attach e = absurd (let h : ⊥ = cc in h)
ended_is (stage.Joins user which) e = absurd (let h : ⊥ = cc in h)
ended_is (stage.Licence user) e = absurd (let h : ⊥ = cc in h)
ended_is (stage.Demand user) e = absurd (let h : ⊥ = cc in h)
ended_is (stage.Finish user which) e = absurd (let h : ⊥ = cc in h)
ended_is stage.Shown e = absurd (let h : ⊥ = cc in h)
ended_is stage.Over e = refl
ended_is (stage.Refused at) e = absurd (let h : ⊥ = cc in h)

true_false : true ≡ false → ⊥
true_false e = cc

pub over_goes : (name : List ℕ) (c : Confirmed) (w : Watching) (bytes : List ℕ) (m : Watcher) (part out : List ℕ) → has_ended w.at.stage ≡ true → Stays w.at c m
    → Goes (watched name c w bytes) c m part out out
unfolding watched
over_goes name c w bytes m part out over f =
    let told = over_told name c w.at (cut_of c (w.part ++ bytes)).packets (ended_is w.at.stage over) in
    let ended : has_ended (packets_told name c w.at (cut_of c (w.part ++ bytes)).packets).after.stage ≡ true = ap (λ (t : Told). has_ended t.after.stage) told ∙ over in
    record {
      follows = subst (λ (t : Told). Stays t.after c m) (sym told) f;
      keeps = record { same = λ goes. absurd (true_false (sym ended ∙ goes)); waits = λ goes. absurd (true_false (sym ended ∙ goes)) };
      written = sym (append-nil out) ∙ ap (λ (t : Told). out ++ t.text) (sym told);
    }

nothing_by : (b : Bool) (name : List ℕ) (c : Confirmed) (w : Watching) (m : Watcher) (part out : List ℕ) → has_ended w.at.stage ≡ b → Stays w.at c m → Keeps c w part
    → Goes (watched name c w []) c m part out out
nothing_by false name c w m part out goes f k =
    subst (λ (y : Watched). Goes y c m part out out) (sym (stands_as name c w part k goes)) (record { follows = f; keeps = k; written = sym (append-nil out) })
nothing_by true name c w m part out over f k = over_goes name c w [] m part out over f

pub nothing_gone : (name : List ℕ) (c : Confirmed) (w : Watching) (m : Watcher) (part out : List ℕ) → Stays w.at c m → Keeps c w part → Goes (watched name c w []) c m part out out
nothing_gone name c w m part out f k = nothing_by (has_ended w.at.stage) name c w m part out refl f k

-- ---- the first bytes

-- these bytes, behind what is there of a packet, stopped it
pub stops_at : (f : LookFault) (name : List ℕ) (c : Confirmed) (w : Watching) (bytes front more : List ℕ) (new : Watcher) (part new_part out new_out : List ℕ) → bytes ≡ front ++ more
    → Keeps c w part → has_ended w.at.stage ≡ false → GoesOn (Err f) name c (watched name c w front) new new_part out new_out → Stops f name c w bytes out new_out
stops_at (Refused at) name c w bytes front more new part new_part out new_out whole k goes h =
    record { front = front; more = more; whole = whole; written = h.1; stopped = h.0 }
stops_at OutOfMemory name c w bytes front more new part new_part out new_out whole k goes h = record {
  front = [];
  more = bytes;
  whole = refl;
  written = h ∙ sym (append-nil out) ∙ ap (λ (y : Watched). out ++ y.text) (sym (stands_as name c w part k goes));
  stopped = tt;
}

pub nil_of : (xs : List ℕ) → length xs ≡ 0 → xs ≡ []
nil_of [] e = refl
nil_of (x ∷ xs) e = absurd (omega (arith, e))

-- nothing is there of a packet
alone : (name : List ℕ) (c : Confirmed) (w : Watching) (part bytes : List ℕ) → Keeps c w part → has_ended w.at.stage ≡ false → length part ≡ 0
    → watched name c w bytes ≡ watched name c (standing_at w.at) bytes
alone name c w part bytes k goes none =
    from_part name c w bytes ∙ ap (λ (xs : List ℕ). watched name c (standing_at w.at) (xs ++ bytes)) (sym (k.same goes) ∙ nil_of part none)

whole_from : (name : List ℕ) (c : Confirmed) (w : Watching) (part bytes : List ℕ) (n : ℕ) → Keeps c w part → has_ended w.at.stage ≡ false → length part ≡ 0 → awaited c w.at bytes ≡ Whole n
    → watched name c w (take n bytes) ≡ with_rest (packet_told name c w.at.stage w.at (take n bytes)) []
whole_from name c w part bytes n k goes none e =
    alone name c w part (take n bytes) k goes none ∙ whole_is name c w.at (take n bytes) (length (take n bytes))
    (host_alone (takes_fast c) (take n bytes) ((host_whole (takes_fast c) bytes n).0 (awaited_head c w.at.stage bytes (Whole n) e (not_whole n))).1) refl

abbrev pub TakesPacket : Result (Unit {0}) LookFault → List ℕ → Confirmed → Watching → List ℕ → Watcher → List ℕ → List ℕ → Type 0
TakesPacket r name c w p new out new_out = WatchesPacket r (packet_told name c w.at.stage w.at p) c new out new_out

pub packet_gone : (name : List ℕ) (c : Confirmed) (w : Watching) (part bytes : List ℕ) (n : ℕ) (new : Watcher) (out new_out : List ℕ) → Keeps c w part → has_ended w.at.stage ≡ false → length part ≡ 0
    → awaited c w.at bytes ≡ Whole n → TakesPacket (Ok tt) name c w (take n bytes) new out new_out → Goes (watched name c w (take n bytes)) c new part out new_out
packet_gone name c w part bytes n new out new_out k goes none e h =
    packet_goes (Ok tt) name c (packet_told name c w.at.stage w.at (take n bytes)) new out new_out (watched name c w (take n bytes)) part (whole_from name c w part bytes n k goes none e) h (nil_of part none)

pub packet_stops : (f : LookFault) (name : List ℕ) (c : Confirmed) (w : Watching) (part bytes : List ℕ) (n : ℕ) (new : Watcher) (out new_out : List ℕ) → Keeps c w part → has_ended w.at.stage ≡ false
    → length part ≡ 0 → awaited c w.at bytes ≡ Whole n → TakesPacket (Err f) name c w (take n bytes) new out new_out → Stops f name c w bytes out new_out
packet_stops f name c w part bytes n new out new_out k goes none e h =
    stops_at f name c w bytes (take n bytes) (drop n bytes) new part part out new_out (sym (take-append-drop n bytes)) k goes
    (packet_goes (Err f) name c (packet_told name c w.at.stage w.at (take n bytes)) new out new_out (watched name c w (take n bytes)) part (whole_from name c w part bytes n k goes none e) h (nil_of part none))

-- what was kept is the part of a packet
pub kept_gone : (name : List ℕ) (c : Confirmed) (w : Watching) (m : Watcher) (part bytes new_part out : List ℕ) → Stays w.at c m → Keeps c w part → has_ended w.at.stage ≡ false → length part ≡ 0
    → awaited c w.at bytes ≡ Part → new_part ≡ part ++ bytes → Goes (watched name c w (take (length bytes) bytes)) c m new_part out out
kept_gone name c w m part bytes new_part out f k goes none e kept =
    let same : bytes ≡ new_part = sym (kept ∙ ap (λ (xs : List ℕ). xs ++ bytes) (nil_of part none)) in
    subst (λ (y : Watched). Goes y c m new_part out out) (sym (ap (watched name c w) (take-length bytes) ∙ alone name c w part bytes k goes none))
    (subst (λ (xs : List ℕ). Goes (watched name c (standing_at w.at) bytes) c m xs out out) same (part_goes name c w.at m bytes out e f))

-- nothing was kept
pub none_kept : (f : LookFault) (name : List ℕ) (c : Confirmed) (w : Watching) (m : Watcher) (part bytes out : List ℕ) → f ≡ OutOfMemory → Keeps c w part → has_ended w.at.stage ≡ false
    → Stops f name c w bytes out out
none_kept f name c w m part bytes out e k goes =
    subst (λ (x : LookFault). Stops x name c w bytes out out) (sym e) (stops_at OutOfMemory name c w bytes [] bytes m part part out out refl k goes refl)

head_stops : (name : List ℕ) (c : Confirmed) (w : Watching) (m : Watcher) (part bytes out : List ℕ) (at : ℕ) → Keeps c w part → has_ended w.at.stage ≡ false → length part ≡ 0
    → GoesOn (Err (Refused at)) name c (watched name c (standing_at w.at) bytes) m part out out → Stops (Refused at) name c w bytes out out
head_stops name c w m part bytes out at k goes none h =
    stops_at (Refused at) name c w bytes bytes [] m part part out out (sym (append-nil bytes)) k goes
    (subst (λ (y : Watched). GoesOn (Err (Refused at)) name c y m part out out) (sym (alone name c w part bytes k goes none)) h)

pub version_stops : (name : List ℕ) (c : Confirmed) (w : Watching) (m : Watcher) (part bytes out : List ℕ) → Stays w.at c m → Keeps c w part → has_ended w.at.stage ≡ false → length part ≡ 0
    → awaited c w.at bytes ≡ NotTpkt → Stops (Refused m.place) name c w bytes out out
version_stops name c w m part bytes out f k goes none e = head_stops name c w m part bytes out m.place k goes none (version_goes name c w.at m bytes out part e f goes)

pub length_stops : (name : List ℕ) (c : Confirmed) (w : Watching) (m : Watcher) (part bytes out : List ℕ) (at : ℕ) → Stays w.at c m → Keeps c w part → has_ended w.at.stage ≡ false → length part ≡ 0
    → awaited c w.at bytes ≡ BadLength → at ≡ place_behind m.place (length_place bytes) → Stops (Refused at) name c w bytes out out
length_stops name c w m part bytes out at f k goes none e there = head_stops name c w m part bytes out at k goes none (length_goes name c w.at m bytes out part at e f goes there)

-- bytes behind what is there of a packet
behind : (name : List ℕ) (c : Confirmed) (w : Watching) (part chunk whole : List ℕ) → Keeps c w part → has_ended w.at.stage ≡ false → whole ≡ part ++ chunk
    → watched name c (standing_at w.at) whole ≡ watched name c w chunk
behind name c w part chunk whole k goes e =
    ap (watched name c (standing_at w.at)) (e ∙ ap (λ (xs : List ℕ). xs ++ chunk) (k.same goes)) ∙ sym (from_part name c w chunk)

pub behind_gone : (name : List ℕ) (c : Confirmed) (w : Watching) (part chunk whole : List ℕ) (new : Watcher) (new_part out new_out : List ℕ) → Keeps c w part → has_ended w.at.stage ≡ false
    → whole ≡ part ++ chunk → GoesOn (Ok tt) name c (watched name c (standing_at w.at) whole) new new_part out new_out → Goes (watched name c w chunk) c new new_part out new_out
behind_gone name c w part chunk whole new new_part out new_out k goes e h = subst (λ (y : Watched). Goes y c new new_part out new_out) (behind name c w part chunk whole k goes e) h

pub behind_stops : (f : LookFault) (name : List ℕ) (c : Confirmed) (w : Watching) (part bytes whole : List ℕ) (n : ℕ) (new : Watcher) (new_part out new_out : List ℕ) → Keeps c w part
    → has_ended w.at.stage ≡ false → whole ≡ part ++ take n bytes → GoesOn (Err f) name c (watched name c (standing_at w.at) whole) new new_part out new_out → Stops f name c w bytes out new_out
behind_stops f name c w part bytes whole n new new_part out new_out k goes e h =
    stops_at f name c w bytes (take n bytes) (drop n bytes) new part new_part out new_out (sym (take-append-drop n bytes)) k goes
    (subst (λ (y : Watched). GoesOn (Err f) name c y new new_part out new_out) (behind name c w part (take n bytes) whole k goes e) h)

-- ---- all bytes

-- a front of the bytes was gone through
pub record GoneSoFar (name : List ℕ) (c : Confirmed) (w : Watching) (bytes left : List ℕ) (now : Watcher) (part out now_out : List ℕ) : Type 0 where
  pub front : List ℕ
  pub whole : bytes ≡ front ++ left
  pub goes : Goes (watched name c w front) c now part out now_out

pub gone_none : (name : List ℕ) (c : Confirmed) (w : Watching) (bytes : List ℕ) (m : Watcher) (part out : List ℕ) → Stays w.at c m → Keeps c w part → GoneSoFar name c w bytes bytes m part out out
gone_none name c w bytes m part out f k = record { front = []; whole = refl; goes = nothing_gone name c w m part out f k }

both : (name : List ℕ) (c : Confirmed) (w : Watching) (xs ys : List ℕ) (now new : Watcher) (part new_part out now_out new_out : List ℕ) → Goes (watched name c w xs) c now part out now_out
    → Goes (watched name c (watched name c w xs).after ys) c new new_part now_out new_out → Goes (watched name c w (xs ++ ys)) c new new_part out new_out
both name c w xs ys now new part new_part out now_out new_out g h =
    let a : Watched = watched name c w xs in
    let b : Watched = watched name c a.after ys in
    subst (λ (y : Watched). Goes y c new new_part out new_out) (sym (two_pieces name c w xs ys))
    (record { follows = h.follows; keeps = h.keeps; written = h.written ∙ ap (λ (zs : List ℕ). zs ++ b.text) g.written ∙ append_assoc out a.text b.text })

pub gone_more : (name : List ℕ) (c : Confirmed) (w : Watching) (bytes left : List ℕ) (now new : Watcher) (part new_part out now_out new_out : List ℕ) (n : ℕ) (s : GoneSoFar name c w bytes left now part out now_out)
    → Goes (watched name c (watched name c w s.front).after (take n left)) c new new_part now_out new_out → GoneSoFar name c w bytes (drop n left) new new_part out new_out
gone_more name c w bytes left now new part new_part out now_out new_out n s h = record {
  front = s.front ++ take n left;
  whole = s.whole ∙ ap (λ (xs : List ℕ). s.front ++ xs) (sym (take-append-drop n left)) ∙ sym (append_assoc s.front (take n left) (drop n left));
  goes = both name c w s.front (take n left) now new part new_part out now_out new_out s.goes h;
}

-- what is left changes nothing any more
pub gone_all : (name : List ℕ) (c : Confirmed) (w : Watching) (bytes left : List ℕ) (now : Watcher) (part out now_out : List ℕ) (s : GoneSoFar name c w bytes left now part out now_out)
    → Goes (watched name c (watched name c w s.front).after left) c now part now_out now_out → Goes (watched name c w bytes) c now part out now_out
gone_all name c w bytes left now part out now_out s h =
    subst (λ (xs : List ℕ). Goes (watched name c w xs) c now part out now_out) (sym s.whole) (both name c w s.front left now now part part out now_out now_out s.goes h)

pub gone_end : (name : List ℕ) (c : Confirmed) (w : Watching) (bytes left : List ℕ) (now : Watcher) (part out now_out : List ℕ) → length left ≡ 0 → GoneSoFar name c w bytes left now part out now_out
    → Goes (watched name c w bytes) c now part out now_out
gone_end name c w bytes [] now part out now_out e s =
    gone_all name c w bytes [] now part out now_out s (nothing_gone name c (watched name c w s.front).after now part now_out s.goes.follows s.goes.keeps)
gone_end name c w bytes (b ∷ bs) now part out now_out e s = absurd (omega (arith, e))

-- whether it has ended
pub ended_here : (s : Standing) (c : Confirmed) (m : Watcher) (b : Bool) → Stays s c m → has_ended m.stage ≡ b → has_ended s.stage ≡ b
ended_here s c m b f e = ap has_ended (sym f.stage_is) ∙ e

pub gone_over : (name : List ℕ) (c : Confirmed) (w : Watching) (bytes left : List ℕ) (now : Watcher) (part out now_out : List ℕ) → has_ended now.stage ≡ true
    → GoneSoFar name c w bytes left now part out now_out → Goes (watched name c w bytes) c now part out now_out
gone_over name c w bytes left now part out now_out over s =
    let here : Watching = (watched name c w s.front).after in
    gone_all name c w bytes left now part out now_out s (over_goes name c here left now part now_out (ended_here here.at c now true s.goes.follows over) s.goes.follows)

stopped_same : (f : LookFault) (name : List ℕ) (c : Confirmed) (x y : Watching) → x ≡ y → StopsBy f name c x → StopsBy f name c y
stopped_same f name c x y e h = subst (StopsBy f name c) e h

pub gone_stops : (f : LookFault) (name : List ℕ) (c : Confirmed) (w : Watching) (bytes left : List ℕ) (now : Watcher) (part out now_out new_out : List ℕ) (s : GoneSoFar name c w bytes left now part out now_out)
    → Stops f name c (watched name c w s.front).after left now_out new_out → Stops f name c w bytes out new_out
gone_stops f name c w bytes left now part out now_out new_out s h =
    let a : Watched = watched name c w s.front in
    let b : Watched = watched name c a.after h.front in
    let pieces = two_pieces name c w s.front h.front in
    record {
      front = s.front ++ h.front;
      more = h.more;
      whole = s.whole ∙ ap (λ (xs : List ℕ). s.front ++ xs) h.whole ∙ sym (append_assoc s.front h.front h.more);
      written = h.written ∙ ap (λ (zs : List ℕ). zs ++ b.text) s.goes.written ∙ append_assoc out a.text b.text ∙ ap (λ (y : Watched). out ++ y.text) (sym pieces);
      stopped = stopped_same f name c b.after (watched name c w (s.front ++ h.front)).after (ap (λ (y : Watched). y.after) (sym pieces)) h.stopped;
    }

-- ---- a refusal, and none

pub refused_whole : (name : List ℕ) (c : Confirmed) (w : Watching) (bytes out new_out : List ℕ) (at : ℕ) → Stops (Refused at) name c w bytes out new_out
    → (new_out ≡ out ++ (watched name c w bytes).text) × (look_refusal c (watched name c w bytes).after ≡ Some at)
refused_whole name c w bytes out new_out at s =
    let a : Watched = watched name c w s.front in
    let left = s.stopped s.more in
    let pieces : watched name c w bytes ≡ then_watched a (watched name c a.after s.more) = ap (watched name c w) s.whole ∙ two_pieces name c w s.front s.more in (
      s.written ∙ ap (λ (xs : List ℕ). out ++ xs) (sym (append-nil a.text) ∙ ap (λ (xs : List ℕ). a.text ++ xs) (sym left.0)) ∙ ap (λ (y : Watched). out ++ y.text) (sym pieces),
      ap (λ (y : Watched). look_refusal c y.after) pieces ∙ left.1,
    )

none_by : (b : Bool) (c : Confirmed) (w : Watching) (m : Watcher) (part : List ℕ) → has_ended w.at.stage ≡ b → Stays w.at c m → Keeps c w part → refusal_in c w ≡ None
none_by false c w m part goes f k = open_head w.at.stage w.at.shown (head_refusal w.at.place w.part (host_packet_at (awaits_fast c w.at.stage) w.part)) f.open_is goes ∙ ap (head_refusal w.at.place w.part) (k.waits goes)
none_by true c w m part over f k = ap (λ (here : Stage). refusal_by here (head_refusal w.at.place w.part (host_packet_at (awaits_fast c w.at.stage) w.part))) (ended_is w.at.stage over)

pub none_refused : (c : Confirmed) (w : Watching) (m : Watcher) (part : List ℕ) → Stays w.at c m → Keeps c w part → look_refusal c w ≡ None
none_refused c w m part f k =
    ap (λ (o : Option ℕ). first_refusal o (refusal_in c w)) (client_reads c w.at.size w.at.shown m.client w.at.start f.client_is) ∙ none_by (has_ended w.at.stage) c w m part refl f k
