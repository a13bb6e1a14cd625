-- A refusal stays, whatever comes, and no text is due any more.
use Rattle.std.proofs.Common.{◌≡◌, ◌≤◌, ℕ, zero, suc, List, [], ◌∷◌, ◌++◌, length, take, drop, arith, refl, ap, sym, ◌∙◌, subst, Bool, true, false, ◌⊎◌, inl, inr}
use Rattle.std.specs.Prelude.{Option, Some, None, Result, Ok, Err}
use Rattle.px_core.specs.declared.surface.Size.{Size}
use Rattle.caps_sets.specs.declared.confirmed.Confirmed.{Confirmed}
use Rattle.caps_sets.specs.Confirmed.{takes_fast}
use Rattle.wire_num.specs.Field.{bind}
use Rattle.tpkt_x224.specs.declared.tpkt.Packet.{Packet}
use Rattle.tpkt_x224.specs.declared.tpkt.Packet.TheVariants.{Whole, Part, NotTpkt, BadLength}
use Rattle.tpkt_x224.specs.Pieces.{Cut, cut_by, cut_with, packets_with, after_packets}
use Rattle.tpkt_x224.proofs.AnyCutting.{once, whole_is_cut}
use Rattle.fast_path.specs.Heads.{is_fast}
use Rattle.order_means.specs.FrameMarks.{ClientReading, Refusal, read_on, read_stream, first_reading}
use Rattle.order_means.proofs.Pieces.{read_joined}
use Rattle.client_view.specs.Clients.{ClientOf}
use Rattle.viewer_rules.specs.declared.stage.Stage.{Stage}
use Rattle.viewer_rules.specs.declared.stage.Stage.TheVariants as stage
use Rattle.viewer_rules.specs.ViewerHandshake.{Standing, Told, silent, then_told, is_farewell, shown_by, slow_answered, place_behind, packet_answered, packet_told, packets_told, Watching, with_rest, cut_watched, watched, awaits_fast, length_place, head_refusal, refusal_by, refusal_in}
use Rattle.viewer_rules.specs.HostStream.{host_packet_at}
use Rattle.viewer_rules.proofs.HostStream.{reads_hosts}
use Rattle.viewer_rules.specs.Shown.{shown_read, shown_refusal, first_refusal, look_refusal, has_ended}
use Rattle.look_net.specs.Looks.{HasClient, IsOpen}
use Rattle.look_net.specs.Watches.{is_shown, RefusesPacket, IsRefusedFrom}
use Rattle.look_net.proofs.HostHeads.{awaited_head, neither_stays, bad_stays, early_kind}

-- what a client makes of what a viewer is shown
abbrev pub Shown : Confirmed → Standing → Option ℕ
Shown c s = shown_refusal s.start (shown_read c s.size s.shown)

pub client_reads : (c : Confirmed) (size : Option Size) (shown : List ℕ) (client : Option ClientOf) (start : ℕ) → HasClient c size shown client → shown_refusal start (shown_read c size shown) ≡ None
client_reads c None shown client start h = refl
client_reads c (Some size) shown None start h = absurd h
client_reads c (Some size) shown (Some client) start h = ap (λ (r : Result ClientReading Refusal). shown_refusal start (Some r)) h.reads

-- a host's bytes, cut into packets for a client
abbrev pub cut_of : Confirmed → List ℕ → Cut
cut_of c bytes = packets_with (host_packet_at (takes_fast c)) bytes

-- ---- where nothing changes

unchanged : (name : List ℕ) (c : Confirmed) (s : Standing) (ps : List (List ℕ)) → ((p : List ℕ) → packet_told name c s.stage s p ≡ silent s) → packets_told name c s ps ≡ silent s
unchanged name c s [] h = refl
unchanged name c s (p ∷ ps) h =
    ap (λ (t : Told). then_told t (packets_told name c t.after ps)) (h p)
    ∙ ap (then_told (silent s)) (unchanged name c s ps h)

pub over_told : (name : List ℕ) (c : Confirmed) (s : Standing) (ps : List (List ℕ)) → s.stage ≡ stage.Over → packets_told name c s ps ≡ silent s
over_told name c s ps e = unchanged name c s ps (λ p. ap (λ (here : Stage). packet_told name c here s p) e)

refused_told : (name : List ℕ) (c : Confirmed) (s : Standing) (ps : List (List ℕ)) (at : ℕ) → s.stage ≡ stage.Refused at → packets_told name c s ps ≡ silent s
refused_told name c s ps at e = unchanged name c s ps (λ p. ap (λ (here : Stage). packet_told name c here s p) e)

-- ---- a field of the handshake

by_field : (c : Confirmed) (s : Standing) (part : List ℕ) (at : ℕ) → s.stage ≡ stage.Refused at → Shown c s ≡ None → look_refusal c (record { at = s; part = part }) ≡ Some at
by_field c s part at here none = rw (here, none) refl

field_refused : (name : List ℕ) (c : Confirmed) (w : Watching) (at : ℕ) → w.at.stage ≡ stage.Refused at → Shown c w.at ≡ None → IsRefusedFrom name c w at
unfolding watched
field_refused name c w at here none bytes =
    let cut : Cut = cut_of c (w.part ++ bytes) in
    let told = refused_told name c w.at cut.packets at here in
    (ap (λ (t : Told). t.text) told, ap (λ (t : Told). look_refusal c (record { at = t.after; part = cut.rest })) told ∙ by_field c w.at cut.rest at here none)

-- ---- the head of a packet

pub open_head : (here : Stage) (shown : List ℕ) (head : Option ℕ) → IsOpen here shown → has_ended here ≡ false → refusal_by here head ≡ head
open_head stage.Confirm shown head free e = refl
open_head stage.Response shown head free e = refl
open_head stage.Attach shown head free e = refl
open_head (stage.Joins user which) shown head free e = refl
open_head (stage.Licence user) shown head free e = refl
open_head (stage.Demand user) shown head free e = refl
open_head (stage.Finish user which) shown head free e = refl
open_head stage.Shown shown head free e = refl
open_head stage.Over shown head free e = absurd (let h : ⊥ = cc in h)
open_head (stage.Refused at) shown head free e = absurd free

pub uncut_by : (c : Confirmed) (bytes : List ℕ) (p : Packet) → host_packet_at (takes_fast c) bytes ≡ p → cut_of c bytes ≡ cut_by p bytes (λ after. cut_with (host_packet_at (takes_fast c)) (length bytes) after)
uncut_by c bytes p e = once (host_packet_at (takes_fast c)) (reads_hosts (takes_fast c)) bytes ∙ ap (λ q. cut_by q bytes (λ after. cut_with (host_packet_at (takes_fast c)) (length bytes) after)) e

abbrev pub uncut : List ℕ → Cut
uncut bytes = record { packets = []; rest = bytes }

-- what is refused from bytes that come where a stream stands so
abbrev Refuses : List ℕ → Confirmed → Watching → ℕ → List ℕ → Type 0
Refuses name c w at bytes = ((watched name c w bytes).text ≡ []) × (look_refusal c (watched name c w bytes).after ≡ Some at)

-- nothing is cut off, and the head is refused
head_refused : (name : List ℕ) (c : Confirmed) (w : Watching) (at : ℕ) (p : Packet) (bytes : List ℕ) → IsOpen w.at.stage w.at.shown → has_ended w.at.stage ≡ false → Shown c w.at ≡ None
    → host_packet_at (awaits_fast c w.at.stage) (w.part ++ bytes) ≡ p → cut_of c (w.part ++ bytes) ≡ uncut (w.part ++ bytes) → head_refusal w.at.place (w.part ++ bytes) p ≡ Some at → Refuses name c w at bytes
unfolding watched
head_refused name c w at p bytes free goes none stays cut refused = (
  ap (λ (k : Cut). (cut_watched name c w.at k).text) cut,
  ap (λ (k : Cut). look_refusal c (cut_watched name c w.at k).after) cut
      ∙ ap (λ (o : Option ℕ). first_refusal o (refusal_by w.at.stage (head_refusal w.at.place (w.part ++ bytes) (host_packet_at (awaits_fast c w.at.stage) (w.part ++ bytes))))) none
      ∙ open_head w.at.stage w.at.shown (head_refusal w.at.place (w.part ++ bytes) (host_packet_at (awaits_fast c w.at.stage) (w.part ++ bytes))) free goes
      ∙ ap (head_refusal w.at.place (w.part ++ bytes)) stays ∙ refused,
)

-- a whole packet of the fast path before the Font Map
early_told : (name : List ℕ) (c : Confirmed) (here : Stage) (s : Standing) (p shown : List ℕ) → IsOpen here shown → has_ended here ≡ false → is_shown here ≡ false → is_fast p ≡ true
    → packet_told name c here s p ≡ silent (record s { stage = stage.Refused s.place })
early_told name c stage.Confirm s p shown free goes silence f = ap (λ b. slow_answered b s p (packet_answered name c stage.Confirm p)) f
early_told name c stage.Response s p shown free goes silence f = ap (λ b. slow_answered b s p (packet_answered name c stage.Response p)) f
early_told name c stage.Attach s p shown free goes silence f = ap (λ b. slow_answered b s p (packet_answered name c stage.Attach p)) f
early_told name c (stage.Joins user which) s p shown free goes silence f = ap (λ b. slow_answered b s p (packet_answered name c (stage.Joins user which) p)) f
early_told name c (stage.Licence user) s p shown free goes silence f = ap (λ b. slow_answered b s p (packet_answered name c (stage.Licence user) p)) f
early_told name c (stage.Demand user) s p shown free goes silence f = ap (λ b. slow_answered b s p (packet_answered name c (stage.Demand user) p)) f
early_told name c (stage.Finish user which) s p shown free goes silence f = ap (λ b. slow_answered b s p (packet_answered name c (stage.Finish user which) p)) f
early_told name c stage.Shown s p shown free goes silence f = absurd (let no : ⊥ = cc in no)
early_told name c stage.Over s p shown free goes silence f = absurd (let no : ⊥ = cc in no)
early_told name c (stage.Refused at) s p shown free goes silence f = absurd free

front_fast : (n : ℕ) (bytes : List ℕ) → 1 ≤ n → is_fast bytes ≡ true → is_fast (take n bytes) ≡ true
front_fast zero bytes some f = absurd (omega (arith, some))
front_fast (suc n) [] some f = f
front_fast (suc n) (v ∷ bs) some f = f

early_refused : (name : List ℕ) (c : Confirmed) (w : Watching) (n : ℕ) (bytes : List ℕ) → IsOpen w.at.stage w.at.shown → has_ended w.at.stage ≡ false → Shown c w.at ≡ None
    → host_packet_at (takes_fast c) (w.part ++ bytes) ≡ Whole n → is_fast (w.part ++ bytes) ≡ true → is_shown w.at.stage ≡ false → Refuses name c w w.at.place bytes
unfolding watched
early_refused name c w n bytes free goes none e f silence =
    let q : List ℕ = w.part ++ bytes in
    let p : List ℕ = take n q in
    let others : Cut = cut_of c (drop n q) in
    let after : Standing = record w.at { stage = stage.Refused w.at.place } in
    let some = ((reads_hosts (takes_fast c)).bounds q n e).0 in
    let first : packet_told name c w.at.stage w.at p ≡ silent after = early_told name c w.at.stage w.at p w.at.shown free goes silence (front_fast n q some f) in
    let told : packets_told name c w.at (p ∷ others.packets) ≡ silent after =
    ap (λ (t : Told). then_told t (packets_told name c t.after others.packets)) first ∙ ap (then_told (silent after)) (refused_told name c after others.packets w.at.place refl) in
    let cut : cut_of c q ≡ after_packets (p ∷ []) others = whole_is_cut (host_packet_at (takes_fast c)) (reads_hosts (takes_fast c)) q n e in (
      ap (λ (k : Cut). (cut_watched name c w.at k).text) cut ∙ ap (λ (t : Told). t.text) told,
      ap (λ (k : Cut). look_refusal c (cut_watched name c w.at k).after) cut
          ∙ ap (λ (t : Told). look_refusal c (record { at = t.after; part = others.rest })) told
          ∙ by_field c after others.rest w.at.place refl none,
    )

-- the first byte is of no packet that is awaited
neither_by : (r : Packet) (name : List ℕ) (c : Confirmed) (w : Watching) (bytes : List ℕ) → IsOpen w.at.stage w.at.shown → has_ended w.at.stage ≡ false → Shown c w.at ≡ None
    → host_packet_at (awaits_fast c w.at.stage) (w.part ++ bytes) ≡ NotTpkt → host_packet_at (takes_fast c) (w.part ++ bytes) ≡ r → Refuses name c w w.at.place bytes
neither_by (Whole n) name c w bytes free goes none stays e =
    let k = early_kind c w.at.stage (w.part ++ bytes) n stays e in
    early_refused name c w n bytes free goes none e k.0 k.1
neither_by Part name c w bytes free goes none stays e = head_refused name c w w.at.place NotTpkt bytes free goes none stays (uncut_by c (w.part ++ bytes) Part e) refl
neither_by NotTpkt name c w bytes free goes none stays e = head_refused name c w w.at.place NotTpkt bytes free goes none stays (uncut_by c (w.part ++ bytes) NotTpkt e) refl
neither_by BadLength name c w bytes free goes none stays e = head_refused name c w w.at.place NotTpkt bytes free goes none stays (uncut_by c (w.part ++ bytes) BadLength e) refl

pub version_refused : (name : List ℕ) (c : Confirmed) (w : Watching) (at : ℕ) → IsOpen w.at.stage w.at.shown → has_ended w.at.stage ≡ false → Shown c w.at ≡ None
    → host_packet_at (awaits_fast c w.at.stage) w.part ≡ NotTpkt → w.at.place ≡ at → IsRefusedFrom name c w at
version_refused name c w at free goes none e here bytes =
    subst (λ (k : ℕ). Refuses name c w k bytes) here
    (neither_by (host_packet_at (takes_fast c) (w.part ++ bytes)) name c w bytes free goes none (neither_stays (awaits_fast c w.at.stage) w.part bytes e) refl)

pub length_refused : (name : List ℕ) (c : Confirmed) (w : Watching) (at : ℕ) → IsOpen w.at.stage w.at.shown → has_ended w.at.stage ≡ false → Shown c w.at ≡ None
    → host_packet_at (awaits_fast c w.at.stage) w.part ≡ BadLength → place_behind w.at.place (length_place w.part) ≡ at → IsRefusedFrom name c w at
length_refused name c w at free goes none e here bytes =
    let stays = bad_stays (awaits_fast c w.at.stage) w.part bytes e in
    let cut = uncut_by c (w.part ++ bytes) BadLength (awaited_head c w.at.stage (w.part ++ bytes) BadLength stays (λ (f : BadLength ≡ NotTpkt). let no : ⊥ = cc in no)) in
    head_refused name c w at BadLength bytes free goes none stays cut (length_alike (awaits_fast c w.at.stage) w.part bytes w.at.place e ∙ ap Some here)
  where
    length_alike : (b : Bool) (xs ys : List ℕ) (place : ℕ) → host_packet_at b xs ≡ BadLength → Some (place_behind place (length_place (xs ++ ys))) ≡ Some (place_behind place (length_place xs))
    length_alike b [] ys place e = absurd (let no : ⊥ = cc in no)
    length_alike b (v ∷ xs) ys place e = refl

-- ---- what is shown

read_more : (c : Confirmed) (size : Size) (shown p : List ℕ) (start at : ℕ) (r : Result ClientReading Refusal) → read_stream c size shown ≡ r → shown_refusal start (Some r) ≡ Some at
    → shown_refusal start (Some (read_stream c size (shown ++ p))) ≡ Some at
read_more c size shown p start at (Ok k) e f = absurd (let h : ⊥ = cc in h)
read_more c size shown p start at (Err x) e f =
    ap (λ (r : Result ClientReading Refusal). shown_refusal start (Some r)) (read_joined c size (first_reading c size) shown p ∙ ap (λ (r : Result ClientReading Refusal). bind r (λ k. read_on c size k p)) e) ∙ f

more_refused : (c : Confirmed) (size : Option Size) (shown p : List ℕ) (start at : ℕ) → shown_refusal start (shown_read c size shown) ≡ Some at → shown_refusal start (shown_read c size (shown ++ p)) ≡ Some at
more_refused c None shown p start at e = absurd (let h : ⊥ = cc in h)
more_refused c (Some size) shown p start at e = read_more c size shown p start at (read_stream c size shown) refl e

-- it goes on, or has ended, and what is shown is refused
record IsShownRefused (c : Confirmed) (s : Standing) (at : ℕ) : Type 0 where
  here : (s.stage ≡ stage.Shown) ⊎ (s.stage ≡ stage.Over)
  refused : Shown c s ≡ Some at

record StaysRefused (c : Confirmed) (t : Told) (at : ℕ) : Type 0 where
  silence : t.text ≡ []
  after : IsShownRefused c t.after at

shown_by_refused : (c : Confirmed) (s : Standing) (p : List ℕ) (at : ℕ) (b : Bool) → s.stage ≡ stage.Shown → Shown c s ≡ Some at → IsShownRefused c (shown_by b s p) at
shown_by_refused c s p at true here e = record { here = inr refl; refused = e }
shown_by_refused c s p at false here e = record { here = inl here; refused = more_refused c s.size s.shown p s.start at e }

packet_refused : (name : List ℕ) (c : Confirmed) (s : Standing) (p : List ℕ) (at : ℕ) (here : (s.stage ≡ stage.Shown) ⊎ (s.stage ≡ stage.Over)) → Shown c s ≡ Some at
    → StaysRefused c (packet_told name c s.stage s p) at
packet_refused name c s p at (inl here) e = subst (λ (k : Stage). StaysRefused c (packet_told name c k s p) at) (sym here) (record { silence = refl; after = shown_by_refused c s p at (is_farewell p) here e })
packet_refused name c s p at (inr here) e = subst (λ (k : Stage). StaysRefused c (packet_told name c k s p) at) (sym here) (record { silence = refl; after = record { here = inr here; refused = e } })

packets_refused : (name : List ℕ) (c : Confirmed) (s : Standing) (ps : List (List ℕ)) (at : ℕ) → IsShownRefused c s at → StaysRefused c (packets_told name c s ps) at
packets_refused name c s [] at h = record { silence = refl; after = h }
packets_refused name c s (p ∷ ps) at h =
    let one = packet_refused name c s p at h.here h.refused in
    let after : Standing = (packet_told name c s.stage s p).after in
    let more = packets_refused name c after ps at one.after in
    record { silence = ap (λ (xs : List ℕ). xs ++ (packets_told name c after ps).text) one.silence ∙ more.silence; after = more.after }

shown_refused : (name : List ℕ) (c : Confirmed) (w : Watching) (at : ℕ) → w.at.stage ≡ stage.Shown → Shown c w.at ≡ Some at → IsRefusedFrom name c w at
unfolding watched
shown_refused name c w at here e bytes =
    let cut : Cut = cut_of c (w.part ++ bytes) in
    let told = packets_refused name c w.at cut.packets at (record { here = inl here; refused = e }) in
    let after : Standing = (packets_told name c w.at cut.packets).after in
    (told.silence, ap (λ (o : Option ℕ). first_refusal o (refusal_in c (record { at = after; part = cut.rest }))) told.after.refused)

-- ---- a packet

pub packet_stays : (name : List ℕ) (c : Confirmed) (w : Watching) (at : ℕ) → RefusesPacket c w.at at → IsRefusedFrom name c w at
packet_stays name c w at (inl h) = field_refused name c w at h.0 h.1
packet_stays name c w at (inr h) = shown_refused name c w at h.0 h.1
