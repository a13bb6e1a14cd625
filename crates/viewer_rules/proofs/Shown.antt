-- Packets of updates are shown one by one.
use Rattle.std.proofs.Common.{◌≡◌, ℕ, zero, suc, ◌+◌, ◌-◌, ◌⊎◌, Bool, true, false, List, [], ◌∷◌, ◌++◌, length, take, drop, refl, ap, sym, ◌∙◌, subst, arith, append_assoc, append-nil, inl, inr}
use Rattle.std.specs.Prelude.{Ok, Err, Result, None, flat_map, ◌≢◌, ◌==◌, ◌&&◌}
use Rattle.std.specs.List.{AllByRecursion}
use Rattle.std.proofs.Math.Seq.{take-length, drop-length}
use Rattle.std.proofs.lemmas.Bool.Decides.{nat_tests}
use Rattle.px_core.specs.declared.surface.Size.{Size}
use Rattle.caps_sets.specs.declared.confirmed.Confirmed.{Confirmed}
use Rattle.caps_sets.specs.Confirmed.{takes_fast}
use Rattle.wire_num.specs.Field.{Read, bind}
use Rattle.tpkt_x224.specs.declared.tpkt.Packet.{Packet}
use Rattle.tpkt_x224.specs.declared.tpkt.Packet.TheVariants.{Whole, Part, NotTpkt, BadLength}
use Rattle.tpkt_x224.specs.Tpkt.{IsPacket}
use Rattle.tpkt_x224.specs.Pieces.{Cut, packets_with, StartsWith}
use Rattle.tpkt_x224.proofs.Heads.{version_head}
use Rattle.tpkt_x224.proofs.AnyStream.{starts, none_left, stream_joined, each_packet}
use Rattle.fast_path.specs.Heads.{after_action}
use Rattle.fast_path.proofs.Heads.{action_never}
use Rattle.share_pdu.specs.Share.{Within}
use Rattle.share_pdu.specs.Packet.{indication_at}
use Rattle.order_means.specs.Updates.{BodyForm, Cutting, cutting, Updates, updates, before_updates, updates_from, whole_packet, fast_update_at, then_updates, more_updates, whole_fast, refusal_in as refusal_at}
use Rattle.order_means.specs.Updates.Stage.{Between, Refused}
use Rattle.order_means.specs.FastHeader.{behind_header}
use Rattle.order_means.specs.FrameMarks.{View, ClientReading, Refusal, reading, refused, reading_after, read_on, read_stream, first_reading, view_after_bodies, unless_refused_at}
use Rattle.order_means.proofs.Pieces.{read_joined}
use Rattle.order_means.proofs.Cut.{IsLeft, IsRefused, cuts_whole, part_left, version_refused, length_refused, fast_whole, fast_left, short_refused, first_refused}
use Rattle.viewer_rules.specs.declared.stage.Stage.TheVariants as stage
use Rattle.viewer_rules.specs.HostStream.{host_packet_at, IsHostPacket}
use Rattle.viewer_rules.specs.ViewerHandshake.{Standing, is_farewell, packet_told, packets_told, Watching, watched, refusal_in}
use Rattle.viewer_rules.specs.Shown.{IsShown, standing_at}
use Rattle.viewer_rules.proofs.HostStream.{kind, Tpkt, Fast, Other, at_tpkt, at_fast, at_other, host_whole, reads_hosts, host_alone}
use Rattle.viewer_rules.proofs.Farewell.{farewell_is_refused, whole_alone}

bind_ok : {A B E : Type 0} (r : Result A E) (f : A → Result B E) (y : B) → bind r f ≡ Ok y → (x : A) × (r ≡ Ok x) × (f x ≡ Ok y)
bind_ok (Ok x) f y e = (x, refl, e)
bind_ok (Err z) f y e = absurd (let h : ⊥ = cc in h)

-- ---- one packet

-- the packet's updates, and how the stream goes on
pub after_whole : ℕ → Read Within → Updates
after_whole end r = before_updates (whole_packet end r).bodies (updates [] (whole_packet end r).next)

-- a reading behind a whole packet is between packets, and the packet was no ultimatum
pub record ReadsPacket (p : List ℕ) (s : ClientReading) : Type 0 where
  pub between : (at : ℕ) × (s.cut ≡ cutting at Between)
  pub no_end : is_farewell p ≡ false

by_indication : (c : Confirmed) (size : Size) (v : View) (s : ClientReading) (end : ℕ) (r : Read Within)
    → reading_after c size v (after_whole end r) ≡ Ok s → ((at : ℕ) × (s.cut ≡ cutting at Between)) × ((left : List ℕ) → r ≡ Err left → ⊥)
unfolding after_whole
by_indication c size v s end (Ok w) e =
    let b = bind_ok (view_after_bodies c size v ((whole_packet end (Ok w)).bodies ++ [])) (λ view. unless_refused_at None (reading view (cutting end Between))) s e in
    ((end, ap (λ (x : ClientReading). x.cut) (sym (let same : reading b.0 (cutting end Between) ≡ s = cc in same))), λ left f. let h : ⊥ = cc in h)
by_indication c size v s end (Err left) e = absurd (let h : ⊥ = cc in h)

not_true : (b : Bool) → (b ≡ true → ⊥) → b ≡ false
not_true true h = absurd (h refl)
not_true false h = refl

tpkt_read : (c : Confirmed) (size : Size) (r s : ClientReading) (p : List ℕ) (at : ℕ) → r.cut ≡ cutting at Between → IsPacket p → read_on c size r p ≡ Ok s → ReadsPacket p s
unfolding after_whole
tpkt_read c size r s p at between is e =
    let n : ℕ = length p in
    let fast : Bool = takes_fast c in
    let cut : updates_from fast r.cut p ≡ after_whole (at + n) (indication_at (drop 4 p)) =
    ap (λ (k : Cutting). updates_from fast k p) between
    ∙ cuts_whole fast at n p (whole_alone p is)
    ∙ ap (λ (xs : List ℕ). before_updates (whole_packet (at + n) (indication_at (drop 4 xs))).bodies (updates_from fast (whole_packet (at + n) (indication_at (drop 4 xs))).next (drop n p))) (take-length p)
    ∙ ap (λ (xs : List ℕ). before_updates (whole_packet (at + n) (indication_at (drop 4 p))).bodies (updates_from fast (whole_packet (at + n) (indication_at (drop 4 p))).next xs)) (drop-length p) in
    let q = by_indication c size r.view s (at + n) (indication_at (drop 4 p)) (ap (reading_after c size r.view) (sym cut) ∙ e) in
    record {
      between = q.0;
      no_end = not_true (is_farewell p) (λ f. let x = farewell_is_refused p f in q.1 x.0 x.1);
    }

-- ---- one of the fast path

-- updates of a whole packet end between packets, or are refused
abbrev Ends : ℕ → Updates → Type 0
Ends end u = (u.next ≡ cutting end Between) ⊎ ((place : ℕ) × (u.next ≡ cutting end (Refused place)))

then_ends : (end : ℕ) (r : Read (BodyForm × List ℕ)) (others : List ℕ → Updates) → ((bs : List ℕ) → Ends end (others bs)) → Ends end (then_updates end r others)
then_ends end (Ok v) others h = h v.1
then_ends end (Err left) others h = inr (end - length left, refl)

more_ends : (most end : ℕ) (bs : List ℕ) → Ends end (more_updates most end bs)
more_ends zero end [] = inl refl
more_ends (suc most) end [] = inl refl
more_ends zero end (b ∷ bs) = inl refl
more_ends (suc most) end (b ∷ bs) = then_ends end (fast_update_at (b ∷ bs)) (more_updates most end) (more_ends most end)

whole_ends : (end : ℕ) (bs : List ℕ) → Ends end (whole_fast end bs)
whole_ends end bs = then_ends end (fast_update_at bs) (more_updates (length bs) end) (more_ends (length bs) end)

-- where they are read, they aren't refused
ends_between : (v : View) (s : ClientReading) (end : ℕ) (k : Cutting) → (k ≡ cutting end Between) ⊎ ((place : ℕ) × (k ≡ cutting end (Refused place)))
    → unless_refused_at (refusal_at k.stage) (reading v k) ≡ Ok s → s.cut ≡ cutting end Between
ends_between v s end k (inl is) e =
    let both : Ok (reading v (cutting end Between)) ≡ Ok s = ap (λ (x : Cutting). unless_refused_at (refusal_at x.stage) (reading v x)) (sym is) ∙ e in
    ap (λ (x : ClientReading). x.cut) (sym (let same : reading v (cutting end Between) ≡ s = cc in same))
ends_between v s end k (inr is) e =
    let both : refused is.0 ≡ Ok s = ap (λ (x : Cutting). unless_refused_at (refusal_at x.stage) (reading v x)) (sym is.1) ∙ e in
    absurd (let h : ⊥ = cc in h)

ended : (c : Confirmed) (size : Size) (v : View) (s : ClientReading) (end : ℕ) (u : Updates) → Ends end u → reading_after c size v u ≡ Ok s → s.cut ≡ cutting end Between
ended c size v s end u ends e =
    let b = bind_ok (view_after_bodies c size v u.bodies) (λ (w : View). unless_refused_at (refusal_at u.next.stage) (reading w u.next)) s e in
    ends_between b.0 s end u.next ends b.2

fast_read : (c : Confirmed) (size : Size) (r s : ClientReading) (v : ℕ) (bs : List ℕ) (at : ℕ) → r.cut ≡ cutting at Between → takes_fast c ≡ true → v ≡ 0 → after_action bs ≡ Whole (length (v ∷ bs))
    → read_on c size r (v ∷ bs) ≡ Ok s → ReadsPacket (v ∷ bs) s
fast_read c size r s v bs at between f z whole e =
    let n : ℕ = length (v ∷ bs) in
    let data_ : List ℕ = behind_header (take n (0 ∷ bs)) in
    let u : Updates = whole_fast (at + n) data_ in
    let cut : updates_from (takes_fast c) r.cut (v ∷ bs) ≡ before_updates u.bodies (updates [] u.next) =
    ap (λ (b : Bool). updates_from b r.cut (v ∷ bs)) f
    ∙ ap (λ (k : Cutting). updates_from true k (v ∷ bs)) between
    ∙ ap (λ (x : ℕ). updates_from true (cutting at Between) (x ∷ bs)) z
    ∙ fast_whole at n bs whole
    ∙ ap (λ (xs : List ℕ). before_updates u.bodies (updates_from true u.next xs)) (drop-length (0 ∷ bs)) in
    record {
      between = (at + n, ended c size r.view s (at + n) (before_updates u.bodies (updates [] u.next)) (whole_ends (at + n) data_) (ap (reading_after c size r.view) (sym cut) ∙ e));
      no_end = rw z refl;
    }

packet_read : (c : Confirmed) (size : Size) (r s : ClientReading) (p : List ℕ) (at : ℕ) → r.cut ≡ cutting at Between → IsHostPacket (takes_fast c) p → read_on c size r p ≡ Ok s → ReadsPacket p s
packet_read c size r s p at between (inl is) e = tpkt_read c size r s p at between is e
packet_read c size r s [] at between (inr is) e = absurd is.1
packet_read c size r s (v ∷ bs) at between (inr is) e =
    fast_read c size r s v bs at between is.0 is.1.0 (sym (at_fast (takes_fast c) v bs is.0 is.1.0) ∙ host_alone (takes_fast c) (v ∷ bs) (inr is)) e

-- ---- packets

abbrev pub all_of : List (List ℕ) → List ℕ
all_of packets = flat_map (λ packet. packet) packets

-- what is shown after packets that are read
pub record ShowsPackets (name : List ℕ) (c : Confirmed) (s : Standing) (ps : List (List ℕ)) (r : ClientReading) : Type 0 where
  pub goes_on : (packets_told name c s ps).after.stage ≡ stage.Shown
  pub shown : (packets_told name c s ps).after.shown ≡ s.shown ++ all_of ps
  pub between : (at : ℕ) × (r.cut ≡ cutting at Between)

one_shown : (name : List ℕ) (c : Confirmed) (s : Standing) (p : List ℕ) → s.stage ≡ stage.Shown → is_farewell p ≡ false
    → ((packet_told name c s.stage s p).after.stage ≡ stage.Shown) × ((packet_told name c s.stage s p).after.shown ≡ s.shown ++ p)
one_shown name c s p here goes = rw (here, goes) (refl, refl)

-- no bytes leave a reading where it was
no_more : (c : Confirmed) (size : Size) (v : View) (t : ClientReading) (at : ℕ) (k : Cutting) → k ≡ cutting at Between → reading_after c size v (updates_from (takes_fast c) k []) ≡ Ok t
    → t.cut ≡ cutting at Between
no_more c size v t at k e ok =
    let same : reading_after c size v (updates_from (takes_fast c) k []) ≡ Ok (reading v (cutting at Between)) = ap (λ (x : Cutting). reading_after c size v (updates_from (takes_fast c) x [])) e in
    let both : Ok (reading v (cutting at Between)) ≡ Ok t = sym same ∙ ok in
    ap (λ (x : ClientReading). x.cut) (sym (let h : reading v (cutting at Between) ≡ t = cc in h))

pub packets_shown : (name : List ℕ) (c : Confirmed) (size : Size) (s : Standing) (r t : ClientReading) (ps : List (List ℕ)) (at : ℕ)
    → s.stage ≡ stage.Shown → r.cut ≡ cutting at Between → AllByRecursion (IsHostPacket (takes_fast c)) ps → read_on c size r (all_of ps) ≡ Ok t → ShowsPackets name c s ps t
packets_shown name c size s r t [] at here between each e =
    record { goes_on = here; shown = sym (append-nil s.shown); between = (at, no_more c size r.view t at r.cut between e) }
packets_shown name c size s r t (p ∷ ps) at here between each e =
    let b = bind_ok (read_on c size r p) (λ k. read_on c size k (all_of ps)) t (sym (read_joined c size r p (all_of ps)) ∙ e) in
    let one = packet_read c size r b.0 p at between each.0 b.1 in
    let told = one_shown name c s p here one.no_end in
    let after : Standing = (packet_told name c s.stage s p).after in
    let more = packets_shown name c size after b.0 t ps one.between.0 told.0 one.between.1 each.1 b.2 in
    record {
      goes_on = more.goes_on;
      shown = more.shown ∙ ap (λ (xs : List ℕ). xs ++ all_of ps) told.1 ∙ append_assoc s.shown p (all_of ps);
      between = more.between;
    }

-- ---- bytes

-- what is left of a packet shows nothing
pub record ShowsRest (c : Confirmed) (r t : ClientReading) (rest : List ℕ) : Type 0 where
  pub part : host_packet_at (takes_fast c) rest ≡ Part
  pub view : r.view ≡ t.view

-- without an update, and refused or not
abbrev without_bodies : View → Updates → Result ClientReading Refusal
without_bodies v u = unless_refused_at (refusal_at u.next.stage) (reading v u.next)

left_view : (c : Confirmed) (size : Size) (v : View) (t : ClientReading) (u : Updates) (bytes : List ℕ) → IsLeft u bytes → reading_after c size v u ≡ Ok t → v ≡ t.view
left_view c size v t u bytes left ok =
    let same : reading_after c size v u ≡ Ok (reading v u.next) =
    ap (λ bs. bind (view_after_bodies c size v bs) (λ w. without_bodies w u)) left.0 ∙ ap (λ o. unless_refused_at o (reading v u.next)) left.2 in
    let both : Ok (reading v u.next) ≡ Ok t = sym same ∙ ok in
    ap (λ (x : ClientReading). x.view) (let h : reading v u.next ≡ t = cc in h)

never_read : (c : Confirmed) (size : Size) (v : View) (t : ClientReading) (u : Updates) (place : ℕ) → IsRefused u place → reading_after c size v u ≡ Ok t → ⊥
never_read c size v t u place is ok =
    let same : reading_after c size v u ≡ refused place =
    ap (λ bs. bind (view_after_bodies c size v bs) (λ w. without_bodies w u)) is.0 ∙ ap (λ o. unless_refused_at o (reading v u.next)) is.1 in
    let both : refused place ≡ Ok t = sym same ∙ ok in
    let h : ⊥ = cc in h

other_refused : (fast : Bool) (at v : ℕ) (bs : List ℕ) → v ≢ 3 → (fast && (v == 0)) ≡ false → IsRefused (updates_from fast (cutting at Between) (v ∷ bs)) at
other_refused false at v bs t f = version_refused at (v ∷ bs) ((version_head (v ∷ bs)).1 t)
other_refused true at v bs t f = first_refused at v bs t (grind (arith, nat_tests, f))

module _ (fast : Bool) (at : ℕ) where
  host_left : (bytes : List ℕ) → host_packet_at fast bytes ≡ Part → IsLeft (updates_from fast (cutting at Between) bytes) bytes
  host_left [] e = part_left fast at [] refl
  host_left (v ∷ bs) e = elim (kind fast v) [
    | Tpkt t ↦ part_left fast at (v ∷ bs) (sym (at_tpkt fast v bs t) ∙ e)
    | Fast f z ↦
        let left : IsLeft (updates_from true (cutting at Between) (0 ∷ bs)) (0 ∷ bs) = fast_left at bs (sym (at_fast fast v bs f z) ∙ e) in
        subst (λ (b : Bool). IsLeft (updates_from b (cutting at Between) (v ∷ bs)) (v ∷ bs)) (sym f)
        (subst (λ (x : ℕ). IsLeft (updates_from true (cutting at Between) (x ∷ bs)) (x ∷ bs)) (sym z) left)
    | Other t f ↦ absurd (let g = sym (at_other fast v bs t f) ∙ e in let no : ⊥ = cc in no)
  ]

  host_refused : (bytes : List ℕ) → host_packet_at fast bytes ≡ NotTpkt → IsRefused (updates_from fast (cutting at Between) bytes) at
  host_refused [] e = absurd (let no : ⊥ = cc in no)
  host_refused (v ∷ bs) e = elim (kind fast v) [
    | Tpkt t ↦ absurd ((version_head (v ∷ bs)).0 (sym (at_tpkt fast v bs t) ∙ e) t)
    | Fast f z ↦ absurd (action_never bs (sym (at_fast fast v bs f z) ∙ e))
    | Other t f ↦ other_refused fast at v bs t f
  ]

  host_length_refused : (bytes : List ℕ) → host_packet_at fast bytes ≡ BadLength → (place : ℕ) × IsRefused (updates_from fast (cutting at Between) bytes) place
  host_length_refused [] e = absurd (let no : ⊥ = cc in no)
  host_length_refused (v ∷ bs) e = elim (kind fast v) [
    | Tpkt t ↦ (at + 2, length_refused fast at (v ∷ bs) (sym (at_tpkt fast v bs t) ∙ e))
    | Fast f z ↦
        let short : IsRefused (updates_from true (cutting at Between) (0 ∷ bs)) (at + 1) = short_refused at bs (sym (at_fast fast v bs f z) ∙ e) in (
          at + 1,
          subst (λ (b : Bool). IsRefused (updates_from b (cutting at Between) (v ∷ bs)) (at + 1)) (sym f)
              (subst (λ (x : ℕ). IsRefused (updates_from true (cutting at Between) (x ∷ bs)) (at + 1)) (sym z) short),
        )
    | Other t f ↦ absurd (let g = sym (at_other fast v bs t f) ∙ e in let no : ⊥ = cc in no)
  ]

rest_by : (c : Confirmed) (size : Size) (r t : ClientReading) (rest : List ℕ) (at : ℕ) (h : Packet) → host_packet_at (takes_fast c) rest ≡ h
    → (StartsWith (IsHostPacket (takes_fast c)) rest → ⊥) → reading_after c size r.view (updates_from (takes_fast c) (cutting at Between) rest) ≡ Ok t → ShowsRest c r t rest
rest_by c size r t rest at (Whole n) is none ok =
    absurd (none (starts (host_packet_at (takes_fast c)) (IsHostPacket (takes_fast c)) (reads_hosts (takes_fast c)) (host_whole (takes_fast c)) rest n is))
rest_by c size r t rest at Part is none ok =
    record { part = is; view = left_view c size r.view t (updates_from (takes_fast c) (cutting at Between) rest) rest (host_left (takes_fast c) at rest is) ok }
rest_by c size r t rest at NotTpkt is none ok =
    absurd (never_read c size r.view t (updates_from (takes_fast c) (cutting at Between) rest) at (host_refused (takes_fast c) at rest is) ok)
rest_by c size r t rest at BadLength is none ok =
    let x = host_length_refused (takes_fast c) at rest is in
    absurd (never_read c size r.view t (updates_from (takes_fast c) (cutting at Between) rest) x.0 x.1 ok)

rest_shown : (c : Confirmed) (size : Size) (r t : ClientReading) (rest : List ℕ) (at : ℕ) → r.cut ≡ cutting at Between
    → (StartsWith (IsHostPacket (takes_fast c)) rest → ⊥) → read_on c size r rest ≡ Ok t → ShowsRest c r t rest
rest_shown c size r t rest at between none e =
    rest_by c size r t rest at (host_packet_at (takes_fast c) rest) refl none
    (ap (λ (k : Cutting). reading_after c size r.view (updates_from (takes_fast c) k rest)) (sym between) ∙ e)

unrefused : (c : Confirmed) (w : Watching) → w.at.stage ≡ stage.Shown → host_packet_at (takes_fast c) w.part ≡ Part → refusal_in c w ≡ None
unrefused c w here part = rw (here, part) refl

pub frames_shown : (name : List ℕ) (c : Confirmed) (size : Size) (s : Standing) (bytes : List ℕ) (r : ClientReading) → s.stage ≡ stage.Shown → s.shown ≡ []
    → read_stream c size bytes ≡ Ok r → IsShown c size (watched name c (standing_at s) bytes).after r
unfolding watched
frames_shown name c size s bytes r here none e =
    let fast : Bool = takes_fast c in
    let head = host_packet_at fast in
    let cut : Cut = packets_with head bytes in
    let whole : read_on c size (first_reading c size) (all_of cut.packets ++ cut.rest) ≡ Ok r =
    ap (read_on c size (first_reading c size)) (stream_joined head (IsHostPacket fast) (reads_hosts fast) (host_whole fast) bytes) ∙ e in
    let b = bind_ok (read_on c size (first_reading c size) (all_of cut.packets)) (λ k. read_on c size k cut.rest) r
    (sym (read_joined c size (first_reading c size) (all_of cut.packets) cut.rest) ∙ whole) in
    let each = each_packet head (IsHostPacket fast) (reads_hosts fast) (host_whole fast) bytes in
    let shown = packets_shown name c size s (first_reading c size) b.0 cut.packets 0 here refl each b.1 in
    let left = none_left head (IsHostPacket fast) (reads_hosts fast) (host_whole fast) bytes in
    let rest = rest_shown c size b.0 r cut.rest shown.between.0 shown.between.1 left b.2 in
    let w : Watching = record { at = (packets_told name c s cut.packets).after; part = cut.rest } in
    record {
      goes_on = shown.goes_on;
      unrefused = unrefused c w shown.goes_on rest.part;
      reading = b.0;
      reads = ap (read_stream c size) (shown.shown ∙ ap (λ (xs : List ℕ). xs ++ all_of cut.packets) none) ∙ b.1;
      view = rest.view;
    }
