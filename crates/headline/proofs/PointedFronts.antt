-- A front of what a viewer is sent with its pointers, wherever it is cut: at its marks the viewer shows the first takes' pictures, and the pointers of the same takes.
use Rattle.std.proofs.Common.{◌≡◌, ℕ, zero, suc, ◌+◌, ◌-◌, ◌*◌, Bool, true, false, List, [], ◌∷◌, ◌++◌, length, map, take, drop, refl, ap, sym, ◌∙◌, subst, arith, length-append, Some, None, ◌⊎◌, inl, inr}
use Rattle.std.specs.Prelude.{Option, Result, Ok, Err, nat_lt, filter, option_map, option_and_then, replicate, if◌then◌else◌}
use Rattle.std.proofs.lemmas.List.{length-replicate, length-map, map-append, take-append-drop, take-map}
use Rattle.std.proofs.lemmas.List.Elements.{filter-append}
use Rattle.std.proofs.Math.Seq.{take-append_seam}
use Rattle.px_core.specs.declared.surface.Size.{Size}
use Rattle.caps_sets.specs.declared.confirmed.Confirmed.{Confirmed}
use Rattle.caps_sets.specs.Confirmed.{depth_of, takes_fast}
use Rattle.wire_num.specs.Field.{Read, bind}
use Rattle.wire_num.specs.Caused.{before_caused}
use Rattle.px_core.specs.declared.depth.Depth.{Depth}
use Rattle.session_rules.specs.declared.entry.Entry.{Entry}
use Rattle.session_rules.specs.Journal.{Head, picture_after_entries}
use Rattle.session_rules.specs.Steps.{journal_of_steps, frame_numbers}
use Rattle.script_rules.specs.Script.{Asked}
use Rattle.order_means.specs.Updates.{Stage, Cutting, cutting, updates, updates_by, updates_from, fast_begun, fast_inside, refusal_in}
use Rattle.order_means.specs.Updates.Stage.{Between as NoneBegun, One, Two, Three, Inside as Behind, Fast, FastLong as FastHigh, FastInside, Refused}
use Rattle.order_means.specs.FrameMarks.{Refusal, ClientReading, reading, first_reading, unless_refused_at, view_after_bodies, reading_after, read_on, read_stream, pictures_at_marks}
use Rattle.order_means.specs.PointerPackets.{pointer_content, is_read, is_pointer}
use Rattle.order_means.specs.Packets.{Pieces, before_pieces, held_in, pieces_by, pieces_from, pieces_in, kept_pieces, without_pointers, pointer_packets}
use Rattle.order_means.specs.Packets.PacketStage.{Between}
use Rattle.order_means.proofs.Pieces.{read_joined}
use Rattle.order_means.proofs.PieceJoined.{pieces_joined}
use Rattle.order_means.proofs.ReadPieces.{stage_of, IsSound, all_agree}
use Rattle.frame_rules.specs.Pointers.{Shape}
use Rattle.pointer_share.specs.declared.fault.Cause.{Cause}
use Rattle.pointer_share.specs.Views.{View, view_by, message_in, pointed, view_in, view_fed}
use Rattle.headline.specs.Headline.{known_picture, pictures_after, steps_of, confirmed_in, SeesJournal, EveryViewerSeesTheJournal}
use Rattle.headline.specs.Fronts.{IsFront, SeesFirstOfJournal, SeesFirst, EveryViewerSeesTheFirst}
use Rattle.headline.specs.Pointed.{Watching, first_watching, marks_more, watched_by, watched_as, watched_all, shape_after, packets_told, SeesPointers}
use Rattle.headline.proofs.PointerFronts.{fronts_without, IsCutting, kept_between, whole_from, held_from, reads_between, unrefused_by, nothing_read, held_or_cutting}
use Rattle.headline.proofs.StreamFronts.{front_of_itself, front_of_front, ReadingExtends, reading_on_extends}
use Rattle.headline.proofs.Takes.{read_to}
use Rattle.headline.proofs.Watched.{other_fed, watched_append, watched_to, front_length, reads_no_more}

-- ---- a packet that isn't whole brings no update

-- a header of the fast path brings none
begun_silent : (next place n : ℕ) (head : List ℕ) → (fast_begun next place n head).bodies ≡ []
begun_silent next place n head = by (nat_lt n (length head)) (n - length head)
  where
    by : (t : Bool) (m : ℕ) → (if t then updates [] (cutting next (Refused place)) else fast_inside next m head).bodies ≡ []
    by true m = refl
    by false zero = refl
    by false (suc m) = refl

byte_silent : (fast : Bool) (at : ℕ) (s : Stage) (b : ℕ) → (pieces_by (stage_of s) b).pieces ≡ [] → (updates_by fast at s b).bodies ≡ []
byte_silent fast at NoneBegun b none = refl
byte_silent fast at One b none = refl
byte_silent fast at (Two second) b none = refl
byte_silent fast at (Three second high) b none = refl
byte_silent fast at (Behind zero second high low front) b none = absurd (let no : ⊥ = cc in no)
byte_silent fast at (Behind (suc n) second high low front) b none = refl
byte_silent fast at Fast b none = by (nat_lt b 128)
  where
    by : (t : Bool) → (if t then fast_begun (at + 1) at b (0 ∷ b ∷ []) else updates [] (cutting (at + 1) (FastHigh b))).bodies ≡ []
    by true = begun_silent (at + 1) at b (0 ∷ b ∷ [])
    by false = refl
byte_silent fast at (FastHigh high) b none = begun_silent (at + 1) (at - 1) (256 * (high - 128) + b) (0 ∷ high ∷ b ∷ [])
byte_silent fast at (FastInside zero head front) b none = absurd (let no : ⊥ = cc in no)
byte_silent fast at (FastInside (suc n) head front) b none = refl
byte_silent fast at (Refused place) b none = refl

-- what isn't refused in the end never was
stays_refused : (fast : Bool) (at place : ℕ) (bs : List ℕ) → refusal_in (updates_from fast (cutting at (Refused place)) bs).next.stage ≡ Some place
stays_refused fast at place [] = refl
stays_refused fast at place (b ∷ bs) = stays_refused fast (at + 1) place bs

never_refused : (fast : Bool) (at : ℕ) (s : Stage) (bs : List ℕ) → refusal_in (updates_from fast (cutting at s) bs).next.stage ≡ None → refusal_in s ≡ None
never_refused fast at NoneBegun bs none = refl
never_refused fast at One bs none = refl
never_refused fast at (Two second) bs none = refl
never_refused fast at (Three second high) bs none = refl
never_refused fast at (Behind missing second high low front) bs none = refl
never_refused fast at Fast bs none = refl
never_refused fast at (FastHigh high) bs none = refl
never_refused fast at (FastInside missing head front) bs none = refl
never_refused fast at (Refused place) bs none = sym (stays_refused fast at place bs) ∙ none

both_empty : {A : Type 0} (xs ys : List A) → xs ++ ys ≡ [] → (xs ≡ []) × (ys ≡ [])
both_empty [] ys e = (refl, e)
both_empty (x ∷ xs) ys e = absurd (cc e)

-- bytes that end no packet
silent : (fast : Bool) (at : ℕ) (s : Stage) (bs : List ℕ) → IsSound s → refusal_in (updates_from fast (cutting at s) bs).next.stage ≡ None
    → (pieces_from (stage_of s) bs).pieces ≡ [] → (updates_from fast (cutting at s) bs).bodies ≡ []
silent fast at s [] sound calm none = refl
silent fast at s (b ∷ bs) sound calm none =
    let next = (updates_by fast at s b).next in
    let both = both_empty (pieces_by (stage_of s) b).pieces (pieces_from (pieces_by (stage_of s) b).next bs).pieces none in
    let one = all_agree fast at s (b ∷ []) sound (never_refused fast next.place next.stage bs calm) in
    let more = silent fast next.place next.stage bs one.sound calm
    (ap (λ t. (pieces_from t bs).pieces) (sym one.same) ∙ both.1) in
    ap (λ bodies. bodies ++ (updates_from fast next bs).bodies) (byte_silent fast at s b both.0) ∙ more

module _ (c : Confirmed) (size : Size) where
  -- a viewer between packets reads on in one, and sees nothing more
  part_unseen : (r s : ClientReading) (held : List ℕ) → r.cut.stage ≡ NoneBegun → (pieces_in held).pieces ≡ [] → read_on c size r held ≡ Ok s
      → s.view ≡ r.view
  part_unseen r s held between none e =
      let at = r.cut.place in
      let u = updates_from (takes_fast c) (cutting at NoneBegun) held in
      let here : read_on c size r held ≡ bind (view_after_bodies c size r.view u.bodies) (λ w. unless_refused_at (refusal_in u.next.stage) (reading w u.next)) =
      ap (λ (t : Stage). reading_after c size r.view (updates_from (takes_fast c) (cutting at t) held)) between in
      let calm = unrefused_by c size (view_after_bodies c size r.view u.bodies) (refusal_in u.next.stage) u.next s (sym here ∙ e) in
      let quiet = silent (takes_fast c) at NoneBegun held tt calm none in
      let same : Ok (reading r.view u.next) ≡ Ok s = sym (nothing_read c size r.view u.bodies (refusal_in u.next.stage) u.next quiet calm) ∙ sym here ∙ e in
      ap (λ (x : ClientReading). x.view) (sym (let h : reading r.view u.next ≡ s = cc in h))

-- ---- whole packets, with those of pointers

-- a packet of a pointer is known as one, or it is refused
abbrev known_as : Result (View × Bool) (Cause × ℕ) → Bool
known_as (Ok fed) = fed.1
known_as (Err fault) = true

apart : false ≡ true → ⊥
apart e = cc

pointed_by_kind : (r : Result View (Cause × ℕ)) → known_as (pointed r) ≡ true
pointed_by_kind (Ok x) = refl
pointed_by_kind (Err fault) = refl

pointer_by_kind : (wide : Bool) (v : View) (packet : List ℕ) (r : Read (List ℕ)) → is_read r ≡ true → known_as (view_in wide v packet r) ≡ true
pointer_by_kind wide v packet (Ok content) is = pointed_by_kind (view_by v packet (before_caused content.1 (message_in wide v.cells content.0)))
pointer_by_kind wide v packet (Err left) is = absurd (cc is)

-- what a viewer has read of whole packets, without those of pointers: it isn't refused, and it shows as many pointers as pictures
record ReadsKept (c : Confirmed) (size : Size) (w v : Watching) (ps : List (List ℕ)) : Type 0 where
  reads : read_on c size w.reading (kept_pieces ps) ≡ Ok v.reading
  calm : refusal_in v.reading.cut.stage ≡ None
  as_many : length v.shapes ≡ length v.reading.view.pictures
  grows : IsFront w.shapes v.shapes

module _ (c : Confirmed) (size : Size) where
  -- what was read on isn't refused
  reads_calm : (r s : ClientReading) (bytes : List ℕ) → read_on c size r bytes ≡ Ok s → refusal_in s.cut.stage ≡ None
  reads_calm r s bytes e =
      let u = updates_from (takes_fast c) r.cut bytes in
      let calm = unrefused_by c size (view_after_bodies c size r.view u.bodies) (refusal_in u.next.stage) u.next s e in
      ap (λ (cut : Cutting). refusal_in cut.stage) (sym (read_to c size r s bytes e)) ∙ calm

  -- with the shape that it shows at each mark of what it reads on
  as_many_on : (w : Watching) (q : ClientReading) → length w.shapes ≡ length w.reading.view.pictures → IsFront w.reading.view.pictures q.view.pictures
      → length (watched_to w q).shapes ≡ length q.view.pictures
  as_many_on w q same front =
      let fits = front_length w.reading.view.pictures q.view.pictures front in
      let n = marks_more w.reading q in
      let some : length (replicate n w.pointer.shown) ≡ n = length-replicate n w.pointer.shown in
      let both : length (w.shapes ++ replicate n w.pointer.shown) ≡ length w.shapes + length (replicate n w.pointer.shown) =
      length-append w.shapes (replicate n w.pointer.shown) in
      omega (arith, both, some, same, fits)

  reads_kept : (ps : List (List ℕ)) (w v : Watching) → refusal_in w.reading.cut.stage ≡ None → length w.shapes ≡ length w.reading.view.pictures
      → watched_all c size w ps ≡ Some v → ReadsKept c size w v ps
  reads_kept [] w v calm same e =
      let is : w ≡ v = cc in
      subst (λ x. ReadsKept c size w x []) is
      (record {
        reads = ap (λ o. unless_refused_at o w.reading) calm;
        calm = calm;
        as_many = same;
        grows = front_of_itself w.shapes;
      })
  reads_kept (p ∷ ps) w v calm same e =
      by (λ next calm same more. reads_kept ps next v calm same more) (is_pointer p) refl (view_fed c.cautious w.pointer p) refl e
    where
      -- what is read of the packets behind it
      Behind : Type 0
      Behind = (next : Watching) → refusal_in next.reading.cut.stage ≡ None → length next.shapes ≡ length next.reading.view.pictures
          → watched_all c size next ps ≡ Some v → ReadsKept c size next v ps

      cut_on : Bool → List ℕ
      cut_on b = (if b then [] else p) ++ kept_pieces ps

      -- a packet of updates
      by_reading : Behind → (r : Result ClientReading Refusal) → read_on c size w.reading p ≡ r → is_pointer p ≡ false
          → option_and_then (λ next. watched_all c size next ps) (watched_by w r) ≡ Some v → ReadsKept c size w v (p ∷ ps)
      by_reading behind (Err refusal) read other more = absurd (cc more)
      by_reading behind (Ok q) read other more =
          let next = watched_to w q in
          let front = subst (ReadingExtends w.reading.view.pictures) read (reading_on_extends c size w.reading p) in
          let rest = behind next (reads_calm w.reading q p read) (as_many_on w q same front) more in
          record {
            reads = ap (λ b. read_on c size w.reading (cut_on b)) other ∙ read_joined c size w.reading p (kept_pieces ps)
                ∙ ap (λ r. bind r (λ s. read_on c size s (kept_pieces ps))) read ∙ rest.reads;
            calm = rest.calm;
            as_many = rest.as_many;
            grows = front_of_front w.shapes next.shapes v.shapes (record { rest = replicate (marks_more w.reading q) w.pointer.shown; joined = refl }) rest.grows;
          }

      by : Behind → (b : Bool) → is_pointer p ≡ b → (fed : Result (View × Bool) (Cause × ℕ)) → view_fed c.cautious w.pointer p ≡ fed
          → option_and_then (λ next. watched_all c size next ps) (watched_as c size w p fed) ≡ Some v → ReadsKept c size w v (p ∷ ps)
      by behind b kind (Err fault) fed more = absurd (cc more)
      by behind true kind (Ok (x, false)) fed more =
          absurd (apart (sym (ap known_as fed) ∙ pointer_by_kind c.cautious w.pointer p (pointer_content p) kind))
      by behind true kind (Ok (x, true)) fed more =
          let next : Watching = record w { pointer = x } in
          let rest = behind next calm same more in
          record {
            reads = ap (λ b. read_on c size w.reading (cut_on b)) kind ∙ rest.reads;
            calm = rest.calm;
            as_many = rest.as_many;
            grows = rest.grows;
          }
      by behind false kind (Ok (x, true)) fed more =
          absurd (apart (ap known_as (sym (other_fed c.cautious w.pointer p kind) ∙ fed)))
      by behind false kind (Ok (x, false)) fed more = by_reading behind (read_on c size w.reading p) refl kind more

-- ---- fronts

-- the first pictures are those after the first numbers
first_pictures : (depth : Depth) (size : Size) (j : List Entry) (numbers : List ℕ) (shown : List (List (Option ℕ)))
    → IsFront shown (pictures_after depth size j numbers)
    → pictures_after depth size j (take (length shown) numbers) ≡ shown
first_pictures depth size j numbers shown h =
    sym (take-map (λ n. known_picture depth (picture_after_entries size j n)) (length shown) numbers) ∙ ap (take (length shown)) h.joined
    ∙ take-append_seam shown h.rest

pub first_numbers : (depth : Depth) (size : Size) (j : List Entry) (numbers : List ℕ) (shown : List (List (Option ℕ)))
    → IsFront shown (pictures_after depth size j numbers)
    → (seen : List ℕ) × (IsFront seen numbers × (pictures_after depth size j seen ≡ shown))
first_numbers depth size j numbers shown h = (
  take (length shown) numbers,
  (record { rest = drop (length shown) numbers; joined = sym (take-append-drop (length shown) numbers) }, first_pictures depth size j numbers shown h),
)

-- a front of bytes that show a journal without the packets of pointers
pub front_sees : (size : Size) (confirmed : Confirmed) (j : List Entry) (numbers written front : List ℕ)
    → SeesJournal size confirmed j numbers (without_pointers written) → IsFront front written
    → SeesFirstOfJournal size confirmed j numbers (without_pointers front)
front_sees size confirmed j numbers written front sees h =
    let marks = ap (λ bytes. pictures_at_marks confirmed size (without_pointers bytes)) (sym h.joined) ∙ sees.marks_show_journal in
    let first = fronts_without confirmed size front h.rest (pictures_after (depth_of confirmed) size j numbers) marks in
    let seen = first_numbers (depth_of confirmed) size j numbers first.shown first.are_first in
    record { seen = seen.0; are_first = seen.1.0; marks_show_journal = first.marks_show ∙ ap Ok (sym seen.1.1) }

-- two fronts of a list that are as long are the same
same_fronts : {A : Type 0} (xs ys zs : List A) → IsFront xs zs → IsFront ys zs → length xs ≡ length ys → xs ≡ ys
same_fronts xs ys zs a b same =
    sym (take-append_seam xs a.rest) ∙ ap (take (length xs)) (sym a.joined ∙ b.joined) ∙ ap (λ n. take n (ys ++ b.rest)) same ∙ take-append_seam ys b.rest

abbrev pictures_or : List (List (Option ℕ)) → Result (List (List (Option ℕ))) Refusal → List (List (Option ℕ))
pictures_or none (Ok pictures) = pictures
pictures_or none (Err refusal) = none

abbrev shapes_or : List (Option Shape) → Option (List (Option Shape)) → List (Option Shape)
shapes_or none (Some shapes) = shapes
shapes_or none None = none

-- a front of a viewer's bytes that show it a journal and the pointers of it
pub front_sees_both : (size : Size) (c : Confirmed) (j : List Entry) (numbers written front : List ℕ) → SeesJournal size c j numbers (without_pointers written)
    → SeesPointers size c j numbers written → IsFront front written → SeesFirst size c j numbers front
front_sees_both size c j numbers written front sees points h =
    by (watched_all c size first f.pieces) refl (sym whole ∙ points.marks_show_pointers)
  where
    f : Pieces
    f = pieces_in front

    more : Pieces
    more = pieces_from f.next h.rest

    first : Watching
    first = first_watching c size

    due : List (Option Shape)
    due = map (λ n. shape_after c size j n) numbers

    cut : pieces_in written ≡ before_pieces f.pieces more
    cut = ap pieces_in h.joined ∙ pieces_joined Between front h.rest

    whole : option_map (λ w. w.shapes) (watched_all c size first (pieces_in written).pieces)
        ≡ option_map (λ w. w.shapes) (option_and_then (λ w. watched_all c size w more.pieces) (watched_all c size first f.pieces))
    whole = ap (λ p. option_map (λ w. w.shapes) (watched_all c size first p.pieces)) cut
        ∙ ap (option_map (λ w. w.shapes)) (watched_append c size first f.pieces more.pieces)

    pictures : SeesFirstOfJournal size c j numbers (without_pointers front)
    pictures = front_sees size c j numbers written front sees h

    shown : List (List (Option ℕ))
    shown = pictures_after (depth_of c) size j pictures.seen

    packets : IsFront (pointer_packets front) (packets_told c size j [] numbers)
    packets = record {
      rest = filter is_pointer more.pieces;
      joined = sym points.packets_are_told ∙ ap (λ p. filter is_pointer p.pieces) cut ∙ filter-append is_pointer f.pieces more.pieces;
    }

    -- as many pictures were shown as there are in the whole packets
    unseen : (w : Watching) → read_stream c size (kept_pieces f.pieces) ≡ Ok w.reading → refusal_in w.reading.cut.stage ≡ None
        → (held_in f.next ≡ []) ⊎ IsCutting f.next → (s : ClientReading) → read_on c size w.reading (held_in f.next) ≡ Ok s → s.view ≡ w.reading.view
    unseen w reads calm (inl none) s e =
        ap (λ r. r.view) (sym (reads_no_more c size w.reading s (refusal_in w.reading.cut.stage) (ap (read_on c size w.reading) (sym none) ∙ e)))
    unseen w reads calm (inr cuts) s e =
        part_unseen c size w.reading s (held_in f.next)
        (reads_between c size (kept_pieces f.pieces) w.reading reads (kept_between f.pieces (whole_from Between front refl cuts)))
        (ap (λ p. p.pieces) (held_from Between front refl cuts)) e

    as_many : (w : Watching) → ReadsKept c size first w f.pieces → (r : Result ClientReading Refusal) → read_on c size w.reading (held_in f.next) ≡ r
        → bind r (λ s. Ok s.view.pictures) ≡ Ok shown → length w.reading.view.pictures ≡ length pictures.seen
    as_many w kept (Err refusal) e same = absurd (cc same)
    as_many w kept (Ok s) e same =
        ap (λ v. length v.pictures) (sym (unseen w kept.reads kept.calm (held_or_cutting f.next) s e))
        ∙ ap (λ r. length (pictures_or shown r)) same
        ∙ length-map pictures.seen (λ n. known_picture (depth_of c) (picture_after_entries size j n))

    shows : (w after : Watching) → ReadsKept c size first w f.pieces → ReadsKept c size w after more.pieces → after.shapes ≡ due
        → w.shapes ≡ map (λ n. shape_after c size j n) pictures.seen
    shows w after kept later is =
        let at : ℕ → Option Shape = λ n. shape_after c size j n in
        let joined : pictures_at_marks c size (without_pointers front) ≡ bind (read_on c size w.reading (held_in f.next)) (λ s. Ok s.view.pictures) =
        ap (λ r. bind r (λ s. Ok s.view.pictures))
        (read_joined c size (first_reading c size) (kept_pieces f.pieces) (held_in f.next) ∙ ap (λ r. bind r (λ s. read_on c size s (held_in f.next))) kept.reads) in
        let count : length w.reading.view.pictures ≡ length pictures.seen = as_many w kept (read_on c size w.reading (held_in f.next)) refl (sym joined ∙ pictures.marks_show_journal) in
        let seen_first : IsFront (map at pictures.seen) due = record {
          rest = map at pictures.are_first.rest;
          joined = ap (map at) pictures.are_first.joined ∙ map-append at pictures.seen pictures.are_first.rest;
        } in
        same_fronts w.shapes (map at pictures.seen) due (subst (IsFront w.shapes) is later.grows) seen_first
        (kept.as_many ∙ count ∙ sym (length-map pictures.seen at))

    by_rest : (w : Watching) → watched_all c size first f.pieces ≡ Some w → (o : Option Watching) → watched_all c size w more.pieces ≡ o
        → option_map (λ v. v.shapes) o ≡ Some due → SeesFirst size c j numbers front
    by_rest w e None later same = absurd (cc same)
    by_rest w e (Some after) later same =
        let kept = reads_kept c size f.pieces first w refl refl e in
        let rest = reads_kept c size more.pieces w after kept.calm kept.as_many later in
        record {
          pictures = pictures;
          pointers = record {
            marks_show_pointers = ap (option_map (λ v. v.shapes)) e ∙ ap Some (shows w after kept rest (ap (shapes_or due) same));
            packets_are_first = packets;
          };
        }

    by : (o : Option Watching) → watched_all c size first f.pieces ≡ o
        → option_map (λ w. w.shapes) (option_and_then (λ w. watched_all c size w more.pieces) o) ≡ Some due → SeesFirst size c j numbers front
    by None e same = absurd (cc same)
    by (Some w) e same = by_rest w e (watched_all c size w more.pieces) refl same

-- fronts of what each viewer is sent for a list of steps
pub fronts_see : (head : Head) (asked : List Asked) (written fronts : ℕ → List ℕ) → EveryViewerSeesTheJournal head asked written
    → ((v : ℕ) → IsFront (fronts v) (written v)) → EveryViewerSeesTheFirst head asked fronts
fronts_see head asked written fronts sees are = record {
  viewers = λ v. front_sees_both head.size (confirmed_in head asked v) (journal_of_steps head (steps_of asked)) (frame_numbers head (steps_of asked) v)
      (written v) (fronts v) (sees.viewers v) (sees.pointers v) (are v);
  journal_is_legal = sees.journal_is_legal;
  changes_are_the_holders = sees.changes_are_the_holders;
}
