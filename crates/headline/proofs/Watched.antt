-- What a viewer with pointers makes of whole packets: those that are no pointer's it reads as without pointers.
use Rattle.std.proofs.Common.{◌≡◌, ℕ, ◌+◌, ◌≤◌, Bool, true, false, List, [], ◌∷◌, ◌++◌, length, refl, ap, sym, ◌∙◌, subst, arith, append_assoc, length-append, Some, None}
use Rattle.std.specs.Prelude.{All, replicate, Option, Result, Ok, Err, option_and_then}
use Rattle.std.proofs.lemmas.List.{append-nil, replicate-append-replicate}
use Rattle.std.proofs.lemmas.List.Elements.{All-head, All-tail}
use Rattle.px_core.specs.declared.surface.Size.{Size}
use Rattle.caps_sets.specs.declared.confirmed.Confirmed.{Confirmed}
use Rattle.wire_num.specs.Field.{Read, bind}
use Rattle.wire_num.specs.Caused.{before_caused}
use Rattle.order_means.specs.Updates.{refusal_in}
use Rattle.order_means.specs.FrameMarks.{Refusal, ClientReading, unless_refused_at, read_on}
use Rattle.order_means.specs.PointerPackets.{pointer_content, is_read, is_pointer}
use Rattle.order_means.proofs.Pieces.{read_joined}
use Rattle.frame_rules.specs.Pointers.{Shape}
use Rattle.frame_rules.specs.FrameBytes.{joined_bytes}
use Rattle.pointer_share.specs.declared.fault.Cause.{Cause}
use Rattle.pointer_share.specs.Views.{View, view_by, message_in, pointed, view_in, view_fed}
use Rattle.pointer_share.specs.Shows.{its_view}
use Rattle.headline.specs.Fronts.{IsFront}
use Rattle.headline.specs.Pointed.{Watching, marks_more, watched_by, watched_as, watched, watched_all}
use Rattle.headline.proofs.StreamFronts.{ReadingExtends, reading_on_extends}

-- ---- one packet

other_by : (wide : Bool) (v : View) (packet : List ℕ) (r : Read (List ℕ)) → is_read r ≡ false → view_in wide v packet r ≡ Ok (v, false)
other_by wide v packet (Ok content) e = absurd (cc e)
other_by wide v packet (Err left) e = refl

-- a packet that is no pointer's leaves what is shown
pub other_fed : (wide : Bool) (v : View) (packet : List ℕ) → is_pointer packet ≡ false → view_fed wide v packet ≡ Ok (v, false)
other_fed wide v packet e = other_by wide v packet (pointer_content packet) e

pointed_by : (after : View) (r : Result View (Cause × ℕ)) → its_view (pointed r) ≡ Ok after → pointed r ≡ Ok (after, true)
pointed_by after (Ok v) e = ap pointed e
pointed_by after (Err fault) e = absurd (cc e)

pointer_by : (wide : Bool) (v after : View) (packet : List ℕ) (r : Read (List ℕ)) → is_read r ≡ true → its_view (view_in wide v packet r) ≡ Ok after
    → view_in wide v packet r ≡ Ok (after, true)
pointer_by wide v after packet (Ok content) is e =
    pointed_by after (view_by v packet (before_caused content.1 (message_in wide v.cells content.0))) e
pointer_by wide v after packet (Err left) is e = absurd (cc is)

-- a pointer's packet that is read is known as one
pub pointer_fed : (wide : Bool) (v after : View) (packet : List ℕ) → is_pointer packet ≡ true → its_view (view_fed wide v packet) ≡ Ok after
    → view_fed wide v packet ≡ Ok (after, true)
pointer_fed wide v after packet is e = pointer_by wide v after packet (pointer_content packet) is e

-- ---- packets one after the other

pub watched_append : (c : Confirmed) (size : Size) (w : Watching) (xs ys : List (List ℕ))
    → watched_all c size w (xs ++ ys) ≡ option_and_then (λ v. watched_all c size v ys) (watched_all c size w xs)
watched_append c size w [] ys = refl
watched_append c size w (x ∷ xs) ys = by (watched c size w x) (λ v. watched_append c size v xs ys)
  where
    by : (o : Option Watching)
        → ((v : Watching) → watched_all c size v (xs ++ ys) ≡ option_and_then (λ u. watched_all c size u ys) (watched_all c size v xs))
        → option_and_then (λ v. watched_all c size v (xs ++ ys)) o
        ≡ option_and_then (λ u. watched_all c size u ys) (option_and_then (λ v. watched_all c size v xs) o)
    by None more = refl
    by (Some v) more = more v

-- ---- packets that are no pointer's

-- a viewer that has read on, with the shape that it shows at each mark of that
abbrev pub watched_to : Watching → ClientReading → Watching
watched_to w r = record w { reading = r; shapes = w.shapes ++ replicate (marks_more w.reading r) w.pointer.shown }

-- nothing was read on
still : (w : Watching) → watched_to w w.reading ≡ w
still w =
    let none : marks_more w.reading w.reading ≡ 0 = omega arith in
    ap (λ n. record w { shapes = w.shapes ++ replicate n w.pointer.shown }) none ∙ ap (λ ss. record w { shapes = ss }) (append-nil w.shapes)

pub front_length : {A : Type 0} (xs ys : List A) → IsFront xs ys → length xs ≤ length ys
front_length xs ys h = let e : length ys ≡ length (xs ++ h.rest) = ap length h.joined in omega (arith, e, length-append xs h.rest)

-- reading on twice
onward : (w : Watching) (r s : ClientReading) → IsFront w.reading.view.pictures r.view.pictures → IsFront r.view.pictures s.view.pictures
    → watched_to (watched_to w r) s ≡ watched_to w s
onward w r s a b =
    let first = front_length w.reading.view.pictures r.view.pictures a in
    let second = front_length r.view.pictures s.view.pictures b in
    let both : marks_more w.reading r + marks_more r s ≡ marks_more w.reading s = omega (arith, first, second) in
    ap (λ (ss : List (Option Shape)). record w { reading = s; shapes = ss })
    (append_assoc w.shapes (replicate (marks_more w.reading r) w.pointer.shown) (replicate (marks_more r s) w.pointer.shown)
    ∙ ap (λ ss. w.shapes ++ ss)
    (replicate-append-replicate (marks_more w.reading r) (marks_more r s) w.pointer.shown ∙ ap (λ n. replicate n w.pointer.shown) both))

module _ (c : Confirmed) (size : Size) where
  abbrev reached_or : ClientReading → Result ClientReading Refusal → ClientReading
  reached_or r (Ok s) = s
  reached_or r (Err refusal) = r

  pub reads_no_more : (r s : ClientReading) (o : Option ℕ) → unless_refused_at o r ≡ Ok s → r ≡ s
  reads_no_more r s None e = ap (reached_or r) e
  reads_no_more r s (Some place) e = absurd (cc e)

  -- whole packets that are read joined
  pub watched_others : (ps : List (List ℕ)) (w : Watching) (s : ClientReading) → All (λ p. is_pointer p ≡ false) ps
      → read_on c size w.reading (joined_bytes ps) ≡ Ok s → watched_all c size w ps ≡ Some (watched_to w s)
  watched_others [] w s others e = ap Some (sym (still w) ∙ ap (watched_to w) (reads_no_more w.reading s (refusal_in w.reading.cut.stage) e))
  watched_others (p ∷ ps) w s others e =
      by (read_on c size w.reading p) refl (sym (read_joined c size w.reading p (joined_bytes ps)) ∙ e)
      (λ v more. watched_others ps v s (All-tail (λ p. is_pointer p ≡ false) p ps others) more)
    where
      by : (r : Result ClientReading Refusal) → read_on c size w.reading p ≡ r → bind r (λ q. read_on c size q (joined_bytes ps)) ≡ Ok s
          → ((v : Watching) → read_on c size v.reading (joined_bytes ps) ≡ Ok s → watched_all c size v ps ≡ Some (watched_to v s))
          → watched_all c size w (p ∷ ps) ≡ Some (watched_to w s)
      by (Err refusal) is more rest = absurd (cc more)
      by (Ok q) is more rest =
          let next = watched_to w q in
          let fed = other_fed c.cautious w.pointer p (All-head (λ p. is_pointer p ≡ false) p ps others) in
          let first : watched c size w p ≡ Some next = ap (watched_as c size w p) fed ∙ ap (watched_by w) is in
          ap (option_and_then (λ v. watched_all c size v ps)) first ∙ rest next more
          ∙ ap Some (onward w q s (subst (ReadingExtends w.reading.view.pictures) is (reading_on_extends c size w.reading p))
          (subst (ReadingExtends q.view.pictures) more (reading_on_extends c size q (joined_bytes ps))))
