-- What a line makes of a stage that stands for what was read.
use Rattle.std.proofs.Common.{◌≡◌, ◌∙◌, ℕ, ◌+◌, Bool, true, false, List, [], ◌∷◌, ◌++◌, Result, Ok, Err, refl, sym, ap, append_assoc, append-nil}
use Rattle.std.specs.Prelude.{◌==◌, ◌||◌, if◌then◌else◌}
use Rattle.std.specs.Bool.{then_some}
use Rattle.std.proofs.Common.{arith}
use Rattle.std.proofs.lemmas.Bool.Decides.{nat_tests}
use Rattle.std.proofs.lemmas.List.Concat.{flat_map-append}
use Rattle.std.specs.declared.option.Option.{Option}
use Rattle.std.specs.declared.option.Option.TheVariants.{Some, None}
use Rattle.std.specs.Io.KnownBytes.{Keeps, IsAtEnd, prepend_known}
use Rattle.wire_num.specs.Field.{bind}
use Rattle.line_text.specs.Lines.{Line, lines_of}
use Rattle.edge_io.specs.Reading.{TakesLine}
use Rattle.script_rules.specs.Capture.{CaptureLine, JoinedAs, may_stand, joined_after, has_joined, line_read, first_broken_by, first_broken_from, bytes_of_line, bytes_of_lines, joined_in_line, joined_in_lines, joined_or_later}
use Rattle.script_rules.specs.Capture.CaptureLine.{JoinedLine, OtherLine, BytesLine, NobodyLine}
use Rattle.order_means.specs.FrameMarks.{ClientReading, Refusal, read_stream, read_on, first_reading}
use Rattle.order_means.specs.Packets.{PacketStage, Pieces, pieces_from, pieces_in, kept_piece, kept_pieces, held_in, without_pointers}
use Rattle.order_means.specs.Packets.PacketStage.{Between}
use Rattle.order_means.proofs.Pieces.{read_joined}
use Rattle.order_means.proofs.PieceJoined.{pieces_joined}
use Rattle.client_view.specs.Clients.{ClientOf}
use Rattle.capture_show.specs.declared.capture_reader.Told.{Told}
use Rattle.capture_show.specs.declared.capture_reader.Told.TheVariants as told
use Rattle.capture_show.specs.Reading.{CaptureReading, StandsBefore, Allows, ReadsLine, Finds, counted}
use Rattle.capture_show.specs.declared.stage.Stage.{Stage}
use Rattle.capture_show.specs.declared.stage.Stage.TheVariants as stage
use Rattle.capture_show.specs.Stages.{GoesOn, HasNotJoined, HasJoined, whole_of, HasRead, HasBroken, Stands, StandsFor, Shows}
use Rattle.capture_show.specs.Shown.{shown, joined_shown, stream_shown, unless_broken, view_shown}
use Rattle.capture_show.specs.Answers.{Tells}
use Rattle.capture_show.specs.Steps.{Advances, Joins, Meets, Feeds, Finishes, Breaks, ReadsOn, place_of}
use Rattle.order_means.specs.ClientState.Fault.{Broken, Oversized, Empty}
use Rattle.client_view.specs.declared.client_fault.ClientFault.{ClientFault}
use Rattle.client_view.specs.declared.client_fault.ClientFault.TheVariants as fault
use Rattle.client_view.specs.Refusals.{RefusesAt}

-- ---- one line more

-- a line that may stand
goes_on : (k : ℕ) (joined capture rest left : List ℕ) (line : Line) (said : CaptureLine) → GoesOn k joined capture rest → lines_of rest ≡ line ∷ lines_of left →
    line_read line ≡ Some said → may_stand joined said ≡ true → GoesOn (k + 1) (joined_after joined said) capture left
goes_on k joined capture rest left line said so cut says stands = so ∙ ap (first_broken_from k joined) cut
    ∙ ap (λ l. first_broken_by k joined l (λ after. first_broken_from (k + 1) after (lines_of left))) says
    ∙ ap (λ t. if t then first_broken_from (k + 1) (joined_after joined said) (lines_of left) else Some k) stands

-- what the lines say of who joined
joins_next : (v : ℕ) (rest left : List ℕ) (line : Line) (j : Option JoinedAs) → lines_of rest ≡ line ∷ lines_of left → joined_in_line v (line_read line) ≡ j →
    joined_in_lines v (lines_of rest) ≡ joined_or_later j (joined_in_lines v (lines_of left))
joins_next v rest left line j cut is = ap (joined_in_lines v) cut ∙ ap (λ i. joined_or_later i (joined_in_lines v (lines_of left))) is

gives_next : (v : ℕ) (rest left : List ℕ) (line : Line) (bytes : List ℕ) → lines_of rest ≡ line ∷ lines_of left → bytes_of_line v (line_read line) ≡ bytes →
    bytes_of_lines v (lines_of rest) ≡ bytes ++ bytes_of_lines v (lines_of left)
gives_next v rest left line bytes cut is = ap (bytes_of_lines v) cut ∙ ap (λ b. b ++ bytes_of_lines v (lines_of left)) is

-- ---- a viewer that hasn't joined

same_viewer : (u v : ℕ) (joined : List ℕ) → (u == v) ≡ true → has_joined u joined ≡ has_joined v joined
same_viewer u v joined is = let same : u ≡ v = grind (arith, nat_tests) in ap (λ w. has_joined w joined) same

-- it gets no bytes
no_bytes : (v u : ℕ) (joined bs bytes : List ℕ) (test : Bool) → (u == v) ≡ test → has_joined u joined ≡ true → has_joined v joined ≡ false →
    (if test then bs else []) ≡ bytes → bytes ≡ []
no_bytes v u joined bs bytes true is has none gives = let same : has_joined u joined ≡ has_joined v joined = same_viewer u v joined is in cc
no_bytes v u joined bs bytes false is has none gives = sym gives

gives_none : (v : ℕ) (joined bytes : List ℕ) (said : CaptureLine) → may_stand joined said ≡ true → has_joined v joined ≡ false → bytes_of_line v (Some said) ≡ bytes → bytes ≡ []
gives_none v joined bytes (JoinedLine u size c) stands none gives = sym gives
gives_none v joined bytes (OtherLine u) stands none gives = sym gives
gives_none v joined bytes (BytesLine u bs) stands none gives = no_bytes v u joined bs bytes (u == v) refl stands none gives
gives_none v joined bytes NobodyLine stands none gives = sym gives

-- it hasn't joined after a line that doesn't join it
not_same : {J : Type 0} (test : Bool) (j : J) → then_some test j ≡ None → test ≡ false
not_same true j e = cc
not_same false j e = refl

stays_out : (v : ℕ) (joined : List ℕ) (said : CaptureLine) → has_joined v joined ≡ false → joined_in_line v (Some said) ≡ None → has_joined v (joined_after joined said) ≡ false
stays_out v joined (JoinedLine u size c) none e = ap (λ t. t || has_joined v joined) (not_same (u == v) _ e) ∙ none
stays_out v joined (OtherLine u) none e = none
stays_out v joined (BytesLine u bs) none e = none
stays_out v joined NobodyLine none e = none

-- ---- stages

-- a line that doesn't join it, and gives it nothing
still_out : (v k : ℕ) (joined capture rest left : List ℕ) (line : Line) (bytes : List ℕ) (table : List Bool) → lines_of rest ≡ line ∷ lines_of left →
    (a : Allows v joined (line_read line) None bytes table) → HasNotJoined v k joined capture rest → HasNotJoined v (k + 1) (joined_after joined a.said) capture left
still_out v k joined capture rest left line bytes table cut a h =
    let none : joined_in_line v (Some a.said) ≡ None = ap (joined_in_line v) (sym a.says) ∙ a.joins in
    let gives : bytes_of_line v (Some a.said) ≡ bytes = ap (bytes_of_line v) (sym a.says) ∙ a.gives in
    record {
      goes_on = goes_on k joined capture rest left line a.said h.goes_on cut a.says a.stands;
      not_joined = stays_out v joined a.said h.not_joined none;
      joins = h.joins ∙ joins_next v rest left line None cut a.joins;
      bytes = h.bytes ∙ gives_next v rest left line bytes cut a.gives
          ∙ ap (λ b. b ++ bytes_of_lines v (lines_of left)) (gives_none v joined bytes a.said a.stands h.not_joined gives);
    }

-- a line that joins it
now_in : (v k : ℕ) (joined capture rest left : List ℕ) (line : Line) (j : JoinedAs) (table : List Bool) → lines_of rest ≡ line ∷ lines_of left →
    (a : Allows v joined (line_read line) (Some j) [] table) → HasNotJoined v k joined capture rest → HasJoined v (k + 1) (joined_after joined a.said) capture left j []
now_in v k joined capture rest left line j table cut a h = record {
  goes_on = goes_on k joined capture rest left line a.said h.goes_on cut a.says a.stands;
  joins = h.joins ∙ joins_next v rest left line (Some j) cut a.joins;
  bytes = h.bytes ∙ gives_next v rest left line [] cut a.gives;
}

-- a line behind the one that joined it
further : (v k : ℕ) (joined capture rest left : List ℕ) (line : Line) (joins_as : Option JoinedAs) (table : List Bool) (j : JoinedAs) (fed : List ℕ) →
    lines_of rest ≡ line ∷ lines_of left → (a : Allows v joined (line_read line) joins_as [] table) → HasJoined v k joined capture rest j fed →
    HasJoined v (k + 1) (joined_after joined a.said) capture left j fed
further v k joined capture rest left line joins_as table j fed cut a h = record {
  goes_on = goes_on k joined capture rest left line a.said h.goes_on cut a.says a.stands;
  joins = h.joins;
  bytes = h.bytes ∙ ap (λ b. fed ++ b) (gives_next v rest left line [] cut a.gives);
}

further_with : (v k : ℕ) (joined capture rest left : List ℕ) (line : Line) (joins_as : Option JoinedAs) (bytes : List ℕ) (table : List Bool) (j : JoinedAs) (fed : List ℕ) →
    lines_of rest ≡ line ∷ lines_of left → (a : Allows v joined (line_read line) joins_as bytes table) → HasJoined v k joined capture rest j fed →
    HasJoined v (k + 1) (joined_after joined a.said) capture left j (fed ++ bytes)
further_with v k joined capture rest left line joins_as bytes table j fed cut a h = record {
  goes_on = goes_on k joined capture rest left line a.said h.goes_on cut a.says a.stands;
  joins = h.joins;
  bytes = h.bytes ∙ ap (λ b. fed ++ b) (gives_next v rest left line bytes cut a.gives) ∙ sym (append_assoc fed bytes (bytes_of_lines v (lines_of left)));
}

-- the whole packets of bytes behind others, and how the last one goes on
whole_joined : (given bytes : List ℕ) → whole_of (given ++ bytes) ≡ whole_of given ++ kept_pieces (pieces_from (pieces_in given).next bytes).pieces
whole_joined given bytes = ap (λ (p : Pieces). kept_pieces p.pieces) (pieces_joined Between given bytes) ∙ flat_map-append kept_piece (pieces_in given).pieces (pieces_from (pieces_in given).next bytes).pieces

next_joined : (given bytes : List ℕ) → (pieces_in (given ++ bytes)).next ≡ (pieces_from (pieces_in given).next bytes).next
next_joined given bytes = ap (λ (p : Pieces). p.next) (pieces_joined Between given bytes)

-- what bytes behind others make of the meaning
read_behind : (j : JoinedAs) (front more : List ℕ) (m : Result ClientReading Refusal) → read_stream j.confirmed j.size front ≡ m →
    read_stream j.confirmed j.size (front ++ more) ≡ bind m (λ s. read_on j.confirmed j.size s more)
read_behind j front more m is = read_joined j.confirmed j.size (first_reading j.confirmed j.size) front more
    ∙ ap (λ (x : Result ClientReading Refusal). bind x (λ s. read_on j.confirmed j.size s more)) is

-- the same, without pointers
read_more : (j : JoinedAs) (given bytes : List ℕ) (m : Result ClientReading Refusal) → read_stream j.confirmed j.size (whole_of given) ≡ m →
    read_stream j.confirmed j.size (whole_of (given ++ bytes)) ≡ bind m (λ s. read_on j.confirmed j.size s (kept_pieces (pieces_from (pieces_in given).next bytes).pieces))
read_more j given bytes m is = ap (read_stream j.confirmed j.size) (whole_joined given bytes) ∙ read_behind j (whole_of given) (kept_pieces (pieces_from (pieces_in given).next bytes).pieces) m is

-- a line that gives the viewer nothing keeps the stage of one that has joined
kept_in : (s : Stage) (v k : ℕ) (joined capture rest left : List ℕ) (line : Line) (table : List Bool) → lines_of rest ≡ line ∷ lines_of left →
    (a : Allows v joined (line_read line) None [] table) → Stands v s k joined capture rest → Stands v s (k + 1) (joined_after joined a.said) capture left
kept_in stage.NotJoined v k joined capture rest left line table cut a h = still_out v k joined capture rest left line [] table cut a h
kept_in (stage.Reads client sieve) v k joined capture rest left line table cut a h = record {
  as_joined = h.as_joined;
  given = h.given;
  r = h.r;
  has_joined = further v k joined capture rest left line None table h.as_joined h.given cut a h.has_joined;
  sieved = h.sieved;
  read = h.read;
  reading = h.reading;
  confirmed = h.confirmed;
  size = h.size;
}
kept_in (stage.Refused at) v k joined capture rest left line table cut a h = record {
  as_joined = h.as_joined;
  given = h.given;
  refusal = h.refusal;
  has_joined = further v k joined capture rest left line None table h.as_joined h.given cut a h.has_joined;
  refused = h.refused;
  place = h.place;
}
kept_in (stage.Broken first) v k joined capture rest left line table cut a h = h

joined_by : (s next : Stage) (v k : ℕ) (joined capture rest left : List ℕ) (line : Line) (j : JoinedAs) (table : List Bool) → lines_of rest ≡ line ∷ lines_of left →
    (a : Allows v joined (line_read line) (Some j) [] table) → Joins s j.size j.confirmed next → Stands v s k joined capture rest →
    Stands v next (k + 1) (joined_after joined a.said) capture left
joined_by stage.NotJoined (stage.Reads client sieve) v k joined capture rest left line j table cut a is h = record {
  as_joined = j;
  given = [];
  r = first_reading j.confirmed j.size;
  has_joined = now_in v k joined capture rest left line j table cut a h;
  sieved = is.1.1.1;
  read = refl;
  reading = is.0;
  confirmed = is.1.0;
  size = is.1.1.0;
}
joined_by stage.NotJoined stage.NotJoined v k joined capture rest left line j table cut a is h = absurd is
joined_by stage.NotJoined (stage.Refused at) v k joined capture rest left line j table cut a is h = absurd is
joined_by stage.NotJoined (stage.Broken n) v k joined capture rest left line j table cut a is h = absurd is
joined_by (stage.Reads client sieve) next v k joined capture rest left line j table cut a is h = rw is (record {
  as_joined = h.as_joined;
  given = h.given;
  r = h.r;
  has_joined = further v k joined capture rest left line (Some j) table h.as_joined h.given cut a h.has_joined;
  sieved = h.sieved;
  read = h.read;
  reading = h.reading;
  confirmed = h.confirmed;
  size = h.size;
})
joined_by (stage.Refused at) next v k joined capture rest left line j table cut a is h = rw is (record {
  as_joined = h.as_joined;
  given = h.given;
  refusal = h.refusal;
  has_joined = further v k joined capture rest left line (Some j) table h.as_joined h.given cut a h.has_joined;
  refused = h.refused;
  place = h.place;
})
joined_by (stage.Broken first) next v k joined capture rest left line j table cut a is h = rw is h

fed_by : (s next : Stage) (v k : ℕ) (joined capture rest left : List ℕ) (line : Line) (bytes : List ℕ) (table : List Bool) → lines_of rest ≡ line ∷ lines_of left →
    (a : Allows v joined (line_read line) None bytes table) → Feeds s bytes next → Stands v s k joined capture rest →
    Stands v next (k + 1) (joined_after joined a.said) capture left
fed_by stage.NotJoined next v k joined capture rest left line bytes table cut a is h = rw is (still_out v k joined capture rest left line bytes table cut a h)
fed_by (stage.Reads client sieve) next v k joined capture rest left line bytes table cut a is h = read_by next (is h.r h.reading) where
  come : Pieces
  come = pieces_from sieve bytes

  more : read_stream h.as_joined.confirmed h.as_joined.size (whole_of (h.given ++ bytes)) ≡ read_on client.viewer.confirmed client.viewer.pictures.size h.r (kept_pieces come.pieces)
  more = read_more h.as_joined h.given bytes (Ok h.r) h.read
      ∙ ap (λ (st : PacketStage). read_on h.as_joined.confirmed h.as_joined.size h.r (kept_pieces (pieces_from st bytes).pieces)) (sym h.sieved)
      ∙ ap (λ c. read_on c h.as_joined.size h.r (kept_pieces come.pieces)) (sym h.confirmed) ∙ ap (λ z. read_on client.viewer.confirmed z h.r (kept_pieces come.pieces)) (sym h.size)

  has : HasJoined v (k + 1) (joined_after joined a.said) capture left h.as_joined (h.given ++ bytes)
  has = further_with v k joined capture rest left line None bytes table h.as_joined h.given cut a h.has_joined

  read_by : (n : Stage) → ReadsOn client come.next (read_on client.viewer.confirmed client.viewer.pictures.size h.r (kept_pieces come.pieces)) n → Stands v n (k + 1) (joined_after joined a.said) capture left
  read_by (stage.Reads fed after) f = record {
    as_joined = h.as_joined;
    given = h.given ++ bytes;
    r = f.0;
    has_joined = has;
    sieved = f.1.1.1 ∙ ap (λ (st : PacketStage). (pieces_from st bytes).next) h.sieved ∙ sym (next_joined h.given bytes);
    read = more ∙ f.1.0;
    reading = f.1.1.0.0;
    confirmed = f.1.1.0.1.0 ∙ h.confirmed;
    size = f.1.1.0.1.1 ∙ h.size;
  }
  read_by (stage.Refused at) f = record { as_joined = h.as_joined; given = h.given ++ bytes; refusal = f.0; has_joined = has; refused = more ∙ f.1.0; place = f.1.1 }
  read_by stage.NotJoined f = absurd f
  read_by (stage.Broken n) f = absurd f
fed_by (stage.Refused at) next v k joined capture rest left line bytes table cut a is h = rw is (record {
  as_joined = h.as_joined;
  given = h.given ++ bytes;
  refusal = h.refusal;
  has_joined = further_with v k joined capture rest left line None bytes table h.as_joined h.given cut a h.has_joined;
  refused = read_more h.as_joined h.given bytes (Err h.refusal) h.refused;
  place = h.place;
})
fed_by (stage.Broken first) next v k joined capture rest left line bytes table cut a is h = rw is h

-- a line that breaks the rules
breaks_at : (k number : ℕ) (joined capture rest left : List ℕ) (line : Line) → lines_of rest ≡ line ∷ lines_of left → GoesOn k joined capture rest →
    ((n : ℕ) (others : List ℕ → Option ℕ) → first_broken_by n joined (line_read line) others ≡ Some n) → number ≡ counted k → HasBroken capture number
breaks_at k number joined capture rest left line cut so breaks is = record {
  first = k;
  broken = so ∙ ap (first_broken_from k joined) cut ∙ breaks k (λ after. first_broken_from (k + 1) after (lines_of left));
  number = is;
}

broken_by : (s next : Stage) (v k number : ℕ) (joined capture rest left : List ℕ) (line : Line) → lines_of rest ≡ line ∷ lines_of left →
    ((n : ℕ) (others : List ℕ → Option ℕ) → first_broken_by n joined (line_read line) others ≡ Some n) → number ≡ counted k → Breaks s number next →
    Stands v s k joined capture rest → Stands v next (k + 1) joined capture left
broken_by stage.NotJoined next v k number joined capture rest left line cut breaks is b h = rw b (breaks_at k number joined capture rest left line cut h.goes_on breaks is)
broken_by (stage.Reads client sieve) next v k number joined capture rest left line cut breaks is b h = rw b (breaks_at k number joined capture rest left line cut h.has_joined.goes_on breaks is)
broken_by (stage.Refused at) next v k number joined capture rest left line cut breaks is b h = rw b (breaks_at k number joined capture rest left line cut h.has_joined.goes_on breaks is)
broken_by (stage.Broken first) next v k number joined capture rest left line cut breaks is b h = rw b h

-- ---- where the source tells its bytes

-- a reader and a stage stand somewhere in what was read
pub record AtLine (v : ℕ) (s : Stage) (reading : CaptureReading) (left ahead : Option (List ℕ)) : Type 0 where
  pub k : ℕ
  pub joined : List ℕ
  pub before : StandsBefore k joined reading
  pub viewer : reading.viewer ≡ v
  pub stands : StandsFor v s k joined left ahead

-- a line was taken
stands_step : (v k m : ℕ) (s next : Stage) (joined after : List ℕ) (left before now : Option (List ℕ)) (line : Line) → TakesLine before now line →
    ((capture rest more : List ℕ) → lines_of rest ≡ line ∷ lines_of more → Stands v s k joined capture rest → Stands v next m after capture more) →
    StandsFor v s k joined left before → StandsFor v next m after left now
stands_step v k m s next joined after None before now line takes f h = tt
stands_step v k m s next joined after (Some capture) None now line takes f h = absurd h
stands_step v k m s next joined after (Some capture) (Some rest) None line takes f h = absurd takes.hands_out
stands_step v k m s next joined after (Some capture) (Some rest) (Some more) line takes f h = f capture rest more takes.hands_out h

-- a line that may stand was read
read_on_line : (v : ℕ) (s next : Stage) (old new : CaptureReading) (left before now : Option (List ℕ)) (joins_as : Option JoinedAs) (bytes : List ℕ) → (h : AtLine v s old left before) →
    (r : ReadsLine h.k h.joined old new before now joins_as bytes) →
    ((a : Allows v h.joined (line_read r.line) joins_as bytes new.joined) (capture rest more : List ℕ) → lines_of rest ≡ r.line ∷ lines_of more → Stands v s h.k h.joined capture rest →
    Stands v next (h.k + 1) (joined_after h.joined a.said) capture more) → AtLine v next new left now
read_on_line v s next old new left before now joins_as bytes h r f =
    let a : Allows v h.joined (line_read r.line) joins_as bytes new.joined = rw h.viewer at r.allows in
    record {
      k = h.k + 1;
      joined = joined_after h.joined a.said;
      before = record { line = r.after; joined_are = a.after };
      viewer = r.viewer ∙ h.viewer;
      stands = stands_step v h.k (h.k + 1) s next h.joined (joined_after h.joined a.said) left before now r.line r.takes (f a) h.stands;
    }

-- the stage after a line
pub at_next : (answer : Told) → (answer ≡ told.End → ⊥) → (answer ≡ told.Failed → ⊥) → (v : ℕ) (s next : Stage) (old new : CaptureReading) (left before now rest : Option (List ℕ)) (bytes : List ℕ) →
    (h : AtLine v s old left before) → Finds answer h.k h.joined old new before now rest → bytes ≡ new.bytes → Advances answer s bytes next → AtLine v next new left now
at_next (told.Joined size confirmed) not_end not_failed v s next old new left before now rest bytes h r are b =
    read_on_line v s next old new left before now (Some (record { size = size; confirmed = confirmed })) [] h r
    (λ a capture ahead more cut stands. joined_by s next v h.k h.joined capture ahead more r.line (record { size = size; confirmed = confirmed }) new.joined cut a b stands)
at_next told.Bytes not_end not_failed v s next old new left before now rest bytes h r are b =
    read_on_line v s next old new left before now None new.bytes h r
    (λ a capture ahead more cut stands. fed_by s next v h.k h.joined capture ahead more r.line new.bytes new.joined cut a (rw are at b) stands)
at_next told.Other not_end not_failed v s next old new left before now rest bytes h r are b =
    read_on_line v s next old new left before now None [] h r
    (λ a capture ahead more cut stands. rw b (kept_in s v h.k h.joined capture ahead more r.line new.joined cut a stands))
at_next (told.Broken number) not_end not_failed v s next old new left before now rest bytes h r are b = record {
  k = h.k + 1;
  joined = h.joined;
  before = r.0.after;
  viewer = r.0.viewer ∙ h.viewer;
  stands = stands_step v h.k (h.k + 1) s next h.joined h.joined left before now r.0.line r.0.takes
      (λ capture ahead more cut stands. broken_by s next v h.k number h.joined capture ahead more r.0.line cut r.0.breaks r.1 b stands) h.stands;
}
at_next told.End not_end not_failed v s next old new left before now rest bytes h r are b = absurd (not_end refl)
at_next told.Failed not_end not_failed v s next old new left before now rest bytes h r are b = absurd (not_failed refl)

-- before the first line
first_stands : (v : ℕ) (left : Option (List ℕ)) (unread : List ℕ) → unread ≡ [] → StandsFor v stage.NotJoined 1 [] left (prepend_known unread left)
first_stands v None unread none = tt
first_stands v (Some capture) unread none = rw none (record { goes_on = refl; not_joined = refl; joins = refl; bytes = refl })

pub at_first : (v : ℕ) (reading : CaptureReading) (left : Option (List ℕ)) → StandsBefore 1 [] reading → reading.viewer ≡ v → reading.unread ≡ [] →
    AtLine v stage.NotJoined reading left (prepend_known reading.unread left)
at_first v reading left before viewer none = record { k = 1; joined = []; before = before; viewer = viewer; stands = first_stands v left reading.unread none }

-- what is shown where no line is left, and what was held was read
shown_at_end : (v k : ℕ) (joined capture : List ℕ) (j : JoinedAs) (given : List ℕ) (m : Result ClientReading Refusal) → HasJoined v k joined capture [] j given →
    read_stream j.confirmed j.size (without_pointers given) ≡ m → shown v capture ≡ stream_shown j.size m
shown_at_end v k joined capture j given m has is = ap (unless_broken v capture) has.goes_on ∙ ap (joined_shown v capture) has.joins
    ∙ ap (λ b. stream_shown j.size (read_stream j.confirmed j.size (without_pointers b))) (has.bytes ∙ append-nil given) ∙ ap (stream_shown j.size) is

finished_by : (client : ClientOf) (sieve : PacketStage) (next : Stage) (v k : ℕ) (joined capture : List ℕ) → (h : HasRead v k joined capture [] client sieve) →
    ReadsOn client sieve (read_on client.viewer.confirmed client.viewer.pictures.size h.r (held_in sieve)) next → Shows next (shown v capture)
finished_by client sieve next v k joined capture h is = by next is
  where
    all : read_stream h.as_joined.confirmed h.as_joined.size (without_pointers h.given) ≡ read_on client.viewer.confirmed client.viewer.pictures.size h.r (held_in sieve)
    all = read_behind h.as_joined (whole_of h.given) (held_in (pieces_in h.given).next) (Ok h.r) h.read
        ∙ ap (λ (st : PacketStage). read_on h.as_joined.confirmed h.as_joined.size h.r (held_in st)) (sym h.sieved)
        ∙ ap (λ c. read_on c h.as_joined.size h.r (held_in sieve)) (sym h.confirmed) ∙ ap (λ z. read_on client.viewer.confirmed z h.r (held_in sieve)) (sym h.size)

    by : (n : Stage) → ReadsOn client sieve (read_on client.viewer.confirmed client.viewer.pictures.size h.r (held_in sieve)) n → Shows n (shown v capture)
    by (stage.Reads fed after) f = record {
      r = f.0;
      reading = f.1.1.0.0;
      is = shown_at_end v k joined capture h.as_joined h.given (Ok f.0) h.has_joined (all ∙ f.1.0) ∙ ap (λ n. view_shown n f.0.view) (sym (f.1.1.0.1.1 ∙ h.size));
    }
    by (stage.Refused at) f = (f.0.place, shown_at_end v k joined capture h.as_joined h.given (Err f.0) h.has_joined (all ∙ f.1.0), f.1.1)
    by stage.NotJoined f = absurd f
    by (stage.Broken n) f = absurd f

shows_at_end : (s next : Stage) (v k : ℕ) (joined capture : List ℕ) → Finishes s next → Stands v s k joined capture [] → Shows next (shown v capture)
shows_at_end stage.NotJoined next v k joined capture is h = rw is (ap (unless_broken v capture) h.goes_on ∙ ap (joined_shown v capture) h.joins)
shows_at_end (stage.Reads client sieve) next v k joined capture is h = finished_by client sieve next v k joined capture h (is h.r h.reading)
shows_at_end (stage.Refused at) next v k joined capture is h = rw is (
  h.refusal.place,
  shown_at_end v k joined capture h.as_joined h.given (Err h.refusal) h.has_joined (read_behind h.as_joined (whole_of h.given) (held_in (pieces_in h.given).next) (Err h.refusal) h.refused),
  h.place,
)
shows_at_end (stage.Broken line) next v k joined capture is h = rw is (h.first, ap (unless_broken v capture) h.broken, h.number)

pub at_end : (v : ℕ) (s next : Stage) (reading : CaptureReading) (left ahead rest : Option (List ℕ)) → AtLine v s reading left ahead → IsAtEnd ahead × Keeps ahead rest → Finishes s next →
    Tells left (λ capture. Shows next (shown v capture) × IsAtEnd rest)
at_end v s next reading None ahead rest h end is = tt
at_end v s next reading (Some capture) None rest h end is = absurd h.stands
at_end v s next reading (Some capture) (Some xs) None h end is = absurd end.1
at_end v s next reading (Some capture) (Some xs) (Some ys) h end is =
    let stands : Stands v s h.k h.joined capture [] = rw end.0 at h.stands in
    (shows_at_end s next v h.k h.joined capture is stands, end.1 ∙ end.0)

-- ---- a client got bytes

same_some : {a b : ℕ} → Some a ≡ Some b → a ≡ b
same_some e = cc

-- it refused them
pub refuses_at : (f : ClientFault) (client fed : ClientOf) (meaning : Result ClientReading Refusal) (at : ℕ) → place_of f ≡ Some at → RefusesAt f meaning → Meets client fed meaning (Some at)
refuses_at (fault.Refused here) client fed meaning at e m = let same : here ≡ at = same_some e in (record { place = m.0; fault = Broken }, (m.1, sym same ∙ m.2))
refuses_at (fault.Named here true cache index) client fed meaning at e m = let same : here ≡ at = same_some e in (record { place = m.0; fault = Oversized cache index }, (m.1, sym same ∙ m.2))
refuses_at (fault.Named here false cache index) client fed meaning at e m = let same : here ≡ at = same_some e in (record { place = m.0; fault = Empty cache index }, (m.1, sym same ∙ m.2))
refuses_at fault.OutOfMemory client fed meaning at e m = let none : None ≡ Some at = e in absurd (let no : ⊥ = cc in no)
