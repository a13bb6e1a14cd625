-- Readings of a host's bytes, byte by byte, and of those within a packet.
use Rattle.std.proofs.Common.{◌≡◌, ◌<◌, ℕ, ◌+◌, List, [], ◌∷◌, ◌++◌, append_assoc, inl, inr, length, get_or, drop, take, take-append-drop, drop-drop, refl, ap, sym, subst, ◌∙◌, Some, None, append-nil, add-one, arith}
use Rattle.std.specs.Prelude.{Bool, Option, Result, Ok, Err, OnErr, is_ok, true, false}
use Rattle.std.proofs.Math.Seq.{drop-cons}
use Rattle.px_core.specs.declared.surface.Size.{Size}
use Rattle.wire_num.specs.Field.{bind, Read as Field}
use Rattle.caps_sets.specs.declared.confirmed.Confirmed.{Confirmed}
use Rattle.caps_sets.specs.Confirmed.{takes_fast}
use Rattle.order_means.specs.ClientState.Fault.{Broken, Oversized, Empty}
use Rattle.order_means.specs.Updates.{Body, BodyForm as Form, body_at, Cutting, cutting, Updates, updates, before_updates, updates_by, updates_from, refusal_in}
use Rattle.order_means.specs.Updates.Stage.{Between}
use Rattle.order_means.specs.FrameMarks.{View, Refusal, Update as Meaning, ClientReading, reading, reading_after, read_on, view_after_body, view_after_bodies, update_by_form, unless_refused_at}
use Rattle.order_means.proofs.Pieces.{read_joined}
use Rattle.update_read.specs.declared.form.BodyForm.{BodyForm}
use Rattle.update_read.specs.declared.state.State.{State}
use Rattle.update_read.specs.declared.state.State.TheVariants.{Open, Update as Whole, Ended, Refused as RefusedAt}
use Rattle.update_read.specs.declared.step.Step.TheVariants.{More, Update, Refused as RefusedStep}
use Rattle.update_read.specs.Forms.{told_form}
use Rattle.update_read.specs.Cutters.{CutterOf, Tells, Gives, Stands, GoesOn, behind_first, pending, pending_by, step_by, step_of, body_by}
use Rattle.update_read.specs.Opens.{Ends, Opens}
use Rattle.update_read.proofs.Taken.{open_stage}
use Rattle.client_view.specs.declared.client_fault.ClientFault.{ClientFault}
use Rattle.client_view.specs.declared.client_fault.ClientFault.TheVariants.{Refused, Named, OutOfMemory}
use Rattle.client_view.specs.declared.viewer.Viewer.{Viewer}
use Rattle.client_view.specs.Views.{capped, StandsFor}
use Rattle.client_view.specs.Refusals.{RefusesAt, Shows, refusal}
use Rattle.client_view.specs.Clients.{StandFor, Reads}
use Rattle.client_view.specs.OnTheWay.{Stops, WithinRead, MidUpdate, MidBody, WithinPacket, ComesNext, ComesTo}
use Rattle.client_view.proofs.Obeyed.{counts_of}

-- a refusal of one part is a refusal of the whole
pub refuses_through : {A B : Type 0} (f : ClientFault) (part : Result A Refusal) (whole : Result B Refusal) → ((g : Refusal) → part ≡ Err g → whole ≡ Err g) → RefusesAt f part → RefusesAt f whole
refuses_through (Refused at) part whole through r = (r.0, through (refusal r.0 Broken) r.1, r.2)
refuses_through (Named at true cache index) part whole through r = (r.0, through (refusal r.0 (Oversized cache index)) r.1, r.2)
refuses_through (Named at false cache index) part whole through r = (r.0, through (refusal r.0 (Empty cache index)) r.1, r.2)
refuses_through OutOfMemory part whole through r = tt

-- ---- what a packet gives

-- an update's body, and those behind it
pub record GivesBody (u : Updates) (k : CutterOf) (at : ℕ) (form : BodyForm) : Type 0 where
  pub place : ℕ
  pub more : Updates
  pub is : u ≡ before_updates (body_at place (told_form form) (body_by k.state k.packet) ∷ []) more
  pub at_is : at ≡ capped place
  pub some : 0 < pending k

whole_by : (st : State) (u : Updates) (k : CutterOf) (s at : ℕ) (form : BodyForm) → k.state ≡ st → step_by st k.start ≡ Update at form → k.start ≡ capped s → Tells st u s k.packet → GivesBody u k at form
whole_by Open u k s at form same e start told = absurd (let no : ⊥ = cc in no)
whole_by (Whole found) u k s at form same e start told =
    let is : capped (k.start + found.body.from) ≡ at = cc in
    let so : found.form ≡ form = cc in
    record {
      place = s + found.body.from;
      more = told.more;
      is = told.told
          ∙ ap (λ (f : BodyForm). before_updates (body_at (s + found.body.from) (told_form f) (body_by (Whole found) k.packet) ∷ []) told.more) so
          ∙ ap (λ (st : State). before_updates (body_at (s + found.body.from) (told_form form) (body_by st k.packet) ∷ []) told.more) (sym same);
      at_is = omega (arith, is, start);
      some = subst (λ (st : State). 0 < pending_by st k.packet) (sym same) (omega arith);
    }
whole_by Ended u k s at form same e start told = absurd (let no : ⊥ = cc in no)
whole_by (RefusedAt x) u k s at form same e start told = absurd (let no : ⊥ = cc in no)

pub gives_body : (u : Updates) (k : CutterOf) (at : ℕ) (form : BodyForm) → step_of k ≡ Update at form → Gives u k → GivesBody u k at form
gives_body u k at form e g = whole_by k.state u k g.0 at form refl e g.1 g.2

-- no update, and nothing is refused
none_of : (u : Updates) → u.bodies ≡ [] → u ≡ updates [] u.next
none_of u e = ap (λ (bs : List Body). updates bs u.next) e

more_bodies : (st : State) (u : Updates) (k : CutterOf) (s : ℕ) → step_by st k.start ≡ More → Tells st u s k.packet → (u.bodies ≡ []) × (refusal_in u.next.stage ≡ None)
more_bodies Open u k s e told = (ap (λ (x : Updates). x.bodies) told.0, ap (λ (x : Updates). refusal_in x.next.stage) told.0 ∙ open_stage k.packet)
more_bodies (Whole found) u k s e told = absurd (let no : ⊥ = cc in no)
more_bodies Ended u k s e told = (ap (λ (x : Updates). x.bodies) told, ap (λ (x : Updates). refusal_in x.next.stage) told)
more_bodies (RefusedAt at) u k s e told = absurd (let no : ⊥ = cc in no)

gives_more : (u : Updates) (k : CutterOf) → step_of k ≡ More → Gives u k → (u.bodies ≡ []) × (refusal_in u.next.stage ≡ None)
gives_more u k e g = more_bodies k.state u k g.0 e g.2

-- no update, and the stream is refused
refused_by_step : (st : State) (start : ℕ) (u : Updates) (packet : List ℕ) (s at : ℕ) → step_by st start ≡ RefusedStep at → Tells st u s packet → (place : ℕ) × (u.bodies ≡ []) × (refusal_in u.next.stage ≡ Some place) × (at ≡ capped place)
refused_by_step Open start u packet s at e told = absurd (let no : ⊥ = cc in no)
refused_by_step (Whole found) start u packet s at e told = absurd (let no : ⊥ = cc in no)
refused_by_step Ended start u packet s at e told = absurd (let no : ⊥ = cc in no)
refused_by_step (RefusedAt x) start u packet s at e told = let is : x ≡ at = cc in (told.0, told.1, ap refusal_in told.2, sym is ∙ told.3)

gives_refusal : (u : Updates) (k : CutterOf) (at : ℕ) → step_of k ≡ RefusedStep at → Gives u k → (place : ℕ) × (u.bodies ≡ []) × (refusal_in u.next.stage ≡ Some place) × (at ≡ capped place)
gives_refusal u k at e g = refused_by_step k.state k.start u k.packet g.0 at e g.2

-- ---- updates of a packet, one by one

-- some were obeyed, and the cutter gives the others
pub record LeftUpdates (confirmed : Confirmed) (size : Size) (v : View) (u : Updates) (m : Viewer) (k : CutterOf) : Type 0 where
  pub front : List Body
  pub left : Updates
  pub here : View
  pub whole : u ≡ before_updates front left
  pub obeyed : view_after_bodies confirmed size v front ≡ Ok here
  pub view : StandsFor here m
  pub gives : Gives left k

pub all_updates : (confirmed : Confirmed) (size : Size) (v : View) (u : Updates) (m : Viewer) (k : CutterOf) → StandsFor v m → Gives u k → LeftUpdates confirmed size v u m k
all_updates confirmed size v u m k s g = record { front = []; left = u; here = v; whole = refl; obeyed = refl; view = s; gives = g }

bodies_by : (confirmed : Confirmed) (size : Size) (v w : View) (b : Body) (front more : List Body) (r : Result View Refusal) → view_after_body confirmed size v b ≡ r → view_after_bodies confirmed size v (b ∷ front) ≡ Ok w
    → ((x : View) → view_after_bodies confirmed size x front ≡ Ok w → view_after_bodies confirmed size x (front ++ more) ≡ view_after_bodies confirmed size w more)
    → view_after_bodies confirmed size v (b ∷ (front ++ more)) ≡ view_after_bodies confirmed size w more
bodies_by confirmed size v w b front more (Ok x) f e others =
    let rest : view_after_bodies confirmed size x front ≡ Ok w = sym (ap (λ (r : Result View Refusal). bind r (λ y. view_after_bodies confirmed size y front)) f) ∙ e in
    ap (λ (r : Result View Refusal). bind r (λ y. view_after_bodies confirmed size y (front ++ more))) f ∙ others x rest
bodies_by confirmed size v w b front more (Err g) f e others =
    let stopped : Err g ≡ Ok w = sym (ap (λ (r : Result View Refusal). bind r (λ y. view_after_bodies confirmed size y front)) f) ∙ e in
    absurd (let no : ⊥ = cc in no)

bodies_then : (confirmed : Confirmed) (size : Size) (v w : View) (front more : List Body) → view_after_bodies confirmed size v front ≡ Ok w → view_after_bodies confirmed size v (front ++ more) ≡ view_after_bodies confirmed size w more
bodies_then confirmed size v w [] more e = ap (λ (r : Result View Refusal). bind r (λ x. view_after_bodies confirmed size x more)) e
bodies_then confirmed size v w (b ∷ front) more e = bodies_by confirmed size v w b front more (view_after_body confirmed size v b) refl e (λ x rest. bodies_then confirmed size x w front more rest)

abbrev goes : View → Updates → Option ℕ → Result ClientReading Refusal
goes w u o = unless_refused_at o (reading w u.next)

-- what all updates come to
left_read : (confirmed : Confirmed) (size : Size) (v : View) (u : Updates) (m : Viewer) (k : CutterOf) → (l : LeftUpdates confirmed size v u m k)
    → reading_after confirmed size v u ≡ bind (view_after_bodies confirmed size l.here l.left.bodies) (λ w. goes w l.left (refusal_in l.left.next.stage))
left_read confirmed size v u m k l =
    ap (reading_after confirmed size v) l.whole
    ∙ ap (λ (r : Result View Refusal). bind r (λ w. goes w l.left (refusal_in l.left.next.stage))) (bodies_then confirmed size v l.here l.front l.left.bodies l.obeyed)

none_left_read : (confirmed : Confirmed) (size : Size) (v : View) (u : Updates) (m : Viewer) (k : CutterOf) (o : Option ℕ) → (l : LeftUpdates confirmed size v u m k) → l.left.bodies ≡ [] → refusal_in l.left.next.stage ≡ o
    → reading_after confirmed size v u ≡ goes l.here l.left o
none_left_read confirmed size v u m k o l b e =
    left_read confirmed size v u m k l
    ∙ ap (λ (bs : List Body). bind (view_after_bodies confirmed size l.here bs) (λ w. goes w l.left (refusal_in l.left.next.stage))) b
    ∙ ap (goes l.here l.left) e

first_left_read : (confirmed : Confirmed) (size : Size) (v : View) (u : Updates) (m : Viewer) (k : CutterOf) (body : Body) (more : Updates) (r : Result View Refusal) → (l : LeftUpdates confirmed size v u m k)
    → l.left ≡ before_updates (body ∷ []) more → view_after_body confirmed size l.here body ≡ r
    → reading_after confirmed size v u ≡ bind (bind r (λ x. view_after_bodies confirmed size x more.bodies)) (λ w. goes w more (refusal_in more.next.stage))
first_left_read confirmed size v u m k body more r l e f =
    left_read confirmed size v u m k l
    ∙ ap (λ (x : Updates). bind (view_after_bodies confirmed size l.here x.bodies) (λ w. goes w x (refusal_in x.next.stage))) e
    ∙ ap (λ (r : Result View Refusal). bind (bind r (λ x. view_after_bodies confirmed size x more.bodies)) (λ w. goes w more (refusal_in more.next.stage))) f

-- nothing is left
pub packet_read : (confirmed : Confirmed) (size : Size) (v : View) (u : Updates) (m : Viewer) (k : CutterOf) → (l : LeftUpdates confirmed size v u m k) → step_of k ≡ More → k.fast ≡ takes_fast m.confirmed
    → Reads (Ok tt) (reading_after confirmed size v u) m k
packet_read confirmed size v u m k l e fast =
    let more = gives_more l.left k e l.gives in (
      reading l.here l.left.next,
      none_left_read confirmed size v u m k None l more.0 more.1,
      record { view = l.view; cut = subst (λ (x : Updates). Gives x k) (none_of l.left more.0) l.gives; fast = fast; unrefused = more.1 },
    )

-- the stream is refused
pub packet_refused : (confirmed : Confirmed) (size : Size) (v : View) (u : Updates) (m : Viewer) (k : CutterOf) (at : ℕ) → (l : LeftUpdates confirmed size v u m k) → step_of k ≡ RefusedStep at
    → RefusesAt (Refused at) (reading_after confirmed size v u)
packet_refused confirmed size v u m k at l e =
    let no = gives_refusal l.left k at e l.gives in
    (no.0, none_left_read confirmed size v u m k (Some no.0) l no.1 no.2, no.3)

pub packet_refused_stops : (confirmed : Confirmed) (size : Size) (v : View) (u : Updates) (m : Viewer) (k : CutterOf) → (l : LeftUpdates confirmed size v u m k) → Stops (WithinPacket confirmed size v u.bodies) m
packet_refused_stops confirmed size v u m k l = (
  l.here,
  record { front = l.front; more = l.left.bodies; whole = ap (λ (x : Updates). x.bodies) l.whole; before = l.here; obeyed = l.obeyed; there = inl refl },
  counts_of l.here m l.view,
)

-- an update was obeyed
pub update_less : (confirmed : Confirmed) (size : Size) (v : View) (u : Updates) (m n : Viewer) (k j : CutterOf) (at : ℕ) (form : BodyForm) → (l : LeftUpdates confirmed size v u m k) → (g : GivesBody l.left k at form)
    → Shows (Ok tt) (view_after_body confirmed size l.here (body_at g.place (told_form form) (body_by k.state k.packet))) n → Gives (behind_first l.left) j → LeftUpdates confirmed size v u n j
update_less confirmed size v u m n k j at form l g shown gives =
    let body : Body = body_at g.place (told_form form) (body_by k.state k.packet) in
    record {
      front = l.front ++ body ∷ [];
      left = g.more;
      here = shown.0;
      whole = l.whole ∙ ap (before_updates l.front) g.is ∙ ap (λ (bs : List Body). updates bs g.more.next) (sym (append_assoc l.front (body ∷ []) g.more.bodies));
      obeyed = bodies_then confirmed size v l.here l.front (body ∷ []) l.obeyed ∙ ap (λ (r : Result View Refusal). bind r (λ x. view_after_bodies confirmed size x [])) shown.1;
      view = shown.2;
      gives = subst (λ (x : Updates). Gives x j) (ap behind_first g.is) gives;
    }

-- an update is refused
pub update_refused : (f : ClientFault) (confirmed : Confirmed) (size : Size) (v : View) (u : Updates) (m : Viewer) (k : CutterOf) (at : ℕ) (form : BodyForm) → (l : LeftUpdates confirmed size v u m k) → (g : GivesBody l.left k at form)
    → RefusesAt f (view_after_body confirmed size l.here (body_at g.place (told_form form) (body_by k.state k.packet))) → RefusesAt f (reading_after confirmed size v u)
update_refused f confirmed size v u m k at form l g r =
    let body : Body = body_at g.place (told_form form) (body_by k.state k.packet) in
    refuses_through f (view_after_body confirmed size l.here body) (reading_after confirmed size v u) (λ h e. first_left_read confirmed size v u m k body g.more (Err h) l g.is e) r

pub update_stops : (confirmed : Confirmed) (size : Size) (v : View) (u : Updates) (m n : Viewer) (k : CutterOf) (at : ℕ) (form : BodyForm) → (l : LeftUpdates confirmed size v u m k) → (g : GivesBody l.left k at form)
    → Stops (MidBody confirmed size l.here (told_form form) (body_by k.state k.packet)) n → Stops (WithinPacket confirmed size v u.bodies) n
update_stops confirmed size v u m n k at form l g s =
    let body : Body = body_at g.place (told_form form) (body_by k.state k.packet) in (
      s.0,
      record {
        front = l.front;
        more = body ∷ g.more.bodies;
        whole = ap (λ (x : Updates). x.bodies) l.whole ∙ ap (λ (x : Updates). l.front ++ x.bodies) g.is;
        before = l.here;
        obeyed = l.obeyed;
        there = s.1;
      },
      s.2,
    )

-- ---- what is made of a byte

abbrev by_byte : Confirmed → ClientReading → ℕ → Updates
by_byte confirmed r b = updates_by (takes_fast confirmed) r.cut.place r.cut.stage b

pub one_byte : (confirmed : Confirmed) (size : Size) (r : ClientReading) (b : ℕ) → reading_after confirmed size r.view (by_byte confirmed r b) ≡ read_on confirmed size r (b ∷ [])
one_byte confirmed size r b = ap (λ (bs : List Body). reading_after confirmed size r.view (updates bs (by_byte confirmed r b).next)) (sym (append-nil (by_byte confirmed r b).bodies))

abbrev after_next : Bool → ClientReading → ℕ → Updates
after_next fast r b = updates_by fast r.cut.place r.cut.stage b

-- the updates that a byte gives were obeyed, or one of them refused
pub byte_read : (result : Result (Unit {0}) ClientFault) (confirmed : Confirmed) (size : Size) (r : ClientReading) (b : ℕ) (fast : Bool) (m : Viewer) (k : CutterOf) → fast ≡ takes_fast confirmed
    → Reads result (reading_after confirmed size r.view (after_next fast r b)) m k → Reads result (read_on confirmed size r (b ∷ [])) m k
byte_read result confirmed size r b fast m k same read =
    subst (λ (x : Result ClientReading Refusal). Reads result x m k) (ap (λ (f : Bool). reading_after confirmed size r.view (after_next f r b)) same ∙ one_byte confirmed size r b) read

pub byte_stops : (result : Result (Unit {0}) ClientFault) (confirmed : Confirmed) (size : Size) (r : ClientReading) (b : ℕ) (fast : Bool) (m : Viewer) → fast ≡ takes_fast confirmed
    → OnErr result (Stops (WithinPacket confirmed size r.view (after_next fast r b).bodies) m) → OnErr result (Stops (ComesNext confirmed size r (b ∷ [])) m)
byte_stops (Ok done) confirmed size r b fast m same s = tt
byte_stops (Err f) confirmed size r b fast m same s = (s.0, inr (subst (λ (f : Bool). WithinPacket confirmed size r.view (after_next f r b).bodies s.0) same s.1), s.2)

-- bytes lie within the packet
pub reads_within : (confirmed : Confirmed) (size : Size) (r : ClientReading) (xs : List ℕ) (m : Viewer) (old new : CutterOf) → confirmed ≡ m.confirmed → StandFor r m old → new.fast ≡ old.fast → GoesOn r.cut (updates_from old.fast r.cut xs) new
    → Reads (Ok tt) (read_on confirmed size r xs) m new
reads_within confirmed size r xs m old new same s kept g =
    let u : Updates = updates_from (takes_fast confirmed) r.cut xs in
    let is : updates_from old.fast r.cut xs ≡ u = ap (λ fast. updates_from fast r.cut xs) (s.fast ∙ ap takes_fast (sym same)) in
    let h : GoesOn r.cut u new = subst (λ (x : Updates). GoesOn r.cut x new) is g in
    let none = h.2 s.unrefused in (
      reading r.view u.next,
      ap (λ (bs : List Body). bind (view_after_bodies confirmed size r.view bs) (λ w. goes w u (refusal_in u.next.stage))) h.0 ∙ ap (goes r.view u) none,
      record { view = s.view; cut = h.1; fast = kept ∙ s.fast; unrefused = none },
    )

-- ---- views on the way

-- a call that fails where another one does stops at the same view
pub stops_by : {T E U F : Type 0} (a : Result T E) (b : Result U F) (P Q : View → Type 0) (m : Viewer) → is_ok a ≡ is_ok b → ((w : View) → P w → Q w) → OnErr b (Stops P m) → OnErr a (Stops Q m)
stops_by (Ok x) (Ok y) P Q m same f s = tt
stops_by (Ok x) (Err y) P Q m same f s = absurd (let no : ⊥ = cc in no)
stops_by (Err x) (Ok y) P Q m same f s = absurd (let no : ⊥ = cc in no)
stops_by (Err x) (Err y) P Q m same f s = (s.0, f s.0 s.1, s.2)

-- within an update, by what its body says
pub mid_body : (confirmed : Confirmed) (size : Size) (v : View) (form : Form) (bytes : List ℕ) (u : Meaning) (w : View) → update_by_form form bytes ≡ Ok (u, []) → MidUpdate confirmed size v u w → MidBody confirmed size v form bytes w
mid_body confirmed size v form bytes u w e (inl h) = inl h
mid_body confirmed size v form bytes u w e (inr h) = inr (subst (λ (r : Field Meaning). WithinRead confirmed size v r w) (sym e) h)

next_further : (confirmed : Confirmed) (size : Size) (r : ClientReading) (b : ℕ) (bs : List ℕ) (w : View) → ComesNext confirmed size r (b ∷ []) w → ComesNext confirmed size r (b ∷ bs) w
next_further confirmed size r b bs w (inl h) = inl h
next_further confirmed size r b bs w (inr h) = inr h

-- ---- bytes, one by one

-- what is left comes to what all came to, and the front of it that was read to a reading
pub record LeftBytes (confirmed : Confirmed) (size : Size) (first : ClientReading) (all left : List ℕ) (m : Viewer) (k : CutterOf) : Type 0 where
  pub front : List ℕ
  pub parts : all ≡ front ++ left
  pub here : ClientReading
  pub reached : read_on confirmed size first front ≡ Ok here
  pub stand : StandFor here m k

-- what all came to
pub same_read : (confirmed : Confirmed) (size : Size) (first : ClientReading) (all left : List ℕ) (m : Viewer) (k : CutterOf) → (l : LeftBytes confirmed size first all left m k) → read_on confirmed size first all ≡ read_on confirmed size l.here left
same_read confirmed size first all left m k l =
    ap (read_on confirmed size first) l.parts ∙ read_joined confirmed size first l.front left ∙ ap (λ (x : Result ClientReading Refusal). bind x (λ s. read_on confirmed size s left)) l.reached

pub all_bytes : (confirmed : Confirmed) (size : Size) (r : ClientReading) (bytes : List ℕ) (m : Viewer) (k : CutterOf) → StandFor r m k → LeftBytes confirmed size r bytes bytes m k
all_bytes confirmed size r bytes m k s = record {
  front = [];
  parts = refl;
  here = r;
  reached = ap (λ (o : Option ℕ). unless_refused_at o (reading r.view r.cut)) s.unrefused;
  stand = s;
}

pub byte_left : (bytes : List ℕ) (i : ℕ) → i < length bytes → drop i bytes ≡ get_or bytes i 0 ∷ drop (i + 1) bytes
byte_left bytes i h = drop-cons bytes i 0 h ∙ ap (λ (n : ℕ). get_or bytes i 0 ∷ drop n bytes) (sym (add-one i))

-- more bytes were read
further : (confirmed : Confirmed) (size : Size) (first : ClientReading) (all xs ys left : List ℕ) (m n : Viewer) (k j : CutterOf) → (l : LeftBytes confirmed size first all left m k) → left ≡ xs ++ ys
    → Reads (Ok tt) (read_on confirmed size l.here xs) n j → LeftBytes confirmed size first all ys n j
further confirmed size first all xs ys left m n k j l e o = record {
  front = l.front ++ xs;
  parts = l.parts ∙ ap (λ (zs : List ℕ). l.front ++ zs) e ∙ sym (append_assoc l.front xs ys);
  here = o.0;
  reached = read_joined confirmed size first l.front xs ∙ ap (λ (x : Result ClientReading Refusal). bind x (λ s. read_on confirmed size s xs)) l.reached ∙ o.1;
  stand = o.2;
}

pub one_byte_less : (confirmed : Confirmed) (size : Size) (first : ClientReading) (all : List ℕ) (b : ℕ) (bs left : List ℕ) (m n : Viewer) (k j : CutterOf) → (l : LeftBytes confirmed size first all left m k) → left ≡ b ∷ bs
    → Reads (Ok tt) (read_on confirmed size l.here (b ∷ [])) n j → LeftBytes confirmed size first all bs n j
one_byte_less confirmed size first all b bs left m n k j l e o = further confirmed size first all (b ∷ []) bs left m n k j l e o

pub first_less : (confirmed : Confirmed) (size : Size) (first : ClientReading) (all : List ℕ) (n : ℕ) (left : List ℕ) (m o : Viewer) (k j : CutterOf) → (l : LeftBytes confirmed size first all left m k)
    → Reads (Ok tt) (read_on confirmed size l.here (take n left)) o j → LeftBytes confirmed size first all (drop n left) o j
first_less confirmed size first all n left m o k j l e = further confirmed size first all (take n left) (drop n left) left m o k j l (sym (take-append-drop n left)) e

pub one_byte_refused : (f : ClientFault) (confirmed : Confirmed) (size : Size) (first : ClientReading) (all : List ℕ) (b : ℕ) (bs left : List ℕ) (m : Viewer) (k : CutterOf) → (l : LeftBytes confirmed size first all left m k) → left ≡ b ∷ bs
    → RefusesAt f (read_on confirmed size l.here (b ∷ [])) → RefusesAt f (read_on confirmed size first all)
one_byte_refused f confirmed size first all b bs left m k l e r =
    refuses_through f (read_on confirmed size l.here (b ∷ [])) (read_on confirmed size first all) (λ g h.
    same_read confirmed size first all left m k l ∙ ap (read_on confirmed size l.here) e ∙ read_joined confirmed size l.here (b ∷ []) bs ∙ ap (λ (x : Result ClientReading Refusal). bind x (λ s. read_on confirmed size s bs)) h) r

-- a byte leaves the marks and the counts of what was obeyed
pub one_byte_stopped : (confirmed : Confirmed) (size : Size) (first : ClientReading) (all : List ℕ) (b : ℕ) (bs left : List ℕ) (m n : Viewer) (k : CutterOf) → (l : LeftBytes confirmed size first all left m k) → left ≡ b ∷ bs
    → Stops (ComesNext confirmed size l.here (b ∷ [])) n → Stops (ComesTo confirmed size first all) n
one_byte_stopped confirmed size first all b bs left m n k l e s = (
  s.0,
  record { front = l.front; left = b ∷ bs; whole = l.parts ∙ ap (λ (zs : List ℕ). l.front ++ zs) e; here = l.here; reads = l.reached; there = next_further confirmed size l.here b bs s.0 s.1 },
  s.2,
)

-- ---- what is left of them

-- a refusal of what is left
pub left_refused : (f : ClientFault) (confirmed : Confirmed) (size : Size) (first : ClientReading) (all left : List ℕ) (m : Viewer) (k : CutterOf) → (l : LeftBytes confirmed size first all left m k)
    → RefusesAt f (read_on confirmed size l.here left) → RefusesAt f (read_on confirmed size first all)
left_refused f confirmed size first all left m k l r =
    refuses_through f (read_on confirmed size l.here left) (read_on confirmed size first all) (λ g h. same_read confirmed size first all left m k l ∙ h) r

pub left_stops : (confirmed : Confirmed) (size : Size) (first : ClientReading) (all left : List ℕ) (m n : Viewer) (k : CutterOf) → (l : LeftBytes confirmed size first all left m k)
    → Stops (ComesTo confirmed size l.here left) n → Stops (ComesTo confirmed size first all) n
left_stops confirmed size first all left m n k l s =
    let c = s.1 in (
      s.0,
      record {
        front = l.front ++ c.front;
        left = c.left;
        whole = l.parts ∙ ap (λ (zs : List ℕ). l.front ++ zs) c.whole ∙ sym (append_assoc l.front c.front c.left);
        here = c.here;
        reads = read_joined confirmed size first l.front c.front ∙ ap (λ (x : Result ClientReading Refusal). bind x (λ y. read_on confirmed size y c.front)) l.reached ∙ c.reads;
        there = c.there;
      },
      s.2,
    )

-- a refusal of the first bytes
pub first_refused : (f : ClientFault) (confirmed : Confirmed) (size : Size) (r : ClientReading) (bytes xs ys : List ℕ) → bytes ≡ xs ++ ys → RefusesAt f (read_on confirmed size r xs) → RefusesAt f (read_on confirmed size r bytes)
first_refused f confirmed size r bytes xs ys e refuses =
    refuses_through f (read_on confirmed size r xs) (read_on confirmed size r bytes) (λ g h.
    ap (read_on confirmed size r) e ∙ read_joined confirmed size r xs ys ∙ ap (λ (x : Result ClientReading Refusal). bind x (λ s. read_on confirmed size s ys)) h) refuses

more_next : (confirmed : Confirmed) (size : Size) (r : ClientReading) (xs ys : List ℕ) (w : View) → ComesNext confirmed size r xs w → ComesNext confirmed size r (xs ++ ys) w
more_next confirmed size r xs ys w (inl h) = inl h
more_next confirmed size r [] ys w (inr h) = absurd h
more_next confirmed size r (b ∷ xs) ys w (inr h) = inr h

pub first_stops : (confirmed : Confirmed) (size : Size) (r : ClientReading) (bytes xs ys : List ℕ) (n : Viewer) → bytes ≡ xs ++ ys → Stops (ComesTo confirmed size r xs) n → Stops (ComesTo confirmed size r bytes) n
first_stops confirmed size r bytes xs ys n e s =
    let c = s.1 in (
      s.0,
      record {
        front = c.front;
        left = c.left ++ ys;
        whole = e ∙ ap (λ (zs : List ℕ). zs ++ ys) c.whole ∙ append_assoc c.front c.left ys;
        here = c.here;
        reads = c.reads;
        there = more_next confirmed size c.here c.left ys s.0 c.there;
      },
      s.2,
    )

-- a byte is read, or stops within its packet
pub byte_comes : (confirmed : Confirmed) (size : Size) (r : ClientReading) (b : ℕ) (m n : Viewer) (k : CutterOf) → StandFor r m k → Stops (ComesNext confirmed size r (b ∷ [])) n → Stops (ComesTo confirmed size r (b ∷ [])) n
unfolding all_bytes
byte_comes confirmed size r b m n k s stops = one_byte_stopped confirmed size r (b ∷ []) b [] (b ∷ []) m n k (all_bytes confirmed size r (b ∷ []) m k s) refl stops

-- none were taken
pub none_taken : (r : ClientReading) (n : ℕ) (bytes : List ℕ) (m : Viewer) (k j : CutterOf) → n ≡ 0 → StandFor r m k → j.fast ≡ k.fast → GoesOn r.cut (updates_from k.fast r.cut (take n bytes)) j → StandFor r m j
none_taken r n bytes m k j none s kept g =
    let here : GoesOn r.cut (updates_from k.fast r.cut (take 0 bytes)) j = subst (λ (i : ℕ). GoesOn r.cut (updates_from k.fast r.cut (take i bytes)) j) none g in
    record { view = s.view; cut = here.1; fast = kept ∙ s.fast; unrefused = s.unrefused }

pub front_byte : (bytes : List ℕ) → 0 < length bytes → take 1 bytes ≡ get_or bytes 0 0 ∷ []
front_byte [] some = absurd (omega (arith, some))
front_byte (b ∷ bs) some = refl

pub no_byte_left : (confirmed : Confirmed) (size : Size) (first : ClientReading) (all left : List ℕ) (m : Viewer) (k : CutterOf) → LeftBytes confirmed size first all left m k → left ≡ [] → Reads (Ok tt) (read_on confirmed size first all) m k
no_byte_left confirmed size first all left m k l e = (
  l.here,
  same_read confirmed size first all left m k l ∙ ap (read_on confirmed size l.here) e ∙ ap (λ (o : Option ℕ). unless_refused_at o (reading l.here.view l.here.cut)) l.stand.unrefused,
  l.stand,
)

-- ---- a whole packet

reads_front : (fast : Bool) (confirmed : Confirmed) (size : Size) (r : ClientReading) (xs : List ℕ) (m : Viewer) (old new : CutterOf) → fast ≡ takes_fast confirmed → confirmed ≡ m.confirmed → StandFor r m old → new.fast ≡ old.fast
    → GoesOn r.cut (updates_from fast r.cut xs) new
    → (read_on confirmed size r xs ≡ Ok (reading r.view (updates_from fast r.cut xs).next)) × StandFor (reading r.view (updates_from fast r.cut xs).next) m new
unfolding reads_within
reads_front fast confirmed size r xs m old new same c s kept g =
    let is : old.fast ≡ fast = s.fast ∙ ap takes_fast (sym c) ∙ sym same in
    let x = reads_within confirmed size r xs m old new c s kept (subst (λ (f : Bool). GoesOn r.cut (updates_from f r.cut xs) new) (sym is) g) in
    subst (λ (f : Bool). (read_on confirmed size r xs ≡ Ok (reading r.view (updates_from f r.cut xs).next)) × StandFor (reading r.view (updates_from f r.cut xs).next) m new) (sym same) (x.1, x.2)

-- all its bytes but the last one were read
pub opened_left : (confirmed : Confirmed) (size : Size) (r : ClientReading) (packet : List ℕ) (m : Viewer) (k p : CutterOf) → confirmed ≡ m.confirmed → StandFor r m k → p.fast ≡ k.fast → (o : Opens r.cut packet p)
    → LeftBytes confirmed size r packet (o.last ∷ []) m o.before
opened_left confirmed size r packet m k p same s kept o =
    let x = reads_front p.fast confirmed size r o.front m k o.before (kept ∙ s.fast ∙ ap takes_fast (sym same)) same s (o.fast ∙ kept) o.goes in
    record { front = o.front; parts = o.whole; here = reading r.view (updates_from p.fast r.cut o.front).next; reached = x.0; stand = x.1 }

-- the updates that a packet gives, with its last byte
abbrev pub opened_updates : {c : Cutting} {packet : List ℕ} {p : CutterOf} → Opens c packet p → Cutting → Bool → Updates
opened_updates o c fast = let next = (updates_from fast c o.front).next in updates_by fast next.place next.stage o.last

-- they were obeyed, or one of them refused
opened_read : (result : Result (Unit {0}) ClientFault) (confirmed : Confirmed) (size : Size) (r : ClientReading) (packet : List ℕ) (m n : Viewer) (k p q : CutterOf) (same : confirmed ≡ m.confirmed) (s : StandFor r m k) (kept : p.fast ≡ k.fast)
    → (o : Opens r.cut packet p) → Reads result (reading_after confirmed size r.view (opened_updates o r.cut p.fast)) n q
    → Reads result (read_on confirmed size (opened_left confirmed size r packet m k p same s kept o).here (o.last ∷ [])) n q
unfolding opened_left
opened_read result confirmed size r packet m n k p q same s kept o read =
    byte_read result confirmed size (reading r.view (updates_from p.fast r.cut o.front).next) o.last p.fast n q (kept ∙ s.fast ∙ ap takes_fast (sym same)) read

cut_by : (t : Result View Refusal) (o : Option ℕ) (u : Updates) (s : ClientReading) → bind t (λ w. goes w u o) ≡ Ok s → (s.cut ≡ u.next) × (o ≡ None)
cut_by (Ok w) None u s e = let same : reading w u.next ≡ s = cc in (ap (λ (x : ClientReading). x.cut) (sym same), refl)
cut_by (Ok w) (Some at) u s e = absurd (let no : ⊥ = cc in no)
cut_by (Err f) o u s e = absurd (let no : ⊥ = cc in no)

-- and the reading goes on behind the packet
pub opened_ok : (confirmed : Confirmed) (size : Size) (r : ClientReading) (packet : List ℕ) (m n : Viewer) (k p q j : CutterOf) (same : confirmed ≡ m.confirmed) → confirmed ≡ n.confirmed → (s : StandFor r m k) (kept : p.fast ≡ k.fast)
    → (o : Opens r.cut packet p) → Reads (Ok tt) (reading_after confirmed size r.view (opened_updates o r.cut p.fast)) n q → j.fast ≡ k.fast → Stands (cutting (r.cut.place + length packet) Between) j
    → Reads (Ok tt) (read_on confirmed size r packet) n j
opened_ok confirmed size r packet m n k p q j same also s kept o read fast past =
    let l = opened_left confirmed size r packet m k p same s kept o in
    let more = one_byte_less confirmed size r packet o.last [] (o.last ∷ []) m n o.before q l refl (opened_read (Ok tt) confirmed size r packet m n k p q same s kept o read) in
    let all = no_byte_left confirmed size r packet [] n q more refl in
    let takes : p.fast ≡ takes_fast confirmed = kept ∙ s.fast ∙ ap takes_fast (sym same) in
    let u : Updates = updates_from (takes_fast confirmed) r.cut packet in
    let cut = cut_by (view_after_bodies confirmed size r.view u.bodies) (refusal_in u.next.stage) u all.0 all.1 in
    let ends : u.next ≡ cutting (r.cut.place + length packet) Between = subst (λ (f : Bool). Ends (r.cut.place + length packet) (updates_from f r.cut packet)) takes o.ends cut.1 in (
      all.0,
      all.1,
      record {
        view = all.2.view;
        cut = subst (λ (x : Cutting). Stands x j) (sym (cut.0 ∙ ends)) past;
        fast = fast ∙ s.fast ∙ ap takes_fast (sym same ∙ also);
        unrefused = all.2.unrefused;
      },
    )

pub opened_refused : (f : ClientFault) (confirmed : Confirmed) (size : Size) (r : ClientReading) (packet : List ℕ) (m n : Viewer) (k p q : CutterOf) (same : confirmed ≡ m.confirmed) (s : StandFor r m k) (kept : p.fast ≡ k.fast)
    → (o : Opens r.cut packet p) → Reads (Err f) (reading_after confirmed size r.view (opened_updates o r.cut p.fast)) n q → RefusesAt f (read_on confirmed size r packet)
opened_refused f confirmed size r packet m n k p q same s kept o read =
    left_refused f confirmed size r packet (o.last ∷ []) m o.before (opened_left confirmed size r packet m k p same s kept o)
    (opened_read (Err f) confirmed size r packet m n k p q same s kept o read)

pub opened_stops : (f : ClientFault) (confirmed : Confirmed) (size : Size) (r : ClientReading) (packet : List ℕ) (m n : Viewer) (k p : CutterOf) (same : confirmed ≡ m.confirmed) (s : StandFor r m k) (kept : p.fast ≡ k.fast)
    → (o : Opens r.cut packet p) → Stops (WithinPacket confirmed size r.view (opened_updates o r.cut p.fast).bodies) n → Stops (ComesTo confirmed size r packet) n
unfolding opened_left
opened_stops f confirmed size r packet m n k p same s kept o stops =
    let l = opened_left confirmed size r packet m k p same s kept o in
    one_byte_stopped confirmed size r packet o.last [] (o.last ∷ []) m n o.before l refl
    (byte_stops (Err f) confirmed size (reading r.view (updates_from p.fast r.cut o.front).next) o.last p.fast n (kept ∙ s.fast ∙ ap takes_fast (sym same)) stops)
