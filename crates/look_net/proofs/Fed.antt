-- A client is shown more bytes.
use Rattle.std.proofs.Common.{◌≡◌, ℕ, Bool, true, false, List, ◌++◌, ap, sym, ◌∙◌, subst, arith}
use Rattle.std.specs.Prelude.{Some, Result, Ok, Err}
use Rattle.px_core.specs.declared.surface.Size.{Size}
use Rattle.caps_sets.specs.declared.confirmed.Confirmed.{Confirmed}
use Rattle.wire_num.specs.Field.{bind}
use Rattle.order_means.specs.ClientState.{Fault}
use Rattle.order_means.specs.FrameMarks.{ClientReading, Refusal, read_on, read_stream, first_reading}
use Rattle.order_means.proofs.Pieces.{read_joined}
use Rattle.client_view.specs.declared.client_fault.ClientFault.{ClientFault}
use Rattle.client_view.specs.declared.client_fault.ClientFault.TheVariants.{Refused, Named}
use Rattle.client_view.specs.Views.{capped, SameViewer}
use Rattle.client_view.specs.Refusals.{refusal}
use Rattle.client_view.specs.Clients.{ClientOf, IsReading, Feeds}
use Rattle.viewer_rules.specs.ViewerHandshake.{place_behind}
use Rattle.viewer_rules.specs.Shown.{shown_refusal, shown_read}
use Rattle.look_net.specs.Looks.{Shows}

-- what a client makes of bytes behind others
read_behind : (c : Confirmed) (size : Size) (shown bytes : List ℕ) (old : ClientOf) (h : Shows c size shown old)
    → read_stream c size (shown ++ bytes) ≡ read_on old.viewer.confirmed old.viewer.pictures.size h.reading bytes
read_behind c size shown bytes old h =
    read_joined c size (first_reading c size) shown bytes
    ∙ ap (λ (r : Result ClientReading Refusal). bind r (λ k. read_on c size k bytes)) h.reads
    ∙ ap (λ (k : Confirmed). read_on k size h.reading bytes) (sym h.confirmed)
    ∙ ap (λ (k : Size). read_on old.viewer.confirmed k h.reading bytes) (sym h.size_is)

abbrev FeedsSo : Result (Unit {0}) ClientFault → ClientOf → List ℕ → ClientOf → Type 0
FeedsSo result old bytes new = (r : ClientReading) → IsReading r old → Feeds result (read_on old.viewer.confirmed old.viewer.pictures.size r bytes) new

pub fed_ok : (c : Confirmed) (size : Size) (shown bytes : List ℕ) (old new : ClientOf) → Shows c size shown old → FeedsSo (Ok tt) old bytes new → SameViewer old.viewer new.viewer
    → Shows c size (shown ++ bytes) new
fed_ok c size shown bytes old new h feeds same =
    let f = feeds h.reading h.stands in
    record {
      reading = f.0;
      reads = read_behind c size shown bytes old h ∙ f.1;
      stands = f.2;
      confirmed = same.confirmed ∙ h.confirmed;
      size_is = same.size ∙ h.size_is;
    }

behind_capped : (start place : ℕ) → place_behind start (capped place) ≡ place_behind start place
behind_capped start place = omega arith

refused_at : (c : Confirmed) (size : Size) (shown bytes : List ℕ) (old : ClientOf) (start at : ℕ) (fault : Fault) (h : Shows c size shown old) (place : ℕ)
    → read_on old.viewer.confirmed old.viewer.pictures.size h.reading bytes ≡ Err (refusal place fault) → at ≡ capped place
    → shown_refusal start (shown_read c (Some size) (shown ++ bytes)) ≡ Some (place_behind start at)
refused_at c size shown bytes old start at fault h place e there =
    ap (λ (r : Result ClientReading Refusal). shown_refusal start (Some r)) (read_behind c size shown bytes old h ∙ e)
    ∙ ap Some (sym (ap (place_behind start) there ∙ behind_capped start place))

abbrev Refuses : Confirmed → Size → List ℕ → ℕ → ℕ → Type 0
Refuses c size shown start at = shown_refusal start (shown_read c (Some size) shown) ≡ Some (place_behind start at)

pub fed_refused : (c : Confirmed) (size : Size) (shown bytes : List ℕ) (old new : ClientOf) (start at : ℕ) (fault : ClientFault) → fault ≡ Refused at → Shows c size shown old
    → FeedsSo (Err fault) old bytes new → Refuses c size (shown ++ bytes) start at
fed_refused c size shown bytes old new start at fault e h feeds =
    let f = (subst (λ (x : ClientFault). FeedsSo (Err x) old bytes new) e feeds h.reading h.stands).0 in
    refused_at c size shown bytes old start at _ h f.0 f.1 f.2

named_at : (c : Confirmed) (size : Size) (shown bytes : List ℕ) (old new : ClientOf) (start at : ℕ) (oversized : Bool) (cache index : ℕ) → Shows c size shown old
    → FeedsSo (Err (Named at oversized cache index)) old bytes new → Refuses c size (shown ++ bytes) start at
named_at c size shown bytes old new start at true cache index h feeds =
    let f = (feeds h.reading h.stands).0 in
    refused_at c size shown bytes old start at _ h f.0 f.1 f.2
named_at c size shown bytes old new start at false cache index h feeds =
    let f = (feeds h.reading h.stands).0 in
    refused_at c size shown bytes old start at _ h f.0 f.1 f.2

pub fed_named : (c : Confirmed) (size : Size) (shown bytes : List ℕ) (old new : ClientOf) (start at : ℕ) (oversized : Bool) (cache index : ℕ) (fault : ClientFault)
    → fault ≡ Named at oversized cache index → Shows c size shown old → FeedsSo (Err fault) old bytes new → Refuses c size (shown ++ bytes) start at
fed_named c size shown bytes old new start at oversized cache index fault e h feeds =
    named_at c size shown bytes old new start at oversized cache index h (subst (λ (x : ClientFault). FeedsSo (Err x) old bytes new) e feeds)
