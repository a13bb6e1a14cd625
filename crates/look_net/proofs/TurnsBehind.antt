-- Turns one after the other, from the first byte on.
use Rattle.std.proofs.Common.{◌≡◌, ◌∙◌, ℕ, ◌<◌, List, [], ◌++◌, false, inl, inr, refl, sym, ap, subst, append_assoc, append-nil, arith}
use Rattle.std.specs.Prelude.{nat_le}
use Rattle.std.proofs.lemmas.Bool.Decides.{nat_tests}
use Rattle.std.specs.declared.option.Option.{Option}
use Rattle.std.specs.declared.option.Option.TheVariants.{Some, None}
use Rattle.std.specs.Io.KnownBytes.{Appends, Consumes, Keeps, IsAtEnd}
use Rattle.std.proofs.KnownBytes.{Appends-nil, Appends-trans, Consumes-nil, Consumes-trans, Consumes-kept}
use Rattle.edge_io.specs.Faults.{Rose}
use Rattle.edge_io.specs.Outside.{Input, Output, Outside, outside}
use Rattle.edge_io.specs.Sink.{WritesFront}
use Rattle.caps_sets.specs.declared.confirmed.Confirmed.{Confirmed}
use Rattle.command_words.specs.ViewWords.{ViewingOf}
use Rattle.viewer_rules.specs.ClientPackets.{connection_request}
use Rattle.viewer_rules.specs.ViewerHandshake.{Watching, Watched, watched, first_watching, viewer_handshake}
use Rattle.viewer_rules.proofs.Pieces.{two_pieces}
use Rattle.look_net.specs.Looks.{LookOf, IsWatching}
use Rattle.look_net.specs.declared.end.End.{End}
use Rattle.look_net.specs.declared.end.End.TheVariants as end
use Rattle.look_net.specs.Views.{status_of, leave_at, due, AreAll, WatchEnd, Tells}
use Rattle.look_net.specs.Views.WatchEnd.{Decided, Unread, Unsaid, Spent}
use Rattle.look_net.specs.HostTurns.{watch_end, IsRead, EndsBy, Says, Turns, unheard, IsHeard, WatchesTurn, WatchesAll}
use Rattle.look_net.proofs.SaidBehind.{front_behind}

-- ---- bytes behind other bytes

-- two stretches of a host's stream as one
abbrev joined : Watched → Watched → Watched
joined x y = record { text = x.text ++ y.text; after = y.after }

-- a text of another text
abbrev with_text : List ℕ → Watching → Watched
with_text text after = record { text = text; after = after }

handshake_more : (name : List ℕ) (c : Confirmed) (xs ys : List ℕ)
    → viewer_handshake name c (xs ++ ys) ≡ joined (viewer_handshake name c xs) (watched name c (viewer_handshake name c xs).after ys)
handshake_more name c xs ys =
    let first = watched name c first_watching xs in
    let next = watched name c first.after ys in
    ap (λ (x : Watched). with_text (connection_request ++ x.text) x.after) (two_pieces name c first_watching xs ys)
    ∙ ap (λ (t : List ℕ). with_text t next.after) (sym (append_assoc connection_request first.text next.text))

handshake_first : (name : List ℕ) (c : Confirmed) → viewer_handshake name c [] ≡ with_text connection_request first_watching
unfolding watched
handshake_first name c = refl

all_more : (a b : Option (List ℕ)) (xs ys : List ℕ) → Consumes a b xs → AreAll b ys → AreAll a (xs ++ ys)
all_more None b xs ys p q = tt
all_more (Some x) None xs ys p q = absurd p
all_more (Some x) (Some y) xs ys p q = p ∙ ap (λ l. xs ++ l) q

all_at_end : (a : Option (List ℕ)) → IsAtEnd a → AreAll a []
all_at_end None e = tt
all_at_end (Some xs) e = e

-- ---- turns

module _ (v : ViewingOf) (xs ys : List ℕ) (x y : Watched) (before mid now : Outside) (told : Appends before.output.told mid.output.told x.text)
    (consumed : Consumes before.input.left mid.input.left xs) (reads : mid.input.faults ≡ before.input.faults) (writes : mid.output.faults ≡ before.output.faults) where
  due_more : x.text ++ due v y ≡ due v (joined x y)
  due_more = sym (append_assoc x.text y.text (leave_at (status_of v y.after)))

  whole_more : Appends mid.output.told now.output.told (due v y) → Appends before.output.told now.output.told (due v (joined x y))
  whole_more t =
      subst (λ text. Appends before.output.told now.output.told text) due_more (Appends-trans before.output.told mid.output.told now.output.told x.text (due v y) told t)

  front_more : WritesFront mid.output.told now.output.told (due v y) → WritesFront before.output.told now.output.told (due v (joined x y))
  front_more t =
      subst (λ text. WritesFront before.output.told now.output.told text) due_more (front_behind before.output.told mid.output.told now.output.told x.text (due v y) told t)

  rose_reads : Rose mid.input.faults now.input.faults → Rose before.input.faults now.input.faults
  rose_reads r = subst (λ n. Rose n now.input.faults) reads r

  rose_writes : Rose mid.output.faults now.output.faults → Rose before.output.faults now.output.faults
  rose_writes r = subst (λ n. Rose n now.output.faults) writes r

  tells_more : (k : WatchEnd) → Tells k v ys y mid now → Tells k v (xs ++ ys) (joined x y) before now
  tells_more Decided t = (whole_more t.0, (λ e. all_more before.input.left mid.input.left xs ys consumed (t.1 e)), t.2 ∙ reads, t.3 ∙ writes)
  tells_more Unread t = (whole_more t.0, t.1, rose_reads t.2, t.3 ∙ writes)
  tells_more Unsaid t = (front_more t.0, t.1 ∙ reads, rose_writes t.2)
  tells_more Spent t = (front_more t.0, t.1 ∙ reads, t.2 ∙ writes)

  turns_more : (answer : Option End) (look : LookOf) → Turns answer v ys y look mid now → Turns answer v (xs ++ ys) (joined x y) look before now
  turns_more None look t = record {
    goes_on = t.goes_on;
    told = Appends-trans before.output.told mid.output.told now.output.told x.text y.text told t.told;
    reads = t.reads ∙ reads;
    writes = t.writes ∙ writes;
  }
  turns_more (Some e) look t = record { is = t.is; tells = tells_more (watch_end e) t.tells }

-- a turn of bytes that say nothing changes nothing
joined_unheard : (x : Watched) → joined x (unheard x.after) ≡ x
joined_unheard x = ap (λ (text : List ℕ). with_text text x.after) (append-nil x.text)

-- the bytes so far and those of a turn
heard_more : (v : ViewingOf) (xs ys : List ℕ) (y : Watched) → IsHeard v (viewer_handshake v.name v.confirmed xs).after ys y
    → viewer_handshake v.name v.confirmed (xs ++ ys) ≡ joined (viewer_handshake v.name v.confirmed xs) y
heard_more v xs ys y (inl is) = handshake_more v.name v.confirmed xs ys ∙ ap (λ (z : Watched). joined (viewer_handshake v.name v.confirmed xs) z) (sym is)
heard_more v xs ys y (inr none) =
    let x = viewer_handshake v.name v.confirmed xs in
    ap (λ (zs : List ℕ). viewer_handshake v.name v.confirmed (xs ++ zs)) none.0
    ∙ ap (λ (zs : List ℕ). viewer_handshake v.name v.confirmed zs) (append-nil xs)
    ∙ sym (joined_unheard x) ∙ ap (λ (z : Watched). joined x z) (sym none.1)

-- one turn more
pub one_turn_more : (v : ViewingOf) (answer : Option End) (look new : LookOf) (before mid now : Outside) (a : WatchesAll None v look before mid)
    → WatchesTurn answer v (viewer_handshake v.name v.confirmed a.read).after new mid now → WatchesAll answer v new before now
one_turn_more v answer look new before mid now a t =
    let x = viewer_handshake v.name v.confirmed a.read in
    record {
      read = a.read ++ t.read;
      reads = Consumes-trans before.input.left mid.input.left now.input.left a.read t.read a.reads t.reads;
      turns = subst (λ (z : Watched). Turns answer v (a.read ++ t.read) z new before now) (sym (heard_more v a.read t.read t.heard t.is_heard))
          (turns_more v a.read t.read x t.heard before mid now a.turns.told a.reads a.turns.reads a.turns.writes answer new t.turns);
    }

-- ---- turns that read nothing

module _ (v : ViewingOf) (w : Watching) (look : LookOf) (goes : IsRead 35 v w look) where
  nothing_due : due v (unheard w) ≡ []
  nothing_due = ap leave_at goes.status_is

  unsaid : (told : Option (List ℕ)) → Appends told told (due v (unheard w))
  unsaid told = subst (λ text. Appends told told text) (sym nothing_due) (Appends-nil told)

  -- the host's bytes have ended
  pub closes : (i j : Input) (o : Output) → IsAtEnd i.left → Keeps i.left j.left → j.faults ≡ i.faults → WatchesTurn (Some end.Closed) v w look (outside i o) (outside j o)
  closes i j o at_end keeps same = record {
    read = [];
    heard = unheard w;
    is_heard = inr (refl, refl);
    reads = Consumes-kept i.left i.left j.left [] (Consumes-nil i.left) keeps;
    turns = record { is = goes; tells = (unsaid o.told, (λ e. all_at_end i.left at_end), same, refl) };
  }

  -- a read failed
  pub fails : (i j : Input) (o : Output) → Keeps i.left j.left → Rose i.faults j.faults → WatchesTurn (Some end.ReadFault) v w look (outside i o) (outside j o)
  fails i j o keeps rose = record {
    read = [];
    heard = unheard w;
    is_heard = inr (refl, refl);
    reads = Consumes-kept i.left i.left j.left [] (Consumes-nil i.left) keeps;
    turns = record { is = goes.status_is; tells = (unsaid o.told, goes.status_is, rose, refl) };
  }

-- ---- the first

none_yet : (marks : ℕ) → 0 < marks → nat_le marks 0 ≡ false
none_yet marks some = grind (arith, nat_tests)

goes_first : (v : ViewingOf) (look : LookOf) → 0 < v.marks → IsWatching first_watching look → IsRead 35 v first_watching look
goes_first v look some watching = record { status_is = rw (none_yet v.marks some) refl; watching = watching; unrefused = refl }

module _ (v : ViewingOf) (look : LookOf) (i : Input) (o o' : Output) (some : 0 < v.marks)
    (watching : IsWatching first_watching look) where
  -- the request was said
  pub requested : Says None connection_request o o' → WatchesAll None v look (outside i o) (outside i o')
  requested s = record {
    read = [];
    reads = Consumes-nil i.left;
    turns = subst (λ (z : Watched). Turns None v [] z look (outside i o) (outside i o')) (sym (handshake_first v.name v.confirmed))
        (record { goes_on = goes_first v look some watching; told = s.0; reads = refl; writes = s.1 });
  }

  -- it couldn't be said
  pub unrequested : (e : End) → Says (Some e) connection_request o o'
      → WatchesAll (Some e) v look (outside i o) (outside i o')
  unrequested e s = record {
    read = [];
    reads = Consumes-nil i.left;
    turns = subst (λ (z : Watched). Turns (Some e) v [] z look (outside i o) (outside i o')) (sym (handshake_first v.name v.confirmed))
        (by e s);
  }
    where
      start : Watched
      start = with_text connection_request first_watching

      all_due : connection_request ≡ due v start
      all_due = sym (append-nil connection_request) ∙ ap (λ n. connection_request ++ leave_at n) (sym (goes_first v look some watching).status_is)

      front : WritesFront o.told o'.told connection_request → WritesFront o.told o'.told (due v start)
      front f = subst (λ t. WritesFront o.told o'.told t) all_due f

      by : (e : End) → Says (Some e) connection_request o o' → EndsBy e v [] start look (outside i o) (outside i o')
      by end.WriteFault s = record { is = tt; tells = (front s.0, refl, s.1) }
      by end.OutOfMemory s = record { is = tt; tells = (front s.0, refl, s.1) }
      by end.Marks s = absurd s
      by end.Farewell s = absurd s
      by end.Closed s = absurd s
      by (end.Refused at) s = absurd s
      by end.ReadFault s = absurd s
