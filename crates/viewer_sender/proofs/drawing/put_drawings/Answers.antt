use Rattle.std.proofs.Common.{◌≡◌, ◌∙◌, ◌+◌, ◌∷◌, [], ◌++◌, List, take, refl, ap, sym, subst}
use Rattle.std.proofs.lemmas.List.{take_all}
use Rattle.caps_sets.specs.declared.confirmed.Confirmed.{Confirmed}
use Rattle.frame_rules.specs.Frame.{Sent}
use Rattle.frame_rules.specs.Describes.{HasAllCaches}
use Rattle.frame_plan.specs.Orders.{cached_of, sent_as, drawings_in}
use Rattle.frame_plan.specs.declared.orders.Planned.{Planned}
use Rattle.viewer_sender.specs.Writes.{Writes}
use Rattle.viewer_sender.specs.Goes.{SentGoes}
use Rattle.viewer_sender.specs.Runs.{drawings_sending}
use Rattle.viewer_sender.proofs.Loops.{drawings_last, next_goes, next_chosen, sent_all, sent_alone}
use Rattle.viewer_sender.proofs.CachedGoes.{goes_with}
use Rattle.viewer_sender.proofs.drawing.put_drawings.Goals as goal

pub loop-i-init : goal.loop-i-init
loop-i-init c = record {
  wrote = (refl, λ uses stands. record { gathered = refl; registers = refl; caches = stands });
  fit = c.requires.go;
  chosen = c.requires.chosen;
}

pub put_drawing-requires-clause-all : goal.put_drawing-requires-clause-all
put_drawing-requires-clause-all c = subst HasAllCaches (sym c.loop-i.invariant.wrote.0) c.requires.all

pub put_drawing-requires-clause-goes : goal.put_drawing-requires-clause-goes
put_drawing-requires-clause-goes c =
    let ps = c.args.drawings.now in
    let d = c.index-drawings-i.result in
    let conf = c.args.writer.now.confirmed in
    subst (λ (k : Confirmed). SentGoes k (sent_as d)) (sym c.loop-i.invariant.wrote.0)
    (subst (λ (x : Planned). SentGoes conf (sent_as x)) (sym c.index-drawings-i.is) (next_goes conf ps c.loop-i.i d c.loop-i-test.true c.loop-i.invariant.fit).0)

pub put_drawing-requires-clause-chosen : goal.put_drawing-requires-clause-chosen
put_drawing-requires-clause-chosen c =
    let ps = c.args.drawings.now in
    let d = c.index-drawings-i.result in
    let conf = c.args.writer.now.confirmed in
    subst (λ (k : Confirmed). d.cached ≡ cached_of k (sent_as d)) (sym c.loop-i.invariant.wrote.0)
    (subst (λ (x : Planned). x.cached ≡ cached_of conf (sent_as x)) (sym c.index-drawings-i.is) (next_chosen conf ps c.loop-i.i d c.loop-i-test.true c.loop-i.invariant.chosen).0)

pub put_drawing-requires-clause-with_it : goal.put_drawing-requires-clause-with_it
put_drawing-requires-clause-with_it c =
    let ps = c.args.drawings.now in
    let d = c.index-drawings-i.result in
    let conf = c.args.writer.now.confirmed in
    goes_with conf d
    (subst (λ (x : Planned). x.cached ≡ cached_of conf (sent_as x)) (sym c.index-drawings-i.is) (next_chosen conf ps c.loop-i.i d c.loop-i-test.true c.loop-i.invariant.chosen).0)
    (subst (λ (x : Planned). SentGoes conf (sent_as x)) (sym c.index-drawings-i.is) (next_goes conf ps c.loop-i.i d c.loop-i-test.true c.loop-i.invariant.fit).0)

pub loop-i-preserved : goal.loop-i-preserved
loop-i-preserved c =
    let ps = c.args.drawings.now in
    let i = c.loop-i.i in
    let d = c.index-drawings-i.result in
    let a = c.args.writer.now in
    let b = c.loop-i.writer in
    let next : drawings_in (take i ps) ++ sent_as d ∷ [] ≡ drawings_in (take (i + 1) ps) =
    ap (λ (x : Planned). drawings_in (take i ps) ++ sent_as x ∷ []) c.index-drawings-i.is ∙ sym (drawings_last ps i d c.loop-i-test.true) in
    record {
      wrote = subst (λ (xs : List Sent). Writes a c.put_drawing.new.writer (λ uses. drawings_sending a.confirmed uses xs)) next
          (sent_all a b c.put_drawing.new.writer (drawings_in (take i ps)) (sent_as d ∷ []) c.loop-i.invariant.wrote (sent_alone b c.put_drawing.new.writer (sent_as d) c.in_ok-put_drawing.ensures));
      fit = (next_goes a.confirmed ps i d c.loop-i-test.true c.loop-i.invariant.fit).1;
      chosen = (next_chosen a.confirmed ps i d c.loop-i-test.true c.loop-i.invariant.chosen).1;
    }

pub returns : goal.returns
returns c =
    let ps = c.args.drawings.now in
    let i = c.loop-i.i in
    let a = c.args.writer.now in
    subst (λ (qs : List Planned). Writes a c.loop-i.writer (λ uses. drawings_sending a.confirmed uses (drawings_in qs))) (take_all i ps c.loop-i-test.false)
    c.loop-i.invariant.wrote
