use Rattle.std.proofs.Common.{◌++◌, map, All, sym, ap, ◌∙◌, subst}
use Rattle.std.proofs.lemmas.List.{map-append}
use Rattle.edge_io.specs.Outside.{outside_given, outside_spent}
use Rattle.gate_run.specs.OpenGate.{GivesNoMore}
use Rattle.gate_run.specs.Working.{IsWork, IsDealtOut}
use Rattle.gate_run.proofs.serving.serve_links.Goals as goal

pub returns-clause-links : goal.returns-clause-links
returns-clause-links g c =
    let gives = outside_given g.G.Link.Link in let spends = outside_spent g.G.Link.Link in let gate = g.G.Gate in
    let opened = c.args.gate.now in let closed = c.accept_links-pass.new.gate in let after = c.finish_all-pass.new.gate in
    let taken = c.accept_links-pass.ensures.taken in let end = c.finish_all-pass.ensures in let all = end.all in
    let joined = map gives (map (λ x. x.given.link.value) c.from_vec-jobs.result.items) in
    record {
      joined = joined;
      spent = map spends all.spents;
      given = ap (map gives) (end.given ∙ (taken.given ∙ ap (map (λ x. x.given.link.value)) (sym c.from_vec-jobs.ensures.items))) ∙ ap (λ l. map gives l ++ joined) (sym c.requires.gate.given);
      finished = ap (map spends) (all.finished ∙ ap (λ l. l ++ all.spents) taken.finished) ∙ map-append spends (gate.finished opened) all.spents;
      served = all.served;
      places = all.places;
      mine = end.mine;
      asked = end.asked ∙ taken.asked;
      cause = subst (λ e. GivesNoMore c.accept_links-pass.result.2 (gate.ended opened) e (gate.faults opened) (gate.faults after)) (sym end.ended)
          (subst (λ f. GivesNoMore c.accept_links-pass.result.2 (gate.ended opened) (gate.ended closed) (gate.faults opened) f) (sym end.faults) taken.no_more);
    }

pub finish_all-pass-requires-clause-work : goal.finish_all-pass-requires-clause-work
finish_all-pass-requires-clause-work g c κs within =
    subst (All (IsWork g.G.Link.Link c.args.lock.now)) (sym c.from_vec-jobs.ensures.items) c.accept_links-pass.ensures.taken.work

pub returns-clause-share : goal.returns-clause-share
returns-clause-share g c =
    let accepted = c.accept_links-pass in
    c.finish_all-pass.ensures.share c.args.pass.share
    (subst (IsDealtOut c.args.pass.share accepted.result.0.share) (ap (map (λ x. x.given.pass.value.share)) (sym c.from_vec-jobs.ensures.items)) accepted.ensures.dealt)
