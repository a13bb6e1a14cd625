use Rattle.std.proofs.Common.{◌<◌, ◌∷◌, [], ◌++◌, length, map, All, sym, ap, ap₂, ◌∙◌, subst, arith}
use Rattle.std.proofs.lemmas.List.{map-append, length-map}
use Rattle.std.proofs.lemmas.List.Elements.{All-push}
use Rattle.edge_io.specs.Gate.{IsBelow}
use Rattle.edge_io.specs.Faults.{Rose}
use Rattle.gate_run.specs.Working.{IsWork, IsDealtOut}
use Rattle.serve_rules.specs.Turns.{SessionPass}
use Rattle.gate_run.proofs.Dealing.{dealt_more, kept_lock, kept_as}
use Rattle.gate_run.proofs.accepting.accept_all.Goals as goal

pub returns-in-End-clause-taken : goal.returns-in-End-clause-taken
returns-in-End-clause-taken g c =
    let inv = c.loop.invariant in let kept = c.collect_ended.ensures in let last = c.in-End.ensures in
    record {
      few = omega (arith, c.collect_ended.new.jobs.ok.0, kept.len, inv.few);
      given = last.given ∙ (inv.given ∙ sym kept.links);
      work = kept.work c.args.lock.now inv.work;
      no_more = (last.ended, last.cause ∙ inv.faults);
      finished = last.finished ∙ inv.finished;
      asked = last.asked ∙ inv.asked;
    }

pub returns-in-Failed-clause-taken : goal.returns-in-Failed-clause-taken
returns-in-Failed-clause-taken g c =
    let inv = c.loop.invariant in let kept = c.collect_ended.ensures in let last = c.in-Failed.ensures in
    record {
      few = omega (arith, c.collect_ended.new.jobs.ok.0, kept.len, inv.few);
      given = last.given ∙ (inv.given ∙ sym kept.links);
      work = kept.work c.args.lock.now inv.work;
      no_more = (last.ended ∙ inv.ended, subst (λ f. Rose f (g.G.Gate.faults c.next.new.self)) inv.faults last.cause);
      finished = last.finished ∙ inv.finished;
      asked = last.asked ∙ inv.asked;
    }

pub returns-in-End-clause-dealt : goal.returns-in-End-clause-dealt
returns-in-End-clause-dealt g c = subst (IsDealtOut c.args.pass.share c.loop.pass.share) (sym c.collect_ended.ensures.shares) c.loop.invariant.dealt

pub returns-in-Failed-clause-dealt : goal.returns-in-Failed-clause-dealt
returns-in-Failed-clause-dealt g c = subst (IsDealtOut c.args.pass.share c.loop.pass.share) (sym c.collect_ended.ensures.shares) c.loop.invariant.dealt

pub loop-preserved : goal.loop-preserved
loop-preserved g c =
    let inv = c.loop.invariant in let next = c.in-Link.ensures in let kept = c.collect_ended.ensures in let jobs = c.collect_ended.new.jobs in
    let wait = c.wait_for_room.ensures in let job = c.start_link-job in let started = c.wait_for_threads.ensures in let push = c.push_reserved.ensures in let given = g.G.Gate.given c.loop.gate in
    let below : length given < c.args.links = subst (IsBelow (length given)) (inv.asked ∙ c.requires.gate.asked.1) next.limit.0 in
    let count = ap length inv.given ∙ length-map c.loop.jobs.items (λ j. j.given.link.value) in
    record {
      of_lock = kept_lock c.args.lock.now c.loop.pass c.split-part.new.pass _ c.split-part.ensures.unchanged inv.of_lock;
      passed = kept_as c.args.pass c.loop.pass c.split-part.new.pass _ c.split-part.ensures.unchanged inv.passed;
      dealt = dealt_more c.args.pass.share c.loop.pass.share c.split-part.new.pass.share c.split-part.result.share
          (map (λ j. j.given.pass.value.share) c.loop.jobs.items) (map (λ j. j.given.pass.value.share) c.push_reserved.new.self.items) inv.dealt
          (ap (λ (p : SessionPass). p.share) c.split-part.ensures.unchanged) c.split-part.ensures.share
          (ap (map (λ j. j.given.pass.value.share)) push.items ∙ (map-append (λ j. j.given.pass.value.share) jobs.items (job.result ∷ [])
          ∙ ap₂ (λ l p. l ++ p ∷ []) kept.shares (ap (λ (p : SessionPass). p.share) job.ensures.pass)));
      made = omega (arith, push.len, kept.len, inv.made);
      few = omega (arith, push.len, kept.len, below, count, c.loop.jobs.ok.0);
      room = omega (arith, push.capacity, kept.capacity, inv.room);
      given = (started.given ∙ (wait.given ∙ next.given)) ∙ (ap (λ l. l ++ c.in-Link.link ∷ []) (inv.given ∙ sym kept.links) ∙ (ap (λ x. map (λ j. j.given.link.value) jobs.items ++ x ∷ []) (sym job.ensures.link)
          ∙ (sym (map-append (λ j. j.given.link.value) jobs.items (job.result ∷ [])) ∙ ap (map (λ j. j.given.link.value)) (sym push.items))));
      work = subst (All (IsWork g.G.Link.Link c.args.lock.now)) (sym push.items)
          (All-push (IsWork g.G.Link.Link c.args.lock.now) jobs.items job.result (kept.work c.args.lock.now inv.work) job.ensures.work);
      finished = started.finished ∙ (wait.finished ∙ (next.finished ∙ inv.finished));
      asked = started.asked ∙ (wait.asked ∙ (next.asked ∙ inv.asked));
      ended = started.ended ∙ (wait.ended ∙ (next.ended ∙ inv.ended));
      faults = started.faults ∙ (wait.faults ∙ (next.cause ∙ inv.faults));
    }
