use Rattle.std.proofs.Common.{[], ◌∷◌, ◌++◌, length, map, All, sym, refl, ap, ◌∙◌, subst, arith, append_assoc, append-nil, length-append}
use Rattle.std.proofs.lemmas.List.{nil_from_length}
use Rattle.std.proofs.lemmas.List.Elements.{All-head, All-rest}
use Rattle.gate_run.specs.Working.{IsWork, IsDealtOut}
use Rattle.gate_run.specs.OpenGate.{EndsAll}
use Rattle.gate_run.proofs.Dealing.{dealt_less, dealt_all}
use Rattle.gate_run.proofs.Ending.{none_ended, one_more_ended}
use Rattle.gate_run.proofs.finishing.finish_all.Goals as goal

pub loop-job-init : goal.loop-job-init
loop-job-init g c = record {
  passed = c.requires.lock;
  ended = ([], refl, none_ended g.G.Link.Link c.args.lock.now.head c.args.lock.now.first c.args.pass c.args.reports.now.items (g.G.Gate.finished c.args.gate.now) c.requires.mine c.requires.none);
  share = λ share dealt. dealt;
  work = c.requires.work;
  fewer = c.requires.given;
  room = c.requires.room;
  given = refl;
  asked = refl;
  closed = refl;
  faults = refl;
}

pub finish_next-pass-requires-clause-work : goal.finish_next-pass-requires-clause-work
finish_next-pass-requires-clause-work g c κs within =
    let work = IsWork g.G.Link.Link c.args.lock.now in
    All-head work c.in-Some.job c.pop_front.new.self.items (subst (All work) c.in-Some.ensures.items c.loop-job.invariant.work)

pub loop-job-preserved : goal.loop-job-preserved
loop-job-preserved g c =
    let inv = c.loop-job.invariant in let next = c.finish_next-pass.ensures in let job = c.in-Some.job in let items = c.in-Some.ensures.items in
    let given = inv.ended.0 in let link = job.given.link.value in let rest = c.pop_front.new.self.items in
    record {
      passed = next.lock;
      ended = (
        given ++ link ∷ [],
        inv.ended.1 ∙ (ap (λ js. given ++ map (λ j. j.given.link.value) js) items ∙ sym (append_assoc given (link ∷ []) (map (λ j. j.given.link.value) rest))),
        one_more_ended g.G.Link.Link c.args.lock.now.head c.args.lock.now.first c.loop-job.pass c.finish_next-pass.result given link c.loop-job.reports.items c.finish_next-pass.new.reports.items
            (g.G.Gate.finished c.args.gate.now) (g.G.Gate.finished c.loop-job.gate) (g.G.Gate.finished c.finish_next-pass.new.gate) inv.ended.2 next.ends,
      );
      share = λ share dealt. dealt_less share c.loop-job.pass.share c.finish_next-pass.result.share job.given.pass.value.share (map (λ j. j.given.pass.value.share) rest)
          (subst (IsDealtOut share c.loop-job.pass.share) (ap (map (λ j. j.given.pass.value.share)) items) (inv.share share dealt)) next.share;
      work = All-rest (IsWork g.G.Link.Link c.args.lock.now) job rest c.loop-job.jobs.items items inv.work;
      fewer = omega (arith, ap length items, ap length next.given, ap length next.ends.finished, length-append (g.G.Gate.finished c.loop-job.gate) (next.ends.spent ∷ []), inv.fewer);
      room = omega (arith, ap length items, next.len, next.capacity, inv.room);
      given = next.given ∙ inv.given;
      asked = next.asked ∙ inv.asked;
      closed = next.ended ∙ inv.closed;
      faults = next.faults ∙ inv.faults;
    }

pub returns-clause-all : goal.returns-clause-all
returns-clause-all g c =
    let inv = c.loop-job.invariant in
    let rest = c.pop_front.new.self in
    let none = c.in_default.ensures.items ∙ nil_from_length rest.items (omega (arith, rest.ok.0, c.in_default.ensures.cases.1)) in
    let all = inv.ended.1 ∙ (ap (λ js. inv.ended.0 ++ map (λ j. j.given.link.value) js) none ∙ append-nil inv.ended.0) in
    subst (λ links. EndsAll g.G.Link.Link c.args.lock.now.head c.args.lock.now.first c.loop-job.pass.seen links c.loop-job.reports.items (g.G.Gate.finished c.args.gate.now) (g.G.Gate.finished c.loop-job.gate))
    (sym all) inv.ended.2.all

pub returns-clause-mine : goal.returns-clause-mine
returns-clause-mine g c = c.loop-job.invariant.ended.2.mine

pub returns-clause-share : goal.returns-clause-share
returns-clause-share g c = λ share dealt.
    let rest = c.pop_front.new.self in
    let none = c.in_default.ensures.items ∙ nil_from_length rest.items (omega (arith, rest.ok.0, c.in_default.ensures.cases.1)) in
    dealt_all share c.loop-job.pass.share
    (subst (IsDealtOut share c.loop-job.pass.share) (ap (map (λ j. j.given.pass.value.share)) none) (c.loop-job.invariant.share share dealt))
