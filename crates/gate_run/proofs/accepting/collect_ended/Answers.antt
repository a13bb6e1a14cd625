use Rattle.std.proofs.Common.{sym, ap, ◌∙◌, subst, arith}
use Rattle.std.proofs.Math.Seq.{map-set_same}
use Rattle.std.proofs.lemmas.List.Elements.{All-set, All-get_or}
use Rattle.gate_run.specs.Working.{IsWork}
use Rattle.gate_run.proofs.accepting.collect_ended.Goals as goal

pub loop-preserved : goal.loop-preserved
loop-preserved g c =
    let inv = c.loop.invariant in let jobs = c.loop.jobs in let number = c.loop.number in let before = c.index_mut.result.now in let at = c.index_mut.ensures.value in
    let after = c.collect.new.self in
    record {
      links = map-set_same (λ j. j.given.link.value) jobs.items number after before (ap (λ x. x.link.value) c.collect.ensures.given ∙ ap (λ j. j.given.link.value) at) ∙ inv.links;
      shares = map-set_same (λ j. j.given.pass.value.share) jobs.items number after before (ap (λ x. x.pass.value.share) c.collect.ensures.given ∙ ap (λ j. j.given.pass.value.share) at) ∙ inv.shares;
      work = λ lock all.
          let now = inv.work lock all in
          All-set (IsWork g.L.Link lock) jobs.items number after
          (c.collect.ensures.work lock (subst (IsWork g.L.Link lock) (sym at) (All-get_or (IsWork g.L.Link lock) jobs.items number before (omega (arith, c.if-number-len.false, jobs.ok.0, inv.len)) now))) now;
      len = inv.len;
      capacity = inv.capacity;
    }
