use Rattle.std.proofs.Common.{◌++◌, ◌∙◌, ap, sym, subst}
use Rattle.grow_lock.specs.Journal.{IsDisjoint}
use Rattle.grow_lock.specs.Shares.{Share, both, HoldsShare}
use Rattle.gate_run.proofs.Dealing.{both_grows}
use Rattle.gate_run.proofs.finishing.finish_next.Goals as goal

pub returns-clause-ends : goal.returns-clause-ends
returns-clause-ends g c =
    let done = c.finish-theirs in let meet = c.meet.ensures in let fresh = c.requires.work.fresh in
    let own = done.ensures.serves.mine ∙ ap (λ l. l ++ done.result.report.places.list) fresh.1 in
    record {
      report = done.result.report;
      spent = done.result.spent;
      served = record {
        before = c.args.job.given.pass.value;
        after = done.result.pass;
        no_turn = fresh.0;
        no_place = fresh.1;
        since = c.requires.work.since;
        serves = done.ensures.serves;
        within = meet.seen.2;
      };
      grows = meet.seen.1;
      mine = meet.mine.0 ∙ ap (λ l. c.args.pass.mine ++ l) own;
      disjoint = subst (IsDisjoint c.args.pass.mine) own meet.mine.1;
      reports = c.push_reserved.ensures.items;
      finished = c.done.ensures.finished;
    }

pub returns-clause-share : goal.returns-clause-share
returns-clause-share g c =
    let own = c.args.job.given.pass.value.share in
    subst (λ (s : Share). HoldsShare s (both c.args.pass.share own)) (sym c.meet.ensures.share)
    (both_grows c.args.pass.share own c.finish-theirs.result.pass.share c.finish-theirs.ensures.serves.share)
