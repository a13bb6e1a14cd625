use Rattle.std.proofs.lemmas.Result.{err_from_is_err_and}
use Rattle.conn_rules.specs.Told.{news_steps, is_ready, end_steps}
use Rattle.conn_core.specs.Judges.{found_steps}
use Rattle.conn_core.proofs.Fronts.{told_before, told_after}
use Rattle.conn_core.proofs.news.tell.Goals as goal

pub returns-in_err-tell_news-clause-memory : goal.returns-in_err-tell_news-clause-memory
returns-in_err-tell_news-clause-memory c =
    let p = err_from_is_err_and c.from_residual.result c.from_residual.ensures.1 in
    rw p.1 (told_before _ (news_steps c.args.news (found_steps c.args.found.now.events.items c.args.found.now.areas.items)) (end_steps (is_ready c.args.stage)) _ c.in_err-tell_news.ensures.memory)

pub returns-in_err-tell_end-clause-memory : goal.returns-in_err-tell_end-clause-memory
returns-in_err-tell_end-clause-memory c =
    let p = err_from_is_err_and c.from_residual-in_err-tell_end.result c.from_residual-in_err-tell_end.ensures.1 in
    rw (p.1, ← c.is_ready-ready.ensures) (told_after _ (news_steps c.args.news (found_steps c.args.found.now.events.items c.args.found.now.areas.items)) (end_steps c.is_ready-ready.result) _ _ c.in_ok-tell_news.ensures.ok c.in_err-tell_end.ensures.memory)
