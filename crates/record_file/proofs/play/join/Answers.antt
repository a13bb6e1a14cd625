use Rattle.std.proofs.Common.{◌∙◌, ap, sym}
use Rattle.record_file.specs.Plays.{first_name}
use Rattle.record_file.proofs.Played.{no_role, joined, join_refused, named_first, none_first}
use Rattle.record_file.proofs.play.join.Goals as goal

pub returns-in_default-clause-played : goal.returns-in_default-clause-played
returns-in_default-clause-played c =
    no_role c.args.session.now c.args.v c.args.role (none_first c.args.role c.args.session.now.head.rows (ap (first_name c.args.role) (sym c.requires.rows) ∙ (sym c.first_name.ensures ∙ c.in_default.is)))

pub returns-in-Ok-clause-played : goal.returns-in-Ok-clause-played
returns-in-Ok-clause-played c =
    let k = named_first c.args.role c.args.session.now.head.rows c.in-Some.name (ap (first_name c.args.role) (sym c.requires.rows) ∙ (sym c.first_name.ensures ∙ c.in-Some.is)) in
    joined c.args.session.now c.join.new.self c.args.v c.args.role c.in-Some.name c.in-Ok.number c.recall_legal.ensures.rows.distinct k.0 k.1 c.in-Ok.ensures.answer c.in-Ok.ensures.journal

pub returns-in-Err-clause-played : goal.returns-in-Err-clause-played
returns-in-Err-clause-played c =
    let k = named_first c.args.role c.args.session.now.head.rows c.in-Some.name (ap (first_name c.args.role) (sym c.requires.rows) ∙ (sym c.first_name.ensures ∙ c.in-Some.is)) in
    join_refused c.refused_join.result c.args.session.now _ c.args.v c.args.role c.in-Some.name c.in-Err.fault c.recall_legal.ensures.rows.distinct k.1 c.refused_join.ensures c.in-Err.ensures.journal
