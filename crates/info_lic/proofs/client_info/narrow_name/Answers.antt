use Rattle.std.proofs.Common.{◌∙◌, sym}
use Rattle.info_lic.proofs.Names.{named_name, named_other, named_long}
use Rattle.info_lic.proofs.client_info.narrow_name.Goals as goal
use Rattle.info_lic.proofs.client_info.narrow_name.Goals.{else-text-le-NAME_LENGTH-via-then-text-le-NAME_LENGTH+else-is_ascii, else-text-le-NAME_LENGTH-via-else-text-le-NAME_LENGTH}

pub returns-then-is_ascii : goal.returns-then-is_ascii
returns-then-is_ascii c =
    c.new.ensures ∙ sym (named_name c.args.text.now (record { short = c.if-text-le-NAME_LENGTH.true; ascii = c.if-is_ascii.ensures.cases }))

pub returns-else-text-le-NAME_LENGTH : goal.returns-else-text-le-NAME_LENGTH
returns-else-text-le-NAME_LENGTH c =
    c.new-else-text-le-NAME_LENGTH.ensures ∙ sym (
    elim c.else-text-le-NAME_LENGTH.branch [
      | else-text-le-NAME_LENGTH-via-then-text-le-NAME_LENGTH+else-is_ascii w ↦ named_other c.args.text.now w.if-is_ascii.ensures.cases
      | else-text-le-NAME_LENGTH-via-else-text-le-NAME_LENGTH w ↦ named_long c.args.text.now w.if-text-le-NAME_LENGTH.false
    ])
