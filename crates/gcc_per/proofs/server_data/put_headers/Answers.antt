use Rattle.std.proofs.Common.{◌++◌, ap, sym, ◌∙◌, arith}
use Rattle.gcc_per.proofs.Response.{headers_are}
use Rattle.gcc_per.proofs.server_data.put_headers.Goals as goal

pub returns-clause-ok : goal.returns-clause-ok
returns-clause-ok c =
    let same = headers_are c.args.size (omega (arith, c.requires)) in
    c.in_ok-extend_from_slice.ensures.items ∙ ap (λ xs. c.args.out.now.items ++ xs) (sym same)
