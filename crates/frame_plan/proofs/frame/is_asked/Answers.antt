use Rattle.std.proofs.Common.{◌≡◌, ◌∙◌, arith, rules}
use Rattle.std.specs.Prelude.{nat_lt, false}
use Rattle.std.proofs.lemmas.Bool.Decides.{nat_tests}
use Rattle.px_core.specs.Tiles.{tiles_of, share_tile}
use Rattle.px_core.specs.TileFlags.{tiles}
use Rattle.px_core.specs.Rectangle.{whole}
use Rattle.frame_plan.proofs.TileList.{asked_on, none_asked}
use Rattle.frame_plan.proofs.frame.is_asked.Goals as goal

pub returns-then-end-gt0 : goal.returns-then-end-gt0
returns-then-end-gt0 c =
    let meets : c.meets.result ≡ share_tile c.args.size (tiles c.args.asked.now) (tiles_of c.args.size (whole c.args.size)) = search rules in
    meets ∙ asked_on c.args.size (tiles c.args.asked.now)

pub returns-else-end-gt0 : goal.returns-else-end-gt0
returns-else-end-gt0 c =
    let test = c.if-end-gt0.false in
    let no : nat_lt 0 c.end.result ≡ false = grind (arith, nat_tests, test) in
    no ∙ none_asked c.args.size (tiles c.args.asked.now) c.end.result (omega (arith, test)) c.end.ensures.ends
