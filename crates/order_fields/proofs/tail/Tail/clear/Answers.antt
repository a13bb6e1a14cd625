use Rattle.std.proofs.Common.{◌≤◌, length, arith}
use Rattle.std.proofs.lemmas.List.{drop_all}
use Rattle.order_fields.proofs.tail.Tail.clear.Goals as goal

pub returns : goal.returns
returns c =
    let all : length c.self.inside.room ≤ 182 = omega (arith, c.self.told) in
    drop_all 182 c.self.inside.room all
