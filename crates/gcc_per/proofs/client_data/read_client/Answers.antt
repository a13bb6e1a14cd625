use Rattle.std.proofs.Common.{ap, sym, ◌∙◌}
use Rattle.wire_num.specs.Cursor.{rest}
use Rattle.gcc_per.specs.Checked.{placed_checked}
use Rattle.gcc_per.specs.ClientData.{client_data_at}
use Rattle.gcc_per.proofs.RequestText.{few_channels}
use Rattle.gcc_per.proofs.client_data.read_client.Goals as goal

pub returns-in-Ok-clause-few : goal.returns-in-Ok-clause-few
returns-in-Ok-clause-few c =
    let start = ap (λ r. client_data_at (rest r)) (sym c.new-cursor.ensures) in
    few_channels c.args.bytes.now c.in-Ok.data (ap (placed_checked c.args.bytes.now) (start ∙ c.in-Ok.ensures.0))
