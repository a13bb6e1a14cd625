use Rattle.std.proofs.Common.{length, ap, ◌∙◌, ◌-◌, arith}
use Rattle.wire_num.specs.Cursor.{rest}
use Rattle.gcc_per.specs.ClientBlocks.{least_length}
use Rattle.gcc_per.proofs.Within.{content_size, refused_in_content}
use Rattle.gcc_per.proofs.Blocks.{network_refused}
use Rattle.gcc_per.proofs.client_blocks.read_block.Goals as goal

pub desktop_of-requires : goal.desktop_of-requires
desktop_of-requires c =
    let size = content_size (c.in_ok-length.length - 4) (rest c.read_length.new.cursor) (rest c.in_ok-content.content) (rest c.within.new.self) c.in_ok-content.ensures.field.0 in
    let least = ap least_length c.in-ClientCore.is in
    omega (arith, size, least, c.in_ok-length.ensures.least, ap length c.rest.ensures)

pub returns-in-Err : goal.returns-in-Err
returns-in-Err c =
    let kind = c.in_ok-kind.ensures in
    let count = c.in_ok-length.ensures.field in
    let content = c.in_ok-content.ensures in
    let inner = c.in-Err.ensures in (
      network_refused _ _ _ _ _ _ _ _ _ _ _ kind.0 count.0 content.field.0 c.in-ClientNetwork.is inner.0
          (refused_in_content _ _ _ _ _ _ _ content.fits content.behind content.offsets inner.1 c.at.ensures.place c.at.ensures.inside c.go_to-in-Err.ensures),
      ap (λ r. r.bytes) c.go_to-in-Err.ensures ∙ content.field.1 ∙ count.1 ∙ kind.1,
    )
