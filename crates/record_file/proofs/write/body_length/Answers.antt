use Rattle.std.proofs.Common.{subst, length}
use Rattle.std.specs.Prelude.{IsTrue}
use Rattle.draw_ops.specs.Ranges.{is_u16}
use Rattle.session_rules.specs.declared.entry.Entry.{Entry}
use Rattle.record_rules.specs.Tables.{body_bytes}
use Rattle.record_file.proofs.Pieces.{rest_few}
use Rattle.record_file.proofs.write.body_length.Goals as goal

pub drawing_length-requires : goal.drawing_length-requires
drawing_length-requires c = rest_few c.in-Draw.by c.in-Draw.d (subst (λ (e : Entry). IsTrue (is_u16 (length (body_bytes e)))) c.in-Draw.is c.requires)
