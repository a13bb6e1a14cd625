use Rattle.std.proofs.Common.{◌∙◌, ℕ, ap, sym}
use Rattle.std.specs.Prelude.{Option}
use Rattle.session_core.specs.About.{is_into}
use Rattle.session_core.specs.Marking.{marks_in, noted}
use Rattle.session_core.proofs.MarkLemmas.{unsaved_marked}
use Rattle.session_core.proofs.marks.Marks.note.Goals as goal

pub returns-in-None : goal.returns-in-None
returns-in-None c = record {
  tiles = c.note_tiles.ensures.tiles;
  slots = ap marks_in c.note_tiles.ensures.slots ∙ unsaved_marked c.args.self.now.slots c.args.number
      ∙ ap (λ (saves : Option ℕ). noted (is_into saves) c.args.number (marks_in c.args.self.now.slots)) (sym c.in-None.is);
}
