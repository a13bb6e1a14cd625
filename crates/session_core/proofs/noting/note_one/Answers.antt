use Rattle.std.proofs.Common.{◌∙◌, ℕ, ap, sym, subst}
use Rattle.std.specs.Prelude.{Bool, IfSome, ◌≤◌}
use Rattle.px_core.specs.declared.rectangle.Rect.{Rect}
use Rattle.px_core.specs.Rectangle.{clipped}
use Rattle.px_core.specs.Tiles.{tiles_of}
use Rattle.session_core.specs.declared.about.About.{About}
use Rattle.session_core.specs.About.{is_into}
use Rattle.session_core.specs.Marking.{marks_in, noted}
use Rattle.session_core.proofs.MarkLemmas.{saved_is, saved_small}
use Rattle.session_core.proofs.noting.note_one.Goals as goal

pub note-requires-clause-slot : goal.note-requires-clause-slot
note-requires-clause-slot c = subst (λ (a : About). IfSome a.saves (λ slot. slot ≤ 15)) (sym c.requires.about) (saved_small c.args.size c.args.d.now.clip c.args.d.now.shape c.requires.rules)

pub returns-clause-tiles : goal.returns-clause-tiles
returns-clause-tiles c = c.note.ensures.tiles ∙ ap (λ (r : Rect). noted (tiles_of c.args.size r) c.args.number (marks_in c.args.marks.now.tiles))
    (c.clipped-rect.ensures.clipped ∙ ap (λ (r : Rect). clipped r c.args.d.now.clip) (c.rect_over.ensures c.args.d.now.shape (ap (λ (a : About). a.rect) c.requires.about)))

pub returns-clause-slots : goal.returns-clause-slots
returns-clause-slots c = c.note.ensures.slots ∙ ap (λ (set : ℕ → Bool). noted set c.args.number (marks_in c.args.marks.now.slots))
    (ap (λ (a : About). is_into a.saves) c.requires.about ∙ saved_is c.args.d.now.shape)
