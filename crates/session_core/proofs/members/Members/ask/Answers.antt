use Rattle.std.proofs.Common.{◌≡◌, ◌∙◌, [], Some, refl, ap, sym}
use Rattle.px_core.specs.Tiles.{either_tiles, tiles_of}
use Rattle.px_core.specs.TileFlags.{tiles}
use Rattle.session_core.specs.declared.members.Member.{Member}
use Rattle.session_core.specs.Members.{viewer_of, place_of, tiles_asked}
use Rattle.session_core.proofs.MemberSteps.{part_kept, kept_here, replaced_by}
use Rattle.session_core.proofs.members.Members.ask.Goals as goal

pub returns-clause-viewers : goal.returns-clause-viewers
returns-clause-viewers c = rw (← c.self.view_is) (part_kept viewer_of c.self.inside.list.items c.place_here-i.result c.index_mut.result.now _ c.index_mut.ensures.value refl)

pub returns-clause-asked : goal.returns-clause-asked
returns-clause-asked c =
    let at : place_of c.args.v c.self.inside.list.items ≡ Some c.place_here-i.result = rw c.deref.ensures.value at c.place_here-i.ensures.place in
    let y : Member = record { number = c.index_mut.result.now.number; role = c.index_mut.result.now.role; asked = c.add.new.self; suppressed = c.index_mut.result.now.suppressed } in
    rw (← c.self.view_is) (λ k u. replaced_by tiles (λ m. m.asked) [] c.args.v c.self.inside.list.items c.place_here-i.result c.index_mut.result.now y
    (either_tiles (tiles_asked c.self.inside.list.items c.args.v) (tiles_of c.args.size c.args.r)) at c.index_mut.ensures.value refl (c.add.ensures ∙ ap (λ flags. either_tiles (tiles flags) (tiles_of c.args.size c.args.r)) (sym (kept_here (λ m. m.asked) [] c.args.v c.self.inside.list.items c.place_here-i.result c.index_mut.result.now at c.index_mut.ensures.value))) u k)

pub returns-clause-stopped : goal.returns-clause-stopped
returns-clause-stopped c = rw (← c.self.view_is) (part_kept (λ m. (m.number, m.suppressed)) c.self.inside.list.items c.place_here-i.result c.index_mut.result.now _ c.index_mut.ensures.value refl)
