use Rattle.std.proofs.Common.{◌≡◌, [], Some, false, ap}
use Rattle.px_core.specs.TileFlags.{tiles}
use Rattle.session_core.specs.Members.{place_of}
use Rattle.session_core.proofs.MemberSteps.{kept_removed, viewers_removed}
use Rattle.session_core.proofs.members.Members.remove.Goals as goal

pub returns-clause-viewers : goal.returns-clause-viewers
returns-clause-viewers c =
    let at : place_of c.args.v c.self.inside.list.items ≡ Some c.place_here-i.result = rw c.deref.ensures.value at c.place_here-i.ensures.place in
    rw (c.remove.ensures.items, ← c.self.view_is) (viewers_removed c.args.v c.self.inside.list.items c.place_here-i.result at)

pub returns-clause-asked : goal.returns-clause-asked
returns-clause-asked c u ne =
    let at : place_of c.args.v c.self.inside.list.items ≡ Some c.place_here-i.result = rw c.deref.ensures.value at c.place_here-i.ensures.place in
    rw (c.remove.ensures.items, ← c.self.view_is) (ap tiles (kept_removed (λ m. m.asked) [] c.args.v c.self.inside.list.items c.place_here-i.result at u ne))

pub returns-clause-stopped : goal.returns-clause-stopped
returns-clause-stopped c u ne =
    let at : place_of c.args.v c.self.inside.list.items ≡ Some c.place_here-i.result = rw c.deref.ensures.value at c.place_here-i.ensures.place in
    rw (c.remove.ensures.items, ← c.self.view_is) (kept_removed (λ m. m.suppressed) false c.args.v c.self.inside.list.items c.place_here-i.result at u ne)
