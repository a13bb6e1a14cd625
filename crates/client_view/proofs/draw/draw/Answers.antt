use Rattle.std.proofs.Common.{rules, ◌≡◌, to_z, of_z, w32}
use Rattle.client_view.proofs.draw.draw.Goals as goal

pub returns-in-Save-clause-drawn : goal.returns-in-Save-clause-drawn
returns-in-Save-clause-drawn c = rw c.in-Save.is (λ registers. c.save.ensures c.args.confirmed.now c.args.bounds c.args.caches.now registers)

pub returns-in-Restore-clause-drawn : goal.returns-in-Restore-clause-drawn
returns-in-Restore-clause-drawn c = rw c.in-Restore.is (λ registers. c.restore.ensures.drawn c.args.confirmed.now c.args.caches.now registers)

pub returns-in-Scr-clause-drawn : goal.returns-in-Scr-clause-drawn
returns-in-Scr-clause-drawn c =
    let n : to_z w32 (of_z w32 c.in-Scr.sx) ≡ c.in-Scr.sx = search rules in
    let m : to_z w32 (of_z w32 c.in-Scr.sy) ≡ c.in-Scr.sy = search rules in
    rw c.in-Scr.is (λ registers. rw (n, m) at (c.draw_copy.ensures.drawn c.args.confirmed.now c.args.caches.now c.args.blocks.now registers))

pub returns-in-Mem-clause-drawn : goal.returns-in-Mem-clause-drawn
returns-in-Mem-clause-drawn c =
    let n : to_z w32 (of_z w32 c.in-Mem.sx) ≡ c.in-Mem.sx = search rules in
    let m : to_z w32 (of_z w32 c.in-Mem.sy) ≡ c.in-Mem.sy = search rules in
    rw c.in-Mem.is (λ registers. rw (n, m) at (c.draw_image.ensures.drawn c.args.blocks.now registers))

pub returns-in-Mem3-clause-drawn : goal.returns-in-Mem3-clause-drawn
returns-in-Mem3-clause-drawn c =
    let n : to_z w32 (of_z w32 c.in-Mem3.sx) ≡ c.in-Mem3.sx = search rules in
    let m : to_z w32 (of_z w32 c.in-Mem3.sy) ≡ c.in-Mem3.sy = search rules in
    rw c.in-Mem3.is (λ registers. rw (n, m) at (c.draw_mixed.ensures.drawn c.args.blocks.now registers))

pub returns-in-Glyphs-clause-drawn : goal.returns-in-Glyphs-clause-drawn
returns-in-Glyphs-clause-drawn c =
    let n : to_z w32 (of_z w32 c.in-Glyphs.x) ≡ c.in-Glyphs.x = search rules in
    let m : to_z w32 (of_z w32 c.in-Glyphs.y) ≡ c.in-Glyphs.y = search rules in
    rw c.in-Glyphs.is (λ registers. rw (n, m) at (c.draw_run.ensures.drawn c.args.blocks.now registers))
