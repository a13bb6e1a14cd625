use Rattle.std.proofs.Common.{◌∙◌, subst, List, ℕ}
use Rattle.std.proofs.lemmas.Result.{err_from_is_err_and}
use Rattle.wire_num.specs.Cursor.{rest}
use Rattle.order_fields.specs.Secondary.{glyphs_at}
use Rattle.order_read.specs.Others.{others, one_glyph_at}
use Rattle.order_read.specs.Reading.{Appends}
use Rattle.order_read.proofs.Appending.{HasPushed, more_pushed, all_pushed, refused_pushed, refused_onto}
use Rattle.order_read.proofs.OthersRead.{one_glyph, no_glyph, glyphs_end}
use Rattle.order_read.proofs.secondary.read_glyphs.Goals as goal

pub returns-in_err-read_glyph : goal.returns-in_err-read_glyph
returns-in_err-read_glyph c =
    let p = err_from_is_err_and c.from_residual.result c.from_residual.ensures.1 in
    rw (p.1, p.2) (refused_onto c.in_err-read_glyph.field-0.0 (others (glyphs_at c.args.count c.args.cache)) (others (one_glyph_at c.args.cache)) c.args.cursor.now c.loop.cursor c.read_glyph.new.cursor
    c.args.out.now.items c.loop.out.items c.read_glyph.new.out.items c.read_glyph.new.out.items c.loop.invariant.bytes
    (λ left e. refused_pushed _ _ c.args.cursor.now.bytes left _ _ c.loop.invariant.pushed (no_glyph c.args.count c.loop.counter c.args.cache _ left c.loop-test.true e)) c.in_err-read_glyph.ensures)

pub loop-preserved : goal.loop-preserved
loop-preserved c =
    let read = c.in_ok-read_glyph.ensures in
    let told = subst (λ (bs : List ℕ). Appends bs read.0 c.loop.out.items c.read_glyph.new.out.items) c.loop.invariant.bytes read.3 in
    record {
      pushed = more_pushed _ _ _ _ read.0 _ _ _ c.loop.invariant.pushed (one_glyph c.args.count c.loop.counter c.args.cache _ _ read.0 c.loop-test.true read.1) told;
      bytes = read.2 ∙ c.loop.invariant.bytes;
    }

pub returns : goal.returns
returns c =
    let e = glyphs_end c.args.count c.loop.counter c.args.cache (rest c.loop.cursor) c.loop-test.false in
    let p = subst (λ r. HasPushed (others (glyphs_at c.args.count c.args.cache) (rest c.args.cursor.now)) r c.args.cursor.now.bytes c.args.out.now.items c.loop.out.items) e c.loop.invariant.pushed in
    (p.sent, all_pushed _ c.args.cursor.now.bytes (rest c.loop.cursor) c.args.out.now.items c.loop.out.items p, c.loop.invariant.bytes, p.told)
