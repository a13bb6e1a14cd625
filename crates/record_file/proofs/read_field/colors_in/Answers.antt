use Rattle.std.proofs.Common.{length, ◌-◌, refl}
use Rattle.record_file.proofs.Readers.{colors_more}
use Rattle.record_file.proofs.read_field.colors_in.Goals as goal

pub loop-rest-preserved : goal.loop-rest-preserved
loop-rest-preserved c =
    let i = c.loop-rest.invariant in
    let more = colors_more c.args.bytes.now c.loop-rest.colors.items _ c.loop-rest.rest.now (length c.loop-rest.rest.now - 3) _ c.in-len3-up.len_at_least refl c.in_ok-push.ensures.items
    c.color_of.ensures.value c.color_of.ensures.fits i.left i.colors in
    record { left = more.0; colors = more.1 }
