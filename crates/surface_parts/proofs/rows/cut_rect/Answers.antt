use Rattle.std.proofs.Common.{refl}
use Rattle.surface_parts.specs.declared.texture.Texture.{Texture}
use Rattle.surface_parts.proofs.Cuts.{cut_is}
use Rattle.surface_parts.proofs.rows.cut_rect.Goals as goal

pub returns : goal.returns
returns c = let p = c.part_of-part.result in let t : Texture = record { pixels = c.args.pixels; w = c.args.size.w; x = p.x; y = p.y } in
    cut_is c.args.size c.args.pixels.now c.args.rect p t c.args.out.now c.paste_part.new.pixels c.part_of-part.ensures.same c.part_of-part.ensures.inside refl refl refl refl c.requires.room c.paste_part.ensures
