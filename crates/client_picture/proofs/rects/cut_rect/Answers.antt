use Rattle.client_picture.proofs.Cuts.{cut_is}
use Rattle.client_picture.proofs.Shifts.{is_on}
use Rattle.client_picture.proofs.rects.cut_rect.Goals as goal

pub returns : goal.returns
returns c = let on = is_on c.args.size c.args.rect c.requires.inside in
    cut_is c.args.size c.args.pixels.now c.args.rect c.first_corner-from.result c.first_corner-from.ensures.x c.first_corner-from.ensures.y on c.args.out.now c.paste_part.new.pixels c.requires.room c.paste_part.ensures
