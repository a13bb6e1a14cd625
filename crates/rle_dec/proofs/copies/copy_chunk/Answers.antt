use Rattle.rle_dec.proofs.Places.{rest_copied}
use Rattle.rle_dec.proofs.copies.copy_chunk.Goals as goal

pub returns : goal.returns
returns c = rest_copied c.args.out.now c.split_at_mut-drawn.result.0.now c.split_at_mut-drawn.result.1.now c.copy_from_slice.new.self c.args.at c.args.from 16
    c.split_at_mut-drawn.ensures.front c.split_at_mut-drawn.ensures.front_len c.requires.drawn c.copy_from_slice.ensures.after
