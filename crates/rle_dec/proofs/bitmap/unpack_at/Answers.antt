use Rattle.std.proofs.Common.{◌≡◌, ◌*◌, ◌++◌, ◌-◌, ◌∙◌, ℕ, List, drop, length, take, refl, sym, ap, subst, Ok, arith}
use Rattle.std.proofs.lemmas.List.{take_at}
use Rattle.run_lengths.specs.RunLength.{Decompresses}
use Rattle.rle_dec.specs.Drawing.{drawn_whole}
use Rattle.rle_dec.proofs.Progress.{drawn_is_decompressed, drawn_is_unrle, refused_is_unrle}
use Rattle.rle_dec.proofs.bitmap.unpack_at.Goals as goal

-- a list that was written over another of its length
written : (n : ℕ) (xs ys : List ℕ) → length xs ≡ n → take n (xs ++ ys) ≡ xs
written n xs ys e = take_at xs ys n e

pub returns-in-Ok-clause-ok : goal.returns-in-Ok-clause-ok
returns-in-Ok-clause-ok c =
    let count : length c.as_mut_slice.result.now ≡ c.args.w * c.args.h = omega (arith, c.as_mut_slice.ensures.len, c.in_ok-out.ensures.len) in
    let p : List ℕ = c.draw_stream.new.out in
    let whole = written c.in_ok-out.out.len p (drop (length p) c.in_ok-out.out.items) (omega (arith, c.draw_stream.auto.out, count, c.in_ok-out.ensures.len)) in
    drawn_is_unrle c.args.depth c.args.bytes.now c.args.w c.args.h p c.requires.width.0 (c.in-Ok.ensures.ok ∙ ap (λ n. drawn_whole c.args.depth c.args.w n c.args.bytes.now) count) ∙ ap Ok (sym whole)

pub returns-in-Ok-clause-drawn : goal.returns-in-Ok-clause-drawn
returns-in-Ok-clause-drawn c =
    let count : length c.as_mut_slice.result.now ≡ c.args.w * c.args.h = omega (arith, c.as_mut_slice.ensures.len, c.in_ok-out.ensures.len) in
    let p : List ℕ = c.draw_stream.new.out in
    let whole = written c.in_ok-out.out.len p (drop (length p) c.in_ok-out.out.items) (omega (arith, c.draw_stream.auto.out, count, c.in_ok-out.ensures.len)) in
    let P : List ℕ → Type 0 = λ xs. Decompresses c.args.depth c.args.bytes.now c.args.w c.args.h xs in
    subst P (sym whole) (drawn_is_decompressed c.args.depth c.args.bytes.now c.args.w c.args.h p c.requires.width.0 (c.in-Ok.ensures.ok ∙ ap (λ n. drawn_whole c.args.depth c.args.w n c.args.bytes.now) count))

pub returns-in-Err-clause-refused : goal.returns-in-Err-clause-refused
returns-in-Err-clause-refused c =
    let count : length c.as_mut_slice.result.now ≡ c.args.w * c.args.h = omega (arith, c.as_mut_slice.ensures.len, c.in_ok-out.ensures.len) in
    refused_is_unrle c.args.depth c.args.bytes.now c.in-Err.refused.now c.args.w c.args.h (length c.args.bytes.now - length c.in-Err.refused.now) refl
    (c.in-Err.ensures.refused ∙ ap (λ n. drawn_whole c.args.depth c.args.w n c.args.bytes.now) count)
