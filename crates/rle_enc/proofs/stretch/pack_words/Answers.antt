use Rattle.std.proofs.Common.{◌≡◌, ◌+◌, ◌<◌, ◌≤◌, ◌∙◌, ◌++◌, ℕ, List, get_or, take, drop, length, refl, ap, sym, subst, arith}
use Rattle.std.specs.Prelude.{Some, zip}
use Rattle.std.proofs.lemmas.List.{length-drop, take_rest}
use Rattle.rle_enc.specs.Stretch.{StandAlone, bytes_from, literal_bytes}
use Rattle.rle_enc.proofs.Counting.{chosen_same}
use Rattle.rle_enc.proofs.Pending.{drop-spots, step_packed}
use Rattle.rle_enc.proofs.Telling.{told_alone, told_background, told_color, words_behind, words_of_slices}
use Rattle.rle_enc.proofs.stretch.pack_words.Goals as goal

pub loop-counts-init : goal.loop-counts-init
loop-counts-init c =
    (words_of_slices c.args.pixels.now c.args.row.now c.args.from c.new-words.result (omega (arith, c.requires.from)) c.requires.row c.new-words.ensures, record { packed = refl; forward = omega arith }, omega (arith, c.requires.from, c.new-words.ensures.few))

pub write_first-requires-clause-four : goal.write_first-requires-clause-four
write_first-requires-clause-four c =
    let ps : List ℕ = c.args.pixels.now in
    omega (arith, ap length (take_rest ps c.loop-counts.at), length-drop c.loop-counts.at ps, c.loop-counts.invariant.2, c.in-Some.ensures.color_within)

pub write_piece-requires : goal.write_piece-requires
write_piece-requires c = omega (arith, c.piece-piece.ensures.short, c.in-Some.ensures.background_within, c.in-Some.ensures.color_within, c.loop-counts.invariant.0.few)

pub overflow_add-size : goal.overflow_add-size
overflow_add-size c = record { fits = omega (arith, c.size_of.ensures, c.piece-piece.ensures.short, c.in-Some.ensures.background_within, c.in-Some.ensures.color_within, c.loop-counts.invariant.0.few) }

pub past-words-requires-clause-within : goal.past-words-requires-clause-within
past-words-requires-clause-within c = omega (arith, c.size_of.ensures, c.piece-piece.ensures.short, c.in-Some.ensures.background_within, c.in-Some.ensures.color_within)

pub overflow_add-at : goal.overflow_add-at
overflow_add-at c = record { fits = omega (arith, c.size_of.ensures, c.piece-piece.ensures.short, c.in-Some.ensures.background_within, c.in-Some.ensures.color_within, c.loop-counts.invariant.0.within, c.requires.few) }

pub loop-counts-smaller : goal.loop-counts-smaller
loop-counts-smaller c = omega (arith, c.past-words.ensures.left, c.size_of.ensures, c.piece-piece.ensures.some, c.piece-piece.ensures.short, c.in-Some.ensures.background_within, c.in-Some.ensures.color_within)

pub loop-counts-preserved : goal.loop-counts-preserved
loop-counts-preserved c =
    let ps : List ℕ = c.args.pixels.now in
    let row : List ℕ = c.args.row.now in
    let at : ℕ = c.loop-counts.at in
    let l : ℕ = c.in-Some.counts.alone in
    let n : ℕ = l + c.size_of.result in
    let are = c.loop-counts.invariant.0 in
    let counts = c.in-Some.ensures in
    let short : n < c.loop-counts.words.left = omega (arith, c.size_of.ensures, c.piece-piece.ensures.short, counts.background_within, counts.color_within) in
    let within : at + l < length ps = omega (arith, counts.color_within, are.within) in
    let high : length (drop (at + l) ps) ≤ length (drop (at + l) row) = omega (arith, length-drop (at + l) ps, length-drop (at + l) row, c.requires.row) in
    let place : at + n ≡ at + l + c.size_of.result = omega arith in
    let alone : StandAlone l (drop at ps) (drop at (zip ps row)) = subst (λ ss. StandAlone l (drop at ps) ss) (sym (drop-spots at (Some row) ps)) (told_alone ps row at c.loop-counts.words c.in-Some.counts c.requires.row are counts) in
    let run = c.piece-piece.ensures.run (get_or ps (at + l) 0) ∙ chosen_same (Some (drop (at + l) row)) (drop (at + l) ps) c.in-Some.counts.background (c.in-Some.counts.color + 1) (get_or ps (at + l) 0) high (told_background ps row at c.loop-counts.words c.in-Some.counts are counts) (told_color ps row at c.loop-counts.words c.in-Some.counts are counts) in
    let packed = step_packed c.args.depth (Some row) ps at l (get_or ps (at + l) 0) c.piece-piece.result c.loop-counts.out.items c.write_first.new.out.items c.write_piece.new.out.items within c.requires.row refl alone run (c.in_ok-write_first.ensures ∙ ap (λ us. c.loop-counts.out.items ++ literal_bytes c.args.depth (take l us)) (take_rest ps at)) c.in_ok-write_piece.ensures in (
      words_behind ps row at n c.loop-counts.words c.past-words.result short c.past-words.ensures.left c.past-words.ensures.same c.past-words.ensures.next are,
      record {
        packed = ap (λ m. c.write_piece.new.out.items ++ bytes_from c.args.depth m (zip ps row)) (place ∙ ap (λ m. at + l + m) c.size_of.ensures) ∙ packed ∙ c.loop-counts.invariant.1.packed;
        forward = omega (arith, c.loop-counts.invariant.1.forward);
      },
      omega (arith, short, c.past-words.ensures.left, c.loop-counts.invariant.2),
    )
