use Rattle.std.proofs.Common.{◌≤◌, ℕ, List, get_or, refl, arith}
use Rattle.rle_enc.specs.Stretch.{leading, row_of}
use Rattle.rle_enc.proofs.Counting.{leading_some, piece_background, piece_color}
use Rattle.rle_enc.proofs.counts.first_piece.Goals as goal

pub count_color_past-requires : goal.count_color_past-requires
count_color_past-requires c = c.requires.run (omega (arith, c.count_background-background.ensures.is, c.if-background-eq0.true))

pub returns-then-background-eq0-clause-is : goal.returns-then-background-eq0-clause-is
returns-then-background-eq0-clause-is c =
    let ps : List ℕ = c.args.pixels.now in
    let two : 2 ≤ leading (get_or ps 0 0) ps = c.requires.run (omega (arith, c.count_background-background.ensures.is, c.if-background-eq0.true)) in
    piece_color (row_of c.args.aboves) ps c.count_background-background.result c.count_color_past.result (get_or ps 0 0) c.requires.row c.count_background-background.ensures.is c.count_color_past.ensures.is (omega (arith, c.count_color_past.ensures.is, c.if-background-eq0.true, two)) (omega (arith, c.count_color_past.ensures.is, two))

pub returns-then-not-has_color_at-clause-is : goal.returns-then-not-has_color_at-clause-is
returns-then-not-has_color_at-clause-is c =
    let ps : List ℕ = c.args.pixels.now in
    let some : 1 ≤ leading (get_or ps 0 0) ps = leading_some ps c.requires.some in
    let few : leading (get_or ps 0 0) ps ≤ c.count_background-background.result = c.if-not-has_color_at.ensures refl in
    piece_background (row_of c.args.aboves) ps c.count_background-background.result (leading (get_or ps 0 0) ps) (get_or ps 0 0) c.requires.row c.count_background-background.ensures.is refl (omega (arith, some, few)) few

pub returns-then-background-color-clause-is : goal.returns-then-background-color-clause-is
returns-then-background-color-clause-is c =
    let some : 1 ≤ leading (get_or c.args.pixels.now 0 0) c.args.pixels.now = leading_some c.args.pixels.now c.requires.some in
    piece_background (row_of c.args.aboves) c.args.pixels.now c.count_background-background.result c.count_color-color.result (get_or c.args.pixels.now 0 0) c.requires.row c.count_background-background.ensures.is c.count_color-color.ensures.is (omega (arith, some, c.if-background-color.true, c.count_color-color.ensures.is)) (omega (arith, c.if-background-color.true))

pub returns-else-background-color-clause-is : goal.returns-else-background-color-clause-is
returns-else-background-color-clause-is c =
    piece_color (row_of c.args.aboves) c.args.pixels.now c.count_background-background.result c.count_color-color.result (get_or c.args.pixels.now 0 0) c.requires.row c.count_background-background.ensures.is c.count_color-color.ensures.is (omega (arith, c.if-background-color.false)) (omega (arith, c.if-background-color.false))
