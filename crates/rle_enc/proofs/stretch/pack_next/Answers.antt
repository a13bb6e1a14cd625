use Rattle.std.proofs.Common.{◌≡◌, ◌-◌, ◌+◌, ◌<◌, ◌∙◌, ◌++◌, ℕ, List, get_or, take, drop, length, refl, ap, arith}
use Rattle.std.proofs.lemmas.List.{length-drop, take_rest}
use Rattle.rle_enc.specs.Stretch.{bytes_from, literal_bytes, piece_run, row_of, spots_of}
use Rattle.rle_enc.proofs.Pending.{alone_there, piece_at, rest_packed, starts_behind, step_packed}
use Rattle.rle_enc.proofs.stretch.pack_next.Goals as goal

pub first_piece-piece-requires-clause-run : goal.first_piece-piece-requires-clause-run
first_piece-piece-requires-clause-run c =
    let ps : List ℕ = c.args.pixels.now in
    let from : ℕ = c.args.from in
    let n : ℕ = c.count_alone.result in
    let below : n < length (take (length ps - from) (drop from ps)) = omega (arith, ap length (take_rest ps from), length-drop from ps, c.if-at-pixels.false, c.count_alone.ensures.within) in
    starts_behind (row_of c.args.aboves) (row_of c.rows_from.result) (row_of c.rows_from-2.result) ps (take (length ps - from) (drop from ps)) (take (length ps - (from + n)) (drop (from + n) ps)) from n c.rows_from.ensures (take_rest ps from) c.rows_from-2.ensures (take_rest ps (from + n)) (c.count_alone.ensures.stops below)

pub returns-then-at-pixels-clause-packed : goal.returns-then-at-pixels-clause-packed
returns-then-at-pixels-clause-packed c =
    let ps : List ℕ = c.args.pixels.now in
    let from : ℕ = c.args.from in
    let n : ℕ = c.count_alone.result in
    let few : from + n - from ≡ n = omega arith in
    let alone = alone_there (row_of c.args.aboves) (row_of c.rows_from.result) ps (take (length ps - from) (drop from ps)) from n c.rows_from.ensures (take_rest ps from) c.count_alone.ensures.is in
    record {
      packed = rest_packed c.args.depth (row_of c.args.aboves) ps from n c.args.out.now.items c.write_literals.new.out.items (omega (arith, c.if-at-pixels.true)) c.requires.row alone (c.in_ok-write_literals.ensures ∙ ap (λ m. c.args.out.now.items ++ literal_bytes c.args.depth (take m (drop from ps))) few);
      forward = omega arith;
    }

pub returns-clause-packed : goal.returns-clause-packed
returns-clause-packed c =
    let ps : List ℕ = c.args.pixels.now in
    let from : ℕ = c.args.from in
    let n : ℕ = c.count_alone.result in
    let few : from + n - from ≡ n = omega arith in
    let within : from + n < length ps = omega (arith, ap length (take_rest ps from), length-drop from ps, c.if-at-pixels.false, c.count_alone.ensures.within, c.requires.from) in
    let alone = alone_there (row_of c.args.aboves) (row_of c.rows_from.result) ps (take (length ps - from) (drop from ps)) from n c.rows_from.ensures (take_rest ps from) c.count_alone.ensures.is in
    let run = piece_at (row_of c.args.aboves) (row_of c.rows_from-2.result) ps (take (length ps - (from + n)) (drop (from + n) ps)) (from + n) (λ x. piece_run x c.first_piece-piece.result) c.rows_from-2.ensures (take_rest ps (from + n)) c.first_piece-piece.ensures.is in
    record {
      packed = ap (λ m. c.write_piece.new.out.items ++ bytes_from c.args.depth (from + n + m) (spots_of c.args.aboves ps)) c.size_of.ensures ∙ step_packed c.args.depth (row_of c.args.aboves) ps from n (get_or ps (from + n) 0) c.first_piece-piece.result c.args.out.now.items c.write_literals.new.out.items c.write_piece.new.out.items within c.requires.row refl alone run (c.in_ok-write_literals.ensures ∙ ap (λ m. c.args.out.now.items ++ literal_bytes c.args.depth (take m (drop from ps))) few) c.in_ok-write_piece.ensures;
      forward = omega arith;
    }
