use Rattle.std.proofs.Common.{rules, ◌≡◌, ◌∙◌, ap, sym, true, [], to_z, of_z, w32, arith}
use Rattle.std.specs.Prelude.{Ok, nat_lt}
use Rattle.std.proofs.lemmas.Result.{err_from_is_err_and}
use Rattle.std.proofs.lemmas.Bool.Decides.{nat_tests}
use Rattle.order_fields.specs.OrderTable.{first_registers}
use Rattle.order_fields.specs.NamedDrawing.NamedDrawing.{Glyphs}
use Rattle.draw_ops.specs.Slots.{lookup}
use Rattle.order_means.specs.ClientState.{ClientState, glyph_used, pairs_of, writing}
use Rattle.client_picture.specs.Pictures.{Pictures, painted_within}
use Rattle.client_caches.proofs.Stores.{refused_by}
use Rattle.client_caches.specs.Runs.{run_used}
use Rattle.client_view.specs.Told.{client_after_clipped}
use Rattle.client_view.specs.Views.{client_of}
use Rattle.client_view.proofs.Drawn.{run_pairs, written, no_run}
use Rattle.client_view.proofs.draw.draw_run.Goals as goal

pub returns-in_err-check_run-clause-drawn : goal.returns-in_err-check_run-clause-drawn
returns-in_err-check_run-clause-drawn c = λ blocks registers.
    let s : ClientState = client_of registers c.args.caches.now blocks c.args.pictures.now in
    let p = err_from_is_err_and c.from_residual.result c.from_residual.ensures.1 in
    let few : nat_lt c.args.cache 10 ≡ true = grind (arith, nat_tests) in
    rw (p.1, p.2) (refused_by c.in_err-check_run.field-0.0 (run_used (glyph_used c.args.confirmed.now s c.args.cache) (pairs_of c.args.run.now)) (client_after_clipped c.args.confirmed.now c.args.pictures.now.size c.args.bounds s (Glyphs c.args.cache c.args.x c.args.y c.args.color c.args.run.now))
    (λ g e. no_run c.args.confirmed.now c.args.pictures.now.size c.args.bounds c.args.cache c.args.x c.args.y c.args.color c.args.run.now s g few e) (c.in_err-check_run.ensures s))

pub returns-clause-drawn : goal.returns-clause-drawn
returns-clause-drawn c = λ blocks registers.
    let s : ClientState = client_of registers c.args.caches.now blocks c.args.pictures.now in
    let n : to_z w32 (of_z w32 c.args.x) ≡ c.args.x = search rules in
    let m : to_z w32 (of_z w32 c.args.y) ≡ c.args.y = search rules in
    let few : nat_lt c.args.cache 10 ≡ true = grind (arith, nat_tests) in
    let pairs = run_pairs (glyph_used c.args.confirmed.now s c.args.cache) (pairs_of c.args.run.now) (c.in_ok-check_run.ensures s) in
    let painted : c.write_run.new.self ≡ painted_within c.args.bounds (writing (λ index. lookup index c.glyph_slots.result.now) c.args.x c.args.y c.args.color pairs.0) c.args.pictures.now = rw (n, m) at (c.write_run.ensures pairs.0 pairs.1) in
    written c.args.confirmed.now c.args.pictures.now.size c.args.bounds c.args.cache c.args.x c.args.y c.args.color c.args.run.now s pairs.0 c.glyph_slots.result.now few pairs.1 (c.in_ok-check_run.ensures s) c.glyph_slots.ensures
    ∙ ap (λ (p : Pictures). Ok (client_of registers c.args.caches.now blocks p)) (sym painted)

pub returns-clause-place : goal.returns-clause-place
returns-clause-place c =
    let s : ClientState = client_of first_registers c.args.caches.now [] c.args.pictures.now in
    let pairs = run_pairs (glyph_used c.args.confirmed.now s c.args.cache) (pairs_of c.args.run.now) (c.in_ok-check_run.ensures s) in
    let painted = c.write_run.ensures pairs.0 pairs.1 in
    record { size = ap (λ (p : Pictures). p.size) painted; marked = ap (λ (p : Pictures). p.marked) painted }
