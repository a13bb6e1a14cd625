use Rattle.std.proofs.Common.{◌≡◌, ◌≤◌, ◌-◌, ◌∙◌, ℕ, List, length, get_or, take, drop, ap, sym, subst, arith}
use Rattle.std.specs.Prelude.{Result}
use Rattle.std.proofs.lemmas.List.{take_all, length-drop}
use Rattle.std.proofs.lemmas.Result.{err_from_is_err_and}
use Rattle.wire_num.specs.Field.{bind}
use Rattle.draw_ops.specs.Content.{GlyphOf}
use Rattle.order_means.specs.ClientState.{Fault, pairs_of, glyph_used}
use Rattle.client_caches.specs.Answers.{Gives}
use Rattle.client_caches.specs.Caches.{with_caches}
use Rattle.client_caches.specs.Runs.{run_used}
use Rattle.client_caches.proofs.Stores.{refused_by}
use Rattle.client_caches.proofs.RunsUsed.{long_used}
use Rattle.client_caches.proofs.run.+check_pairs.Goals as goal

pub returns-in_err-glyph_used-in-len2-up : goal.returns-in_err-glyph_used-in-len2-up
returns-in_err-glyph_used-in-len2-up t c = λ s.
    let glyph : ℕ → Result GlyphOf Fault = glyph_used c.args.confirmed.now (with_caches s c.args.caches.now) c.args.cache in
    let long : 2 ≤ length c.args.run.now = c.in-len2-up.len_at_least in
    let p = err_from_is_err_and c.from_residual.result c.from_residual.ensures.1 in
    let first : c.from.result ≡ get_or c.args.run.now 0 0 = c.from.ensures in
    let whole = long_used glyph c.args.run.now long c.requires.pairs in
    rw (p.1, p.2) (refused_by c.in_err-glyph_used-in-len2-up.field-0.0 (glyph c.from.result) (run_used glyph (pairs_of c.args.run.now))
    (λ g e. whole ∙ ap (λ (r : Result GlyphOf Fault). bind r (λ _. run_used glyph (pairs_of (drop 2 c.args.run.now)))) (ap glyph (sym first) ∙ e)) (c.in_err-glyph_used-in-len2-up.ensures s))

pub returns-in_ok-glyph_used-in-len2-up : goal.returns-in_ok-glyph_used-in-len2-up
returns-in_ok-glyph_used-in-len2-up t c = λ s.
    let glyph : ℕ → Result GlyphOf Fault = glyph_used c.args.confirmed.now (with_caches s c.args.caches.now) c.args.cache in
    let long : 2 ≤ length c.args.run.now = c.in-len2-up.len_at_least in
    let here = c.in_ok-glyph_used-in-len2-up.ensures s in
    let more = c.check_pairs.ensures s in
    let first : c.from.result ≡ get_or c.args.run.now 0 0 = c.from.ensures in
    let rest : take (length c.args.run.now - 2) (drop 2 c.args.run.now) ≡ drop 2 c.args.run.now = take_all (length c.args.run.now - 2) (drop 2 c.args.run.now) (omega (arith, length-drop {A = ℕ})) in
    let whole = long_used glyph c.args.run.now long c.requires.pairs in
    let same : run_used glyph (pairs_of c.args.run.now) ≡ run_used glyph (pairs_of (take (length c.args.run.now - 2) (drop 2 c.args.run.now))) =
    whole ∙ ap (λ (r : Result GlyphOf Fault). bind r (λ _. run_used glyph (pairs_of (drop 2 c.args.run.now)))) (ap glyph (sym first) ∙ here) ∙ ap (λ (xs : List ℕ). run_used glyph (pairs_of xs)) (sym rest) in
    subst (λ (r : Result (Unit {0}) Fault). Gives {X = Unit {0}} {A = Unit {0}} (λ done. done) c.check_pairs.result r) (sym same) more
