use Rattle.std.proofs.Common.{◌≡◌, ◌∙◌, ◌+◌, ◌<◌, ◌≤◌, ◌++◌, ◌∷◌, [], List, take, ap, sym, subst, refl, arith}
use Rattle.std.specs.Prelude.{ℕ, get_or, length}
use Rattle.std.proofs.lemmas.List.{take_all, length-take-le, length-append}
use Rattle.draw_ops.specs.Content.{GlyphOf}
use Rattle.draw_ops.specs.Slots.{Loaded}
use Rattle.frame_rules.specs.FrameOrders.{run_use, glyph_use, run_pairs}
use Rattle.viewer_sender.specs.Writes.{Writes, used, loaded}
use Rattle.viewer_sender.specs.Goes.{GlyphsGo}
use Rattle.viewer_sender.specs.Runs.{run_sending}
use Rattle.viewer_sender.proofs.Loops.{drop_next, take_next, run_more, pairs_more}
use Rattle.viewer_sender.proofs.text.use_run.Goals as goal

pub loop-i-init : goal.loop-i-init
loop-i-init c = record {
  wrote = (refl, λ uses stands. record { gathered = refl; registers = refl; caches = stands });
  pairs = λ uses stands. c.clear.ensures.items;
  number = ap length c.clear.ensures.items;
  fit = c.requires.glyphs;
}

pub loop-i-preserved : goal.loop-i-preserved
loop-i-preserved c =
    let gs = c.args.glyphs.now in
    let i = c.loop-i.i in
    let g = c.index-glyphs-i.result in
    let a = c.args.writer.now in
    let b = c.loop-i.writer in
    let d = c.use_glyph.new.self in
    let k = c.args.cache in
    let same = ap (λ n. loaded n c.content.result.now) c.number.ensures ∙ ap (λ x. loaded g.number x) c.content.ensures in
    let next : take i gs ++ g ∷ [] ≡ take (i + 1) gs = ap (λ x. take i gs ++ x ∷ []) c.index-glyphs-i.is ∙ sym (take_next gs i g c.loop-i-test.true) in
    let orders : Writes b d (λ uses. used (glyph_use b.confirmed uses k g)) = subst (λ (l : Loaded GlyphOf). Writes b d (λ uses. used (glyph_use b.confirmed uses k l))) same c.in_ok-index.ensures.orders in
    let items = c.in_ok-extend_from_slice.ensures.items in
    let bytes = c.to_le_bytes.ensures in
    let run = c.args.run.now in
    let p = get_or run i (0, 0) in
    let old = c.loop-i.pairs.items in
    let entry = c.in_ok-index.index in
    let within = c.loop-i-test.true in
    let many = c.requires.number in
    let inside : i < length run = omega (arith, within, many) in
    let first : i ≤ length gs = omega (arith, within) in
    let second : i ≤ length run = omega (arith, inside) in
    let as_many : length (take i gs) ≡ length (take i run) = length-take-le i gs first ∙ sym (length-take-le i run second) in
    record {
      wrote = subst (λ (xs : List (Loaded GlyphOf)). Writes a d (λ uses. run_sending (run_use a.confirmed uses k xs))) next (run_more a.confirmed k g a b d (take i gs) refl c.loop-i.invariant.wrote orders);
      pairs = λ uses stands.
          items
          ∙ (ap (λ n. old ++ n ∷ p.1 ∷ []) (ap (λ (xs : List ℕ). get_or xs 0 0) bytes)
          ∙ (pairs_more a.confirmed k g a b (take i gs) (take i run) p old entry c.requires.cache as_many refl c.loop-i.invariant.wrote c.loop-i.invariant.pairs
          (λ us st. c.in_ok-index.ensures.index us st ∙ ap (λ (l : Loaded GlyphOf). (glyph_use b.confirmed us k l).index) same) uses stands
          ∙ (ap (λ (xs : List (Loaded GlyphOf)). run_pairs (run_use a.confirmed uses k xs).indices (take i run ++ p ∷ [])) next
          ∙ ap (λ (ps : List (ℕ × ℕ)). run_pairs (run_use a.confirmed uses k (take (i + 1) gs)).indices ps) (sym (take_next run i (0, 0) inside)))));
      number = let more = ap length items in let sum = length-append old (get_or c.to_le_bytes.result 0 0 ∷ p.1 ∷ []) in let was = c.loop-i.invariant.number in omega (arith, more, sum, was);
      fit = (subst (λ (xs : List (Loaded GlyphOf)). GlyphsGo xs) (drop_next gs i g c.loop-i-test.true) c.loop-i.invariant.fit).1;
    }

pub returns-clause-orders : goal.returns-clause-orders
returns-clause-orders c =
    let a = c.args.writer.now in
    subst (λ (xs : List (Loaded GlyphOf)). Writes a c.loop-i.writer (λ uses. run_sending (run_use a.confirmed uses c.args.cache xs))) (take_all c.loop-i.i c.args.glyphs.now c.loop-i-test.false) c.loop-i.invariant.wrote
