use Rattle.std.proofs.Common.{◌≡◌, List, ℕ, false, length, sym, subst, ◌∙◌, arith}
use Rattle.std.proofs.lemmas.Bool.Decides.{nat_tests}
use Rattle.std.proofs.lemmas.List.{take_rest}
use Rattle.viewer_rules.specs.ViewerHandshake.{watched}
use Rattle.look_net.proofs.Loop.{GoneSoFar, gone_none, gone_more, gone_over, gone_end, gone_stops, ended_here}
use Rattle.look_net.proofs.watch.watch.Goals as goal

pub loop-left-init : goal.loop-left-init
loop-left-init c = record {
  gone = λ w stays keeps. gone_none c.args.viewer.now.name c.args.viewer.now.confirmed w c.args.bytes.now c.args.watcher.now c.args.part.now.items c.args.out.now.items stays keeps;
  waits = c.requires;
}

pub returns-then-has_ended-clause-gone : goal.returns-then-has_ended-clause-gone
returns-then-has_ended-clause-gone c = λ w stays keeps.
    gone_over c.args.viewer.now.name c.args.viewer.now.confirmed w c.args.bytes.now c.loop-left.left.now c.loop-left.watcher c.loop-left.part.items c.args.out.now.items c.loop-left.out.items
    (sym c.has_ended.ensures ∙ c.if-has_ended.true) (c.loop-left.invariant.gone w stays keeps)

pub loop-left-preserved : goal.loop-left-preserved
loop-left-preserved c = record {
  gone = λ w stays keeps.
      let s = c.loop-left.invariant.gone w stays keeps in
      let here = (watched c.args.viewer.now.name c.args.viewer.now.confirmed w s.front).after in
      let goes = ended_here here.at c.args.viewer.now.confirmed c.loop-left.watcher false s.goes.follows (sym c.has_ended.ensures ∙ c.if-has_ended.false) in
      subst (λ (left : List ℕ). GoneSoFar c.args.viewer.now.name c.args.viewer.now.confirmed w c.args.bytes.now left c.watch_some.new.watcher c.watch_some.new.part.items c.args.out.now.items c.watch_some.new.out.items)
      (sym (take_rest c.loop-left.left.now c.in-Ok.n))
      (gone_more c.args.viewer.now.name c.args.viewer.now.confirmed w c.args.bytes.now c.loop-left.left.now c.loop-left.watcher c.watch_some.new.watcher c.loop-left.part.items c.watch_some.new.part.items c.args.out.now.items
      c.loop-left.out.items c.watch_some.new.out.items c.in-Ok.n s (c.in-Ok.ensures.gone here s.goes.follows s.goes.keeps goes));
  waits = c.in-Ok.ensures.waits;
}

pub returns-in-Err-clause-gone : goal.returns-in-Err-clause-gone
returns-in-Err-clause-gone c = λ w stays keeps.
    let s = c.loop-left.invariant.gone w stays keeps in
    let here = (watched c.args.viewer.now.name c.args.viewer.now.confirmed w s.front).after in
    let goes = ended_here here.at c.args.viewer.now.confirmed c.loop-left.watcher false s.goes.follows (sym c.has_ended.ensures ∙ c.if-has_ended.false) in
    gone_stops c.in-Err.fault c.args.viewer.now.name c.args.viewer.now.confirmed w c.args.bytes.now c.loop-left.left.now c.loop-left.watcher c.loop-left.part.items c.args.out.now.items c.loop-left.out.items c.watch_some.new.out.items s
    (c.in-Err.ensures.gone here s.goes.follows s.goes.keeps goes)

pub returns-clause-gone : goal.returns-clause-gone
returns-clause-gone c = λ w stays keeps.
    let test = c.loop-left-test.false in
    let empty = c.is_empty.ensures in
    let none : length c.loop-left.left.now ≡ 0 = grind (arith, nat_tests, test, empty) in
    gone_end c.args.viewer.now.name c.args.viewer.now.confirmed w c.args.bytes.now c.loop-left.left.now c.loop-left.watcher c.loop-left.part.items c.args.out.now.items c.loop-left.out.items none (c.loop-left.invariant.gone w stays keeps)
