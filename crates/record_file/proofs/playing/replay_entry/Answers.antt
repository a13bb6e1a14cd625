use Rattle.std.proofs.Common.{arith, refl}
use Rattle.record_file.proofs.Played.{played_true}
use Rattle.record_file.proofs.Counting.{place_behind, next_kept}
use Rattle.record_file.proofs.playing.replay_entry.Goals as goal

pub overflow_add-playing : goal.overflow_add-playing
overflow_add-playing c =
    let grown = played_true c.in_ok-play.field-0 c.args.entry c.args.playing.now.session c.play.new.session c.if-not-branch.false c.in_ok-play.ensures.played in
    let fits = place_behind c.play.new.session.head c.args.playing.now.session.journal c.play.new.session.journal c.args.entry c.args.playing.now.place c.args.used c.recall_legal.ensures.size
    c.recall_legal.ensures.journal grown c.requires.sound.place c.requires.used in
    omega (arith, fits.1)

pub returns-clause-replayed : goal.returns-clause-replayed
returns-clause-replayed c = λ kept.
    let grown = played_true c.in_ok-play.field-0 c.args.entry c.args.playing.now.session c.play.new.session c.if-not-branch.false c.in_ok-play.ensures.played in (
      record { head = c.in_ok-play.ensures.head; journal = grown; place = refl },
      next_kept c.args.playing.now _ c.args.entry c.args.told.now c.count.new.told kept c.in_ok-play.ensures.head grown c.recall_legal.ensures.journal c.in_ok-count.ensures.counted c.in_ok-count.ensures.stop,
    )
