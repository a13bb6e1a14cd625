use Rattle.std.proofs.Common.{◌≡◌, ◌∙◌, ◌++◌, sym}
use Rattle.std.specs.Io.KnownBytes.{Keeps, prepend_known}
use Rattle.edge_io.proofs.LineLemmas.{IsPlain}
use Rattle.capture_show.specs.Long.{behind}
use Rattle.capture_show.proofs.Cutting.{takes_ended, takes_unended, plain_all, keeps_more, keeps_moved, loses_front}
use Rattle.capture_show.proofs.long_lines.LongLines.next_line.Goals as goal

pub returns-then-branch-clause-cut : goal.returns-then-branch-clause-cut
returns-then-branch-clause-cut g c =
    let m = rw c.if-branch.true at c.in_ok-move_line.ensures.moved in
    takes_ended (behind c.args.self.now (g.S.Source.left c.args.input.now)) (g.S.Source.left c.loop-self.input) c.loop-self.self.text c.loop-self.self.unread
    c.move_line.new.self.text c.move_line.new.self.unread m.count c.loop-self.invariant.keeps c.loop-self.invariant.plain m.found m.text m.rest

pub loop-self-preserved : goal.loop-self-preserved
loop-self-preserved g c =
    let m = rw c.if-branch.false at c.in_ok-move_line.ensures.moved in
    let before = behind c.args.self.now (g.S.Source.left c.args.input.now) in
    let moved : Keeps before (prepend_known c.move_line.new.self.text (g.S.Source.left c.loop-self.input)) =
    keeps_moved before (g.S.Source.left c.loop-self.input) c.move_line.new.self.text (c.loop-self.self.text ++ c.loop-self.self.unread) c.loop-self.invariant.keeps m.text in
    record {
      keeps = keeps_more before (g.S.Source.left c.loop-self.input) (g.S.Source.left c.refill.new.input) _ c.refill.new.self.unread
          (rw (sym c.in-Bytes.ensures.read.text) at moved) c.in-Bytes.ensures.read.keeps;
      plain = rw (c.in-Bytes.ensures.read.text, m.text) (plain_all c.loop-self.self.text c.loop-self.self.unread c.loop-self.invariant.plain m.missing);
      faults = c.in-Bytes.ensures.cause ∙ c.loop-self.invariant.faults;
    }

pub returns-clause-cut : goal.returns-clause-cut
returns-clause-cut g c =
    let m = rw c.if-branch.false at c.in_ok-move_line.ensures.moved in
    let before = behind c.args.self.now (g.S.Source.left c.args.input.now) in
    let left = g.S.Source.left c.loop-self.input in
    let text : c.refill.new.self.text ≡ c.loop-self.self.text ++ c.loop-self.self.unread = c.in-End.ensures.read.text ∙ m.text in
    let moved : Keeps before (prepend_known c.refill.new.self.text left) =
    keeps_moved before left c.refill.new.self.text (c.loop-self.self.text ++ c.loop-self.self.unread) c.loop-self.invariant.keeps text in
    let plain : IsPlain c.refill.new.self.text = rw text (plain_all c.loop-self.self.text c.loop-self.self.unread c.loop-self.invariant.plain m.missing) in
    takes_unended before left (g.S.Source.left c.refill.new.input) c.refill.new.self.text c.refill.new.self.unread moved
    c.in-End.ensures.more.1.0 c.in-End.ensures.more.1.1 c.in-End.ensures.more.0 plain (rw c.if-is_blank.false at c.is_blank.ensures)

pub returns-in-Failed-clause-cut : goal.returns-in-Failed-clause-cut
returns-in-Failed-clause-cut g c =
    let m = rw c.if-branch.false at c.in_ok-move_line.ensures.moved in
    let before = behind c.args.self.now (g.S.Source.left c.args.input.now) in
    let left = g.S.Source.left c.loop-self.input in
    let text : c.refill.new.self.text ≡ c.loop-self.self.text ++ c.loop-self.self.unread = c.in-Failed.ensures.read.text ∙ m.text in
    let moved : Keeps before (prepend_known c.refill.new.self.text left) =
    keeps_moved before left c.refill.new.self.text (c.loop-self.self.text ++ c.loop-self.self.unread) c.loop-self.invariant.keeps text in
    let plain : IsPlain c.refill.new.self.text = rw text (plain_all c.loop-self.self.text c.loop-self.self.unread c.loop-self.invariant.plain m.missing) in
    loses_front before left (g.S.Source.left c.refill.new.input) c.refill.new.self.text c.refill.new.self.unread moved c.in-Failed.ensures.read.keeps plain
