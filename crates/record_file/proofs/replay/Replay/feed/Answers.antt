use Rattle.std.proofs.Common.{◌∙◌, ◌++◌, ap, sym}
use Rattle.record_file.specs.Replays.{ReplayOf}
use Rattle.record_file.proofs.Feeding.{ended_by, fault_answer, ended_read, ended_legal, on_answer, on_read, on_legal}
use Rattle.record_file.proofs.replay.Replay.feed.Goals as goal

pub returns-in-Some-clause-answer : goal.returns-in-Some-clause-answer
returns-in-Some-clause-answer c = λ stream h.
    let ended = ap (λ (r : ReplayOf). r.end) (sym c.self.view_is) ∙ c.in-Some.is in
    fault_answer c.in-Some.fault (stream ++ c.args.bytes.now) c.args.self.now.told (ended_by c.args.self.now c.in-Some.fault stream c.args.bytes.now ended h)

pub returns-in-Some-clause-read : goal.returns-in-Some-clause-read
returns-in-Some-clause-read c = λ stream h.
    let ended = ap (λ (r : ReplayOf). r.end) (sym c.self.view_is) ∙ c.in-Some.is in
    ended_read c.in-Some.fault (stream ++ c.args.bytes.now) c.args.self.now ended (ended_by c.args.self.now c.in-Some.fault stream c.args.bytes.now ended h)

pub returns-in-Some-clause-legal : goal.returns-in-Some-clause-legal
returns-in-Some-clause-legal c = λ stream rest head j h held legal e.
    let ended = ap (λ (r : ReplayOf). r.end) (sym c.self.view_is) ∙ c.in-Some.is in
    ended_legal c.in-Some.fault (stream ++ c.args.bytes.now) rest head j c.args.self.now.told c.args.self.now.told (ended_by c.args.self.now c.in-Some.fault stream c.args.bytes.now ended h) held legal e

pub returns-in-None-clause-answer : goal.returns-in-None-clause-answer
returns-in-None-clause-answer c = λ stream h.
    on_answer c.go_on.result (stream ++ c.args.bytes.now) c.go_on.new.self.course c.go_on.new.self.told (c.go_on.ensures.read stream h)

pub returns-in-None-clause-read : goal.returns-in-None-clause-read
returns-in-None-clause-read c = λ stream h. on_read c.go_on.result (stream ++ c.args.bytes.now) c.go_on.new.self c.go_on.ensures.end (c.go_on.ensures.read stream h)

pub returns-in-None-clause-legal : goal.returns-in-None-clause-legal
returns-in-None-clause-legal c = λ stream rest head j h held legal e.
    on_legal c.go_on.result (stream ++ c.args.bytes.now) rest head j c.go_on.new.self.course c.go_on.new.self.told (c.go_on.ensures.read stream h) held legal e
