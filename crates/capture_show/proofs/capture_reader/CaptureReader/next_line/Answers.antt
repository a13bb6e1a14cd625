use Rattle.std.proofs.Common.{refl}
use Rattle.capture_show.proofs.Judging.{finds_after, cause_is, loses_part}
use Rattle.capture_show.proofs.capture_reader.CaptureReader.next_line.Goals as goal

pub returns-in-Ended-clause-found : goal.returns-in-Ended-clause-found
returns-in-Ended-clause-found g c =
    let cut = rw c.in-Ended.is at c.in_ok-next_line.ensures.cut in
    rw (← c.self.view_is) (finds_after c.judge.result _ _ c.judge.new.self _ (g.S.Source.left c.next_line.new.input) c.next_line.new.self.unread _ cut refl
    c.judge.ensures.unread (λ k joined s. record { line = s.line; joined_are = s.joined_are }) c.judge.ensures.judged)

pub returns-in-Ended-clause-cause : goal.returns-in-Ended-clause-cause
returns-in-Ended-clause-cause g c = cause_is c.judge.result _ _ c.judge.ensures.answer (rw c.in-Ended.is at c.in_ok-next_line.ensures.cause)

pub returns-in-Unended-clause-found : goal.returns-in-Unended-clause-found
returns-in-Unended-clause-found g c =
    let cut = rw c.in-Unended.is at c.in_ok-next_line.ensures.cut in
    rw (← c.self.view_is) (finds_after c.judge-in-Unended.result _ _ c.judge-in-Unended.new.self _ (g.S.Source.left c.next_line.new.input) c.next_line.new.self.unread _ cut refl
    c.judge-in-Unended.ensures.unread (λ k joined s. record { line = s.line; joined_are = s.joined_are }) c.judge-in-Unended.ensures.judged)

pub returns-in-Unended-clause-cause : goal.returns-in-Unended-clause-cause
returns-in-Unended-clause-cause g c = cause_is c.judge-in-Unended.result _ _ c.judge-in-Unended.ensures.answer (rw c.in-Unended.is at c.in_ok-next_line.ensures.cause)

pub returns-in-Failed-clause-found : goal.returns-in-Failed-clause-found
returns-in-Failed-clause-found g c =
    let cut = rw c.in-Failed.is at c.in_ok-next_line.ensures.cut in
    rw (← c.self.view_is) (loses_part _ _ _ _ (g.S.Source.left c.next_line.new.input) cut refl refl refl)
