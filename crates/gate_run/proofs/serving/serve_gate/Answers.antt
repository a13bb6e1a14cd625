use Rattle.std.proofs.Common.{ℕ, ◌<◌, ◌≤◌, List, length, Contains, subst}
use Rattle.session_rules.specs.declared.entry.Entry.{Entry}
use Rattle.session_rules.specs.Journal.{Head, IsLegalJournal}
use Rattle.grow_lock.specs.Journal.{StartsWith}
use Rattle.grow_lock.proofs.Shares.{whole_held}
use Rattle.gate_run.specs.Gates.{gate_state, ServesGate}
use Rattle.gate_run.proofs.Opened.{closed}
use Rattle.gate_run.proofs.Refused.{turns_away}
use Rattle.gate_run.proofs.serving.serve_gate.Goals as goal

pub returns-clause-gate : goal.returns-clause-gate
returns-clause-gate g c =
    let state = gate_state g.G.Gate g.G.Link.Link in let lock = c.in_ok-lock.lock in let met = c.in-Ok.met in
    subst (λ (x : Head × List Entry). ServesGate x.0 x.1 c.args.port c.args.links (state c.args.gate.now) (state c.serve_lock.new.gate) c.close.result.journal met.reports.items met.end)
    (λ i. (c.in_ok-lock.ensures.head i, c.in_ok-lock.ensures.first i))
    (closed lock.head lock.first c.args.port c.args.links (state c.args.gate.now) (state c.serve_lock.new.gate) met.pass met.reports.items met.end c.close.result.journal
    c.in-Ok.ensures.links c.close.ensures.legal c.close.ensures.seen c.close.ensures.begins c.close.ensures.all)

pub close-requires-clause-whole : goal.close-requires-clause-whole
close-requires-clause-whole g c = whole_held c.in-Ok.met.pass.share c.in_ok-lock.pass.share c.in-Ok.ensures.share c.in_ok-lock.ensures.share

pub returns-clause-refusals : goal.returns-clause-refusals
returns-clause-refusals g c =
    let state = gate_state g.G.Gate g.G.Link.Link in let met = c.in-Ok.met in
    turns_away c.args.session.head c.args.session.journal c.args.port c.args.links (state c.args.gate.now) (state c.serve_lock.new.gate) c.close.result.journal met.reports.items met.end
    (returns-clause-gate g c)
