use Rattle.std.proofs.Common.{◌≡◌, ◌<◌, ◌≤◌, ◌∙◌, ap, sym, length, arith}
use Rattle.session_core.specs.Keeping.{journal_of}
use Rattle.session_core.proofs.Sessions.{reached_is}
use Rattle.session_core.proofs.Counted.{count_before, kept_at, item_at, length_journal}
use Rattle.session_core.proofs.session.Session.drawings_before.Goals as goal

pub returns-then-k-len : goal.returns-then-k-len
returns-then-k-len c =
    let h = c.self.invariant.is_session in
    let size = c.self.inside.head.size in
    let ks = c.self.inside.kept.items in
    let within : c.args.k < length ks = omega (arith, c.if-k-len.true) in
    rw (← c.self.view_is) ((kept_at size ks c.args.k c.index.result.now h.entries (item_at ks c.args.k c.index.result.now within c.index.ensures)).first ∙ sym (count_before size (journal_of ks) c.args.k))

pub returns-else-k-len : goal.returns-else-k-len
returns-else-k-len c =
    let h = c.self.invariant.is_session in
    let size = c.self.inside.head.size in
    let ks = c.self.inside.kept.items in
    let below : c.args.k ≤ length (journal_of ks) = rw (← c.self.view_is) at c.requires in
    let all : c.args.k ≡ length (journal_of ks) = omega (arith, c.if-k-len.false, length_journal ks, below, c.self.inside.kept.ok.0) in
    let counted = count_before size (journal_of ks) (length (journal_of ks)) ∙ ap (λ r. r.state.surface.count) (reached_is c.self.inside.head c.self.inside.standing ks h) in
    rw (← c.self.view_is, all) (c.count.ensures ∙ sym counted)
