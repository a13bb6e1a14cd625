use Rattle.std.proofs.Common.{◌≡◌, ◌≤◌, ◌+◌, ◌++◌, length, take, drop, rules, sym, ap, ◌∙◌, arith}
use Rattle.edge_io.specs.PlannedStore.{bytes_left}
use Rattle.edge_io.proofs.StoreLemmas.{read_takes}
use Rattle.edge_io.proofs.plan_store.PlanStoreStore.read.Goals as goal

pub returns-clause-bytes : goal.returns-clause-bytes
returns-clause-bytes c =
    let kept = c.self.inside.kept in
    let read = c.self.inside.read in
    let count = c.give-count.result in
    let same : bytes_left c.args.self.now ≡ drop read kept = search rules in
    let fits : count ≤ length (drop read kept) = omega (arith, c.give-count.ensures.count, ap (λ b. length (drop read b)) c.bytes.ensures) in
    let buffer : c.give-count.new.buf ≡ take count (drop read kept) ++ drop count c.args.buf.now =
    c.give-count.ensures.buffer ∙ ap (λ b. take count (drop read b) ++ drop count c.args.buf.now) c.bytes.ensures in
    same ∙ read_takes kept c.args.buf.now read count fits ∙ ap (λ b. take count b ++ drop (read + count) kept) (sym buffer)
