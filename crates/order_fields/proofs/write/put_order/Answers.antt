use Rattle.std.proofs.Common.{◌≡◌, ℕ, List, ◌++◌, sym, subst}
use Rattle.std.specs.Prelude.{OnOk, OnErr}
use Rattle.std.proofs.lemmas.Result.{err_from_is_err_and}
use Rattle.wire_num.specs.Written.{AppendsFront}
use Rattle.wire_num.proofs.Fronts.{front_before}
use Rattle.wire_num.proofs.Sent.{both_sent, both_cut}
use Rattle.order_fields.proofs.write.put_order.Goals as goal

pub returns-in_err-put_bytes-clause-memory : goal.returns-in_err-put_bytes-clause-memory
returns-in_err-put_bytes-clause-memory c =
    let p = err_from_is_err_and c.from_residual.result c.from_residual.ensures.1 in
    let cut = rw c.bytes.ensures at c.in_err-put_bytes.ensures.memory in
    rw p.1 (subst (λ (all : List ℕ). AppendsFront c.args.out.now.items all c.put_bytes.new.out.items) (sym c.put_uncounted-keeps.ensures) (front_before _ _ _ _ cut))

pub returns-clause-ok : goal.returns-clause-ok
returns-clause-ok c =
    let sent = rw c.bytes.ensures at c.in_ok-put_bytes.ensures.ok in
    let counted = rw c.bytes-2.ensures at c.put_counted.ensures.ok in
    subst (λ (all : List ℕ). OnOk c.put_counted.result (c.put_counted.new.out.items ≡ c.args.out.now.items ++ all)) (sym c.put_uncounted-keeps.ensures) (both_sent c.put_counted.result _ _ _ _ _ sent counted)

pub returns-clause-memory : goal.returns-clause-memory
returns-clause-memory c =
    let sent = rw c.bytes.ensures at c.in_ok-put_bytes.ensures.ok in
    let counted = rw c.bytes-2.ensures at c.put_counted.ensures.memory in
    subst (λ (all : List ℕ). OnErr c.put_counted.result (AppendsFront c.args.out.now.items all c.put_counted.new.out.items)) (sym c.put_uncounted-keeps.ensures) (both_cut c.put_counted.result _ _ _ _ _ sent counted)
