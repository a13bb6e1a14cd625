use Rattle.std.proofs.Common.{◌∙◌, ◌≡◌, ◌≤◌, ◌+◌, ◌-◌, sym, ap, subst, arith, drop, take, length, List, ℕ, refl, drop-drop}
use Rattle.std.proofs.lemmas.Result.{err_from_is_err_and}
use Rattle.std.proofs.lemmas.List.{length-drop, take_all}
use Rattle.client_view.proofs.Streams.{LeftBytes, all_bytes, first_less, left_refused, left_stops}
use Rattle.client_view.proofs.reading.read_bytes.Goals as goal

pub loop-at-init : goal.loop-at-init
loop-at-init c =
    let m = c.args.viewer.now in
    record { left = λ r s. all_bytes m.confirmed m.pictures.size r c.args.bytes.now m c.args.cutter.now s; same = record { confirmed = refl; size = refl } }

pub returns-in_err-at-clause-read : goal.returns-in_err-at-clause-read
returns-in_err-at-clause-read c = λ r s.
    let m = c.args.viewer.now in
    let bytes = c.args.bytes.now in
    let i = c.loop-at.at in
    let size = length-drop i bytes in
    let ahead : take (length bytes - i) (drop i bytes) ≡ drop i bytes = take_all (length bytes - i) (drop i bytes) (omega (arith, size)) in
    let l = c.loop-at.invariant.left r s in
    let p = err_from_is_err_and c.from_residual.result c.from_residual.ensures.1 in
    let read = rw (c.loop-at.invariant.same.confirmed, c.loop-at.invariant.same.size, ahead) at (c.in_err-at.ensures.read l.here l.stand) in
    rw (p.1, p.2) (left_refused c.in_err-at.field-0.0 m.confirmed m.pictures.size r bytes (drop i bytes) _ _ l read)

pub returns-in_err-at-clause-stopped : goal.returns-in_err-at-clause-stopped
returns-in_err-at-clause-stopped c = λ r s.
    let m = c.args.viewer.now in
    let bytes = c.args.bytes.now in
    let i = c.loop-at.at in
    let size = length-drop i bytes in
    let ahead : take (length bytes - i) (drop i bytes) ≡ drop i bytes = take_all (length bytes - i) (drop i bytes) (omega (arith, size)) in
    let l = c.loop-at.invariant.left r s in
    let p = err_from_is_err_and c.from_residual.result c.from_residual.ensures.1 in
    let stopped = rw (c.loop-at.invariant.same.confirmed, c.loop-at.invariant.same.size, ahead) at (c.in_err-at.ensures.stopped l.here l.stand) in
    rw p.1 (left_stops m.confirmed m.pictures.size r bytes (drop i bytes) _ _ _ l stopped)

pub loop-at-preserved : goal.loop-at-preserved
loop-at-preserved c =
    let m = c.args.viewer.now in
    let bytes = c.args.bytes.now in
    let i = c.loop-at.at in
    let size = length-drop i bytes in
    let ahead : take (length bytes - i) (drop i bytes) ≡ drop i bytes = take_all (length bytes - i) (drop i bytes) (omega (arith, size)) in
    record {
      left = λ r s.
          let l = c.loop-at.invariant.left r s in
          let read = rw (c.loop-at.invariant.same.confirmed, c.loop-at.invariant.same.size, ahead) at (c.in_ok-at.ensures.read l.here l.stand) in
          subst (λ (left : List ℕ). LeftBytes m.confirmed m.pictures.size r bytes left c.read_some.new.viewer c.read_some.new.cutter) (drop-drop c.in_ok-at.field-0 i bytes)
          (first_less m.confirmed m.pictures.size r bytes c.in_ok-at.field-0 (drop i bytes) _ c.read_some.new.viewer _ c.read_some.new.cutter l read);
      same = record { confirmed = c.in_ok-at.ensures.same.confirmed ∙ c.loop-at.invariant.same.confirmed; size = c.in_ok-at.ensures.same.size ∙ c.loop-at.invariant.same.size };
    }
