use Rattle.std.proofs.Common.{Bool, true, false}
use base.Shift.{Keyless}
use denote.Exit.{Last, left, if_kept, unseen}
use mir.Syntax.{of_param}
use Rattle.gate_run.proofs.accepting.accept_in_scope.Goals as goal

-- of a type of which the closure's caller sees nothing, nothing is left
nothing_left : {D : Type 0} (kept : Bool) (x : D) (w : Last (if_kept kept unseen unseen) x) → Keyless (left (if_kept kept unseen unseen) x w)
nothing_left true x w = tt
nothing_left false x w = tt

-- besides what the function requires, the closure asks that links may move to threads
pub scoped-requires : goal.scoped-requires
scoped-requires g c =
    let types = c.type_bounds in
    record {
      at = λ a. (
        (c.requires.lock, c.requires.since, c.requires.gate),
        (
          record { owned = types.send-G-Link.owned; leaving = λ k. nothing_left (k (of_param 2)) },
          record { owned = types.send-G-Link-Reader.owned; leaving = λ k. nothing_left (k (of_param 3)) },
          record { owned = types.send-G-Link-Writer.owned; leaving = λ k. nothing_left (k (of_param 4)) },
          record { owned = types.send-G-Link-Spent.owned; leaving = λ k. nothing_left (k (of_param 5)) },
          record { shared = types.sync-R.shared },
        ),
      );
    }
