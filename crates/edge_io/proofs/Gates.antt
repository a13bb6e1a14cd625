-- A gate that hands out the next of its links.
use Rattle.std.proofs.Common.{◌≡◌, ℕ, zero, suc, ◌≤◌, List, [], ◌∷◌, ◌++◌, length, take, drop, true, false, ap, refl, arith}
use Rattle.edge_io.specs.declared.mem_link.MemLink.{MemLink}
use Rattle.edge_io.specs.Plan.{CallPlan, next_fails, plan_after_call}
use Rattle.edge_io.specs.Gate.{has_room}
use Rattle.edge_io.specs.PlannedGate.{PlannedGate, gate_after_next}

-- the first of the links that wait comes behind those that were given
pub record IsNext {X : Type 0} (links rest : List X) (link : X) (given : ℕ) : Type 0 where
  pub inside : suc given ≤ length links
  pub waiting : rest ≡ drop (suc given) links
  pub handed : take (suc given) links ≡ take given links ++ link ∷ []

pub first_is_next : {X : Type 0} (links rest : List X) (link : X) (given : ℕ) → drop given links ≡ link ∷ rest → IsNext links rest link given
first_is_next [] rest link zero e = cc
first_is_next [] rest link (suc given) e = cc
first_is_next (x ∷ links) rest link zero e = record { inside = omega arith; waiting = cc; handed = cc }
first_is_next (x ∷ links) rest link (suc given) e = let h : IsNext links rest link given = first_is_next links rest link given e in
    record { inside = omega arith; waiting = h.waiting; handed = ap (λ xs. x ∷ xs) h.handed }

-- a gate after it has handed out a link
pub after_link : (gate : PlannedGate) (link : MemLink) (rest given : List MemLink) (plan : CallPlan) (count : ℕ) → plan ≡ plan_after_call gate.plan →
    next_fails gate.plan ≡ false → gate.ended ≡ false → count ≡ length gate.given → has_room gate.asked count ≡ true →
    gate.waiting ≡ link ∷ rest → given ≡ gate.given ++ link ∷ [] →
    record gate { waiting = rest; given = given; plan = plan } ≡ gate_after_next gate
after_link gate link rest given plan count after fails ended len room waiting is =
    let room_left : has_room gate.asked (length gate.given) ≡ true = rw (← len) room in
    rw (after, is, fails, ended, room_left, waiting) refl
