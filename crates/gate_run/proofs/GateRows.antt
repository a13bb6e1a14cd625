-- What a gate's end and its reports can't be.
use Rattle.std.proofs.Common.{◌≡◌, ◌∷◌, [], ℕ, List, refl, ap, true, false, arith, Some}
use Rattle.std.specs.Prelude.{Option}
use Rattle.edge_io.specs.Gate.{Asked}
use Rattle.serve_rules.specs.declared.noted.ConnReport.{ConnReport}
use Rattle.viewer_run.specs.Greeting.Greeting.{Connects}
use Rattle.gate_run.specs.declared.served.GateEnd.TheVariants.{Ended, Failed, NoListen}
use Rattle.gate_run.specs.Gates.{GateState, AreApart, AskedFor, EndCause}
use Rattle.gate_run.specs.Refusals.{ready_name}
use Rattle.serve_rules.specs.declared.ends.ConnEnd.TheVariants as end
use Rattle.std.specs.declared.option.Option.TheVariants as asked

-- a gate that gave nothing and may have failed or ended
abbrev gate : ℕ → GateState
gate faults = record { given = []; finished = []; asked = asked.None; ended = false; faults = faults }

-- wrong: a gate has ended that may give more links
a_gate_that_may_give_more_has_not_ended : EndCause Ended [] (gate 0) (gate 0) → ⊥
a_gate_that_may_give_more_has_not_ended e = absurd (cc e.1)

-- wrong: a gate has ended whose count of faults rose
a_gate_whose_count_rose_has_not_ended : EndCause Ended [] (gate 0) (record (gate 1) { ended = true }) → ⊥
a_gate_whose_count_rose_has_not_ended e = absurd (cc e.2)

-- wrong: a gate may fail while its count of faults stands
nothing_fails_while_the_count_stands : EndCause Failed [] (gate 3) (gate 3) → ⊥
nothing_fails_while_the_count_stands e = omega (arith, e.1.1)

-- wrong: a gate may be closed while its count of faults stands
nor_is_it_closed : EndCause NoListen [] (gate 3) (gate 3) → ⊥
nor_is_it_closed e = omega (arith, e.2.1)

abbrev port_in : Option Asked → ℕ
port_in asked.None = 0
port_in (asked.Some a) = a.port

-- wrong: a gate may be asked for any port
another_port_was_not_asked_for : AskedFor Ended 3389 2 asked.None (asked.Some (record { port = 3390; links = 2 })) → ⊥
another_port_was_not_asked_for e = let same : 3390 ≡ 3389 = ap port_in e in omega (arith, same)

abbrev of_viewer : ℕ → List ℕ → ConnReport
of_viewer v places = record { viewer = v; end = end.Left; places = record { list = places; room = 0 } }

-- wrong: two links may be one viewer's (by reading)
no_two_links_are_one_viewers : AreApart (of_viewer 1 (0 ∷ [])) (of_viewer 1 (1 ∷ [])) → ⊥
no_two_links_are_one_viewers h = h.viewers (λ nobody. cc nobody) refl

-- wrong: the name counts that a client gave which isn't ready
no_name_counts_before_its_client_is_ready : ready_name (Connects (97 ∷ [])) ≡ Some (97 ∷ []) → ⊥
no_name_counts_before_its_client_is_ready e = absurd (cc e)
