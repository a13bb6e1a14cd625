-- Worked lines of links, and words of the mode serve.
use Rattle.std.proofs.Common.{◌≡◌, ◌∷◌, ◌++◌, [], ℕ, List, refl, Some, None, Err}
use Rattle.std.specs.Prelude.{codes}
use Rattle.std.specs.Fmt.{digits}
use Rattle.session_rules.specs.declared.entry.Role.TheVariants.{Owner, Control, View}
use Rattle.serve_rules.specs.declared.ends.ConnEnd.{ConnEnd}
use Rattle.serve_rules.specs.declared.noted.ConnReport.{ConnReport}
use Rattle.gate_run.specs.declared.served.GateEnd.TheVariants.{Ended, Failed, NoListen}
use Rattle.host_program.specs.Links.{served_text}
use Rattle.host_program.specs.Hosting.{served_status}
use Rattle.host_program.specs.Serving.{guest_row, rows_of_words, hosting_of_args}
use Rattle.serve_rules.specs.declared.ends.ConnEnd.TheVariants as end
use Rattle.script_run.specs.declared.fault.ScriptFault.TheVariants as fault

abbrev line : List ℕ → List ℕ
line text = text ++ 10 ∷ []

abbrev of : ℕ → ConnEnd → ConnReport
of v end = record { viewer = v; end = end; places = record { list = []; room = 0 } }

-- each end has its code, and a refusal its place
-- wrong: 38 is a full room, and 37 that no join is left (by reading)
-- wrong: a failed read is 5, a failed write 4 (by reading)
-- wrong: a refusal's code is its number (by reading)
-- wrong: a refusal has no place (by reading)
-- wrong: links are numbered from 0 (by reading)
a_line_for_each_end : served_text (of 1 end.Left ∷ of 0 (end.Refused 14 952) ∷ of 2 end.Truncated ∷ of 0 end.NotInvited ∷ of 0 end.RoomFull ∷ of 0 end.JoinsSpent
    ∷ of 3 end.ReadFault ∷ of 4 end.WriteFault ∷ of 5 end.OutOfMemory ∷ of 6 end.NotStored ∷ [])
    ≡ line (codes "1 1 0 0") ++ line (codes "2 0 34 952") ++ line (codes "3 2 35 0") ++ line (codes "4 0 36 0") ++ line (codes "5 0 37 0") ++ line (codes "6 0 38 0")
    ++ line (codes "7 3 4 0") ++ line (codes "8 4 5 0") ++ line (codes "9 5 6 0") ++ line (codes "10 6 8 0")
unfolding digits
a_line_for_each_end = refl

-- wrong: after a gate that failed the status is that of the output (by reading)
a_gate_that_failed_is_7_whatever_the_output_does : served_status Failed (Err fault.WriteFault) ≡ 7
a_gate_that_failed_is_7_whatever_the_output_does = refl

-- wrong: it is 7 where memory was wanted for the lines, so that none need stand there (no line at a gate fault)
lines_for_which_memory_was_wanted_are_6 : served_status Failed (Err fault.OutOfMemory) ≡ 6
lines_for_which_memory_was_wanted_are_6 = refl

a_gate_that_cannot_be_opened_is_7 : served_status NoListen (Err fault.OutOfMemory) ≡ 7
a_gate_that_cannot_be_opened_is_7 = refl

an_output_that_failed_is_5 : served_status Ended (Err fault.WriteFault) ≡ 5
an_output_that_failed_is_5 = refl

-- wrong: who has a plus may view, and who has none may hold control (by reading)
-- wrong: the plus belongs to the name (by reading)
who_has_a_plus_may_hold_control : guest_row (codes "cy+") ≡ Some (record { name = codes "cy"; role = Control })
who_has_a_plus_may_hold_control = refl

who_has_none_may_view : guest_row (codes "bob") ≡ Some (record { name = codes "bob"; role = View })
who_has_none_may_view = refl

two_pluses_are_no_name : guest_row (codes "cy++") ≡ None
two_pluses_are_no_name = refl

a_plus_alone_is_no_name : guest_row (codes "+") ≡ None
a_plus_alone_is_no_name = refl

-- wrong: an owner may have a plus (by reading)
an_owner_has_no_plus : rows_of_words (codes "ann+") [] ≡ None
an_owner_has_no_plus = refl

-- wrong: one name with a plus and without are two (by reading)
one_name_stands_once : rows_of_words (codes "ann") (codes "cy" ∷ codes "cy+" ∷ []) ≡ None
one_name_stands_once = refl

a_session_to_be_served : hosting_of_args (codes "3389" ∷ codes "64" ∷ codes "48" ∷ codes "2" ∷ codes "ann" ∷ codes "cy+" ∷ [])
    ≡ Some (record {
      port = 3389;
      links = 2;
      size = record { w = 64; h = 48 };
      rows = record { name = codes "ann"; role = Owner } ∷ record { name = codes "cy"; role = Control } ∷ [];
    })
a_session_to_be_served = refl

-- wrong: no link at all may be served (by reading)
no_link_is_none_to_serve : hosting_of_args (codes "3389" ∷ codes "64" ∷ codes "48" ∷ codes "0" ∷ codes "ann" ∷ []) ≡ None
no_link_is_none_to_serve = refl

-- wrong: a port may be 0 (by reading)
no_port_is_0 : hosting_of_args (codes "0" ∷ codes "64" ∷ codes "48" ∷ codes "1" ∷ codes "ann" ∷ []) ≡ None
no_port_is_0 = refl

-- wrong: a port may be 65,536 (by reading)
no_port_is_65536 : hosting_of_args (codes "65536" ∷ codes "64" ∷ codes "48" ∷ codes "1" ∷ codes "ann" ∷ []) ≡ None
no_port_is_65536 = refl

-- wrong: 65,534 links are the most (by reading)
the_most_links : hosting_of_args (codes "65535" ∷ codes "4" ∷ codes "1" ∷ codes "65535" ∷ codes "a" ∷ [])
    ≡ Some (record { port = 65535; links = 65535; size = record { w = 4; h = 1 }; rows = record { name = codes "a"; role = Owner } ∷ [] })
the_most_links = refl
