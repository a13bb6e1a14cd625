-- The last word to a client.
use Rattle.std.specs.Prelude.{ℕ, Bool, List, [], if◌then◌else◌}
use Rattle.mcs_dom.specs.Ultimatum.{ultimatum_packet}
use Rattle.serve_rules.specs.declared.ends.ConnEnd.{ConnEnd}
use Rattle.serve_rules.specs.declared.ends.ConnEnd.TheVariants.{Left, Refused, Truncated, NotInvited, RoomFull, JoinsSpent, ReadFault, WriteFault, NotStored, OutOfMemory}

-- the ultimatum that is the last of what is written: 21 80 where the client asked for the end, 20 80 where its stream is refused or it isn't let in
abbrev pub ultimatum_at : ConnEnd → Bool → List ℕ
ultimatum_at Left asked = if asked then ultimatum_packet 3 else []
ultimatum_at (Refused k at) asked = ultimatum_packet 1
ultimatum_at Truncated asked = []
ultimatum_at NotInvited asked = ultimatum_packet 1
ultimatum_at RoomFull asked = ultimatum_packet 1
ultimatum_at JoinsSpent asked = ultimatum_packet 1
ultimatum_at ReadFault asked = []
ultimatum_at WriteFault asked = []
ultimatum_at NotStored asked = []
ultimatum_at OutOfMemory asked = []
