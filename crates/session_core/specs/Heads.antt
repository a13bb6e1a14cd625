-- The rows of an invitation list as contracts see them.
use Rattle.std.specs.Prelude.{List, map}
use Rattle.session_rules.specs.Journal.{Row}
use Rattle.session_core.specs.declared.head.Invite.{Invite}

abbrev pub rows_of : List Invite → List Row
rows_of invites = map (λ (i : Invite). record { name = i.name; role = i.role }) invites
