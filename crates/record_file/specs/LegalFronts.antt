-- The longest legal front of entries, without reading them one by one.
use Rattle.std.specs.Prelude.{◌≡◌, ◌≢◌, ⊤, List, [], ◌∷◌, ◌++◌, None}
use Rattle.session_rules.specs.declared.entry.Entry.{Entry}
use Rattle.session_rules.specs.Journal.{Head, Reached, refusal_of, reached_at_first, reached_after, IsLegalJournal}

-- the first of these entries, if there is one, isn't legal
abbrev pub IsRefusedNext : Head → Reached → List Entry → Type 0
IsRefusedNext head r [] = ⊤
IsRefusedNext head r (e ∷ es) = refusal_of head r e ≢ None

-- a front of entries is legal, and goes on to the end or to an entry that isn't legal behind it
pub record IsLongestLegal (head : Head) (j front : List Entry) : Type 0 where
  pub legal : IsLegalJournal head front
  pub rest : List Entry
  pub whole : j ≡ front ++ rest
  pub refused : IsRefusedNext head (reached_after head.size (reached_at_first head.size) front) rest
