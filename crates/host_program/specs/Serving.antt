-- The mode serve: its words.
use Rattle.std.specs.Prelude.{ℕ, nat_le, List, [], ◌∷◌, length, Option, Some, None, IsTrue, if◌then◌else◌}
use Rattle.std.specs.Option.{option_map, option_and_then}
use Rattle.std.specs.Bool.{then_some}
use Rattle.std.specs.Io.BufRead.{ends_with_byte, strip_last}
use Rattle.px_core.specs.declared.surface.Size.{Size}
use Rattle.px_core.specs.Rectangle.{is_session_size}
use Rattle.session_rules.specs.declared.entry.Role.{Role}
use Rattle.session_rules.specs.declared.entry.Role.TheVariants.{Owner, Control, View}
use Rattle.session_rules.specs.Journal.{Row}
use Rattle.session_rules.specs.Steps.{are_names_distinct}
use Rattle.session_core.specs.declared.head.Invite.{Invite}
use Rattle.session_core.specs.SessionModel.{AreInvited}
use Rattle.script_rules.specs.Script.{is_name}
use Rattle.script_rules.specs.Capture.{number_between}
use Rattle.host_program.specs.Answering.{size_of_words}

-- what the words ask to serve: so many links of a port, in a session with a picture of this size, whose viewers join by these rows
pub record HostingOf : Type 0 where
  pub port : ℕ
  pub links : ℕ
  pub size : Size
  pub rows : List Row

-- ---- rows

-- a row as contracts see it
abbrev pub row_in : Invite → Row
row_in invite = record { name = invite.name; role = invite.role }

-- a row of this role, where the word is a name
abbrev pub row_with : Role → List ℕ → Option Row
row_with role word = then_some (is_name word) (record { name = word; role = role })

-- `NAME+` may hold control, and `NAME` may view
abbrev pub guest_role : List ℕ → Role
guest_role word = if ends_with_byte 43 word then Control else View

-- the row of a guest's word: no name has a plus
abbrev pub guest_row : List ℕ → Option Row
guest_row word = row_with (guest_role word) (strip_last 43 word)

-- the rows of the guests' words, in order
abbrev pub guest_rows : List (List ℕ) → Option (List Row)
guest_rows [] = Some []
guest_rows (word ∷ words) = option_and_then (λ row. option_map (λ rows. row ∷ rows) (guest_rows words)) (guest_row word)

-- the most guests (profile)
abbrev pub most_guests : ℕ
most_guests = 63

-- the owner's row and those of the guests, where their names are distinct
abbrev pub rows_with : Row → List Row → Option (List Row)
rows_with owner guests = then_some (are_names_distinct (owner ∷ guests)) (owner ∷ guests)

-- the rows of the owner's name and of the guests' words
abbrev pub rows_of_words : List ℕ → List (List ℕ) → Option (List Row)
rows_of_words owner guests = if nat_le (length guests) most_guests
    then option_and_then (λ row. option_and_then (rows_with row) (guest_rows guests)) (row_with Owner owner) else None

-- ---- words

-- the greatest port, and the most links (profile)
abbrev pub most_port : ℕ
most_port = 65535

abbrev pub most_links : ℕ
most_links = 65535

abbrev pub hosting_with : (port links : ℕ) → Size → List Row → HostingOf
hosting_with port links size rows = record { port = port; links = links; size = size; rows = rows }

-- port, columns, rows of pixels, number of links, the owner's name and the guests, as words
abbrev pub hosting_of_words : (port w h links owner : List ℕ) → List (List ℕ) → Option HostingOf
hosting_of_words port w h links owner guests = option_and_then (λ p. option_and_then (λ size. option_and_then (λ n. option_map (hosting_with p n size)
    (rows_of_words owner guests)) (number_between 1 most_links links)) (size_of_words w h)) (number_between 1 most_port port)

-- the arguments of the mode
abbrev pub hosting_of_args : List (List ℕ) → Option HostingOf
hosting_of_args (port ∷ w ∷ h ∷ links ∷ owner ∷ guests) = hosting_of_words port w h links owner guests
hosting_of_args args = None

-- a session may have this size and these rows
pub record IsHostable (hosting : HostingOf) : Type 0 where
  pub size : IsTrue (is_session_size hosting.size.w hosting.size.h)
  pub rows : AreInvited hosting.rows
