use Rattle.std.proofs.Common.{◌≡◌, ◌∷◌, ◌++◌, drop, map}
use Rattle.std.specs.Option.{option_map}
use Rattle.session_core.specs.Heads.{rows_of}
use Rattle.host_program.specs.Serving.{row_in, guest_rows}
use Rattle.host_program.proofs.guests.all_rows.Given as goal

-- the rows so far and those of the words that are left are all of them
abbrev pub invariant-loop-word : goal.invariant-loop-word
invariant-loop-word l = record {
  rows : option_map (λ more. rows_of l.rows.items ++ more) (guest_rows (map (λ s. s.now) (drop l.word-index l.guests)))
      ≡ option_map (λ more. row_in l.fn.owner ∷ more) (guest_rows (map (λ s. s.now) l.guests));
}
