-- So many bytes of any value are so many.
use Rattle.std.proofs.Common.{◌≡◌, ◌∙◌, ℕ, List, length, sym, arith}
use Rattle.std.specs.Prelude.{Ok}
use Rattle.std.proofs.lemmas.Grind.{common_steps}
use Rattle.wire_num.specs.Field.{bytes_at}
use Rattle.wire_num.proofs.Bytes.{bytes_at_is}

pub bytes_counted : (n : ℕ) (bs part more : List ℕ) → bytes_at n bs ≡ Ok (part, more) → length part ≡ n
bytes_counted n bs part more e = grind (arith, common_steps, sym (bytes_at_is n bs) ∙ e)
