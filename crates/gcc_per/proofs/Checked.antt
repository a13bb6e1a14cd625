-- Steps of reading where a field is refused because it is broken.
use Rattle.std.proofs.Common.{◌≡◌, ℕ, ◌⊎◌, List}
use Rattle.std.specs.Prelude.{Ok, Err}
use Rattle.wire_num.specs.Field.{Read}
use Rattle.wire_num.specs.Caused.{then_caused}
use Rattle.wire_num.proofs.Caused.{go_on_caused, stop_caused, caused_ok, caused_err, caused_step}
use Rattle.gcc_per.specs.declared.gcc_fault.Cause.{Cause}
use Rattle.gcc_per.specs.declared.gcc_fault.Cause.TheVariants.{Broken}
use Rattle.gcc_per.specs.Checked.{Checked, plain}

pub go_on_plain : {A B : Type 0} (r : Read A) (f : A → List ℕ → Checked B) (v : A) (more : List ℕ) → r ≡ Ok (v, more) → then_caused (plain r) f ≡ f v more
go_on_plain r f v more e = go_on_caused Broken r f v more e

pub stop_plain : {A B : Type 0} (r : Read A) (f : A → List ℕ → Checked B) (left : List ℕ) → r ≡ Err left → then_caused (plain r) f ≡ Err (Broken, left)
stop_plain r f left e = stop_caused Broken r f left e

pub plain_ok : {A : Type 0} (r : Read A) (y : A × List ℕ) → plain r ≡ Ok y → r ≡ Ok y
plain_ok r y e = caused_ok Broken r y e

pub plain_err : {A : Type 0} (r : Read A) (cause : Cause) (left : List ℕ) → plain r ≡ Err (cause, left) → (cause ≡ Broken) × (r ≡ Err left)
plain_err r cause left e = caused_err Broken r cause left e

pub plain_step : {A B : Type 0} (r : Read A) (f : A → List ℕ → Checked B) (cause : Cause) (left : List ℕ) → then_caused (plain r) f ≡ Err (cause, left)
    → ((cause ≡ Broken) × (r ≡ Err left)) ⊎ ((v : A × List ℕ) × (r ≡ Ok v) × (f v.0 v.1 ≡ Err (cause, left)))
plain_step r f cause left e = caused_step Broken r f cause left e
