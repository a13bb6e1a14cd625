-- What holds of a result that is well, by two facts of it.
use Rattle.std.specs.Prelude.{Result, Ok, Err, IfOk, OnOk}

pub ok_both : {A E : Type 0} (P : A → Type 0) (Q : Type 0) (R : A → Type 0) (r : Result A E) → IfOk r P → OnOk r Q → ((a : A) → P a → Q → R a) → IfOk r R
ok_both P Q R (Ok a) p q f = f a p q
ok_both P Q R (Err e) p q f = p
