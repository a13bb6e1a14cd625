-- The name of a file.
use Rattle.std.specs.Prelude.{ℕ, List, Vec}
use Rattle.std.specs.declared.alloc.Global.{Global}
use Rattle.std.specs.declared.option.Option.{Option}
use Rattle.std.specs.declared.option.Option.TheVariants.{Some, None}

-- its bytes
abbrev pub name_bytes : Option (Vec ℕ Global) → Option (List ℕ)
name_bytes (Some name) = Some name.items
name_bytes None = None
