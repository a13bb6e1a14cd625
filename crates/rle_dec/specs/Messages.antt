-- What faults print.
use Rattle.std.specs.Prelude.{ℕ, List, ◌++◌, codes}
use Rattle.std.specs.Fmt.{decimal}
use Rattle.rle_dec.specs.declared.fault.RleFault.{RleFault}
use Rattle.rle_dec.specs.declared.fault.RleFault.TheVariants.{BadRle, OutOfMemory}

abbrev pub fault_text : RleFault → List ℕ
fault_text (BadRle at) = codes "a run-length order is refused at " ++ decimal at
fault_text OutOfMemory = codes "out of memory"
