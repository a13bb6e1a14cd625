-- What a line of a capture says, in code and by the rules of captures.
use Rattle.std.specs.Prelude.{◌≡◌, ℕ, ◌||◌, List}
use Rattle.std.specs.declared.option.Option.{Option}
use Rattle.std.specs.declared.option.Option.TheVariants.{Some}
use Rattle.std.specs.Bool.{then_some}
use Rattle.std.specs.Option.{option_map}
use Rattle.script_rules.specs.Capture.{CaptureLine, is_nobody_line, is_broken_line}
use Rattle.script_rules.specs.Capture.CaptureLine.{JoinedLine, OtherLine, BytesLine, NobodyLine}
use Rattle.capture_show.specs.declared.said.Said.{Said}
use Rattle.capture_show.specs.declared.said.Said.TheVariants.{Joined, Other, Bytes, Nobody}

-- what a line says, with the bytes that stand beside it
abbrev pub meant_by : List ℕ → Said → CaptureLine
meant_by bytes (Joined viewer size confirmed) = JoinedLine viewer size confirmed
meant_by bytes (Other viewer) = OtherLine viewer
meant_by bytes (Bytes viewer) = BytesLine viewer bytes
meant_by bytes Nobody = NobodyLine

-- the bytes that a line gives are these, where it gives them to this viewer
abbrev pub AreTheirs : ℕ → Option Said → List ℕ → List ℕ → Type 0
AreTheirs viewer said given bytes = said ≡ Some (Bytes viewer) → given ≡ bytes

-- a line says this, and these are the bytes that it gives this viewer, where it gives it some
pub record Says (viewer : ℕ) (bytes : List ℕ) (said : Option Said) (line : Option CaptureLine) : Type 0 where
  pub given : List ℕ
  pub says : line ≡ option_map (meant_by given) said
  pub theirs : AreTheirs viewer said given bytes

-- what words say that don't begin with a viewer's number
abbrev pub nobody_line : List (List ℕ) → Option CaptureLine
nobody_line words = then_some (is_nobody_line words || is_broken_line words) NobodyLine
