-- The codes of run-length orders of a depth's pixels ([MS-RDPBCGR] 2.2.9.1.1.3.1.2.4), as data.
use Rattle.std.specs.Prelude.{ℕ, ◌&&◌, nat_le, Bool, true, false, List, [], ◌∷◌, Option, Some, None, if◌then◌else◌}
use Rattle.px_core.specs.declared.depth.Depth.{Depth}
use Rattle.px_core.specs.Depth.{white}
use Rattle.run_lengths.specs.declared.codes.RunKind.{RunKind}
use Rattle.run_lengths.specs.declared.codes.RunKind.TheVariants.{BackgroundRun, ForegroundRun, MaskImage, ColorRun}
use Rattle.run_lengths.specs.declared.codes.RunKind.TheVariants.{ColorImage, DitheredRun, FixedMask, FixedColor}
use Rattle.run_lengths.specs.declared.codes.Length.{Length}
use Rattle.run_lengths.specs.declared.codes.Length.TheVariants.{InCode, TwoBytes, Fixed}
use Rattle.run_lengths.specs.declared.codes.Row.{Row}

-- a row of the table: its first and last code, whether a new foreground pixel follows the length, what it draws, where its length stands
abbrev pub row : ℕ → ℕ → Bool → RunKind → Length → Row
row a b sets k l = record { first = a; last = b; sets_foreground = sets; kind = k; length = l }

-- the lengths of runs, of masks, and of both in the lite forms
abbrev pub run : Length
run = InCode 1 32

abbrev pub mask : Length
mask = InCode 8 1

abbrev pub lite_run : Length
lite_run = InCode 1 16

abbrev pub lite_mask : Length
lite_mask = InCode 8 1

abbrev pub black : ℕ
black = 0

abbrev pub code_table : Depth → List Row
code_table depth =
    row 0x00 0x1F false BackgroundRun run
    ∷ row 0x20 0x3F false ForegroundRun run
    ∷ row 0x40 0x5F false MaskImage mask
    ∷ row 0x60 0x7F false ColorRun run
    ∷ row 0x80 0x9F false ColorImage run
    ∷ row 0xC0 0xCF true ForegroundRun lite_run
    ∷ row 0xD0 0xDF true MaskImage lite_mask
    ∷ row 0xE0 0xEF false DitheredRun lite_run
    ∷ row 0xF0 0xF0 false BackgroundRun TwoBytes
    ∷ row 0xF1 0xF1 false ForegroundRun TwoBytes
    ∷ row 0xF2 0xF2 false MaskImage TwoBytes
    ∷ row 0xF3 0xF3 false ColorRun TwoBytes
    ∷ row 0xF4 0xF4 false ColorImage TwoBytes
    ∷ row 0xF6 0xF6 true ForegroundRun TwoBytes
    ∷ row 0xF7 0xF7 true MaskImage TwoBytes
    ∷ row 0xF8 0xF8 false DitheredRun TwoBytes
    ∷ row 0xF9 0xF9 false (FixedMask 0x03) (Fixed 8)
    ∷ row 0xFA 0xFA false (FixedMask 0x05) (Fixed 8)
    ∷ row 0xFD 0xFD false (FixedColor (white depth)) (Fixed 1)
    ∷ row 0xFE 0xFE false (FixedColor black) (Fixed 1)
    ∷ []

-- the row of a code
abbrev pub row_among : List Row → ℕ → Option Row
row_among [] code = None
row_among (r ∷ rows) code = if nat_le r.first code && nat_le code r.last then Some r else row_among rows code

abbrev pub row_of : Depth → ℕ → Option Row
row_of depth code = row_among (code_table depth) code
