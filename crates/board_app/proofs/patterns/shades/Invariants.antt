use Rattle.std.proofs.Common.{◌≡◌, length, take}
use Rattle.px_core.specs.Picture.{listed}
use Rattle.board_app.proofs.Shades.{shade_of}
use Rattle.board_app.proofs.patterns.shades.Given as goal

-- so many pixels are shaded
abbrev pub invariant-loop-i : goal.invariant-loop-i
invariant-loop-i l = (length l.pixels ≡ 256) × (take l.i l.pixels ≡ listed l.i 0 shade_of)
