use Rattle.std.proofs.Common.{◌≡◌, ◌-◌}
use Rattle.pointer_share.specs.Outlines.{first_blue}
use Rattle.pointer_share.proofs.outline.first_blue.Given as goal

-- the first of the pixels that are left is the first of all
abbrev pub invariant-loop-k : goal.invariant-loop-k
invariant-loop-k l = first_blue l.fn.wide l.fn.xor l.fn.mask (l.count - l.k) l.k ≡ first_blue l.fn.wide l.fn.xor l.fn.mask l.count 0
