use Rattle.std.proofs.Common.{ap, sym, ◌∙◌, ◌++◌, List, ℕ, length}
use Rattle.viewer_rules.specs.ClientPackets.{sizes_bytes}
use Rattle.viewer_wire.proofs.Written.{before, bitmaps_are}
use Rattle.viewer_wire.proofs.sets.put_bitmap_caches.Goals as goal

pub returns-clause-written : goal.returns-clause-written
returns-clause-written c =
    before _ _ _ _ _ c.in_ok-extend_from_slice.ensures.items (c.in_ok-put_sizes.ensures ∙ ap (λ xs. c.extend_from_slice.new.self.items ++ sizes_bytes xs) c.sizes.ensures.value)
    ∙ ap (λ (xs : List ℕ). c.args.body.now.items ++ xs) (bitmaps_are c.args.c.now (ap length (sym c.sizes.ensures.value) ∙ c.sizes.ensures.number))

pub returns-clause-number : goal.returns-clause-number
returns-clause-number c = ap length (sym c.sizes.ensures.value) ∙ c.sizes.ensures.number
