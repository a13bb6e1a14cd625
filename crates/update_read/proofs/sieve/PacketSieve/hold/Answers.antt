use Rattle.std.proofs.Common.{◌≡◌, ap, sym, ◌∙◌, arith, length, take}
use Rattle.std.proofs.lemmas.List.{length-take-le}
use Rattle.update_read.specs.Sieves.{packet_stage}
use Rattle.update_read.proofs.Sieved.{taken_inside}
use Rattle.update_read.proofs.sieve.PacketSieve.hold.Goals as goal

pub returns-clause-held : goal.returns-clause-held
returns-clause-held c =
    let n = c.min-count.result in
    let min = c.min-count.ensures in
    let bytes = c.args.bytes.now in
    let inside = c.self.inside in
    let size : length (take n bytes) ≡ n = length-take-le n bytes (omega (arith, min)) in
    taken_inside c.in-Inside.missing n inside.held.items (take n bytes) c.extend_from_slice.new.self.items c.args.self.now size (omega (arith, min)) (ap (λ r. packet_stage r inside.held.items) (sym c.in-Inside.is) ∙ c.self.view_is) c.in_ok-extend_from_slice.ensures.items
