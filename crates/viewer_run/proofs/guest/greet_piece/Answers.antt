use Rattle.std.proofs.Common.{◌<◌, Fits, w8, sym, subst, arith}
use Rattle.std.specs.Prelude.{slice_index_or, Option, Ok}
use Rattle.std.proofs.lemmas.List.Elements.{All-from_get_or}
use Rattle.conn_rules.specs.Placed.{AreBytes, ArePlaced}
use Rattle.viewer_run.specs.declared.guest.Guest.{Guest}
use Rattle.viewer_run.specs.Greeting.{greeting, GuestOf}
use Rattle.viewer_run.proofs.Stretches.{fed_placed, fed_part}
use Rattle.viewer_run.proofs.Greeted.{rest_placed, refusal_placed}
use Rattle.viewer_run.proofs.guest.greet_piece.Goals as goal

pub returns-in-Ok-Some-clause-placed : goal.returns-in-Ok-Some-clause-placed
returns-in-Ok-Some-clause-placed g c =
    let bytes = c.args.bytes.now in
    let h = c.args.conn.now.hearing in
    let guest = c.in-Ok-Some.guest in
    let are : AreBytes bytes = All-from_get_or (λ b. b < 256) bytes 0
    (λ k below. let fits : Fits w8 (slice_index_or bytes k 0) = c.type_inv.bytes k in let less : slice_index_or bytes k 0 < 256 = omega (arith, fits) in less) in (
      fed_part h c.feed.new.conn.hearing bytes _ c.feed.new.steps.items c.in-Ok.refused c.requires are c.in-Ok.ensures,
      rest_placed c.args.name.now guest.name guest.confirmed c.deref-2.result.now guest.rest.items
          (subst ArePlaced (sym c.deref-2.ensures.value) (fed_placed h c.feed.new.conn.hearing bytes _ c.feed.new.steps.items c.in-Ok.refused c.requires are c.in-Ok.ensures))
          (subst (λ (came : Option Guest). GuestOf (greeting c.args.name.now c.deref-2.result.now) c.guest_of.new.name (Ok came)) c.in-Ok-Some.field-0-is c.in-Ok-Some.ensures),
    )

pub returns-in-Ok-None-clause-placed : goal.returns-in-Ok-None-clause-placed
returns-in-Ok-None-clause-placed g c =
    let bytes = c.args.bytes.now in
    let are : AreBytes bytes = All-from_get_or (λ b. b < 256) bytes 0
    (λ k below. let fits : Fits w8 (slice_index_or bytes k 0) = c.type_inv.bytes k in let less : slice_index_or bytes k 0 < 256 = omega (arith, fits) in less) in
    refusal_placed c.in-Ok.refused c.feed.new.conn.hearing c.refusal_of.result
    (fed_part c.args.conn.now.hearing c.feed.new.conn.hearing bytes _ c.feed.new.steps.items c.in-Ok.refused c.requires are c.in-Ok.ensures) c.refusal_of.ensures
