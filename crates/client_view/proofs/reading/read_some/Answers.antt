use Rattle.std.proofs.Common.{◌≡◌, ◌∷◌, [], ℕ, List, refl, sym, subst, take, drop, get_or, take-append-drop, arith}
use Rattle.std.specs.Prelude.{Ok}
use Rattle.order_means.specs.FrameMarks.{read_on}
use Rattle.client_view.specs.Clients.{Reads}
use Rattle.client_view.proofs.Streams.{byte_left, first_refused, first_stops, front_byte, none_taken, reads_within}
use Rattle.client_view.proofs.reading.read_some.Goals as goal

pub returns-in-Err-clause-read : goal.returns-in-Err-clause-read
returns-in-Err-clause-read c = λ r s.
    let m = c.args.viewer.now in
    first_refused c.in-Err.fault m.confirmed m.pictures.size r c.args.bytes.now _ (drop c.whole-whole.result c.args.bytes.now) (sym (take-append-drop c.whole-whole.result c.args.bytes.now)) (c.in-Err.ensures.read r s)

pub returns-in-Err-clause-stopped : goal.returns-in-Err-clause-stopped
returns-in-Err-clause-stopped c = λ r s.
    let m = c.args.viewer.now in
    first_stops m.confirmed m.pictures.size r c.args.bytes.now _ (drop c.whole-whole.result c.args.bytes.now) c.read_packet.new.viewer (sym (take-append-drop c.whole-whole.result c.args.bytes.now)) (c.in-Err.ensures.stopped r s)

pub returns-then-within-gt0-clause-read : goal.returns-then-within-gt0-clause-read
returns-then-within-gt0-clause-read c = λ r s.
    let m = c.args.viewer.now in
    reads_within m.confirmed m.pictures.size r (take c.take-within.result c.args.bytes.now) m c.args.cutter.now c.take-within.new.self refl s c.take-within.ensures.fast (c.take-within.ensures.cut r.cut s.cut)

pub returns-in-Ok-read_byte-clause-read : goal.returns-in-Ok-read_byte-clause-read
returns-in-Ok-read_byte-clause-read c = λ r s.
    let m = c.args.viewer.now in
    let not = c.if-within-gt0.false in
    let stand = none_taken r c.take-within.result c.args.bytes.now m c.args.cutter.now c.take-within.new.self (omega (arith, not)) s c.take-within.ensures.fast (c.take-within.ensures.cut r.cut s.cut) in
    subst (λ (xs : List ℕ). Reads (Ok tt) (read_on m.confirmed m.pictures.size r xs) c.read_byte.new.viewer c.read_byte.new.cutter) (sym (front_byte c.args.bytes.now c.requires)) (c.in-Ok-read_byte.ensures.read r stand)

pub returns-in-Err-read_byte-clause-read : goal.returns-in-Err-read_byte-clause-read
returns-in-Err-read_byte-clause-read c = λ r s.
    let m = c.args.viewer.now in
    let not = c.if-within-gt0.false in
    let stand = none_taken r c.take-within.result c.args.bytes.now m c.args.cutter.now c.take-within.new.self (omega (arith, not)) s c.take-within.ensures.fast (c.take-within.ensures.cut r.cut s.cut) in
    first_refused c.in-Err-read_byte.fault m.confirmed m.pictures.size r c.args.bytes.now (get_or c.args.bytes.now 0 0 ∷ []) (drop 1 c.args.bytes.now) (byte_left c.args.bytes.now 0 c.requires) (c.in-Err-read_byte.ensures.read r stand)

pub returns-in-Err-read_byte-clause-stopped : goal.returns-in-Err-read_byte-clause-stopped
returns-in-Err-read_byte-clause-stopped c = λ r s.
    let m = c.args.viewer.now in
    let not = c.if-within-gt0.false in
    let stand = none_taken r c.take-within.result c.args.bytes.now m c.args.cutter.now c.take-within.new.self (omega (arith, not)) s c.take-within.ensures.fast (c.take-within.ensures.cut r.cut s.cut) in
    first_stops m.confirmed m.pictures.size r c.args.bytes.now (get_or c.args.bytes.now 0 0 ∷ []) (drop 1 c.args.bytes.now) c.read_byte.new.viewer (byte_left c.args.bytes.now 0 c.requires) (c.in-Err-read_byte.ensures.stopped r stand)
