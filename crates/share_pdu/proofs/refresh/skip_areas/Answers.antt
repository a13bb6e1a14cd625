use Rattle.std.proofs.Common.{◌≡◌, ℕ, ◌*◌, ◌/◌, ◌<◌, ◌≤◌, List, length, drop, ap, ◌∙◌, arith}
use Rattle.wire_num.specs.Cursor.{rest}
use Rattle.wire_num.proofs.Missing.{bytes_err}
use Rattle.wire_num.proofs.ReadIsText.{bytes_ok}
use Rattle.share_pdu.proofs.Areas.{passed_to, passed_not, areas_there, areas_cut}
use Rattle.share_pdu.proofs.refresh.skip_areas.Goals as goal

pub returns-in_err-bytes : goal.returns-in_err-bytes
returns-in_err-bytes c =
    absurd (omega (arith, (bytes_err c.min-there.result (rest c.args.cursor.now) _ c.in_err-bytes.ensures.0).0, c.min-there.ensures, c.left.ensures))

pub returns-then-there-wanted : goal.returns-then-there-wanted
returns-then-there-wanted c =
    let old : List ℕ = rest c.args.cursor.now in
    let went = bytes_ok c.min-there.result old _ c.in_ok-bytes.ensures.0 in
    let few : length old < c.args.count * 8 = omega (arith, c.if-there-wanted.true, c.min-there.ensures, c.left.ensures, c.from-wanted.ensures) in
    let there : length old / 2 * 2 ≡ c.min-there.result = omega (arith, c.if-there-wanted.true, c.min-there.ensures, c.left.ensures, c.from-wanted.ensures) in (
      areas_cut c.args.count old few ∙ ap (λ k. passed_not (drop k old)) there ∙ ap passed_not went.2,
      c.in_ok-bytes.ensures.1,
      c.at.ensures.place,
    )

pub returns : goal.returns
returns c =
    let old : List ℕ = rest c.args.cursor.now in
    let went = bytes_ok c.min-there.result old _ c.in_ok-bytes.ensures.0 in
    let many : c.args.count * 8 ≤ length old = omega (arith, c.if-there-wanted.false, c.min-there.ensures, c.left.ensures, c.from-wanted.ensures) in
    let there : c.args.count * 8 ≡ c.min-there.result = omega (arith, c.if-there-wanted.false, c.min-there.ensures, c.left.ensures, c.from-wanted.ensures) in
    (areas_there c.args.count old many ∙ ap (λ k. passed_to (drop k old)) there ∙ ap passed_to went.2, c.in_ok-bytes.ensures.1)
