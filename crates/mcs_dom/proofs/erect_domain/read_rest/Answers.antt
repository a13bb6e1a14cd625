use Rattle.std.proofs.Common.{◌≡◌, ◌∙◌, List, ℕ, [], drop, ap, sym, Ok}
use Rattle.std.proofs.Math.Seq.{drop-length}
use Rattle.wire_num.specs.Field.{Read}
use Rattle.wire_num.specs.Cursor.{rest}
use Rattle.wire_num.proofs.ReadIsText.{bytes_ok}
use Rattle.mcs_dom.proofs.erect_domain.read_rest.Goals as goal

pub returns : goal.returns
returns c =
    let left = rest c.args.cursor.now in
    let got = bytes_ok c.left-left.result left (c.in_ok-bytes.field-0.now, rest c.bytes.new.self) c.in_ok-bytes.ensures.0 in
    let none : drop c.left-left.result left ≡ [] = ap (λ n. drop n left) c.left-left.ensures ∙ drop-length left in
    let all_read : List ℕ → Read (List ℕ) = λ xs. Ok ([], xs) in
    (ap all_read (sym none ∙ got.2), c.in_ok-bytes.ensures.1)
