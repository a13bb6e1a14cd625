use Rattle.std.proofs.Common.{◌≡◌, ◌+◌, [], ◌∷◌, ◌++◌, length, refl, arith}
use Rattle.std.proofs.lemmas.Grind.{common_steps}
use Rattle.std.proofs.lemmas.Result.{err_from_is_err_and}
use Rattle.byteorder.specs.Endian.{big_bytes}
use Rattle.wire_num.specs.Length.{ber_len_of}
use Rattle.tpkt_x224.specs.Data.{data_header}
use Rattle.mcs_ber.specs.ConnectResponse.{response_headers}
use Rattle.mcs_ber.proofs.Response.{second_begun}
use Rattle.mcs_ber.proofs.connect_response.put_headers.Goals as goal

pub returns-in_err-put_ber_len-clause-memory : goal.returns-in_err-put_ber_len-clause-memory
unfolding response_headers
returns-in_err-put_ber_len-clause-memory c =
    let p = err_from_is_err_and c.from_residual-in_err-put_ber_len.result c.from_residual-in_err-put_ber_len.ensures.1 in
    let n = c.args.content in
    let first = (3 ∷ 0 ∷ big_bytes 2 (9 + length (ber_len_of n) + n)) ++ (data_header ++ (127 ∷ 102 ∷ [])) in
    let written : c.extend_from_slice.new.self.items ≡ c.args.out.now.items ++ first = grind (arith, common_steps, c.length_size.ensures, c.write_u16.ensures, c.in_ok-extend_from_slice.ensures.items) in
    rw p.1 (second_begun c.args.out.now.items first (ber_len_of n) c.extend_from_slice.new.self.items _ _ refl written c.in_err-put_ber_len.ensures.memory)
