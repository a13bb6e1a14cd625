-- A response is its headers and the server's data blocks.
use Rattle.std.proofs.Common.{◌≡◌, ℕ, ◌+◌, ◌≤◌, ◌<◌, true, List, [], ◌∷◌, ◌++◌, length, refl, ap, ◌∙◌, sym, append_assoc, length-append, arith}
use Rattle.std.specs.Prelude.{nat_lt}
use Rattle.std.proofs.lemmas.Bool.Decides.{nat_tests}
use Rattle.wire_num.specs.Length.{per_len_of}
use Rattle.gcc_per.specs.ServerBlocks.{network_length, server_network, server_security, server_blocks}
use Rattle.gcc_per.specs.ServerData.{t124_key, response_fields, server_key, response_headers, create_response}
use Rattle.gcc_per.proofs.ChannelIds.{network_size}

-- a length below 128 is one byte
pub short_length : (n : ℕ) → n < 128 → per_len_of n ≡ n ∷ []
short_length n h =
    let short : nat_lt n 128 ≡ true = grind (arith, nat_tests, h) in rw short refl

-- the key, a length, the fields and another length, then more
framed : (one two more : List ℕ) → t124_key ++ (one ++ (response_fields ++ (server_key ++ (two ++ more))))
    ≡ (t124_key ++ (one ++ (response_fields ++ (server_key ++ two)))) ++ more
framed one two more = ap (λ xs. t124_key ++ xs) (sym (append_assoc one (response_fields ++ (server_key ++ two)) more))

blocks_length : (channels asked : ℕ) → length (server_blocks channels asked) ≡ 24 + network_length channels
blocks_length channels asked = omega (arith, length-append (server_network channels) server_security, network_size channels)

abbrev fields_then : List ℕ → List ℕ
fields_then more = response_fields ++ (server_key ++ more)

response_of : (blocks : List ℕ) → t124_key ++ (per_len_of (length (fields_then (per_len_of (length blocks) ++ blocks))) ++ fields_then (per_len_of (length blocks) ++ blocks))
    ≡ response_headers (length blocks) ++ blocks
unfolding response_headers
response_of blocks =
    let size : length (fields_then (per_len_of (length blocks) ++ blocks)) ≡ 13 + length (per_len_of (length blocks)) + length blocks = omega (arith, length-append (per_len_of (length blocks)) blocks) in
    ap (λ n. t124_key ++ (per_len_of n ++ fields_then (per_len_of (length blocks) ++ blocks))) size
    ∙ framed (per_len_of (13 + length (per_len_of (length blocks)) + length blocks)) (per_len_of (length blocks)) blocks

pub response_is : (channels asked n : ℕ) → n ≡ 24 + network_length channels → create_response channels asked ≡ response_headers n ++ server_blocks channels asked
unfolding create_response
response_is channels asked n e =
    response_of (server_blocks channels asked)
    ∙ ap (λ k. response_headers k ++ server_blocks channels asked) (blocks_length channels asked ∙ sym e)

-- the headers, where both lengths are short
pub headers_are : (n : ℕ) → n < 114 → response_headers n ≡ t124_key ++ ((14 + n) ∷ (response_fields ++ (server_key ++ (n ∷ []))))
unfolding response_headers
headers_are n h =
    let one : per_len_of n ≡ n ∷ [] = short_length n (omega (arith, h)) in
    let two : per_len_of (14 + n) ≡ (14 + n) ∷ [] = short_length (14 + n) (omega (arith, h)) in
    ap (λ xs. t124_key ++ (per_len_of (13 + length xs + n) ++ (response_fields ++ (server_key ++ xs)))) one
    ∙ ap (λ xs. t124_key ++ (xs ++ (response_fields ++ (server_key ++ (n ∷ []))))) two

-- the size of a response to at most 31 channels
pub response_size : (channels asked : ℕ) → channels ≤ 31 → length (create_response channels asked) ≤ 118
response_size channels asked few =
    let n : ℕ = 24 + network_length channels in
    let short : n < 114 = omega (arith, few) in
    omega (
      arith,
      few,
      blocks_length channels asked,
      ap length (response_is channels asked n refl),
      ap length (headers_are n short),
      length-append (response_headers n) (server_blocks channels asked),
    )

pub written_size : (old new whole : List ℕ) → new ≡ old ++ whole → length whole ≤ 118 → length new ≤ length old + 118
written_size old new whole e h = omega (arith, h, ap length e, length-append old whole)
