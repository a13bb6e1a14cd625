-- An indication is its headers and its body.
use Rattle.std.proofs.Common.{◌≡◌, ℕ, ◌+◌, List, ◌∷◌, ◌++◌, length, ap, ◌∙◌, sym, subst, append_assoc, length-append, arith, refl}
use Rattle.byteorder.specs.Endian.{big_bytes}
use Rattle.wire_num.specs.Length.{per_len_of}
use Rattle.wire_num.specs.Written.{AppendsFront}
use Rattle.wire_num.proofs.Fronts.{front_before}
use Rattle.tpkt_x224.specs.Tpkt.{packet_of}
use Rattle.tpkt_x224.specs.Data.{data_header}
use Rattle.mcs_dom.specs.SendData.{indication_start, indication_headers, send_data_indication}

-- the packet's length is that of its headers and its body
framed : (per body : List ℕ) → packet_of (data_header ++ (indication_start ++ (per ++ body)))
    ≡ ((3 ∷ 0 ∷ big_bytes 2 (13 + length per + length body)) ++ (data_header ++ (indication_start ++ per))) ++ body
framed per body =
    let e : 4 + length (data_header ++ (indication_start ++ (per ++ body))) ≡ 13 + length per + length body = omega (arith, length-append per body) in
    ap (λ n. (3 ∷ 0 ∷ big_bytes 2 n) ++ (data_header ++ (indication_start ++ (per ++ body)))) e

pub indication_is : (body : List ℕ) → send_data_indication body ≡ indication_headers (length body) ++ body
unfolding indication_headers
indication_is body = framed (per_len_of (length body)) body

pub indication_whole : (old body middle new : List ℕ) → middle ≡ old ++ indication_headers (length body) → new ≡ middle ++ body → new ≡ old ++ send_data_indication body
indication_whole old body middle new e f =
    f ∙ ap (λ xs. xs ++ body) e ∙ append_assoc old (indication_headers (length body)) body ∙ ap (λ xs. old ++ xs) (sym (indication_is body))

pub indication_begun : (old body new : List ℕ) → AppendsFront old (indication_headers (length body)) new → AppendsFront old (send_data_indication body) new
indication_begun old body new f =
    let P : List ℕ → Type 0 = λ xs. AppendsFront old xs new in
    subst P (sym (indication_is body)) (front_before old (indication_headers (length body)) body new f)

-- where the body itself wasn't written
pub indication_cut : (old body middle new : List ℕ) → middle ≡ old ++ indication_headers (length body) → new ≡ middle → AppendsFront old (send_data_indication body) new
indication_cut old body middle new e f =
    let P : List ℕ → Type 0 = λ xs. AppendsFront old xs new in
    subst P (sym (indication_is body)) (record { sent = indication_headers (length body); rest = body; whole = refl; written = f ∙ e })
