-- The offset at which a text is refused.
use Rattle.std.proofs.Common.{◌≡◌, ℕ, ◌-◌, List, [], length, refl, ap, ◌∙◌, arith, length-append}
use Rattle.std.specs.Prelude.{Result, Ok, Err}
use Rattle.wire_num.specs.FieldValue.{placed}
use Rattle.wire_num.specs.Field.{Read, then_read}
use Rattle.wire_num.specs.Layout.{Layout, fields_at}
use Rattle.wire_num.proofs.Refused.{refused}
use Rattle.wire_num.proofs.RefusalIsRead.{refusal_is_read}
use Rattle.wire_num.proofs.Place.{place}
use Rattle.tpkt_x224.specs.declared.request.Request.{Request}
use Rattle.tpkt_x224.specs.declared.bad_tpdu.BadTpdu.{BadTpdu}
use Rattle.tpkt_x224.specs.Request.{request_header, request_in, request_of}
use Rattle.tpkt_x224.specs.Grammar.{IsBrokenAt}

pub broken : (layout : Layout) (bytes left : List ℕ) (at : ℕ) → fields_at layout bytes ≡ Err left → length bytes - length left ≡ at → IsBrokenAt layout bytes at
broken layout bytes left at e n =
    let r = refused layout bytes left e in
    let p = place layout bytes left r in
    record { front = p.0; left = left; whole = p.1; place = omega (arith, n, ap length p.1, length-append p.0 left); refused = r }

pub broken_there : (layout : Layout) (bytes : List ℕ) (at : ℕ) (b : IsBrokenAt layout bytes at) → fields_at layout bytes ≡ Err b.left
broken_there layout bytes at b = refusal_is_read layout bytes b.left b.refused

pub offset_of : (layout : Layout) (bytes : List ℕ) (at : ℕ) (b : IsBrokenAt layout bytes at) → length bytes - length b.left ≡ at
offset_of layout bytes at b = omega (arith, b.place, ap length b.whole, length-append b.front b.left)

abbrev fault_at : ℕ → BadTpdu
fault_at at = record { at = at }

abbrev refusal : ℕ → Result Request BadTpdu
refusal at = Err (fault_at at)

same_fault : (n at : ℕ) → refusal n ≡ refusal at → n ≡ at
same_fault n at e = let h : fault_at n ≡ fault_at at = cc in ap (λ f. f.at) h

by_header : (r : Read (List ℕ)) (packet : List ℕ) (at : ℕ) → fields_at request_header packet ≡ r
    → placed fault_at packet (then_read r (λ values bs. Ok (request_in values bs, []))) ≡ refusal at → IsBrokenAt request_header packet at
by_header (Ok v) packet at e f = absurd (let no : ⊥ = cc in no)
by_header (Err left) packet at e f = broken request_header packet left at e (same_fault (length packet - length left) at f)

pub request_broken : (packet : List ℕ) (at : ℕ) → request_of packet ≡ Err (record { at = at }) → IsBrokenAt request_header packet at
request_broken packet at e = by_header (fields_at request_header packet) packet at refl e

pub broken_request : (packet : List ℕ) (at : ℕ) → IsBrokenAt request_header packet at → request_of packet ≡ Err (record { at = at })
broken_request packet at b =
    ap (λ r. placed fault_at packet (then_read r (λ values bs. Ok (request_in values bs, [])))) (broken_there request_header packet at b)
    ∙ ap refusal (offset_of request_header packet at b)
