-- A request that was read stands there, and one that stands there is read.
use Rattle.std.proofs.Common.{◌≡◌, ℕ, ◌+◌, ◌≤◌, List, [], ◌∷◌, ◌++◌, length, take, drop, refl, ap, sym, ◌∙◌, arith, length-append, subst}
use Rattle.std.specs.Prelude.{◌↔◌, slice_index, Option, Result, Ok, Err, IsErr}
use Rattle.byteorder.specs.Endian.{big_number}
use Rattle.wire_num.specs.FieldValue.{placed}
use Rattle.wire_num.specs.Field.{Read, then_read}
use Rattle.wire_num.specs.Layout.{fields_at}
use Rattle.wire_num.specs.Grammar.{IsText}
use Rattle.wire_num.proofs.Steps.{then_ok}
use Rattle.wire_num.proofs.ReadIsText.{read_is_text}
use Rattle.wire_num.proofs.TextIsRead.{text_is_read}
use Rattle.std.proofs.lemmas.List.{take-append-drop, length-take, length-take-le, length-drop, drop_at}
use Rattle.tpkt_x224.specs.declared.request.Request.{Request}
use Rattle.tpkt_x224.specs.declared.bad_tpdu.BadTpdu.{BadTpdu}
use Rattle.tpkt_x224.specs.Data.{data_header}
use Rattle.tpkt_x224.specs.Request.{references, request_header, after_cookie, asked_protocols, request_in, request_of}
use Rattle.tpkt_x224.specs.Grammar.{Asks, IsRequest, CarriesData}
use Rattle.tpkt_x224.proofs.Cookie.{cookie_is, cookie_only}
use Rattle.tpkt_x224.proofs.Negotiation.{asks_is, asks_only}

-- ---- the header

-- the code and what is behind it
abbrev unit_of : List ℕ → List ℕ → List ℕ → List ℕ → List ℕ
unit_of destination source class variable = 224 ∷ (destination ++ (source ++ (class ++ variable)))

record Header (packet values variable : List ℕ) : Type 0 where
  header : List ℕ
  destination : List ℕ
  source : List ℕ
  class : List ℕ
  four : length header ≡ 4
  two : length destination ≡ 2
  also_two : length source ≡ 2
  one : length class ≡ 1
  whole : packet ≡ header ++ (length (unit_of destination source class variable) ∷ unit_of destination source class variable)
  values_are : values ≡ big_number 2 source ∷ []

header_of : (packet values variable : List ℕ) → IsText request_header packet values variable → Header packet values variable
unfolding request_header references
header_of packet values variable t =
    let tpkt = t.1 in
    let counted = tpkt.4 in
    let code = counted.2 in
    let destination = code.2.1 in
    let source = destination.4 in
    let class = source.7 in
    let unit : counted.0 ≡ unit_of destination.0 source.0 class.0 variable =
    code.1 ∙ ap (λ xs. 224 ∷ xs) (destination.3 ∙ ap (λ xs. destination.0 ++ xs) (source.5
    ∙ ap (λ xs. source.0 ++ xs) (class.3 ∙ ap (λ xs. class.0 ++ xs) class.4.1))) in
    record {
      header = tpkt.0;
      destination = destination.0;
      source = source.0;
      class = class.0;
      four = tpkt.2;
      two = destination.2;
      also_two = source.3;
      one = class.2;
      whole = tpkt.3 ∙ ap (λ xs. tpkt.0 ++ xs) (counted.1 ∙ ap (λ xs. length xs ∷ xs) unit);
      values_are = source.6 ∙ ap (λ xs. big_number 2 source.0 ∷ xs) class.4.0;
    }

header_again : (packet values variable : List ℕ) → Header packet values variable → IsText request_header packet values variable
unfolding request_header references
header_again packet values variable h =
    let behind : List ℕ = h.destination ++ (h.source ++ (h.class ++ variable)) in
    let unit : List ℕ = 224 ∷ behind in
    let size : length behind ≡ 5 + length variable =
    omega (
      arith,
      h.two,
      h.also_two,
      h.one,
      length-append h.destination (h.source ++ (h.class ++ variable)),
      length-append h.source (h.class ++ variable),
      length-append h.class variable,
    ) in
    let all : 4 ≤ length packet = omega (arith, h.four, ap length h.whole, length-append h.header (length unit ∷ unit)) in
    let five : 5 ≤ length behind = omega (arith, size) in (
      all,
      (
        h.header,
        length unit ∷ unit,
        h.four,
        h.whole,
        (
          unit,
          refl,
          (
            behind,
            refl,
            (
              five,
              (
                h.destination,
                h.source ++ (h.class ++ variable),
                h.two,
                refl,
                (h.source, h.class ++ variable, [], h.also_two, refl, refl, h.values_are, (h.class, variable, h.one, refl, (refl, refl))),
              ),
            ),
          ),
        ),
      ),
    )

-- ---- the whole

placed_ok : (bs : List ℕ) (r : Read Request) (request : Request) → placed (λ at. let fault : BadTpdu = record { at = at } in fault) bs r ≡ Ok request
    → (left : List ℕ) × (r ≡ Ok (request, left))
placed_ok bs (Ok v) request e =
    let h : v.0 ≡ request = cc in (v.1, ap (λ q. Ok (q, v.1)) h)
placed_ok bs (Err left) request e = absurd (let h : ⊥ = cc in h)

abbrev read_of : Request → List ℕ → Read Request
read_of request left = Ok (request, left)

same_read : (x y : Request × List ℕ) → read_of x.0 x.1 ≡ read_of y.0 y.1 → x ≡ y
same_read x y e = cc

same_request : (a b : Request) (l k : List ℕ) → read_of a l ≡ read_of b k → a ≡ b
same_request a b l k e = ap (λ p. p.0) (same_read (a, l) (b, k) e)

request_is : (packet values variable : List ℕ) (request : Request) → fields_at request_header packet ≡ Ok (values, variable)
    → request_in values variable ≡ request → IsRequest packet request
request_is packet values variable request e r =
    let h = header_of packet values variable (read_is_text request_header packet values variable e) in
    record {
      header = h.header;
      destination = h.destination;
      source = h.source;
      class = h.class;
      variable = variable;
      after = after_cookie variable;
      four = h.four;
      two = h.two;
      also_two = h.also_two;
      one = h.one;
      whole = h.whole;
      reference = sym (ap (λ q. q.reference) r) ∙ ap (λ vs. slice_index vs 0) h.values_are;
      cookie = cookie_is variable;
      asked = subst (λ q. Asks (after_cookie variable) q.asked) r (asks_is (after_cookie variable));
    }

pub request_ok : (packet : List ℕ) (request : Request) → request_of packet ≡ Ok request → IsRequest packet request
request_ok packet request e =
    let p = placed_ok packet (then_read (fields_at request_header packet) (λ values bs. Ok (request_in values bs, []))) request e in
    let s = then_ok (fields_at request_header packet) (λ values bs. Ok (request_in values bs, [])) (request, p.0) p.1 in
    request_is packet s.0.0 s.0.1 request s.1 (same_request (request_in s.0.0 s.0.1) request [] p.0 s.2)

abbrev asked_for : ℕ → Option ℕ → Request
asked_for reference asked = record { reference = reference; asked = asked }

pub request_again : (packet : List ℕ) (request : Request) → IsRequest packet request → request_of packet ≡ Ok request
request_again packet request r =
    let values : List ℕ = big_number 2 r.source ∷ [] in
    let h : Header packet values r.variable = record {
      header = r.header;
      destination = r.destination;
      source = r.source;
      class = r.class;
      four = r.four;
      two = r.two;
      also_two = r.also_two;
      one = r.one;
      whole = r.whole;
      values_are = refl;
    } in
    let e = text_is_read request_header packet values r.variable (header_again packet values r.variable h) in
    let asked : asked_protocols (after_cookie r.variable) ≡ request.asked =
    ap asked_protocols (cookie_only r.variable r.after r.cookie) ∙ asks_only r.after request.asked r.asked in
    ap (λ read. placed (λ at. let fault : BadTpdu = record { at = at } in fault) packet (then_read read (λ vs bs. Ok (request_in vs bs, [])))) e
    ∙ ap (λ k. Ok (asked_for k (asked_protocols (after_cookie r.variable)))) (sym r.reference)
    ∙ ap (λ a. Ok (asked_for request.reference a)) asked

-- ---- where none stands

refused_by : (r : Result Request BadTpdu) (packet : List ℕ) → request_of packet ≡ r → IsErr r → (request : Request) → IsRequest packet request → ⊥
refused_by (Ok v) packet e err request i = let h : ⊥ = cc in h
refused_by (Err fault) packet e err request i =
    let f = request_again packet request i in
    let h : ⊥ = cc in h

absent_by : (r : Result Request BadTpdu) (packet : List ℕ) → request_of packet ≡ r → ((request : Request) → IsRequest packet request → ⊥) → IsErr r
absent_by (Ok v) packet e none = absurd (none v (request_ok packet v e))
absent_by (Err fault) packet e none = refl

pub none_stands : (packet : List ℕ) → IsErr (request_of packet) ↔ ((request : Request) → IsRequest packet request → ⊥)
none_stands packet = (refused_by (request_of packet) packet refl, absent_by (request_of packet) packet refl)

-- ---- data

fits : (packet : List ℕ) → length (take 3 (drop 4 packet)) ≡ 3 → 4 ≤ length packet
fits packet e = omega (arith, e, length-take 3 (drop 4 packet), length-drop 4 packet)

pub data_ok : (packet : List ℕ) → take 3 (drop 4 packet) ≡ data_header → CarriesData packet
data_ok packet e =
    let rest : List ℕ = drop 4 packet in
    record {
      header = take 4 packet;
      carried = drop 3 rest;
      four = length-take-le 4 packet (fits packet (ap length e));
      whole = sym (take-append-drop 4 packet) ∙ ap (λ xs. take 4 packet ++ xs) (sym (take-append-drop 3 rest) ∙ ap (λ xs. xs ++ drop 3 rest) e);
    }

pub data_again : (packet : List ℕ) → CarriesData packet → take 3 (drop 4 packet) ≡ data_header
data_again packet d = ap (λ xs. take 3 (drop 4 xs)) d.whole ∙ ap (take 3) (drop_at d.header (data_header ++ d.carried) 4 d.four)
