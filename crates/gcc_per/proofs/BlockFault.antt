-- A block is refused just where it has a fault, for its cause and at its place.
use Rattle.std.proofs.Common.{◌≡◌, ℕ, ◌+◌, ◌-◌, ◌≤◌, ◌<◌, inl, inr, Bool, true, false, cond, List, ◌++◌, length, take, refl, ap, ◌∙◌, sym, arith}
use Rattle.std.proofs.Common.{subst}
use Rattle.std.specs.Prelude.{nat_le, ◌&&◌, Option, Some, None, Ok, Err}
use Rattle.std.proofs.lemmas.Bool.Decides.{nat_tests}
use Rattle.std.proofs.lemmas.List.{length-take-le}
use Rattle.byteorder.specs.Endian.{little_number}
use Rattle.wire_num.specs.FieldValue.{passing_at}
use Rattle.wire_num.specs.Field.{Read, then_read, bytes_at}
use Rattle.wire_num.specs.Number.{little_at}
use Rattle.wire_num.specs.Layout.{fields_at}
use Rattle.wire_num.specs.Refusal.{Missing}
use Rattle.wire_num.proofs.Steps.{little_taken}
use Rattle.wire_num.proofs.ReadIsText.{little_ok, regroup}
use Rattle.wire_num.proofs.TextIsRead.{bytes_there, little_there}
use Rattle.wire_num.proofs.Missing.{Exact, missing, refuses, passed_err, passing_err, little_err, bytes_err}
use Rattle.wire_num.proofs.Refused.{refused}
use Rattle.wire_num.proofs.Refused as refusals
use Rattle.wire_num.proofs.RefusalIsRead.{refusal_is_read}
use Rattle.gcc_per.specs.declared.gcc_fault.Cause.{Cause}
use Rattle.gcc_per.specs.declared.gcc_fault.Cause.TheVariants.{Broken, NoDepth, Crowded}
use Rattle.gcc_per.specs.declared.client_core.Desktop.{Desktop}
use Rattle.gcc_per.specs.declared.client_blocks.BlockKind.{BlockKind}
use Rattle.gcc_per.specs.declared.client_blocks.BlockKind.TheVariants.{ClientCore, ClientNetwork, Other}
use Rattle.gcc_per.specs.declared.client_blocks.ClientBlocks.{ClientBlocks}
use Rattle.gcc_per.specs.Checked.{Checked, plain}
use Rattle.wire_num.specs.Caused.{then_caused, map_caused, before_caused}
use Rattle.gcc_per.specs.ClientCore.{desktop_of}
use Rattle.gcc_per.specs.ClientNetwork.{channel_definitions, channel_count_at, channels_at}
use Rattle.gcc_per.specs.ClientBlocks.{kind_of, least_length, is_new, kind_at, length_at, with_core, with_channels, with_block, block_at}
use Rattle.gcc_per.specs.Grammar.{Block}
use Rattle.gcc_per.specs.Faults.{IsType, IsSize, HasBadHeader, HasNetworkFault, BeginsWith, HasBlockFault}
use Rattle.wire_num.proofs.Caused.{Same, go_on, then_err, map_err, before_err}
use Rattle.gcc_per.proofs.Checked.{go_on_plain, stop_plain, plain_err, plain_step}
use Rattle.gcc_per.proofs.Blocks.{with_content, with_length, to_block, kind_ok, length_ok, Header, header_ok, grouped}
use Rattle.gcc_per.proofs.BlockText.{count_ok, kind_there, size_there, length_there}

-- ---- the count and the channels of a CS_NET

abbrev FourBytes : List ℕ → List ℕ → Type 0
FourBytes text more = length text ≡ 4

four_exact : Exact FourBytes (little_at 4)
four_exact = record {
  there = λ text more is. (little_number 4 text, little_there 4 text more is);
  found = λ bytes y e. let o = little_ok 4 bytes y e in (take 4 bytes, regroup 4 bytes y.1 o.2, length-take-le 4 bytes o.0);
  place = little_err 4;
}

abbrev few : Bool → ℕ × List ℕ → List ℕ → Checked ℕ
few b x bs = cond b (Ok x) (Err (Crowded, bs))

few_or_not : (b : Bool) (x : ℕ × List ℕ) (bs : List ℕ) (cause : Cause) (left : List ℕ) → few b x bs ≡ Err (cause, left)
    → (b ≡ false) × (cause ≡ Crowded) × (left ≡ bs)
few_or_not true x bs cause left e = absurd (let h : ⊥ = cc in h)
few_or_not false x bs cause left e =
    let h : Same (Crowded, bs) (cause, left) = cc in (refl, sym (ap (λ p. p.0) h), sym (ap (λ p. p.1) h))

count_fault : (bs left : List ℕ) (cause : Cause) → channel_count_at bs ≡ Err (cause, left) → HasNetworkFault cause bs left
unfolding channel_count_at
count_fault bs left cause e =
    elim (plain_step (little_at 4 bs) (λ count more. few (nat_le count 31) (count, more) bs) cause left e) [
      | inl h ↦ inl (h.0, missing FourBytes (little_at 4) four_exact bs left h.1)
      | inr p ↦
          let v = p.0 in
          let o = little_ok 4 bs v p.1 in
          let t = few_or_not (nat_le v.0 31) v bs cause left p.2 in
          let above = t.0 in
          let many : 31 < v.0 = grind (arith, nat_tests, above) in
          inr (inr (
            t.1,
            take 4 bs,
            v.1,
            length-take-le 4 bs o.0,
            subst (λ n. 31 < n) (sym o.1 ∙ little_taken 4 bs o.0) many,
            regroup 4 bs v.1 o.2,
            t.2,
          ))
    ]

abbrev then_channels : ℕ → List ℕ → Checked ℕ
then_channels count more = map_caused (λ _. count) (plain (fields_at (channel_definitions count) more))

pub channels_fault : (bs left : List ℕ) (cause : Cause) → channels_at bs ≡ Err (cause, left) → HasNetworkFault cause bs left
unfolding channels_at
channels_fault bs left cause e =
    elim (then_err (channel_count_at bs) (λ count more. then_channels count more) (cause, left) e) [
      | inl h ↦ count_fault bs left cause h
      | inr h ↦
          let n = h.0.0 in
          let more = h.0.1 in
          let c = count_ok bs h.0 h.1 in
          let read = fields_at (channel_definitions n) more in
          let d = plain_err read cause left (map_err (λ _. n) (plain read) (cause, left) h.2) in
          let value : n ≡ little_number 4 (take 4 bs) = sym c.1 ∙ little_taken 4 bs c.0 in
          inr (inl (
            d.0,
            take 4 bs,
            more,
            length-take-le 4 bs c.0,
            subst (λ k. k ≤ 31) value c.3,
            regroup 4 bs more c.2,
            refused (channel_definitions (little_number 4 (take 4 bs))) more left (ap (λ k. fields_at (channel_definitions k) more) (sym value) ∙ d.1),
          ))
    ]

abbrev no_channels : Cause → List ℕ → Checked ℕ
no_channels cause left = Err (cause, left)

few_there : (bs count definitions : List ℕ) (b : Bool) → length count ≡ 4 → bs ≡ count ++ definitions → nat_le (little_number 4 count) 31 ≡ b
    → channel_count_at bs ≡ few b (little_number 4 count, definitions) bs
unfolding channel_count_at
few_there bs count definitions b size whole e =
    go_on_plain (little_at 4 bs) (λ k more. few (nat_le k 31) (k, more) bs) (little_number 4 count) definitions
    (ap (little_at 4) whole ∙ little_there 4 count definitions size)
    ∙ ap (λ t. few t (little_number 4 count, definitions) bs) e

fault_count : (bs left : List ℕ) → Missing FourBytes bs left → channel_count_at bs ≡ no_channels Broken left
unfolding channel_count_at
fault_count bs left m =
    stop_plain (little_at 4 bs) (λ k more. few (nat_le k 31) (k, more) bs) left (refuses FourBytes (little_at 4) four_exact bs left m)

fault_channels : (bs left : List ℕ) (cause : Cause) → HasNetworkFault cause bs left → channels_at bs ≡ no_channels cause left
unfolding channels_at
fault_channels bs left cause f =
    let tail : ℕ → List ℕ → Checked ℕ = λ count more. then_channels count more in
    elim f [
      | inl m ↦ ap (λ r. then_caused r tail) (fault_count bs left m.1) ∙ ap (λ c. no_channels c left) (sym m.0)
      | inr g ↦ elim g [
        | inl h ↦
            let n = little_number 4 h.1 in
            let low = h.4 in
            let few_yes : nat_le n 31 ≡ true = grind (arith, nat_tests, low) in
            go_on (channel_count_at bs) tail n h.2 (few_there bs h.1 h.2 true h.3 h.5 few_yes)
            ∙ ap (λ r. map_caused (λ _. n) (plain r)) (refusal_is_read (channel_definitions n) h.2 left h.6)
            ∙ ap (λ c. no_channels c left) (sym h.0)
        | inr h ↦
            let high = h.4 in
            let few_no : nat_le (little_number 4 h.1) 31 ≡ false = grind (arith, nat_tests, high) in
            ap (λ r. then_caused r tail) (few_there bs h.1 h.2 false h.3 h.5 few_no)
            ∙ ap (λ c. no_channels c bs) (sym h.0)
            ∙ ap (no_channels cause) (sym h.6)
      ]
    ]

-- ---- the header

-- no block of this kind was found
abbrev pub New : ClientBlocks → BlockKind → Type 0
New found kind = is_new found kind ≡ true

record KindRead (found : ClientBlocks) (bs : List ℕ) (kind : BlockKind) (sized : List ℕ) : Type 0 where
  type : List ℕ
  whole : bs ≡ type ++ sized
  is : IsType (New found) type sized
  kind_is : kind_of (little_number 2 type) ≡ kind

kind_read : (found : ClientBlocks) (bs : List ℕ) (kind : BlockKind) (sized : List ℕ) → kind_at found bs ≡ Ok (kind, sized) → KindRead found bs kind sized
kind_read found bs kind sized e =
    let k = kind_ok found bs (kind, sized) e in
    let kind_is : kind_of (little_number 2 (take 2 bs)) ≡ kind = ap kind_of (sym (little_taken 2 bs k.0)) ∙ k.1 in
    record {
      type = take 2 bs;
      whole = regroup 2 bs sized k.2;
      is = (length-take-le 2 bs k.0, ap (is_new found) kind_is ∙ k.3);
      kind_is = kind_is;
    }

kind_err : (found : ClientBlocks) (bs left : List ℕ) → kind_at found bs ≡ Err left → bs ≡ left
unfolding kind_at
kind_err found bs left e =
    let test : ℕ → Bool = λ type. is_new found (kind_of type) in
    passing_err test (little_at 2) bs left (λ l h. little_err 2 bs l h) (refusals.map_err kind_of (passing_at test (little_at 2) bs) left e)

kind_exact : (found : ClientBlocks) → Exact (IsType (New found)) (kind_at found)
kind_exact found = record {
  there = λ text more is. (kind_of (little_number 2 text), kind_there found text more is.0 is.1);
  found = λ bytes y e. let k = kind_read found bytes y.0 y.1 e in (k.type, k.whole, k.is);
  place = kind_err found;
}

size_err_by : (kind : BlockKind) (r : Read ℕ) (bs left : List ℕ) → ((l : List ℕ) → r ≡ Err l → bs ≡ l)
    → then_read r (λ n more. cond (nat_le (least_length kind) n && nat_le n (4 + length more)) (Ok (n, more)) (Err bs)) ≡ Err left → bs ≡ left
size_err_by kind (Ok v) bs left at e = (passed_err (nat_le (least_length kind) v.0 && nat_le v.0 (4 + length v.1)) bs left (v.0, v.1) e).1
size_err_by kind (Err l) bs left at e = at l refl ∙ (let h : l ≡ left = cc in h)

size_err : (kind : BlockKind) (bs left : List ℕ) → length_at kind bs ≡ Err left → bs ≡ left
unfolding length_at
size_err kind bs left e = size_err_by kind (little_at 2 bs) bs left (λ l h. little_err 2 bs l h) e

size_exact : (kind : BlockKind) → Exact (IsSize kind) (length_at kind)
size_exact kind = record {
  there = λ text more is. (little_number 2 text, size_there kind text more is.0 is.1 is.2);
  found = λ bytes y e.
      let o = length_ok kind bytes y e in
      let value : y.0 ≡ little_number 2 (take 2 bytes) = sym o.1 ∙ little_taken 2 bytes o.0 in
      let least = subst (λ n. least_length kind ≤ n) value o.3 in
      (take 2 bytes, regroup 2 bytes y.1 o.2, (length-take-le 2 bytes o.0, least, subst (λ n. n ≤ 4 + length y.1) value o.4));
  place = size_err kind;
}

-- ---- a block

core_err : (found : ClientBlocks) (bs after left : List ℕ) (cause : Cause) (o : Option Desktop) → with_core found bs after o ≡ Err (cause, left)
    → (o ≡ None) × (cause ≡ NoDepth) × (left ≡ bs)
core_err found bs after left cause (Some desktop) e = absurd (let h : ⊥ = cc in h)
core_err found bs after left cause None e =
    let h : Same (NoDepth, bs) (cause, left) = cc in (refl, sym (ap (λ p. p.0) h), sym (ap (λ p. p.1) h))

abbrev block_of : List ℕ → List ℕ → List ℕ → Block
block_of type size content = record { type = type; size = size; content = content }

begins : (found : ClientBlocks) (kind : BlockKind) (bs content behind : List ℕ) (h : Header found kind bs content behind)
    → BeginsWith (New found) kind bs (block_of h.type h.size content) behind
begins found kind bs content behind h = record { whole = h.whole; is = h.is; kind_is = h.kind_is; may = h.new }

content_fault : (kind : BlockKind) (found : ClientBlocks) (bs content behind left : List ℕ) (cause : Cause) → Header found kind bs content behind
    → with_block kind found bs content behind ≡ Err (cause, left) → HasBlockFault (New found) cause bs left
content_fault ClientCore found bs content behind left cause h e =
    let c = core_err found bs behind left cause (desktop_of content) e in
    inr (inl (c.1, block_of h.type h.size content, behind, begins found ClientCore bs content behind h, c.0, c.2))
content_fault ClientNetwork found bs content behind left cause h e =
    let inner = map_err (with_channels found) (before_caused behind (channels_at content)) (cause, left) e in
    let s = before_err behind (channels_at content) (cause, left) inner in
    inr (inr (block_of h.type h.size content, behind, s.0, begins found ClientNetwork bs content behind h, channels_fault content s.0 cause s.1, s.2))
content_fault Other found bs content behind left cause h e = absurd (let k : ⊥ = cc in k)

pub block_fault : (found : ClientBlocks) (bs left : List ℕ) (cause : Cause) → block_at found bs ≡ Err (cause, left) → HasBlockFault (New found) cause bs left
unfolding block_at
block_fault found bs left cause e =
    elim (plain_step (kind_at found bs) (λ kind sized. with_length kind found bs sized) cause left e) [
      | inl h ↦ inl (h.0, inl (missing (IsType (New found)) (kind_at found) (kind_exact found) bs left h.1))
      | inr p ↦
          let kind = p.0.0 in
          let sized = p.0.1 in
          let k = kind_read found bs kind sized p.1 in
          elim (plain_step (length_at kind sized) (λ n more. with_content kind found bs n more) cause left p.2) [
            | inl h ↦
                let m = missing (IsSize kind) (length_at kind) (size_exact kind) sized left h.1 in
                inl (h.0, inr (k.type, sized, k.whole, k.is, subst (λ q. Missing (IsSize q) sized left) (sym k.kind_is) m))
            | inr q ↦
                let n = q.0.0 in
                let more = q.0.1 in
                elim (plain_step (bytes_at (n - 4) more) (λ content behind. with_block kind found bs content behind) cause left q.2) [
                  | inl h ↦ absurd (omega (arith, (bytes_err (n - 4) more left h.1).0, (length_ok kind sized q.0 q.1).4))
                  | inr d ↦ content_fault kind found bs d.0.0 d.0.1 left cause (header_ok found kind bs sized more d.0.0 d.0.1 n p.1 q.1 d.1) d.2
                ]
          ]
    ]

abbrev no_blocks_read : Cause → List ℕ → Checked ClientBlocks
no_blocks_read cause left = Err (cause, left)

-- a whole block is read up to its content
whole_read : (found : ClientBlocks) (kind : BlockKind) (bs : List ℕ) (block : Block) (behind : List ℕ) → BeginsWith (New found) kind bs block behind
    → block_at found bs ≡ with_block kind found bs block.content behind
whole_read found kind bs block behind b =
    let rest : List ℕ = block.content ++ behind in
    let n : ℕ = little_number 2 block.size in
    let is = b.is in
    let size : length block.content ≡ n - 4 = omega (arith, is.2) in
    let parts : bs ≡ block.type ++ (block.size ++ rest) = b.whole ∙ sym (grouped block.type block.size block.content behind) in
    to_block found bs (block.size ++ rest) rest block.content behind kind n
    (ap (kind_at found) parts ∙ kind_there found block.type (block.size ++ rest) is.0 (ap (is_new found) b.kind_is ∙ b.may)
    ∙ ap (λ k. Ok (k, block.size ++ rest)) b.kind_is)
    (length_there kind block.size block.content behind is.1 is.2 (subst (λ k. least_length k ≤ 4 + length block.content) b.kind_is is.3))
    (bytes_there (n - 4) block.content behind size)

fault_header : (found : ClientBlocks) (bs left : List ℕ) → HasBadHeader (New found) bs left → block_at found bs ≡ no_blocks_read Broken left
unfolding block_at
fault_header found bs left f =
    let tail : BlockKind → List ℕ → Checked ClientBlocks = λ kind sized. with_length kind found bs sized in
    elim f [
      | inl m ↦ stop_plain (kind_at found bs) tail left (refuses (IsType (New found)) (kind_at found) (kind_exact found) bs left m)
      | inr g ↦
          let kind = kind_of (little_number 2 g.0) in
          go_on_plain (kind_at found bs) tail kind g.1 (ap (kind_at found) g.2 ∙ kind_there found g.0 g.1 g.3.0 g.3.1)
          ∙ stop_plain (length_at kind g.1) (λ n more. with_content kind found bs n more) left
          (refuses (IsSize kind) (length_at kind) (size_exact kind) g.1 left g.4)
    ]

pub fault_block : (found : ClientBlocks) (bs left : List ℕ) (cause : Cause) → HasBlockFault (New found) cause bs left
    → block_at found bs ≡ no_blocks_read cause left
fault_block found bs left cause f =
    elim f [
      | inl h ↦ fault_header found bs left h.1 ∙ ap (λ c. no_blocks_read c left) (sym h.0)
      | inr g ↦ elim g [
        | inl h ↦
            whole_read found ClientCore bs h.1 h.2 h.3
            ∙ ap (with_core found bs h.2) h.4
            ∙ ap (λ c. no_blocks_read c bs) (sym h.0)
            ∙ ap (no_blocks_read cause) (sym h.5)
        | inr h ↦
            whole_read found ClientNetwork bs h.0 h.1 h.3
            ∙ ap (λ r. map_caused (with_channels found) (before_caused h.1 r)) (fault_channels h.0.content h.2 cause h.4)
            ∙ ap (no_blocks_read cause) (sym h.5)
      ]
    ]
