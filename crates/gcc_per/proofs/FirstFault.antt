-- The refusal of client data names their first fault, and its place.
use Rattle.std.proofs.Common.{◌≡◌, ℕ, ◌+◌, ◌-◌, ◌≤◌, ◌<◌, inl, inr, List, [], ◌++◌, length, refl, ap, ◌∙◌, sym, arith, length-append, append_assoc, subst}
use Rattle.std.specs.Prelude.{Ok, Err, None, flat_map}
use Rattle.byteorder.specs.Endian.{little_number}
use Rattle.wire_num.specs.Grammar.{IsText}
use Rattle.wire_num.proofs.Place.{Ends, at_once, moved, behind, within, text_end, place}
use Rattle.gcc_per.specs.declared.gcc_fault.GccFault.{GccFault}
use Rattle.gcc_per.specs.declared.gcc_fault.GccFault.TheVariants.{BadGcc, DepthNotOffered, TooManyChannels}
use Rattle.gcc_per.specs.declared.gcc_fault.Cause.{Cause}
use Rattle.gcc_per.specs.declared.gcc_fault.Cause.TheVariants.{Broken, NoDepth, Crowded}
use Rattle.gcc_per.specs.declared.client_blocks.BlockKind.{BlockKind}
use Rattle.gcc_per.specs.declared.client_blocks.BlockKind.TheVariants.{ClientCore, ClientNetwork}
use Rattle.gcc_per.specs.declared.client_data.ClientData.{ClientData}
use Rattle.gcc_per.specs.Checked.{Checked, fault_of, placed_checked}
use Rattle.gcc_per.specs.ClientCore.{desktop_of}
use Rattle.gcc_per.specs.ClientNetwork.{channel_definitions}
use Rattle.gcc_per.specs.ClientData.{create_request, client_data_at, client_data_of}
use Rattle.gcc_per.specs.Grammar.{Block, block_bytes, IsBlock}
use Rattle.gcc_per.specs.Faults.{HasBadHeader, HasNetworkFault, BeginsWith, HasBlockFault, MayFollow, IsFront, counted_bytes, HasBadFrame, HasUserFault}
use Rattle.gcc_per.specs.Faults.{HasFault, FaultStandsAt, IsFirstFault}
use Rattle.gcc_per.specs.Refusals.{BlockStandsAt, CoreWithoutDepth, CrowdedNetwork}
use Rattle.gcc_per.proofs.Blocks.{grouped}
use Rattle.gcc_per.proofs.RequestFault.{request_fault, fault_request}

-- ---- the place of a fault is in the bytes

network_place : (cause : Cause) (content left : List ℕ) → HasNetworkFault cause content left → Ends content left
network_place cause content left f =
    elim f [
      | inl m ↦ at_once content left m.1.1
      | inr g ↦ elim g [
        | inl h ↦ moved content h.1 h.2 left h.5 (place (channel_definitions (little_number 4 h.1)) h.2 left h.6)
        | inr h ↦ at_once content left h.6
      ]
    ]

header_place : (MayStand : BlockKind → Type 0) (bytes left : List ℕ) → HasBadHeader MayStand bytes left → Ends bytes left
header_place MayStand bytes left f =
    elim f [
      | inl m ↦ at_once bytes left m.1
      | inr g ↦ moved bytes g.0 g.1 left g.2 (at_once g.1 left g.4.1)
    ]

block_place : (MayStand : BlockKind → Type 0) (cause : Cause) (bytes left : List ℕ) → HasBlockFault MayStand cause bytes left → Ends bytes left
block_place MayStand cause bytes left f =
    elim f [
      | inl h ↦ header_place MayStand bytes left h.1
      | inr g ↦ elim g [
        | inl h ↦ at_once bytes left h.5
        | inr h ↦
            let block = h.0 in
            let parts : bytes ≡ (block.type ++ block.size) ++ (block.content ++ h.1) =
            h.3.whole ∙ sym (grouped block.type block.size block.content h.1) ∙ sym (append_assoc block.type block.size (block.content ++ h.1)) in
            within bytes (block.type ++ block.size) block.content h.1 h.2 left parts (network_place cause block.content h.2 h.4) h.5
      ]
    ]

front_place : (user left : List ℕ) (blocks : List Block) → IsFront user blocks [] left → Ends user left
front_place user left blocks f = behind user f.count (flat_map block_bytes blocks ++ []) left left f.whole (at_once left left refl)

frame_place : (user left : List ℕ) → HasBadFrame user left → Ends user left
frame_place user left f =
    elim f [
      | inl m ↦ place counted_bytes user left m
      | inr g ↦ elim g [
        | inl h ↦ front_place user left h.0 h.1
        | inr h ↦ front_place user left h.0 h.2
      ]
    ]

user_place : (cause : Cause) (user left : List ℕ) → HasUserFault user cause left → Ends user left
user_place cause user left f =
    elim f [
      | inl h ↦ frame_place user left h.1
      | inr h ↦
          let blocks : List ℕ = flat_map block_bytes h.0 in
          let inner = moved (blocks ++ h.1) blocks h.1 h.3 refl (block_place (MayFollow h.0) cause h.1 h.3 h.6) in
          within user h.4.count (blocks ++ h.1) h.2 h.3 left h.4.whole inner h.7
    ]

fault_place : (cause : Cause) (bytes left : List ℕ) → HasFault bytes cause left → Ends bytes left
fault_place cause bytes left f =
    elim f [
      | inl h ↦ place create_request bytes left h.1
      | inr h ↦
          let e = text_end create_request bytes [] h.0 h.1 in
          moved bytes e.0 h.0 left e.1 (user_place cause h.0 left h.2)
    ]

-- ---- the refusal

placed_err : (bs : List ℕ) (r : Checked ClientData) (fault : GccFault) → placed_checked bs r ≡ Err fault
    → (e : Cause × List ℕ) × (r ≡ Err e) × (fault_of e.0 (length bs - length e.1) ≡ fault)
placed_err bs (Ok v) fault h = absurd (let k : ⊥ = cc in k)
placed_err bs (Err e) fault h = let k : fault_of e.0 (length bs - length e.1) ≡ fault = cc in (e, refl, k)

told_as : (bytes : List ℕ) (cause : Cause) (at : ℕ) → FaultStandsAt bytes cause at → IsFirstFault bytes (fault_of cause at)
told_as bytes Broken at s = s
told_as bytes NoDepth at s = s
told_as bytes Crowded at s = s

pub first_fault : (bytes : List ℕ) (fault : GccFault) → client_data_of bytes ≡ Err fault → IsFirstFault bytes fault
first_fault bytes fault e =
    let p = placed_err bytes (client_data_at bytes) fault e in
    let cause = p.0.0 in
    let left = p.0.1 in
    let f = request_fault bytes left cause p.1 in
    let ends = fault_place cause bytes left f in
    let at : ℕ = length bytes - length left in
    subst (IsFirstFault bytes) p.2 (told_as bytes cause at (record {
      front = ends.0;
      left = left;
      whole = ends.1;
      place = omega (arith, ap length ends.1, length-append ends.0 left);
      fault = f;
    }))

told : (bytes : List ℕ) (cause : Cause) (at : ℕ) → FaultStandsAt bytes cause at → client_data_of bytes ≡ Err (fault_of cause at)
told bytes cause at s =
    let left = s.left in
    let here : length bytes - length left ≡ at = omega (arith, ap length s.whole, length-append s.front left, s.place) in
    ap (placed_checked bytes) (fault_request bytes left cause s.fault) ∙ ap (λ n. Err (fault_of cause n)) here

pub fault_is_told : (bytes : List ℕ) (fault : GccFault) → IsFirstFault bytes fault → client_data_of bytes ≡ Err fault
fault_is_told bytes (BadGcc at) s = told bytes Broken at s
fault_is_told bytes (DepthNotOffered at) s = told bytes NoDepth at s
fault_is_told bytes (TooManyChannels at) s = told bytes Crowded at s

-- ---- faults with names of their own

abbrev Other : Cause → Cause → Type 0
Other cause other = cause ≡ other → ⊥

no_depth_broken : Other NoDepth Broken
no_depth_broken e = let k : ⊥ = cc in k

no_depth_crowded : Other NoDepth Crowded
no_depth_crowded e = let k : ⊥ = cc in k

crowded_broken : Other Crowded Broken
crowded_broken e = let k : ⊥ = cc in k

crowded_no_depth : Other Crowded NoDepth
crowded_no_depth e = let k : ⊥ = cc in k

-- a fault in a whole block
record InBlock (kind : BlockKind) (bytes left : List ℕ) : Type 0 where
  user : List ℕ
  request : IsText create_request bytes [] user
  blocks : List Block
  rest : List ℕ
  after : List ℕ
  front : IsFront user blocks rest after
  block : Block
  behind : List ℕ
  begins : BeginsWith (MayFollow blocks) kind rest block behind
  inner : List ℕ
  left_is : left ≡ inner ++ after

-- blocks, another block and what is behind it, and what is behind all
joined : (blocks rest block behind after : List ℕ) → rest ≡ block ++ behind → (blocks ++ rest) ++ after ≡ blocks ++ (block ++ (behind ++ after))
joined blocks rest block behind after e =
    append_assoc blocks rest after ∙ ap (λ xs. blocks ++ (xs ++ after)) e ∙ ap (λ xs. blocks ++ xs) (append_assoc block behind after)

abbrev from_block : Block → List ℕ → List ℕ → List ℕ
from_block block behind after = block_bytes block ++ (behind ++ after)

user_is : (kind : BlockKind) (bytes left : List ℕ) (i : InBlock kind bytes left)
    → i.user ≡ i.front.count ++ (flat_map block_bytes i.blocks ++ from_block i.block i.behind i.after)
user_is kind bytes left i =
    i.front.whole ∙ ap (λ xs. i.front.count ++ xs) (joined (flat_map block_bytes i.blocks) i.rest (block_bytes i.block) i.behind i.after i.begins.whole)

stands : (kind : BlockKind) (bytes left : List ℕ) (i : InBlock kind bytes left) (at : ℕ) → at + length (from_block i.block i.behind i.after) ≡ length bytes
    → BlockStandsAt bytes at i.block
stands kind bytes left i at here = record {
  count = i.front.count;
  counted = length (flat_map block_bytes i.blocks ++ i.rest);
  blocks = i.blocks;
  after = i.behind ++ i.after;
  request = subst (λ xs. IsText create_request bytes [] xs) (user_is kind bytes left i) i.request;
  packed = i.front.counted;
  each = i.front.each;
  is = i.begins.is;
  here = here;
}

smaller : (kind : BlockKind) (bytes left : List ℕ) (i : InBlock kind bytes left) → length (from_block i.block i.behind i.after) ≤ length bytes
smaller kind bytes left i =
    let rest : List ℕ = from_block i.block i.behind i.after in
    let blocks : List ℕ = flat_map block_bytes i.blocks in
    let e = text_end create_request bytes [] i.user i.request in
    let user = user_is kind bytes left i in
    omega (arith, ap length e.1, length-append e.0 i.user, ap length user, length-append i.front.count (blocks ++ rest), length-append blocks rest)

depth_missing : (bytes left : List ℕ) → HasFault bytes NoDepth left
    → (i : InBlock ClientCore bytes left) × (desktop_of i.block.content ≡ None) × (i.inner ≡ i.rest)
depth_missing bytes left f =
    elim f [
      | inl h ↦ absurd (no_depth_broken h.0)
      | inr u ↦ elim u.2 [
        | inl h ↦ absurd (no_depth_broken h.0)
        | inr r ↦ elim r.6 [
          | inl h ↦ absurd (no_depth_broken h.0)
          | inr g ↦ elim g [
            | inl h ↦ (
              record {
                user = u.0;
                request = u.1;
                blocks = r.0;
                rest = r.1;
                after = r.2;
                front = r.4;
                block = h.1;
                behind = h.2;
                begins = h.3;
                inner = r.3;
                left_is = r.7;
              },
              h.4,
              h.5,
            )
            | inr h ↦ elim h.4 [
              | inl m ↦ absurd (no_depth_broken m.0)
              | inr k ↦ elim k [ inl m ↦ absurd (no_depth_broken m.0) | inr m ↦ absurd (no_depth_crowded m.0) ]
            ]
          ]
        ]
      ]
    ]

pub no_depth_stands : (bytes : List ℕ) (at : ℕ) → client_data_of bytes ≡ Err (DepthNotOffered at) → CoreWithoutDepth bytes at
no_depth_stands bytes at e =
    let s = first_fault bytes (DepthNotOffered at) e in
    let d = depth_missing bytes s.left s.fault in
    let i = d.0 in
    let left_is : s.left ≡ from_block i.block i.behind i.after =
    i.left_is ∙ ap (λ xs. xs ++ i.after) (d.2 ∙ i.begins.whole) ∙ append_assoc (block_bytes i.block) i.behind i.after in
    let here : at + length (from_block i.block i.behind i.after) ≡ length bytes =
    omega (arith, ap length s.whole, length-append s.front s.left, s.place, ap length left_is) in
    (i.block, stands ClientCore bytes s.left i at here, i.begins.kind_is, d.1)

record Crowd (bytes left : List ℕ) (i : InBlock ClientNetwork bytes left) : Type 0 where
  count : List ℕ
  definitions : List ℕ
  four : length count ≡ 4
  many : 31 < little_number 4 count
  content : i.block.content ≡ count ++ definitions
  inner_is : i.inner ≡ i.block.content ++ i.behind

crowd : (bytes left : List ℕ) → HasFault bytes Crowded left → (i : InBlock ClientNetwork bytes left) × Crowd bytes left i
crowd bytes left f =
    elim f [
      | inl h ↦ absurd (crowded_broken h.0)
      | inr u ↦ elim u.2 [
        | inl h ↦ absurd (crowded_broken h.0)
        | inr r ↦ elim r.6 [
          | inl h ↦ absurd (crowded_broken h.0)
          | inr g ↦ elim g [
            | inl h ↦ absurd (crowded_no_depth h.0)
            | inr h ↦ elim h.4 [
              | inl m ↦ absurd (crowded_broken m.0)
              | inr k ↦ elim k [
                | inl m ↦ absurd (crowded_broken m.0)
                | inr m ↦ (
                  record {
                    user = u.0;
                    request = u.1;
                    blocks = r.0;
                    rest = r.1;
                    after = r.2;
                    front = r.4;
                    block = h.0;
                    behind = h.1;
                    begins = h.3;
                    inner = r.3;
                    left_is = r.7;
                  },
                  record {
                    count = m.1;
                    definitions = m.2;
                    four = m.3;
                    many = m.4;
                    content = m.5;
                    inner_is = h.5 ∙ ap (λ xs. xs ++ h.1) m.6;
                  },
                )
              ]
            ]
          ]
        ]
      ]
    ]

block_size : (block : Block) → IsBlock block → length (block_bytes block) ≡ 4 + length block.content
block_size block is = omega (arith, is.0, is.1, length-append block.type (block.size ++ block.content), length-append block.size block.content)

pub crowded_stands : (bytes : List ℕ) (at : ℕ) → client_data_of bytes ≡ Err (TooManyChannels at) → CrowdedNetwork bytes at
crowded_stands bytes at e =
    let s = first_fault bytes (TooManyChannels at) e in
    let d = crowd bytes s.left s.fault in
    let i = d.0 in
    let c = d.1 in
    let block = i.block in
    let rest : List ℕ = from_block block i.behind i.after in
    let fits : length rest ≤ length bytes = smaller ClientNetwork bytes s.left i in
    let start : ℕ = length bytes - length rest in
    let left_is : s.left ≡ (block.content ++ i.behind) ++ i.after = i.left_is ∙ ap (λ xs. xs ++ i.after) c.inner_is in
    let size : length rest ≡ 4 + length s.left = omega (
      arith,
      ap length left_is,
      block_size block i.begins.is,
      length-append (block_bytes block) (i.behind ++ i.after),
      length-append (block.content ++ i.behind) i.after,
      length-append block.content i.behind,
      length-append i.behind i.after,
    ) in
    let here : start + length rest ≡ length bytes = omega (arith, fits) in
    let counted : at ≡ start + 4 = omega (arith, size, fits, ap length s.whole, length-append s.front s.left, s.place) in
    (block, start, c.count, c.definitions, stands ClientNetwork bytes s.left i start here, i.begins.kind_is, c.content, c.four, c.many, counted)
