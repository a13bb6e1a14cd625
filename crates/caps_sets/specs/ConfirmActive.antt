-- The Confirm Active PDU ([MS-RDPBCGR] 2.2.1.13.2.1), behind its share control header.
use Rattle.std.specs.Prelude.{ℕ, zero, suc, ◌+◌, ◌-◌, nat_le, ◌&&◌, List, length, slice_index, Result, Ok, Err, if◌then◌else◌}
use Rattle.wire_num.specs.FieldValue.{is_any, placed}
use Rattle.wire_num.specs.Layout.{Layout, Open, Any, Little, ◌▸◌, fields_at}
use Rattle.wire_num.specs.Field.{Read, then_read, map_read, bytes_at}
use Rattle.px_core.specs.declared.depth.Depth.{Depth}
use Rattle.caps_sets.specs.declared.confirmed.Confirmed.{Confirmed}
use Rattle.caps_sets.specs.declared.sets_so_far.SetsSoFar.{SetsSoFar}
use Rattle.caps_sets.specs.declared.set_kind.SetKind.{SetKind}
use Rattle.caps_sets.specs.declared.caps_fault.CapsFault.{CapsFault}
use Rattle.caps_sets.specs.declared.caps_fault.CapsFault.TheVariants.{BadCaps}
use Rattle.caps_sets.specs.CapabilitySets.{kind_of, least_length, with_set, before_sets, confirmed_together}

-- shareId; originatorId; lengthSourceDescriptor; lengthCombinedCapabilities, which isn't compared
unfoldable pub confirm_lengths : Layout
confirm_lengths =
    Any 4
    ▸ Any 2
    ▸ Little 2 is_any
    ▸ Any 2
    ▸ Open

-- sourceDescriptor, of so many bytes; numberCapabilities; pad2Octets
unfoldable pub confirm_counts : ℕ → Layout
confirm_counts source =
    Any source
    ▸ Little 2 is_any
    ▸ Any 2
    ▸ Open

-- capabilitySetType; lengthCapability ([MS-RDPBCGR] 2.2.1.13.1.1.1)
unfoldable pub set_header : Layout
set_header =
    Little 2 is_any
    ▸ Little 2 is_any
    ▸ Open

-- the content of a set that begins with bs, of a length that counts its header; where this is below the least one, or past the end, the set is refused at its
-- first byte
unfoldable pub with_content_of : ℕ → SetKind → SetsSoFar → List ℕ → List ℕ → Read SetsSoFar
with_content_of n kind s bs more =
    if nat_le (least_length kind) n && nat_le n (4 + length more)
    then map_read (λ content. with_set kind content s) (bytes_at (n - 4) more) else Err bs

-- a set: header; content
unfoldable pub set_at : SetsSoFar → List ℕ → Read SetsSoFar
set_at s bs =
    then_read (fields_at set_header bs) (λ header more.
    with_content_of (slice_index header 1) (kind_of (slice_index header 0)) s bs more)

-- so many sets, in any order; the last one of a kind counts
abbrev pub sets_at : ℕ → SetsSoFar → List ℕ → Read SetsSoFar
sets_at zero s bs = Ok (s, bs)
sets_at (suc n) s bs = then_read (set_at s bs) (λ more after. sets_at n more after)

-- what stands before the sets, and as many of them as are counted; what follows them isn't read
unfoldable pub confirm_at : Depth → List ℕ → Read Confirmed
confirm_at depth bs =
    then_read (fields_at confirm_lengths bs) (λ lengths more.
    then_read (fields_at (confirm_counts (slice_index lengths 0)) more) (λ counts sets.
    map_read confirmed_together (sets_at (slice_index counts 0) (before_sets depth) sets)))

-- what a Confirm Active PDU of a viewer of this depth confirms
abbrev pub confirmed_of : Depth → List ℕ → Result Confirmed CapsFault
confirmed_of depth bs = placed BadCaps bs (confirm_at depth bs)
