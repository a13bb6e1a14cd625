-- The Client Info PDU ([MS-RDPBCGR] 2.2.1.11.1), from its security header on: a TS_INFO_PACKET (2.2.1.11.1.1), of which the
-- user name is read.
use Rattle.std.specs.Prelude.{ℕ, ◌+◌, ◌*◌, nat_le, nat_lt, Bool, true, false, ◌&&◌, List, [], ◌∷◌, length, take, drop, replicate, slice_index, Option}
use Rattle.std.specs.Prelude.{Some, None, Result, if◌then◌else◌}
use Rattle.std.specs.Option.{option_map}
use Rattle.wire_num.specs.FieldValue.{is_any, has_bits, placed}
use Rattle.wire_num.specs.Layout.{Layout, Open, Bytes, Any, Little, ◌▸◌, fields_at}
use Rattle.wire_num.specs.Field.{Read, then_read, map_read}
use Rattle.info_lic.specs.declared.client_info.Counts.{Counts}
use Rattle.info_lic.specs.declared.info_fault.InfoFault.{InfoFault}
use Rattle.info_lic.specs.declared.info_fault.InfoFault.TheVariants.{BadInfo}

-- flags of the security header, with SEC_INFO_PKT; flagsHi; CodePage; flags; cbDomain; cbUserName; cbPassword;
-- cbAlternateShell; cbWorkingDir
unfoldable pub info_start : Layout
info_start =
    Little 2 (has_bits 64)
    ▸ Any 2
    ▸ Any 4
    ▸ Little 4 is_any
    ▸ Little 2 is_any
    ▸ Little 2 is_any
    ▸ Little 2 is_any
    ▸ Little 2 is_any
    ▸ Little 2 is_any
    ▸ Open

-- INFO_UNICODE, and the counts: bytes without a terminator
abbrev pub counts_of : List ℕ → Counts
counts_of values = record {
  unicode = has_bits 16 (slice_index values 1);
  domain = slice_index values 2;
  user = slice_index values 3;
  password = slice_index values 4;
  shell = slice_index values 5;
  directory = slice_index values 6;
}

-- the zeros behind a text, of UTF-16 or of single bytes
abbrev pub terminator : Bool → List ℕ
terminator unicode = replicate (if unicode then 2 else 1) 0

-- a text of so many bytes, and its terminator
abbrev pub text : List ℕ → ℕ → Layout → Layout
text zeros size next =
    Any size
    ▸ Bytes zeros
    ▸ next

-- Password; AlternateShell; WorkingDir; what follows isn't read
unfoldable pub other_texts : Counts → Layout
other_texts counts =
    text (terminator counts.unicode) counts.password
    ▸ text (terminator counts.unicode) counts.shell
    ▸ text (terminator counts.unicode) counts.directory
    ▸ Open

-- Domain; UserName; the others
unfoldable pub info_texts : Counts → Layout
info_texts counts =
    text (terminator counts.unicode) counts.domain
    ▸ text (terminator counts.unicode) counts.user
    ▸ other_texts counts

-- the bytes of UserName among these texts
abbrev pub user_in : Counts → List ℕ → List ℕ
user_in counts texts = take counts.user (drop (counts.domain + length (terminator counts.unicode)) texts)

-- ---- a name

abbrev pub all_ascii : List ℕ → Bool
all_ascii [] = true
all_ascii (c ∷ cs) = nat_lt c 128 && all_ascii cs

-- a text that is longer than 64 characters, or has one that isn't ASCII, is the empty name
abbrev pub named : List ℕ → List ℕ
named cs = if nat_le (length cs) 64 && all_ascii cs then cs else []

-- the code units of UTF-16, the low byte of each first; none where a byte is left over
abbrev pub utf16_units : List ℕ → Option (List ℕ)
utf16_units [] = Some []
utf16_units (b ∷ []) = None
utf16_units (low ∷ high ∷ bs) = option_map (λ cs. (low + 256 * high) ∷ cs) (utf16_units bs)

abbrev pub named_by : Option (List ℕ) → List ℕ
named_by (Some cs) = named cs
named_by None = []

-- the name that a text's bytes write
abbrev pub name_in : Bool → List ℕ → List ℕ
name_in true bs = named_by (utf16_units bs)
name_in false bs = named bs

-- ---- the whole

unfoldable pub info_at : List ℕ → Read (List ℕ)
info_at bs =
    then_read (map_read counts_of (fields_at info_start bs)) (λ counts texts.
    map_read (λ _. name_in counts.unicode (user_in counts texts)) (fields_at (info_texts counts) texts))

-- the name that a Client Info PDU has
abbrev pub name_of : List ℕ → Result (List ℕ) InfoFault
name_of bs = placed BadInfo bs (info_at bs)
