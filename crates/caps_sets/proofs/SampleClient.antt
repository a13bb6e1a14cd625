-- The definitions on the sample client's Confirm Active PDU, and on others.
use Rattle.std.proofs.Common.{◌≡◌, ℕ, List, [], ◌∷◌, ◌++◌, replicate, refl, true}
use Rattle.std.specs.Prelude.{Ok, Err}
use Rattle.wire_num.specs.FieldValue.{passing_at}
use Rattle.px_core.specs.declared.depth.Depth.TheVariants.{Bits24, Bits16}
use Rattle.caps_sets.specs.declared.caps_fault.CapsFault.TheVariants.{BadCaps}
use Rattle.caps_sets.specs.Confirmed.{plain, full}
use Rattle.caps_sets.specs.CapabilitySets.{says_bitmaps, says_glyphs, nothing}
use Rattle.caps_sets.specs.ConfirmActive.{confirm_lengths, confirm_counts, set_header, with_content_of, set_at, confirm_at, confirmed_of}

-- what stands before the sets: a source descriptor of four bytes, and so many sets
abbrev start : ℕ → List ℕ
start count = 234 ∷ 3 ∷ 1 ∷ 0 ∷ 234 ∷ 3 ∷ 4 ∷ 0 ∷ 226 ∷ 0 ∷ 82 ∷ 68 ∷ 80 ∷ 0 ∷ count ∷ 0 ∷ 0 ∷ 0 ∷ []

-- a set of this type, with this length
abbrev set : ℕ → ℕ → List ℕ → List ℕ
set type size content = type ∷ 0 ∷ size ∷ 0 ∷ content

-- a General set with these extraFlags
abbrev general : ℕ → List ℕ
general high = set 1 24 (replicate 11 0 ++ (high ∷ replicate 8 0))

-- a General set with these extraFlags, both bytes of them
abbrev flagged : ℕ → ℕ → List ℕ
flagged low high = set 1 24 (replicate 10 0 ++ (low ∷ high ∷ replicate 8 0))

-- a General set with this protocolVersion
abbrev versioned : ℕ → ℕ → List ℕ
versioned low high = set 1 24 (replicate 4 0 ++ (low ∷ high ∷ replicate 14 0))

-- an Order set with these orderFlags, orders at places 0 to 4, 11 and 27, and orderSupportExFlags
abbrev order : ℕ → List ℕ → ℕ → ℕ → ℕ → List ℕ
order flags first save glyph more =
    set 3 88 (replicate 30 0 ++ (flags ∷ 0 ∷ first) ++ (replicate 6 0 ++ (save ∷ replicate 15 0)) ++ (glyph ∷ replicate 6 0) ++ (more ∷ replicate 17 0))

abbrev bitmap_caches : List ℕ → List ℕ
bitmap_caches sizes = set 4 40 (replicate 24 0 ++ sizes)

abbrev brush : ℕ → List ℕ
brush level = set 15 8 (level ∷ 0 ∷ 0 ∷ 0 ∷ [])

abbrev glyph_caches : ℕ → List ℕ → ℕ → List ℕ
glyph_caches size sizes level = set 16 size (sizes ++ (replicate 4 0 ++ (level ∷ 0 ∷ 0 ∷ 0 ∷ [])))

abbrev pointer : ℕ → List ℕ
pointer size = set 8 size (replicate 6 0)

-- a Pointer set of eight bytes with this colorPointerCacheSize
abbrev pointers : ℕ → ℕ → List ℕ
pointers low high = set 8 8 (1 ∷ 0 ∷ low ∷ high ∷ [])

-- the sample client's Order set
abbrev rectangles : List ℕ
rectangles = order 130 (0 ∷ 1 ∷ 0 ∷ 0 ∷ 0 ∷ []) 0 0 0

-- its first five sets, with these lengths of the first and the last of them
abbrev five_sets : ℕ → ℕ → List ℕ
five_sets first last =
    set 1 first (replicate 20 0) ++ (rectangles ++ (bitmap_caches (replicate 12 0) ++ (brush 0 ++ glyph_caches last (replicate 40 0) 0)))

sample : confirmed_of Bits24 (start 6 ++ (five_sets 24 52 ++ pointer 10)) ≡ Ok plain
unfolding confirm_at confirm_lengths confirm_counts set_at set_header with_content_of passing_at says_bitmaps says_glyphs
sample = refl

-- what preset `full` confirms, in another order, with sets that aren't read
all_orders : confirmed_of Bits24 (start 7 ++ (glyph_caches 52 (254 ∷ 0 ∷ 4 ∷ 0 ∷ 254 ∷ 0 ∷ 4 ∷ 0 ∷ 254 ∷ 0 ∷ 8 ∷ 0 ∷ 254 ∷ 0 ∷ 8 ∷ 0 ∷ 254 ∷ 0 ∷ 16 ∷ 0 ∷ 254 ∷ 0 ∷ 32 ∷ 0 ∷ 254 ∷ 0 ∷ 64 ∷ 0 ∷ 254 ∷ 0 ∷ 128 ∷ 0 ∷ 254 ∷ 0 ∷ 0 ∷ 1 ∷ 64 ∷ 0 ∷ 0 ∷ 8 ∷ []) 2
    ++ (brush 1 ++ (pointer 10 ++ (set 14 4 [] ++ (bitmap_caches (120 ∷ 0 ∷ 0 ∷ 3 ∷ 120 ∷ 0 ∷ 0 ∷ 12 ∷ 80 ∷ 1 ∷ 0 ∷ 48 ∷ []) ++ (order 10 (1 ∷ 1 ∷ 1 ∷ 1 ∷ 1 ∷ []) 1 1 4 ++ general 4))))))) ≡ Ok full
unfolding confirm_at confirm_lengths confirm_counts set_at set_header with_content_of passing_at says_bitmaps says_glyphs
all_orders = refl

-- frame markers, by flags that say that they are valid; brushes of level 2; any byte but 0 is an order
marked : confirmed_of Bits24 (start 2 ++ (order 128 (9 ∷ 0 ∷ 0 ∷ 0 ∷ 0 ∷ []) 0 0 255 ++ brush 2)) ≡ Ok (record (nothing Bits24) { dst = true; marker = true; brush = true })
unfolding confirm_at confirm_lengths confirm_counts set_at set_header with_content_of passing_at
marked = refl

level_three : confirmed_of Bits24 (start 1 ++ brush 3) ≡ Ok (nothing Bits24)
unfolding confirm_at confirm_lengths confirm_counts set_at set_header with_content_of passing_at
level_three = refl

-- the last one counts, as a whole
repeated : confirmed_of Bits24 (start 4 ++ (order 8 (1 ∷ 1 ∷ 1 ∷ 1 ∷ 1 ∷ []) 1 1 0 ++ (general 4 ++ (rectangles ++ general 251)))) ≡ Ok plain
unfolding confirm_at confirm_lengths confirm_counts set_at set_header with_content_of passing_at
repeated = refl

-- ---- a client that states a protocol version is cautious, and takes brushes by level 2 alone, in either order of the sets

cautious : confirmed_of Bits24 (start 1 ++ versioned 0 2) ≡ Ok (record (nothing Bits24) { cautious = true })
unfolding confirm_at confirm_lengths confirm_counts set_at set_header with_content_of passing_at
cautious = refl

lowest_version : confirmed_of Bits24 (start 1 ++ versioned 1 0) ≡ Ok (record (nothing Bits24) { cautious = true })
unfolding confirm_at confirm_lengths confirm_counts set_at set_header with_content_of passing_at
lowest_version = refl

cautious_level_one : confirmed_of Bits24 (start 2 ++ (versioned 0 2 ++ brush 1)) ≡ Ok (record (nothing Bits24) { cautious = true })
unfolding confirm_at confirm_lengths confirm_counts set_at set_header with_content_of passing_at
cautious_level_one = refl

level_one_first : confirmed_of Bits24 (start 2 ++ (brush 1 ++ versioned 0 2)) ≡ Ok (record (nothing Bits24) { cautious = true })
unfolding confirm_at confirm_lengths confirm_counts set_at set_header with_content_of passing_at
level_one_first = refl

cautious_level_two : confirmed_of Bits24 (start 2 ++ (versioned 0 2 ++ brush 2)) ≡ Ok (record (nothing Bits24) { cautious = true; brush = true })
unfolding confirm_at confirm_lengths confirm_counts set_at set_header with_content_of passing_at
cautious_level_two = refl

-- the last General set states none
no_longer_cautious : confirmed_of Bits24 (start 3 ++ (versioned 0 2 ++ (brush 1 ++ versioned 0 0))) ≡ Ok (record (nothing Bits24) { brush = true })
unfolding confirm_at confirm_lengths confirm_counts set_at set_header with_content_of passing_at
no_longer_cautious = refl

-- ---- updates of the fast path, by the lowest bit of extraFlags

fast : confirmed_of Bits24 (start 1 ++ flagged 1 0) ≡ Ok (record (nothing Bits24) { fast = true })
unfolding confirm_at confirm_lengths confirm_counts set_at set_header with_content_of passing_at
fast = refl

all_other_flags : confirmed_of Bits24 (start 1 ++ flagged 254 255) ≡ Ok (record (nothing Bits24) { no_header = true })
unfolding confirm_at confirm_lengths confirm_counts set_at set_header with_content_of passing_at
all_other_flags = refl

-- the last General set counts
no_longer_fast : confirmed_of Bits24 (start 2 ++ (flagged 1 0 ++ flagged 0 4)) ≡ Ok (record (nothing Bits24) { no_header = true })
unfolding confirm_at confirm_lengths confirm_counts set_at set_header with_content_of passing_at
no_longer_fast = refl

-- ---- how many shapes of pointers are kept

twenty_pointers : confirmed_of Bits24 (start 1 ++ pointers 20 0) ≡ Ok (record (nothing Bits24) { pointers = 20 })
unfolding confirm_at confirm_lengths confirm_counts set_at set_header with_content_of passing_at
twenty_pointers = refl

-- 25 are the most
twenty_five_pointers : confirmed_of Bits24 (start 1 ++ pointers 25 0) ≡ Ok (record (nothing Bits24) { pointers = 25 })
unfolding confirm_at confirm_lengths confirm_counts set_at set_header with_content_of passing_at
twenty_five_pointers = refl

twenty_six_pointers : confirmed_of Bits24 (start 1 ++ pointers 26 0) ≡ Ok (record (nothing Bits24) { pointers = 25 })
unfolding confirm_at confirm_lengths confirm_counts set_at set_header with_content_of passing_at
twenty_six_pointers = refl

a_hundred_pointers : confirmed_of Bits24 (start 1 ++ pointers 100 0) ≡ Ok (record (nothing Bits24) { pointers = 25 })
unfolding confirm_at confirm_lengths confirm_counts set_at set_header with_content_of passing_at
a_hundred_pointers = refl

pointers_of_the_high_byte : confirmed_of Bits24 (start 1 ++ pointers 0 1) ≡ Ok (record (nothing Bits24) { pointers = 25 })
unfolding confirm_at confirm_lengths confirm_counts set_at set_header with_content_of passing_at
pointers_of_the_high_byte = refl

-- neither colorPointerFlag nor pointerCacheSize is the number
the_flag_is_no_number : confirmed_of Bits24 (start 1 ++ set 8 8 (3 ∷ 0 ∷ 0 ∷ 0 ∷ [])) ≡ Ok (nothing Bits24)
unfolding confirm_at confirm_lengths confirm_counts set_at set_header with_content_of passing_at
the_flag_is_no_number = refl

a_longer_pointer_set : confirmed_of Bits24 (start 1 ++ set 8 10 (1 ∷ 0 ∷ 20 ∷ 0 ∷ 7 ∷ 0 ∷ [])) ≡ Ok (record (nothing Bits24) { pointers = 20 })
unfolding confirm_at confirm_lengths confirm_counts set_at set_header with_content_of passing_at
a_longer_pointer_set = refl

-- the last Pointer set counts
fewer_pointers_at_last : confirmed_of Bits24 (start 3 ++ (pointers 20 0 ++ (brush 1 ++ pointers 3 0))) ≡ Ok (record (nothing Bits24) { brush = true; pointers = 3 })
unfolding confirm_at confirm_lengths confirm_counts set_at set_header with_content_of passing_at
fewer_pointers_at_last = refl

more_pointers_at_last : confirmed_of Bits24 (start 2 ++ (pointers 0 0 ++ pointers 64 0)) ≡ Ok (record (nothing Bits24) { pointers = 25 })
unfolding confirm_at confirm_lengths confirm_counts set_at set_header with_content_of passing_at
more_pointers_at_last = refl

-- no set, and bytes that aren't counted
none_counted : confirmed_of Bits24 (start 0 ++ general 4) ≡ Ok (nothing Bits24)
unfolding confirm_at confirm_lengths confirm_counts passing_at
none_counted = refl

-- the depth is the viewer's, whatever the sets say
at_sixteen_bits : confirmed_of Bits16 (start 6 ++ (five_sets 24 52 ++ pointer 10)) ≡ Ok (record plain { depth = Bits16 })
unfolding confirm_at confirm_lengths confirm_counts set_at set_header with_content_of passing_at says_bitmaps says_glyphs
at_sixteen_bits = refl

-- ---- refused

short_general : confirmed_of Bits24 (start 6 ++ (five_sets 23 52 ++ pointer 10)) ≡ Err (BadCaps 18)
unfolding confirm_at confirm_lengths confirm_counts set_at set_header with_content_of passing_at says_bitmaps says_glyphs
short_general = refl

short_glyph_cache : confirmed_of Bits24 (start 6 ++ (five_sets 24 51 ++ pointer 10)) ≡ Err (BadCaps 178)
unfolding confirm_at confirm_lengths confirm_counts set_at set_header with_content_of passing_at says_bitmaps says_glyphs
short_glyph_cache = refl

short_bitmap : confirmed_of Bits24 (start 1 ++ set 2 27 (replicate 24 0)) ≡ Err (BadCaps 18)
unfolding confirm_at confirm_lengths confirm_counts set_at set_header with_content_of passing_at
short_bitmap = refl

-- a byte too short, alone and before a whole one
short_pointer : confirmed_of Bits24 (start 1 ++ set 8 7 (1 ∷ 0 ∷ 20 ∷ [])) ≡ Err (BadCaps 18)
unfolding confirm_at confirm_lengths confirm_counts set_at set_header with_content_of passing_at
short_pointer = refl

short_pointer_first : confirmed_of Bits24 (start 2 ++ (set 8 7 (1 ∷ 0 ∷ 20 ∷ []) ++ pointers 20 0)) ≡ Err (BadCaps 18)
unfolding confirm_at confirm_lengths confirm_counts set_at set_header with_content_of passing_at
short_pointer_first = refl

short_pointer_behind : confirmed_of Bits24 (start 2 ++ (pointers 20 0 ++ set 8 7 (1 ∷ 0 ∷ 20 ∷ []))) ≡ Err (BadCaps 26)
unfolding confirm_at confirm_lengths confirm_counts set_at set_header with_content_of passing_at
short_pointer_behind = refl

no_header : confirmed_of Bits24 (start 6 ++ (five_sets 24 52 ++ pointer 3)) ≡ Err (BadCaps 230)
unfolding confirm_at confirm_lengths confirm_counts set_at set_header with_content_of passing_at says_bitmaps says_glyphs
no_header = refl

past_the_end : confirmed_of Bits24 (start 6 ++ (five_sets 24 52 ++ pointer 11)) ≡ Err (BadCaps 230)
unfolding confirm_at confirm_lengths confirm_counts set_at set_header with_content_of passing_at says_bitmaps says_glyphs
past_the_end = refl

-- a set that isn't there, and one of which only the type is
missing_set : confirmed_of Bits24 (start 7 ++ (five_sets 24 52 ++ pointer 10)) ≡ Err (BadCaps 240)
unfolding confirm_at confirm_lengths confirm_counts set_at set_header with_content_of passing_at says_bitmaps says_glyphs
missing_set = refl

type_alone : confirmed_of Bits24 (start 7 ++ (five_sets 24 52 ++ pointer 8)) ≡ Err (BadCaps 240)
unfolding confirm_at confirm_lengths confirm_counts set_at set_header with_content_of passing_at says_bitmaps says_glyphs
type_alone = refl

-- a field before the sets that doesn't fit
no_bytes : confirmed_of Bits24 [] ≡ Err (BadCaps 0)
unfolding confirm_at confirm_lengths
no_bytes = refl

short_source : confirmed_of Bits24 (1 ∷ 0 ∷ 0 ∷ 0 ∷ 2 ∷ 0 ∷ 4 ∷ 0 ∷ 0 ∷ 0 ∷ 82 ∷ 68 ∷ 80 ∷ []) ≡ Err (BadCaps 10)
unfolding confirm_at confirm_lengths confirm_counts passing_at
short_source = refl

no_count : confirmed_of Bits24 (1 ∷ 0 ∷ 0 ∷ 0 ∷ 2 ∷ 0 ∷ 4 ∷ 0 ∷ 0 ∷ 0 ∷ 82 ∷ 68 ∷ 80 ∷ 0 ∷ 6 ∷ []) ≡ Err (BadCaps 14)
unfolding confirm_at confirm_lengths confirm_counts passing_at
no_count = refl
