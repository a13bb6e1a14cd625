-- The definitions on a sample client's user data, on others that break a rule, and on the answer.
use Rattle.std.proofs.Common.{◌≡◌, ℕ, List, [], ◌∷◌, ◌++◌, replicate, refl}
use Rattle.std.specs.Prelude.{Result, Ok, Err, Some, None}
use Rattle.wire_num.specs.FieldValue.{passing_at}
use Rattle.px_core.specs.declared.depth.Depth.{Depth}
use Rattle.px_core.specs.declared.depth.Depth.TheVariants.{Bits24, Bits16}
use Rattle.gcc_per.specs.declared.gcc_fault.GccFault.{GccFault}
use Rattle.gcc_per.specs.declared.gcc_fault.GccFault.TheVariants.{BadGcc, DepthNotOffered, TooManyChannels}
use Rattle.gcc_per.specs.declared.client_data.ClientData.{ClientData}
use Rattle.gcc_per.specs.ClientCore.{depth_of_offers, desktop_of}
use Rattle.gcc_per.specs.ClientNetwork.{channel_count_at, channels_at}
use Rattle.gcc_per.specs.ClientBlocks.{kind_at, length_at, block_at, blocks_at}
use Rattle.gcc_per.specs.ClientData.{create_request, client_blocks_at, user_data_at, client_data_at, client_data_of}
use Rattle.gcc_per.specs.ServerData.{create_response}

-- what stands before so many bytes of blocks, below 256
abbrev request : ℕ → List ℕ
request size = 0 ∷ 5 ∷ 0 ∷ 20 ∷ 124 ∷ 0 ∷ 1 ∷ 128 ∷ 214 ∷ 0 ∷ 8 ∷ 0 ∷ 16 ∷ 0 ∷ 1 ∷ 192 ∷ 0 ∷ 68 ∷ 117 ∷ 99 ∷ 97 ∷ 128 ∷ size ∷ []

-- a CS_CORE of 144 bytes, with this highColorDepth and these supportedColorDepths
abbrev core_asking : ℕ → ℕ → List ℕ
core_asking high depths = (1 ∷ 192 ∷ 144 ∷ 0 ∷ 4 ∷ 0 ∷ 8 ∷ 0 ∷ 64 ∷ 0 ∷ 48 ∷ 0 ∷ []) ++ (replicate 128 0 ++ (high ∷ 0 ∷ depths ∷ 0 ∷ []))

abbrev core : ℕ → List ℕ
core depths = core_asking 24 depths

abbrev security : List ℕ
security = (2 ∷ 192 ∷ 12 ∷ 0 ∷ []) ++ replicate 8 0

-- a CS_NET of 44 bytes with so many channels: rdpdr, cliprdr and rdpsnd
abbrev network : ℕ → List ℕ
network count = (3 ∷ 192 ∷ 44 ∷ 0 ∷ count ∷ 0 ∷ 0 ∷ 0 ∷ []) ++ (
    (114 ∷ 100 ∷ 112 ∷ 100 ∷ 114 ∷ 0 ∷ 0 ∷ 0 ∷ 0 ∷ 0 ∷ 0 ∷ 0 ∷ []) ++ (
    (99 ∷ 108 ∷ 105 ∷ 112 ∷ 114 ∷ 100 ∷ 114 ∷ 0 ∷ 0 ∷ 0 ∷ 0 ∷ 0 ∷ []) ++ (114 ∷ 100 ∷ 112 ∷ 115 ∷ 110 ∷ 100 ∷ 0 ∷ 0 ∷ 0 ∷ 0 ∷ 0 ∷ 0 ∷ [])))

abbrev answer_at : Depth → ℕ → Result ClientData GccFault
answer_at depth channels = Ok (record { channels = channels; asked_width = 64; asked_height = 48; build = 0; depth = depth })

abbrev answer : ℕ → Result ClientData GccFault
answer channels = answer_at Bits24 channels

sample : client_data_of (request 200 ++ (core 7 ++ (security ++ network 3))) ≡ answer 3
unfolding create_request client_data_at user_data_at client_blocks_at blocks_at block_at kind_at length_at channels_at channel_count_at desktop_of passing_at
sample = refl

another_order : client_data_of (request 200 ++ (network 2 ++ (security ++ core 7))) ≡ answer 2
unfolding create_request client_data_at user_data_at client_blocks_at blocks_at block_at kind_at length_at channels_at channel_count_at desktop_of passing_at
another_order = refl

core_alone : client_data_of (request 144 ++ core 1) ≡ answer 0
unfolding create_request client_data_at user_data_at client_blocks_at blocks_at block_at kind_at length_at channels_at channel_count_at desktop_of passing_at
core_alone = refl

-- 16 bits where they are asked for and offered
sixteen_bits : client_data_of (request 144 ++ core_asking 16 7) ≡ answer_at Bits16 0
unfolding create_request client_data_at user_data_at client_blocks_at blocks_at block_at kind_at length_at channels_at channel_count_at desktop_of passing_at
sixteen_bits = refl

-- asked for, but 24 bits alone are offered
twenty_four_bits_alone : client_data_of (request 144 ++ core_asking 16 1) ≡ answer_at Bits24 0
unfolding create_request client_data_at user_data_at client_blocks_at blocks_at block_at kind_at length_at channels_at channel_count_at desktop_of passing_at
twenty_four_bits_alone = refl

-- not asked for, but they alone are offered
sixteen_bits_alone : client_data_of (request 144 ++ core_asking 24 14) ≡ answer_at Bits16 0
unfolding create_request client_data_at user_data_at client_blocks_at blocks_at block_at kind_at length_at channels_at channel_count_at desktop_of passing_at
sixteen_bits_alone = refl

-- asked for, and neither is offered: 15 and 32 bits are no offer
fifteen_bits_alone : client_data_of (request 144 ++ core_asking 16 12) ≡ Err (DepthNotOffered 23)
unfolding create_request client_data_at user_data_at client_blocks_at blocks_at block_at kind_at length_at channels_at channel_count_at desktop_of passing_at
fifteen_bits_alone = refl

-- a block of 143 bytes: half of supportedColorDepths is none, so highColorDepth offers what it asks for
half_a_field : client_data_of (request 143 ++ ((1 ∷ 192 ∷ 143 ∷ 0 ∷ 4 ∷ 0 ∷ 8 ∷ 0 ∷ 64 ∷ 0 ∷ 48 ∷ 0 ∷ []) ++ (replicate 128 0 ++ (16 ∷ 0 ∷ 1 ∷ [])))) ≡ answer_at Bits16 0
unfolding create_request client_data_at user_data_at client_blocks_at blocks_at block_at kind_at length_at channels_at channel_count_at desktop_of passing_at
half_a_field = refl

-- a block of 141 bytes: half of highColorDepth asks for nothing, and postBeta2ColorDepth offers 16 bits
half_a_wish : client_data_of (request 141 ++ ((1 ∷ 192 ∷ 141 ∷ 0 ∷ 4 ∷ 0 ∷ 8 ∷ 0 ∷ 64 ∷ 0 ∷ 48 ∷ 0 ∷ []) ++ (replicate 120 0 ++ (3 ∷ 202 ∷ (replicate 6 0 ++ (24 ∷ [])))))) ≡ answer_at Bits16 0
unfolding create_request client_data_at user_data_at client_blocks_at blocks_at block_at kind_at length_at channels_at channel_count_at desktop_of passing_at
half_a_wish = refl

-- by the optional fields alone: the first that is there says what is offered
one_depth_in_high_color : depth_of_offers None (Some 24) (Some 0xCA03) ≡ Some Bits24
one_depth_in_high_color = refl

twenty_four_bits_first : depth_of_offers (Some 3) None None ≡ Some Bits24
twenty_four_bits_first = refl

twenty_four_bits_by_the_oldest_field : depth_of_offers None None (Some 0xCA04) ≡ Some Bits24
twenty_four_bits_by_the_oldest_field = refl

fifteen_bits_by_the_oldest_field : depth_of_offers None None (Some 0xCA02) ≡ None
fifteen_bits_by_the_oldest_field = refl

no_field_offers : depth_of_offers None None None ≡ None
no_field_offers = refl

-- clientBuild stands behind keyboardLayout, and before clientName
built : client_data_of (request 144 ++ ((1 ∷ 192 ∷ 144 ∷ 0 ∷ 4 ∷ 0 ∷ 8 ∷ 0 ∷ 0 ∷ 2 ∷ 128 ∷ 1 ∷ 1 ∷ 202 ∷ 3 ∷ 170 ∷ 9 ∷ 4 ∷ 0 ∷ 0 ∷ 187 ∷ 71 ∷ 0 ∷ 1 ∷ 97 ∷ []) ++ (replicate 115 0 ++ (24 ∷ 0 ∷ 7 ∷ 0 ∷ []))))
    ≡ Ok (record { channels = 0; asked_width = 512; asked_height = 384; build = 16795579; depth = Bits24 })
unfolding create_request client_data_at user_data_at client_blocks_at blocks_at block_at kind_at length_at channels_at channel_count_at desktop_of passing_at
built = refl

no_core : client_data_of (request 56 ++ (security ++ network 3)) ≡ Err (BadGcc 79)
unfolding create_request client_data_at user_data_at client_blocks_at blocks_at block_at kind_at length_at channels_at channel_count_at desktop_of passing_at
no_core = refl

-- refused at the second CS_CORE's type, although it offers neither depth
core_repeated : client_data_of (request 200 ++ (core 7 ++ (core 12 ++ security))) ≡ Err (BadGcc 167)
unfolding create_request client_data_at user_data_at client_blocks_at blocks_at block_at kind_at length_at channels_at channel_count_at desktop_of passing_at
core_repeated = refl

no_depth : client_data_of (request 188 ++ (network 3 ++ core 12)) ≡ Err (DepthNotOffered 67)
unfolding create_request client_data_at user_data_at client_blocks_at blocks_at block_at kind_at length_at channels_at channel_count_at desktop_of passing_at
no_depth = refl

crowded : client_data_of (request 188 ++ (network 32 ++ core 12)) ≡ Err (TooManyChannels 27)
unfolding create_request client_data_at user_data_at client_blocks_at blocks_at block_at kind_at length_at channels_at channel_count_at desktop_of passing_at
crowded = refl

fourth_channel : client_data_of (request 188 ++ (network 4 ++ core 7)) ≡ Err (BadGcc 67)
unfolding create_request client_data_at user_data_at client_blocks_at blocks_at block_at kind_at length_at channels_at channel_count_at desktop_of passing_at
fourth_channel = refl

left_over : client_data_of (request 144 ++ (core 7 ++ (9 ∷ []))) ≡ Err (BadGcc 167)
unfolding create_request client_data_at user_data_at client_blocks_at blocks_at block_at kind_at length_at channels_at channel_count_at desktop_of passing_at
left_over = refl

too_few : client_data_of (request 145 ++ core 12) ≡ Err (BadGcc 23)
unfolding create_request client_data_at user_data_at client_blocks_at blocks_at block_at kind_at length_at channels_at channel_count_at desktop_of passing_at
too_few = refl

-- another key than "Duca"; no length of the user data; a CS_CORE of 131 bytes; a CS_NET that ends in its count
another_key : client_data_of (0 ∷ 5 ∷ 0 ∷ 20 ∷ 124 ∷ 0 ∷ 1 ∷ 14 ∷ 0 ∷ 8 ∷ 0 ∷ 16 ∷ 0 ∷ 1 ∷ 192 ∷ 0 ∷ 68 ∷ 117 ∷ 99 ∷ 98 ∷ 0 ∷ []) ≡ Err (BadGcc 16)
unfolding create_request client_data_at user_data_at client_blocks_at blocks_at block_at kind_at length_at channels_at channel_count_at desktop_of passing_at
another_key = refl

no_length : client_data_of (0 ∷ 5 ∷ 0 ∷ 20 ∷ 124 ∷ 0 ∷ 1 ∷ 13 ∷ 0 ∷ 8 ∷ 0 ∷ 16 ∷ 0 ∷ 1 ∷ 192 ∷ 0 ∷ 68 ∷ 117 ∷ 99 ∷ 97 ∷ []) ≡ Err (BadGcc 20)
unfolding create_request client_data_at user_data_at client_blocks_at blocks_at block_at kind_at length_at channels_at channel_count_at desktop_of passing_at
no_length = refl

short_core : client_data_of (request 131 ++ ((1 ∷ 192 ∷ 131 ∷ 0 ∷ []) ++ replicate 127 0)) ≡ Err (BadGcc 25)
unfolding create_request client_data_at user_data_at client_blocks_at blocks_at block_at kind_at length_at channels_at channel_count_at desktop_of passing_at
short_core = refl

cut_count : client_data_of (request 6 ++ (3 ∷ 192 ∷ 6 ∷ 0 ∷ 1 ∷ 0 ∷ [])) ≡ Err (BadGcc 27)
unfolding create_request client_data_at user_data_at client_blocks_at blocks_at block_at kind_at length_at channels_at channel_count_at desktop_of passing_at
cut_count = refl

-- the answer to the sample client
answered : create_response 3 0
    ≡ 0 ∷ 5 ∷ 0 ∷ 20 ∷ 124 ∷ 0 ∷ 1 ∷ 54 ∷ 20 ∷ 118 ∷ 10 ∷ 1 ∷ 1 ∷ 0 ∷ 1 ∷ 192 ∷ 0 ∷ 77 ∷ 99 ∷ 68 ∷ 110 ∷ 40 ∷ 1 ∷ 12 ∷ 12 ∷ 0 ∷ 4 ∷ 0 ∷ 8 ∷ 0 ∷ 0 ∷ 0 ∷ 0 ∷ 0 ∷ 3 ∷ 12 ∷ 16 ∷ 0 ∷ 235 ∷ 3 ∷ 3 ∷ 0 ∷ 236 ∷ 3 ∷ 237 ∷ 3 ∷ 238 ∷ 3 ∷ 0 ∷ 0 ∷ 2 ∷ 12 ∷ 12 ∷ 0 ∷ 0 ∷ 0 ∷ 0 ∷ 0 ∷ 0 ∷ 0 ∷ 0 ∷ 0 ∷ []
unfolding create_response
answered = refl
