-- The Demand Active PDU that the host writes ([MS-RDPBCGR] 2.2.1.13.1.1), from its share control header on. Its sets, their order and their values are profile.
use Rattle.std.specs.Prelude.{ℕ, ◌+◌, Bool, true, false, List, [], ◌∷◌, ◌++◌, length, replicate}
use Rattle.byteorder.specs.Endian.{little_bytes}
use Rattle.px_core.specs.declared.depth.Depth.{Depth}
use Rattle.px_core.specs.declared.surface.Size.{Size}
use Rattle.px_core.specs.Depth.{bits_in}

-- type; length, with this header; content ([MS-RDPBCGR] 2.2.1.13.1.1.1)
abbrev pub capability_set : ℕ → List ℕ → List ℕ
capability_set type content = little_bytes 2 type ++ (little_bytes 2 (4 + length content) ++ content)

-- numbers of two bytes, one after the other
abbrev pub numbers : List ℕ → List ℕ
numbers [] = []
numbers (n ∷ ns) = little_bytes 2 n ++ numbers ns

-- osMajorType; osMinorType; protocolVersion; pad2octetsA; generalCompressionTypes; extraFlags, with FASTPATH_OUTPUT_SUPPORTED and NO_BITMAP_COMPRESSION_HDR;
-- updateCapabilityFlag;
-- remoteUnshareFlag; generalCompressionLevel; refreshRectSupport; suppressOutputSupport (2.2.7.1.1)
abbrev pub general_set : List ℕ
general_set = capability_set 1 (numbers (1 ∷ 3 ∷ 512 ∷ 0 ∷ 0 ∷ 1025 ∷ 0 ∷ 0 ∷ 0 ∷ []) ++ (1 ∷ 1 ∷ []))

-- a flag of two bytes
abbrev pub flag : Bool → ℕ
flag true = 1
flag false = 0

-- preferredBitsPerPixel; receive1BitPerPixel; receive4BitsPerPixel; receive8BitsPerPixel; desktopWidth; desktopHeight; pad2octets; desktopResizeFlag;
-- bitmapCompressionFlag; highColorFlags; drawingFlags; multipleRectangleSupport; pad2octetsB (2.2.7.1.2)
abbrev pub bitmap_set : Size → Depth → Bool → List ℕ
bitmap_set size depth resizes =
    capability_set 2 (numbers (bits_in depth ∷ 1 ∷ 1 ∷ 1 ∷ size.w ∷ size.h ∷ 0 ∷ flag resizes ∷ 1 ∷ []) ++ (0 ∷ 0 ∷ numbers (1 ∷ 0 ∷ [])))

-- orderSupport: DstBlt, PatBlt, ScrBlt, MemBlt, Mem3Blt at 0 to 4, SaveBitmap at 11, GlyphIndex at 27
abbrev pub order_support : List ℕ
order_support = replicate 5 1 ++ (replicate 6 0 ++ (1 ∷ (replicate 15 0 ++ (1 ∷ replicate 4 0))))

-- terminalDescriptor; pad4octetsA; desktopSaveXGranularity; desktopSaveYGranularity; pad2octetsA; maximumOrderLevel; numberFonts; orderFlags, with
-- ZEROBOUNDSDELTASSUPPORT and ORDERFLAGS_EXTRA_FLAGS; orderSupport; textFlags; orderSupportExFlags, ALTSEC_FRAME_MARKER_SUPPORT; pad4octetsB;
-- desktopSaveSize; pad2octetsC; pad2octetsD; textANSICodePage; pad2octetsE (2.2.7.1.3)
abbrev pub order_set : List ℕ
order_set =
    capability_set 3 (replicate 16 0 ++ (little_bytes 4 0 ++ (numbers (1 ∷ 20 ∷ 0 ∷ 1 ∷ 0 ∷ 138 ∷ []) ++ (order_support
    ++ (numbers (0 ∷ 4 ∷ []) ++ (little_bytes 4 0 ++ (little_bytes 4 230400 ++ numbers (0 ∷ 0 ∷ 0 ∷ 0 ∷ []))))))))

-- colorPointerFlag; colorPointerCacheSize; pointerCacheSize (2.2.7.1.5)
abbrev pub pointer_set : List ℕ
pointer_set = capability_set 8 (numbers (1 ∷ 25 ∷ 25 ∷ []))

-- inputFlags, with INPUT_FLAG_SCANCODES, INPUT_FLAG_MOUSEX, INPUT_FLAG_FASTPATH_INPUT, INPUT_FLAG_UNICODE and INPUT_FLAG_FASTPATH_INPUT2; pad2octetsA;
-- keyboardLayout; keyboardType; keyboardSubType;
-- keyboardFunctionKey; imeFileName (2.2.7.1.6)
abbrev pub input_set : List ℕ
input_set = capability_set 13 (numbers (61 ∷ 0 ∷ []) ++ (replicate 16 0 ++ replicate 64 0))

-- flags (2.2.7.1.10)
abbrev pub virtual_channel_set : List ℕ
virtual_channel_set = capability_set 20 (little_bytes 4 0)

-- nodeId, the server's 1002; pad2octets (2.2.7.2.4)
abbrev pub share_set : List ℕ
share_set = capability_set 9 (numbers (1002 ∷ 0 ∷ []))

-- fontSupportFlags, FONTSUPPORT_FONTLIST; pad2octets (2.2.7.2.5)
abbrev pub font_set : List ℕ
font_set = capability_set 14 (numbers (1 ∷ 0 ∷ []))

-- totalLength; pduType, PDUTYPE_DEMANDACTIVEPDU of version 1; pduSource, the server's 1002 (2.2.8.1.1.1.1)
abbrev pub demand_header : List ℕ
demand_header = numbers (288 ∷ 17 ∷ 1002 ∷ [])

-- shareId; lengthSourceDescriptor; lengthCombinedCapabilities; sourceDescriptor, "RDP"; numberCapabilities; pad2Octets
abbrev pub demand_start : List ℕ
demand_start = little_bytes 4 66538 ++ (numbers (4 ∷ 266 ∷ []) ++ (82 ∷ 68 ∷ 80 ∷ 0 ∷ numbers (8 ∷ 0 ∷ [])))

-- what stands before the Bitmap set, and after it; sessionId at the end
unfoldable pub before_bitmap : List ℕ
before_bitmap = demand_header ++ (demand_start ++ general_set)

unfoldable pub after_bitmap : List ℕ
after_bitmap = order_set ++ (pointer_set ++ (input_set ++ (virtual_channel_set ++ (share_set ++ (font_set ++ little_bytes 4 0)))))

-- the whole, for a picture of this size, to a client of this depth that is to take that size for its window or not
unfoldable pub demand_active : Size → Depth → Bool → List ℕ
demand_active size depth resizes = before_bitmap ++ (bitmap_set size depth resizes ++ after_bitmap)
