-- What a capture shows one of its viewers, and the text that says so (profile).
use Rattle.std.specs.Prelude.{ℕ, zero, suc, ◌/◌, ◌%◌, Bool, true, false, List, [], ◌∷◌, ◌++◌, length, codes, decimal, Result, Ok, Err}
use Rattle.std.specs.declared.option.Option.{Option}
use Rattle.std.specs.declared.option.Option.TheVariants.{Some, None}
use Rattle.px_core.specs.declared.surface.Size.{Size}
use Rattle.px_core.specs.Picture.{pixel_at}
use Rattle.order_means.specs.FrameMarks.{View, ClientReading, Refusal, read_stream}
use Rattle.client_view.specs.Views.{capped, last_picture}
use Rattle.client_view.specs.Widened.{widened_picture}
use Rattle.script_rules.specs.Capture.{JoinedAs, first_broken_line, joined_as, viewer_bytes}

-- what a capture shows a viewer: its first line that breaks the rules of captures; that no line joins it; the place where its bytes are
-- refused; that they have no mark; or the picture at the last mark, in colours of 24 bits, with how many marks, orders and tiles there were
pub data Shown : Type 0 where
  BrokenAt : ℕ → Shown
  NeverJoined : Shown
  RefusedAt : ℕ → Shown
  Unmarked : Shown
  Marked : (size : Size) → (marks orders tiles : ℕ) → (picture : List (Option ℕ)) → Shown

abbrev pub marked_shown : Size → View → List (List (Option ℕ)) → Shown
marked_shown size view [] = Unmarked
marked_shown size view (p ∷ ps) = Marked size (length view.pictures) view.orders view.tiles (widened_picture view.client.depth (last_picture p ps))

abbrev pub view_shown : Size → View → Shown
view_shown size view = marked_shown size view view.pictures

abbrev pub stream_shown : Size → Result ClientReading Refusal → Shown
stream_shown size (Ok r) = view_shown size r.view
stream_shown size (Err refusal) = RefusedAt refusal.place

abbrev pub joined_shown : ℕ → List ℕ → Option JoinedAs → Shown
joined_shown v capture None = NeverJoined
joined_shown v capture (Some j) = stream_shown j.size (read_stream j.confirmed j.size (viewer_bytes v capture))

abbrev pub unless_broken : ℕ → List ℕ → Option ℕ → Shown
unless_broken v capture None = joined_shown v capture (joined_as v capture)
unless_broken v capture (Some k) = BrokenAt k

-- what a capture shows a viewer
abbrev pub shown : ℕ → List ℕ → Shown
shown v capture = unless_broken v capture (first_broken_line capture)

-- whether the capture and the viewer's bytes are accepted
abbrev pub is_accepted : Shown → Bool
is_accepted (BrokenAt k) = false
is_accepted NeverJoined = false
is_accepted (RefusedAt place) = false
is_accepted Unmarked = true
is_accepted (Marked size marks orders tiles picture) = true

-- ---- texts

abbrev pub line_of : List ℕ → List ℕ
line_of text = text ++ 10 ∷ []

-- a number, at most 2^64 - 1
abbrev pub number : ℕ → List ℕ
number n = decimal (capped n)

-- red, green and blue; an unknown pixel is black
abbrev pub pixel_text : Option ℕ → List ℕ
pixel_text None = 0 ∷ 0 ∷ 0 ∷ []
pixel_text (Some color) = ((color / 65536) % 256) ∷ ((color / 256) % 256) ∷ (color % 256) ∷ []

-- the first pixels of a row
abbrev pub row_text : (ℕ → Option ℕ) → ℕ → List ℕ
row_text pixel zero = []
row_text pixel (suc x) = row_text pixel x ++ pixel_text (pixel x)

-- the first rows of a picture of this width
abbrev pub rows_text : ℕ → (ℕ → ℕ → Option ℕ) → ℕ → List ℕ
rows_text w pixel zero = []
rows_text w pixel (suc y) = rows_text w pixel y ++ row_text (λ x. pixel x y) w

-- a word and a number
abbrev pub with_number : List ℕ → ℕ → List ℕ
with_number word n = word ++ decimal n

-- the head of a picture in portable pixel format, with what was counted as a remark
abbrev pub picture_head : Size → (marks orders tiles : ℕ) → List ℕ
picture_head size marks orders tiles = ((((with_number (codes "P6" ++ 10 ∷ codes "# marks ") marks ++ with_number (codes " orders ") orders)
    ++ with_number (codes " tiles ") tiles) ++ with_number (10 ∷ []) size.w) ++ with_number (32 ∷ []) size.h) ++ 10 ∷ codes "255" ++ 10 ∷ []

abbrev pub picture_text : Size → (marks orders tiles : ℕ) → List (Option ℕ) → List ℕ
picture_text size marks orders tiles picture = picture_head size marks orders tiles
    ++ rows_text size.w (λ x y. pixel_at size picture None x y) size.h

-- the text that says what is shown
abbrev pub text_of : Shown → List ℕ
text_of (BrokenAt k) = line_of (codes "line " ++ number k)
text_of NeverJoined = line_of (codes "line 0")
text_of (RefusedAt place) = line_of (codes "refused " ++ number place)
text_of Unmarked = line_of (codes "no mark")
text_of (Marked size marks orders tiles picture) = picture_text size (capped marks) (capped orders) (capped tiles) picture
