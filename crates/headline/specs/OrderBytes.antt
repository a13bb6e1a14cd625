-- Orders whose numbers and contents fit the bytes in which they are written.
use Rattle.std.specs.Prelude.{ℕ, ◌<◌, List, [], ◌∷◌, length, ⊤}
use Rattle.px_core.specs.declared.surface.Size.{Size}
use Rattle.session_rules.specs.Journal.{Head}
use Rattle.session_rules.specs.Steps.{Answer, outcome}
use Rattle.session_rules.specs.Steps.Answer.{Joined, Left, Accepted, Refused, Nothing, Frame}
use Rattle.order_fields.specs.NamedDrawing.{NamedDrawing}
use Rattle.order_fields.specs.NamedDrawing.NamedDrawing.{Dst, Pat, Scr, Opaque, SaveBlock, RestoreBlock, Mem, Mem3, Glyphs}
use Rattle.order_means.specs.KeptContent.{padded_image}
use Rattle.frame_rules.specs.FrameOrders.{SentOrder, orders_before_tiles}
use Rattle.frame_rules.specs.FrameOrders.SentOrder.{Drawn, CacheImage, CacheGlyph, CacheBrush, FrameMarker}
use Rattle.frame_rules.specs.Encoder.{Encoder, encoder_frame}
use Rattle.script_rules.specs.Script.{Asked}
use Rattle.script_rules.specs.Capture.{viewer_of}
use Rattle.script_rules.specs.CaptureText.{Run, run_after, encoder_frames}
use Rattle.headline.specs.Sent.{AreBytes}

-- the counted bytes of a drawing's order, at any depth: those of its run
abbrev pub counted_bytes : NamedDrawing → List ℕ
counted_bytes (Dst r code) = []
counted_bytes (Pat r code entry) = []
counted_bytes (Scr r code sx sy) = []
counted_bytes (Opaque r color) = []
counted_bytes (SaveBlock position r) = []
counted_bytes (RestoreBlock position r) = []
counted_bytes (Mem cache index r code sx sy) = []
counted_bytes (Mem3 cache index r code sx sy entry) = []
counted_bytes (Glyphs cache x y color run) = run

-- the counted bytes of a drawing, the sides and the cache of an image, the bits and the cache of a glyph, the entry of a brush
abbrev pub HoldsBytes : SentOrder → Type 0
HoldsBytes (Drawn touched d bounds) = AreBytes (counted_bytes d) × (length (counted_bytes d) < 256)
HoldsBytes (CacheImage cache index image) = (cache < 256) × ((padded_image image).w < 256) × ((padded_image image).h < 256)
HoldsBytes (CacheGlyph cache index glyph) = (cache < 256) × AreBytes glyph.bits
HoldsBytes (CacheBrush entry brush) = entry < 256
HoldsBytes (FrameMarker ends) = ⊤

abbrev pub HoldBytes : List SentOrder → Type 0
HoldBytes [] = ⊤
HoldBytes (o ∷ os) = HoldsBytes o × HoldBytes os

-- the orders of the frame that an answer to a viewer is
abbrev pub AnswerHoldsBytes : Size → Run Encoder → ℕ → Answer → Type 0
AnswerHoldsBytes size run v (Joined u) = ⊤
AnswerHoldsBytes size run v Left = ⊤
AnswerHoldsBytes size run v Accepted = ⊤
AnswerHoldsBytes size run v (Refused refusal) = ⊤
AnswerHoldsBytes size run v Nothing = ⊤
AnswerHoldsBytes size run v (Frame take) =
    HoldBytes (orders_before_tiles size (run.confirmed v) (run.encoders v).uses (encoder_frame size (run.confirmed v) run.journal (run.encoders v) take))

-- the orders of each frame that steps are answered with, from a run on
abbrev pub FramesHoldBytes : Head → Run Encoder → List Asked → Type 0
FramesHoldBytes head run [] = ⊤
FramesHoldBytes head run (a ∷ rest) =
    AnswerHoldsBytes head.size run (viewer_of a.step) (outcome head run.play a.step).answer × FramesHoldBytes head (run_after encoder_frames head run a) rest
