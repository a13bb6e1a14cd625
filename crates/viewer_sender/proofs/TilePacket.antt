-- The packet of a tile whose body is written behind its headers.
use Rattle.std.proofs.Common.{◌≡◌, ℕ, List, ◌++◌, length, Bool, true, false, refl, ap, ◌∙◌, append_assoc}
use Rattle.px_core.specs.declared.depth.Depth.{Depth}
use Rattle.px_core.specs.declared.rectangle.Rect.{Rect}
use Rattle.share_pdu.proofs.PacketHeaders.{packet_whole}
use Rattle.order_means.specs.UpdateBodies.{tile_body, tile_packet}
use Rattle.viewer_sender.specs.Gathering.{tile_headers}

module _ (depth : Depth) (no_header : Bool) (r : Rect) (pixels : List ℕ) where
  whole : (fast : Bool) → tile_headers fast (length (tile_body depth no_header r pixels)) ++ tile_body depth no_header r pixels ≡ tile_packet depth fast no_header r pixels
  whole false = packet_whole 2 (tile_body depth no_header r pixels)
  whole true = refl

pub packet_put : (fast : Bool) (depth : Depth) (no_header : Bool) (r : Rect) (pixels packets begun new given : List ℕ) (n : ℕ) → begun ≡ packets ++ tile_headers fast n → n ≡ length given
    → given ≡ tile_body depth no_header r pixels → new ≡ begun ++ given → new ≡ packets ++ tile_packet depth fast no_header r pixels
packet_put fast depth no_header r pixels packets begun new given n head size is put =
    put ∙ ap (λ bs. bs ++ given) (head ∙ ap (λ k. packets ++ tile_headers fast k) size)
    ∙ append_assoc packets (tile_headers fast (length given)) given
    ∙ ap (λ bs. packets ++ (tile_headers fast (length bs) ++ bs)) is
    ∙ ap (λ bs. packets ++ bs) (whole depth no_header r pixels fast)
