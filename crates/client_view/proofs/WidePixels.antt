-- The pixels of a widened picture.
use Rattle.std.proofs.Common.{◌≡◌, ℕ, ◌+◌, ◌*◌, List, ap, ◌∙◌, sym, None}
use Rattle.std.specs.Prelude.{Option}
use Rattle.px_core.specs.declared.surface.Size.{Size}
use Rattle.px_core.specs.declared.depth.Depth.{Depth}
use Rattle.px_core.specs.Picture.{pixel_at}
use Rattle.draw_ops.proofs.Shapes.{item-map}
use Rattle.order_means.specs.ClientState.{ClientState}
use Rattle.order_means.specs.FrameMarks.{View}
use Rattle.client_picture.specs.Pictures.{unknown_picture}
use Rattle.client_view.specs.declared.viewer.Viewer.{Viewer}
use Rattle.client_view.specs.Views.{StandsFor, last_picture}
use Rattle.client_view.specs.Widened.{widened_pixel, widened_picture}

pub widened_at : (size : Size) (depth : Depth) (picture : List (Option ℕ)) (x y : ℕ) → pixel_at size (widened_picture depth picture) None x y ≡ widened_pixel depth (pixel_at size picture None x y)
widened_at size depth picture x y = item-map (widened_pixel depth) picture (size.w * y + x) None

-- a viewer's last picture at a mark is its view's
pub last_widened : (v : View) (m : Viewer) → StandsFor v m
    → widened_picture m.pictures.depth m.pictures.marked ≡ widened_picture v.client.depth (last_picture (unknown_picture m.pictures.size) v.pictures)
last_widened v m s =
    ap (widened_picture m.pictures.depth) s.marked
    ∙ ap (λ (c : ClientState). widened_picture c.depth (last_picture (unknown_picture m.pictures.size) v.pictures)) (sym s.client)
