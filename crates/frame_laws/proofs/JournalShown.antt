-- The promise of one frame, kept: every frame over every legal journal, for every client that its encoder describes.
use Rattle.std.proofs.Common.{◌≡◌, ℕ, ◌+◌, ◌*◌, ◌/◌, ◌<◌, ◌≤◌, List, sym, subst, arith}
use Rattle.std.specs.Prelude.{true, nat_le}
use Rattle.std.proofs.lemmas.Bool.{and_from}
use Rattle.std.proofs.lemmas.Bool.Decides.{nat_tests}
use Rattle.px_core.specs.declared.surface.Size.{Size}
use Rattle.px_core.specs.Rectangle.{whole, has_pixel, is_session_size}
use Rattle.draw_ops.specs.Slots.{SurfaceState}
use Rattle.caps_sets.specs.declared.confirmed.Confirmed.{Confirmed}
use Rattle.session_rules.specs.declared.entry.Entry.{Entry}
use Rattle.session_rules.specs.Journal.{Head, state_after, IsLegalJournal}
use Rattle.session_rules.specs.Steps.{TakeOf}
use Rattle.session_rules.proofs.Fitting.{Sides, sides_of}
use Rattle.order_means.specs.ClientState.{ClientState}
use Rattle.frame_rules.specs.Blocks.{Held, positions_of}
use Rattle.session_rules.specs.Pending.{Pending}
use Rattle.frame_rules.specs.Frame.{is_first, frame_over}
use Rattle.frame_rules.specs.FrameOrders.{orders_before_tiles}
use Rattle.frame_rules.specs.Encoder.{Encoder, encoder_frame}
use Rattle.frame_rules.specs.Describes.{BlocksAgree, DescribesClient, HasAllCaches, FrameShowsJournal}
use Rattle.frame_laws.specs.Agreement.{AreFilled}
use Rattle.frame_laws.specs.SoundState.{IsSound}
use Rattle.frame_laws.specs.Drawings.{drawings_between}
use Rattle.frame_laws.proofs.Entries.{pending_between_is}
use Rattle.frame_laws.proofs.Journals.{between_sound, state_sound}
use Rattle.frame_laws.proofs.OrderValues.{whole_fit, whole_short, whole_marks}
use Rattle.frame_laws.proofs.FrameFits.{FewWhole, all_good, frame_fits}
use Rattle.frame_laws.proofs.FrameWhole.{IsSoundTake, take_shows}

-- a block of a sound state takes a position at least
held_filled : (size : Size) (j : List Entry) (st : SurfaceState) (held : Held) (client : ClientState) → IsSound size j st → BlocksAgree st held client
    → AreFilled held
held_filled size j st held client h agree slot place e =
    let b = agree slot place e in
    let k = h.blocks slot b.0 b.1 in
    let wide : 0 < place.w = subst (λ n. 0 < n) b.2 k.some_columns in
    let high : 0 < place.h = subst (λ n. 0 < n) b.3 k.some_rows in
    filled place.w place.h wide high
  where
    filled : (w h : ℕ) → 0 < w → 0 < h → 0 < positions_of w h
    filled w h some high =
        let rows : 1 ≤ 20 * ((h + 19) / 20) = omega (arith, high) in
        let least : w * 1 ≤ w * (20 * ((h + 19) / 20)) = grind (arith, rows) in
        omega (arith, some, least)

whole_has_pixel : (size : Size) → Sides size.w size.h → has_pixel (whole size) ≡ true
whole_has_pixel size s =
    let wide = s.wide in
    let high = s.high in
    and_from _ _ (at_least size.w (omega (arith, wide))) (at_least size.h high)
  where
    at_least : (n : ℕ) → 1 ≤ n → nat_le 1 n ≡ true
    at_least n h = grind (arith, nat_tests, h)

module _ (head : Head) (c : Confirmed) (j : List Entry) (sized : is_session_size head.size.w head.size.h ≡ true) (all : HasAllCaches c)
    (legal : IsLegalJournal head j) where
  pub sound_take : (e : Encoder) (t : TakeOf) (client : ClientState) (s : Sides head.size.w head.size.h) → t.before ≤ t.number
      → DescribesClient head.size c j t.before e client → IsSoundTake head.size s.not_wider c j e t
  sound_take e t client s up old =
      let size = head.size in
      let st = (state_after size j t.before).surface in
      let ds = drawings_between size j t.before t.number in
      let picture = (state_after size j t.number).surface.picture in
      let sound = between_sound head j sized legal t.before t.number up in
      let before = state_sound head j sized legal t.before in
      let after = state_sound head j sized legal t.number in
      let over = frame_fits size s.not_wider s c all j st e.held e.uses ds sound old.apart (is_first t) t.asked picture in
      let f : FewWhole c 65535 (orders_before_tiles size c e.uses (encoder_frame size c j e t)) =
      subst (λ (ps : List Pending). FewWhole c 65535 (orders_before_tiles size c e.uses (frame_over size c (is_first t) e.held t.asked picture ps)))
      (sym (pending_between_is size j t.before t.number)) over in
      let os = orders_before_tiles size c e.uses (encoder_frame size c j e t) in
      let few = f.few in
      record {
        good = all_good size c j s.not_wider ds st sound;
        whole_picture = before.sized.pixels;
        filled = held_filled size j st e.held client before old.blocks;
        colors = after.colors;
        marks = whole_marks c os f.all;
        fit = whole_fit c os f.all;
        short = whole_short c os e.registers f.all;
        few = omega (arith, few);
      }

pub frame_shows_journal : (head : Head) (c : Confirmed) → FrameShowsJournal head c
frame_shows_journal head c j e t view place sized all legal up within old =
    let s = sides_of head.size.w head.size.h sized in
    take_shows head.size s.not_wider sized (whole_has_pixel head.size s) c all j e t view place up old
    (sound_take head c j sized all legal e t view.client s up old)
