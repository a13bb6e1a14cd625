-- What is planned by a walk, by a jump, and whether there is work.
use Rattle.std.proofs.Common.{◌≡◌, ℕ, ◌<◌, ◌≤◌, List, [], length, refl, ap, sym, ◌∙◌, arith}
use Rattle.std.specs.Prelude.{Bool, true, false, ◌==◌, nat_lt, ◌&&◌, ◌||◌, not, if◌then◌else◌}
use Rattle.std.proofs.lemmas.Bool.Decides.{nat_tests}
use Rattle.px_core.specs.declared.surface.Size.{Size}
use Rattle.px_core.specs.Rectangle.{whole}
use Rattle.px_core.specs.Tiles.{Tiles, no_tiles, all_tiles, either_tiles, tiles_of, share_tile}
use Rattle.caps_sets.specs.declared.confirmed.Confirmed.{Confirmed}
use Rattle.session_rules.specs.Journal.{state_after}
use Rattle.frame_rules.specs.Frame.{Walk, Sent, walk_after, sent_from, jumped, most_orders, first_dirty, framed_by}
use Rattle.session_core.specs.SessionModel.{SessionModel, asked_by, is_suppressed}
use Rattle.frame_plan.specs.Takes.{DeskModel}
use Rattle.frame_plan.specs.Plans.{is_work, frame_at}
use Rattle.frame_plan.specs.Orders.{drawings_in, cached_in, all_cached, AreChosen}
use Rattle.frame_plan.specs.declared.orders.Planned.{Planned}
use Rattle.frame_plan.specs.Planning.{pending_at, begun_at, walk_if, sent_in, HasPlanned}
use Rattle.frame_plan.specs.Walks.{walk_of, HasWalkedAll, HasJumped, IsBegun}
use Rattle.frame_plan.specs.declared.walk.Walker.{Walker}

many : (n : ℕ) → 256 < n → nat_lt most_orders n ≡ true
many n h = grind (arith, nat_tests, h)

few : (n : ℕ) → n ≤ 256 → nat_lt most_orders n ≡ false
few n h = grind (arith, nat_tests, h)

pub planned_jump : (s : SessionModel) (d : DeskModel) (begun w : Walker) (orders : List Sent) → IsBegun begun (begun_at s d) → 256 < length (pending_at s d)
    → HasJumped begun (jumped s.head.size (walk_of begun) (pending_at s d)) w → orders ≡ [] → HasPlanned s d w orders
planned_jump s d begun w orders h more k none =
    let test = many (length (pending_at s d)) more in
    record {
      walk = k.walk ∙ (ap (λ (v : Walk). jumped s.head.size v (pending_at s d)) h.walk
          ∙ ap (λ b. walk_if b s.head.size d.confirmed (begun_at s d) (pending_at s d)) (sym test));
      sent = none ∙ ap (λ b. sent_in b s.head.size d.confirmed (begun_at s d) (pending_at s d)) (sym test);
    }

pub planned_walk : (s : SessionModel) (d : DeskModel) (begun w : Walker) (orders : List Sent) → IsBegun begun (begun_at s d) → length (pending_at s d) ≤ 256
    → HasWalkedAll s.head.size d.confirmed begun (pending_at s d) orders w → HasPlanned s d w orders
planned_walk s d begun w orders h less k =
    let test = few (length (pending_at s d)) less in
    record {
      walk = k.walk ∙ (ap (λ (v : Walk). walk_after s.head.size d.confirmed v (pending_at s d)) h.walk
          ∙ ap (λ b. walk_if b s.head.size d.confirmed (begun_at s d) (pending_at s d)) (sym test));
      sent = k.sent ∙ (ap (λ (v : Walk). sent_from s.head.size d.confirmed v (pending_at s d)) h.walk
          ∙ ap (λ b. sent_in b s.head.size d.confirmed (begun_at s d) (pending_at s d)) (sym test));
    }

-- what the orders take is what those of the frame take
pub cached_are : (s : SessionModel) (d : DeskModel) (w : Walker) (orders : List Planned) → HasPlanned s d w (drawings_in orders) → AreChosen d.confirmed orders
    → cached_in orders ≡ all_cached d.confirmed (frame_at s d).sent
cached_are s d w orders h k = k ∙ ap (all_cached d.confirmed) (h.sent ∙ by (nat_lt most_orders (length (pending_at s d))))
  where
    by : (b : Bool) → sent_in b s.head.size d.confirmed (begun_at s d) (pending_at s d)
        ≡ (framed_by b s.head.size d.confirmed (d.number == 0) (begun_at s d) (asked_by s d.v) (state_after s.head.size s.journal (length s.journal)).surface.picture (pending_at s d)).sent
    by true = refl
    by false = refl

-- a viewer who has seen the whole journal has work where it asks for a tile
pub work_asked : (s : SessionModel) (d : DeskModel) (b : Bool) → is_suppressed s d.v ≡ false → d.number ≡ length s.journal
    → b ≡ share_tile s.head.size (asked_by s d.v) all_tiles → b ≡ is_work s d
work_asked s d b on seen e =
    let same : (d.number == length s.journal) ≡ true = grind (arith, nat_tests, seen) in
    e ∙ (ap (λ t. not false && (not t || share_tile s.head.size (asked_by s d.v) all_tiles)) (sym same)
    ∙ ap (λ t. not t && (not (d.number == length s.journal) || share_tile s.head.size (asked_by s d.v) all_tiles)) (sym on))

-- a first frame that can't begin with a black fill
pub dirty_at_first : (size : Size) (first : Bool) (c : Confirmed) (none all : Tiles) → (first && not c.pat) ≡ true → none ≡ no_tiles
    → all ≡ either_tiles none (tiles_of size (whole size)) → all ≡ first_dirty size first c
dirty_at_first size first c none all unknown empty e =
    e ∙ (ap (λ (t : Tiles). either_tiles t (tiles_of size (whole size))) empty ∙ ap (λ b. if b then tiles_of size (whole size) else no_tiles) (sym unknown))
