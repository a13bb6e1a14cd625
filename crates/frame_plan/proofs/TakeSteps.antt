-- A take has work, and finds, what the steps of a session say of it.
use Rattle.std.proofs.Common.{◌≡◌, ℕ, length, ap, sym, ◌∙◌}
use Rattle.std.specs.Prelude.{◌==◌, ◌&&◌, ◌||◌, not}
use Rattle.px_core.specs.Tiles.{Tiles, all_tiles, share_tile}
use Rattle.session_rules.specs.Steps.{TakeOf, Play, has_work, take_of}
use Rattle.session_core.specs.SessionModel.{SessionModel, asked_by}
use Rattle.frame_plan.specs.Takes.{DeskModel}
use Rattle.frame_plan.specs.Plans.{is_work, take_at, IsPlayOf}

pub work_of_steps : (s : SessionModel) (d : DeskModel) (p : Play) → IsPlayOf s d p → is_work s d ≡ has_work s.head.size p d.v
work_of_steps s d p h =
    let size = s.head.size in
    ap (λ b. not b && (not (d.number == length s.journal) || share_tile size (asked_by s d.v) all_tiles)) (sym h.suppressed)
    ∙ (ap (λ n. not (p.suppressed d.v) && (not (n == length s.journal) || share_tile size (asked_by s d.v) all_tiles)) (sym h.taken)
    ∙ (ap (λ n. not (p.suppressed d.v) && (not (p.taken d.v == n) || share_tile size (asked_by s d.v) all_tiles)) (sym h.reached)
    ∙ ap (λ (a : Tiles). not (p.suppressed d.v) && (not (p.taken d.v == p.reached.length) || share_tile size a all_tiles)) (sym h.asked)))

abbrev found : ℕ → ℕ → Tiles → TakeOf
found before number asked = record { before = before; number = number; asked = asked }

pub take_of_steps : (s : SessionModel) (d : DeskModel) (p : Play) → IsPlayOf s d p → take_at s d ≡ take_of p d.v
take_of_steps s d p h =
    ap (λ n. found n (length s.journal) (asked_by s d.v)) (sym h.taken)
    ∙ (ap (λ n. found (p.taken d.v) n (asked_by s d.v)) (sym h.reached) ∙ ap (found (p.taken d.v) p.reached.length) (sym h.asked))
