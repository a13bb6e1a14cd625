-- The walk over an entry, and over those behind it that drew nothing.
use Rattle.std.proofs.Common.{◌≡◌, ℕ, ◌+◌, ◌≤◌, List, [], refl}
use Rattle.px_core.specs.declared.surface.Size.{Size}
use Rattle.caps_sets.specs.declared.confirmed.Confirmed.{Confirmed}
use Rattle.session_rules.specs.declared.entry.Entry.{Entry}
use Rattle.session_rules.specs.Pending.{pending_between}
use Rattle.frame_rules.specs.Frame.{Sent}
use Rattle.frame_plan.specs.declared.walk.Walker.{Walker}
use Rattle.frame_plan.specs.Walks.{HasGoneOver}
use Rattle.frame_plan.proofs.Pendings.{pending_past}
use Rattle.frame_plan.proofs.Walking.{gone_on}

pub gone_past : (size : Size) (c : Confirmed) (j : List Entry) (number k next : ℕ) (old w new : Walker) (mid after : List Sent) → number ≤ k → k + 1 ≤ next
    → pending_between size j (k + 1) next ≡ [] → HasGoneOver size c old [] (pending_between size j number k) w mid
    → HasGoneOver size c w mid (pending_between size j k (k + 1)) new after → HasGoneOver size c old [] (pending_between size j number next) new after
gone_past size c j number k next old w new mid after low high quiet before h =
    let ps = pending_between size j k (k + 1) in
    gone_on size c old w new [] mid after (pending_between size j number k) ps (pending_between size j number next) before h
    (pending_past size j number k next ps low high refl quiet)
