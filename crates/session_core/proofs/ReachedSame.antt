-- What is reached, by its parts.
use Rattle.std.proofs.Common.{◌≡◌}
use Rattle.session_rules.specs.Journal.{Reached}

pub same_reached : (a b : Reached) → a.state ≡ b.state → a.viewers ≡ b.viewers → a.holder ≡ b.holder → a.length ≡ b.length → a.joins ≡ b.joins → a.limited ≡ b.limited
    → a.image_pixels ≡ b.image_pixels → a ≡ b
same_reached a b state viewers holder count joins limited pixels =
    λ i. record { state = state i; viewers = viewers i; holder = holder i; length = count i; joins = joins i; limited = limited i; image_pixels = pixels i }
