use Rattle.draw_ops.proofs.Changed.{session_changes, client_changes, seen_changes}
use Rattle.draw_ops.proofs.depth_laws.showing_is_a_change_of_colors.Goals as goal

pub returns : goal.returns
returns c = record { session = session_changes; client = client_changes; seen = seen_changes }
