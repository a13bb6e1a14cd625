use Rattle.host_program.proofs.Modes.{client_runnable, load_runnable, stop_runnable, hosting_runnable}
use Rattle.host_program.proofs.mode.mode_with.Goals as goal
