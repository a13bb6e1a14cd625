-- What feeding a look says, of what its bytes came to.
use Rattle.std.proofs.Common.{◌≡◌, ℕ, List, refl}
use Rattle.std.specs.Prelude.{Option, Some, None, Err}
use Rattle.caps_sets.specs.declared.confirmed.Confirmed.{Confirmed}
use Rattle.viewer_rules.specs.ViewerHandshake.{Watching, Watched, watched}
use Rattle.viewer_rules.specs.Shown.{look_refusal}
use Rattle.look_net.specs.declared.look_fault.LookFault.{LookFault}
use Rattle.look_net.specs.declared.look_fault.LookFault.TheVariants.{Refused, OutOfMemory}
use Rattle.look_net.specs.declared.watcher.Watcher.{Watcher}
use Rattle.look_net.specs.Looks.{LookOf, IsWatching, FeedsLook, FeedsText}
use Rattle.look_net.specs.Watches.{Goes, Stops}
use Rattle.look_net.proofs.Loop.{refused_whole, none_refused}

-- a look of its parts
abbrev pub look_of : List ℕ → Confirmed → Watcher → List ℕ → Option LookFault → LookOf
look_of name c m part end = record { name = name; confirmed = c; stage = m.stage; place = m.place; start = m.start; part = part; client = m.client; end = end }

pub looks_on : (name : List ℕ) (c : Confirmed) (x : Watched) (m : Watcher) (part out new_out : List ℕ) (end : Option LookFault) → end ≡ None → Goes x c m part out new_out
    → IsWatching x.after (look_of name c m part end) × (look_refusal c x.after ≡ None)
looks_on name c x m part out new_out end e g = (record { follows = g.follows; keeps = g.keeps; goes_on = e }, none_refused c x.after m part g.follows g.keeps)

pub looks_no_more : (f : LookFault) (name : List ℕ) (c : Confirmed) (w : Watching) (m : Watcher) (part bytes out new_out : List ℕ) → Stops f name c w bytes out new_out
    → FeedsLook (Err f) (watched name c w bytes) (look_of name c m part (Some f))
looks_no_more (Refused at) name c w m part bytes out new_out s = ((refused_whole name c w bytes out new_out at s).1, refl)
looks_no_more OutOfMemory name c w m part bytes out new_out s = refl

pub text_so_far : (f : LookFault) (name : List ℕ) (c : Confirmed) (w : Watching) (bytes out new_out : List ℕ) → Stops f name c w bytes out new_out
    → FeedsText (Err f) (λ read. (watched name c w read).text) bytes out new_out
text_so_far (Refused at) name c w bytes out new_out s = (refused_whole name c w bytes out new_out at s).0
text_so_far OutOfMemory name c w bytes out new_out s = record { front = s.front; more = s.more; whole = s.whole; written = s.written }
