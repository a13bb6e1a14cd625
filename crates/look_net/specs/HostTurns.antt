-- One turn of watching a host: a read, what the viewer makes of it, and what is said.
use Rattle.std.specs.Prelude.{◌≡◌, ℕ, List, [], ◌++◌, ⊤, ◌⊎◌}
use Rattle.std.specs.Io.KnownBytes.{Appends, Consumes}
use Rattle.std.specs.declared.option.Option.{Option}
use Rattle.std.specs.declared.option.Option.TheVariants.{Some, None}
use Rattle.edge_io.specs.Faults.{Rose}
use Rattle.edge_io.specs.Outside.{Output, Outside}
use Rattle.edge_io.specs.Sink.{WritesFront}
use Rattle.command_words.specs.ViewWords.{ViewingOf}
use Rattle.viewer_rules.specs.ViewerHandshake.{Watching, Watched, watched, viewer_handshake}
use Rattle.viewer_rules.specs.Shown.{look_refusal}
use Rattle.look_net.specs.Looks.{LookOf, IsWatching}
use Rattle.look_net.specs.declared.end.End.{End}
use Rattle.look_net.specs.declared.end.End.TheVariants as end
use Rattle.look_net.specs.Views.{status_of, leave, WatchEnd, Tells}
use Rattle.look_net.specs.Views.WatchEnd.{Decided, Unread, Unsaid, Spent}

-- a look joins by the name that was asked for, and confirms what was asked for
pub record IsLookOf (v : ViewingOf) (look : LookOf) : Type 0 where
  pub name : look.name ≡ v.name
  pub confirmed : look.confirmed ≡ v.confirmed

-- a text was said, and a front of it where it couldn't be written or no memory was left
abbrev pub Says : Option End → List ℕ → (before now : Output) → Type 0
Says None text before now = Appends before.told now.told text × (now.faults ≡ before.faults)
Says (Some end.WriteFault) text before now = WritesFront before.told now.told text × Rose before.faults now.faults
Says (Some end.OutOfMemory) text before now = WritesFront before.told now.told text × (now.faults ≡ before.faults)
Says (Some end.Marks) text before now = ⊥
Says (Some end.Farewell) text before now = ⊥
Says (Some end.Closed) text before now = ⊥
Says (Some (end.Refused at)) text before now = ⊥
Says (Some end.ReadFault) text before now = ⊥

-- a text is said with the ultimatum where there are enough marks
abbrev pub with_leave : Option End → List ℕ → List ℕ
with_leave (Some end.Marks) text = text ++ leave
with_leave other text = text

-- what kept a text from being said, or else what was asked
abbrev pub first_end : Option End → Option End → Option End
first_end None asked = asked
first_end (Some fault) asked = Some fault

pub record SaysThen (asked answer : Option End) (text : List ℕ) (before now : Output) : Type 0 where
  pub said : Option End
  pub says : Says said text before now
  pub answer_is : answer ≡ first_end said asked

-- what is due behind a read was said, with the ultimatum where it belongs; where no memory was left for what was read nothing is
abbrev pub SaysDue : (asked answer : Option End) → List ℕ → (before now : Output) → Type 0
SaysDue (Some end.OutOfMemory) answer text before now = (answer ≡ Some end.OutOfMemory) × (now ≡ before)
SaysDue asked answer text before now = SaysThen asked answer (with_leave asked text) before now

-- what an end comes to
abbrev pub watch_end : End → WatchEnd
watch_end end.Marks = Decided
watch_end end.Farewell = Decided
watch_end end.Closed = Decided
watch_end (end.Refused at) = Decided
watch_end end.ReadFault = Unread
watch_end end.WriteFault = Unsaid
watch_end end.OutOfMemory = Spent

-- the bytes ask for this status, and the look has read them
pub record IsRead (status : ℕ) (v : ViewingOf) (w : Watching) (look : LookOf) : Type 0 where
  pub status_is : status_of v w ≡ status
  pub watching : IsWatching w look
  pub unrefused : look_refusal v.confirmed w ≡ None

-- what the bytes of an end come to
abbrev pub IsEnd : End → ViewingOf → Watching → LookOf → Type 0
IsEnd end.Marks v w look = IsRead 0 v w look
IsEnd end.Farewell v w look = IsRead 36 v w look
IsEnd end.Closed v w look = IsRead 35 v w look
IsEnd (end.Refused at) v w look = (status_of v w ≡ 3) × (look_refusal v.confirmed w ≡ Some at)
IsEnd end.ReadFault v w look = status_of v w ≡ 35
IsEnd end.WriteFault v w look = ⊤
IsEnd end.OutOfMemory v w look = ⊤

-- what was asked after a read, if that ends watching
abbrev pub Asks : Option End → ViewingOf → Watching → LookOf → Type 0
Asks None v w look = IsRead 35 v w look
Asks (Some end.Marks) v w look = IsEnd end.Marks v w look
Asks (Some end.Farewell) v w look = IsEnd end.Farewell v w look
Asks (Some (end.Refused at)) v w look = IsEnd (end.Refused at) v w look
Asks (Some end.OutOfMemory) v w look = ⊤
Asks (Some end.Closed) v w look = ⊥
Asks (Some end.ReadFault) v w look = ⊥
Asks (Some end.WriteFault) v w look = ⊥

-- watching a host has ended so, behind these bytes
pub record EndsBy (e : End) (v : ViewingOf) (read : List ℕ) (x : Watched) (look : LookOf) (before now : Outside) : Type 0 where
  pub is : IsEnd e v x.after look
  pub tells : Tells (watch_end e) v read x before now

-- watching goes on behind these bytes: all that is due was said
pub record GoesFurther (v : ViewingOf) (x : Watched) (look : LookOf) (before now : Outside) : Type 0 where
  pub goes_on : IsRead 35 v x.after look
  pub told : Appends before.output.told now.output.told x.text
  pub reads : now.input.faults ≡ before.input.faults
  pub writes : now.output.faults ≡ before.output.faults

abbrev pub Turns : Option End → ViewingOf → (read : List ℕ) → Watched → LookOf → Outside → Outside → Type 0
Turns None v read x look before now = GoesFurther v x look before now
Turns (Some e) v read x look before now = EndsBy e v read x look before now

-- bytes that say nothing, where a stream stands so
abbrev pub unheard : Watching → Watched
unheard w = record { text = []; after = w }

-- what the bytes of a turn come to where a stream stands so, of which there may be none
abbrev pub IsHeard : ViewingOf → Watching → List ℕ → Watched → Type 0
IsHeard v w read x = (x ≡ watched v.name v.confirmed w read) ⊎ ((read ≡ []) × (x ≡ unheard w))

-- one turn where a stream stands so
pub record WatchesTurn (answer : Option End) (v : ViewingOf) (w : Watching) (look : LookOf) (before now : Outside) : Type 0 where
  pub read : List ℕ
  pub heard : Watched
  pub is_heard : IsHeard v w read heard
  pub reads : Consumes before.input.left now.input.left read
  pub turns : Turns answer v read heard look before now

-- all turns, from the first byte on
pub record WatchesAll (answer : Option End) (v : ViewingOf) (look : LookOf) (before now : Outside) : Type 0 where
  pub read : List ℕ
  pub reads : Consumes before.input.left now.input.left read
  pub turns : Turns answer v read (viewer_handshake v.name v.confirmed read) look before now
