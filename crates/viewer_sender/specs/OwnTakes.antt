-- Takes that a viewer's sender may encode: those of some legal journal for a viewer that confirmed the same.
use Rattle.std.specs.Prelude.{◌≡◌, ◌≤◌, true, List, ⊤}
use Rattle.px_core.specs.Rectangle.{is_session_size}
use Rattle.caps_sets.specs.declared.confirmed.Confirmed.{Confirmed}
use Rattle.session_rules.specs.declared.entry.Entry.{Entry}
use Rattle.session_rules.specs.Journal.{Head, IsLegalJournal}
use Rattle.session_rules.specs.Steps.{TakeOf}
use Rattle.save_plan.specs.Blocks.{Held, AreApart}
use Rattle.frame_rules.specs.Frame.{frame_of}
use Rattle.frame_rules.specs.Describes.{HasAllCaches}
use Rattle.frame_plan.specs.Takes.{TakeModel, taken_as}
use Rattle.frame_plan.specs.Orders.{all_cached}
use Rattle.frame_plan.specs.declared.taken.Taken.{Taken}
use Rattle.frame_plan.specs.declared.taken.Taken.TheVariants.{Frame, Nothing}

-- a take that holds a frame of a legal journal, for a viewer that confirmed this
pub record IsOwnTake (c : Confirmed) (take : TakeModel) : Type 0 where
  pub head : Head
  pub journal : List Entry
  pub held : Held
  pub found : TakeOf
  pub sized : is_session_size head.size.w head.size.h ≡ true
  pub all : HasAllCaches c
  pub legal : IsLegalJournal head journal
  pub up : found.before ≤ found.number
  pub apart : AreApart held
  pub size_is : take.size ≡ head.size
  pub frame_is : take.frame ≡ taken_as head.size (frame_of head.size c journal held found)
  pub cached_are : take.cached ≡ all_cached c take.frame.sent

-- what a take gives: a frame is one of the viewer's own
abbrev pub IsOwn : Confirmed → Taken → Type 0
IsOwn c (Frame take) = IsOwnTake c take
IsOwn c Nothing = ⊤
