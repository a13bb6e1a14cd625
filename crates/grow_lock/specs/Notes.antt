-- What a seat at the lock's table knows, and how that is cut in two and made one.
use Rattle.std.specs.Prelude.{List, [], ◌++◌, Option, None, Bool, true, false}
use Rattle.grow_lock.specs.Journal.{longer}
use Rattle.grow_lock.specs.declared.notes.Notes.{Notes}
use Rattle.grow_lock.specs.Shares.{Share, nothing, left_half, right_half, both}
use Rattle.grow_lock.specs.declared.notes.Stage.{Stage}
use Rattle.grow_lock.specs.declared.notes.Stage.TheVariants.{Out, Taken, Measured, Published, Joined}

-- whether a seat at this stage is in turn
abbrev pub is_in_turn : {E : Type 0} → Stage E → Bool
is_in_turn Out = false
is_in_turn (Taken base) = true
is_in_turn (Measured base) = true
is_in_turn Published = true
is_in_turn (Joined seen other_seen mine other_mine) = false

-- the list that the turn found, until it is published
abbrev pub base_of : {E : Type 0} → Stage E → List E
base_of Out = []
base_of (Taken base) = base
base_of (Measured base) = base
base_of Published = []
base_of (Joined seen other_seen mine other_mine) = []

module _ {H E : Type 0} where
  -- a seat that has seen this list, was never in turn, and has this share
  abbrev pub fresh_notes : Option H → List E → Share → Notes H E
  fresh_notes head seen share = record { head = head; stage = Out; seen = seen; found = []; mine = []; part = record { share = share } }

  -- the seat that a further one is split off from: it has the left half of its share
  abbrev pub kept_notes : Notes H E → Notes H E
  kept_notes notes = record notes { part = record { share = left_half notes.part.share } }

  -- the further seat that is split off: it has seen the same, and has the right half of the share
  abbrev pub split_notes : Notes H E → Notes H E
  split_notes notes = fresh_notes notes.head notes.seen (right_half notes.part.share)

  -- the seat that takes in another: the longer `seen`, and the turns and the shares of both
  abbrev pub joined_notes : Notes H E → Notes H E → Notes H E
  joined_notes notes other = record {
    head = notes.head;
    stage = Joined notes.seen other.seen notes.mine other.mine;
    seen = longer notes.seen other.seen;
    found = notes.found ++ other.found;
    mine = notes.mine ++ other.mine;
    part = record { share = both notes.part.share other.part.share };
  }

  -- the seat that was taken in
  abbrev pub spent_notes : Notes H E
  spent_notes = fresh_notes None [] nothing
