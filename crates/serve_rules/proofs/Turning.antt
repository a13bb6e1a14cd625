-- A turn, and an event that is handled in one.
use Rattle.std.proofs.Common.{◌≡◌, ◌-◌, List, [], ◌∷◌, ◌++◌, length, ap, ap₂, ◌∙◌, arith, length-append}
use Rattle.std.specs.List.{range_with_len}
use Rattle.session_rules.specs.declared.entry.Entry.{Entry}
use Rattle.grow_lock.specs.Journal.{StartsWith, added_places}
use Rattle.serve_rules.specs.Turns.{SessionPass, IsTurn}

-- what the lock says of a turn: of its start, and of its end with this journal
pub record TurnFacts (before mid after : SessionPass) (base new : List Entry) : Type 0 where
  pub goes_on : StartsWith base before.seen
  pub found : mid.found ≡ before.found ++ length base ∷ []
  pub mine : mid.mine ≡ before.mine
  pub share : mid.share ≡ before.share
  pub seen_after : after.seen ≡ new
  pub found_after : after.found ≡ mid.found
  pub mine_after : after.mine ≡ mid.mine ++ added_places base new
  pub share_after : after.share ≡ mid.share

-- a turn in which some entries were appended
pub turned : (before mid after : SessionPass) (base added new : List Entry) → TurnFacts before mid after base new → new ≡ base ++ added → IsTurn before after base added
turned before mid after base added new f is =
    let gained : length new - length base ≡ length added = omega (arith, ap length is, length-append base added) in
    record {
      goes_on = f.goes_on;
      seen = f.seen_after ∙ is;
      found = f.found_after ∙ f.found;
      mine = f.mine_after ∙ ap₂ ◌++◌ f.mine (ap (λ n. range_with_len (length base) n) gained);
      share = f.share_after ∙ f.share;
    }
