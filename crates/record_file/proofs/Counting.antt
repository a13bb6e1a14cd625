-- What is told of a session that has begun, and of one with one more entry.
use Rattle.std.proofs.Common.{◌≡◌, ℕ, ◌+◌, ◌*◌, ◌^◌, ◌<◌, ◌≤◌, List, [], ◌∷◌, ◌++◌, length, ap, sym, ◌∙◌, arith, Some, None, true}
use Rattle.std.proofs.lemmas.List.{length-append}
use Rattle.px_core.specs.Rectangle.{is_session_size}
use Rattle.session_rules.specs.declared.entry.Entry.{Entry}
use Rattle.session_rules.specs.Journal.{Head, IsLegalJournal}
use Rattle.record_file.specs.declared.told.Told.{Told}
use Rattle.record_file.specs.declared.playing.Playing.{Playing}
use Rattle.record_file.specs.Replaying.{picture_of}
use Rattle.record_file.specs.Told.{told_picture, HasCounted}
use Rattle.record_file.specs.Standing.{IsKept}
use Rattle.record_file.proofs.Kept.{picture_first, picture_next, few_entries}

pub first_kept : (p : Playing) (before after : Told) → IsLegalJournal p.session.head p.session.journal → p.session.journal ≡ [] → before.size ≡ Some p.session.head.size → told_picture before ≡ None
    → HasCounted p.session before after → after.stop ≡ before.stop → IsKept p after
first_kept p before after legal none size picture h stop = record {
  legal = legal;
  size = h.size ∙ size;
  length = h.length;
  picture = h.picture ∙ picture_first p.session before.stop (told_picture before) none picture ∙ ap (picture_of (Some p.session.head) p.session.journal) (sym stop);
}

pub next_kept : (p q : Playing) (e : Entry) (before after : Told) → IsKept p before → q.session.head ≡ p.session.head → q.session.journal ≡ p.session.journal ++ e ∷ []
    → IsLegalJournal q.session.head q.session.journal → HasCounted q.session before after → after.stop ≡ before.stop → IsKept q after
next_kept p q e before after k head journal legal h stop = record {
  legal = legal;
  size = h.size ∙ k.size ∙ ap (λ (x : Head). Some x.size) (sym head);
  length = h.length;
  picture = h.picture ∙ picture_next q.session p.session.head p.session.journal e before.stop (told_picture before) head journal k.picture
      ∙ ap (picture_of (Some q.session.head) q.session.journal) (sym stop);
}

-- a place within a legal journal's record, and behind one more entry
pub place_within : (head : Head) (j : List Entry) (place more : ℕ) → is_session_size head.size.w head.size.h ≡ true → IsLegalJournal head j → place ≤ 2 ^ 63 + 65537 * length j → more ≤ 65537 → place + more < 2 ^ 64
place_within head j place more size legal h few = let n = few_entries head j size legal in omega (arith, h, few, n)

pub place_behind : (head : Head) (i j : List Entry) (e : Entry) (place used : ℕ) → is_session_size head.size.w head.size.h ≡ true → IsLegalJournal head j → j ≡ i ++ e ∷ [] → place ≤ 2 ^ 63 + 65537 * length i → used ≤ 65537
    → (place + used ≤ 2 ^ 63 + 65537 * length j) × (place + used < 2 ^ 64)
place_behind head i j e place used size legal is h few =
    let n = few_entries head j size legal in
    let l = ap length is ∙ length-append i (e ∷ []) in
    (omega (arith, h, few, l), omega (arith, h, few, l, n))
