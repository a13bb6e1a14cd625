-- The last word behind what was written before.
use Rattle.std.proofs.Common.{◌≡◌, ◌⊎◌, ℕ, List, [], ◌∷◌, ◌++◌, sym, refl, ap, ◌∙◌, subst, inl, inr, ⊎_elim, append_assoc, append-nil}
use Rattle.std.proofs.KnownBytes.{Appends-trans}
use Rattle.std.specs.Prelude.{Bool, true, false, Result, Ok, Err, IsOk}
use Rattle.std.specs.Io.KnownBytes.{Appends}
use Rattle.edge_io.specs.Faults.{Rose}
use Rattle.serve_rules.specs.declared.ends.ConnEnd.{ConnEnd}
use Rattle.serve_rules.specs.declared.ends.ConnEnd.TheVariants.{Left, Refused, Truncated, NotInvited, RoomFull, JoinsSpent, ReadFault, WriteFault, NotStored, OutOfMemory}
use Rattle.viewer_run.specs.Greeting.{Replies}
use Rattle.viewer_run.specs.Ending.{ultimatum_at}
use Rattle.edge_io.specs.Outside.{Output, Outside}
use Rattle.viewer_run.specs.LastWords.{is_cut, IsAtMostOne, IsWordAt, IsLastWord, Writes, end_after, SaysLast}

-- at most one ultimatum is due
at_most_one : (end : ConnEnd) (asked : Bool) → IsAtMostOne (ultimatum_at end asked)
at_most_one Left true = inr (inr refl)
at_most_one Left false = inl refl
at_most_one (Refused k at) asked = inr (inl refl)
at_most_one Truncated asked = inl refl
at_most_one NotInvited asked = inr (inl refl)
at_most_one RoomFull asked = inr (inl refl)
at_most_one JoinsSpent asked = inr (inl refl)
at_most_one ReadFault asked = inl refl
at_most_one WriteFault asked = inl refl
at_most_one NotStored asked = inl refl
at_most_one OutOfMemory asked = inl refl

-- none where what was written may have been cut
cut_quiet : (end : ConnEnd) (asked : Bool) → is_cut end ≡ true → ultimatum_at end asked ≡ []
cut_quiet Left asked e = absurd (cc e)
cut_quiet (Refused k at) asked e = absurd (cc e)
cut_quiet Truncated asked e = absurd (cc e)
cut_quiet NotInvited asked e = absurd (cc e)
cut_quiet RoomFull asked e = absurd (cc e)
cut_quiet JoinsSpent asked e = absurd (cc e)
cut_quiet ReadFault asked e = absurd (cc e)
cut_quiet WriteFault asked e = refl
cut_quiet NotStored asked e = refl
cut_quiet OutOfMemory asked e = refl

word_at : (b : Bool) (end : ConnEnd) (asked : Bool) → IsWordAt b end asked (ultimatum_at end asked)
word_at true end asked = at_most_one end asked
word_at false end asked = refl

-- whether the client has asked for the end matters only where what was written isn't cut
pub word_of : (b : Bool) (end : ConnEnd) (asked other : Bool) (word : List ℕ) → (b ≡ false → asked ≡ other) → IsWordAt b end asked word → IsWordAt b end other word
word_of true end asked other word same is = is
word_of false end asked other word same is = is ∙ ap (ultimatum_at end) (same refl)

-- the word was due, and writing it met another end
pub record IsCutShort (end : ConnEnd) (asked : Bool) (said : ConnEnd) (before now : Output) : Type 0 where
  pub due : ultimatum_at end asked ≡ [] → ⊥
  pub how : ((said ≡ WriteFault) × Rose before.faults now.faults) ⊎ (said ≡ OutOfMemory)

-- the last word that was said, or a front of it
pub record Said (end : ConnEnd) (asked : Bool) (said : ConnEnd) (before now : Output) : Type 0 where
  pub written : List ℕ
  pub unwritten : List ℕ
  pub whole : ultimatum_at end asked ≡ written ++ unwritten
  pub told : Appends before.told now.told written
  pub all : is_cut said ≡ false → unwritten ≡ []
  pub word : IsLastWord said asked (ultimatum_at end asked)
  pub stays : ((said ≡ end) × (now.faults ≡ before.faults)) ⊎ IsCutShort end asked said before now

not_free : (b : Bool) → b ≡ true → b ≡ false → ⊥
not_free true e f = absurd (cc f)
not_free false e f = absurd (cc e)

said_by : (end : ConnEnd) (asked : Bool) (said : ConnEnd) (o o' : Output) (result : Result (Unit {0}) ConnEnd)
    → Replies (ultimatum_at end asked) o o' result → (ultimatum_at end asked ≡ [] → IsOk result) → said ≡ end_after end result → Said end asked said o o'
said_by end asked said o o' (Ok done) r quiet e = record {
  written = ultimatum_at end asked;
  unwritten = [];
  whole = sym (append-nil (ultimatum_at end asked));
  told = r.0;
  all = λ free. refl;
  word = subst (λ (x : ConnEnd). IsLastWord x asked (ultimatum_at end asked)) (sym e) (word_at (is_cut end) end asked);
  stays = inl (e, r.1);
}
said_by end asked said o o' (Err Left) r quiet e = absurd r
said_by end asked said o o' (Err (Refused k at)) r quiet e = absurd r
said_by end asked said o o' (Err Truncated) r quiet e = absurd r
said_by end asked said o o' (Err NotInvited) r quiet e = absurd r
said_by end asked said o o' (Err RoomFull) r quiet e = absurd r
said_by end asked said o o' (Err JoinsSpent) r quiet e = absurd r
said_by end asked said o o' (Err ReadFault) r quiet e = absurd r
said_by end asked said o o' (Err WriteFault) r quiet e = record {
  written = r.0.front;
  unwritten = r.0.rest;
  whole = r.0.whole;
  told = r.0.written;
  all = λ free. absurd (not_free (is_cut said) (ap is_cut e) free);
  word = subst (λ (x : ConnEnd). IsLastWord x asked (ultimatum_at end asked)) (sym e) (at_most_one end asked);
  stays = inr (record { due = λ none. cc (quiet none); how = inl (e, r.1) });
}
said_by end asked said o o' (Err NotStored) r quiet e = absurd r
said_by end asked said o o' (Err OutOfMemory) r quiet e = record {
  written = r.0.front;
  unwritten = r.0.rest;
  whole = r.0.whole;
  told = r.0.written;
  all = λ free. absurd (not_free (is_cut said) (ap is_cut e) free);
  word = subst (λ (x : ConnEnd). IsLastWord x asked (ultimatum_at end asked)) (sym e) (at_most_one end asked);
  stays = inr (record { due = λ none. cc (quiet none); how = inr e });
}

pub said_last : (end : ConnEnd) (asked : Bool) (said : ConnEnd) (o o' : Output) → SaysLast end asked said o o' → Said end asked said o o'
said_last end asked said o o' s = said_by end asked said o o' s.0 s.1 s.2 s.3

cut_by : (said : ConnEnd) → ((said ≡ WriteFault) ⊎ (said ≡ OutOfMemory)) → is_cut said ≡ false → ⊥
cut_by said how free = ⊎_elim (λ w. not_free (is_cut said) (ap is_cut w) free) (λ m. not_free (is_cut said) (ap is_cut m) free) how

-- what isn't cut behind the last word wasn't cut before it
pub uncut_before : (end : ConnEnd) (asked : Bool) (said : ConnEnd) (o o' : Output) → Said end asked said o o' → is_cut said ≡ false → said ≡ end
uncut_before end asked said o o' s free =
    ⊎_elim (λ (l : (said ≡ end) × (o'.faults ≡ o.faults)). l.0)
    (λ (r : IsCutShort end asked said o o'). absurd (cut_by said (⊎_elim (λ w. inl w.0) (λ m. inr m) r.how) free)) s.stays

none_first : (xs ys : List ℕ) → [] ≡ xs ++ ys → xs ≡ []
none_first [] ys e = refl
none_first (x ∷ xs) ys e = absurd (cc e)

-- what was written before, or a front of it, and then the last word
pub writes_said : (end : ConnEnd) (asked : Bool) (said : ConnEnd) (bytes w u : List ℕ) (link spent : Outside) (mid : Output) → bytes ≡ w ++ u
    → Appends link.output.told mid.told w → (is_cut end ≡ false → u ≡ []) → Said end asked said mid spent.output → Writes said (bytes ++ ultimatum_at end asked) link spent
writes_said end asked said bytes w u link spent mid whole told all s = by (is_cut end) refl
  where
    word : List ℕ
    word = ultimatum_at end asked

    by : (b : Bool) → is_cut end ≡ b → Writes said (bytes ++ ultimatum_at end asked) link spent
    by false e =
        let first : bytes ≡ w = whole ∙ (ap (λ l. w ++ l) (all e) ∙ append-nil w) in record {
          written = w ++ s.written;
          unwritten = s.unwritten;
          whole = ap (λ l. l ++ ultimatum_at end asked) first ∙ (ap (λ l. w ++ l) s.whole ∙ sym (append_assoc w s.written s.unwritten));
          told = Appends-trans link.output.told mid.told spent.output.told w s.written told s.told;
          all = s.all;
        }
    by true e =
        let none : ultimatum_at end asked ≡ [] = cut_quiet end asked e in
        let no_more : s.written ≡ [] = none_first s.written s.unwritten (sym none ∙ s.whole) in record {
          written = w ++ s.written;
          unwritten = u;
          whole = ap (λ l. bytes ++ l) none ∙ (append-nil bytes ∙ (whole ∙ ap (λ l. l ++ u) (sym (ap (λ l. w ++ l) no_more ∙ append-nil w))));
          told = Appends-trans link.output.told mid.told spent.output.told w s.written told s.told;
          all = λ free. absurd (not_free (is_cut said) (ap is_cut (uncut_before end asked said mid spent.output s free) ∙ e) free);
        }

-- the last word is begun only where all before it was written
pub whole_or_still : (end : ConnEnd) (asked : Bool) (said : ConnEnd) (u : List ℕ) (o o' : Output) → (is_cut end ≡ false → u ≡ [])
    → (s : Said end asked said o o') → (u ≡ []) ⊎ (s.written ≡ [])
whole_or_still end asked said u o o' all s = by (is_cut end) refl
  where
    by : (b : Bool) → is_cut end ≡ b → (u ≡ []) ⊎ (s.written ≡ [])
    by false e = inl (all e)
    by true e = inr (none_first s.written s.unwritten (sym (cut_quiet end asked e) ∙ s.whole))
