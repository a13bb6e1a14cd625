-- The marks of a session: those of its first entry, of one more, and what they tell.
use Rattle.std.proofs.Common.{◌≡◌, ℕ, zero, suc, ◌+◌, ◌≤◌, ◌<◌, List, [], ◌∷◌, ◌++◌, length, take, refl, ap, sym, subst, ◌∙◌, None, arith}
use Rattle.std.specs.Prelude.{Bool, true, false, ◌||◌, nat_lt, All, replicate, slice_index_or, if◌then◌else◌}
use Rattle.std.proofs.lemmas.Bool.{le-ltb}
use Rattle.px_core.specs.declared.surface.Size.{Size}
use Rattle.px_core.specs.Rectangle.{clipped}
use Rattle.px_core.specs.Tiles.{Tiles, either_tiles, tiles_of, tile_rect}
use Rattle.draw_ops.specs.declared.shape.Drawing.{Drawing}
use Rattle.draw_ops.specs.Slots.{SurfaceState}
use Rattle.draw_ops.specs.Drawing.{state_after_drawing}
use Rattle.draw_ops.specs.Fits.{AllFitState, broken_rule}
use Rattle.session_rules.specs.declared.entry.Entry.{Entry}
use Rattle.session_rules.specs.Journal.{Head, drawings_of}
use Rattle.session_rules.specs.Pending.{Pending, pending_drawings, pending_between}
use Rattle.session_core.specs.Touching.{touched_by, saves_into, saved_by}
use Rattle.session_core.specs.Marking.{Marked, unmarked, marks_in, noted, past, AreNoted, AreMarked}
use Rattle.session_core.proofs.Adding.{touched_on}
use Rattle.session_core.proofs.Entries.{touched_append, saved_append, drawings_behind, pending_end, marked_push, none_noted}
use Rattle.session_core.specs.declared.shown.Shown.{Shown}
use Rattle.session_core.specs.Showing.{all_shown, rect_shown, shown_with}
use Rattle.session_core.proofs.TextShown.{keeps_rules}
use Rattle.session_core.specs.declared.standing.Standing.{Standing}
use Rattle.session_core.specs.declared.kept.Kept.{Kept}
use Rattle.session_core.specs.Keeping.{journal_of}
use Rattle.session_core.specs.Standing.{reached_of, IsSession}
use Rattle.session_core.specs.SessionModel.{SessionModel}
use Rattle.session_core.proofs.Sessions.{journal_push, model_of}
use Rattle.session_core.proofs.Counted.{length_journal}

-- ---- drawing by drawing

shown_more : (ds : List Drawing) (ss : List Shown) (i : ℕ) (d : Drawing) (s : Shown) → i < length ds → length ds ≤ length ss → d ≡ slice_index_or ds i d → s ≡ slice_index_or ss i s
    → all_shown (take (i + 1) ds) (take (i + 1) ss) ≡ all_shown (take i ds) (take i ss) ++ shown_with d s ∷ []
shown_more [] ss i d s low few dis sis = absurd (omega (arith, low))
shown_more (x ∷ xs) [] i d s low few dis sis = absurd (omega (arith, few))
shown_more (x ∷ xs) (y ∷ ys) zero d s low few dis sis = λ i. shown_with (sym dis i) (sym sis i) ∷ []
shown_more (x ∷ xs) (y ∷ ys) (suc i) d s low few dis sis = let one : suc i + 1 ≡ suc (i + 1) = omega arith in rw one (ap (λ ps. shown_with x y ∷ ps) (shown_more xs ys i d s (omega (arith, low)) (omega (arith, few)) dis sis))

pub shown_end : (ds : List Drawing) (ss : List Shown) (i : ℕ) → length ds ≤ i → length ds ≤ length ss → all_shown (take i ds) (take i ss) ≡ all_shown ds ss
shown_end [] ss zero h few = refl
shown_end [] ss (suc i) h few = refl
shown_end (d ∷ ds) [] i h few = absurd (omega (arith, few))
shown_end (d ∷ ds) (s ∷ ss) zero h few = absurd (omega (arith, h))
shown_end (d ∷ ds) (s ∷ ss) (suc i) h few = ap (λ ps. shown_with d s ∷ ps) (shown_end ds ss i (omega (arith, h)) (omega (arith, few)))

twice : (b r : Bool) (n o : ℕ) → (if r then n else (if b then n else o)) ≡ (if b || (r || false) then n else o)
twice true true n o = refl
twice true false n o = refl
twice false true n o = refl
twice false false n o = refl

-- one more drawing is noted
pub noted_on : (size : Size) (ps : List Pending) (p : Pending) (number : ℕ) (old mid new : Marked) → AreNoted size ps number old mid
    → marks_in new.tiles ≡ noted (tiles_of size (clipped p.rect p.drawing.clip)) number (marks_in mid.tiles) → marks_in new.slots ≡ noted (saves_into p.drawing.shape) number (marks_in mid.slots)
    → AreNoted size (ps ++ p ∷ []) number old new
noted_on size ps p number old mid new h tiles slots = record {
  tiles = tiles ∙ (λ i t. tile t i);
  slots = slots ∙ (λ i t. slot t i);
}
  where
    tile : (t : ℕ) → noted (tiles_of size (clipped p.rect p.drawing.clip)) number (marks_in mid.tiles) t ≡ noted (touched_by size (ps ++ p ∷ [])) number (marks_in old.tiles) t
    tile t = ap (λ n. if tiles_of size (clipped p.rect p.drawing.clip) t then number else n) (ap (λ f. f t) h.tiles)
        ∙ (twice (touched_by size ps t) (tiles_of size (clipped p.rect p.drawing.clip) t) number (marks_in old.tiles t)
        ∙ ap (λ b. if b then number else marks_in old.tiles t) (sym (touched_append size ps (p ∷ []) t)))

    slot : (t : ℕ) → noted (saves_into p.drawing.shape) number (marks_in mid.slots) t ≡ noted (saved_by (ps ++ p ∷ [])) number (marks_in old.slots) t
    slot t = ap (λ n. if saves_into p.drawing.shape t then number else n) (ap (λ f. f t) h.slots)
        ∙ (twice (saved_by ps t) (saves_into p.drawing.shape t) number (marks_in old.slots t)
        ∙ ap (λ b. if b then number else marks_in old.slots t) (sym (saved_append ps (p ∷ []) t)))

pub noted_more : (size : Size) (ds : List Drawing) (ss : List Shown) (i : ℕ) (d : Drawing) (s : Shown) (number : ℕ) (old mid new : Marked)
    → i < length ds → length ds ≤ length ss → d ≡ slice_index_or ds i d → s ≡ slice_index_or ss i s → AreNoted size (all_shown (take i ds) (take i ss)) number old mid
    → marks_in new.tiles ≡ noted (tiles_of size (clipped (rect_shown d.shape s) d.clip)) number (marks_in mid.tiles) → marks_in new.slots ≡ noted (saves_into d.shape) number (marks_in mid.slots)
    → AreNoted size (all_shown (take (i + 1) ds) (take (i + 1) ss)) number old new
noted_more size ds ss i d s number old mid new low few dis sis h tiles slots =
    subst (λ ps. AreNoted size ps number old new) (sym (shown_more ds ss i d s low few dis sis)) (noted_on size (all_shown (take i ds) (take i ss)) (shown_with d s) number old mid new h tiles slots)

-- drawings that fit keep the rules
pub all_keep : (size : Size) (st : SurfaceState) (ds : List Drawing) → AllFitState size st ds → All (λ d. broken_rule size d ≡ None) ds
all_keep size st [] h k d low = absurd (omega (arith, low))
all_keep size st (x ∷ xs) h zero d low = keeps_rules size st x h.0
all_keep size st (x ∷ xs) h (suc k) d low = all_keep size (state_after_drawing size st x) xs h.1 k d (omega (arith, low))

-- ---- entry by entry

-- the marks of a session whose journal has one more entry
pub marked_on : (head : Head) (s : Standing) (ks : List Kept) (k : Kept) (old new : Marked) (ps : List Pending) (number : ℕ) → IsSession head s ks → AreMarked head.size (journal_of ks) old
    → pending_drawings head.size (reached_of s (length ks)).state.surface (drawings_of head.size (reached_of s (length ks)).state.board k.entry) ≡ ps → number ≡ length ks + 1
    → AreNoted head.size ps number old new → AreMarked head.size (journal_of (ks ++ k ∷ [])) new
marked_on head s ks k old new ps number h marked pending count more =
    rw (journal_push ks k) (marked_push head.size (journal_of ks) k.entry old new marked
    (subst (λ (n : ℕ). AreNoted head.size (drawings_behind head.size (journal_of ks) k.entry) n old new) (count ∙ ap (λ n. n + 1) (sym (length_journal ks)))
    (subst (λ qs. AreNoted head.size qs number old new) (sym here) more)))
  where
    here : drawings_behind head.size (journal_of ks) k.entry ≡ ps
    here = ap (λ r. pending_drawings head.size r.state.surface (drawings_of head.size r.state.board k.entry)) (sym h.reached) ∙ pending

-- an entry without drawings changes no mark
pub marked_same : (head : Head) (s : Standing) (ks : List Kept) (k : Kept) (m : Marked) → IsSession head s ks → AreMarked head.size (journal_of ks) m
    → drawings_of head.size (reached_of s (length ks)).state.board k.entry ≡ [] → AreMarked head.size (journal_of (ks ++ k ∷ [])) m
marked_same head s ks k m h marked none = marked_on head s ks k m m [] (length ks + 1) h marked
    (ap (pending_drawings head.size (reached_of s (length ks)).state.surface) none) refl (none_noted head.size (length ks + 1) m)

unmarked_in : (n t : ℕ) → marks_in (replicate n 0) t ≡ 0
unmarked_in zero t = refl
unmarked_in (suc n) zero = refl
unmarked_in (suc n) (suc t) = unmarked_in n t

pub not_past : (before n : ℕ) → n ≡ 0 → false ≡ nat_lt before n
not_past before n e = sym (ap (nat_lt before) e ∙ le-ltb before 0 (omega arith))

-- an empty journal's marks
pub marked_first : (size : Size) → AreMarked size [] unmarked
marked_first size = record {
  tiles = λ before tile most. ap (λ ps. touched_by size ps tile) (pending_end size [] before (omega arith)) ∙ not_past before _ (unmarked_in 1024 tile);
  slots = λ before slot most. ap (λ ps. saved_by ps slot) (pending_end size [] before (omega arith)) ∙ not_past before _ (unmarked_in 16 slot);
}

-- ---- what the marks tell

-- the tiles that are marked behind a front lie on the picture
pub marked_on_picture : (size : Size) (j : List Entry) (m : Marked) (before : ℕ) → AreMarked size j m → before ≤ length j → (tile : ℕ) → past before m.tiles tile ≡ true
    → tiles_of size (tile_rect tile) tile ≡ true
marked_on_picture size j m before h most tile is = touched_on size (pending_between size j before (length j)) tile (h.tiles before tile most ∙ is)

pub marked_tiles : (size : Size) (j : List Entry) (m : Marked) (before : ℕ) (old new : Tiles) → AreMarked size j m → before ≤ length j → new ≡ either_tiles old (past before m.tiles)
    → new ≡ either_tiles old (touched_by size (pending_between size j before (length j)))
marked_tiles size j m before old new h most e = e ∙ (λ i t. old t || sym (h.tiles before t most) i)

-- likewise of a session as contracts see it
pub added_touched : (head : Head) (s : Standing) (ks : List Kept) (now : SessionModel) (m : Marked) (before : ℕ) (old new : Tiles) → model_of head s ks ≡ now → AreMarked head.size (journal_of ks) m
    → before ≤ length (journal_of ks) → new ≡ either_tiles old (past before m.tiles) → new ≡ either_tiles old (touched_by now.head.size (pending_between now.head.size now.journal before (length now.journal)))
added_touched head s ks now m before old new is h most e =
    subst (λ (v : SessionModel). new ≡ either_tiles old (touched_by v.head.size (pending_between v.head.size v.journal before (length v.journal)))) is
    (marked_tiles head.size (journal_of ks) m before old new h most e)

pub is_saved : (head : Head) (s : Standing) (ks : List Kept) (now : SessionModel) (m : Marked) (before slot : ℕ) (b : Bool) → model_of head s ks ≡ now → AreMarked head.size (journal_of ks) m
    → before ≤ length (journal_of ks) → b ≡ past before m.slots slot → b ≡ saved_by (pending_between now.head.size now.journal before (length now.journal)) slot
is_saved head s ks now m before slot b is h most e =
    subst (λ (v : SessionModel). b ≡ saved_by (pending_between v.head.size v.journal before (length v.journal)) slot) is (e ∙ sym (h.slots before slot most))

-- what is noted, of lists that are the same
pub noted_as : (size z : Size) (ds es : List Drawing) (ss ts : List Shown) (number : ℕ) (old new : Marked) → z ≡ size → ds ≡ es → ss ≡ ts → AreNoted z (all_shown ds ss) number old new
    → AreNoted size (all_shown es ts) number old new
noted_as size z ds es ss ts number old new sized drawn shown h = subst (λ (y : Size). AreNoted y (all_shown es ts) number old new) sized
    (subst (λ (qs : List Drawing). AreNoted z (all_shown qs ts) number old new) drawn (subst (λ (us : List Shown). AreNoted z (all_shown ds us) number old new) shown h))
