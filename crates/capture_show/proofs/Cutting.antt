-- Lines that were cut from what a source gave.
use Rattle.std.proofs.Common.{◌≡◌, ℕ, suc, ◌+◌, ◌<◌, Bool, true, false, List, [], ◌∷◌, ◌++◌, length, take, drop, Some, None, sym, ap, ◌∙◌, arith, append_assoc, append-nil, position}
use Rattle.std.specs.declared.option.Option.{Option}
use Rattle.std.specs.Io.KnownBytes.{Keeps, Consumes, IsAtEnd, prepend_known}
use Rattle.line_text.specs.Lines.{Line, lines_of}
use Rattle.edge_io.specs.Reading.{TakesLine}
use Rattle.capture_show.specs.Long.{HasNoFeed, LosesFront}
use Rattle.edge_io.proofs.LineLemmas.{is_feed, IsPlain, FeedAt, feed_found, feed_missing, line_ended, line_unended}

plain_append : (xs ys : List ℕ) → IsPlain xs → IsPlain ys → IsPlain (xs ++ ys)
plain_append [] ys px py = py
plain_append (x ∷ xs) ys px py = (px.0, plain_append xs ys px.1 py)

abbrev line : List ℕ → Bool → Line
line text ended = record { text = text; ended = ended }

cut_line : (text unread left bytes : List ℕ) (n : ℕ) → (text ++ unread) ++ left ≡ bytes → IsPlain text → Some n ≡ position is_feed unread →
    TakesLine (Some bytes) (Some (drop (n + 1) unread ++ left)) (line (text ++ take n unread) true)
cut_line text unread left bytes n keeps plain found =
    let feed : FeedAt unread 0 n = feed_found unread n found in
    let place : feed.place ≡ n = omega (arith, feed.is_place) in
    let front : IsPlain (take n unread) = rw place at feed.plain in
    let next : suc n ≡ n + 1 = omega arith in
    let cut : unread ≡ take n unread ++ 10 ∷ drop (n + 1) unread = feed.cut ∙ ap (λ k. take k unread ++ 10 ∷ drop (suc k) unread) place ∙ ap (λ k. take n unread ++ 10 ∷ drop k unread) next in
    let w = text ++ take n unread in
    let rest = drop (n + 1) unread ++ left in
    let whole : bytes ≡ w ++ 10 ∷ rest =
    sym keeps ∙ ap (λ u. (text ++ u) ++ left) cut ∙ append_assoc text (take n unread ++ 10 ∷ drop (n + 1) unread) left
    ∙ ap (λ u. text ++ u) (append_assoc (take n unread) (10 ∷ drop (n + 1) unread) left) ∙ sym (append_assoc text (take n unread) (10 ∷ rest)) in
    record {
      consumes = whole ∙ sym (append_assoc w (10 ∷ []) rest);
      hands_out = ap lines_of whole ∙ line_ended w rest (plain_append text (take n unread) plain front);
    }

-- a line that was ended
pub takes_ended : (before left : Option (List ℕ)) (text unread new_text new_unread : List ℕ) (n : ℕ) → Keeps before (prepend_known (text ++ unread) left) → IsPlain text →
    Some n ≡ position is_feed unread → new_text ≡ text ++ take n unread → new_unread ≡ drop (n + 1) unread →
    TakesLine before (prepend_known new_unread left) (record { text = new_text; ended = true })
takes_ended None left text unread new_text new_unread n keeps plain found is rest = record { consumes = tt; hands_out = tt }
takes_ended (Some bytes) None text unread new_text new_unread n keeps plain found is rest = absurd keeps
takes_ended (Some bytes) (Some left) text unread new_text new_unread n keeps plain found is rest =
    rw (is, rest) (cut_line text unread left bytes n keeps plain found)

last_line : (text bytes : List ℕ) → text ++ [] ≡ bytes → IsPlain text → 0 < length text → TakesLine (Some bytes) (Some []) (line text false)
last_line text bytes keeps plain some =
    let whole : bytes ≡ text = sym keeps ∙ append-nil text in
    record {
      consumes = whole ∙ sym (append-nil text) ∙ sym (append-nil (text ++ []));
      hands_out = ap lines_of whole ∙ line_unended text some plain;
    }

-- nothing was left
pub end_is : (before left rest : Option (List ℕ)) (text : List ℕ) → Keeps before (prepend_known text left) → IsAtEnd left → Keeps left rest →
    length text ≡ 0 → IsAtEnd before × Keeps before rest
end_is None left rest text keeps end same empty = (tt, tt)
end_is (Some bytes) None rest text keeps end same empty = absurd keeps
end_is (Some bytes) (Some left) rest (b ∷ text) keeps end same empty = absurd (omega (arith, empty))
end_is (Some bytes) (Some left) None [] keeps end same empty = absurd same
end_is (Some bytes) (Some left) (Some rest) [] keeps end same empty = (sym keeps ∙ end, same ∙ keeps)

-- a last line that none ended
pub takes_unended : (before left rest : Option (List ℕ)) (text unread : List ℕ) → Keeps before (prepend_known text left) → IsAtEnd left → Keeps left rest →
    unread ≡ [] → IsPlain text → 0 < length text → TakesLine before (prepend_known unread rest) (record { text = text; ended = false })
takes_unended None left rest text unread keeps end same none plain some = record { consumes = tt; hands_out = tt }
takes_unended (Some bytes) None rest text unread keeps end same none plain some = absurd keeps
takes_unended (Some bytes) (Some left) None text unread keeps end same none plain some = absurd same
takes_unended (Some bytes) (Some left) (Some rest) text unread keeps end same none plain some =
    let all : text ++ [] ≡ bytes = rw end at keeps in
    let nothing : rest ≡ [] = same ∙ end in
    rw (none, nothing) (last_line text bytes all plain some)

-- the text with all that was read is plain
pub plain_all : (text unread : List ℕ) → IsPlain text → None ≡ position is_feed unread → IsPlain (text ++ unread)
plain_all text unread plain none = plain_append text unread plain (feed_missing unread none)

-- bytes that were read behind the text
pub keeps_more : (before left rest : Option (List ℕ)) (text unread : List ℕ) → Keeps before (prepend_known text left) → Keeps left (prepend_known unread rest) →
    Keeps before (prepend_known (text ++ unread) rest)
keeps_more None left rest text unread keeps kept = tt
keeps_more (Some bytes) None rest text unread keeps kept = absurd keeps
keeps_more (Some bytes) (Some left) None text unread keeps kept = absurd kept
keeps_more (Some bytes) (Some left) (Some rest) text unread keeps kept = append_assoc text unread rest ∙ ap (λ l. text ++ l) kept ∙ keeps

-- all that was read is of the text
pub keeps_moved : (before left : Option (List ℕ)) (text all : List ℕ) → Keeps before (prepend_known all left) → text ≡ all → Keeps before (prepend_known text left)
keeps_moved before left text all keeps is = rw is keeps

-- what a read gave
pub keeps_piece : (left rest : Option (List ℕ)) (piece unread : List ℕ) → Consumes left rest piece → unread ≡ piece → Keeps left (prepend_known unread rest)
keeps_piece None rest piece unread taken is = tt
keeps_piece (Some xs) None piece unread taken is = absurd taken
keeps_piece (Some xs) (Some ys) piece unread taken is = ap (λ p. p ++ ys) is ∙ sym taken

pub keeps_none : (left rest : Option (List ℕ)) → Keeps left rest → Keeps left (prepend_known [] rest)
keeps_none None rest kept = tt
keeps_none (Some xs) None kept = absurd kept
keeps_none (Some xs) (Some ys) kept = kept

-- ---- what a failed read loses

no_feed : (text : List ℕ) → IsPlain text → HasNoFeed text
no_feed [] plain = tt
no_feed (b ∷ text) plain = (plain.0, no_feed text plain.1)

keeps_front : (before left rest : Option (List ℕ)) (text unread : List ℕ) → Keeps before (prepend_known text left) → Keeps left (prepend_known unread rest) → Keeps before (prepend_known text (prepend_known unread rest))
keeps_front None left rest text unread keeps kept = tt
keeps_front (Some bytes) None rest text unread keeps kept = absurd keeps
keeps_front (Some bytes) (Some left) None text unread keeps kept = absurd kept
keeps_front (Some bytes) (Some left) (Some rest) text unread keeps kept = ap (λ (l : List ℕ). text ++ l) kept ∙ keeps

pub loses_front : (before left rest : Option (List ℕ)) (text unread : List ℕ) → Keeps before (prepend_known text left) → Keeps left (prepend_known unread rest) → IsPlain text → LosesFront before (prepend_known unread rest)
loses_front before left rest text unread keeps kept plain = record { lost = text; of_line = no_feed text plain; keeps = keeps_front before left rest text unread keeps kept }
