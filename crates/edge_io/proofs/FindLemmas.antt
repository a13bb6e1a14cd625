-- What a line reader finds at the front of the bytes ahead.
use Rattle.std.proofs.Common.{◌≡◌, ℕ, suc, ◌+◌, ◌<◌, true, false, List, [], ◌∷◌, ◌++◌, length, take, drop, Some, None, sym, ap, ◌∙◌, refl, subst, arith, append_assoc, append-nil, position, length-append}
use Rattle.std.specs.Prelude.{⊤}
use Rattle.std.specs.declared.option.Option.{Option}
use Rattle.std.specs.Io.KnownBytes.{Keeps, IsAtEnd, prepend_known}
use Rattle.std.proofs.lemmas.List.{length-take, length-drop}
use Rattle.std.proofs.Math.Seq.{take-length, drop-length}
use Rattle.std.proofs.KnownBytes.{Keeps-refl}
use Rattle.line_text.specs.Lines.{Line, line_bytes, lines_of, is_past_limits}
use Rattle.edge_io.specs.declared.reader.Found.{Found}
use Rattle.edge_io.specs.declared.reader.Found.TheVariants as found
use Rattle.edge_io.specs.Reading.{LineReading, ahead, TakesLine, HandsOut, AreAllLines, IsPastLimits, first_is_past}
use Rattle.edge_io.specs.Finding.{Finds, FindsNone, HandsLine}
use Rattle.edge_io.proofs.BufferLemmas.{keeps_held, keeps_trans}
use Rattle.edge_io.proofs.LineLemmas.{is_feed, IsPlain, FeedAt, feed_found, feed_missing, line_ended, line_unended, line_too_long}

-- a line stands at the front of the bytes held and left
pub record IsAhead (held left : List ℕ) (line : Line) : Type 0 where
  pub bytes : held ≡ line_bytes line ++ drop (length (line_bytes line)) held
  pub lines : lines_of (held ++ left) ≡ line ∷ lines_of (drop (length (line_bytes line)) held ++ left)

abbrev pub StandsAhead : List ℕ → Option (List ℕ) → Line → Type 0
StandsAhead held None line = ⊤
StandsAhead held (Some left) line = IsAhead held left line

takes_line : (before left : Option (List ℕ)) (held new : List ℕ) (line : Line) → Keeps before (prepend_known held left) → StandsAhead held left line →
    new ≡ drop (length (line_bytes line)) held → TakesLine before (prepend_known new left) line
takes_line None left held new line keeps stands is = record { consumes = tt; hands_out = tt }
takes_line (Some bytes) None held new line keeps stands is = absurd keeps
takes_line (Some bytes) (Some left) held new line keeps stands is = record {
  consumes = sym keeps ∙ ap (λ h. h ++ left) stands.bytes ∙ append_assoc (line_bytes line) (drop (length (line_bytes line)) held) left ∙ ap (λ h. line_bytes line ++ (h ++ left)) (sym is);
  hands_out = ap lines_of (sym keeps) ∙ stands.lines ∙ ap (λ h. line ∷ lines_of (h ++ left)) (sym is);
}

past_line : (at : ℕ) (before left : Option (List ℕ)) (held : List ℕ) (line : Line) → Keeps before (prepend_known held left) → StandsAhead held left line →
    is_past_limits at line ≡ true → IsPastLimits at before
past_line at None left held line keeps stands past = tt
past_line at (Some bytes) None held line keeps stands past = absurd keeps
past_line at (Some bytes) (Some left) held line keeps stands past = ap (λ bs. first_is_past at (lines_of bs)) (sym keeps) ∙ ap (first_is_past at) stands.lines ∙ past

-- what is found where a line stands ahead
pub finds_line : (f : Found) (old now new : LineReading) (before left : Option (List ℕ)) (line : Line) → Keeps before (ahead now left) → now.at ≡ old.at → now.text ≡ [] →
    StandsAhead now.held left line → HandsLine f now new line → Finds f old new before (ahead new left)
finds_line (found.Line ended) old now new before left line keeps at text stands hands = rw hands.0 (record {
  text = refl;
  at = rw (hands.1, ← at) hands.2;
  within = rw (hands.1, ← at) hands.3;
  takes = rw hands.1 (takes_line before left now.held new.held line keeps stands hands.4);
})
finds_line found.PastLimits old now new before left line keeps at text stands hands =
    (rw hands.0 (record { text = text; at = at; keeps = keeps }), rw (← at) (past_line now.at before left now.held line keeps stands hands.1))
finds_line found.End old now new before left line keeps at text stands hands = absurd hands
finds_line found.Failed old now new before left line keeps at text stands hands = absurd hands

-- a line that a line feed ends
ended_ahead : (held left : List ℕ) (place : ℕ) → IsPlain (take place held) → held ≡ take place held ++ 10 ∷ drop (suc place) held →
    IsAhead held left (record { text = take place held; ended = true })
ended_ahead held left place plain cut =
    let text = take place held in
    let whole : length held ≡ length text + length (10 ∷ drop (suc place) held) = ap length cut ∙ length-append text (10 ∷ drop (suc place) held) in
    let size : length (text ++ 10 ∷ []) ≡ suc place = omega (arith, length-append text (10 ∷ []), length-take place held, length-drop (suc place) held, whole) in
    record {
      bytes = cut ∙ sym (append_assoc text (10 ∷ []) (drop (suc place) held)) ∙ ap (λ n. (text ++ 10 ∷ []) ++ drop n held) (sym size);
      lines = ap lines_of (ap (λ h. h ++ left) cut ∙ append_assoc text (10 ∷ drop (suc place) held) left) ∙ line_ended text (drop (suc place) held ++ left) plain
          ∙ ap (λ n. record { text = text; ended = true } ∷ lines_of (drop n held ++ left)) (sym size);
    }

ended_stands : (held : List ℕ) (left : Option (List ℕ)) (place : ℕ) → IsPlain (take place held) → held ≡ take place held ++ 10 ∷ drop (suc place) held →
    StandsAhead held left (record { text = take place held; ended = true })
ended_stands held None place plain cut = tt
ended_stands held (Some left) place plain cut = ended_ahead held left place plain cut

-- the last line, which none ends
last_ahead : (held text : List ℕ) → text ≡ held → IsPlain held → 0 < length held → IsAhead held [] (record { text = text; ended = false })
last_ahead held text is plain some =
    let line : Line = record { text = held; ended = false } in
    let size : length (held ++ []) ≡ length held = ap length (append-nil held) in
    let none : drop (length (held ++ [])) held ≡ [] = ap (λ n. drop n held) size ∙ drop-length held in
    rw is (record {
      bytes = sym (ap (λ rest. (held ++ []) ++ rest) none ∙ append-nil (held ++ []) ∙ append-nil held);
      lines = ap lines_of (append-nil held) ∙ line_unended held some plain ∙ ap (λ rest. record { text = held; ended = false } ∷ lines_of (rest ++ [])) (sym none);
    })

last_stands : (held text : List ℕ) (left : Option (List ℕ)) → text ≡ held → IsPlain held → 0 < length held → IsAtEnd left → StandsAhead held left (record { text = text; ended = false })
last_stands held text None is plain some end = tt
last_stands held text (Some left) is plain some end = rw end (last_ahead held text is plain some)

pub finds_ended : (f : Found) (old now new : LineReading) (before left : Option (List ℕ)) (n : ℕ) → Keeps before (ahead now left) → now.at ≡ old.at → now.text ≡ [] →
    Some n ≡ position is_feed now.held → HandsLine f now new (record { text = take n now.held; ended = true }) → Finds f old new before (ahead new left)
finds_ended f old now new before left n keeps at text found hands =
    let feed : FeedAt now.held 0 n = feed_found now.held n found in
    let place : feed.place ≡ n = omega (arith, feed.is_place) in
    let plain : IsPlain (take n now.held) = rw place at feed.plain in
    let cut : now.held ≡ take n now.held ++ 10 ∷ drop (suc n) now.held = feed.cut ∙ ap (λ k. take k now.held ++ 10 ∷ drop (suc k) now.held) place in
    finds_line f old now new before left (record { text = take n now.held; ended = true }) keeps at text (ended_stands now.held left n plain cut) hands

pub finds_last : (f : Found) (old now new : LineReading) (before left : Option (List ℕ)) (n : ℕ) → Keeps before (ahead now left) → now.at ≡ old.at → now.text ≡ [] →
    None ≡ position is_feed now.held → IsAtEnd left → n ≡ length now.held → 0 < n → HandsLine f now new (record { text = take n now.held; ended = false }) → Finds f old new before (ahead new left)
finds_last f old now new before left n keeps at text none end size some hands =
    let whole : take n now.held ≡ now.held = ap (λ k. take k now.held) size ∙ take-length now.held in
    let nonempty : 0 < length now.held = omega arith in
    finds_line f old now new before left (record { text = take n now.held; ended = false }) keeps at text
    (last_stands now.held (take n now.held) left whole (feed_missing now.held none) nonempty end) hands

past_long : (at : ℕ) (before left : Option (List ℕ)) (held : List ℕ) → Keeps before (prepend_known held left) → IsPlain held → 32768 < length held → IsPastLimits at before
past_long at None left held keeps plain long = tt
past_long at (Some bytes) None held keeps plain long = absurd keeps
past_long at (Some bytes) (Some left) held keeps plain long = ap (λ bs. first_is_past at (lines_of bs)) (sym keeps) ∙ line_too_long at held left plain long

pub finds_long : (old now : LineReading) (before left : Option (List ℕ)) → Keeps before (ahead now left) → now.at ≡ old.at → now.text ≡ [] →
    None ≡ position is_feed now.held → 32768 < length now.held → Finds found.PastLimits old now before (ahead now left)
finds_long old now before left keeps at text none long =
    (record { text = text; at = at; keeps = keeps }, past_long old.at before left now.held keeps (feed_missing now.held none) long)

end_ahead : (before left : Option (List ℕ)) (held : List ℕ) → Keeps before (prepend_known held left) → IsAtEnd left → length held ≡ 0 → IsAtEnd before
end_ahead None left held keeps end none = tt
end_ahead (Some bytes) None held keeps end none = absurd keeps
end_ahead (Some bytes) (Some left) [] keeps end none = sym keeps ∙ end
end_ahead (Some bytes) (Some left) (b ∷ held) keeps end none = absurd (omega arith)

pub finds_end : (old now : LineReading) (before left : Option (List ℕ)) → Keeps before (ahead now left) → now.at ≡ old.at → now.text ≡ [] →
    IsAtEnd left → length now.held ≡ 0 → Finds found.End old now before (ahead now left)
finds_end old now before left keeps at text end none = (record { text = text; at = at; keeps = keeps }, end_ahead before left now.held keeps end none)

-- a source that keeps what it has left changes nothing of this
takes_kept : (before left new_left : Option (List ℕ)) (held : List ℕ) (line : Line) → Keeps left new_left → TakesLine before (prepend_known held left) line →
    TakesLine before (prepend_known held new_left) line
takes_kept None left new_left held line kept takes = record { consumes = tt; hands_out = tt }
takes_kept (Some bytes) None new_left held line kept takes = absurd takes.consumes
takes_kept (Some bytes) (Some left) None held line kept takes = absurd kept
takes_kept (Some bytes) (Some left) (Some new_left) held line kept takes = rw kept takes

none_kept : (old new : LineReading) (before left new_left : Option (List ℕ)) → Keeps left new_left → FindsNone old new before (ahead new left) → FindsNone old new before (ahead new new_left)
none_kept old new before left new_left kept none = record {
  text = none.text;
  at = none.at;
  keeps = keeps_trans before (ahead new left) (ahead new new_left) none.keeps (keeps_held new.held left new_left kept);
}

pub finds_kept : (f : Found) (old new : LineReading) (before left new_left : Option (List ℕ)) → Keeps left new_left → Finds f old new before (ahead new left) → Finds f old new before (ahead new new_left)
finds_kept (found.Line ended) old new before left new_left kept finds = record {
  text = finds.text;
  at = finds.at;
  within = finds.within;
  takes = takes_kept before left new_left new.held (record { text = new.text; ended = ended }) kept finds.takes;
}
finds_kept found.PastLimits old new before left new_left kept finds = (none_kept old new before left new_left kept finds.0, finds.1)
finds_kept found.End old new before left new_left kept finds = (none_kept old new before left new_left kept finds.0, finds.1)
finds_kept found.Failed old new before left new_left kept finds = none_kept old new before left new_left kept finds

-- ---- behind a place that the reader read on from

-- a reader that holds the same has the same ahead
pub ahead_kept : (old new : LineReading) (left : Option (List ℕ)) → new.held ≡ old.held → Keeps (ahead old left) (ahead new left)
ahead_kept old new left e = subst (λ held. Keeps (ahead old left) (prepend_known held left)) (sym e) (Keeps-refl (ahead old left))

takes_later : (before mid now : Option (List ℕ)) (line : Line) → Keeps before mid → TakesLine mid now line → TakesLine before now line
takes_later None mid now line kept takes = record { consumes = tt; hands_out = tt }
takes_later (Some x) None now line kept takes = absurd kept
takes_later (Some x) (Some y) now line kept takes = subst (λ bytes. TakesLine (Some bytes) now line) kept takes

past_later : (at : ℕ) (before mid : Option (List ℕ)) → Keeps before mid → IsPastLimits at mid → IsPastLimits at before
past_later at None mid kept past = tt
past_later at (Some x) None kept past = absurd kept
past_later at (Some x) (Some y) kept past = subst (λ bytes. IsPastLimits at (Some bytes)) kept past

end_later : (before mid : Option (List ℕ)) → Keeps before mid → IsAtEnd mid → IsAtEnd before
end_later None mid kept end = tt
end_later (Some x) None kept end = absurd kept
end_later (Some x) (Some y) kept end = sym kept ∙ end

none_later : (old mid new : LineReading) (before between now : Option (List ℕ)) → Keeps before between → mid.at ≡ old.at → FindsNone mid new between now
    → FindsNone old new before now
none_later old mid new before between now kept at none =
    record { text = none.text; at = none.at ∙ at; keeps = keeps_trans before between now kept none.keeps }

-- what was found behind a place that the reader hadn't left
pub finds_later : (f : Found) (old mid new : LineReading) (before between now : Option (List ℕ)) → Keeps before between → mid.at ≡ old.at → Finds f mid new between now
    → Finds f old new before now
finds_later (found.Line ended) old mid new before between now kept at finds =
    let line : Line = record { text = new.text; ended = ended } in
    record {
      text = finds.text;
      at = finds.at ∙ ap (λ n. n + length (line_bytes line)) at;
      within = subst (λ n. is_past_limits n line ≡ false) at finds.within;
      takes = takes_later before between now line kept finds.takes;
    }
finds_later found.PastLimits old mid new before between now kept at finds =
    (none_later old mid new before between now kept at finds.0, past_later old.at before between kept (subst (λ n. IsPastLimits n between) at finds.1))
finds_later found.End old mid new before between now kept at finds = (none_later old mid new before between now kept at finds.0, end_later before between kept finds.1)
finds_later found.Failed old mid new before between now kept at finds = none_later old mid new before between now kept at finds

-- ---- over several calls

-- no line was handed out yet
pub HandsOut-none : (bytes : Option (List ℕ)) → HandsOut bytes bytes []
HandsOut-none None = tt
HandsOut-none (Some bytes) = refl

-- lines, and then more lines
pub HandsOut-more : (before between now : Option (List ℕ)) (lines more : List Line) → HandsOut before between lines → HandsOut between now more → HandsOut before now (lines ++ more)
HandsOut-more None between now lines more first second = tt
HandsOut-more (Some bytes) None now lines more first second = absurd first
HandsOut-more (Some bytes) (Some rest) None lines more first second = absurd second
HandsOut-more (Some bytes) (Some rest) (Some last) lines more first second = first ∙ ap (λ ls. lines ++ ls) second ∙ sym (append_assoc lines more (lines_of last))

-- lines, and then none
pub HandsOut-kept : (before between now : Option (List ℕ)) (lines : List Line) → HandsOut before between lines → Keeps between now → HandsOut before now lines
HandsOut-kept None between now lines handed kept = tt
HandsOut-kept (Some bytes) None now lines handed kept = absurd handed
HandsOut-kept (Some bytes) (Some rest) None lines handed kept = absurd kept
HandsOut-kept (Some bytes) (Some rest) (Some last) lines handed kept = handed ∙ ap (λ bs. lines ++ lines_of bs) (sym kept)

-- at the end all lines were handed out
pub HandsOut-all : (before now : Option (List ℕ)) (lines : List Line) → HandsOut before now lines → IsAtEnd now → AreAllLines before lines
HandsOut-all None now lines handed end = tt
HandsOut-all (Some bytes) None lines handed end = absurd handed
HandsOut-all (Some bytes) (Some rest) lines handed end = handed ∙ ap (λ bs. lines ++ lines_of bs) end ∙ append-nil lines
