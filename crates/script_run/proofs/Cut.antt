-- A front of what lines have written is what fewer of them have, and a front of one more.
use Rattle.std.proofs.Common.{◌≡◌, ℕ, List, [], ◌∷◌, ◌++◌, refl, ap, sym, ◌∙◌, subst, Some, None, append_assoc, append-nil, ◌⊎◌, inl, inr}
use Rattle.std.proofs.lemmas.List.{append_cancel_left}
use Rattle.std.specs.Prelude.{Option}
use Rattle.std.specs.Io.KnownBytes.{Appends}
use Rattle.line_text.specs.Lines.{Line, lines_of}
use Rattle.script_rules.specs.Script.{LineRefusal}
use Rattle.headline.specs.Fronts.{IsFront}
use Rattle.script_run.specs.Held.{IsFrontOf}
use Rattle.script_run.specs.Run.{Tells}
use Rattle.script_run.specs.Writing.{ByLines, IsSteady, with_next}
use Rattle.script_run.specs.Reading.{Moment, ahead_of, TakesLines, WroteSomeLines, AllLinesGive, WroteAllLines}
use Rattle.script_run.specs.Reading.{WroteDoneLines, StopsInALine}
use Rattle.script_run.proofs.Fronts.{nothing_is_front, whole_is_front, front_of_front}
use Rattle.script_run.proofs.Taken.{lines_are}

-- ---- two fronts of one text

abbrev tail_of : List ℕ → List ℕ
tail_of [] = []
tail_of (x ∷ xs) = xs

abbrev head_of : List ℕ → ℕ
head_of [] = 0
head_of (x ∷ xs) = x

front_tail : (x z : ℕ) (a text : List ℕ) → IsFront (x ∷ a) (z ∷ text) → IsFront a text
front_tail x z a text f = record { rest = f.rest; joined = ap tail_of f.joined }

front_with : (x y : ℕ) (a b : List ℕ) → x ≡ y → IsFront a b → IsFront (x ∷ a) (y ∷ b)
front_with x y a b e f = record { rest = f.rest; joined = ap (λ t. y ∷ t) f.joined ∙ ap (λ n. n ∷ (a ++ f.rest)) (sym e) }

-- one of them is a front of the other
fronts_meet : (a b text : List ℕ) → IsFront a text → IsFront b text → IsFront a b ⊎ IsFront b a
fronts_meet [] b text f g = inl (nothing_is_front b)
fronts_meet (x ∷ a) [] text f g = inr (nothing_is_front (x ∷ a))
fronts_meet (x ∷ a) (y ∷ b) [] f g = absurd (cc f.joined)
fronts_meet (x ∷ a) (y ∷ b) (z ∷ text) f g = by (fronts_meet a b text (front_tail x z a text f) (front_tail y z b text g))
  where
    same : x ≡ y
    same = sym (ap head_of f.joined) ∙ ap head_of g.joined

    by : IsFront a b ⊎ IsFront b a → IsFront (x ∷ a) (y ∷ b) ⊎ IsFront (y ∷ b) (x ∷ a)
    by (inl h) = inl (front_with x y a b same h)
    by (inr h) = inr (front_with y x b a (sym same) h)

-- ---- lines whose text grows with each

steady_next : (whole : ByLines) (lines rest : List Line) → IsSteady whole → IsFront (whole.so_far lines) (with_next whole lines rest)
steady_next whole lines [] s = s.ends lines
steady_next whole lines (next ∷ rest) s = s.grows lines (next ∷ [])

-- ---- the line in which a front ends

-- what these first lines have written, and a front of what they have with the next one
record EndsIn (whole : ByLines) (all : List Line) (text : List ℕ) : Type 0 where
  done : List Line
  rest : List Line
  front : List ℕ
  are_first : all ≡ done ++ rest
  is_text : text ≡ whole.so_far done ++ front
  is_front : IsFront (whole.so_far done ++ front) (with_next whole done rest)

ends_in : (whole : ByLines) (all first later rest done : List Line) (text front : List ℕ) → IsSteady whole → first ++ later ≡ done → all ≡ first ++ (later ++ rest)
    → IsFront (whole.so_far first) text → IsFront text (whole.so_far done ++ front) → IsFront (whole.so_far done ++ front) (with_next whole done rest)
    → EndsIn whole all text
ends_in whole all first [] rest done text front s is are begins last next =
    let same : first ≡ done = sym (append-nil first) ∙ is in
    record {
      done = first;
      rest = rest;
      front = begins.rest;
      are_first = are;
      is_text = begins.joined;
      is_front = subst (λ t. IsFront t (with_next whole first rest)) begins.joined
          (subst (λ d. IsFront text (with_next whole d rest)) (sym same) (front_of_front text (whole.so_far done ++ front) (with_next whole done rest) last next));
    }
ends_in whole all first (line ∷ later) rest done text front s is are begins last next =
    by (λ f. ends_in whole all (first ++ line ∷ []) later rest done text front s on (are ∙ sym (append_assoc first (line ∷ []) (later ++ rest))) f last next)
    (fronts_meet (whole.so_far (first ++ line ∷ [])) text (with_next whole done rest) shorter
    (front_of_front text (whole.so_far done ++ front) (with_next whole done rest) last next))
  where
    on : (first ++ line ∷ []) ++ later ≡ done
    on = append_assoc first (line ∷ []) later ∙ is

    shorter : IsFront (whole.so_far (first ++ line ∷ [])) (with_next whole done rest)
    shorter = front_of_front (whole.so_far (first ++ line ∷ [])) (whole.so_far done) (with_next whole done rest)
        (subst (λ d. IsFront (whole.so_far (first ++ line ∷ [])) (whole.so_far d)) on (s.grows (first ++ line ∷ []) later))
        (front_of_front (whole.so_far done) (whole.so_far done ++ front) (with_next whole done rest) (record { rest = front; joined = refl }) next)

    by : (IsFront (whole.so_far (first ++ line ∷ [])) text → EndsIn whole all text)
        → IsFront (whole.so_far (first ++ line ∷ [])) text ⊎ IsFront text (whole.so_far (first ++ line ∷ [])) → EndsIn whole all text
    by on_from (inl f) = on_from f
    by on_from (inr f) = record {
      done = first;
      rest = line ∷ (later ++ rest);
      front = begins.rest;
      are_first = are;
      is_text = begins.joined;
      is_front = subst (λ t. IsFront t (whole.so_far (first ++ line ∷ []))) begins.joined f;
    }

cut_of : (whole : ByLines) (all : List Line) (x y z : List ℕ) (first rest : List ℕ) → IsSteady whole → WroteDoneLines whole all (Some x) (Some z) → y ≡ x ++ first
    → z ≡ y ++ rest → WroteDoneLines whole all (Some x) (Some y)
cut_of whole all x y z first rest s d written left_out =
    let text : whole.so_far d.done ++ d.front ≡ first ++ rest = append_cancel_left x (whole.so_far d.done ++ d.front) (first ++ rest)
    (sym d.written ∙ left_out ∙ ap (λ t. t ++ rest) written ∙ append_assoc x first rest) in
    let e = ends_in whole all [] d.done d.rest d.done first d.front s refl d.are_first (subst (λ t. IsFront t first) (sym s.none) (nothing_is_front first))
    (record { rest = rest; joined = text }) d.is_front in
    record {
      done = e.done;
      rest = e.rest;
      front = e.front;
      are_first = e.are_first;
      written = written ∙ ap (λ t. x ++ t) e.is_text;
      is_front = e.is_front;
    }

cut_done : (whole : ByLines) (all : List Line) (told telling text : Option (List ℕ)) → IsSteady whole → WroteDoneLines whole all told text
    → IsFrontOf told telling text → WroteDoneLines whole all told telling
cut_done whole all None telling text s d f = record {
  done = d.done;
  rest = d.rest;
  front = d.front;
  are_first = d.are_first;
  written = tt;
  is_front = d.is_front;
}
cut_done whole all (Some x) None text s d f = absurd f
cut_done whole all (Some x) (Some y) None s d f = absurd f
cut_done whole all (Some x) (Some y) (Some z) s d f = cut_of whole all x y z f.first f.rest s d f.written f.left_out

-- where a run that stopped in a line would have come to this text, a front of it is as such a run's
pub cut_short : (ahead told telling text : Option (List ℕ)) (whole : ByLines) → IsSteady whole
    → Tells ahead (λ bytes. WroteDoneLines whole (lines_of bytes) told text) → IsFrontOf told telling text
    → Tells ahead (λ bytes. WroteDoneLines whole (lines_of bytes) told telling)
cut_short None told telling text whole s d f = tt
cut_short (Some bytes) told telling text whole s d f = cut_done whole (lines_of bytes) told telling text s d f

-- ---- whole lines end a run as one does that stopped behind them

done_lines : (whole rest : ByLines) (bytes left text : List ℕ) (lines : List Line) (told telling : Option (List ℕ)) → IsSteady whole → rest.so_far [] ≡ []
    → lines_of bytes ≡ lines ++ lines_of left → whole.so_far (lines ++ []) ≡ text ++ rest.so_far [] → Appends told telling text
    → WroteDoneLines whole (lines_of bytes) told telling
done_lines whole rest bytes left text lines told telling s none are so_far w =
    let same : text ≡ whole.so_far lines ++ [] = sym (append-nil text) ∙ ap (λ t. text ++ t) (sym none) ∙ sym so_far ∙ ap whole.so_far (append-nil lines)
    ∙ sym (append-nil (whole.so_far lines)) in
    record {
      done = lines;
      rest = lines_of left;
      front = [];
      are_first = are;
      written = subst (Appends told telling) same w;
      is_front = subst (λ t. IsFront t (with_next whole lines (lines_of left))) (sym (append-nil (whole.so_far lines))) (steady_next whole lines (lines_of left) s);
    }

lines_stop_by : (ahead left : Option (List ℕ)) (whole rest : ByLines) (m n : Moment) (g : WroteSomeLines whole rest m n) → IsSteady whole → rest.so_far [] ≡ []
    → TakesLines ahead left g.lines → Tells ahead (λ bytes. WroteDoneLines whole (lines_of bytes) m.told n.told)
lines_stop_by None left whole rest m n g s none t = tt
lines_stop_by (Some bytes) None whole rest m n g s none t = absurd t
lines_stop_by (Some bytes) (Some left) whole rest m n g s none t =
    done_lines whole rest bytes left g.text g.lines m.told n.told s none (lines_are bytes left g.lines t) (g.follows.so_far []) g.written

pub lines_stop : (whole rest : ByLines) (m n : Moment) → IsSteady whole → rest.so_far [] ≡ [] → WroteSomeLines whole rest m n → StopsInALine whole m n
lines_stop whole rest m n s none g = lines_stop_by (ahead_of m) (ahead_of n) whole rest m n g s none g.takes

all_lines : (whole : ByLines) (lines : List Line) (text : List ℕ) (told telling : Option (List ℕ)) → IsSteady whole → whole.writes lines ≡ text
    → Appends told telling text → WroteDoneLines whole lines told telling
all_lines whole lines text told telling s writes w =
    let end = s.ends lines in
    record {
      done = lines;
      rest = [];
      front = end.rest;
      are_first = sym (append-nil lines);
      written = subst (Appends told telling) (sym writes ∙ end.joined) w;
      is_front = subst (λ t. IsFront t (whole.writes lines)) end.joined (whole_is_front (whole.writes lines));
    }

all_stop_by : (ahead told telling : Option (List ℕ)) (whole : ByLines) (text : List ℕ) (refused : Option LineRefusal) → IsSteady whole
    → AllLinesGive ahead whole text refused → Appends told telling text → Tells ahead (λ bytes. WroteDoneLines whole (lines_of bytes) told telling)
all_stop_by None told telling whole text refused s gives w = tt
all_stop_by (Some bytes) told telling whole text refused s gives w = all_lines whole (lines_of bytes) text told telling s gives.0 w

pub all_stop : (whole : ByLines) (refused : Option LineRefusal) (m n : Moment) → IsSteady whole → WroteAllLines whole refused m n → StopsInALine whole m n
all_stop whole refused m n s g = all_stop_by (ahead_of m) m.told n.told whole g.text refused s g.gives g.written

-- ---- nothing was done

none_of : (whole : ByLines) (lines : List Line) (told telling : Option (List ℕ)) → whole.so_far [] ≡ [] → Appends told telling []
    → WroteDoneLines whole lines told telling
none_of whole lines told telling none w = record {
  done = [];
  rest = lines;
  front = [];
  are_first = refl;
  written = subst (λ t. Appends told telling (t ++ [])) (sym none) w;
  is_front = subst (λ t. IsFront (t ++ []) (with_next whole [] lines)) (sym none) (nothing_is_front (with_next whole [] lines));
}

pub nothing_stops : (ahead told telling : Option (List ℕ)) (whole : ByLines) → whole.so_far [] ≡ [] → Appends told telling []
    → Tells ahead (λ bytes. WroteDoneLines whole (lines_of bytes) told telling)
nothing_stops None told telling whole none w = tt
nothing_stops (Some bytes) told telling whole none w = none_of whole (lines_of bytes) told telling none w
