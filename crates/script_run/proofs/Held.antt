-- What was held back, and what of it was written.
use Rattle.std.proofs.Common.{◌≡◌, ℕ, ◌<◌, List, [], ◌∷◌, ◌++◌, length, refl, ap, sym, ◌∙◌, subst, Some, None, append_assoc, append-nil, arith}
use Rattle.std.specs.Prelude.{Option}
use Rattle.std.specs.Io.KnownBytes.{Appends, Keeps, append_known}
use Rattle.std.proofs.KnownBytes.{Appends-nil, Appends-trans}
use Rattle.edge_io.specs.Sink.{WritesFront}
use Rattle.script_rules.specs.Capture.{ended}
use Rattle.script_run.specs.Held.{Holds, Grows, IsFrontOf}

pub append_known-nil : (a : Option (List ℕ)) → append_known a [] ≡ a
append_known-nil None = refl
append_known-nil (Some x) = ap (λ t. Some t) (append-nil x)

-- ---- what stands in a sink with what is held back

pub held_told : (told telling : Option (List ℕ)) (held holding bytes : List ℕ) → Holds told telling held holding bytes
    → Appends (append_known told held) (append_known telling holding) bytes
held_told None telling held holding bytes h = tt
held_told (Some x) None held holding bytes h = absurd h.written
held_told (Some x) (Some y) held holding bytes h =
    ap (λ t. t ++ holding) h.written ∙ append_assoc x h.front holding ∙ ap (λ t. x ++ t) (sym h.whole) ∙ sym (append_assoc x held bytes)

pub held_grows : (told telling : Option (List ℕ)) (held holding bytes : List ℕ) → Holds told telling held holding bytes → Grows told telling
held_grows told telling held holding bytes h = record { more = h.front; written = h.written }

pub front_grows : (told telling : Option (List ℕ)) (bytes : List ℕ) → WritesFront told telling bytes → Grows told telling
front_grows told telling bytes f = record { more = f.front; written = f.written }

-- what would stand there
pub would_append : (told : Option (List ℕ)) (held bytes : List ℕ) → Appends (append_known told held) (append_known told (held ++ bytes)) bytes
would_append None held bytes = tt
would_append (Some x) held bytes = sym (append_assoc x held bytes)

-- a text that begins with another one
pub appends_behind : (a b : Option (List ℕ)) (first rest bytes : List ℕ) → bytes ≡ first ++ rest → Appends a b bytes → Appends (append_known a first) b rest
appends_behind None b first rest bytes e w = tt
appends_behind (Some x) None first rest bytes e w = absurd w
appends_behind (Some x) (Some y) first rest bytes e w = w ∙ ap (λ t. x ++ t) e ∙ sym (append_assoc x first rest)

pub appends_first : (a : Option (List ℕ)) (bytes : List ℕ) → Appends a (append_known a bytes) bytes
appends_first None bytes = tt
appends_first (Some x) bytes = refl

-- what was held back was written
pub flushed : (told telling : Option (List ℕ)) (held : List ℕ) → Appends told telling held → Keeps (append_known told held) telling
flushed None telling held w = tt
flushed (Some x) None held w = absurd w
flushed (Some x) (Some y) held w = w

-- ---- a front of it was written

pub front_known : (told telling : Option (List ℕ)) (bytes held : List ℕ) → WritesFront told telling bytes → held ≡ []
    → IsFrontOf told (append_known telling held) (append_known told bytes)
front_known None telling bytes held f none = tt
front_known (Some x) None bytes held f none = absurd f.written
front_known (Some x) (Some y) bytes held f none =
    let same : y ++ held ≡ x ++ f.front = ap (λ t. y ++ t) none ∙ append-nil y ∙ f.written in
    record {
      first = f.front;
      rest = f.rest;
      written = same;
      left_out = ap (λ t. x ++ t) f.whole ∙ sym (append_assoc x f.front f.rest) ∙ ap (λ t. t ++ f.rest) (sym same);
    }

pub front_told : (told telling : Option (List ℕ)) (bytes : List ℕ) → WritesFront told telling bytes → IsFrontOf told telling (append_known told bytes)
front_told None telling bytes f = tt
front_told (Some x) None bytes f = absurd f.written
front_told (Some x) (Some y) bytes f = record {
  first = f.front;
  rest = f.rest;
  written = f.written;
  left_out = ap (λ t. x ++ t) f.whole ∙ sym (append_assoc x f.front f.rest) ∙ ap (λ t. t ++ f.rest) (sym f.written);
}

pub front_later : (told mid telling whole : Option (List ℕ)) → Grows told mid → IsFrontOf mid telling whole → IsFrontOf told telling whole
front_later None mid telling whole g f = tt
front_later (Some x) None telling whole g f = absurd g.written
front_later (Some x) (Some y) None whole g f = absurd f
front_later (Some x) (Some y) (Some z) None g f = absurd f
front_later (Some x) (Some y) (Some z) (Some w) g f = record {
  first = g.more ++ f.first;
  rest = f.rest;
  written = f.written ∙ ap (λ t. t ++ f.first) g.written ∙ append_assoc x g.more f.first;
  left_out = f.left_out;
}

-- all of it was
pub front_whole : (told telling : Option (List ℕ)) (held : List ℕ) → Grows told telling → IsFrontOf told (append_known telling held) (append_known telling held)
front_whole None telling held g = tt
front_whole (Some x) None held g = absurd g.written
front_whole (Some x) (Some y) held g = record {
  first = g.more ++ held;
  rest = [];
  written = ap (λ t. t ++ held) g.written ∙ append_assoc x g.more held;
  left_out = sym (append-nil (y ++ held));
}

pub grows_on : (told mid telling : Option (List ℕ)) → Grows told mid → Grows mid telling → Grows told telling
grows_on None mid telling g h = record { more = []; written = tt }
grows_on (Some x) None telling g h = absurd g.written
grows_on (Some x) (Some y) None g h = absurd h.written
grows_on (Some x) (Some y) (Some z) g h = record {
  more = g.more ++ h.more;
  written = h.written ∙ ap (λ t. t ++ h.more) g.written ∙ append_assoc x g.more h.more;
}

pub not_empty : (held : List ℕ) → held ≡ [] → 0 < length held → ⊥
not_empty [] e some = omega (arith, some)
not_empty (b ∷ bs) e some = cc e

-- ---- what is held back

pub held_kept : (told : Option (List ℕ)) (held : List ℕ) → Holds told told held held []
held_kept told held = record { front = []; written = Appends-nil told; whole = append-nil held }

pub held_more : (told : Option (List ℕ)) (held holding text : List ℕ) → holding ≡ held ++ text → Holds told told held holding text
held_more told held holding text e = record { front = []; written = Appends-nil told; whole = sym e }

pub held_flushed : (told telling : Option (List ℕ)) (held holding : List ℕ) → Appends told telling held → holding ≡ [] → Holds told telling held holding []
held_flushed told telling held holding w none = record { front = held; written = w; whole = ap (λ t. held ++ t) (sym none) }

pub held_later : (told telling : Option (List ℕ)) (held none holding text : List ℕ) → Appends told telling held → none ≡ [] → holding ≡ none ++ text
    → Holds told telling held holding text
held_later told telling held none holding text w empty e =
    record { front = held; written = w; whole = ap (λ t. held ++ t) (sym (e ∙ ap (λ t. t ++ text) empty)) }

pub held_put : (told mid telling : Option (List ℕ)) (held none text : List ℕ) → Appends told mid held → none ≡ [] → Appends mid telling text
    → Holds told telling held none text
held_put told mid telling held none text w empty v = record {
  front = held ++ text;
  written = Appends-trans told mid telling held text w v;
  whole = sym (ap (λ t. (held ++ text) ++ t) empty ∙ append-nil (held ++ text));
}

pub front_longer : (told telling : Option (List ℕ)) (held text : List ℕ) → WritesFront told telling held → WritesFront told telling (held ++ text)
front_longer told telling held text f = record {
  front = f.front;
  rest = f.rest ++ text;
  whole = ap (λ t. t ++ text) f.whole ∙ append_assoc f.front f.rest text;
  written = f.written;
}

pub front_after : (told mid telling : Option (List ℕ)) (held text : List ℕ) → Appends told mid held → WritesFront mid telling text
    → WritesFront told telling (held ++ text)
front_after told mid telling held text w f = record {
  front = held ++ f.front;
  rest = f.rest;
  whole = ap (λ t. held ++ t) f.whole ∙ sym (append_assoc held f.front f.rest);
  written = Appends-trans told mid telling held f.front w f.written;
}

-- ---- a text behind another one

pub held_then : (told mid telling : Option (List ℕ)) (held between holding a b : List ℕ) → Holds told mid held between a → Holds mid telling between holding b
    → Holds told telling held holding (a ++ b)
held_then told mid telling held between holding a b h i = record {
  front = h.front ++ i.front;
  written = Appends-trans told mid telling h.front i.front h.written i.written;
  whole = sym (append_assoc held a b) ∙ ap (λ t. t ++ b) h.whole ∙ append_assoc h.front between b ∙ ap (λ t. h.front ++ t) i.whole
      ∙ sym (append_assoc h.front i.front holding);
}

pub front_then : (told mid telling : Option (List ℕ)) (held between a b : List ℕ) → Holds told mid held between a → WritesFront mid telling (between ++ b)
    → WritesFront told telling (held ++ (a ++ b))
front_then told mid telling held between a b h f = record {
  front = h.front ++ f.front;
  rest = f.rest;
  whole = sym (append_assoc held a b) ∙ ap (λ t. t ++ b) h.whole ∙ append_assoc h.front between b ∙ ap (λ t. h.front ++ t) f.whole
      ∙ sym (append_assoc h.front f.front f.rest);
  written = Appends-trans told mid telling h.front f.front h.written f.written;
}

pub front_within : (told telling : Option (List ℕ)) (held a b : List ℕ) → WritesFront told telling (held ++ a) → WritesFront told telling (held ++ (a ++ b))
front_within told telling held a b f =
    subst (WritesFront told telling) (append_assoc held a b) (front_longer told telling (held ++ a) b f)

-- ---- a frame's line in parts

pub parts_of_line : (all done rest now later : List ℕ) → all ≡ done ++ rest → rest ≡ now ++ later → ended all ≡ done ++ (now ++ ended later)
parts_of_line all done rest now later whole parts =
    ap ended (whole ∙ ap (λ t. done ++ t) parts) ∙ append_assoc done (now ++ later) (10 ∷ []) ∙ ap (λ t. done ++ t) (append_assoc now later (10 ∷ []))

pub end_of_line : (all done rest : List ℕ) → all ≡ done ++ rest → rest ≡ [] → ended all ≡ done ++ 10 ∷ []
end_of_line all done rest whole none = ap ended (whole ∙ ap (λ t. done ++ t) none ∙ append-nil done)
