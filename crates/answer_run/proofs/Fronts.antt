-- Fronts of what is due.
use Rattle.std.proofs.Common.{◌≡◌, ℕ, List, [], ◌++◌, refl, ap, sym, ◌∙◌, append_assoc}
use Rattle.std.specs.Prelude.{Option}
use Rattle.std.specs.Io.KnownBytes.{Appends}
use Rattle.std.proofs.KnownBytes.{Appends-trans, Appends-nil}
use Rattle.edge_io.specs.Sink.{WritesFront}

pub front_none : (told : Option (List ℕ)) (text : List ℕ) → WritesFront told told text
front_none told text = record { front = []; rest = text; whole = refl; written = Appends-nil told }

pub front_extends : (told telling : Option (List ℕ)) (text more whole : List ℕ) → whole ≡ text ++ more → WritesFront told telling text → WritesFront told telling whole
front_extends told telling text more whole is f = record {
  front = f.front;
  rest = f.rest ++ more;
  whole = is ∙ ap (λ t. t ++ more) f.whole ∙ append_assoc f.front f.rest more;
  written = f.written;
}

pub front_after : (told mid telling : Option (List ℕ)) (text more whole : List ℕ) → Appends told mid text → whole ≡ text ++ more → WritesFront mid telling more
    → WritesFront told telling whole
front_after told mid telling text more whole w is f = record {
  front = text ++ f.front;
  rest = f.rest;
  whole = is ∙ ap (λ t. text ++ t) f.whole ∙ sym (append_assoc text f.front f.rest);
  written = Appends-trans told mid telling text f.front w f.written;
}

-- all of a first part was written
pub front_whole : (told telling : Option (List ℕ)) (text more whole : List ℕ) → Appends told telling text → whole ≡ text ++ more → WritesFront told telling whole
front_whole told telling text more whole w is = record { front = text; rest = more; whole = is; written = w }
