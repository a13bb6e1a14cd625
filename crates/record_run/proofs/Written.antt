-- Texts that are written one after the other.
use Rattle.std.proofs.Common.{◌≡◌, ◌∙◌, ℕ, List, [], ◌∷◌, ◌++◌, length, refl, subst, sym, ap, append_assoc, append-nil, take, drop, arith}
use Rattle.std.specs.Prelude.{Result, Ok, Err}
use Rattle.std.specs.declared.option.Option.{Option}
use Rattle.std.specs.Io.KnownBytes.{Appends}
use Rattle.std.proofs.KnownBytes.{Appends-nil, Appends-trans}
use Rattle.std.proofs.lemmas.Grind.{flat_map-append}
use Rattle.std.proofs.lemmas.List.{take-append-drop}
use Rattle.byteorder.specs.Endian.{big_bytes}
use Rattle.edge_io.specs.Sink.{WritesFront}
use Rattle.record_rules.specs.Fields.{colors_bytes}
use Rattle.script_run.specs.declared.fault.ScriptFault.{ScriptFault}
use Rattle.record_run.specs.Replays.{Writes}

-- nothing was written
pub nothing : (told : Option (List ℕ)) (text : List ℕ) → WritesFront told told text
nothing told text = record { front = []; rest = text; whole = refl; written = Appends-nil told }

-- a front of the first part, or of the second behind the first, is one of the whole
pub front_extends : (told telling : Option (List ℕ)) (text more : List ℕ) → WritesFront told telling text → WritesFront told telling (text ++ more)
front_extends told telling text more f = record {
  front = f.front;
  rest = f.rest ++ more;
  whole = ap (λ t. t ++ more) f.whole ∙ append_assoc f.front f.rest more;
  written = f.written;
}

pub front_behind : (told mid telling : Option (List ℕ)) (text more : List ℕ) → Appends told mid text → WritesFront mid telling more → WritesFront told telling (text ++ more)
front_behind told mid telling text more w f = record {
  front = text ++ f.front;
  rest = f.rest;
  whole = ap (λ t. text ++ t) f.whole ∙ sym (append_assoc text f.front f.rest);
  written = Appends-trans told mid telling text f.front w f.written;
}

pub writes_behind : (r : Result (Unit {0}) ScriptFault) (told mid telling : Option (List ℕ)) (text more : List ℕ) → Appends told mid text → Writes r more mid telling
    → Writes r (text ++ more) told telling
writes_behind (Ok x) told mid telling text more w next = Appends-trans told mid telling text more w next
writes_behind (Err fault) told mid telling text more w next = front_behind told mid telling text more w next

-- ---- pieces

-- of all a front was written, and the rest is left
pub record HasPut (told telling : Option (List ℕ)) (all rest : List ℕ) : Type 0 where
  pub sent : List ℕ
  pub whole : all ≡ sent ++ rest
  pub written : Appends told telling sent

pub put_none : (told : Option (List ℕ)) (all : List ℕ) → HasPut told told all all
put_none told all = record { sent = []; whole = refl; written = Appends-nil told }

split : (n : ℕ) (colors : List ℕ) → colors_bytes colors ≡ colors_bytes (take n colors) ++ colors_bytes (drop n colors)
split n colors = ap colors_bytes (sym (take-append-drop n colors)) ∙ flat_map-append (big_bytes 3) (take n colors) (drop n colors)

pub parts : (n : ℕ) (colors front back : List ℕ) → front ≡ take n colors → back ≡ drop n colors → colors_bytes colors ≡ colors_bytes front ++ colors_bytes back
parts n colors front back f b = split n colors ∙ ap (λ x. colors_bytes x ++ colors_bytes (drop n colors)) (sym f) ∙ ap (λ x. colors_bytes front ++ colors_bytes x) (sym b)

pub none_left : (colors : List ℕ) → length colors ≡ 0 → colors_bytes colors ≡ []
none_left [] none = refl
none_left (color ∷ colors) none = absurd (omega (arith, none))

-- a piece more
pub put_piece : (told mid telling : Option (List ℕ)) (all rest piece after : List ℕ) → HasPut told mid all rest → Appends mid telling piece → rest ≡ piece ++ after → HasPut told telling all after
put_piece told mid telling all rest piece after h w is = record {
  sent = h.sent ++ piece;
  whole = h.whole ∙ ap (λ r. h.sent ++ r) is ∙ sym (append_assoc h.sent piece after);
  written = Appends-trans told mid telling h.sent piece h.written w;
}

-- a front of a piece
pub put_part : (told mid telling : Option (List ℕ)) (all rest piece after : List ℕ) → HasPut told mid all rest → WritesFront mid telling piece → rest ≡ piece ++ after → WritesFront told telling all
put_part told mid telling all rest piece after h f is = record {
  front = h.sent ++ f.front;
  rest = f.rest ++ after;
  whole = h.whole ∙ ap (λ r. h.sent ++ r) (is ∙ ap (λ p. p ++ after) f.whole ∙ append_assoc f.front f.rest after) ∙ sym (append_assoc h.sent f.front (f.rest ++ after));
  written = Appends-trans told mid telling h.sent f.front h.written f.written;
}

pub put_all : (told telling : Option (List ℕ)) (all rest : List ℕ) → HasPut told telling all rest → rest ≡ [] → Appends told telling all
put_all told telling all rest h none = subst (Appends told telling) (sym (h.whole ∙ ap (λ r. h.sent ++ r) none ∙ append-nil h.sent)) h.written
