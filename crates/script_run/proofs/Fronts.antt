-- Fronts of texts.
use Rattle.std.proofs.Common.{◌≡◌, ℕ, List, [], ◌++◌, refl, ap, sym, ◌∙◌, subst, append_assoc, append-nil}
use Rattle.headline.specs.Fronts.{IsFront}

pub nothing_is_front : (text : List ℕ) → IsFront [] text
nothing_is_front text = record { rest = text; joined = refl }

pub whole_is_front : (text : List ℕ) → IsFront text text
whole_is_front text = record { rest = []; joined = sym (append-nil text) }

pub front_behind : (text front whole : List ℕ) → IsFront front whole → IsFront (text ++ front) (text ++ whole)
front_behind text front whole f = record { rest = f.rest; joined = ap (λ t. text ++ t) f.joined ∙ sym (append_assoc text front f.rest) }

pub front_of_front : (front text whole : List ℕ) → IsFront front text → IsFront text whole → IsFront front whole
front_of_front front text whole f g = record {
  rest = f.rest ++ g.rest;
  joined = g.joined ∙ ap (λ t. t ++ g.rest) f.joined ∙ append_assoc front f.rest g.rest;
}

pub front_is : (front text whole : List ℕ) → text ≡ whole → IsFront front text → IsFront front whole
front_is front text whole e f = subst (IsFront front) e f
