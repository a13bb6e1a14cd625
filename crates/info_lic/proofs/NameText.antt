-- The name of a text is the one that its bytes write.
use Rattle.std.proofs.Common.{◌≡◌, inl, inr, ℕ, ◌+◌, ◌*◌, ◌<◌, ◌≤◌, Bool, true, false, cond, List, [], ◌∷◌, ◌++◌, length, refl, ap, sym, ◌∙◌, subst, arith}
use Rattle.std.specs.Prelude.{nat_le, nat_lt, ◌&&◌, Option, Some, None}
use Rattle.std.specs.Option.{option_map}
use Rattle.std.specs.Str.{IsAscii}
use Rattle.std.proofs.lemmas.Bool.{and_from}
use Rattle.std.proofs.lemmas.Bool.Decides.{nat_tests}
use Rattle.std.proofs.lemmas.Str.Ascii.{IsAscii-cons, IsAscii-nil}
use Rattle.byteorder.specs.Endian.{little_number}
use Rattle.info_lic.specs.Name.{IsName}
use Rattle.info_lic.specs.ClientInfo.{all_ascii, named, utf16_units, named_by, name_in}
use Rattle.info_lic.specs.Grammar.{AreUnits, Writes, IsNameOf}
use Rattle.info_lic.proofs.Names.{all_small, named_name}

-- ---- characters

-- the characters of a text
abbrev written : Bool → List ℕ → Option (List ℕ)
written true bs = utf16_units bs
written false bs = Some bs

some_unit : (c : ℕ) (units : Option (List ℕ)) (cs : List ℕ) → option_map (λ xs. c ∷ xs) units ≡ Some cs → (ds : List ℕ) × (units ≡ Some ds) × (c ∷ ds ≡ cs)
some_unit c (Some ds) cs e = (ds, refl, let h : c ∷ ds ≡ cs = cc in h)
some_unit c None cs e = absurd (let h : ⊥ = cc in h)

units_are : (bs cs : List ℕ) → utf16_units bs ≡ Some cs → AreUnits bs cs
units_are [] cs e = let same : [] ≡ cs = cc in subst (AreUnits []) same refl
units_are (b ∷ []) cs e = absurd (let h : ⊥ = cc in h)
units_are (low ∷ high ∷ bs) cs e =
    let s = some_unit (low + 256 * high) (utf16_units bs) cs e in
    subst (AreUnits (low ∷ high ∷ bs)) s.2 (low ∷ high ∷ [], bs, refl, omega arith, refl, units_are bs s.0 s.1)

two_bytes : (unit more : List ℕ) → length unit ≡ 2 → utf16_units (unit ++ more) ≡ option_map (λ xs. little_number 2 unit ∷ xs) (utf16_units more)
two_bytes [] more e = absurd (omega (arith, e))
two_bytes (b ∷ []) more e = absurd (omega (arith, e))
two_bytes (low ∷ high ∷ []) more e =
    let same : low + 256 * high ≡ little_number 2 (low ∷ high ∷ []) = omega arith in
    ap (λ c. option_map (λ xs. c ∷ xs) (utf16_units more)) same
two_bytes (a ∷ b ∷ c ∷ unit) more e = absurd (omega (arith, e))

are_units : (cs bs : List ℕ) → AreUnits bs cs → utf16_units bs ≡ Some cs
are_units [] bs are = ap utf16_units are
are_units (c ∷ cs) bs are =
    ap utf16_units are.4 ∙ two_bytes are.0 are.1 are.2
    ∙ ap (λ k. option_map (λ xs. k ∷ xs) (utf16_units are.1)) are.3
    ∙ ap (option_map (λ xs. c ∷ xs)) (are_units cs are.1 are.5)

writes : (unicode : Bool) (bs cs : List ℕ) → written unicode bs ≡ Some cs → Writes unicode bs cs
writes true bs cs e = units_are bs cs e
writes false bs cs e = let same : bs ≡ cs = cc in same

is_written : (unicode : Bool) (bs cs : List ℕ) → Writes unicode bs cs → written unicode bs ≡ Some cs
is_written true bs cs w = are_units cs bs w
is_written false bs cs w = ap Some w

name_is : (unicode : Bool) (bs : List ℕ) → name_in unicode bs ≡ named_by (written unicode bs)
name_is true bs = refl
name_is false bs = refl

-- ---- characters that are a name, or not

and_left : (a b : Bool) → (a && b) ≡ true → a ≡ true
and_left true b e = refl
and_left false b e = e

and_right : (a b : Bool) → (a && b) ≡ true → b ≡ true
and_right true b e = e
and_right false b e = absurd (let h : ⊥ = cc in h)

below : (c : ℕ) → nat_lt c 128 ≡ true → c < 128
below c e = grind (arith, nat_tests, e)

ascii_of : (cs : List ℕ) → all_ascii cs ≡ true → IsAscii cs
ascii_of [] e = IsAscii-nil
ascii_of (c ∷ cs) e = IsAscii-cons c cs (below c (and_left (nat_lt c 128) (all_ascii cs) e)) (ascii_of cs (and_right (nat_lt c 128) (all_ascii cs) e))

short_of : (n : ℕ) → nat_le n 64 ≡ true → n ≤ 64
short_of n e = grind (arith, nat_tests, e)

abbrev is_name : List ℕ → Bool
is_name cs = nat_le (length cs) 64 && all_ascii cs

name_of : (cs : List ℕ) → is_name cs ≡ true → IsName cs
name_of cs e = record {
  short = short_of (length cs) (and_left (nat_le (length cs) 64) (all_ascii cs) e);
  ascii = ascii_of cs (and_right (nat_le (length cs) 64) (all_ascii cs) e);
}

nil_or : (b : Bool) (cs : List ℕ) → b ≡ false → cond b cs [] ≡ []
nil_or true cs e = absurd (let h : ⊥ = cc in h)
nil_or false cs e = refl

tested : (cs : List ℕ) → IsName cs → is_name cs ≡ true
tested cs h =
    let short = h.short in
    and_from (nat_le (length cs) 64) (all_ascii cs) (grind (arith, nat_tests, short)) (all_small cs h.ascii)

no_both : (b : Bool) → b ≡ true → b ≡ false → ⊥
no_both true e f = let h : ⊥ = cc in h
no_both false e f = let h : ⊥ = cc in h

-- a text whose characters are these
named_by_test : (unicode : Bool) (bs cs : List ℕ) → written unicode bs ≡ Some cs → (b : Bool) → is_name cs ≡ b → IsNameOf unicode bs (named cs)
named_by_test unicode bs cs w true e =
    let is : IsName cs = name_of cs e in
    inl (subst (λ n. Writes unicode bs n × IsName n) (sym (named_name cs is)) (writes unicode bs cs w, is))
named_by_test unicode bs cs w false e =
    inr (
      λ ds v is.
          let both : Some cs ≡ Some ds = sym w ∙ is_written unicode bs ds v in
          let same : ds ≡ cs = cc in
          no_both (is_name cs) (tested cs (subst IsName same is)) e,
      nil_or (is_name cs) cs e,
    )

named_by_units : (unicode : Bool) (bs : List ℕ) (units : Option (List ℕ)) → written unicode bs ≡ units → IsNameOf unicode bs (named_by units)
named_by_units unicode bs None w = inr (λ ds v is. let both : None ≡ Some ds = sym w ∙ is_written unicode bs ds v in let h : ⊥ = cc in h, refl)
named_by_units unicode bs (Some cs) w = named_by_test unicode bs cs w (is_name cs) refl

pub name_stands : (unicode : Bool) (bs : List ℕ) → IsNameOf unicode bs (name_in unicode bs)
name_stands unicode bs = subst (IsNameOf unicode bs) (sym (name_is unicode bs)) (named_by_units unicode bs (written unicode bs) refl)

-- two names of one text are the same
pub one_name : (unicode : Bool) (bs name other : List ℕ) → IsNameOf unicode bs name → IsNameOf unicode bs other → name ≡ other
one_name unicode bs name other p q =
    elim p [
      | inl a ↦ elim q [
        | inl b ↦
            let both : Some name ≡ Some other = sym (is_written unicode bs name a.0) ∙ is_written unicode bs other b.0 in
            let same : name ≡ other = cc in
            same
        | inr b ↦ absurd (b.0 name a.0 a.1)
      ]
      | inr a ↦ elim q [ inl b ↦ absurd (a.0 other b.0 b.1) | inr b ↦ a.1 ∙ sym b.1 ]
    ]
