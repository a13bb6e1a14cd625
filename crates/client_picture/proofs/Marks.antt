-- Rows that are copied at a mark.
use Rattle.std.proofs.Common.{◌≡◌, ℕ, ◌+◌, ◌-◌, ◌≤◌, ◌<◌, List, get_or, Bool, true, false, refl, ap, sym, subst, ◌∙◌, arith, inl, inr}
use Rattle.std.specs.Prelude.{Option, None, ◌&&◌, nat_le, nat_lt, slice_set}
use Rattle.std.proofs.lemmas.Bool.{cases_lt}
use Rattle.std.proofs.lemmas.Bool.Decides.{nat_tests}
use Rattle.std.proofs.lemmas.List.{get_or-set_other}
use Rattle.px_core.specs.declared.surface.Size.{Size}
use Rattle.px_core.specs.Picture.{pixel_at}
use Rattle.client_picture.specs.Parts.{in_part, part_at, IsRepainted}
use Rattle.client_picture.specs.Touched.{AreTouched, AreCopied}
use Rattle.client_picture.proofs.Repaint.{under_true, under_false}

module _ (size : Size) (picture first : List (Option ℕ)) (flags : List Bool) (n : ℕ) (touched : List Bool) (marked : List (Option ℕ)) (before : AreCopied size picture first flags n touched marked) where
  -- some columns of one more row were copied, beside which both pictures were the same
  pub row_copied : (from end : ℕ) (new : List (Option ℕ)) → from ≤ end → IsRepainted size (in_part (part_at from n (end - from) 1)) (λ u v. pixel_at size picture None u v) marked new
      → ((x : ℕ) → x < size.w → n < size.h → (nat_le from x && nat_lt x end) ≡ false → pixel_at size picture None x n ≡ pixel_at size first None x n)
      → AreCopied size picture first flags (n + 1) (slice_set touched n false) new
  row_copied from end new ordered row beside = record {
    done = λ x y left above lt. elim (cases_lt y n) [
      | inl less ↦ same x y left above (not_row x y (λ ge. absurd (omega (arith, less, ge)))) ∙ before.done x y left above less
      | inr ge ↦ here (nat_le from x && nat_lt x end) x y left above refl lt ge
    ];
    rest = λ x y left above le. same x y left above (not_row x y (λ ge. omega (arith, le))) ∙ before.rest x y left above (omega (arith, le));
    unread = λ y le. get_or-set_other touched n y false false (λ e. absurd (omega (arith, le, e))) ∙ before.unread y (omega (arith, le));
  }
    where
      same : (x y : ℕ) → x < size.w → y < size.h → in_part (part_at from n (end - from) 1) x y ≡ false → pixel_at size new None x y ≡ pixel_at size marked None x y
      same x y left above none = row.pixel x y left above ∙ sym (under_false (in_part (part_at from n (end - from) 1) x y) (pixel_at size picture None x y) (pixel_at size marked None x y) none)

      and_no : (b c : Bool) → c ≡ false → (b && c) ≡ false
      and_no true c h = h
      and_no false c h = refl

      no_and : (b c : Bool) → b ≡ false → (b && c) ≡ false
      no_and true c h = absurd (cc h)
      no_and false c h = refl

      not_row : (x y : ℕ) → (n ≤ y → n + 1 ≤ y) → in_part (part_at from n (end - from) 1) x y ≡ false
      not_row x y none = and_no (nat_le from x && nat_lt x (from + (end - from))) (nat_le n y && nat_lt y (n + 1)) (elim (cases_lt y n) [
        | inl less ↦ grind (arith, nat_tests, less)
        | inr ge ↦ let more = none ge in grind (arith, nat_tests, more)
      ])

      whole : from + (end - from) ≡ end
      whole = omega (arith, ordered)

      same_row : (y : ℕ) → y ≡ n → (x : ℕ) → x < size.w → y < size.h → (nat_le from x && nat_lt x end) ≡ false → pixel_at size first None x y ≡ pixel_at size picture None x y
      same_row y e x left above h = ap (λ k. pixel_at size first None x k) e ∙ sym (beside x left (omega (arith, e, above)) h) ∙ ap (λ k. pixel_at size picture None x k) (sym e)

      here : (b : Bool) (x y : ℕ) → x < size.w → y < size.h → (nat_le from x && nat_lt x end) ≡ b → y < n + 1 → n ≤ y → pixel_at size new None x y ≡ pixel_at size picture None x y
      here true x y left above h lt ge = row.pixel x y left above ∙ sym (under_true (in_part (part_at from n (end - from) 1) x y) (pixel_at size picture None x y) (pixel_at size marked None x y) (grind (arith, nat_tests, h, lt, ge, whole)))
      here false x y left above h lt ge =
          same x y left above (no_and (nat_le from x && nat_lt x (from + (end - from))) (nat_le n y && nat_lt y (n + 1)) (ap (λ e. nat_le from x && nat_lt x e) whole ∙ h))
          ∙ before.rest x y left above ge ∙ same_row y (omega (arith, lt, ge)) x left above h

  -- a row that wasn't touched is the same
  pub row_kept : AreTouched size flags picture first → get_or touched n false ≡ false → AreCopied size picture first flags (n + 1) touched marked
  row_kept kept flag = record {
    done = λ x y left above lt. elim (cases_lt y n) [
      | inl less ↦ before.done x y left above less
      | inr ge ↦ before.rest x y left above ge ∙ sym (kept.same x y left above (flag_at y (omega (arith, lt, ge))))
    ];
    rest = λ x y left above le. before.rest x y left above (omega (arith, le));
    unread = λ y le. before.unread y (omega (arith, le));
  }
    where
      flag_at : (y : ℕ) → y ≡ n → get_or flags y false ≡ false
      flag_at y e = sym (before.unread y (omega (arith, e))) ∙ subst (λ (k : ℕ). get_or touched k false ≡ false) (sym e) flag

-- the rows before row n are the same in both pictures, so they needn't be copied
pub none_copied : (size : Size) (picture first : List (Option ℕ)) (flags : List Bool) (n : ℕ)
    → ((x y : ℕ) → x < size.w → y < size.h → y < n → pixel_at size picture None x y ≡ pixel_at size first None x y) → AreCopied size picture first flags n flags first
none_copied size picture first flags n same = record {
  done = λ x y left above less. sym (same x y left above less);
  rest = λ x y left above le. refl;
  unread = λ y le. refl;
}
