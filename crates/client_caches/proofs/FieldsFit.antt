-- The values of an order's fields, each by its kind.
use Rattle.std.proofs.Common.{◌≡◌, ◌<◌, ◌≤◌, ℕ, ℤ, List, length, get_or, ap, sym, ◌∙◌, subst, true, Bool, Some, arith}
use Rattle.std.specs.Prelude.{pos, negsuc}
use Rattle.px_core.specs.Picture.{nat_of}
use Rattle.px_core.proofs.Pictures.{item-get_or}
use Rattle.order_fields.specs.declared.kind.FieldKind.{FieldKind}
use Rattle.order_fields.specs.declared.kind.FieldKind.TheVariants.{Coordinate}
use Rattle.order_fields.specs.OrderTable.{FitKinds, FitsKind, IsBelow}
use Rattle.order_fields.specs.NamedDrawing.{NamedDrawing, value, drawing_if}
use Rattle.order_fields.proofs.FieldsAt.{fit_at}

pub kind_at : (i : ℕ) (ks : List FieldKind) (zs : List ℤ) → FitKinds ks zs → i < length ks → FitsKind (get_or ks i Coordinate) (value zs i)
kind_at i ks zs fit h = subst (FitsKind (get_or ks i Coordinate)) (sym (item-get_or zs i (pos 0))) (fit_at i ks zs Coordinate (pos 0) fit h)

pub below_more : (m n : ℕ) (z : ℤ) → m ≤ n → IsBelow m z → IsBelow n z
below_more m n (pos k) le h = omega arith
below_more m n (negsuc k) le h = absurd h

pub number_below : (n : ℕ) (z : ℤ) → IsBelow n z → nat_of z < n
number_below n (pos k) h = h
number_below n (negsuc k) h = absurd h

-- a drawing of which its test holds
pub shown : (d e : NamedDrawing) (test : Bool) → test ≡ true → d ≡ e → Some d ≡ drawing_if test e
shown d e test t same = ap (λ x. Some x) same ∙ sym (ap (λ b. drawing_if b e) t)
