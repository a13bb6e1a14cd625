use Rattle.std.proofs.Common.{◌≡◌, ◌++◌, ap, ◌∙◌, ℕ, List, append_assoc}
use Rattle.byteorder.specs.Endian.{little_bytes}
use Rattle.viewer_wire.proofs.connect_initial.put_initial.Goals as goal

three : (old a b c l m n said : List ℕ) → l ≡ old ++ a → m ≡ l ++ b → n ≡ m ++ c → b ≡ said → n ≡ old ++ (a ++ (said ++ c))
three old a b c l m n said e f g is =
    g ∙ ap (λ (xs : List ℕ). xs ++ c) (f ∙ ap (λ (xs : List ℕ). xs ++ b) e)
    ∙ append_assoc (old ++ a) b c ∙ append_assoc old a (b ++ c) ∙ ap (λ (xs : List ℕ). old ++ (a ++ (xs ++ c))) is

pub returns : goal.returns
returns c =
    three _ _ _ _ _ _ _ _ c.in_ok-extend_from_slice.ensures.items c.in_ok-extend_from_slice-2.ensures.items c.in_ok-extend_from_slice-3.ensures.items
    (c.to_le_bytes.ensures ∙ ap (little_bytes 2) c.bits_in.ensures)
