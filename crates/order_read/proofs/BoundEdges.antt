-- Bounds, edge by edge.
use Rattle.std.proofs.Common.{◌≡◌, ℕ, ℤ, List, true, false, refl, Some, subst}
use Rattle.std.specs.Prelude.{Ok, Err}
use Rattle.wire_num.specs.Field.{Read}
use Rattle.wire_num.specs.Number.{little_at}
use Rattle.order_fields.specs.OrderTable.{Edges, edges}
use Rattle.order_fields.specs.OrderStream.{has_bit, edge_at, edges_at, bounds_at}

-- the edges are those that the code reads
abbrev Reading : ℕ → Edges → List ℕ → Read Edges → Type 0
Reading flags old a read = edges_at flags old a ≡ read

pub no_right : (flags : ℕ) (old : Edges) (left top right bottom l t : ℤ) (a b c : List ℕ) → edges left top right bottom ≡ old
    → edge_at (has_bit flags 1) (has_bit flags 16) left a ≡ Ok (l, b) → edge_at (has_bit flags 2) (has_bit flags 32) top b ≡ Ok (t, c)
    → edge_at (has_bit flags 4) (has_bit flags 64) right c ≡ Err c → edges_at flags old a ≡ Err c
no_right flags old left top right bottom l t a b c same e f g = subst (λ o. Reading flags o a (Err c)) same (rw (e, f, g) refl)

pub no_bottom : (flags : ℕ) (old : Edges) (left top right bottom l t r : ℤ) (a b c d : List ℕ) → edges left top right bottom ≡ old
    → edge_at (has_bit flags 1) (has_bit flags 16) left a ≡ Ok (l, b) → edge_at (has_bit flags 2) (has_bit flags 32) top b ≡ Ok (t, c)
    → edge_at (has_bit flags 4) (has_bit flags 64) right c ≡ Ok (r, d) → edge_at (has_bit flags 8) (has_bit flags 128) bottom d ≡ Err d → edges_at flags old a ≡ Err d
no_bottom flags old left top right bottom l t r a b c d same e f g h = subst (λ o. Reading flags o a (Err d)) same (rw (e, f, g, h) refl)

pub all_edges : (flags : ℕ) (old : Edges) (left top right bottom l t r m : ℤ) (a b c d more : List ℕ) → edges left top right bottom ≡ old
    → edge_at (has_bit flags 1) (has_bit flags 16) left a ≡ Ok (l, b) → edge_at (has_bit flags 2) (has_bit flags 32) top b ≡ Ok (t, c)
    → edge_at (has_bit flags 4) (has_bit flags 64) right c ≡ Ok (r, d) → edge_at (has_bit flags 8) (has_bit flags 128) bottom d ≡ Ok (m, more) → edges_at flags old a ≡ Ok (edges l t r m, more)
all_edges flags old left top right bottom l t r m a b c d more same e f g h = subst (λ o. Reading flags o a (Ok (edges l t r m, more))) same (rw (e, f, g, h) refl)

pub no_edges : (old : Edges) (flags : ℕ) (a b left : List ℕ) → little_at 1 a ≡ Ok (flags, b) → edges_at flags old b ≡ Err left → bounds_at true false old a ≡ Err left
no_edges old flags a b left e f = rw (e, f) refl

pub new_edges : (old new : Edges) (flags : ℕ) (a b more : List ℕ) → little_at 1 a ≡ Ok (flags, b) → edges_at flags old b ≡ Ok (new, more) → bounds_at true false old a ≡ Ok (Some new, more)
new_edges old new flags a b more e f = rw (e, f) refl
