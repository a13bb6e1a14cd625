-- The bounds that are written are read back, over any last bounds.
use Rattle.std.proofs.Common.{◌≡◌, ℕ, ◌+◌, ◌*◌, ◌/◌, ◌%◌, ◌≤◌, ℤ, List, ◌++◌, refl, ap, ◌∙◌, arith, Some, None, Bool, true, false, append_assoc}
use Rattle.std.specs.Prelude.{Ok, Option, ◌==◌, ◌&&◌, ◌-ℤ◌}
use Rattle.std.specs.Ordering.{int_eq}
use Rattle.std.specs.Cmp.{signed_Decides}
use Rattle.std.proofs.lemmas.Bool.{false≢true}
use Rattle.wire_num.specs.Field.{map_read}
use Rattle.order_fields.specs.OrderTable.{Edges, FitEdges, FitBounds, fits_coordinate}
use Rattle.order_fields.specs.OrderStream.{edge_at, edges_at, bounds_at}
use Rattle.order_fields.specs.OrderDelta.{change, change_by, is_anew, is_moved, is_byte, edge_bytes, edges_bytes, flags_between, same_edges, keeps_bounds, bounds_bytes, has_bounds}
use Rattle.order_fields.specs.declared.change.Change.{Change}
use Rattle.order_fields.specs.declared.change.Change.TheVariants.{Same, Moved, Anew}
use Rattle.order_fields.proofs.Numbers.{signed_back, moved_back}

edge_by : (l z : ℤ) (same near : Bool) (rest : List ℕ) → int_eq l z ≡ same → is_byte (z -ℤ l) ≡ near → fits_coordinate z ≡ true →
    edge_at (is_anew (change_by same near) == 1) (is_moved (change_by same near) == 1) l (edge_bytes (change_by same near) l z ++ rest) ≡ Ok (z, rest)
edge_by l z true near rest e n fits = ap (λ y. Ok (y, rest)) ((signed_Decides l z).0 e)
edge_by l z false true rest e n fits = moved_back l z rest n fits
edge_by l z false false rest e n fits = signed_back z rest fits

edge_back : (l z : ℤ) (rest : List ℕ) → fits_coordinate z ≡ true → edge_at (is_anew (change l z) == 1) (is_moved (change l z) == 1) l (edge_bytes (change l z) l z ++ rest) ≡ Ok (z, rest)
edge_back l z rest fits = edge_by l z (int_eq l z) (is_byte (z -ℤ l)) rest refl refl fits

anew_most : (c : Change) → is_anew c ≤ 1
anew_most Same = omega arith
anew_most Moved = omega arith
anew_most Anew = omega arith

moved_most : (c : Change) → is_moved c ≤ 1
moved_most Same = omega arith
moved_most Moved = omega arith
moved_most Anew = omega arith

abbrev flag_sum : ℕ → ℕ → ℕ → ℕ → ℕ → ℕ → ℕ → ℕ → ℕ
flag_sum a b c d m n o p = a + 2 * b + 4 * c + 8 * d + 16 * m + 32 * n + 64 * o + 128 * p

bits_back : (a b c d m n o p : ℕ) → a ≤ 1 → b ≤ 1 → c ≤ 1 → d ≤ 1 → m ≤ 1 → n ≤ 1 → o ≤ 1 → p ≤ 1 →
    ((flag_sum a b c d m n o p / 1) % 2 ≡ a) × ((flag_sum a b c d m n o p / 2) % 2 ≡ b) × ((flag_sum a b c d m n o p / 4) % 2 ≡ c) × ((flag_sum a b c d m n o p / 8) % 2 ≡ d)
    × ((flag_sum a b c d m n o p / 16) % 2 ≡ m) × ((flag_sum a b c d m n o p / 32) % 2 ≡ n) × ((flag_sum a b c d m n o p / 64) % 2 ≡ o) × ((flag_sum a b c d m n o p / 128) % 2 ≡ p)
bits_back a b c d m n o p ha hb hc hd hm hn ho hp = (omega arith, omega arith, omega arith, omega arith, omega arith, omega arith, omega arith, omega arith)

edges_back : (old new : Edges) (rest : List ℕ) → FitEdges new → edges_at (flags_between old new) old (edges_bytes old new ++ rest) ≡ Ok (new, rest)
edges_back old new rest fits =
    let l = change old.left new.left in
    let t = change old.top new.top in
    let r = change old.right new.right in
    let b = change old.bottom new.bottom in
    let bits = bits_back (is_anew l) (is_anew t) (is_anew r) (is_anew b) (is_moved l) (is_moved t) (is_moved r) (is_moved b)
    (anew_most l) (anew_most t) (anew_most r) (anew_most b) (moved_most l) (moved_most t) (moved_most r) (moved_most b) in
    let xs = edge_bytes l old.left new.left in
    let ys = edge_bytes t old.top new.top in
    let zs = edge_bytes r old.right new.right in
    let ws = edge_bytes b old.bottom new.bottom in
    rw (
      bits.0,
      bits.1,
      bits.2,
      bits.3,
      bits.4,
      bits.5,
      bits.6,
      bits.7,
      append_assoc xs (ys ++ (zs ++ ws)) rest,
      append_assoc ys (zs ++ ws) rest,
      append_assoc zs ws rest,
      edge_back old.left new.left (ys ++ (zs ++ (ws ++ rest))) fits.left,
      edge_back old.top new.top (zs ++ (ws ++ rest)) fits.top,
      edge_back old.right new.right (ws ++ rest) fits.right,
      edge_back old.bottom new.bottom rest fits.bottom,
    ) refl

and_parts : (a b : Bool) → (a && b) ≡ true → (a ≡ true) × (b ≡ true)
and_parts true b h = (refl, h)
and_parts false b h = absurd (false≢true h)

none_changed : (old new : Edges) → same_edges old new ≡ true → old ≡ new
none_changed old new h =
    let halves = and_parts (int_eq old.left new.left && int_eq old.top new.top) (int_eq old.right new.right && int_eq old.bottom new.bottom) h in
    let first = and_parts (int_eq old.left new.left) (int_eq old.top new.top) halves.0 in
    let second = and_parts (int_eq old.right new.right) (int_eq old.bottom new.bottom) halves.1 in
    let l : old.left ≡ new.left = (signed_Decides old.left new.left).0 first.0 in
    let t : old.top ≡ new.top = (signed_Decides old.top new.top).0 first.1 in
    let r : old.right ≡ new.right = (signed_Decides old.right new.right).0 second.0 in
    let b : old.bottom ≡ new.bottom = (signed_Decides old.bottom new.bottom).0 second.1 in
    λ i. record { left = l i; top = t i; right = r i; bottom = b i }

bounds_by : (keeps confirmed : Bool) (old new : Edges) (rest : List ℕ) → keeps_bounds confirmed old (Some new) ≡ keeps → FitEdges new →
    bounds_at true keeps old (bounds_bytes keeps old (Some new) ++ rest) ≡ Ok (Some new, rest)
bounds_by true confirmed old new rest e fits = ap (λ x. Ok (Some x, rest)) (none_changed old new (and_parts confirmed (same_edges old new) e).1)
bounds_by false confirmed old new rest e fits =
    let n : flags_between old new + 256 * 0 ≡ flags_between old new = omega arith in
    ap (λ m. map_read Some (edges_at m old (edges_bytes old new ++ rest))) n ∙ ap (map_read Some) (edges_back old new rest fits)

pub bounds_back : (confirmed : Bool) (old : Edges) (bounds : Option Edges) (rest : List ℕ) → FitBounds bounds →
    bounds_at (has_bounds bounds) (keeps_bounds confirmed old bounds) old (bounds_bytes (keeps_bounds confirmed old bounds) old bounds ++ rest) ≡ Ok (bounds, rest)
bounds_back confirmed old None rest fits = refl
bounds_back confirmed old (Some new) rest fits = bounds_by (keeps_bounds confirmed old (Some new)) confirmed old new rest refl fits
