-- Fields in counted content, and whole packets.
use Rattle.std.proofs.Common.{◌≡◌, ℕ, ◌≤◌, List, [], ◌++◌, length, drop, refl, ap, sym, ◌∙◌, arith, length-drop}
use Rattle.std.specs.Prelude.{Result, Ok, Err}
use Rattle.wire_num.specs.declared.short.Short.{Short}
use Rattle.wire_num.specs.Field.{Read, then_read, map_read, bytes_at, place_in}
use Rattle.wire_num.specs.FieldValue.{end_at, placed}
use Rattle.wire_num.specs.Layout.{Layout, Within, Count, count_at, before, fields_at}
use Rattle.wire_num.specs.Cursor.{CursorOf, rest, ReadsFieldAs, ReadsFieldsAs, ReadsRows}
use Rattle.mcs_ber.proofs.Within.{map_same}

abbrev content_then : Layout → Layout → List ℕ → List ℕ → Read (List ℕ)
content_then inner next content after =
    then_read (before after (then_read (fields_at inner content) (λ vs left. map_read (λ _. vs) (end_at left)))) (λ vs rest. map_read (λ more. vs ++ more) (fields_at next rest))

to_content : (form : Count) (inner next : Layout) (bs counted content after : List ℕ) (n : ℕ) → count_at form bs ≡ Ok (n, counted) → bytes_at n counted ≡ Ok (content, after)
    → fields_at (Within form inner next) bs ≡ content_then inner next content after
to_content form inner next bs counted content after n e h =
    ap (λ r. then_read r (λ k left. then_read (bytes_at k left) (λ xs ys. content_then inner next xs ys))) e
    ∙ ap (λ r. then_read r (λ xs ys. content_then inner next xs ys)) h

-- the fields, which have no values, fill their content
pub counted_ok : (form : Count) (inner : Layout) (bs counted content after left : List ℕ) (n : ℕ) → count_at form bs ≡ Ok (n, counted) → bytes_at n counted ≡ Ok (content, after)
    → fields_at inner content ≡ Ok ([], left) → left ≡ [] → (next : Layout) → fields_at (Within form inner next) bs ≡ fields_at next after
counted_ok form inner bs counted content after left n e h f g next =
    to_content form inner next bs counted content after n e h
    ∙ ap (λ r. then_read (before after (then_read r (λ vs l. map_read (λ _. vs) (end_at l)))) (λ vs rest. map_read (λ more. vs ++ more) (fields_at next rest))) (f ∙ ap (λ l. Ok ([], l)) g)
    ∙ map_same (fields_at next after)

-- a field in the content is refused
pub counted_err : (form : Count) (inner : Layout) (bs counted content after left place : List ℕ) (n : ℕ) → count_at form bs ≡ Ok (n, counted) → bytes_at n counted ≡ Ok (content, after)
    → fields_at inner content ≡ Err left → left ++ after ≡ place → (next : Layout) → fields_at (Within form inner next) bs ≡ Err place
counted_err form inner bs counted content after left place n e h f g next =
    to_content form inner next bs counted content after n e h
    ∙ ap (λ r. then_read (before after (then_read r (λ vs l. map_read (λ _. vs) (end_at l)))) (λ vs rest. map_read (λ more. vs ++ more) (fields_at next rest))) f
    ∙ ap Err g

-- a call that moves nothing
pub field_alone : {X A : Type 0} (view : X → A) (read : List ℕ → Read A) (r : Result X Short) (c : CursorOf) → ReadsFieldAs view read r c c → ReadsFieldsAs view read r c c
field_alone view read (Ok v) c p = p
field_alone view read (Err short) c p = (p.0, refl, p.2)

-- rows, and then those that another call reads
pub rows_onward : {X : Type 0} (rows more : Layout → Layout) (r : Result X Short) (old mid new : CursorOf) → ((next : Layout) → fields_at (rows next) (rest old) ≡ fields_at next (rest mid))
    → mid.bytes ≡ old.bytes → ReadsRows more r mid new → ReadsRows (λ next. rows (more next)) r old new
rows_onward rows more (Ok v) old mid new first bytes p = (λ next. first (more next) ∙ p.0 next, p.1 ∙ bytes)
rows_onward rows more (Err short) old mid new first bytes p = (λ next. first (more next) ∙ p.0 next, p.1 ∙ bytes, p.2)

-- ---- whole packets

-- the place of what is left from a place on
place_is : (packet : List ℕ) (at : ℕ) → at ≤ length packet → place_in packet (drop at packet) ≡ at
place_is packet at h = let size = length-drop at packet in omega (arith, size, h)

abbrev pub first_at : List ℕ → CursorOf
first_at packet = record { bytes = packet; at = 0 }

pub whole_ok : {X A : Type 0} (view : X → A) (read : List ℕ → Read A) (v : X) (packet : List ℕ) (old new : CursorOf) → old ≡ first_at packet → ReadsFieldsAs view read (Ok v) old new
    → placed (λ at. at) packet (read packet) ≡ Ok (view v)
whole_ok view read v packet old new e p = ap (placed (λ at. at) packet) (ap (λ (k : CursorOf). read (rest k)) (sym e) ∙ p.0)

pub whole_err : {X A : Type 0} (view : X → A) (read : List ℕ → Read A) (short : Short) (packet : List ℕ) (old new : CursorOf) (at : ℕ) → old ≡ first_at packet → ReadsFieldsAs view read (Err short) old new
    → at ≡ new.at → at ≤ length new.bytes → placed (λ at. at) packet (read packet) ≡ Err at
whole_err view read short packet old new at e p there inside =
    let bytes : new.bytes ≡ packet = p.1 ∙ ap (λ (k : CursorOf). k.bytes) e in
    let near : new.at ≤ length packet = omega (arith, inside, there, ap length bytes) in
    ap (placed (λ at. at) packet) (ap (λ (k : CursorOf). read (rest k)) (sym e) ∙ p.0)
    ∙ ap Err (ap (λ (xs : List ℕ). place_in packet (drop new.at xs)) bytes ∙ place_is packet new.at near ∙ sym there)
