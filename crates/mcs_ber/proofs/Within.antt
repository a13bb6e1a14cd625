-- Fields in counted content, read by a cursor of its own.
use Rattle.std.proofs.Common.{◌≡◌, ℕ, ◌+◌, ◌≤◌, List, [], ◌∷◌, ◌++◌, length, take, drop, refl, ap, sym, ◌∙◌, arith}
use Rattle.std.specs.Prelude.{Result, Ok, Err, OnOk}
use Rattle.std.proofs.lemmas.List.{length-take-le}
use Rattle.wire_num.specs.declared.short.Short.{Short}
use Rattle.wire_num.specs.FieldValue.{end_at}
use Rattle.wire_num.specs.Field.{Read, then_read, map_read, bytes_at}
use Rattle.wire_num.specs.Length.{ber_len_at}
use Rattle.wire_num.specs.Layout.{Layout, Within, Basic, before, fields_at}
use Rattle.wire_num.specs.Cursor.{CursorOf, rest, ReadsFieldAs, ReadsFieldsAs}
use Rattle.wire_num.proofs.Content.{rest_of_content}

-- ---- the end

pub end_none : (bs : List ℕ) (y : List ℕ × List ℕ) → end_at bs ≡ Ok y → bs ≡ []
end_none [] y e = refl
end_none (b ∷ bs) y e = absurd (let h : ⊥ = cc in h)

end_again : end_at [] ≡ Ok ([], [])
end_again = refl

pub at_end : {X : Type 0} (r : Result X Short) (c : CursorOf) → ReadsFieldAs (λ _. []) end_at r c c → OnOk r (rest c ≡ [])
at_end (Ok v) c p = end_none (rest c) ([], rest c) p.0
at_end (Err short) c p = tt

-- ---- content

abbrev inside : Layout → List ℕ → Read (List ℕ)
inside inner content = then_read (fields_at inner content) (λ vs left. map_read (λ _. vs) (end_at left))

abbrev content_then : Layout → Layout → List ℕ → List ℕ → Read (List ℕ)
content_then inner next content after =
    then_read (before after (inside inner content)) (λ vs rest. map_read (λ more. vs ++ more) (fields_at next rest))

abbrev counted_then : Layout → Layout → ℕ → List ℕ → Read (List ℕ)
counted_then inner next n rest = then_read (bytes_at n rest) (λ content after. content_then inner next content after)

to_content : (inner next : Layout) (bs counted content after : List ℕ) (n : ℕ) → ber_len_at bs ≡ Ok (n, counted) → bytes_at n counted ≡ Ok (content, after)
    → fields_at (Within Basic inner next) bs ≡ content_then inner next content after
to_content inner next bs counted content after n e h =
    ap (λ r. then_read r (λ k rest. counted_then inner next k rest)) e
    ∙ ap (λ r. then_read r (λ xs ys. content_then inner next xs ys)) h

-- the fields fill their content
pub within_ok : (inner next : Layout) (bs counted content after values left : List ℕ) (n : ℕ) → ber_len_at bs ≡ Ok (n, counted) → bytes_at n counted ≡ Ok (content, after)
    → fields_at inner content ≡ Ok (values, left) → left ≡ [] → fields_at (Within Basic inner next) bs ≡ map_read (λ more. values ++ more) (fields_at next after)
within_ok inner next bs counted content after values left n e h f g =
    to_content inner next bs counted content after n e h
    ∙ ap (λ r. then_read (before after (then_read r (λ vs l. map_read (λ _. vs) (end_at l)))) (λ vs rest. map_read (λ more. vs ++ more) (fields_at next rest))) (f ∙ ap (λ l. Ok (values, l)) g)
    ∙ ap (λ r. then_read (before after (map_read (λ _. values) r)) (λ vs rest. map_read (λ more. vs ++ more) (fields_at next rest))) end_again

-- a field in the content is refused
pub within_err : (inner next : Layout) (bs counted content after left : List ℕ) (n : ℕ) → ber_len_at bs ≡ Ok (n, counted) → bytes_at n counted ≡ Ok (content, after)
    → fields_at inner content ≡ Err left → fields_at (Within Basic inner next) bs ≡ Err (left ++ after)
within_err inner next bs counted content after left n e h f =
    to_content inner next bs counted content after n e h
    ∙ ap (λ r. then_read (before after (then_read r (λ vs l. map_read (λ _. vs) (end_at l)))) (λ vs rest. map_read (λ more. vs ++ more) (fields_at next rest))) f

-- the refused bytes, seen in the whole: content of n bytes from a place on, in which a cursor was refused
pub refused_within : (bytes inner_bytes : List ℕ) (at n place : ℕ) → at + n ≤ length bytes → inner_bytes ≡ take (at + n) bytes → place ≤ length inner_bytes
    → drop place inner_bytes ++ drop (at + n) bytes ≡ drop place bytes
refused_within bytes inner_bytes at n place fits same inside =
    let size : length (take (at + n) bytes) ≡ at + n = length-take-le (at + n) bytes fits in
    let near : place ≤ at + n = omega (arith, inside, ap length same, size) in
    ap (λ xs. drop place xs ++ drop (at + n) bytes) same ∙ rest_of_content place (at + n) bytes near fits

pub map_same : (r : Read (List ℕ)) → map_read (λ vs. vs) r ≡ r
map_same (Ok v) = refl
map_same (Err l) = refl

-- the same of cursors: one behind the content, one refused in it, and one in the whole at that place
pub refused_in_content : (old content after refused new : CursorOf) (n place : ℕ) → old.at + n ≤ length old.bytes
    → after ≡ record { bytes = old.bytes; at = old.at + n } → content ≡ record { bytes = take (old.at + n) old.bytes; at = old.at }
    → refused.bytes ≡ content.bytes → place ≡ refused.at → place ≤ length refused.bytes → new ≡ record { bytes = after.bytes; at = place }
    → rest refused ++ rest after ≡ rest new
refused_in_content old content after refused new n place fits behind offsets same there inside moved =
    let near : refused.at ≤ length refused.bytes = omega (arith, inside, there) in
    ap (λ r. rest refused ++ rest r) behind
    ∙ refused_within old.bytes refused.bytes old.at n refused.at fits (same ∙ ap (λ r. r.bytes) offsets) near
    ∙ sym (ap rest moved ∙ ap (λ k. drop k after.bytes) there ∙ ap (λ r. drop refused.at r.bytes) behind)

-- rows that were read, and then what a call read after them
pub onward : {X : Type 0} (view : X → List ℕ) (read later : List ℕ → Read (List ℕ)) (r : Result X Short) (old middle new : CursorOf)
    → read (rest old) ≡ later (rest middle) → middle.bytes ≡ old.bytes → ReadsFieldsAs view later r middle new → ReadsFieldsAs view read r old new
onward view read later (Ok v) old middle new e b p = (e ∙ p.0, p.1 ∙ b)
onward view read later (Err short) old middle new e b p = (e ∙ p.0, p.1 ∙ b, p.2)
