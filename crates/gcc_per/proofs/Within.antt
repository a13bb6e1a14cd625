-- Content read by a cursor of its own.
use Rattle.std.proofs.Common.{◌≡◌, ℕ, ◌+◌, ◌≤◌, List, ◌++◌, length, take, drop, ap, sym, ◌∙◌, arith}
use Rattle.std.specs.Prelude.{Ok}
use Rattle.std.proofs.lemmas.List.{length-take-le}
use Rattle.wire_num.specs.Field.{bytes_at}
use Rattle.wire_num.specs.Cursor.{CursorOf, rest}
use Rattle.wire_num.proofs.Content.{rest_of_content}
use Rattle.wire_num.proofs.ReadIsText.{bytes_ok}

-- content of n bytes has n bytes
pub content_size : (n : ℕ) (bs content after : List ℕ) → bytes_at n bs ≡ Ok (content, after) → length content ≡ n
content_size n bs content after e =
    let there = bytes_ok n bs (content, after) e in
    sym (ap length there.1) ∙ length-take-le n bs there.0

-- a cursor that was refused in content, and one in the whole at that place
pub refused_in_content : (old content after refused new : CursorOf) (n place : ℕ) → old.at + n ≤ length old.bytes
    → after ≡ record { bytes = old.bytes; at = old.at + n } → content ≡ record { bytes = take (old.at + n) old.bytes; at = old.at }
    → refused.bytes ≡ content.bytes → place ≡ refused.at → place ≤ length refused.bytes → new ≡ record { bytes = after.bytes; at = place }
    → rest refused ++ rest after ≡ rest new
refused_in_content old content after refused new n place fits behind offsets same there inside moved =
    let bytes : refused.bytes ≡ take (old.at + n) old.bytes = same ∙ ap (λ r. r.bytes) offsets in
    let size : length (take (old.at + n) old.bytes) ≡ old.at + n = length-take-le (old.at + n) old.bytes fits in
    let near : refused.at ≤ old.at + n = omega (arith, inside, there, ap length bytes, size) in
    ap (λ xs. drop refused.at xs ++ rest after) bytes
    ∙ ap (λ r. drop refused.at (take (old.at + n) old.bytes) ++ rest r) behind
    ∙ rest_of_content refused.at (old.at + n) old.bytes near fits
    ∙ sym (ap rest moved ∙ ap (λ k. drop k after.bytes) there ∙ ap (λ r. drop refused.at r.bytes) behind)
