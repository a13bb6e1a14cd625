-- What stands within the total of a share data PDU: the body of an update, and what stands behind a kind.
use Rattle.std.proofs.Common.{◌≡◌, ◌≤◌, ◌+◌, ◌-◌, ℕ, zero, suc, List, [], ◌∷◌, ◌++◌, length, take, drop, refl, ap, sym, ◌∙◌, arith, true, false}
use Rattle.std.specs.Prelude.{Ok, Err, nat_le, ◌&&◌}
use Rattle.std.proofs.lemmas.List.{length-take-le, drop-take, length-drop}
use Rattle.wire_num.specs.Field.{Read, then_read, map_read, kept, taken, bytes_at}
use Rattle.wire_num.specs.Number.{little_at}
use Rattle.wire_num.specs.FieldValue.{as_one_field}
use Rattle.wire_num.specs.Cursor.{CursorOf, rest}
use Rattle.wire_num.proofs.Content.{rest_of_content}
use Rattle.share_pdu.specs.Share.{Within, share_at, headers_at, body_within}
use Rattle.order_means.specs.PointerPackets.{kind_at, content_by, content_at}
use Rattle.update_read.specs.PacketParts.{total_at, IsPart, IsBody}
use Rattle.update_read.proofs.Headers.{share_behind_total, content_behind_total}

-- ---- the total

one_map : (whole : List ℕ) (f : List ℕ → List ℕ) (r : Read (List ℕ)) → as_one_field whole (map_read f r) ≡ map_read f (as_one_field whole r)
one_map whole f (Ok v) = refl
one_map whole f (Err left) = refl

-- so many bytes of a field that began before them
pub taken_as : (u w : List ℕ) (n : ℕ) (bs : List ℕ) → as_one_field u (taken w n bs) ≡ taken u n bs
taken_as u w zero bs = refl
taken_as u w (suc n) [] = refl
taken_as u w (suc n) (b ∷ bs) = one_map u (λ xs. b ∷ xs) (taken w n bs) ∙ ap (map_read (λ xs. b ∷ xs)) (taken_as u w n bs)

abbrev by_total : List ℕ → Read ℕ → Read (List ℕ)
by_total bs r = then_read r (λ total a. kept (nat_le 6 total && nat_le total (length bs)) (taken bs (total - 2) a) bs)

pub total_refused : (total : ℕ) (bs a : List ℕ) → little_at 2 bs ≡ Ok (total, a) → (nat_le 6 total && nat_le total (length bs)) ≡ false → total_at bs ≡ Err bs
total_refused total bs a e unfit = ap (by_total bs) e ∙ ap (λ b. kept b (taken bs (total - 2) a) bs) unfit

pub total_from : (total : ℕ) (bs a : List ℕ) (r : Read (List ℕ)) → little_at 2 bs ≡ Ok (total, a) → (nat_le 6 total && nat_le total (length bs)) ≡ true → bytes_at (total - 2) a ≡ r → total_at bs ≡ as_one_field bs r
total_from total bs a r e fit f =
    ap (by_total bs) e ∙ ap (λ b. kept b (taken bs (total - 2) a) bs) fit ∙ sym (taken_as bs a (total - 2) a) ∙ ap (as_one_field bs) f

-- a cursor that went back
pub went_back : (first : ℕ) (old mid new : CursorOf) → new ≡ record { bytes = mid.bytes; at = first } → mid.bytes ≡ old.bytes → first ≡ old.at → new ≡ old
went_back first old mid new e bytes at = e ∙ ap (λ (bs : List ℕ). record { bytes = bs; at = first }) bytes ∙ ap (λ (n : ℕ). record { bytes = old.bytes; at = n }) at

-- ---- within it

-- a total was read, and this stands within it
pub record IsTotal (content old new : CursorOf) : Type 0 where
  pub total : total_at (rest old) ≡ Ok (rest content, rest new)
  pub same : new.bytes ≡ old.bytes
  pub part : IsPart content old new

few : (old new content inner : CursorOf) → IsTotal content old new → inner.bytes ≡ content.bytes → inner.at ≤ length inner.bytes → inner.at ≤ new.at
few old new content inner is same within =
    let size = length-take-le new.at old.bytes is.part.inside in
    let long : length inner.bytes ≡ length (take new.at old.bytes) = ap length (same ∙ is.part.bytes) in
    omega (arith, size, long, within)

rest_is : (old new content inner : CursorOf) → IsTotal content old new → inner.bytes ≡ content.bytes → inner.at ≤ length inner.bytes → rest inner ++ rest new ≡ drop inner.at old.bytes
rest_is old new content inner is same within =
    ap (λ (bs : List ℕ). drop inner.at bs ++ rest new) (same ∙ is.part.bytes) ∙ ap (λ (bs : List ℕ). drop inner.at (take new.at old.bytes) ++ drop new.at bs) is.same
    ∙ rest_of_content inner.at new.at old.bytes (few old new content inner is same within) is.part.inside

-- ---- an update's body

abbrev body_by : Read (List ℕ) → Read Within
body_by r = then_read r (λ inside after. body_within (headers_at inside) after)

-- a header is refused in the cursor's slice
pub headers_refused : (old new content inner : CursorOf) → IsTotal content old new → inner.bytes ≡ content.bytes → inner.at ≤ length inner.bytes → headers_at (rest content) ≡ Err (rest inner)
    → share_at (rest old) ≡ Err (drop inner.at old.bytes)
headers_refused old new content inner is same within e =
    share_behind_total (rest old) ∙ ap body_by is.total ∙ ap (λ r. body_within r (rest new)) e ∙ ap (λ (bs : List ℕ). Err bs) (rest_is old new content inner is same within)

-- the body is what is left
pub body_read : (from to : ℕ) (field : List ℕ) (old new content inner : CursorOf) → IsTotal content old new → inner.bytes ≡ content.bytes → inner.at ≤ length inner.bytes
    → headers_at (rest content) ≡ Ok (field, rest inner) → from ≡ inner.at → to ≡ new.at → IsBody share_at (record { from = from; to = to }) old new
body_read from to field old new content inner is same within e first last =
    let low = few old new content inner is same within in
    let all = rest_is old new content inner is same within in
    let size = length-drop inner.at old.bytes in
    let m : ℕ = new.at - inner.at in
    let sum : inner.at + m ≡ new.at = omega (arith, low) in
    let count : to - from ≡ m = omega (arith, first, last) in
    let bytes : rest inner ≡ take m (drop inner.at old.bytes) = ap (drop inner.at) (same ∙ is.part.bytes) ∙ ap (λ (n : ℕ). drop inner.at (take n old.bytes)) (sym sum) ∙ drop-take inner.at m old.bytes in
    let fits = is.part.inside in
    record {
      within = record { bytes = rest inner; behind = length (rest inner ++ rest new) };
      after = rest new;
      stands = share_behind_total (rest old) ∙ ap body_by is.total ∙ ap (λ r. body_within r (rest new)) e;
      bytes = bytes ∙ ap (λ (n : ℕ). take n (drop inner.at old.bytes)) (sym count) ∙ ap (λ (n : ℕ). take (to - from) (drop n old.bytes)) (sym first);
      behind = let long : length (rest inner ++ rest new) ≡ length (drop inner.at old.bytes) = ap length all in omega (arith, long, size, first, low, fits);
      ordered = omega (arith, first, last, low);
      inside = omega (arith, last, fits);
      same = is.same;
    }

-- ---- behind a kind

abbrev kind_by : ℕ → Read (List ℕ) → Read (List ℕ)
kind_by kind r = then_read r (λ inside after. content_by (kind_at kind inside) after)

pub content_refused : (kind : ℕ) (bs left : List ℕ) → total_at bs ≡ Err left → content_at kind bs ≡ Err left
content_refused kind bs left e = content_behind_total kind bs ∙ ap (kind_by kind) e

pub kind_refused : (kind : ℕ) (left : List ℕ) (old new content : CursorOf) → IsTotal content old new → kind_at kind (rest content) ≡ Err left → content_at kind (rest old) ≡ Err (left ++ rest new)
kind_refused kind left old new content is e = content_behind_total kind (rest old) ∙ ap (kind_by kind) is.total ∙ ap (λ r. content_by r (rest new)) e
