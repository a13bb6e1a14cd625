-- Rectangles from their parts, one after the other.
use Rattle.std.proofs.Common.{◌≡◌, ◌≤◌, ◌<◌, ◌+◌, ◌-◌, ℕ, suc, List, [], ◌∷◌, ◌++◌, length, take, drop, refl, ap, sym, ◌∙◌, append_assoc, append-nil, arith}
use Rattle.std.specs.Prelude.{Ok, Err, nat_lt}
use Rattle.std.proofs.lemmas.List.{map-append, length-drop}
use Rattle.wire_num.specs.Field.{Read, then_read, map_read, bytes_at}
use Rattle.wire_num.specs.Number.{little_at}
use Rattle.wire_num.proofs.Bytes.{bytes_at_is}
use Rattle.wire_num.proofs.Steps.{short_ok, fits}
use Rattle.wire_num.specs.Cursor.{CursorOf, rest}
use Rattle.order_means.specs.FrameMarks.{Tile as Rectangle, tile_at, tiles_at}
use Rattle.update_read.specs.declared.tile.Tile.{Tile}
use Rattle.update_read.specs.declared.tile.Corners.{Corners}
use Rattle.update_read.specs.declared.tile.Shape.{Shape}
use Rattle.update_read.specs.Parts.{corners_at, shape_at}
use Rattle.update_read.specs.Told.{part_of, told_tile, told_tiles}

-- a field before what is read after those behind it
step : {A B C : Type 0} (r : Read A) (f : A → List ℕ → Read B) (g : A → List ℕ → Read C) (after : B → List ℕ → Read C) → ((v : A) (more : List ℕ) → g v more ≡ then_read (f v more) after) → then_read r g ≡ then_read (then_read r f) after
step (Ok v) f g after e = e v.0 v.1
step (Err left) f g after e = refl

last : {A B C : Type 0} (r : Read A) (f : A → B) (g : A → List ℕ → Read C) (after : B → List ℕ → Read C) → ((v : A) (more : List ℕ) → g v more ≡ after (f v) more) → then_read r g ≡ then_read (map_read f r) after
last (Ok v) f g after e = e v.0 v.1
last (Err left) f g after e = refl

abbrev pub rectangle : Corners → Shape → List ℕ → Rectangle
rectangle c s bytes = record { left = c.left; top = c.top; right = c.right; bottom = c.bottom; w = s.w; h = s.h; depth = s.depth; flags = s.flags; bytes = bytes }

behind_corners : (c : Corners) (bs : List ℕ) → then_read (little_at 2 bs) (λ w e. then_read (little_at 2 e) (λ h f. then_read (little_at 2 f) (λ depth g. then_read (little_at 2 g) (λ flags i. then_read (little_at 2 i) (λ n j.
    map_read (λ xs. rectangle c (record { w = w; h = h; depth = depth; flags = flags; count = n }) xs) (bytes_at n j))))))
    ≡ then_read (shape_at bs) (λ s more. map_read (rectangle c s) (bytes_at s.count more))
behind_corners c bs =
    step (little_at 2 bs) _ _ _ (λ w e. step (little_at 2 e) _ _ _ (λ h f. step (little_at 2 f) _ _ _ (λ depth g. step (little_at 2 g) _ _ _ (λ flags i. last (little_at 2 i) _ _ _ (λ n j. refl)))))

pub tile_from : (bs : List ℕ) → tile_at bs ≡ then_read (corners_at bs) (λ c a. then_read (shape_at a) (λ s more. map_read (rectangle c s) (bytes_at s.count more)))
tile_from bs =
    step (little_at 2 bs) _ _ _ (λ l a. step (little_at 2 a) _ _ _ (λ t b. step (little_at 2 b) _ _ _ (λ r c. last (little_at 2 c) _ _ _ (λ m d.
    behind_corners (record { left = l; top = t; right = r; bottom = m }) d))))

pub tile_read : (c : Corners) (s : Shape) (bs a b more xs : List ℕ) → corners_at bs ≡ Ok (c, a) → shape_at a ≡ Ok (s, b) → bytes_at s.count b ≡ Ok (xs, more) → tile_at bs ≡ Ok (rectangle c s xs, more)
tile_read c s bs a b more xs e f g =
    tile_from bs ∙ ap (λ r. then_read r (λ c a. then_read (shape_at a) (λ s more. map_read (rectangle c s) (bytes_at s.count more)))) e
    ∙ ap (λ r. then_read r (λ s more. map_read (rectangle c s) (bytes_at s.count more))) f ∙ ap (map_read (rectangle c s)) g

-- ---- parts of a body

pub taken_front : (count : ℕ) (bs part more : List ℕ) → bytes_at count bs ≡ Ok (part, more) → (count ≤ length bs) × (part ≡ take count bs) × (more ≡ drop count bs)
taken_front count bs part more e =
    let p = short_ok (nat_lt (length bs) count) bs (take count bs, drop count bs) (part, more) (sym (bytes_at_is count bs) ∙ e) in
    (fits count (length bs) p.0, sym (ap (λ x. x.0) p.1), sym (ap (λ x. x.1) p.1))

-- the bytes that were read are those between the two places
pub part_read : (bytes part : List ℕ) (mid new : CursorOf) (from to count : ℕ) → mid.bytes ≡ bytes → new.bytes ≡ mid.bytes → from ≡ mid.at → to ≡ new.at → from ≤ length mid.bytes → to ≤ length new.bytes
    → bytes_at count (rest mid) ≡ Ok (part, rest new) → part_of bytes (record { from = from; to = to }) ≡ part
part_read bytes part mid new from to count here after first end a b e =
    let t = taken_front count (rest mid) part (rest new) e in
    let few = t.0 in
    let size = length-drop mid.at mid.bytes in
    let left = length-drop count (rest mid) in
    let over = length-drop new.at new.bytes in
    let same : length (rest new) ≡ length (drop count (rest mid)) = ap length t.2 in
    let long : length new.bytes ≡ length mid.bytes = ap length after in
    let count_is : to - from ≡ count = omega (arith, size, left, over, same, long, few, first, end, a, b) in
    ap (λ (n : ℕ). take n (drop from bytes)) count_is ∙ ap (λ (n : ℕ). take count (drop n bytes)) first ∙ ap (λ (bs : List ℕ). take count (drop mid.at bs)) (sym here) ∙ sym t.1

-- ---- one by one

-- rectangles were appended, and the others stand where the reading goes on
pub record HasPushed (whole here : Read (List Rectangle)) (bytes : List ℕ) (old now : List Tile) : Type 0 where
  pub sent : List Rectangle
  pub reading : whole ≡ map_read (λ ts. sent ++ ts) here
  pub told : told_tiles bytes now ≡ told_tiles bytes old ++ sent

same_read : (r : Read (List Rectangle)) → r ≡ map_read (λ ts. [] ++ ts) r
same_read (Ok v) = refl
same_read (Err left) = refl

pub none_pushed : (whole : Read (List Rectangle)) (bytes : List ℕ) (old : List Tile) → HasPushed whole whole bytes old old
none_pushed whole bytes old = record { sent = []; reading = same_read whole; told = sym (append-nil (told_tiles bytes old)) }

joined : (xs : List Rectangle) (y : Rectangle) (r : Read (List Rectangle)) → map_read (λ ts. xs ++ ts) (map_read (λ ts. y ∷ ts) r) ≡ map_read (λ ts. (xs ++ y ∷ []) ++ ts) r
joined xs y (Ok v) = ap (λ zs. Ok (zs, v.1)) (sym (append_assoc xs (y ∷ []) v.0))
joined xs y (Err left) = refl

next : (n k : ℕ) (bs : List ℕ) → k < n → tiles_at (n - k) bs ≡ then_read (tile_at bs) (λ t rest. map_read (λ ts. t ∷ ts) (tiles_at (n - (k + 1)) rest))
next n k bs lt = let is : n - k ≡ suc (n - (k + 1)) = omega arith in ap (λ m. tiles_at m bs) is

pub more_pushed : (n k : ℕ) (whole : Read (List Rectangle)) (bytes bs more : List ℕ) (old now after : List Tile) (t : Tile) → k < n → HasPushed whole (tiles_at (n - k) bs) bytes old now → tile_at bs ≡ Ok (told_tile bytes t, more)
    → after ≡ now ++ t ∷ [] → HasPushed whole (tiles_at (n - (k + 1)) more) bytes old after
more_pushed n k whole bytes bs more old now after t lt p e put = record {
  sent = p.sent ++ told_tile bytes t ∷ [];
  reading = p.reading ∙ ap (map_read (λ ts. p.sent ++ ts)) (next n k bs lt ∙ ap (λ r. then_read r (λ t rest. map_read (λ ts. t ∷ ts) (tiles_at (n - (k + 1)) rest))) e) ∙ joined p.sent (told_tile bytes t) (tiles_at (n - (k + 1)) more);
  told = ap (told_tiles bytes) put ∙ map-append (told_tile bytes) now (t ∷ []) ∙ ap (λ ts. ts ++ told_tile bytes t ∷ []) p.told ∙ append_assoc (told_tiles bytes old) p.sent (told_tile bytes t ∷ []);
}

pub tile_refused : (n k : ℕ) (whole : Read (List Rectangle)) (bytes bs left : List ℕ) (old now : List Tile) → k < n → HasPushed whole (tiles_at (n - k) bs) bytes old now → tile_at bs ≡ Err left → whole ≡ Err left
tile_refused n k whole bytes bs left old now lt p e = p.reading ∙ ap (map_read (λ ts. p.sent ++ ts)) (next n k bs lt ∙ ap (λ r. then_read r (λ t rest. map_read (λ ts. t ∷ ts) (tiles_at (n - (k + 1)) rest))) e)

pub all_pushed : (n k : ℕ) (whole : Read (List Rectangle)) (bytes bs : List ℕ) (old now : List Tile) → n ≤ k → (p : HasPushed whole (tiles_at (n - k) bs) bytes old now) → whole ≡ Ok (p.sent, bs)
all_pushed n k whole bytes bs old now le p =
    let none : n - k ≡ 0 = omega arith in
    p.reading ∙ ap (λ m. map_read (λ ts. p.sent ++ ts) (tiles_at m bs)) none ∙ ap (λ ts. Ok (ts, bs)) (append-nil p.sent)
