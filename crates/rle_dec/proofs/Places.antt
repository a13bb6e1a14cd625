-- What is written after the first pixels of a bitmap is drawn at the end of them.
use Rattle.std.proofs.Common.{◌≡◌, ℕ, suc, ◌+◌, ◌-◌, ◌%◌, ◌/◌, ◌<◌, ◌≤◌, cond, List, [], ◌∷◌, ◌++◌, length, get_or, take, drop, set, replicate, ap, sym, ◌∙◌, arith, length-append, append_assoc}
use Rattle.std.specs.Prelude.{◌==◌, bit_xor, slice_range}
use Rattle.std.proofs.Math.Seq.{take-suc-set}
use Rattle.std.proofs.Math.ListN.{length-set}
use Rattle.std.proofs.lemmas.List.{length-take-le, length-drop, get_or-take, get_or-drop, get_or_append_left, take_at, take_more}
use Rattle.run_lengths.specs.declared.strokes.Stroke.{Stroke}
use Rattle.run_lengths.specs.declared.strokes.Stroke.TheVariants.{Crossed}
use Rattle.run_lengths.specs.RunLength.{bits_of}
use Rattle.rle_dec.specs.Drawing.{drawn_onto, masked}
use Rattle.rle_dec.proofs.CopyLaws.{copy_more}
use Rattle.rle_dec.proofs.Drawn.{crossed_step, bits_step}

-- ---- one pixel

pub one_more : (out : List ℕ) (at x : ℕ) → at < length out → take (at + 1) (set out at x) ≡ take at out ++ x ∷ []
one_more out at x h = let suc_is : at + 1 ≡ suc at = omega arith in ap (λ n. take n (set out at x)) suc_is ∙ take-suc-set out at x h

-- ---- copies

length-range : (p : List ℕ) (from n : ℕ) → from + n ≤ length p → length (slice_range p from (from + n)) ≡ n
length-range p from n h =
    let size : (from + n) - from ≡ n = omega arith in
    ap (λ m. length (take m (drop from p))) size ∙ length-take-le n (drop from p) (omega (arith, h, length-drop from p))

pub rest_copied : (xs a b ys : List ℕ) (at from n : ℕ) → a ≡ take at xs → length a ≡ at → from + n ≤ at → ys ≡ slice_range a from (from + n)
    → take (at + n) (a ++ (ys ++ drop n b)) ≡ take at xs ++ slice_range (take at xs) from (from + n)
rest_copied xs a b ys at from n e long within f =
    let size : length ys ≡ n = ap length f ∙ length-range a from n (omega (arith, within, long)) in
    ap (take (at + n)) (sym (append_assoc a ys (drop n b)))
    ∙ take_at (a ++ ys) (drop n b) (at + n) (length-append a ys ∙ omega (arith, long, size))
    ∙ ap (λ zs. a ++ zs) f ∙ ap (λ p. p ++ slice_range p from (from + n)) e

pub copied_more : (at from done k : ℕ) (p out now : List ℕ) → length p ≡ at → from + (done + k) ≤ at
    → take (at + done) out ≡ p ++ slice_range p from (from + done)
    → take ((at + done) + k) now ≡ take (at + done) out ++ slice_range (take (at + done) out) (from + done) ((from + done) + k)
    → take (at + (done + k)) now ≡ p ++ slice_range p from (from + (done + k))
copied_more at from done k p out now long within e f =
    let here : at + (done + k) ≡ (at + done) + k = omega arith in
    let to : (from + done) + k ≡ from + (done + k) = omega arith in
    copy_more p (take (at + done) out) (take (at + (done + k)) now) from (from + done) (from + (done + k)) (omega arith) (omega arith) (omega (arith, within, long)) e
    (ap (λ m. take m now) here ∙ f ∙ ap (λ m. take (at + done) out ++ slice_range (take (at + done) out) (from + done) m) to)

range_more : (p : List ℕ) (from k : ℕ) → from + k < length p → slice_range p from (from + (k + 1)) ≡ slice_range p from (from + k) ++ get_or p (from + k) 0 ∷ []
range_more p from k h =
    let size : (from + (k + 1)) - from ≡ k + 1 = omega arith in
    let less : (from + k) - from ≡ k = omega arith in
    ap (λ m. take m (drop from p)) size ∙ take_more (drop from p) k 0 (omega (arith, h, length-drop from p))
    ∙ ap (λ m. take m (drop from p) ++ get_or (drop from p) k 0 ∷ []) (sym less) ∙ ap (λ x. slice_range p from (from + k) ++ x ∷ []) (get_or-drop from p k 0)

-- one pixel more of a copy
pub copied_pixel : (at from n k : ℕ) (p out : List ℕ) → length p ≡ at → from + n ≤ at → k < n → at + n ≤ length out → take (at + k) out ≡ p ++ slice_range p from (from + k)
    → take (at + (k + 1)) (set out (at + k) (get_or out (from + k) 0)) ≡ p ++ slice_range p from (from + (k + 1))
copied_pixel at from n k p out long within lt room e =
    let x : ℕ = get_or out (from + k) 0 in
    let next : at + (k + 1) ≡ (at + k) + 1 = omega arith in
    let read : x ≡ get_or p (from + k) 0 =
    sym (get_or-take (at + k) out (from + k) 0 (omega (arith, within, lt))) ∙ ap (λ xs. get_or xs (from + k) 0) e
    ∙ get_or_append_left p (slice_range p from (from + k)) 0 (from + k) (omega (arith, within, lt, long)) in
    ap (λ m. take m (set out (at + k) x)) next ∙ one_more out (at + k) x (omega (arith, room, lt)) ∙ ap (λ q. q ++ x ∷ []) e
    ∙ append_assoc p (slice_range p from (from + k)) (x ∷ [])
    ∙ ap (λ y. p ++ (slice_range p from (from + k) ++ y ∷ [])) read
    ∙ ap (λ ys. p ++ ys) (sym (range_more p from k (omega (arith, within, lt, long))))

-- ---- runs

pub crossed_placed : (w at k foreground : ℕ) (p out : List ℕ) → 1 ≤ w → w ≤ at → at + k < length out → take (at + k) out ≡ drawn_onto w (replicate k (Crossed foreground)) p
    → take (at + (k + 1)) (set out (at + k) (bit_xor foreground (get_or out ((at + k) - w) 0))) ≡ drawn_onto w (replicate (k + 1) (Crossed foreground)) p
crossed_placed w at k foreground p out some wide room e =
    let above : ℕ = get_or out ((at + k) - w) 0 in
    let long : length (take (at + k) out) ≡ at + k = length-take-le (at + k) out (omega (arith, room)) in
    let next : at + (k + 1) ≡ (at + k) + 1 = omega arith in
    let read : above ≡ get_or (take (at + k) out) (length (take (at + k) out) - w) 0 =
    sym (get_or-take (at + k) out ((at + k) - w) 0 (omega (arith, some, wide))) ∙ ap (λ n. get_or (take (at + k) out) (n - w) 0) (sym long) in
    crossed_step w k foreground above p (take (at + k) out) (take (at + (k + 1)) (set out (at + k) (bit_xor foreground above))) (omega (arith, long, wide)) e read
    (ap (λ n. take n (set out (at + k) (bit_xor foreground above))) next ∙ one_more out (at + k) (bit_xor foreground above) room)

pub bits_placed : (w n at k byte bits : ℕ) (back fore s : Stroke) (out now : List ℕ) → k < n → s ≡ cond (bits % 2 == 1) fore back
    → take ((at + k) + 1) now ≡ drawn_onto w (s ∷ []) (take (at + k) out)
    → drawn_onto w (masked back fore (bits_of (n - (k + 1)) (bits / 2))) (take (at + (k + 1)) now) ≡ drawn_onto w (masked back fore (bits_of (n - k) bits)) (take (at + k) out)
bits_placed w n at k byte bits back fore s out now lt e f =
    let next : at + (k + 1) ≡ (at + k) + 1 = omega arith in
    bits_step w n k byte bits back fore s (take (at + k) out) (take (at + (k + 1)) now) lt e (ap (λ m. take m now) next ∙ f)

-- four pixels
pub four_placed : (out : List ℕ) (at a b c d : ℕ) → at + 4 ≤ length out
    → take (at + 4) (set (set (set (set out at a) (at + 1) b) (at + 2) c) (at + 3) d) ≡ take at out ++ a ∷ b ∷ c ∷ d ∷ []
four_placed out at a b c d h =
    let xs : List ℕ = set out at a in
    let ys : List ℕ = set xs (at + 1) b in
    let zs : List ℕ = set ys (at + 2) c in
    let l1 : length xs ≡ length out = length-set out at a in
    let l2 : length ys ≡ length out = length-set xs (at + 1) b ∙ l1 in
    let l3 : length zs ≡ length out = length-set ys (at + 2) c ∙ l2 in
    let n4 : at + 4 ≡ (at + 3) + 1 = omega arith in
    let n3 : at + 3 ≡ (at + 2) + 1 = omega arith in
    let n2 : at + 2 ≡ (at + 1) + 1 = omega arith in
    ap (λ n. take n (set zs (at + 3) d)) n4 ∙ one_more zs (at + 3) d (omega (arith, h, l3))
    ∙ ap (λ n. take n zs ++ d ∷ []) n3 ∙ ap (λ q. q ++ d ∷ []) (one_more ys (at + 2) c (omega (arith, h, l2)))
    ∙ ap (λ n. (take n ys ++ c ∷ []) ++ d ∷ []) n2 ∙ ap (λ q. (q ++ c ∷ []) ++ d ∷ []) (one_more xs (at + 1) b (omega (arith, h, l1)))
    ∙ ap (λ q. ((q ++ b ∷ []) ++ c ∷ []) ++ d ∷ []) (one_more out at a (omega (arith, h)))
    ∙ joined (take at out)
  where
    joined : (q : List ℕ) → (((q ++ a ∷ []) ++ b ∷ []) ++ c ∷ []) ++ d ∷ [] ≡ q ++ a ∷ b ∷ c ∷ d ∷ []
    joined q = simp append_assoc

-- one pixel and then others
pub run_after_one : (w at n : ℕ) (now : List ℕ) → 1 ≤ n → take ((at + 1) + (n - 1)) now ≡ take (at + n) now
run_after_one w at n now some = let same : (at + 1) + (n - 1) ≡ at + n = omega (arith, some) in ap (λ m. take m now) same
