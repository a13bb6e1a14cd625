-- How many bytes the head of a stream of both kinds lacks.
use Rattle.std.proofs.Common.{◌≡◌, ℕ, ◌+◌, ◌*◌, ◌-◌, ◌%◌, ◌<◌, ◌≤◌, true, false, List, [], ◌∷◌, ◌++◌, length, inl, inr, refl, sym, ◌∙◌, arith, length-append}
use Rattle.std.specs.Prelude.{◌==◌, ◌≢◌, nat_lt}
use Rattle.std.proofs.lemmas.Bool.Decides.{nat_tests}
use Rattle.tpkt_x224.specs.declared.tpkt.Packet.TheVariants.{Whole, Part}
use Rattle.tpkt_x224.specs.Tpkt.{wanted_length}
use Rattle.tpkt_x224.proofs.Heads.{whole_bounds}
use Rattle.tpkt_x224.proofs.Wanted.{lacks as tpkt_lacks, alone as tpkt_alone}
use Rattle.fast_path.specs.Heads.{after_long, after_action, stream_packet_at, wanted_long, wanted_fast, wanted_in_stream}
use Rattle.fast_path.proofs.Sizes.{size_whole, size_part}
use Rattle.fast_path.proofs.Heads.{by_short, by_long, which, action_begins}
use Rattle.fast_path.proofs.Mixed.{kind, Tpkt, Fast, Other, at_tpkt, at_fast, at_other}

-- ---- by the first byte, and by the length

wanted_tpkt : (v : ℕ) (bs : List ℕ) → v ≡ 3 → wanted_in_stream (v ∷ bs) ≡ wanted_length (v ∷ bs)
wanted_tpkt v bs e = let a : (v % 4 == 0) ≡ false = grind (arith, nat_tests, e) in rw a refl

wanted_at_fast : (v : ℕ) (bs : List ℕ) → v % 4 ≡ 0 → wanted_in_stream (v ∷ bs) ≡ wanted_fast bs
wanted_at_fast v bs e = let a : (v % 4 == 0) ≡ true = grind (arith, nat_tests, e) in rw a refl

-- where more bytes may complete a packet and the first one isn't 3, it is a fast-path packet's
pub wanted_by_fast : (v : ℕ) (bs : List ℕ) → v ≢ 3 → stream_packet_at (v ∷ bs) ≡ Part → wanted_in_stream (v ∷ bs) ≡ wanted_fast bs
wanted_by_fast v bs n e = elim (kind v) [
  | Tpkt t ↦ absurd (n t)
  | Fast f ↦ wanted_at_fast v bs f
  | Other t f ↦ absurd (let g = sym (at_other v bs t f) ∙ e in let no : ⊥ = cc in no)
]

wanted_short : (l : ℕ) (bs : List ℕ) → l < 128 → wanted_fast (l ∷ bs) ≡ l
wanted_short l bs h = let e : nat_lt l 128 ≡ true = grind (arith, nat_tests, h) in rw e refl

wanted_two : (l : ℕ) (bs : List ℕ) → 128 ≤ l → wanted_fast (l ∷ bs) ≡ wanted_long l bs
wanted_two l bs h = let e : nat_lt l 128 ≡ false = grind (arith, nat_tests, h) in rw e refl

-- ---- some are lacking where no rule is broken so far

long_lacks : (l : ℕ) (bs : List ℕ) → after_long l bs ≡ Part → 2 + length bs < wanted_long l bs
long_lacks l [] e = omega arith
long_lacks l (b ∷ bs) e =
    let f = size_part 3 (256 * (l - 128) + b) (3 + length bs) e in
    let more = f.1 in
    omega (arith, more)

fast_lacks : (bs : List ℕ) → after_action bs ≡ Part → 1 + length bs < wanted_fast bs
fast_lacks [] e = omega arith
fast_lacks (l ∷ bs) e = elim (which l) [
  | inl h ↦
      let more = (size_part 2 l (2 + length bs) (sym (by_short l bs h) ∙ e)).1 in
      omega (arith, more, wanted_short l bs h)
  | inr h ↦
      let more = long_lacks l bs (sym (by_long l bs h) ∙ e) in
      omega (arith, more, wanted_two l bs h)
]

pub lacks : (part : List ℕ) → stream_packet_at part ≡ Part → length part < wanted_in_stream part
lacks [] e = omega arith
lacks (v ∷ bs) e = elim (kind v) [
  | Tpkt t ↦
      let more = tpkt_lacks (v ∷ bs) (sym (at_tpkt v bs t) ∙ e) in
      omega (arith, more, wanted_tpkt v bs t)
  | Fast f ↦
      let more = fast_lacks bs (sym (at_fast v bs f) ∙ e) in
      omega (arith, more, wanted_at_fast v bs f)
  | Other t f ↦ absurd (let g = sym (at_other v bs t f) ∙ e in let no : ⊥ = cc in no)
]

-- ---- with no more bytes than these a packet isn't whole, or is all that is there

-- a packet of either kind has two bytes
few : (bytes : List ℕ) (n : ℕ) → length bytes ≤ 2 → stream_packet_at bytes ≡ Whole n → n ≡ length bytes
few [] n h e = absurd (let no : ⊥ = cc in no)
few (v ∷ bs) n h e = elim (kind v) [
  | Tpkt t ↦ let b = whole_bounds (v ∷ bs) n (sym (at_tpkt v bs t) ∙ e) in absurd (omega (arith, b.0, b.1, h))
  | Fast f ↦ let b = action_begins v bs n f (sym (at_fast v bs f) ∙ e) in omega (arith, b.0, b.1, h)
  | Other t f ↦ absurd (let g = sym (at_other v bs t f) ∙ e in let no : ⊥ = cc in no)
]

long_alone : (l : ℕ) (bs chunk : List ℕ) (n : ℕ) → length chunk + (2 + length bs) ≤ wanted_long l bs → after_long l (bs ++ chunk) ≡ Whole n → n ≡ 2 + length (bs ++ chunk)
long_alone l [] [] n h e = absurd (let no : ⊥ = cc in no)
long_alone l [] (c ∷ chunk) n h e =
    let f = size_whole 3 (256 * (l - 128) + c) (3 + length chunk) n e in
    omega (arith, f.0, f.1, f.2, h)
long_alone l (b ∷ bs) chunk n h e =
    let f = size_whole 3 (256 * (l - 128) + b) (3 + length (bs ++ chunk)) n e in
    let both : length (bs ++ chunk) ≡ length bs + length chunk = length-append bs chunk in
    omega (arith, f.0, f.2, both, h)

fast_alone : (l : ℕ) (bs chunk : List ℕ) (n : ℕ) → length chunk + (2 + length bs) ≤ wanted_fast (l ∷ bs) → after_action (l ∷ (bs ++ chunk)) ≡ Whole n → n ≡ 2 + length (bs ++ chunk)
fast_alone l bs chunk n h e = elim (which l) [
  | inl s ↦
      let f = size_whole 2 l (2 + length (bs ++ chunk)) n (sym (by_short l (bs ++ chunk) s) ∙ e) in
      let both : length (bs ++ chunk) ≡ length bs + length chunk = length-append bs chunk in
      omega (arith, f.0, f.2, both, h, wanted_short l bs s)
  | inr s ↦
      let room = wanted_two l bs s in
      long_alone l bs chunk n (omega (arith, h, room)) (sym (by_long l (bs ++ chunk) s) ∙ e)
]

pub alone : (part chunk : List ℕ) (n : ℕ) → length chunk + length part ≤ wanted_in_stream part → stream_packet_at (part ++ chunk) ≡ Whole n → n ≡ length (part ++ chunk)
alone [] chunk n h e = few chunk n (omega (arith, h)) e
alone (v ∷ bs) chunk n h e = elim (kind v) [
  | Tpkt t ↦
      let room = wanted_tpkt v bs t in
      tpkt_alone (v ∷ bs) chunk n (omega (arith, h, room)) (sym (at_tpkt v (bs ++ chunk) t) ∙ e)
  | Fast f ↦
      let all = by bs (omega (arith, h, wanted_at_fast v bs f)) (sym (at_fast v (bs ++ chunk) f) ∙ e) in
      omega (arith, all)
  | Other t f ↦ absurd (let g = sym (at_other v (bs ++ chunk) t f) ∙ e in let no : ⊥ = cc in no)
]
  where
    by : (bs : List ℕ) → length chunk + (1 + length bs) ≤ wanted_fast bs → after_action (bs ++ chunk) ≡ Whole n → n ≡ 1 + length (bs ++ chunk)
    by [] h e = omega (arith, (action_begins 0 chunk n refl e).0, (action_begins 0 chunk n refl e).1, h)
    by (l ∷ bs) h e =
        let all = fast_alone l bs chunk n (omega (arith, h)) e in
        omega (arith, all)
