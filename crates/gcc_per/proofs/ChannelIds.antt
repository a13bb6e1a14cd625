-- Channel ids, one after the other.
use Rattle.std.proofs.Common.{◌≡◌, ℕ, zero, suc, ◌+◌, ◌*◌, ◌%◌, ◌-◌, ◌≤◌, ◌<◌, List, [], ◌++◌, length, refl, ap, ◌∙◌, sym, append_assoc, append-nil, length-append, arith}
use Rattle.std.proofs.lemmas.List.{length-replicate}
use Rattle.byteorder.specs.Endian.{little_bytes}
use Rattle.wire_num.specs.Written.{AppendsFront}
use Rattle.wire_num.proofs.Fronts.{front_before}
use Rattle.gcc_per.specs.ServerBlocks.{channel_ids, padding, network_length, network_headers, server_network}
use Rattle.gcc_per.proofs.Parts.{second_begun}

-- so many ids were written; the others are those from the next one on
pub record Written (all count : ℕ) (old out : List ℕ) : Type 0 where
  pub front : List ℕ
  pub whole : channel_ids 1004 all ≡ front ++ channel_ids (1004 + count) (all - count)
  pub written : out ≡ old ++ front

pub none_written : (all : ℕ) (old : List ℕ) → Written all 0 old old
none_written all old =
    let same : all - 0 ≡ all = omega arith in
    record { front = []; whole = ap (channel_ids 1004) (sym same); written = sym (append-nil old) }

next_id : (all count : ℕ) → count < all → channel_ids (1004 + count) (all - count) ≡ little_bytes 2 (1004 + count) ++ channel_ids (1004 + (count + 1)) (all - (count + 1))
next_id all count h =
    let left : all - count ≡ suc (all - (count + 1)) = omega (arith, h) in
    let first : suc (1004 + count) ≡ 1004 + (count + 1) = omega arith in
    ap (channel_ids (1004 + count)) left ∙ ap (λ k. little_bytes 2 (1004 + count) ++ channel_ids k (all - (count + 1))) first

pub one_written : (all count : ℕ) (old out new : List ℕ) → count < all → Written all count old out → new ≡ out ++ little_bytes 2 (1004 + count) → Written all (count + 1) old new
one_written all count old out new h w e =
    let id = little_bytes 2 (1004 + count) in
    let others = channel_ids (1004 + (count + 1)) (all - (count + 1)) in record {
      front = w.front ++ id;
      whole = w.whole ∙ ap (λ xs. w.front ++ xs) (next_id all count h) ∙ sym (append_assoc w.front id others);
      written = e ∙ ap (λ xs. xs ++ id) w.written ∙ append_assoc old w.front id;
    }

pub one_begun : (all count : ℕ) (old out new : List ℕ) → count < all → Written all count old out → AppendsFront out (little_bytes 2 (1004 + count)) new → AppendsFront old (channel_ids 1004 all) new
one_begun all count old out new h w f =
    let id = little_bytes 2 (1004 + count) in
    let others = channel_ids (1004 + (count + 1)) (all - (count + 1)) in
    second_begun old w.front (id ++ others) out new (channel_ids 1004 all) (w.whole ∙ ap (λ xs. w.front ++ xs) (next_id all count h)) w.written (front_before out id others new f)

pub all_written : (all count : ℕ) (old out : List ℕ) → all ≤ count → Written all count old out → out ≡ old ++ channel_ids 1004 all
all_written all count old out h w =
    let none : all - count ≡ 0 = omega (arith, h) in
    w.written ∙ ap (λ xs. old ++ xs) (sym (append-nil w.front) ∙ ap (λ k. w.front ++ channel_ids (1004 + count) k) (sym none) ∙ sym w.whole)

-- ---- lengths

ids_length : (first n : ℕ) → length (channel_ids first n) ≡ 2 * n
ids_length first zero = refl
ids_length first (suc n) = omega (arith, ids_length (suc first) n)

content_length : (n : ℕ) → length (channel_ids 1004 n ++ padding n) ≡ 2 * n + 2 * (n % 2)
content_length n = omega (arith, length-append (channel_ids 1004 n) (padding n), ids_length 1004 n, length-replicate {A = ℕ} (2 * (n % 2)) 0)

pub network_is : (n : ℕ) → server_network n ≡ network_headers n ++ (channel_ids 1004 n ++ padding n)
network_is n =
    let content : List ℕ = little_bytes 2 1003 ++ (little_bytes 2 n ++ (channel_ids 1004 n ++ padding n)) in
    let size : 4 + length content ≡ network_length n = omega (arith, content_length n) in
    ap (λ k. little_bytes 2 3075 ++ (little_bytes 2 k ++ (little_bytes 2 1003 ++ (little_bytes 2 n ++ (channel_ids 1004 n ++ padding n))))) size

pub network_size : (n : ℕ) → length (server_network n) ≡ network_length n
network_size n = omega (arith, content_length n)
