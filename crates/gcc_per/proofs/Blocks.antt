-- A block, from its header on.
use Rattle.std.proofs.Common.{◌≡◌, ℕ, ◌+◌, ◌-◌, ◌≤◌, ◌<◌, cond, true, List, ◌++◌, length, take, drop, refl, ap, sym, ◌∙◌, subst, arith, length-append, append_assoc}
use Rattle.std.specs.Prelude.{nat_le, ◌&&◌, Option, Some, None, Ok, Err}
use Rattle.std.proofs.lemmas.Bool.Decides.{nat_tests}
use Rattle.std.proofs.lemmas.List.{length-take-le}
use Rattle.byteorder.specs.Endian.{little_number}
use Rattle.wire_num.specs.FieldValue.{passing_at}
use Rattle.wire_num.specs.Field.{bytes_at}
use Rattle.wire_num.specs.Number.{little_at}
use Rattle.wire_num.proofs.Steps.{passed_ok, little_taken}
use Rattle.wire_num.proofs.Steps as steps
use Rattle.wire_num.proofs.ReadIsText.{bytes_ok, little_ok, passing_ok, regroup}
use Rattle.gcc_per.specs.declared.gcc_fault.Cause.{Cause}
use Rattle.gcc_per.specs.declared.client_core.Desktop.{Desktop}
use Rattle.gcc_per.specs.declared.client_blocks.BlockKind.{BlockKind}
use Rattle.gcc_per.specs.declared.client_blocks.BlockKind.TheVariants.{ClientCore, ClientNetwork, Other}
use Rattle.gcc_per.specs.declared.client_blocks.ClientBlocks.{ClientBlocks}
use Rattle.gcc_per.specs.Checked.{Checked, plain}
use Rattle.wire_num.specs.Caused.{then_caused, map_caused, before_caused}
use Rattle.gcc_per.specs.ClientCore.{desktop_of}
use Rattle.gcc_per.specs.ClientNetwork.{channels_at}
use Rattle.gcc_per.specs.ClientBlocks.{kind_of, least_length, is_new, kind_at, length_at, with_desktop, with_core, with_channels, with_block, block_at}
use Rattle.gcc_per.specs.Grammar.{IsBlock}
use Rattle.wire_num.proofs.Caused.{then_ok, map_ok, before_ok}
use Rattle.gcc_per.proofs.Checked.{go_on_plain, plain_ok}
use Rattle.gcc_per.proofs.Within.{content_size}

abbrev pub with_content : BlockKind → ClientBlocks → List ℕ → ℕ → List ℕ → Checked ClientBlocks
with_content kind found bs n more = then_caused (plain (bytes_at (n - 4) more)) (λ content after. with_block kind found bs content after)

abbrev pub with_length : BlockKind → ClientBlocks → List ℕ → List ℕ → Checked ClientBlocks
with_length kind found bs sized = then_caused (plain (length_at kind sized)) (λ n more. with_content kind found bs n more)

-- the block's fields, where its header and its content are there
pub to_block : (found : ClientBlocks) (bs sized more content after : List ℕ) (kind : BlockKind) (n : ℕ) → kind_at found bs ≡ Ok (kind, sized)
    → length_at kind sized ≡ Ok (n, more) → bytes_at (n - 4) more ≡ Ok (content, after) → block_at found bs ≡ with_block kind found bs content after
unfolding block_at
to_block found bs sized more content after kind n k l b =
    go_on_plain (kind_at found bs) (λ kind sized. with_length kind found bs sized) kind sized k
    ∙ go_on_plain (length_at kind sized) (λ n more. with_content kind found bs n more) n more l
    ∙ go_on_plain (bytes_at (n - 4) more) (λ content after. with_block kind found bs content after) content after b

-- the content of a CS_NET is refused
pub network_refused : (found : ClientBlocks) (bs sized more content after left place : List ℕ) (kind : BlockKind) (n : ℕ) (cause : Cause)
    → kind_at found bs ≡ Ok (kind, sized) → length_at kind sized ≡ Ok (n, more) → bytes_at (n - 4) more ≡ Ok (content, after) → kind ≡ ClientNetwork
    → channels_at content ≡ Err (cause, left) → left ++ after ≡ place → block_at found bs ≡ Err (cause, place)
network_refused found bs sized more content after left place kind n cause k l b is h p =
    to_block found bs sized more content after kind n k l b
    ∙ ap (λ x. with_block x found bs content after) is
    ∙ ap (λ r. map_caused (with_channels found) (before_caused after r)) h
    ∙ ap (λ xs. Err (cause, xs)) p

-- ---- the parts of a block that was read

header_fits : (kind : BlockKind) → 4 ≤ least_length kind
header_fits ClientCore = omega arith
header_fits ClientNetwork = omega arith
header_fits Other = omega arith

pub length_ok : (kind : BlockKind) (bs : List ℕ) (y : ℕ × List ℕ) → length_at kind bs ≡ Ok y
    → (2 ≤ length bs) × (little_number 2 bs ≡ y.0) × (drop 2 bs ≡ y.1) × (least_length kind ≤ y.0) × (y.0 ≤ 4 + length y.1)
unfolding length_at
length_ok kind bs y e =
    let s = steps.then_ok (little_at 2 bs) (λ n more. cond (nat_le (least_length kind) n && nat_le n (4 + length more)) (Ok (n, more)) (Err bs)) y e in
    let v = s.0 in
    let t = passed_ok (nat_le (least_length kind) v.0 && nat_le v.0 (4 + length v.1)) bs v y s.2 in
    let there = little_ok 2 bs v s.1 in
    let least : least_length kind ≤ v.0 = grind (arith, nat_tests, t.0) in
    let most : v.0 ≤ 4 + length v.1 = grind (arith, nat_tests, t.0) in (
      there.0,
      there.1 ∙ ap (λ p. p.0) t.1,
      there.2 ∙ ap (λ p. p.1) t.1,
      subst (λ p. least_length kind ≤ p.0) t.1 least,
      subst (λ p. p.0 ≤ 4 + length p.1) t.1 most,
    )

pub kind_ok : (found : ClientBlocks) (bs : List ℕ) (y : BlockKind × List ℕ) → kind_at found bs ≡ Ok y
    → (2 ≤ length bs) × (kind_of (little_number 2 bs) ≡ y.0) × (drop 2 bs ≡ y.1) × (is_new found y.0 ≡ true)
unfolding kind_at
kind_ok found bs y e =
    let s = steps.map_ok kind_of (passing_at (λ type. is_new found (kind_of type)) (little_at 2) bs) y e in
    let v = s.0 in
    let t = passing_ok (λ type. is_new found (kind_of type)) (little_at 2) bs v s.1 in
    let there = little_ok 2 bs v t.0 in
    (there.0, ap kind_of there.1 ∙ s.2, there.2 ∙ s.3, ap (is_new found) (sym s.2) ∙ t.1)

-- what a block leaves is what stands after its content
core_after : (found : ClientBlocks) (bs after : List ℕ) (desktop : Option Desktop) (y : ClientBlocks × List ℕ) → with_core found bs after desktop ≡ Ok y → after ≡ y.1
core_after found bs after (Some desktop) y e =
    let h : (with_desktop found desktop, after) ≡ y = cc in ap (λ p. p.1) h
core_after found bs after None y e = absurd (let h : ⊥ = cc in h)

block_after : (kind : BlockKind) (found : ClientBlocks) (bs content after : List ℕ) (y : ClientBlocks × List ℕ) → with_block kind found bs content after ≡ Ok y → after ≡ y.1
block_after ClientCore found bs content after y e = core_after found bs after (desktop_of content) y e
block_after ClientNetwork found bs content after y e =
    let s = map_ok (with_channels found) (before_caused after (channels_at content)) y e in
    (before_ok after (channels_at content) s.0 s.1).3 ∙ s.3
block_after Other found bs content after y e = let h : (found, after) ≡ y = cc in ap (λ p. p.1) h

-- a header and the content that it counts, seen as a block
pub record Header (found : ClientBlocks) (kind : BlockKind) (bs content after : List ℕ) : Type 0 where
  pub type : List ℕ
  pub size : List ℕ
  pub is : IsBlock (record { type = type; size = size; content = content })
  pub kind_is : kind_of (little_number 2 type) ≡ kind
  pub new : is_new found kind ≡ true
  pub whole : bs ≡ (type ++ (size ++ content)) ++ after

pub grouped : (a b c d : List ℕ) → a ++ (b ++ (c ++ d)) ≡ (a ++ (b ++ c)) ++ d
grouped a b c d = sym (append_assoc a (b ++ c) d ∙ ap (λ xs. a ++ xs) (append_assoc b c d))

-- two bytes, two bytes, and the others
parts_of : (bs more : List ℕ) → drop 2 (drop 2 bs) ≡ more → bs ≡ take 2 bs ++ (take 2 (drop 2 bs) ++ more)
parts_of bs more e = regroup 2 bs (drop 2 bs) refl ∙ ap (λ xs. take 2 bs ++ xs) (regroup 2 (drop 2 bs) more e)

pub content_of : (n : ℕ) (bs content after : List ℕ) → bytes_at n bs ≡ Ok (content, after) → bs ≡ content ++ after
content_of n bs content after e =
    let front = bytes_ok n bs (content, after) e in
    regroup n bs after front.2 ∙ ap (λ xs. xs ++ after) front.1

pub header_ok : (found : ClientBlocks) (kind : BlockKind) (bs sized more content after : List ℕ) (n : ℕ) → kind_at found bs ≡ Ok (kind, sized) → length_at kind sized ≡ Ok (n, more)
    → bytes_at (n - 4) more ≡ Ok (content, after) → Header found kind bs content after
header_ok found kind bs sized more content after n e f g =
    let k = kind_ok found bs (kind, sized) e in
    let l = length_ok kind sized (n, more) f in
    let counts : n ≡ 4 + length content = omega (arith, content_size (n - 4) more content after g, header_fits kind, l.3) in
    let second : 2 ≤ length (drop 2 bs) = omega (arith, l.0, ap length k.2) in
    let kind_is : kind_of (little_number 2 (take 2 bs)) ≡ kind = ap kind_of (sym (little_taken 2 bs k.0)) ∙ k.1 in
    let size_is : little_number 2 (take 2 (drop 2 bs)) ≡ 4 + length content = sym (little_taken 2 (drop 2 bs) second) ∙ ap (little_number 2) k.2 ∙ l.1 ∙ counts in
    let least : least_length kind ≤ 4 + length content = omega (arith, counts, l.3) in
    let rest : drop 2 (drop 2 bs) ≡ content ++ after = ap (drop 2) k.2 ∙ l.2 ∙ content_of (n - 4) more content after g in
    record {
      type = take 2 bs;
      size = take 2 (drop 2 bs);
      is = (length-take-le 2 bs k.0, length-take-le 2 (drop 2 bs) second, size_is, subst (λ q. least_length q ≤ 4 + length content) (sym kind_is) least);
      kind_is = kind_is;
      new = k.3;
      whole = parts_of bs (content ++ after) rest ∙ grouped (take 2 bs) (take 2 (drop 2 bs)) content after;
    }

pub record BlockRead (found : ClientBlocks) (bs : List ℕ) (y : ClientBlocks × List ℕ) : Type 0 where
  pub kind : BlockKind
  pub content : List ℕ
  pub header : Header found kind bs content y.1
  pub adds : with_block kind found bs content y.1 ≡ Ok y

pub block_ok : (found : ClientBlocks) (bs : List ℕ) (y : ClientBlocks × List ℕ) → block_at found bs ≡ Ok y → BlockRead found bs y
unfolding block_at
block_ok found bs y e =
    let a = then_ok (plain (kind_at found bs)) (λ kind sized. with_length kind found bs sized) y e in
    let kind = a.0.0 in
    let b = then_ok (plain (length_at kind a.0.1)) (λ n more. with_content kind found bs n more) y a.2 in
    let n = b.0.0 in
    let d = then_ok (plain (bytes_at (n - 4) b.0.1)) (λ content after. with_block kind found bs content after) y b.2 in
    let content = d.0.0 in
    let same : d.0.1 ≡ y.1 = block_after kind found bs content d.0.1 y d.2 in
    let header = header_ok found kind bs a.0.1 b.0.1 content d.0.1 n (plain_ok (kind_at found bs) a.0 a.1) (plain_ok (length_at kind a.0.1) b.0 b.1) (plain_ok (bytes_at (n - 4) b.0.1) d.0 d.1) in
    record {
      kind = kind;
      content = content;
      header = subst (λ xs. Header found kind bs content xs) same header;
      adds = ap (with_block kind found bs content) (sym same) ∙ d.2;
    }

-- so each block takes bytes
pub block_shorter : (found : ClientBlocks) (bs : List ℕ) (y : ClientBlocks × List ℕ) → block_at found bs ≡ Ok y → length y.1 < length bs
block_shorter found bs y e =
    let p = block_ok found bs y e in
    let h = p.header in
    omega (arith, ap length h.whole, h.is.0, length-append (h.type ++ (h.size ++ p.content)) y.1, length-append h.type (h.size ++ p.content))
