-- Blocks that were read stand there, and blocks that stand there are read.
use Rattle.std.proofs.Common.{◌≡◌, ℕ, zero, suc, ◌+◌, ◌-◌, ◌≤◌, Bool, true, false, cond, List, [], ◌++◌, length, take, drop, refl, ap, ◌∙◌, sym, arith, length-append, subst}
use Rattle.std.specs.Prelude.{nat_le, ◌&&◌, Option, Some, None, is_none, Ok, Err}
use Rattle.std.proofs.lemmas.Bool.Decides.{nat_tests}
use Rattle.std.proofs.lemmas.List.{length-take-le}
use Rattle.byteorder.specs.Endian.{little_number}
use Rattle.wire_num.specs.FieldValue.{passing_at}
use Rattle.wire_num.specs.Field.{then_read, map_read}
use Rattle.wire_num.specs.Number.{little_at}
use Rattle.wire_num.specs.Layout.{fields_at}
use Rattle.wire_num.specs.Grammar.{IsText}
use Rattle.wire_num.proofs.Steps.{little_taken}
use Rattle.wire_num.proofs.ReadIsText.{little_ok, read_is_text, regroup}
use Rattle.wire_num.proofs.TextIsRead.{bytes_there, little_there, text_is_read}
use Rattle.gcc_per.specs.declared.client_core.Desktop.{Desktop}
use Rattle.gcc_per.specs.declared.client_blocks.BlockKind.{BlockKind}
use Rattle.gcc_per.specs.declared.client_blocks.BlockKind.TheVariants.{ClientCore, ClientNetwork, Other}
use Rattle.gcc_per.specs.declared.client_blocks.ClientBlocks.{ClientBlocks}
use Rattle.gcc_per.specs.declared.gcc_fault.Cause.{Cause}
use Rattle.gcc_per.specs.declared.gcc_fault.Cause.TheVariants.{Crowded}
use Rattle.gcc_per.specs.Checked.{plain}
use Rattle.wire_num.specs.Caused.{map_caused, before_caused}
use Rattle.gcc_per.specs.ClientCore.{desktop_of}
use Rattle.gcc_per.specs.ClientNetwork.{channel_definitions, channel_count_at, channels_at}
use Rattle.gcc_per.specs.ClientBlocks.{kind_of, least_length, is_new, kind_at, length_at, with_desktop, with_core, with_channels, with_block, block_at}
use Rattle.gcc_per.specs.Grammar.{Block, block_bytes, kind_in, IsBlock, HasChannels}
use Rattle.wire_num.proofs.Caused.{then_ok, map_ok, before_ok, go_on}
use Rattle.gcc_per.proofs.Checked.{plain_ok, go_on_plain}
use Rattle.gcc_per.proofs.Blocks.{grouped, block_ok, to_block}

-- ---- the content of a CS_NET

few_ok : {A : Type 0} (b : Bool) (d : Cause × List ℕ) (x y : A × List ℕ) → cond b (Ok x) (Err d) ≡ Ok y → (b ≡ true) × (x ≡ y)
few_ok true d x y e = (refl, cc)
few_ok false d x y e = absurd (let h : ⊥ = cc in h)

-- channels have no values
no_values : (n : ℕ) (bs values left : List ℕ) → IsText (channel_definitions n) bs values left → values ≡ []
no_values zero bs values left p = p.0
no_values (suc n) bs values left p = no_values n p.1 values left p.4

pub count_ok : (bs : List ℕ) (y : ℕ × List ℕ) → channel_count_at bs ≡ Ok y → (4 ≤ length bs) × (little_number 4 bs ≡ y.0) × (drop 4 bs ≡ y.1) × (y.0 ≤ 31)
unfolding channel_count_at
count_ok bs y e =
    let s = then_ok (plain (little_at 4 bs)) (λ count more. cond (nat_le count 31) (Ok (count, more)) (Err (Crowded, bs))) y e in
    let v = s.0 in
    let there = little_ok 4 bs v (plain_ok (little_at 4 bs) v s.1) in
    let t = few_ok (nat_le v.0 31) (Crowded, bs) v y s.2 in
    let few : v.0 ≤ 31 = grind (arith, nat_tests, t.0) in
    (there.0, there.1 ∙ ap (λ p. p.0) t.1, there.2 ∙ ap (λ p. p.1) t.1, subst (λ p. p.0 ≤ 31) t.1 few)

pub channels_ok : (bs : List ℕ) (y : ℕ × List ℕ) → channels_at bs ≡ Ok y → HasChannels bs y.0
unfolding channels_at
channels_ok bs y e =
    let s = then_ok (channel_count_at bs) (λ count more. map_caused (λ _. count) (plain (fields_at (channel_definitions count) more))) y e in
    let n = s.0.0 in
    let more = s.0.1 in
    let c = count_ok bs s.0 s.1 in
    let t = map_ok (λ _. n) (plain (fields_at (channel_definitions n) more)) y s.2 in
    let v = t.0 in
    let text = read_is_text (channel_definitions n) more v.0 v.1 (plain_ok (fields_at (channel_definitions n) more) v t.1) in
    let none : v.0 ≡ [] = no_values n more v.0 v.1 text in
    let same : n ≡ y.0 = t.2 in
    subst (λ k. HasChannels bs k) same (take 4 bs, more, v.1, length-take-le 4 bs c.0, sym (little_taken 4 bs c.0) ∙ c.1, c.3, regroup 4 bs more c.2, subst (λ vs. IsText (channel_definitions n) more vs v.1) none text)

pub channels_again : (bs : List ℕ) (n : ℕ) → HasChannels bs n → (left : List ℕ) × (channels_at bs ≡ Ok (n, left))
unfolding channels_at channel_count_at
channels_again bs n h =
    let count = h.0 in
    let definitions = h.1 in
    let left = h.2 in
    let few : nat_le (little_number 4 count) 31 ≡ true = grind (arith, nat_tests, h.4, h.5) in
    let read : channel_count_at (count ++ definitions) ≡ Ok (little_number 4 count, definitions) =
    go_on_plain (little_at 4 (count ++ definitions)) (λ k more. cond (nat_le k 31) (Ok (k, more)) (Err (Crowded, count ++ definitions))) (little_number 4 count) definitions (little_there 4 count definitions h.3)
    ∙ ap (λ b. cond b (Ok (little_number 4 count, definitions)) (Err (Crowded, count ++ definitions))) few in (
      left,
      ap channels_at h.6
          ∙ go_on (channel_count_at (count ++ definitions)) (λ k more. map_caused (λ _. k) (plain (fields_at (channel_definitions k) more))) n definitions (read ∙ ap (λ k. Ok (k, definitions)) h.4)
          ∙ ap (λ r. map_caused (λ _. n) (plain r)) (text_is_read (channel_definitions n) definitions [] left h.7),
    )

-- ---- what a block adds

pub none_is : {A : Type 0} (o : Option A) → is_none o ≡ true → o ≡ None
none_is None e = refl
none_is (Some x) e = absurd (let h : ⊥ = cc in h)

-- what was found before, and what is found with a block of this kind and content
abbrev pub Adds : BlockKind → List ℕ → ClientBlocks → ClientBlocks → Type 0
Adds ClientCore content found more = (desktop : Desktop) × (found.desktop ≡ None) × (desktop_of content ≡ Some desktop) × (more ≡ with_desktop found desktop)
Adds ClientNetwork content found more = (channels : ℕ) × (found.channels ≡ None) × HasChannels content channels × (more ≡ with_channels found channels)
Adds Other content found more = more ≡ found

core_adds : (found : ClientBlocks) (bs after : List ℕ) (o : Option Desktop) (y : ClientBlocks × List ℕ) → with_core found bs after o ≡ Ok y
    → (desktop : Desktop) × (o ≡ Some desktop) × (y.0 ≡ with_desktop found desktop)
core_adds found bs after (Some desktop) y e =
    let h : (with_desktop found desktop, after) ≡ y = cc in (desktop, refl, sym (ap (λ p. p.0) h))
core_adds found bs after None y e = absurd (let h : ⊥ = cc in h)

adds_ok : (kind : BlockKind) (found : ClientBlocks) (bs content after : List ℕ) (y : ClientBlocks × List ℕ) → with_block kind found bs content after ≡ Ok y → is_new found kind ≡ true
    → Adds kind content found y.0
adds_ok ClientCore found bs content after y e new =
    let d = core_adds found bs after (desktop_of content) y e in (d.0, none_is found.desktop new, d.1, d.2)
adds_ok ClientNetwork found bs content after y e new =
    let s = map_ok (with_channels found) (before_caused after (channels_at content)) y e in
    let t = before_ok after (channels_at content) s.0 s.1 in
    (t.0.0, none_is found.channels new, channels_ok content t.0 t.1, sym (ap (with_channels found) t.2 ∙ s.2))
adds_ok Other found bs content after y e new =
    let h : (found, after) ≡ y = cc in sym (ap (λ p. p.0) h)

adds_again : (kind : BlockKind) (found more : ClientBlocks) (bs content after : List ℕ) → Adds kind content found more → (with_block kind found bs content after ≡ Ok (more, after)) × (is_new found kind ≡ true)
adds_again ClientCore found more bs content after a =
    (ap (with_core found bs after) a.2 ∙ ap (λ m. Ok (m, after)) (sym a.3), ap is_none a.1)
adds_again ClientNetwork found more bs content after a =
    let read = channels_again content a.0 a.2 in
    (ap (λ r. map_caused (with_channels found) (before_caused after r)) read.1 ∙ ap (λ m. Ok (m, after)) (sym a.3), ap is_none a.1)
adds_again Other found more bs content after a = (ap (λ m. Ok (m, after)) (sym a), refl)

-- ---- a block

pub kind_there : (found : ClientBlocks) (type more : List ℕ) → length type ≡ 2 → is_new found (kind_of (little_number 2 type)) ≡ true
    → kind_at found (type ++ more) ≡ Ok (kind_of (little_number 2 type), more)
unfolding kind_at passing_at
kind_there found type more size new =
    let bs : List ℕ = type ++ more in
    ap (λ r. map_read kind_of (then_read r (λ v rest. cond (is_new found (kind_of v)) (Ok (v, rest)) (Err bs)))) (little_there 2 type more size)
    ∙ ap (λ b. map_read kind_of (cond b (Ok (little_number 2 type, more)) (Err bs))) new

pub size_there : (kind : BlockKind) (size more : List ℕ) → length size ≡ 2 → least_length kind ≤ little_number 2 size → little_number 2 size ≤ 4 + length more
    → length_at kind (size ++ more) ≡ Ok (little_number 2 size, more)
unfolding length_at
size_there kind size more two least most =
    let n : ℕ = little_number 2 size in
    let bs : List ℕ = size ++ more in
    let good : (nat_le (least_length kind) n && nat_le n (4 + length more)) ≡ true = grind (arith, nat_tests, least, most) in
    ap (λ r. then_read r (λ k more. cond (nat_le (least_length kind) k && nat_le k (4 + length more)) (Ok (k, more)) (Err bs))) (little_there 2 size more two)
    ∙ ap (λ b. cond b (Ok (n, more)) (Err bs)) good

pub length_there : (kind : BlockKind) (size content after : List ℕ) → length size ≡ 2 → little_number 2 size ≡ 4 + length content → least_length kind ≤ 4 + length content
    → length_at kind (size ++ (content ++ after)) ≡ Ok (little_number 2 size, content ++ after)
length_there kind size content after two counts least =
    size_there kind size (content ++ after) two (omega (arith, counts, least)) (omega (arith, counts, length-append content after))

pub record Stands (found : ClientBlocks) (bs : List ℕ) (y : ClientBlocks × List ℕ) : Type 0 where
  pub block : Block
  pub is : IsBlock block
  pub whole : bs ≡ block_bytes block ++ y.1
  pub adds : Adds (kind_in block) block.content found y.0

pub block_stands : (found : ClientBlocks) (bs : List ℕ) (y : ClientBlocks × List ℕ) → block_at found bs ≡ Ok y → Stands found bs y
block_stands found bs y e =
    let p = block_ok found bs y e in
    let h = p.header in
    record {
      block = record { type = h.type; size = h.size; content = p.content };
      is = h.is;
      whole = h.whole;
      adds = subst (λ k. Adds k p.content found y.0) (sym h.kind_is) (adds_ok p.kind found bs p.content y.1 y p.adds h.new);
    }

pub block_again : (found more : ClientBlocks) (block : Block) (after : List ℕ) → IsBlock block → Adds (kind_in block) block.content found more
    → block_at found (block_bytes block ++ after) ≡ Ok (more, after)
block_again found more block after is a =
    let kind = kind_in block in
    let rest : List ℕ = block.content ++ after in
    let bs : List ℕ = block.type ++ (block.size ++ rest) in
    let n : ℕ = little_number 2 block.size in
    let added = adds_again kind found more bs block.content after a in
    let size : length block.content ≡ n - 4 = omega (arith, is.2) in
    ap (block_at found) (sym (grouped block.type block.size block.content after))
    ∙ to_block found bs (block.size ++ rest) rest block.content after kind n
    (kind_there found block.type (block.size ++ rest) is.0 added.1)
    (length_there kind block.size block.content after is.1 is.2 is.3)
    (bytes_there (n - 4) block.content after size)
    ∙ added.0
