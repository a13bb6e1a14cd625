-- A request that was read stands there, and one that stands there is read.
use Rattle.std.proofs.Common.{◌≡◌, ℕ, ◌≤◌, true, false, List, [], ◌∷◌, ◌++◌, length, refl, ap, ◌∙◌, sym, arith, append-nil, subst}
use Rattle.std.specs.Prelude.{nat_lt, Option, Some, None, Ok, Err, flat_map}
use Rattle.std.specs.List.{AllByRecursion}
use Rattle.std.proofs.lemmas.Bool.Decides.{nat_tests}
use Rattle.wire_num.specs.FieldValue.{end_at}
use Rattle.wire_num.specs.Field.{bytes_at}
use Rattle.wire_num.specs.Length.{per_len_at}
use Rattle.wire_num.specs.Layout.{Packed, fields_at}
use Rattle.wire_num.specs.Grammar.{IsText, IsPacked}
use Rattle.wire_num.proofs.ReadIsText.{count_ok, read_is_text}
use Rattle.wire_num.proofs.TextIsRead.{bytes_there, text_is_read}
use Rattle.gcc_per.specs.declared.client_core.Desktop.{Desktop}
use Rattle.gcc_per.specs.declared.client_blocks.ClientBlocks.{ClientBlocks}
use Rattle.gcc_per.specs.declared.client_data.ClientData.{ClientData}
use Rattle.gcc_per.specs.Checked.{Checked, plain, placed_checked}
use Rattle.wire_num.specs.Caused.{then_caused, map_caused, before_caused}
use Rattle.gcc_per.specs.ClientBlocks.{blocks_from, no_blocks, blocks_at}
use Rattle.gcc_per.specs.ClientData.{create_request, channels_of, data_with, client_blocks_at, user_data_at, client_data_at, client_data_of}
use Rattle.gcc_per.specs.Grammar.{Block, block_bytes, IsBlock, core_blocks, network_blocks, IsNetwork, IsRequest}
use Rattle.gcc_per.proofs.UserData.{to_end, in_content, counted}
use Rattle.wire_num.proofs.Caused.{then_ok, map_ok, before_ok, go_on}
use Rattle.gcc_per.proofs.Checked.{plain_ok, go_on_plain}
use Rattle.gcc_per.proofs.Within.{content_size}
use Rattle.gcc_per.proofs.Blocks.{content_of}
use Rattle.gcc_per.proofs.BlocksText.{AddAll, AllStand, CoreAfter, blocks_stand, blocks_again, core_side, network_side, both_sides, is_one_core, one_core, is_network_of, network_of}

-- ---- small steps

end_none : (bs : List ℕ) (y : List ℕ × List ℕ) → end_at bs ≡ Ok y → bs ≡ []
end_none [] y e = refl
end_none (b ∷ bs) y e = absurd (let h : ⊥ = cc in h)

nothing_after : (after end : List ℕ) (y : List ℕ × List ℕ) → after ≡ end → end_at end ≡ Ok y → after ≡ []
nothing_after after end y e h = e ∙ end_none end y h

same_client : (a b c : ClientData) → a ≡ b → b ≡ c → a ≡ c
same_client a b c e f = e ∙ f

end_again : end_at [] ≡ Ok ([], [])
end_again = refl

packed_again : (count : List ℕ) (n : ℕ) (more : List ℕ) → IsPacked count n → per_len_at (count ++ more) ≡ Ok (n, more)
packed_again [] n more p = absurd p
packed_again (b ∷ []) n more p =
    let low = p.0 in
    let short : nat_lt b 128 ≡ true = grind (arith, nat_tests, low) in
    rw short (ap (λ k. Ok (k, more)) (sym p.1))
packed_again (b ∷ c ∷ []) n more p =
    let low = p.0 in
    let high = p.1 in
    let long : nat_lt b 128 ≡ false = grind (arith, nat_tests, low) in
    let right : nat_lt b 192 ≡ true = grind (arith, nat_tests, high) in
    rw (long, right) (ap (λ k. Ok (k, more)) (sym p.2))
packed_again (b ∷ c ∷ d ∷ bs) n more p = absurd p

placed_ok : (bs : List ℕ) (r : Checked ClientData) (client : ClientData) → placed_checked bs r ≡ Ok client → (left : List ℕ) × (r ≡ Ok (client, left))
placed_ok bs (Ok v) client e =
    let h : v.0 ≡ client = cc in (v.1, ap (λ c. Ok (c, v.1)) h)
placed_ok bs (Err d) client e = absurd (let h : ⊥ = cc in h)

-- ---- the client's data blocks

pub record Found (o : Option Desktop) (channels : Option ℕ) (y : ClientData × List ℕ) : Type 0 where
  pub desktop : Desktop
  pub there : o ≡ Some desktop
  pub client : y.0 ≡ record { channels = channels_of channels; asked_width = desktop.width; asked_height = desktop.height; build = desktop.build; depth = desktop.depth }

found_ok : (o : Option Desktop) (channels : Option ℕ) (after : List ℕ) (y : ClientData × List ℕ) → data_with o channels after ≡ Ok y → Found o channels y
found_ok (Some desktop) channels after y e =
    let said : ClientData = record { channels = channels_of channels; asked_width = desktop.width; asked_height = desktop.height; build = desktop.build; depth = desktop.depth } in
    let h : (said, after) ≡ y = cc in record { desktop = desktop; there = refl; client = sym (ap (λ p. p.0) h) }
found_ok None channels after y e = absurd (let h : ⊥ = cc in h)

pub record BlocksSay (bs : List ℕ) (client : ClientData) : Type 0 where
  pub found : ClientBlocks
  pub left : List ℕ
  pub stand : AllStand no_blocks bs (found, left)
  pub says : Found found.desktop found.channels (client, left)

pub blocks_ok : (bs : List ℕ) (y : ClientData × List ℕ) → client_blocks_at bs ≡ Ok y → BlocksSay bs y.0
unfolding client_blocks_at blocks_at
blocks_ok bs y e =
    let s = then_ok (blocks_from (length bs) no_blocks bs) (λ found after. data_with found.desktop found.channels after) y e in
    let f = found_ok s.0.0.desktop s.0.0.channels s.0.1 y s.2 in
    record {
      found = s.0.0;
      left = s.0.1;
      stand = blocks_stand (length bs) no_blocks bs s.0 (omega arith) s.1;
      says = record { desktop = f.desktop; there = f.there; client = f.client };
    }

blocks_said : (blocks : List Block) (all : ClientBlocks) (desktop : Desktop) → AllByRecursion IsBlock blocks → AddAll blocks no_blocks all → all.desktop ≡ Some desktop
    → client_blocks_at (flat_map block_bytes blocks) ≡ Ok (record { channels = channels_of all.channels; asked_width = desktop.width; asked_height = desktop.height; build = desktop.build; depth = desktop.depth }, [])
unfolding client_blocks_at blocks_at
blocks_said blocks all desktop each a e =
    let bs : List ℕ = flat_map block_bytes blocks in
    go_on (blocks_from (length bs) no_blocks bs) (λ found after. data_with found.desktop found.channels after) all [] (blocks_again (length bs) blocks no_blocks all (omega arith) each a)
    ∙ ap (λ o. data_with o all.channels []) e

-- ---- the user data

abbrev asked_of : ClientData → Desktop
asked_of client = record { width = client.asked_width; height = client.asked_height; build = client.build; depth = client.depth }

abbrev client_with : ℕ → Desktop → ClientData
client_with channels desktop = record { channels = channels; asked_width = desktop.width; asked_height = desktop.height; build = desktop.build; depth = desktop.depth }

record UserData (bs : List ℕ) (client : ClientData) : Type 0 where
  count : List ℕ
  content : List ℕ
  packed : IsPacked count (length content)
  whole : bs ≡ count ++ content
  says : BlocksSay content client

user_of : (bs more content after : List ℕ) (n : ℕ) (client : ClientData) → per_len_at bs ≡ Ok (n, more) → bytes_at n more ≡ Ok (content, after) → after ≡ [] → BlocksSay content client
    → UserData bs client
user_of bs more content after n client e f none says =
    let count = count_ok Packed bs (n, more) e in
    let all : more ≡ content = content_of n more content after f ∙ ap (λ xs. content ++ xs) none ∙ append-nil content in
    record {
      count = count.0;
      content = content;
      packed = subst (IsPacked count.0) (sym (content_size n more content after f)) count.1;
      whole = count.2 ∙ ap (λ xs. count.0 ++ xs) all;
      says = says;
    }

user_ok : (bs : List ℕ) (y : ClientData × List ℕ) → user_data_at bs ≡ Ok y → UserData bs y.0
unfolding user_data_at
user_ok bs y e =
    let a = then_ok (plain (per_len_at bs)) (λ n more. counted n more) y e in
    let n = a.0.0 in
    let b = then_ok (plain (bytes_at n a.0.1)) (λ content after. in_content content after) y a.2 in
    let content = b.0.0 in
    let d = then_ok (before_caused b.0.1 (client_blocks_at content)) (λ client end. to_end client end) y b.2 in
    let f = before_ok b.0.1 (client_blocks_at content) d.0 d.1 in
    let g = map_ok (λ _. d.0.0) (plain (end_at d.0.1)) y d.2 in
    let none = nothing_after b.0.1 d.0.1 g.0 f.3 (plain_ok (end_at d.0.1) g.0 g.1) in
    let same = same_client f.0.0 d.0.0 y.0 f.2 g.2 in
    user_of bs a.0.1 content b.0.1 n y.0 (plain_ok (per_len_at bs) a.0 a.1) (plain_ok (bytes_at n a.0.1) b.0 b.1) none (subst (BlocksSay content) same (blocks_ok content f.0 f.1))

user_again : (count content : List ℕ) (client : ClientData) → IsPacked count (length content) → client_blocks_at content ≡ Ok (client, []) → user_data_at (count ++ content) ≡ Ok (client, [])
unfolding user_data_at
user_again count content client packed e =
    let all : bytes_at (length content) content ≡ Ok (content, []) = ap (bytes_at (length content)) (sym (append-nil content)) ∙ bytes_there (length content) content [] refl in
    go_on_plain (per_len_at (count ++ content)) (λ n more. counted n more) (length content) content (packed_again count (length content) content packed)
    ∙ go_on_plain (bytes_at (length content) content) (λ content after. in_content content after) content [] all
    ∙ ap (λ r. then_caused (before_caused [] r) (λ client end. to_end client end)) e
    ∙ ap (λ r. map_caused (λ _. client) (plain r)) end_again

-- ---- the request

pub request_none : (bs values left : List ℕ) → IsText create_request bs values left → values ≡ []
unfolding create_request
request_none bs values left p = p.2.5.2.2.0

pub request_ok : (bytes : List ℕ) (client : ClientData) → client_data_of bytes ≡ Ok client → IsRequest bytes client
unfolding client_data_at
request_ok bytes client e =
    let p = placed_ok bytes (client_data_at bytes) client e in
    let s = then_ok (plain (fields_at create_request bytes)) (λ _ more. user_data_at more) (client, p.0) p.1 in
    let values = s.0.0 in
    let more = s.0.1 in
    let text = read_is_text create_request bytes values more (plain_ok (fields_at create_request bytes) s.0 s.1) in
    let none : values ≡ [] = request_none bytes values more text in
    let user = user_ok more (client, p.0) s.2 in
    let stand = user.says.stand in
    let found = user.says.found in
    let says = user.says.says in
    let blocks = stand.blocks in
    let whole : more ≡ user.count ++ flat_map block_bytes blocks = user.whole ∙ ap (λ xs. user.count ++ xs) stand.whole in
    let desktop : Desktop = record { width = client.asked_width; height = client.asked_height; build = client.build; depth = client.depth } in
    let asked : says.desktop ≡ desktop = ap (λ c. asked_of c) (sym says.client) in
    record {
      count = user.count;
      blocks = blocks;
      request = subst (λ xs. IsText create_request bytes [] xs) whole (subst (λ vs. IsText create_request bytes vs more) none text);
      counted = subst (λ xs. IsPacked user.count (length xs)) stand.whole user.packed;
      each = stand.each;
      core = is_one_core (core_blocks blocks) desktop (subst (λ o. CoreAfter (core_blocks blocks) None o) (says.there ∙ ap Some asked) (core_side blocks no_blocks found stand.adds));
      network = subst (λ k. IsNetwork (network_blocks blocks) k) (ap (λ c. c.channels) (sym says.client)) (is_network_of (network_blocks blocks) found.channels (network_side blocks no_blocks found stand.adds));
    }

pub request_again : (bytes : List ℕ) (client : ClientData) → IsRequest bytes client → client_data_of bytes ≡ Ok client
unfolding client_data_at
request_again bytes client r =
    let content : List ℕ = flat_map block_bytes r.blocks in
    let desktop : Desktop = record { width = client.asked_width; height = client.asked_height; build = client.build; depth = client.depth } in
    let network = network_of (network_blocks r.blocks) client.channels r.network in
    let all : ClientBlocks = record { desktop = Some desktop; channels = network.0 } in
    let adds = both_sides r.blocks no_blocks all (one_core (core_blocks r.blocks) desktop r.core) network.1 in
    let said : client_blocks_at content ≡ Ok (client, []) = blocks_said r.blocks all desktop r.each adds refl ∙ ap (λ k. Ok (client_with k desktop, [])) network.2 in
    ap (placed_checked bytes) (
    go_on_plain (fields_at create_request bytes) (λ _ more. user_data_at more) [] (r.count ++ content) (text_is_read create_request bytes [] (r.count ++ content) r.request)
    ∙ user_again r.count content client r.counted said)

-- ---- few channels

few_in : (networks : List Block) (channels : ℕ) → IsNetwork networks channels → channels ≤ 31
few_in [] channels p = omega (arith, p)
few_in (block ∷ []) channels p = p.5
few_in (block ∷ other ∷ blocks) channels p = absurd p

pub few_channels : (bytes : List ℕ) (client : ClientData) → client_data_of bytes ≡ Ok client → client.channels ≤ 31
few_channels bytes client e =
    let r = request_ok bytes client e in few_in (network_blocks r.blocks) client.channels r.network
