-- Blocks in a row: one CS_CORE among them, and at most one CS_NET.
use Rattle.std.proofs.Common.{◌≡◌, ℕ, zero, suc, ◌≤◌, ◌<◌, cond, List, [], ◌∷◌, ◌++◌, length, refl, ap, ◌∙◌, sym, arith, length-append, subst}
use Rattle.std.specs.Prelude.{Option, Some, None, Ok, flat_map}
use Rattle.std.specs.List.{AllByRecursion}
use Rattle.gcc_per.specs.declared.client_core.Desktop.{Desktop}
use Rattle.gcc_per.specs.declared.client_blocks.BlockKind.{BlockKind}
use Rattle.gcc_per.specs.declared.client_blocks.BlockKind.TheVariants.{ClientCore, ClientNetwork, Other}
use Rattle.gcc_per.specs.declared.client_blocks.ClientBlocks.{ClientBlocks}
use Rattle.wire_num.specs.Caused.{then_caused}
use Rattle.gcc_per.specs.ClientCore.{desktop_of}
use Rattle.gcc_per.specs.ClientBlocks.{with_desktop, with_channels, block_at, blocks_from}
use Rattle.gcc_per.specs.ClientData.{channels_of}
use Rattle.gcc_per.specs.Grammar.{Block, block_bytes, kind_in, IsBlock, is_core, is_network, core_blocks, network_blocks, HasChannels, IsCore, IsNetwork}
use Rattle.wire_num.proofs.Caused.{then_ok, go_on}
use Rattle.gcc_per.proofs.Blocks.{block_shorter}
use Rattle.gcc_per.proofs.BlockText.{Adds, block_stands, block_again}

-- what is found with all blocks
abbrev pub AddAll : List Block → ClientBlocks → ClientBlocks → Type 0
AddAll [] found all = all ≡ found
AddAll (block ∷ blocks) found all = (more : ClientBlocks) × Adds (kind_in block) block.content found more × AddAll blocks more all

-- ---- blocks that were read stand there

pub record AllStand (found : ClientBlocks) (bs : List ℕ) (y : ClientBlocks × List ℕ) : Type 0 where
  pub blocks : List Block
  pub whole : bs ≡ flat_map block_bytes blocks
  pub each : AllByRecursion IsBlock blocks
  pub adds : AddAll blocks found y.0

none_stand : (found : ClientBlocks) (y : ClientBlocks × List ℕ) → (found, []) ≡ y → AllStand found [] y
none_stand found y e = record { blocks = []; whole = refl; each = tt; adds = sym (ap (λ p. p.0) e) }

pub blocks_stand : (n : ℕ) (found : ClientBlocks) (bs : List ℕ) (y : ClientBlocks × List ℕ) → length bs ≤ n → blocks_from n found bs ≡ Ok y → AllStand found bs y
blocks_stand zero found [] y fits e = none_stand found y cc
blocks_stand (suc n) found [] y fits e = none_stand found y cc
blocks_stand zero found (b ∷ bs) y fits e = absurd (omega (arith, fits))
blocks_stand (suc n) found (b ∷ bs) y fits e =
    let s = then_ok (block_at found (b ∷ bs)) (λ more after. blocks_from n more after) y e in
    let one = block_stands found (b ∷ bs) s.0 s.1 in
    let fewer : length s.0.1 ≤ n = omega (arith, fits, block_shorter found (b ∷ bs) s.0 s.1) in
    let others = blocks_stand n s.0.0 s.0.1 y fewer s.2 in
    record {
      blocks = one.block ∷ others.blocks;
      whole = one.whole ∙ ap (λ xs. block_bytes one.block ++ xs) others.whole;
      each = (one.is, others.each);
      adds = (s.0.0, one.adds, others.adds);
    }

-- ---- blocks that stand there are read

pub one_more : (n : ℕ) (found : ClientBlocks) (bs : List ℕ) → 0 < length bs → blocks_from (suc n) found bs ≡ then_caused (block_at found bs) (λ more after. blocks_from n more after)
one_more n found [] some = absurd (omega (arith, some))
one_more n found (b ∷ bs) some = refl

pub blocks_again : (n : ℕ) (blocks : List Block) (found all : ClientBlocks) → length (flat_map block_bytes blocks) ≤ n → AllByRecursion IsBlock blocks → AddAll blocks found all
    → blocks_from n found (flat_map block_bytes blocks) ≡ Ok (all, [])
blocks_again zero [] found all fits each a = ap (λ c. Ok (c, [])) (sym a)
blocks_again (suc n) [] found all fits each a = ap (λ c. Ok (c, [])) (sym a)
blocks_again zero (block ∷ blocks) found all fits each a =
    let size = each.0.0 in
    absurd (omega (arith, fits, size, length-append (block_bytes block) (flat_map block_bytes blocks), length-append block.type (block.size ++ block.content)))
blocks_again (suc n) (block ∷ blocks) found all fits each a =
    let size = each.0.0 in
    let rest : List ℕ = flat_map block_bytes blocks in
    let bs : List ℕ = block_bytes block ++ rest in
    let lengths = length-append (block_bytes block) rest in
    let inner = length-append block.type (block.size ++ block.content) in
    let some : 0 < length bs = omega (arith, size, lengths, inner) in
    let fewer : length rest ≤ n = omega (arith, fits, size, lengths, inner) in
    one_more n found bs some
    ∙ go_on (block_at found bs) (λ more after. blocks_from n more after) a.0 rest (block_again found a.0 block rest each.0 a.1)
    ∙ blocks_again n blocks a.0 all fewer each.1 a.2

-- ---- one CS_CORE, at most one CS_NET

abbrev pub CoreAfter : List Block → Option Desktop → Option Desktop → Type 0
CoreAfter [] old new = new ≡ old
CoreAfter (block ∷ blocks) None new = (desktop : Desktop) × (desktop_of block.content ≡ Some desktop) × CoreAfter blocks (Some desktop) new
CoreAfter (block ∷ blocks) (Some desktop) new = ⊥

abbrev pub NetworkAfter : List Block → Option ℕ → Option ℕ → Type 0
NetworkAfter [] old new = new ≡ old
NetworkAfter (block ∷ blocks) None new = (channels : ℕ) × HasChannels block.content channels × NetworkAfter blocks (Some channels) new
NetworkAfter (block ∷ blocks) (Some channels) new = ⊥

first_core : (block : Block) (blocks : List Block) (old new : Option Desktop) → old ≡ None → (desktop : Desktop) → desktop_of block.content ≡ Some desktop → CoreAfter blocks (Some desktop) new
    → CoreAfter (block ∷ blocks) old new
first_core block blocks None new e desktop d p = (desktop, d, p)
first_core block blocks (Some other) new e desktop d p = absurd (let h : ⊥ = cc in h)

first_network : (block : Block) (blocks : List Block) (old new : Option ℕ) → old ≡ None → (channels : ℕ) → HasChannels block.content channels → NetworkAfter blocks (Some channels) new
    → NetworkAfter (block ∷ blocks) old new
first_network block blocks None new e channels d p = (channels, d, p)
first_network block blocks (Some other) new e channels d p = absurd (let h : ⊥ = cc in h)

core_one : (kind : BlockKind) (block : Block) (cores : List Block) (found more : ClientBlocks) (new : Option Desktop) → Adds kind block.content found more → CoreAfter cores more.desktop new
    → CoreAfter (cond (is_core kind) (block ∷ cores) cores) found.desktop new
core_one ClientCore block cores found more new a p = first_core block cores found.desktop new a.1 a.0 a.2 (subst (λ m. CoreAfter cores m.desktop new) a.3 p)
core_one ClientNetwork block cores found more new a p = subst (λ m. CoreAfter cores m.desktop new) a.3 p
core_one Other block cores found more new a p = subst (λ m. CoreAfter cores m.desktop new) a p

network_one : (kind : BlockKind) (block : Block) (networks : List Block) (found more : ClientBlocks) (new : Option ℕ) → Adds kind block.content found more → NetworkAfter networks more.channels new
    → NetworkAfter (cond (is_network kind) (block ∷ networks) networks) found.channels new
network_one ClientCore block networks found more new a p = subst (λ m. NetworkAfter networks m.channels new) a.3 p
network_one ClientNetwork block networks found more new a p = first_network block networks found.channels new a.1 a.0 a.2 (subst (λ m. NetworkAfter networks m.channels new) a.3 p)
network_one Other block networks found more new a p = subst (λ m. NetworkAfter networks m.channels new) a p

pub core_side : (blocks : List Block) (found all : ClientBlocks) → AddAll blocks found all → CoreAfter (core_blocks blocks) found.desktop all.desktop
core_side [] found all a = ap (λ c. c.desktop) a
core_side (block ∷ blocks) found all a = core_one (kind_in block) block (core_blocks blocks) found a.0 all.desktop a.1 (core_side blocks a.0 all a.2)

pub network_side : (blocks : List Block) (found all : ClientBlocks) → AddAll blocks found all → NetworkAfter (network_blocks blocks) found.channels all.channels
network_side [] found all a = ap (λ c. c.channels) a
network_side (block ∷ blocks) found all a = network_one (kind_in block) block (network_blocks blocks) found a.0 all.channels a.1 (network_side blocks a.0 all a.2)

-- back: both sides make the whole
abbrev two_found : Option Desktop → Option ℕ → ClientBlocks
two_found desktop channels = record { desktop = desktop; channels = channels }

record OneMore (kind : BlockKind) (block : Block) (cores networks : List Block) (found : ClientBlocks) (desktop : Option Desktop) (channels : Option ℕ) : Type 0 where
  more : ClientBlocks
  adds : Adds kind block.content found more
  core : CoreAfter cores more.desktop desktop
  network : NetworkAfter networks more.channels channels

core_back : (block : Block) (cores networks : List Block) (found : ClientBlocks) (old desktop : Option Desktop) (channels : Option ℕ) → found.desktop ≡ old → CoreAfter (block ∷ cores) old desktop
    → NetworkAfter networks found.channels channels → OneMore ClientCore block cores networks found desktop channels
core_back block cores networks found None desktop channels e p q =
    record { more = with_desktop found p.0; adds = (p.0, e, p.1, refl); core = p.2; network = q }
core_back block cores networks found (Some other) desktop channels e p q = absurd p

network_back : (block : Block) (cores networks : List Block) (found : ClientBlocks) (desktop : Option Desktop) (old channels : Option ℕ) → found.channels ≡ old → CoreAfter cores found.desktop desktop
    → NetworkAfter (block ∷ networks) old channels → OneMore ClientNetwork block cores networks found desktop channels
network_back block cores networks found desktop None channels e p q =
    record { more = with_channels found q.0; adds = (q.0, e, q.1, refl); core = p; network = q.2 }
network_back block cores networks found desktop (Some other) channels e p q = absurd q

back_one : (kind : BlockKind) (block : Block) (cores networks : List Block) (found : ClientBlocks) (desktop : Option Desktop) (channels : Option ℕ)
    → CoreAfter (cond (is_core kind) (block ∷ cores) cores) found.desktop desktop → NetworkAfter (cond (is_network kind) (block ∷ networks) networks) found.channels channels
    → OneMore kind block cores networks found desktop channels
back_one ClientCore block cores networks found desktop channels p q = core_back block cores networks found found.desktop desktop channels refl p q
back_one ClientNetwork block cores networks found desktop channels p q = network_back block cores networks found desktop found.channels channels refl p q
back_one Other block cores networks found desktop channels p q = record { more = found; adds = refl; core = p; network = q }

pub both_sides : (blocks : List Block) (found all : ClientBlocks) → CoreAfter (core_blocks blocks) found.desktop all.desktop → NetworkAfter (network_blocks blocks) found.channels all.channels
    → AddAll blocks found all
both_sides [] found all p q =
    ap (λ d. two_found d all.channels) p ∙ ap (two_found found.desktop) q
both_sides (block ∷ blocks) found all p q =
    let one = back_one (kind_in block) block (core_blocks blocks) (network_blocks blocks) found all.desktop all.channels p q in
    (one.more, one.adds, both_sides blocks one.more all one.core one.network)

-- ---- from nothing on

pub is_one_core : (cores : List Block) (desktop : Desktop) → CoreAfter cores None (Some desktop) → IsCore cores desktop
is_one_core [] desktop p = absurd (let h : ⊥ = cc in h)
is_one_core (block ∷ []) desktop p = p.1 ∙ sym p.2
is_one_core (block ∷ other ∷ blocks) desktop p = absurd p.2

pub one_core : (cores : List Block) (desktop : Desktop) → IsCore cores desktop → CoreAfter cores None (Some desktop)
one_core [] desktop p = absurd p
one_core (block ∷ []) desktop p = (desktop, p, refl)
one_core (block ∷ other ∷ blocks) desktop p = absurd p

pub is_network_of : (networks : List Block) (channels : Option ℕ) → NetworkAfter networks None channels → IsNetwork networks (channels_of channels)
is_network_of [] channels p = ap channels_of p
is_network_of (block ∷ []) channels p = subst (λ o. HasChannels block.content (channels_of o)) (sym p.2) p.1
is_network_of (block ∷ other ∷ blocks) channels p = absurd p.2

pub network_of : (networks : List Block) (channels : ℕ) → IsNetwork networks channels → (found : Option ℕ) × NetworkAfter networks None found × (channels_of found ≡ channels)
network_of [] channels p = (None, refl, sym p)
network_of (block ∷ []) channels p = (Some channels, (channels, p, refl), refl)
network_of (block ∷ other ∷ blocks) channels p = absurd p
