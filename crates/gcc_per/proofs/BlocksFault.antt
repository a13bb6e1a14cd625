-- Blocks are refused just where the first fault among them stands.
use Rattle.std.proofs.Common.{◌≡◌, ℕ, zero, suc, ◌≤◌, ◌<◌, ◌⊎◌, inl, inr, true, List, [], ◌∷◌, ◌++◌, length, refl, ap, ◌∙◌, sym, arith, length-append}
use Rattle.std.proofs.Common.{append_assoc, append-nil, subst}
use Rattle.std.specs.Prelude.{Option, Some, None, is_none, Ok, Err, flat_map}
use Rattle.std.specs.List.{AllByRecursion}
use Rattle.wire_num.specs.Refusal.{Missing}
use Rattle.byteorder.specs.Endian.{little_number}
use Rattle.gcc_per.specs.declared.gcc_fault.Cause.{Cause}
use Rattle.gcc_per.specs.declared.gcc_fault.Cause.TheVariants.{Broken}
use Rattle.gcc_per.specs.declared.client_core.Desktop.{Desktop}
use Rattle.gcc_per.specs.declared.client_blocks.BlockKind.{BlockKind}
use Rattle.gcc_per.specs.declared.client_blocks.BlockKind.TheVariants.{ClientCore, ClientNetwork, Other}
use Rattle.gcc_per.specs.declared.client_blocks.ClientBlocks.{ClientBlocks}
use Rattle.gcc_per.specs.declared.client_data.ClientData.{ClientData}
use Rattle.gcc_per.specs.Checked.{Checked}
use Rattle.wire_num.specs.Caused.{then_caused}
use Rattle.gcc_per.specs.ClientBlocks.{kind_of, block_at, blocks_from, no_blocks, blocks_at}
use Rattle.gcc_per.specs.ClientData.{channels_of, data_with, client_blocks_at}
use Rattle.gcc_per.specs.Grammar.{Block, block_bytes, IsBlock, core_blocks, network_blocks, IsCore, IsNetwork}
use Rattle.gcc_per.specs.Faults.{IsType, HasBadHeader, BeginsWith, HasBlockFault, MayFollow}
use Rattle.wire_num.proofs.Caused.{Same, go_on, then_err}
use Rattle.gcc_per.proofs.BlockText.{none_is, block_stands, block_again}
use Rattle.gcc_per.proofs.BlocksText.{AddAll, CoreAfter, NetworkAfter, blocks_stand, blocks_again, one_more, core_side, network_side, both_sides, one_core}
use Rattle.gcc_per.proofs.BlocksText.{is_network_of, network_of}
use Rattle.gcc_per.proofs.BlockFault.{New, block_fault, fault_block}

-- ---- a block behind others

-- what was found, seen in the blocks before
no_core : (cores : List Block) (new : Option Desktop) → CoreAfter cores None new → is_none new ≡ true → cores ≡ []
no_core [] new p e = refl
no_core (block ∷ []) new p e = let k : None ≡ Some p.0 = sym (none_is new e) ∙ p.2 in absurd (let h : ⊥ = cc in h)
no_core (block ∷ other ∷ blocks) new p e = absurd p.2

core_none : (cores : List Block) (new : Option Desktop) → CoreAfter cores None new → cores ≡ [] → is_none new ≡ true
core_none [] new p e = ap is_none p
core_none (block ∷ blocks) new p e = absurd (let h : ⊥ = cc in h)

no_network : (networks : List Block) (new : Option ℕ) → NetworkAfter networks None new → is_none new ≡ true → networks ≡ []
no_network [] new p e = refl
no_network (block ∷ []) new p e = let k : None ≡ Some p.0 = sym (none_is new e) ∙ p.2 in absurd (let h : ⊥ = cc in h)
no_network (block ∷ other ∷ blocks) new p e = absurd p.2

network_none : (networks : List Block) (new : Option ℕ) → NetworkAfter networks None new → networks ≡ [] → is_none new ≡ true
network_none [] new p e = ap is_none p
network_none (block ∷ blocks) new p e = absurd (let h : ⊥ = cc in h)

follows : (blocks : List Block) (found : ClientBlocks) → AddAll blocks no_blocks found → (kind : BlockKind) → New found kind → MayFollow blocks kind
follows blocks found a ClientCore e = no_core (core_blocks blocks) found.desktop (core_side blocks no_blocks found a) e
follows blocks found a ClientNetwork e = no_network (network_blocks blocks) found.channels (network_side blocks no_blocks found a) e
follows blocks found a Other e = tt

is_new_there : (blocks : List Block) (found : ClientBlocks) → AddAll blocks no_blocks found → (kind : BlockKind) → MayFollow blocks kind → New found kind
is_new_there blocks found a ClientCore e = core_none (core_blocks blocks) found.desktop (core_side blocks no_blocks found a) e
is_new_there blocks found a ClientNetwork e = network_none (network_blocks blocks) found.channels (network_side blocks no_blocks found a) e
is_new_there blocks found a Other e = refl

-- a fault is one by which kinds may stand there alone
same_type : (M N : BlockKind → Type 0) (bs left : List ℕ) → ((kind : BlockKind) → N kind → M kind) → Missing (IsType M) bs left → Missing (IsType N) bs left
same_type M N bs left back m = (λ text more whole is. m.0 text more whole (is.0, back (kind_of (little_number 2 text)) is.1), m.1)

same_header : (M N : BlockKind → Type 0) (bs left : List ℕ) → ((kind : BlockKind) → M kind → N kind) → ((kind : BlockKind) → N kind → M kind)
    → HasBadHeader M bs left → HasBadHeader N bs left
same_header M N bs left there back f =
    elim f [
      | inl m ↦ inl (same_type M N bs left back m)
      | inr g ↦ inr (g.0, g.1, g.2, (g.3.0, there (kind_of (little_number 2 g.0)) g.3.1), g.4)
    ]

same_begin : (M N : BlockKind → Type 0) (kind : BlockKind) (bs : List ℕ) (block : Block) (behind : List ℕ) → ((k : BlockKind) → M k → N k)
    → BeginsWith M kind bs block behind
    → BeginsWith N kind bs block behind
same_begin M N kind bs block behind there b = record { whole = b.whole; is = b.is; kind_is = b.kind_is; may = there kind b.may }

same_fault : (M N : BlockKind → Type 0) (cause : Cause) (bs left : List ℕ) → ((kind : BlockKind) → M kind → N kind) → ((kind : BlockKind) → N kind → M kind)
    → HasBlockFault M cause bs left → HasBlockFault N cause bs left
same_fault M N cause bs left there back f =
    elim f [
      | inl h ↦ inl (h.0, same_header M N bs left there back h.1)
      | inr g ↦ elim g [
        | inl h ↦ inr (inl (h.0, h.1, h.2, same_begin M N ClientCore bs h.1 h.2 there h.3, h.4, h.5))
        | inr h ↦ inr (inr (h.0, h.1, h.2, same_begin M N ClientNetwork bs h.0 h.1 there h.3, h.4, h.5))
      ]
    ]

-- ---- behind whole blocks

record FaultBehind (found : ClientBlocks) (bs left : List ℕ) (cause : Cause) : Type 0 where
  blocks : List Block
  rest : List ℕ
  more : ClientBlocks
  each : AllByRecursion IsBlock blocks
  whole : bs ≡ flat_map block_bytes blocks ++ rest
  adds : AddAll blocks found more
  some : 0 < length rest
  fault : block_at more rest ≡ Err (cause, left)

blocks_fault : (n : ℕ) (found : ClientBlocks) (bs left : List ℕ) (cause : Cause) → blocks_from n found bs ≡ Err (cause, left) → FaultBehind found bs left cause
blocks_fault zero found [] left cause e = absurd (let h : ⊥ = cc in h)
blocks_fault (suc n) found [] left cause e = absurd (let h : ⊥ = cc in h)
blocks_fault zero found (b ∷ bs) left cause e = absurd (let h : ⊥ = cc in h)
blocks_fault (suc n) found (b ∷ bs) left cause e =
    elim (then_err (block_at found (b ∷ bs)) (λ more after. blocks_from n more after) (cause, left) e) [
      | inl h ↦ record { blocks = []; rest = b ∷ bs; more = found; each = tt; whole = refl; adds = refl; some = omega arith; fault = h }
      | inr h ↦
          let one = block_stands found (b ∷ bs) h.0 h.1 in
          let others = blocks_fault n h.0.0 h.0.1 left cause h.2 in
          record {
            blocks = one.block ∷ others.blocks;
            rest = others.rest;
            more = others.more;
            each = (one.is, others.each);
            whole = one.whole ∙ ap (λ xs. block_bytes one.block ++ xs) others.whole
                ∙ sym (append_assoc (block_bytes one.block) (flat_map block_bytes others.blocks) others.rest);
            adds = (h.0.0, one.adds, others.adds);
            some = others.some;
            fault = others.fault;
          }
    ]

refused_at_once : (n : ℕ) (found : ClientBlocks) (bs left : List ℕ) (cause : Cause) → length bs ≤ n → 0 < length bs → block_at found bs ≡ Err (cause, left)
    → blocks_from n found bs ≡ Err (cause, left)
refused_at_once zero found bs left cause fits some e = absurd (omega (arith, fits, some))
refused_at_once (suc n) found bs left cause fits some e = one_more n found bs some ∙ ap (λ r. then_caused r (λ more after. blocks_from n more after)) e

fault_blocks : (n : ℕ) (blocks : List Block) (found more : ClientBlocks) (rest left : List ℕ) (cause : Cause)
    → length (flat_map block_bytes blocks ++ rest) ≤ n → AllByRecursion IsBlock blocks
    → AddAll blocks found more → 0 < length rest → block_at more rest ≡ Err (cause, left)
    → blocks_from n found (flat_map block_bytes blocks ++ rest) ≡ Err (cause, left)
fault_blocks n [] found more rest left cause fits each a some e =
    refused_at_once n found rest left cause fits some (ap (λ c. block_at c rest) (sym a) ∙ e)
fault_blocks zero (block ∷ blocks) found more rest left cause fits each a some e =
    absurd (omega (arith, fits, some, length-append (block_bytes block ++ flat_map block_bytes blocks) rest))
fault_blocks (suc n) (block ∷ blocks) found more rest left cause fits each a some e =
    let size = each.0.0 in
    let after : List ℕ = flat_map block_bytes blocks ++ rest in
    let bs : List ℕ = block_bytes block ++ after in
    let same : (block_bytes block ++ flat_map block_bytes blocks) ++ rest ≡ bs = append_assoc (block_bytes block) (flat_map block_bytes blocks) rest in
    let lengths = length-append (block_bytes block) after in
    let inner = length-append block.type (block.size ++ block.content) in
    let many : 0 < length bs = omega (arith, size, lengths, inner) in
    let fewer : length after ≤ n = omega (arith, fits, ap length same, size, lengths, inner) in
    ap (blocks_from (suc n) found) same
    ∙ one_more n found bs many
    ∙ go_on (block_at found bs) (λ more after. blocks_from n more after) a.0 after (block_again found a.0 block after each.0 a.1)
    ∙ fault_blocks n blocks a.0 more rest left cause fewer each.1 a.2 some e

-- ---- all blocks of the user data

-- what is said of blocks without a fault
pub record FirstBlocks (bs : List ℕ) (blocks : List Block) (rest : List ℕ) : Type 0 where
  pub whole : bs ≡ flat_map block_bytes blocks ++ rest
  pub each : AllByRecursion IsBlock blocks
  pub core : (core_blocks blocks ≡ []) ⊎ ((desktop : Desktop) × IsCore (core_blocks blocks) desktop)
  pub network : (channels : ℕ) × IsNetwork (network_blocks blocks) channels

core_found : (cores : List Block) (new : Option Desktop) → CoreAfter cores None new → (cores ≡ []) ⊎ ((desktop : Desktop) × IsCore cores desktop)
core_found [] new p = inl refl
core_found (block ∷ []) new p = inr (p.0, p.1)
core_found (block ∷ other ∷ blocks) new p = absurd p.2

core_back : (cores : List Block) → (cores ≡ []) ⊎ ((desktop : Desktop) × IsCore cores desktop) → (new : Option Desktop) × CoreAfter cores None new
core_back cores c =
    elim c [
      | inl e ↦ (None, subst (λ bs. CoreAfter bs None None) (sym e) refl)
      | inr p ↦ (Some p.0, one_core cores p.0 p.1)
    ]

pub first_blocks : (bs : List ℕ) (blocks : List Block) (rest : List ℕ) (found : ClientBlocks) → bs ≡ flat_map block_bytes blocks ++ rest
    → AllByRecursion IsBlock blocks
    → AddAll blocks no_blocks found → FirstBlocks bs blocks rest
first_blocks bs blocks rest found whole each a = record {
  whole = whole;
  each = each;
  core = core_found (core_blocks blocks) found.desktop (core_side blocks no_blocks found a);
  network = (channels_of found.channels, is_network_of (network_blocks blocks) found.channels (network_side blocks no_blocks found a));
}

record Found (blocks : List Block) (desktop : Option Desktop) : Type 0 where
  all : ClientBlocks
  adds : AddAll blocks no_blocks all
  core : all.desktop ≡ desktop

found_with : (blocks : List Block) (desktop : Option Desktop) → CoreAfter (core_blocks blocks) None desktop
    → (channels : ℕ) × IsNetwork (network_blocks blocks) channels → Found blocks desktop
found_with blocks desktop c n =
    let network = network_of (network_blocks blocks) n.0 n.1 in
    let all : ClientBlocks = record { desktop = desktop; channels = network.0 } in
    record { all = all; adds = both_sides blocks no_blocks all c network.1; core = refl }

pub record BlockRefused (bs left : List ℕ) (cause : Cause) : Type 0 where
  pub blocks : List Block
  pub rest : List ℕ
  pub first : FirstBlocks bs blocks rest
  pub some : 0 < length rest
  pub fault : HasBlockFault (MayFollow blocks) cause rest left

pub record CoreMissing (bs left : List ℕ) (cause : Cause) : Type 0 where
  pub blocks : List Block
  pub first : FirstBlocks bs blocks []
  pub none : core_blocks blocks ≡ []
  pub cause_is : cause ≡ Broken
  pub left_is : left ≡ []

none_err : (o : Option Desktop) (channels : Option ℕ) (after left : List ℕ) (cause : Cause) → data_with o channels after ≡ Err (cause, left)
    → (o ≡ None) × (cause ≡ Broken) × (left ≡ after)
none_err (Some desktop) channels after left cause e = absurd (let h : ⊥ = cc in h)
none_err None channels after left cause e =
    let h : Same (Broken, after) (cause, left) = cc in (refl, sym (ap (λ p. p.0) h), sym (ap (λ p. p.1) h))

abbrev two : ClientBlocks → List ℕ → Checked ClientBlocks
two found left = Ok (found, left)

abbrev SameTwo : ClientBlocks × List ℕ → ClientBlocks × List ℕ → Type 0
SameTwo x y = x ≡ y

same_left : (found other : ClientBlocks) (left : List ℕ) → two found left ≡ two other [] → left ≡ []
same_left found other left e = let h : SameTwo (found, left) (other, []) = cc in ap (λ p. p.1) h

pub client_fault : (bs left : List ℕ) (cause : Cause) → client_blocks_at bs ≡ Err (cause, left) → BlockRefused bs left cause ⊎ CoreMissing bs left cause
unfolding client_blocks_at blocks_at
client_fault bs left cause e =
    elim (then_err (blocks_from (length bs) no_blocks bs) (λ found after. data_with found.desktop found.channels after) (cause, left) e) [
      | inl h ↦
          let f = blocks_fault (length bs) no_blocks bs left cause h in
          inl (record {
            blocks = f.blocks;
            rest = f.rest;
            first = first_blocks bs f.blocks f.rest f.more f.whole f.each f.adds;
            some = f.some;
            fault = same_fault (New f.more) (MayFollow f.blocks) cause f.rest left (follows f.blocks f.more f.adds)
                (is_new_there f.blocks f.more f.adds) (block_fault f.more f.rest left cause f.fault);
          })
      | inr h ↦
          let found = h.0.0 in
          let after = h.0.1 in
          let n : ℕ = length bs in
          let stand = blocks_stand n no_blocks bs h.0 (omega arith) h.1 in
          let blocks = stand.blocks in
          let none = none_err found.desktop found.channels after left cause h.2 in
          let read : blocks_from n no_blocks bs ≡ two found [] =
          ap (blocks_from n no_blocks) stand.whole ∙ blocks_again n blocks no_blocks found (omega (arith, ap length stand.whole)) stand.each stand.adds in
          inr (record {
            blocks = blocks;
            first = first_blocks bs blocks [] found (stand.whole ∙ sym (append-nil (flat_map block_bytes blocks))) stand.each stand.adds;
            none = no_core (core_blocks blocks) found.desktop (core_side blocks no_blocks found stand.adds) (ap is_none none.0);
            cause_is = none.1;
            left_is = none.2 ∙ same_left found found after (sym h.1 ∙ read);
          })
    ]

abbrev no_data : Cause → List ℕ → Checked ClientData
no_data cause left = Err (cause, left)

pub fault_client : (bs left : List ℕ) (blocks : List Block) (rest : List ℕ) (cause : Cause) → FirstBlocks bs blocks rest → 0 < length rest
    → HasBlockFault (MayFollow blocks) cause rest left
    → client_blocks_at bs ≡ no_data cause left
unfolding client_blocks_at blocks_at
fault_client bs left blocks rest cause first some f =
    let core = core_back (core_blocks blocks) first.core in
    let found = found_with blocks core.0 core.1 first.network in
    let all = found.all in
    let bytes : List ℕ = flat_map block_bytes blocks ++ rest in
    let new = same_fault (MayFollow blocks) (New all) cause rest left (is_new_there blocks all found.adds) (follows blocks all found.adds) f in
    let fault = fault_block all rest left cause new in
    ap (λ r. then_caused r (λ found after. data_with found.desktop found.channels after))
    (ap (blocks_from (length bs) no_blocks) first.whole
    ∙ fault_blocks (length bs) blocks no_blocks all rest left cause (omega (arith, ap length first.whole)) first.each found.adds some fault)

pub no_core_client : (bs : List ℕ) (blocks : List Block) → FirstBlocks bs blocks [] → core_blocks blocks ≡ [] → client_blocks_at bs ≡ no_data Broken []
unfolding client_blocks_at blocks_at
no_core_client bs blocks first none =
    let found = found_with blocks None (subst (λ cores. CoreAfter cores None None) (sym none) refl) first.network in
    let all = found.all in
    let whole : bs ≡ flat_map block_bytes blocks = first.whole ∙ append-nil (flat_map block_bytes blocks) in
    go_on (blocks_from (length bs) no_blocks bs) (λ found after. data_with found.desktop found.channels after) all []
    (ap (blocks_from (length bs) no_blocks) whole ∙ blocks_again (length bs) blocks no_blocks all (omega (arith, ap length whole)) first.each found.adds)
    ∙ ap (λ o. data_with o all.channels []) found.core

-- a client's data, whatever they are
pub some_client : (bs : List ℕ) (blocks : List Block) (desktop : Desktop) → FirstBlocks bs blocks [] → IsCore (core_blocks blocks) desktop
    → (client : ClientData) × (client_blocks_at bs ≡ Ok (client, []))
unfolding client_blocks_at blocks_at
some_client bs blocks desktop first core =
    let found = found_with blocks (Some desktop) (one_core (core_blocks blocks) desktop core) first.network in
    let all = found.all in
    let whole : bs ≡ flat_map block_bytes blocks = first.whole ∙ append-nil (flat_map block_bytes blocks) in (
      record { channels = channels_of all.channels; asked_width = desktop.width; asked_height = desktop.height; build = desktop.build; depth = desktop.depth },
      go_on (blocks_from (length bs) no_blocks bs) (λ found after. data_with found.desktop found.channels after) all []
          (ap (blocks_from (length bs) no_blocks) whole ∙ blocks_again (length bs) blocks no_blocks all (omega (arith, ap length whole)) first.each found.adds)
          ∙ ap (λ o. data_with o all.channels []) found.core,
    )
