-- Blocks, one after the other.
use Rattle.std.proofs.Common.{◌≡◌, ℕ, zero, suc, ◌≤◌, ◌<◌, List, [], ◌∷◌, length, refl, ap, sym, ◌∙◌, arith}
use Rattle.std.specs.Prelude.{Ok, Err}
use Rattle.gcc_per.specs.declared.gcc_fault.Cause.{Cause}
use Rattle.gcc_per.specs.declared.client_blocks.ClientBlocks.{ClientBlocks}
use Rattle.wire_num.specs.Caused.{then_caused}
use Rattle.gcc_per.specs.ClientBlocks.{block_at, blocks_from, no_blocks, blocks_at}
use Rattle.gcc_per.proofs.Blocks.{block_shorter}

-- at most so many blocks are left, and reading them is reading all
pub record Left (found : ClientBlocks) (bs whole : List ℕ) : Type 0 where
  pub most : ℕ
  pub enough : length bs ≤ most
  pub same : blocks_from most found bs ≡ blocks_at whole

pub all_left : (whole : List ℕ) → Left no_blocks whole whole
unfolding blocks_at
all_left whole = record { most = length whole; enough = omega arith; same = refl }

at_end : (n : ℕ) (found : ClientBlocks) (bs : List ℕ) → length bs ≡ 0 → blocks_from n found bs ≡ Ok (found, bs)
at_end zero found [] e = refl
at_end (suc n) found [] e = refl
at_end n found (b ∷ bs) e = absurd (omega (arith, e))

-- nothing is left
pub none_left : (found : ClientBlocks) (bs whole : List ℕ) → Left found bs whole → length bs ≡ 0 → blocks_at whole ≡ Ok (found, bs)
none_left found bs whole l e = sym l.same ∙ at_end l.most found bs e

step_ok : (most : ℕ) (found more : ClientBlocks) (bs after whole : List ℕ) → length bs ≤ most → blocks_from most found bs ≡ blocks_at whole → 0 < length bs
    → block_at found bs ≡ Ok (more, after) → Left more after whole
step_ok most found more [] after whole fits same some e = absurd (omega (arith, some))
step_ok zero found more (b ∷ bs) after whole fits same some e = absurd (omega (arith, fits))
step_ok (suc n) found more (b ∷ bs) after whole fits same some e = record {
  most = n;
  enough = omega (arith, fits, block_shorter found (b ∷ bs) (more, after) e);
  same = sym (ap (λ r. then_caused r (λ found after. blocks_from n found after)) e) ∙ same;
}

-- a block is there
pub block_left : (found more : ClientBlocks) (bs after whole : List ℕ) → Left found bs whole → 0 < length bs → block_at found bs ≡ Ok (more, after) → Left more after whole
block_left found more bs after whole l some e = step_ok l.most found more bs after whole l.enough l.same some e

step_err : (most : ℕ) (found : ClientBlocks) (bs whole : List ℕ) (e : Cause × List ℕ) → length bs ≤ most → blocks_from most found bs ≡ blocks_at whole → 0 < length bs
    → block_at found bs ≡ Err e → blocks_at whole ≡ Err e
step_err most found [] whole e fits same some h = absurd (omega (arith, some))
step_err zero found (b ∷ bs) whole e fits same some h = absurd (omega (arith, fits))
step_err (suc n) found (b ∷ bs) whole e fits same some h = sym same ∙ ap (λ r. then_caused r (λ found after. blocks_from n found after)) h

-- a block is refused
pub block_refused : (found : ClientBlocks) (bs whole : List ℕ) (e : Cause × List ℕ) → Left found bs whole → 0 < length bs → block_at found bs ≡ Err e → blocks_at whole ≡ Err e
block_refused found bs whole e l some h = step_err l.most found bs whole e l.enough l.same some h
