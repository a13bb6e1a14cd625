-- What words tell of pixels and of those one row earlier.
use Rattle.std.specs.Prelude.{◌≡◌, ℕ, suc, ◌+◌, ◌<◌, ◌≤◌, ◌==◌, List, length, slice_index, if◌then◌else◌}
use Rattle.std.specs.Int.{bit_at}
use Rattle.rle_enc.specs.declared.words.Words.{Words}
use Rattle.rle_enc.specs.declared.words.Counts.{Counts}

-- the words tell of pixels from a place on: bit k of one, whether pixel k there is the one a row earlier, and of the other, whether the next one has its colour
pub record AreWords (pixels row : List ℕ) (at : ℕ) (w : Words) : Type 0 where
  pub same : (k : ℕ) → k < w.left → bit_at w.same k ≡ (if slice_index pixels (at + k) == slice_index row (at + k) then 1 else 0)
  pub next : (k : ℕ) → k < w.left → bit_at w.next k ≡ (if slice_index pixels (suc (at + k)) == slice_index pixels (at + k) then 1 else 0)
  pub few : w.left ≤ 64
  pub within : at + w.left < length pixels
  pub above : at + w.left ≤ length row

-- the first bits that are 0 in both words, the ones of each behind them, and where these end
pub record AreCounts (w : Words) (n : Counts) : Type 0 where
  pub alone : (k : ℕ) → k < n.alone → (bit_at w.same k ≡ 0) × (bit_at w.next k ≡ 0)
  pub some : 1 ≤ n.background + n.color
  pub background : (k : ℕ) → k < n.background → bit_at w.same (n.alone + k) ≡ 1
  pub background_ends : bit_at w.same (n.alone + n.background) ≡ 0
  pub color : (k : ℕ) → k < n.color → bit_at w.next (n.alone + k) ≡ 1
  pub color_ends : bit_at w.next (n.alone + n.color) ≡ 0
  pub background_within : n.alone + n.background < w.left
  pub color_within : n.alone + suc n.color < w.left
