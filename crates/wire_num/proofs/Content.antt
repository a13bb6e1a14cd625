-- Content of a counted length, read by a cursor of its own.
use Rattle.std.proofs.Common.{◌≡◌, ℕ, ◌≤◌, List, ◌++◌, length, take, drop, ap, sym, ◌∙◌, arith}
use Rattle.std.proofs.lemmas.List.{take-append-drop, drop-append-le, length-take-le}

-- what is left of the content, and what is behind it, is what is left of the whole
pub rest_of_content : (at end : ℕ) (bytes : List ℕ) → at ≤ end → end ≤ length bytes → drop at (take end bytes) ++ drop end bytes ≡ drop at bytes
rest_of_content at end bytes within whole =
    let size : length (take end bytes) ≡ end = length-take-le end bytes whole in
    sym (drop-append-le at (take end bytes) (drop end bytes) (omega (arith, within, size))) ∙ ap (drop at) (take-append-drop end bytes)
