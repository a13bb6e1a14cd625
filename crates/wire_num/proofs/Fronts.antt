-- Writing in several calls.
use Rattle.std.proofs.Common.{◌≡◌, List, ℕ, ◌++◌, append_assoc, sym, ap, ◌∙◌}
use Rattle.wire_num.specs.Written.{AppendsFront}

-- a first part stands there whole, and a front of the second
pub front_after : (old first second middle new : List ℕ) → middle ≡ old ++ first → AppendsFront middle second new → AppendsFront old (first ++ second) new
front_after old first second middle new e f = record {
  sent = first ++ f.sent;
  rest = f.rest;
  whole = ap (λ xs. first ++ xs) f.whole ∙ sym (append_assoc first f.sent f.rest);
  written = f.written ∙ ap (λ xs. xs ++ f.sent) e ∙ append_assoc old first f.sent;
}

-- a front of the first part is a front of both
pub front_before : (old first second new : List ℕ) → AppendsFront old first new → AppendsFront old (first ++ second) new
front_before old first second new f = record {
  sent = f.sent;
  rest = f.rest ++ second;
  whole = ap (λ xs. xs ++ second) f.whole ∙ append_assoc f.sent f.rest second;
  written = f.written;
}
