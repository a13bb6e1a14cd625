-- Texts, one after the other.
use Rattle.std.proofs.Common.{◌≡◌, ℕ, ◌+◌, List, [], ◌++◌, length, take, drop, ap, sym, ◌∙◌, arith}
use Rattle.std.specs.Prelude.{Ok}
use Rattle.std.proofs.lemmas.List.{drop-drop}
use Rattle.std.proofs.Math.Seq.{drop-append-add}
use Rattle.wire_num.specs.Field.{bytes_at, wanted}
use Rattle.wire_num.specs.Layout.{Layout, Open, ◌▸◌}
use Rattle.wire_num.proofs.ReadIsText.{bytes_ok, wanted_ok}
use Rattle.info_lic.specs.declared.client_info.Counts.{Counts}
use Rattle.info_lic.specs.ClientInfo.{terminator, text, other_texts}

pub text_taken : (n : ℕ) (bs part after : List ℕ) → bytes_at n bs ≡ Ok (part, after) → part ≡ take n bs
text_taken n bs part after e = sym (bytes_ok n bs (part, after) e).1

dropped : (zeros after left : List ℕ) → after ≡ zeros ++ left → left ≡ drop (length zeros) after
dropped zeros after left e = sym (ap (drop (length zeros)) e ∙ ap (λ k. drop k (zeros ++ left)) (omega arith) ∙ drop-append-add zeros left 0)

pub behind_text : (n : ℕ) (zeros bs part after left : List ℕ) → bytes_at n bs ≡ Ok (part, after) → wanted zeros after ≡ Ok ([], left) → left ≡ drop (n + length zeros) bs
behind_text n zeros bs part after left e z =
    dropped zeros after left (wanted_ok zeros after ([], left) z)
    ∙ ap (drop (length zeros)) (sym (bytes_ok n bs (part, after) e).2)
    ∙ drop-drop (length zeros) n bs

-- the texts after one or two of them
abbrev pub after_password : Counts → Layout
after_password counts = text (terminator counts.unicode) counts.shell ▸ text (terminator counts.unicode) counts.directory ▸ Open

abbrev pub after_shell : Counts → Layout
after_shell counts = text (terminator counts.unicode) counts.directory ▸ Open

abbrev pub after_domain : Counts → Layout
after_domain counts = text (terminator counts.unicode) counts.user ▸ other_texts counts
