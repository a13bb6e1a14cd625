-- The values of the network viewer's command line.
use Rattle.std.specs.Prelude.{ℕ, ◌≡◌, List}
use Rattle.std.proofs.Common.{ap, ◌∙◌}
use Rattle.command_words.specs.ViewWords.{viewing_of_words}

-- what the same words ask for
pub words_are : (port name marks : List ℕ) (preset : List (List ℕ)) {port-2 name-2 marks-2 : List ℕ} {preset-2 : List (List ℕ)}
    → port ≡ port-2 → name ≡ name-2 → marks ≡ marks-2 → preset ≡ preset-2 → viewing_of_words port name marks preset ≡ viewing_of_words port-2 name-2 marks-2 preset-2
words_are port name marks preset {port-2} {name-2} {marks-2} p n m w =
    ap (λ x. viewing_of_words x name marks preset) p ∙ ap (λ x. viewing_of_words port-2 x marks preset) n ∙ ap (λ x. viewing_of_words port-2 name-2 x preset) m
    ∙ ap (λ x. viewing_of_words port-2 name-2 marks-2 x) w
