-- A Connect-Initial, from its outer fields to its inner ones.
use Rattle.std.proofs.Common.{◌≡◌, ℕ, List, [], ◌∷◌, ◌++◌, ap, ◌∙◌}
use Rattle.std.specs.Prelude.{Ok, Err}
use Rattle.wire_num.specs.FieldValue.{end_at}
use Rattle.wire_num.specs.Field.{Read, then_read, map_read, bytes_at, wanted}
use Rattle.wire_num.specs.Length.{ber_len_at}
use Rattle.wire_num.specs.Layout.{Layout, End, Within, Basic, fields_at}
use Rattle.mcs_ber.specs.DomainParameters.{domain_parameters}
use Rattle.mcs_ber.specs.ConnectInitial.{user_data, three_parameters, initial_fields, connect_initial}
use Rattle.mcs_ber.proofs.Within.{within_ok, within_err}

-- ---- three domain parameters

abbrev Passed : List ℕ → List ℕ → Type 0
Passed bs after = (next : Layout) → fields_at (domain_parameters next) bs ≡ fields_at next after

abbrev Refused : List ℕ → List ℕ → Type 0
Refused bs left = (next : Layout) → fields_at (domain_parameters next) bs ≡ Err left

pub target_refused : (bs left : List ℕ) → Refused bs left → fields_at three_parameters bs ≡ Err left
unfolding three_parameters
target_refused bs left e = e (domain_parameters (domain_parameters user_data))

pub minimum_refused : (bs one left : List ℕ) → Passed bs one → Refused one left → fields_at three_parameters bs ≡ Err left
unfolding three_parameters
minimum_refused bs one left e f = e (domain_parameters (domain_parameters user_data)) ∙ f (domain_parameters user_data)

pub maximum_refused : (bs one two left : List ℕ) → Passed bs one → Passed one two → Refused two left → fields_at three_parameters bs ≡ Err left
unfolding three_parameters
maximum_refused bs one two left e f g =
    e (domain_parameters (domain_parameters user_data)) ∙ f (domain_parameters user_data) ∙ g user_data

pub three_passed : (bs one two three : List ℕ) → Passed bs one → Passed one two → Passed two three → fields_at three_parameters bs ≡ fields_at user_data three
unfolding three_parameters
three_passed bs one two three e f g =
    e (domain_parameters (domain_parameters user_data)) ∙ f (domain_parameters user_data) ∙ g user_data

-- ---- the whole

after_tag : (bs tagged : List ℕ) → wanted (127 ∷ 101 ∷ []) bs ≡ Ok ([], tagged) → fields_at connect_initial bs ≡ fields_at (Within Basic initial_fields End) tagged
unfolding connect_initial
after_tag bs tagged t = ap (λ r. then_read r (λ _ rest. fields_at (Within Basic initial_fields End) rest)) t

pub connect_ok : (bs tagged counted content after left : List ℕ) (n size : ℕ) (ended : Read (List ℕ)) → wanted (127 ∷ 101 ∷ []) bs ≡ Ok ([], tagged) → ber_len_at tagged ≡ Ok (n, counted)
    → bytes_at n counted ≡ Ok (content, after) → fields_at initial_fields content ≡ Ok (size ∷ [], left) → left ≡ [] → end_at after ≡ ended
    → fields_at connect_initial bs ≡ map_read (λ more. (size ∷ []) ++ more) ended
connect_ok bs tagged counted content after left n size ended t e h f g k =
    after_tag bs tagged t ∙ within_ok initial_fields End tagged counted content after (size ∷ []) left n e h f g ∙ ap (map_read (λ more. (size ∷ []) ++ more)) k

pub connect_err : (bs tagged counted content after left place : List ℕ) (n : ℕ) → wanted (127 ∷ 101 ∷ []) bs ≡ Ok ([], tagged) → ber_len_at tagged ≡ Ok (n, counted)
    → bytes_at n counted ≡ Ok (content, after) → fields_at initial_fields content ≡ Err left → left ++ after ≡ place → fields_at connect_initial bs ≡ Err place
connect_err bs tagged counted content after left place n t e h f g =
    after_tag bs tagged t ∙ within_err initial_fields End tagged counted content after left n e h f ∙ ap Err g
