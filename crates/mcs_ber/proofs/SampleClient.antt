-- The definitions on a sample client's Connect-Initial, and on texts that break a rule.
use Rattle.std.proofs.Common.{◌≡◌, ℕ, List, [], ◌∷◌, ◌++◌, replicate, refl}
use Rattle.std.specs.Prelude.{Ok, Err}
use Rattle.wire_num.specs.FieldValue.{passing_at}
use Rattle.mcs_ber.specs.ConnectInitial.{user_data, three_parameters, upward_flag, initial_fields, connect_initial, user_data_of}
use Rattle.mcs_ber.specs.ConnectResponse.{connect_response}

-- both selectors and the flag
abbrev selectors : List ℕ
selectors = 4 ∷ 1 ∷ 1 ∷ 4 ∷ 1 ∷ 1 ∷ 1 ∷ 1 ∷ 255 ∷ []

-- the three parameters of the sample client
abbrev target : List ℕ
target = 48 ∷ 26 ∷ 2 ∷ 1 ∷ 34 ∷ 2 ∷ 1 ∷ 2 ∷ 2 ∷ 1 ∷ 0 ∷ 2 ∷ 1 ∷ 1 ∷ 2 ∷ 1 ∷ 0 ∷ 2 ∷ 1 ∷ 1 ∷ 2 ∷ 3 ∷ 0 ∷ 255 ∷ 255 ∷ 2 ∷ 1 ∷ 2 ∷ []

abbrev minimum : List ℕ
minimum = 48 ∷ 25 ∷ 2 ∷ 1 ∷ 1 ∷ 2 ∷ 1 ∷ 1 ∷ 2 ∷ 1 ∷ 1 ∷ 2 ∷ 1 ∷ 1 ∷ 2 ∷ 1 ∷ 0 ∷ 2 ∷ 1 ∷ 1 ∷ 2 ∷ 2 ∷ 4 ∷ 32 ∷ 2 ∷ 1 ∷ 2 ∷ []

abbrev maximum : List ℕ
maximum = 48 ∷ 32 ∷ 2 ∷ 3 ∷ 0 ∷ 255 ∷ 255 ∷ 2 ∷ 3 ∷ 0 ∷ 252 ∷ 23 ∷ 2 ∷ 3 ∷ 0 ∷ 255 ∷ 255 ∷ 2 ∷ 1 ∷ 1 ∷ 2 ∷ 1 ∷ 0 ∷ 2 ∷ 1 ∷ 1 ∷ 2 ∷ 3 ∷ 0 ∷ 255 ∷ 255 ∷ 2 ∷ 1 ∷ 2 ∷ []

abbrev all_parameters : List ℕ
all_parameters = target ++ (minimum ++ maximum)

-- the sample client's, with user data of zeros
sample : user_data_of ((127 ∷ 101 ∷ 130 ∷ 1 ∷ 68 ∷ []) ++ (selectors ++ (all_parameters ++ ((4 ∷ 129 ∷ 223 ∷ []) ++ replicate 223 0)))) ≡ Ok (record { from = 106; to = 329 })
unfolding connect_initial initial_fields upward_flag three_parameters user_data passing_at
sample = refl

of_two_bytes : user_data_of ((127 ∷ 101 ∷ 102 ∷ []) ++ (selectors ++ (all_parameters ++ (4 ∷ 2 ∷ 7 ∷ 8 ∷ [])))) ≡ Ok (record { from = 103; to = 105 })
unfolding connect_initial initial_fields upward_flag three_parameters user_data passing_at
of_two_bytes = refl

of_no_bytes : user_data_of ((127 ∷ 101 ∷ 100 ∷ []) ++ (selectors ++ (all_parameters ++ (4 ∷ 0 ∷ [])))) ≡ Ok (record { from = 103; to = 103 })
unfolding connect_initial initial_fields upward_flag three_parameters user_data passing_at
of_no_bytes = refl

-- 81 and a length below 128 is read
in_a_longer_form : user_data_of ((127 ∷ 101 ∷ 129 ∷ 103 ∷ []) ++ (selectors ++ (all_parameters ++ (4 ∷ 129 ∷ 2 ∷ 7 ∷ 8 ∷ [])))) ≡ Ok (record { from = 105; to = 107 })
unfolding connect_initial initial_fields upward_flag three_parameters user_data passing_at
in_a_longer_form = refl

another_tag : user_data_of (127 ∷ 102 ∷ 0 ∷ []) ≡ Err (record { at = 0 })
unfolding connect_initial initial_fields upward_flag three_parameters user_data passing_at
another_tag = refl

length_of_three_bytes : user_data_of (127 ∷ 101 ∷ 131 ∷ 0 ∷ 0 ∷ 0 ∷ []) ≡ Err (record { at = 2 })
unfolding connect_initial initial_fields upward_flag three_parameters user_data passing_at
length_of_three_bytes = refl

no_content : user_data_of (127 ∷ 101 ∷ 1 ∷ []) ≡ Err (record { at = 3 })
unfolding connect_initial initial_fields upward_flag three_parameters user_data passing_at
no_content = refl

-- a byte behind the whole
left_over : user_data_of ((127 ∷ 101 ∷ 102 ∷ []) ++ (selectors ++ (all_parameters ++ (4 ∷ 2 ∷ 7 ∷ 8 ∷ 9 ∷ [])))) ≡ Err (record { at = 105 })
unfolding connect_initial initial_fields upward_flag three_parameters user_data passing_at
left_over = refl

-- user data of three bytes, of which two are there
user_data_short : user_data_of ((127 ∷ 101 ∷ 102 ∷ []) ++ (selectors ++ (all_parameters ++ (4 ∷ 3 ∷ 7 ∷ 8 ∷ [])))) ≡ Err (record { at = 103 })
unfolding connect_initial initial_fields upward_flag three_parameters user_data passing_at
user_data_short = refl

-- user data of one byte, and another one behind them
user_data_long : user_data_of ((127 ∷ 101 ∷ 102 ∷ []) ++ (selectors ++ (all_parameters ++ (4 ∷ 1 ∷ 7 ∷ 8 ∷ [])))) ≡ Err (record { at = 104 })
unfolding connect_initial initial_fields upward_flag three_parameters user_data passing_at
user_data_long = refl

integer_of_none : user_data_of ((127 ∷ 101 ∷ 20 ∷ []) ++ (selectors ++ (48 ∷ 9 ∷ 2 ∷ 0 ∷ 2 ∷ 1 ∷ 1 ∷ 2 ∷ 1 ∷ 1 ∷ 2 ∷ []))) ≡ Err (record { at = 15 })
unfolding connect_initial initial_fields upward_flag three_parameters user_data passing_at
integer_of_none = refl

integer_of_five : user_data_of ((127 ∷ 101 ∷ 20 ∷ []) ++ (selectors ++ (48 ∷ 9 ∷ 2 ∷ 5 ∷ 1 ∷ 1 ∷ 1 ∷ 1 ∷ 1 ∷ 2 ∷ 1 ∷ []))) ≡ Err (record { at = 15 })
unfolding connect_initial initial_fields upward_flag three_parameters user_data passing_at
integer_of_five = refl

-- 25 bytes of parameters, whose last integer needs 26
parameters_short : user_data_of ((127 ∷ 101 ∷ 37 ∷ []) ++ (selectors ++ (48 ∷ 25 ∷ 2 ∷ 1 ∷ 34 ∷ 2 ∷ 1 ∷ 2 ∷ 2 ∷ 1 ∷ 0 ∷ 2 ∷ 1 ∷ 1 ∷ 2 ∷ 1 ∷ 0 ∷ 2 ∷ 1 ∷ 1 ∷ 2 ∷ 3 ∷ 0 ∷ 255 ∷ 255 ∷ 2 ∷ 1 ∷ 2 ∷ []))) ≡ Err (record { at = 39 })
unfolding connect_initial initial_fields upward_flag three_parameters user_data passing_at
parameters_short = refl

-- a byte behind the eighth integer
parameters_long : user_data_of ((127 ∷ 101 ∷ 38 ∷ []) ++ (selectors ++ (48 ∷ 27 ∷ 2 ∷ 1 ∷ 34 ∷ 2 ∷ 1 ∷ 2 ∷ 2 ∷ 1 ∷ 0 ∷ 2 ∷ 1 ∷ 1 ∷ 2 ∷ 1 ∷ 0 ∷ 2 ∷ 1 ∷ 1 ∷ 2 ∷ 3 ∷ 0 ∷ 255 ∷ 255 ∷ 2 ∷ 1 ∷ 2 ∷ 7 ∷ []))) ≡ Err (record { at = 40 })
unfolding connect_initial initial_fields upward_flag three_parameters user_data passing_at
parameters_long = refl

-- the answer, with user data of two bytes
answered : connect_response (7 ∷ 8 ∷ [])
    ≡ 3 ∷ 0 ∷ 0 ∷ 48 ∷ 2 ∷ 240 ∷ 128 ∷ 127 ∷ 102 ∷ 38 ∷ 10 ∷ 1 ∷ 0 ∷ 2 ∷ 1 ∷ 0 ∷ 48 ∷ 26 ∷ 2 ∷ 1 ∷ 34 ∷ 2 ∷ 1 ∷ 3 ∷ 2 ∷ 1 ∷ 0 ∷ 2 ∷ 1 ∷ 1 ∷ 2 ∷ 1 ∷ 0 ∷ 2 ∷ 1 ∷ 1 ∷ 2 ∷ 3 ∷ 0 ∷ 255 ∷ 248 ∷ 2 ∷ 1 ∷ 2 ∷ 4 ∷ 2 ∷ 7 ∷ 8 ∷ []
unfolding connect_response
answered = refl
