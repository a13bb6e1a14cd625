-- Gathering orders one by one gives the updates of all.
use Rattle.std.proofs.Common.{◌≡◌, ℕ, ◌+◌, List, [], ◌∷◌, ◌++◌, length, refl, ap, sym, ◌∙◌, arith, append-nil, append_assoc, length-append, flat_map}
use Rattle.std.specs.Prelude.{Bool, true, false, ◌==◌, ◌&&◌, not, if◌then◌else◌}
use Rattle.std.proofs.lemmas.Bool.Decides.{nat_tests}
use Rattle.order_means.specs.UpdateBodies.{orders_packet}
use Rattle.frame_rules.specs.FrameBytes.{joins_update, onto_update, gathered_after, joined_bytes, update_of, updates_of}
use Rattle.viewer_sender.specs.Gathering.{Gathering, gathering, nothing_gathered, goes_into, closed, packets_if, with_order, after_order, after_order_by, after_orders, packets_of}

onto_all : List (List ℕ) → List (List (List ℕ)) → List (List (List ℕ))
onto_all [] updates = updates
onto_all (o ∷ os) updates = onto_update o (onto_all os updates)

onto_all-last : (xs : List (List ℕ)) (y : List ℕ) (updates : List (List (List ℕ))) → onto_all xs (onto_update y updates) ≡ onto_all (xs ++ y ∷ []) updates
unfolding onto_all
onto_all-last [] y updates = refl
onto_all-last (x ∷ xs) y updates = ap (onto_update x) (onto_all-last xs y updates)

onto_all-begun : (xs : List (List ℕ)) (updates : List (List (List ℕ))) → onto_all xs ([] ∷ updates) ≡ xs ∷ updates
unfolding onto_all
onto_all-begun [] updates = refl
onto_all-begun (x ∷ xs) updates = ap (onto_update x) (onto_all-begun xs updates)

joined-last : (xs : List (List ℕ)) (y : List ℕ) → joined_bytes xs ++ y ≡ joined_bytes (xs ++ y ∷ [])
joined-last [] y = sym (append-nil y)
joined-last (x ∷ xs) y = append_assoc x (joined_bytes xs) y ∙ ap (λ zs. x ++ zs) (joined-last xs y)

length-last : (xs : List (List ℕ)) (y : List ℕ) → length xs + 1 ≡ length (xs ++ y ∷ [])
length-last [] y = refl
length-last (x ∷ xs) y = let more = length-last xs y in omega (arith, more)

-- the update that is begun has these orders
record Begun (g : Gathering) (xs : List (List ℕ)) : Type 0 where
  some : (g.count == 0) ≡ false
  bytes : g.begun ≡ joined_bytes xs
  count : g.count ≡ length xs

close_begun : (g : Gathering) (xs : List (List ℕ)) → Begun g xs → packets_of g ≡ g.packets ++ update_of g.fast xs
close_begun g xs b = ap (λ t. packets_if t g.fast g.packets g.begun g.count) b.some ∙ ap (λ n. g.packets ++ orders_packet g.fast n g.begun) b.count ∙ ap (λ bs. g.packets ++ orders_packet g.fast (length xs) bs) b.bytes

not_zero : (n : ℕ) → (n + 1 == 0) ≡ false
not_zero n = grind (arith, nat_tests)

-- what follows an update that is begun, by whether the next order goes into it
abbrev rest : Gathering → List ℕ → List (List ℕ) → Bool → List (List (List ℕ))
rest g o os t = if t then onto_update o (gathered_after g.fast (length g.begun + length o) os) else [] ∷ onto_update o (gathered_after g.fast (length o) os)

goes_on : (os xs : List (List ℕ)) (g : Gathering) → Begun g xs → packets_of (after_orders g os) ≡ g.packets ++ flat_map (update_of g.fast) (onto_all xs (gathered_after g.fast (length g.begun) os))
unfolding onto_all
goes_on [] xs g b = close_begun g xs b ∙ ap (λ bs. g.packets ++ bs) (sym (append-nil (update_of g.fast xs)) ∙ ap (flat_map (update_of g.fast)) (sym (onto_all-begun xs [])))
goes_on (o ∷ os) xs g b = by (joins_update g.fast (length g.begun) (length o)) refl
    (λ h c. goes_on os (xs ++ o ∷ []) h c) (λ h c. goes_on os (o ∷ []) h c)
  where
    by : (t : Bool) → joins_update g.fast (length g.begun) (length o) ≡ t
        → ((h : Gathering) → Begun h (xs ++ o ∷ []) → packets_of (after_orders h os) ≡ h.packets ++ flat_map (update_of h.fast) (onto_all (xs ++ o ∷ []) (gathered_after h.fast (length h.begun) os)))
        → ((h : Gathering) → Begun h (o ∷ []) → packets_of (after_orders h os) ≡ h.packets ++ flat_map (update_of h.fast) (onto_all (o ∷ []) (gathered_after h.fast (length h.begun) os)))
        → packets_of (after_orders (after_order g o) os) ≡ g.packets ++ flat_map (update_of g.fast) (onto_all xs (gathered_after g.fast (length g.begun) (o ∷ os)))
    by true e joined fresh =
        let next = with_order g o in
        let goes : goes_into g o ≡ true = ap (λ t. not t && joins_update g.fast (length g.begun) (length o)) b.some ∙ e in
        let is : Begun next (xs ++ o ∷ []) = record { some = not_zero g.count; bytes = ap (λ bs. bs ++ o) b.bytes ∙ joined-last xs o; count = ap (λ n. n + 1) b.count ∙ length-last xs o } in
        ap (λ t. packets_of (after_orders (after_order_by t g o) os)) goes
        ∙ joined next is
        ∙ ap (λ n. g.packets ++ flat_map (update_of g.fast) (onto_all (xs ++ o ∷ []) (gathered_after g.fast n os))) (length-append g.begun o)
        ∙ ap (λ us. g.packets ++ flat_map (update_of g.fast) us) (sym (onto_all-last xs o (gathered_after g.fast (length g.begun + length o) os)))
        ∙ ap (λ t. g.packets ++ flat_map (update_of g.fast) (onto_all xs (rest g o os t))) (sym e)
    by false e joined fresh =
        let next = with_order (closed g) o in
        let goes : goes_into g o ≡ false = ap (λ t. not t && joins_update g.fast (length g.begun) (length o)) b.some ∙ e in
        let shut : closed g ≡ gathering g.fast (g.packets ++ orders_packet g.fast g.count g.begun) [] 0 [] = ap (λ t. gathering g.fast (packets_if t g.fast g.packets g.begun g.count) [] 0 []) b.some in
        let none : (closed g).begun ≡ [] = ap (λ h. h.begun) shut in
        let zero_ : (closed g).count ≡ 0 = ap (λ h. h.count) shut in
        let is : Begun next (o ∷ []) = record { some = not_zero (closed g).count; bytes = ap (λ bs. bs ++ o) none ∙ sym (append-nil o); count = ap (λ n. n + 1) zero_ } in
        ap (λ t. packets_of (after_orders (after_order_by t g o) os)) goes
        ∙ fresh next is
        ∙ ap (λ n. (closed g).packets ++ flat_map (update_of g.fast) (onto_all (o ∷ []) (gathered_after g.fast n os))) (ap (λ bs. length (bs ++ o)) none)
        ∙ ap (λ ps. ps ++ flat_map (update_of g.fast) (onto_update o (gathered_after g.fast (length o) os))) (close_begun g xs b)
        ∙ append_assoc g.packets (update_of g.fast xs) (flat_map (update_of g.fast) (onto_update o (gathered_after g.fast (length o) os)))
        ∙ ap (λ us. g.packets ++ flat_map (update_of g.fast) us) (sym (onto_all-begun xs (onto_update o (gathered_after g.fast (length o) os))))
        ∙ ap (λ t. g.packets ++ flat_map (update_of g.fast) (onto_all xs (rest g o os t))) (sym e)

-- from nothing on
pub gathered_is : (fast : Bool) (os : List (List ℕ)) → packets_of (after_orders (nothing_gathered fast) os) ≡ updates_of fast os
unfolding onto_all
gathered_is fast [] = refl
gathered_is fast (o ∷ os) = goes_on os (o ∷ []) (gathering fast [] o 1 []) (record { some = refl; bytes = sym (append-nil o); count = refl })

-- orders leave the kind of the packets
pub kind_left : (os : List (List ℕ)) (g : Gathering) → (after_orders g os).fast ≡ g.fast
kind_left [] g = refl
kind_left (o ∷ os) g = kind_left os (after_order g o) ∙ by (goes_into g o)
  where
    by : (t : Bool) → (after_order_by t g o).fast ≡ g.fast
    by true = refl
    by false = refl
