-- The demonstration before its steps: the viewers' names, what they confirm, and what they were sent when all of them have joined.
use Rattle.std.proofs.Common.{◌≡◌, ℕ, zero, suc, ◌+◌, ◌≤◌, ◌<◌, List, [], ◌∷◌, ◌++◌, length, refl, ap, sym, ◌∙◌, subst, arith, append_assoc, append-nil, cond}
use Rattle.std.specs.Prelude.{Bool, true, false, ◌==◌, ◌%◌, IsTrue, decimal}
use Rattle.std.specs.Fmt.{digits}
use Rattle.std.proofs.lemmas.Bool.Decides.{nat_tests}
use Rattle.px_core.specs.Picture.{listed}
use Rattle.caps_sets.specs.declared.confirmed.Confirmed.{Confirmed}
use Rattle.caps_sets.specs.Confirmed.{plain, full, marked, bare, pointer_cells}
use Rattle.session_rules.specs.Journal.{is_present}
use Rattle.session_rules.specs.Steps.{Play, play_at_first, outcome, answers_of_steps}
use Rattle.frame_rules.specs.Describes.{HasAllCaches}
use Rattle.script_rules.specs.Script.{Asked, is_name, is_invited}
use Rattle.headline.specs.Headline.{steps_of, AreByPresentFrom, AreByPresentViewers, ConfirmAllCaches, confirmed_in}
use Rattle.script_run.specs.Hosts.{HostModel}
use Rattle.script_run.specs.Runs.{IsRunOf}
use Rattle.demo_run.specs.Scene.{Preset, demo_size, demo_head, name_of, row_of, preset_of, join_of, joins}
use Rattle.demo_run.specs.Counts.{sent_to, takes_of, refused_count, kept}
use Rattle.demo_run.specs.Asks.{IsViewer}
use Rattle.demo_run.specs.Standing.{run_of, all_viewers}

-- ---- lists by number

-- two lists by number that are the same have the same members
pub same_at : {A : Type 0} (f g : ℕ → A) (n i : ℕ) → listed n i f ≡ listed n i g → (k : ℕ) → i ≤ k → k < i + n → f k ≡ g k
same_at f g zero i e k low high = absurd (omega (arith, low, high))
same_at f g (suc n) i e k low high =
    by (k == i) refl (λ above. let rest : listed n (i + 1) f ≡ listed n (i + 1) g = cc e in same_at f g n (i + 1) rest k above (omega (arith, high)))
  where
    by : (b : Bool) → (k == i) ≡ b → (i + 1 ≤ k → f k ≡ g k) → f k ≡ g k
    by true is others =
        let same : k ≡ i = grind (arith, nat_tests, is) in
        let first : f i ≡ g i = cc e in
        ap f same ∙ (first ∙ ap g (sym same))
    by false is others = others (grind (arith, nat_tests, is, low))

-- one more at the end
pub listed_more : {A : Type 0} (f : ℕ → A) (n i : ℕ) → listed (n + 1) i f ≡ listed n i f ++ f (i + n) ∷ []
listed_more f zero i = let e : i ≡ i + 0 = omega arith in ap (λ k. f k ∷ []) e
listed_more f (suc n) i =
    let e : (i + 1) + n ≡ i + suc n = omega arith in
    let more : suc n + 1 ≡ suc (n + 1) = omega arith in
    ap (λ k. listed k i f) more ∙ ap (λ xs. f i ∷ xs) (listed_more f n (i + 1)) ∙ ap (λ k. f i ∷ (listed n (i + 1) f ++ f k ∷ [])) e

-- one more of those from 1 on
pub listed_next : {A : Type 0} (f : ℕ → A) (n : ℕ) → listed n 1 f ++ f (n + 1) ∷ [] ≡ listed (n + 1) 1 f
listed_next f n = let e : n + 1 ≡ 1 + n = omega arith in ap (λ k. listed n 1 f ++ f k ∷ []) e ∙ sym (listed_more f n 1)

pub listed_length : {A : Type 0} (f : ℕ → A) (n i : ℕ) → length (listed n i f) ≡ n
listed_length f zero i = refl
listed_length f (suc n) i = ap suc (listed_length f n (i + 1))

-- ---- viewers

pub viewer_is_present : (v : ℕ) → IsViewer v → is_present v all_viewers ≡ true
viewer_is_present v at = same_at (λ v. is_present v all_viewers) (λ v. true) 16 1 refl v at.0 (omega (arith, at.1))

pub names_are_names : (v : ℕ) → IsViewer v → is_name (name_of v) ≡ true
unfolding digits
names_are_names v at = same_at (λ v. is_name (name_of v)) (λ v. true) 16 1 refl v at.0 (omega (arith, at.1))

pub names_are_fresh : (i : ℕ) → i < 16 → is_invited (name_of (i + 1)) (listed i 1 row_of) ≡ false
unfolding digits
names_are_fresh i low = same_at (λ i. is_invited (name_of (i + 1)) (listed i 1 row_of)) (λ i. false) 16 0 refl i (omega arith) (omega (arith, low))

preset_caches : (a b c : Bool) (p q r s : Preset) → HasAllCaches p.confirmed → HasAllCaches q.confirmed → HasAllCaches r.confirmed → HasAllCaches s.confirmed
    → HasAllCaches (cond {A = Preset} a p (cond b q (cond c r s))).confirmed
preset_caches true b c p q r s hp hq hr hs = hp
preset_caches false true c p q r s hp hq hr hs = hq
preset_caches false false true p q r s hp hq hr hs = hr
preset_caches false false false p q r s hp hq hr hs = hs

-- ---- after all have joined

joins_present : (n i : ℕ) (p : Play) → AreByPresentFrom demo_head p (listed n i join_of)
joins_present zero i p = tt
joins_present (suc n) i p = (refl, joins_present n (i + 1) (outcome demo_head p (join_of i).step).play)

pub joins_are_by_present : AreByPresentViewers demo_head joins
joins_are_by_present = joins_present 16 1 (play_at_first demo_size)

joins_caches : (n i : ℕ) → ConfirmAllCaches (listed n i join_of)
joins_caches zero i = tt
joins_caches (suc n) i = (
  preset_caches (i % 4 == 1) (i % 4 == 2) (i % 4 == 3) _ _ _ _ (record { bitmaps = refl; glyphs = refl }) (record { bitmaps = refl; glyphs = refl })
      (record { bitmaps = refl; glyphs = refl }) (record { bitmaps = refl; glyphs = refl }),
  joins_caches n (i + 1),
)

pub joins_confirm_caches : ConfirmAllCaches joins
joins_confirm_caches = joins_caches 16 1

pub joins_seat_all : (run_of joins).play.reached.viewers ≡ all_viewers
unfolding digits
joins_seat_all = refl

pub joins_give_control : (run_of joins).play.reached.holder ≡ 1
unfolding digits
joins_give_control = refl

pub joins_confirm : (v : ℕ) → IsViewer v → confirmed_in demo_head joins v ≡ (preset_of v).confirmed
unfolding digits
joins_confirm v at = same_at (λ v. confirmed_in demo_head joins v) (λ v. (preset_of v).confirmed) 16 1 refl v at.0 (omega (arith, at.1))

-- no viewer has pointer cells
pub joins_confirm_no_pointers : (v : ℕ) → IsViewer v → pointer_cells (confirmed_in demo_head joins v) ≡ 0
joins_confirm_no_pointers v at = ap pointer_cells (joins_confirm v at) ∙ same_at (λ v. pointer_cells (preset_of v).confirmed) (λ v. 0) 16 1 refl v at.0 (omega (arith, at.1))

pub joins_send_nothing : (v : ℕ) → IsViewer v → sent_to joins v ≡ []
unfolding digits
joins_send_nothing v at = same_at (λ v. sent_to joins v) (λ v. []) 16 1 refl v at.0 (omega (arith, at.1))

pub joins_take_nothing : (v : ℕ) → IsViewer v → takes_of joins v ≡ 0
unfolding digits
joins_take_nothing v at = same_at (λ v. takes_of joins v) (λ v. 0) 16 1 refl v at.0 (omega (arith, at.1))

pub joins_are_let_in : refused_count (answers_of_steps demo_head (steps_of joins)) ≡ 0
unfolding digits
joins_are_let_in = refl

-- no count
pub none_kept : 0 ≡ kept 0
none_kept = omega arith

-- all have joined
pub all_joined : (host : HostModel) (n : ℕ) → n ≡ 16 → IsRunOf host (run_of (listed n 1 join_of)) → IsRunOf host (run_of joins)
all_joined host n is h = subst (λ k. IsRunOf host (run_of (listed k 1 join_of))) is h
