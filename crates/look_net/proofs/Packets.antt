-- One packet of a host.
use Rattle.std.proofs.Common.{◌≡◌, ℕ, List, [], refl, ap, subst, true, false}
use Rattle.std.specs.Prelude.{Ok, Err}
use Rattle.caps_sets.specs.declared.confirmed.Confirmed.{Confirmed}
use Rattle.wire_num.specs.Field.{Read}
use Rattle.wire_num.specs.Layout.{fields_at}
use Rattle.fast_path.specs.Heads.{is_fast}
use Rattle.share_pdu.specs.declared.finals.Final.{Final}
use Rattle.share_pdu.specs.declared.finals.Final.TheVariants as final
use Rattle.viewer_rules.specs.declared.stage.Channel.{Channel}
use Rattle.viewer_rules.specs.declared.stage.Channel.TheVariants as channel
use Rattle.viewer_rules.specs.declared.stage.Stage.{Stage}
use Rattle.viewer_rules.specs.declared.stage.Stage.TheVariants as stage
use Rattle.viewer_rules.specs.HostAnswers.{connection_confirm, connect_response_answer, attach_answer, join_answer, indication, licence_answer, demand_answer, final_answer}
use Rattle.viewer_rules.specs.ViewerHandshake.{Answered, by, after_join, after_final, packet_answered, Standing, silent, answered, is_farewell, shown_by, slow_answered, packet_told}
use Rattle.viewer_rules.specs.Shown.{has_ended}
use Rattle.look_net.specs.Looks.{IsOpen}
use Rattle.look_net.specs.Watches.{is_shown}

-- nothing is shown in the handshake
pub nothing_shown : (here : Stage) (shown : List ℕ) → IsOpen here shown → is_shown here ≡ false → has_ended here ≡ false → shown ≡ []
nothing_shown stage.Confirm shown free e g = free
nothing_shown stage.Response shown free e g = free
nothing_shown stage.Attach shown free e g = free
nothing_shown (stage.Joins user which) shown free e g = free
nothing_shown (stage.Licence user) shown free e g = free
nothing_shown (stage.Demand user) shown free e g = free
nothing_shown (stage.Finish user which) shown free e g = free
nothing_shown stage.Shown shown free e g = absurd (let h : ⊥ = cc in h)
nothing_shown stage.Over shown free e g = absurd (let h : ⊥ = cc in h)
nothing_shown (stage.Refused at) shown free e g = absurd free

told_by : (name : List ℕ) (c : Confirmed) (here : Stage) (s : Standing) (p shown : List ℕ) → IsOpen here shown → is_shown here ≡ false → has_ended here ≡ false → is_fast p ≡ false
    → packet_told name c here s p ≡ answered s p (packet_answered name c here p)
told_by name c stage.Confirm s p shown free e g f = ap (λ b. slow_answered b s p (packet_answered name c stage.Confirm p)) f
told_by name c stage.Response s p shown free e g f = ap (λ b. slow_answered b s p (packet_answered name c stage.Response p)) f
told_by name c stage.Attach s p shown free e g f = ap (λ b. slow_answered b s p (packet_answered name c stage.Attach p)) f
told_by name c (stage.Joins user which) s p shown free e g f = ap (λ b. slow_answered b s p (packet_answered name c (stage.Joins user which) p)) f
told_by name c (stage.Licence user) s p shown free e g f = ap (λ b. slow_answered b s p (packet_answered name c (stage.Licence user) p)) f
told_by name c (stage.Demand user) s p shown free e g f = ap (λ b. slow_answered b s p (packet_answered name c (stage.Demand user) p)) f
told_by name c (stage.Finish user which) s p shown free e g f = ap (λ b. slow_answered b s p (packet_answered name c (stage.Finish user which) p)) f
told_by name c stage.Shown s p shown free e g f = absurd (let h : ⊥ = cc in h)
told_by name c stage.Over s p shown free e g f = absurd (let h : ⊥ = cc in h)
told_by name c (stage.Refused at) s p shown free e g f = absurd free

-- a packet of the handshake is answered
pub answer_is : (name : List ℕ) (c : Confirmed) (s : Standing) (p : List ℕ) → IsOpen s.stage s.shown → is_shown s.stage ≡ false → has_ended s.stage ≡ false → is_fast p ≡ false
    → packet_told name c s.stage s p ≡ answered s p (packet_answered name c s.stage p)
answer_is name c s p free e g f = told_by name c s.stage s p s.shown free e g f

pub shown_is : (here : Stage) → is_shown here ≡ true → here ≡ stage.Shown
shown_is stage.Confirm e = absurd (let h : ⊥ = cc in h)
shown_is stage.Response e = absurd (let h : ⊥ = cc in h)
shown_is stage.Attach e = absurd (let h : ⊥ = cc in h)
shown_is (stage.Joins user which) e = absurd (let h : ⊥ = cc in h)
shown_is (stage.Licence user) e = absurd (let h : ⊥ = cc in h)
shown_is (stage.Demand user) e = absurd (let h : ⊥ = cc in h)
shown_is (stage.Finish user which) e = absurd (let h : ⊥ = cc in h)
shown_is stage.Shown e = refl
shown_is stage.Over e = absurd (let h : ⊥ = cc in h)
shown_is (stage.Refused at) e = absurd (let h : ⊥ = cc in h)

-- a packet behind the Font Map is shown
pub show_is : (name : List ℕ) (c : Confirmed) (s : Standing) (p : List ℕ) → is_shown s.stage ≡ true → packet_told name c s.stage s p ≡ silent (shown_by (is_farewell p) s p)
show_is name c s p e = ap (λ (here : Stage). packet_told name c here s p) (shown_is s.stage e)

-- ---- what is awaited after an answer is no refusal

abbrev pub Goes : Answered → Type 0
Goes a = IsOpen a.next []

by_form : (p : List ℕ) (r : Read (List ℕ)) (f : List ℕ → Answered) (a : Answered) → ((vs : List ℕ) → Goes (f vs)) → by p r f ≡ Ok a → Goes a
by_form p (Ok v) f a h e = let same : f v.0 ≡ a = cc in subst Goes same (h v.0)
by_form p (Err left) f a h e = absurd (let h : ⊥ = cc in h)

join_goes : (name : List ℕ) (user : ℕ) (which : Channel) → Goes (after_join name user which)
join_goes name user channel.User = refl
join_goes name user channel.Io = refl
join_goes name user channel.First = refl
join_goes name user channel.Second = refl
join_goes name user channel.Third = refl

final_goes : (user : ℕ) (which : Final) → IsOpen (after_final user which) []
final_goes user final.Synchronize = refl
final_goes user final.Cooperate = refl
final_goes user final.Granted = refl
final_goes user final.FontMap = tt

pub next_goes : (name : List ℕ) (c : Confirmed) (here : Stage) (p shown : List ℕ) (a : Answered) → IsOpen here shown → is_shown here ≡ false → has_ended here ≡ false
    → packet_answered name c here p ≡ Ok a → Goes a
next_goes name c stage.Confirm p shown a free e g h = by_form p (fields_at connection_confirm p) _ a (λ vs. refl) h
next_goes name c stage.Response p shown a free e g h = by_form p (fields_at connect_response_answer p) _ a (λ vs. refl) h
next_goes name c stage.Attach p shown a free e g h = by_form p (fields_at attach_answer p) _ a (λ vs. refl) h
next_goes name c (stage.Joins user which) p shown a free e g h = by_form p (fields_at (join_answer user _) p) _ a (λ vs. join_goes name user which) h
next_goes name c (stage.Licence user) p shown a free e g h = by_form p (fields_at (indication licence_answer) p) _ a (λ vs. refl) h
next_goes name c (stage.Demand user) p shown a free e g h = by_form p (fields_at (indication (demand_answer _)) p) _ a (λ vs. refl) h
next_goes name c (stage.Finish user which) p shown a free e g h = by_form p (fields_at (indication (final_answer which user)) p) _ a (λ vs. final_goes user which) h
next_goes name c stage.Shown p shown a free e g h = absurd (let x : ⊥ = cc in x)
next_goes name c stage.Over p shown a free e g h = absurd (let x : ⊥ = cc in x)
next_goes name c (stage.Refused at) p shown a free e g h = absurd free
