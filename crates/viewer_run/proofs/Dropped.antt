-- A click of the holder isn't dropped: over a journal of her Join and her own Leave alone there is no visit whose stream had one.
use Rattle.std.proofs.Common.{◌≡◌, ℕ, suc, ◌≤◌, List, [], ◌∷◌, ◌++◌, map, sym, ◌∙◌, subst, arith, false}
use Rattle.std.proofs.lemmas.List.Elements.{All-head}
use Rattle.std.specs.Prelude.{All}
use Rattle.input_pdu.specs.declared.event.Event.{Event}
use Rattle.session_rules.specs.declared.entry.Entry.{Entry}
use Rattle.serve_rules.specs.Turns.{SessionPass}
use Rattle.serve_rules.specs.Events.{Act, HappenFrom}
use Rattle.serve_rules.specs.Notices.{events_in}
use Rattle.serve_rules.specs.declared.noted.ConnReport.{ConnReport}
use Rattle.serve_rules.proofs.Rows.{ann, click, click_at, unclicked, no_click_is_dropped_up_to_the_leave}
use Rattle.edge_io.specs.Outside.{Outside}
use Rattle.viewer_run.specs.LastWords.{is_cut}
use Rattle.viewer_run.specs.Links.{IsVisit}

-- one event, all of which were handled, is one act
one_act : (acts : List Act) (undone : List Event) → click ∷ [] ≡ map (λ (a : Act). a.event) acts ++ undone → undone ≡ [] → (at : ℕ) × (acts ≡ click_at at ∷ [])
one_act [] undone e none = absurd (let f : click ∷ [] ≡ [] = e ∙ none in cc f)
one_act (a ∷ []) undone e none = (a.at, let f : click ≡ a.event = cc e in λ i. record { event = sym f i; at = a.at } ∷ [])
one_act (a ∷ b ∷ acts) undone e none = absurd (cc e)

no_click_is_dropped : (before after : SessionPass) (report : ConnReport) (link spent : Outside) (read : List ℕ) → (visit : IsVisit ann before after report link spent read)
    → after.seen ≡ unclicked → report.viewer ≡ 1 → is_cut report.end ≡ false → events_in visit.steps ≡ click ∷ [] → visit.leave ≡ 1 ∷ [] → ⊥
no_click_is_dropped before after report link spent read visit seen viewer free events own =
    let one = one_act visit.acts visit.undone (sym events ∙ visit.events) (visit.all free) in
    let happen : HappenFrom ann 1 unclicked (suc visit.join) (click_at one.0 ∷ []) visit.high
    = subst (λ (acts : List Act). HappenFrom ann 1 unclicked (suc visit.join) acts visit.high) one.1
    (subst (λ (j : List Entry). HappenFrom ann 1 j (suc visit.join) visit.acts visit.high) seen
    (subst (λ (v : ℕ). HappenFrom ann v after.seen (suc visit.join) visit.acts visit.high) viewer visit.happen)) in
    let below : All (λ k. visit.high ≤ k) (1 ∷ []) = subst (λ (l : List ℕ). All (λ k. visit.high ≤ k) l) own visit.in_time in
    no_click_is_dropped_up_to_the_leave (suc visit.join) one.0 visit.high happen (omega arith) (All-head (λ k. visit.high ≤ k) 1 [] below)
