use Rattle.std.proofs.Common.{◌≡◌, ◌<◌, ◌∙◌, length, refl, ap, sym, subst, arith}
use Rattle.std.specs.Prelude.{IfOk}
use Rattle.px_core.specs.declared.surface.Size.{Size}
use Rattle.session_rules.specs.declared.entry.Entry.TheVariants.{Join, Leave, Give}
use Rattle.session_core.specs.Keeping.{journal_of}
use Rattle.session_core.specs.Showing.{all_shown, shown_list}
use Rattle.session_core.specs.Putting.{drawings_made}
use Rattle.session_core.proofs.Counted.{item_at, length_journal}
use Rattle.session_core.proofs.SeenLemmas.{sees_drawn, sees_reaction, sees_none, seen_so}
use Rattle.session_core.proofs.session.Session.drawings.Goals as goal

pub drawn-requires : goal.drawn-requires
drawn-requires c =
    let ks = c.self.inside.kept.items in
    let below : c.args.k < length (journal_of ks) = rw (← c.self.view_is) at c.requires in
    let within : c.args.k < length ks = omega (arith, below, length_journal ks) in
    let sees = sees_drawn c.self.inside.head c.self.inside.standing ks c.args.k c.in-Draw.by c.index-kept.result.now c.in-Draw.d c.self.invariant.is_session
    (item_at ks c.args.k c.index-kept.result.now within c.index-kept.ensures) c.in-Draw.is in
    sees.each

pub reaction-requires-clause-ready : goal.reaction-requires-clause-ready
reaction-requires-clause-ready c =
    let ks = c.self.inside.kept.items in
    let below : c.args.k < length (journal_of ks) = rw (← c.self.view_is) at c.requires in
    let within : c.args.k < length ks = omega (arith, below, length_journal ks) in
    (sees_reaction c.self.inside.head c.self.inside.standing ks c.args.k c.in-Input.by c.index-kept.result.now c.in-Input.event c.self.invariant.is_session
    (item_at ks c.args.k c.index-kept.result.now within c.index-kept.ensures) c.in-Input.is).ready

pub reaction-requires-clause-each : goal.reaction-requires-clause-each
reaction-requires-clause-each c =
    let ks = c.self.inside.kept.items in
    let below : c.args.k < length (journal_of ks) = rw (← c.self.view_is) at c.requires in
    let within : c.args.k < length ks = omega (arith, below, length_journal ks) in
    let sees = sees_reaction c.self.inside.head c.self.inside.standing ks c.args.k c.in-Input.by c.index-kept.result.now c.in-Input.event c.self.invariant.is_session
    (item_at ks c.args.k c.index-kept.result.now within c.index-kept.ensures) c.in-Input.is in
    rw c.size.ensures sees.each

pub returns-in-Draw : goal.returns-in-Draw
returns-in-Draw c =
    let ks = c.self.inside.kept.items in
    let below : c.args.k < length (journal_of ks) = rw (← c.self.view_is) at c.requires in
    let within : c.args.k < length ks = omega (arith, below, length_journal ks) in
    let sees = sees_drawn c.self.inside.head c.self.inside.standing ks c.args.k c.in-Draw.by c.index-kept.result.now c.in-Draw.d c.self.invariant.is_session
    (item_at ks c.args.k c.index-kept.result.now within c.index-kept.ensures) c.in-Draw.is in
    c.drawn.ensures ∙ (sees.pending ∙ seen_so c.self.inside.head c.self.inside.standing ks c.args.self.now c.args.k c.self.view_is)

pub returns-in-Input : goal.returns-in-Input
returns-in-Input c =
    let ks = c.self.inside.kept.items in
    let below : c.args.k < length (journal_of ks) = rw (← c.self.view_is) at c.requires in
    let within : c.args.k < length ks = omega (arith, below, length_journal ks) in
    let sees = sees_reaction c.self.inside.head c.self.inside.standing ks c.args.k c.in-Input.by c.index-kept.result.now c.in-Input.event c.self.invariant.is_session
    (item_at ks c.args.k c.index-kept.result.now within c.index-kept.ensures) c.in-Input.is in
    subst (λ ps. IfOk c.reaction.result (λ seen. seen ≡ ps))
    (ap (λ (z : Size). all_shown (drawings_made z c.index-kept.result.now.shown c.in-Input.event) (shown_list c.index-kept.result.now.shown)) c.size.ensures ∙ sees.pending ∙ seen_so c.self.inside.head c.self.inside.standing ks c.args.self.now c.args.k c.self.view_is)
    c.reaction.ensures

pub returns-in-Join : goal.returns-in-Join
returns-in-Join c =
    let ks = c.self.inside.kept.items in
    let below : c.args.k < length (journal_of ks) = rw (← c.self.view_is) at c.requires in
    let within : c.args.k < length ks = omega (arith, below, length_journal ks) in
    let none = sees_none c.self.inside.head c.self.inside.standing ks c.args.k c.index-kept.result.now (Join c.in-Join.v c.in-Join.role) c.self.invariant.is_session
    (item_at ks c.args.k c.index-kept.result.now within c.index-kept.ensures) c.in-Join.is refl in
    c.none.ensures ∙ sym (sym (seen_so c.self.inside.head c.self.inside.standing ks c.args.self.now c.args.k c.self.view_is) ∙ none)

pub returns-in-Leave : goal.returns-in-Leave
returns-in-Leave c =
    let ks = c.self.inside.kept.items in
    let below : c.args.k < length (journal_of ks) = rw (← c.self.view_is) at c.requires in
    let within : c.args.k < length ks = omega (arith, below, length_journal ks) in
    let none = sees_none c.self.inside.head c.self.inside.standing ks c.args.k c.index-kept.result.now (Leave c.in-Leave.v) c.self.invariant.is_session
    (item_at ks c.args.k c.index-kept.result.now within c.index-kept.ensures) c.in-Leave.is refl in
    c.none-in-Leave.ensures ∙ sym (sym (seen_so c.self.inside.head c.self.inside.standing ks c.args.self.now c.args.k c.self.view_is) ∙ none)

pub returns-in-Give : goal.returns-in-Give
returns-in-Give c =
    let ks = c.self.inside.kept.items in
    let below : c.args.k < length (journal_of ks) = rw (← c.self.view_is) at c.requires in
    let within : c.args.k < length ks = omega (arith, below, length_journal ks) in
    let none = sees_none c.self.inside.head c.self.inside.standing ks c.args.k c.index-kept.result.now (Give c.in-Give.by c.in-Give.to) c.self.invariant.is_session
    (item_at ks c.args.k c.index-kept.result.now within c.index-kept.ensures) c.in-Give.is refl in
    c.none-in-Give.ensures ∙ sym (sym (seen_so c.self.inside.head c.self.inside.standing ks c.args.self.now c.args.k c.self.view_is) ∙ none)
