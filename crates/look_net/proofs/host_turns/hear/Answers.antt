use Rattle.std.proofs.Common.{◌∙◌, ap, sym, subst, List, ℕ}
use Rattle.edge_io.specs.Outside.{output_of}
use Rattle.caps_sets.specs.declared.confirmed.Confirmed.{Confirmed}
use Rattle.command_words.specs.ViewWords.{ViewingOf}
use Rattle.viewer_rules.specs.ViewerHandshake.{Watched, watched}
use Rattle.look_net.specs.Looks.{FeedsLook}
use Rattle.look_net.proofs.SaidBehind.{hears}
use Rattle.look_net.proofs.host_turns.hear.Goals as goal

pub returns-clause-turns : goal.returns-clause-turns
returns-clause-turns g c = λ w before after calm watching.
    let v = c.args.viewing.now in
    let old = c.args.look.now in
    let bytes = c.args.bytes.now in
    let y = watched v.name v.confirmed w bytes in
    let same = ap (λ (name : List ℕ). watched name old.confirmed w bytes) c.requires.look.name ∙ ap (λ (confirmed : Confirmed). watched v.name confirmed w bytes) c.requires.look.confirmed in
    let fed = subst (λ (x : Watched). FeedsLook c.feed-fed.result x c.feed-fed.new.self) same (c.feed-fed.ensures.fed w watching) in
    let asks = c.ask-asked.ensures.asked v y (sym (ap (λ (x : ViewingOf). x.marks) c.viewing.view_is)) (c.feed-fed.ensures.confirmed ∙ c.requires.look.confirmed) fed in
    hears v bytes y c.feed-fed.new.self before after calm (output_of g.K.Sink c.args.writer.now) (output_of g.K.Sink c.say_due.new.writer)
    c.feed-fed.result c.ask-asked.result c.say_due.result (λ read. (watched old.name old.confirmed w read).text) c.clear.new.self.items c.feed-fed.new.out.items
    c.clear.ensures.items (ap (λ (x : Watched). x.text) same) (c.feed-fed.ensures.text w watching) asks c.ask-asked.ensures.memory c.say_due.ensures
