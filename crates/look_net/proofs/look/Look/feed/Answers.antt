use Rattle.std.proofs.Common.{◌≡◌, subst}
use Rattle.std.specs.Prelude.{None, Some, Err}
use Rattle.viewer_rules.specs.ViewerHandshake.{watched}
use Rattle.viewer_rules.specs.Shown.{look_refusal}
use Rattle.look_net.specs.Looks.{LookOf, IsWatching, FeedsLook, FeedsText}
use Rattle.look_net.proofs.Looked.{look_of, looks_on, looks_no_more, text_so_far}
use Rattle.look_net.proofs.look.Look.feed.Goals as goal

pub watch-requires : goal.watch-requires
watch-requires c = c.self.invariant

pub returns-in-Ok-clause-fed : goal.returns-in-Ok-clause-fed
returns-in-Ok-clause-fed c = λ w.
    let v = c.self.inside.viewer in
    let new = look_of v.name v.confirmed c.watch.new.watcher c.watch.new.part.items c.self.inside.end in
    subst (λ (old : LookOf). IsWatching w old → IsWatching (watched old.name old.confirmed w c.args.bytes.now).after new × (look_refusal v.confirmed (watched old.name old.confirmed w c.args.bytes.now).after ≡ None))
    c.self.view_is
    (λ h. looks_on v.name v.confirmed (watched v.name v.confirmed w c.args.bytes.now) c.watch.new.watcher c.watch.new.part.items c.args.out.now.items c.watch.new.out.items c.self.inside.end c.in_default.is
    (c.in-Ok.ensures.gone w h.follows h.keeps))

pub returns-in-Err-clause-fed : goal.returns-in-Err-clause-fed
returns-in-Err-clause-fed c = λ w.
    let v = c.self.inside.viewer in
    let new = look_of v.name v.confirmed c.watch.new.watcher c.watch.new.part.items (Some c.in-Err.fault) in
    subst (λ (old : LookOf). IsWatching w old → FeedsLook (Err c.in-Err.fault) (watched old.name old.confirmed w c.args.bytes.now) new) c.self.view_is
    (λ h. looks_no_more c.in-Err.fault v.name v.confirmed w c.watch.new.watcher c.watch.new.part.items c.args.bytes.now c.args.out.now.items c.watch.new.out.items (c.in-Err.ensures.gone w h.follows h.keeps))

pub returns-in-Err-clause-text : goal.returns-in-Err-clause-text
returns-in-Err-clause-text c = λ w.
    let v = c.self.inside.viewer in
    subst (λ (old : LookOf). IsWatching w old → FeedsText (Err c.in-Err.fault) (λ read. (watched old.name old.confirmed w read).text) c.args.bytes.now c.args.out.now.items c.watch.new.out.items) c.self.view_is
    (λ h. text_so_far c.in-Err.fault v.name v.confirmed w c.args.bytes.now c.args.out.now.items c.watch.new.out.items (c.in-Err.ensures.gone w h.follows h.keeps))
