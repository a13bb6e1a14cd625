use Rattle.std.proofs.Common.{◌<◌, ◌∙◌, ◌∷◌, length, sym, subst, ap}
use Rattle.std.specs.Prelude.{Some, None}
use Rattle.rle_enc.proofs.Pending.{on_ok_as}
use Rattle.cache_plan.specs.CacheUse.{uses_of}
use Rattle.cache_plan.specs.Answers.{use_of}
use Rattle.frame_rules.specs.FrameOrders.{entries_of}
use Rattle.viewer_sender.proofs.CacheSteps.{lookup_at, caches_used, none_used, use_of_none, set_same, if_ok_as}
use Rattle.viewer_sender.specs.Stands.{CacheStands, CachesStand}
use Rattle.viewer_sender.proofs.caches.Caches.use_key.Goals as goal

pub returns-in_default-clause-answer : goal.returns-in_default-clause-answer
returns-in_default-clause-answer c = λ conf uses stands.
    let items = c.self.inside.caches.items in
    let inside : c.args.cache < length items = subst (λ n. c.args.cache < n) (sym c.self.invariant) c.requires in
    let none = lookup_at items c.args.cache c.index_mut.result.now None inside (sym c.index_mut.ensures.value ∙ c.in_default.is) in
    use_of_none (entries_of conf c.args.cache) (uses_of c.args.cache uses) c.args.number
    (subst (λ o. CacheStands o (entries_of conf c.args.cache) (uses_of c.args.cache uses)) none (subst (λ v. CachesStand conf v uses) (sym c.self.view_is) stands c.args.cache c.requires))

pub returns-in_default-clause-after : goal.returns-in_default-clause-after
returns-in_default-clause-after c = λ conf uses stands.
    let items = c.self.inside.caches.items in
    let inside : c.args.cache < length items = subst (λ n. c.args.cache < n) (sym c.self.invariant) c.requires in
    let none = lookup_at items c.args.cache c.index_mut.result.now None inside (sym c.index_mut.ensures.value ∙ c.in_default.is) in
    let same = set_same items c.args.cache c.index_mut.result.now c.index_mut.result.now c.index_mut.ensures.value in
    subst (λ v. CachesStand conf v ((c.args.cache, c.args.number) ∷ uses)) (sym same)
    (none_used conf items uses c.args.cache c.args.number none (subst (λ v. CachesStand conf v uses) (sym c.self.view_is) stands))

pub returns-clause-answer : goal.returns-clause-answer
returns-clause-answer c =
    let items = c.self.inside.caches.items in
    let inside : c.args.cache < length items = subst (λ n. c.args.cache < n) (sym c.self.invariant) c.requires in
    let held = lookup_at items c.args.cache c.index_mut.result.now (Some c.in-Some.kept) inside (sym c.index_mut.ensures.value ∙ c.in-Some.is) in
    if_ok_as _ _ c.use_key.result c.use_key.ensures.answer (λ answer gives conf uses stands.
    let there = subst (λ o. CacheStands o (entries_of conf c.args.cache) (uses_of c.args.cache uses)) held (subst (λ v. CachesStand conf v uses) (sym c.self.view_is) stands c.args.cache c.requires) in
    gives (uses_of c.args.cache uses) there.1 ∙ ap (λ n. use_of n (uses_of c.args.cache uses) c.args.number) there.0)

pub returns-clause-after : goal.returns-clause-after
returns-clause-after c =
    let items = c.self.inside.caches.items in
    let inside : c.args.cache < length items = subst (λ n. c.args.cache < n) (sym c.self.invariant) c.requires in
    let held = lookup_at items c.args.cache c.index_mut.result.now (Some c.in-Some.kept) inside (sym c.index_mut.ensures.value ∙ c.in-Some.is) in
    on_ok_as _ _ c.use_key.result c.use_key.ensures.after (λ goes conf uses stands.
    caches_used conf items uses c.args.cache c.args.number c.in-Some.kept c.use_key.new.self held inside c.use_key.ensures.entries goes (subst (λ v. CachesStand conf v uses) (sym c.self.view_is) stands) c.requires)
