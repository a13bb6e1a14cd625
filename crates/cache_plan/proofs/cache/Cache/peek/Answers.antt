use Rattle.std.proofs.Common.{◌≡◌, ℕ, List, ◌<◌, ◌≤◌, sym, ◌∙◌, subst, Some, length}
use Rattle.lru.specs.LruCache.{last_entry}
use Rattle.cache_plan.specs.Answers.{use_of, IsAfterUses}
use Rattle.cache_plan.specs.declared.uses.Use.TheVariants.{Hit, Miss}
use Rattle.cache_plan.proofs.UseSteps.{hit_at, miss_at}
use Rattle.cache_plan.proofs.cache.Cache.peek.Goals as goal

pub returns-in-Some : goal.returns-in-Some
returns-in-Some c = let L = c.self.inside.keys in
    subst (λ s. (past : List ℕ) → IsAfterUses s past → Hit c.in-Some.index ≡ use_of s.entries past c.args.key) c.self.view_is
    (λ past leads. (hit_at L.cap L.entries past c.args.key c.in-Some.index c.self.invariant.0 leads (sym c.peek.ensures ∙ sym c.copied.ensures ∙ c.in-Some.is)).1)

pub returns-in-None : goal.returns-in-None
returns-in-None c = let L = c.self.inside.keys in
    let room = subst (λ s. length s.held < s.entries → c.miss_index.result ≡ length s.held) (sym c.self.view_is) c.miss_index.ensures.room in
    let full = subst (λ s. s.entries ≤ length s.held → (oldest : ℕ × ℕ) × (last_entry s.held ≡ Some oldest) × (c.miss_index.result ≡ oldest.1)) (sym c.self.view_is) c.miss_index.ensures.full in
    subst (λ s. (past : List ℕ) → IsAfterUses s past → Miss c.miss_index.result ≡ use_of s.entries past c.args.key) c.self.view_is
    (λ past leads. (miss_at L.cap L.entries past c.args.key c.miss_index.result c.self.invariant.0 leads (sym c.peek.ensures ∙ sym c.copied.ensures ∙ c.in-None.is) room full).1)
