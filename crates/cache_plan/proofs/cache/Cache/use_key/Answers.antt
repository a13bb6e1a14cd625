-- The list of recency follows the history of uses, by the steps of a hit and of a miss.
use Rattle.std.proofs.Common.{◌≡◌, ℕ, List, ◌∷◌, ◌<◌, ◌≤◌, true, sym, ◌∙◌, subst, Some, eqb, length, IsOk, rules}
use Rattle.lru.specs.LruCache.{LruCache, last_entry, lru_cache, put_entries}
use Rattle.cache_plan.specs.CacheUse.{misses, IsMiss}
use Rattle.cache_plan.specs.Answers.{use_of, IsAfterUses}
use Rattle.cache_plan.specs.Kept.{Kept}
use Rattle.cache_plan.specs.declared.uses.Use.TheVariants.{Hit, Miss}
use Rattle.cache_plan.proofs.UseSteps.{hit_at, miss_at}
use Rattle.cache_plan.proofs.cache.Cache.use_key.Goals as goal
use Rattle.cache_plan.proofs.cache.Cache.use_key.Goals.{in-Ok, in-Err}

abbrev view : LruCache ℕ ℕ → Kept
view l = record { entries = l.cap; held = l.entries }

pub returns-in-Some-clause-answer : goal.returns-in-Some-clause-answer
returns-in-Some-clause-answer c = let L = c.self.inside.keys in
    subst (λ s. (past : List ℕ) → IsAfterUses s past → Hit c.in-Some.index ≡ use_of s.entries past c.args.key) c.self.view_is
    (λ past leads. (hit_at L.cap L.entries past c.args.key c.in-Some.index c.self.invariant.0 leads (sym c.peek.ensures ∙ sym c.copied.ensures ∙ c.in-Some.is)).1)

pub returns-in-Some-clause-after : goal.returns-in-Some-clause-after
returns-in-Some-clause-after c = let L = c.self.inside.keys in
    subst (λ s. (past : List ℕ) → IsAfterUses s past → IsAfterUses (view c.promote.new.self) (c.args.key ∷ past)) c.self.view_is
    (λ past leads. let h = hit_at L.cap L.entries past c.args.key c.in-Some.index c.self.invariant.0 leads (sym c.peek.ensures ∙ sym c.copied.ensures ∙ c.in-Some.is) in
    subst (λ s. IsAfterUses (view s) (c.args.key ∷ past)) (sym c.promote.ensures.entries) h.2)

missed : (c : goal.Joined-put) (past : List ℕ) → IsAfterUses (view c.self.inside.keys) past
    → (misses c.self.inside.keys.cap past c.args.key ≡ true) × (Miss c.miss_index-index.result ≡ use_of c.self.inside.keys.cap past c.args.key)
    × IsAfterUses (view (lru_cache (put_entries eqb c.self.inside.keys c.args.key c.miss_index-index.result) c.self.inside.keys.cap)) (c.args.key ∷ past)
missed c past leads = let L = c.self.inside.keys in
    miss_at L.cap L.entries past c.args.key c.miss_index-index.result c.self.invariant.0 leads (sym c.peek.ensures ∙ sym c.copied.ensures ∙ c.in_default.is)
    (subst (λ s. length s.held < s.entries → c.miss_index-index.result ≡ length s.held) (sym c.self.view_is) c.miss_index-index.ensures.room)
    (subst (λ s. s.entries ≤ length s.held → (oldest : ℕ × ℕ) × (last_entry s.held ≡ Some oldest) × (c.miss_index-index.result ≡ oldest.1)) (sym c.self.view_is) c.miss_index-index.ensures.full)

pub returns-clause-answer : goal.returns-clause-answer
returns-clause-answer c = elim c.match-put.branch [
  | in-Ok w ↦ rw w.result-is (subst (λ s. (past : List ℕ) → IsAfterUses s past → Miss c.miss_index-index.result ≡ use_of s.entries past c.args.key) c.self.view_is
      (λ past leads. (missed c past leads).1))
  | in-Err w ↦ rw w.result-is tt
]

pub returns-clause-after : goal.returns-clause-after
returns-clause-after c = elim c.match-put.branch [
  | in-Ok w ↦ rw w.result-is (subst (λ s. (past : List ℕ) → IsAfterUses s past → IsAfterUses (view c.put.new.self) (c.args.key ∷ past)) c.self.view_is
      (λ past leads. subst (λ s. IsAfterUses (view s) (c.args.key ∷ past)) (sym w.in-Ok.ensures.entries) (missed c past leads).2))
  | in-Err w ↦ rw w.result-is tt
]

pub returns-clause-hit : goal.returns-clause-hit
returns-clause-hit c = subst (λ s. (past : List ℕ) → IsAfterUses s past → (IsMiss s.entries past c.args.key → ⊥) → IsOk c.match-put.result) c.self.view_is
    (λ past leads hit. absurd (hit (missed c past leads).0))

pub returns-in-Some-clause-hit : goal.returns-in-Some-clause-hit
returns-in-Some-clause-hit c = search rules

pub returns-in-Some-clause-unchanged : goal.returns-in-Some-clause-unchanged
returns-in-Some-clause-unchanged c = search rules

pub returns-clause-unchanged : goal.returns-clause-unchanged
returns-clause-unchanged c = search rules
