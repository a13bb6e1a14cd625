-- A use of a cache: what it sends, and the writer after it; and one sending after another.
use Rattle.std.proofs.Common.{◌≡◌, ℕ, ◌<◌, ◌%◌, List, [], ◌∷◌, ◌++◌, refl, ap, sym, ◌∙◌, subst, arith}
use Rattle.std.specs.Prelude.{Bool, true, false, IsTrue}
use Rattle.std.proofs.lemmas.Bool.Decides.{nat_tests}
use Rattle.px_core.specs.Colors.{is_color, are_colors}
use Rattle.caps_sets.specs.declared.confirmed.Confirmed.{Confirmed}
use Rattle.order_fields.specs.OrderTable.{Registers}
use Rattle.cache_plan.specs.CacheUse.{misses, cache_index, uses_of}
use Rattle.cache_plan.proofs.Indices.{cache_index_below}
use Rattle.cache_plan.specs.Answers as plan
use Rattle.cache_plan.specs.declared.uses.Use.TheVariants.{Hit, Miss}
use Rattle.frame_rules.specs.FrameOrders.{SentOrder, Use, Uses, Sending, sending, use_by, use_of, entries_of}
use Rattle.frame_rules.specs.FrameBytes.{bytes_of_order, registers_after_order, bytes_of_orders, registers_after_orders}
use Rattle.frame_laws.specs.Sound.{AreColors}
use Rattle.viewer_sender.specs.declared.writer.FrameWriter.{FrameWriter}
use Rattle.viewer_sender.specs.Gathering.{Gathering, after_order, after_orders}
use Rattle.viewer_sender.specs.Stands.{CachesStand}
use Rattle.viewer_sender.specs.Writes.{Wrote, Writes, used}

-- colours pass the test
pub colors_are : (xs : List ℕ) → AreColors xs → IsTrue (are_colors xs)
colors_are [] h = refl
colors_are (x ∷ xs) h =
    let one = h.0 in
    let first : is_color x ≡ true = grind (arith, nat_tests, one) in
    rw first (colors_are xs h.1)

-- ---- a use

missed : (m : Bool) (i index : ℕ) → Miss index ≡ plan.use_by m i → (m ≡ true) × (i ≡ index)
missed true i index e = (refl, cc e)
missed false i index e = absurd (cc e)

hit : (m : Bool) (i index : ℕ) → Hit index ≡ plan.use_by m i → (m ≡ false) × (i ≡ index)
hit true i index e = absurd (cc e)
hit false i index e = (refl, cc e)

module _ (c : Confirmed) (uses : Uses) (cache key index : ℕ) (content : ℕ → SentOrder) where
  pub use_missed : Miss index ≡ plan.use_of (entries_of c cache) (uses_of cache uses) key
      → use_of c uses cache key content ≡ record { orders = content index ∷ []; index = index; uses = (cache, key) ∷ uses }
  use_missed e =
      let past = uses_of cache uses in
      let n = entries_of c cache in
      let t = missed (misses n past key) (cache_index n past key) index e in
      ap (λ b. use_by b (cache_index n past key) ((cache, key) ∷ uses) content) t.0 ∙ ap (λ i. use_by true i ((cache, key) ∷ uses) content) t.1

  pub use_hit : Hit index ≡ plan.use_of (entries_of c cache) (uses_of cache uses) key
      → use_of c uses cache key content ≡ record { orders = []; index = index; uses = (cache, key) ∷ uses }
  use_hit e =
      let past = uses_of cache uses in
      let n = entries_of c cache in
      let t = hit (misses n past key) (cache_index n past key) index e in
      ap (λ b. use_by b (cache_index n past key) ((cache, key) ∷ uses) content) t.0 ∙ ap (λ i. use_by false i ((cache, key) ∷ uses) content) t.1

  -- the order of a miss joined the updates
  pub wrote_missed : (old new : FrameWriter) → old.confirmed ≡ c → Miss index ≡ plan.use_of (entries_of c cache) (uses_of cache uses) key
      → new.updates ≡ after_order old.updates (bytes_of_order old.confirmed old.registers (content index)) → new.registers ≡ registers_after_order old.confirmed old.registers (content index)
      → CachesStand old.confirmed new.caches ((cache, key) ∷ uses) → Wrote old new (used (use_of c uses cache key content))
  wrote_missed old new same e updates registers caches =
      subst (λ (u : Use). Wrote old new (used u)) (sym (use_missed e)) (record { gathered = updates; registers = registers; caches = caches })

  -- nothing is sent where the key is held
  pub wrote_hit : (old new : FrameWriter) → Hit index ≡ plan.use_of (entries_of c cache) (uses_of cache uses) key
      → new.updates ≡ old.updates → new.registers ≡ old.registers
      → CachesStand old.confirmed new.caches ((cache, key) ∷ uses) → Wrote old new (used (use_of c uses cache key content))
  wrote_hit old new e updates registers caches =
      subst (λ (u : Use). Wrote old new (used u)) (sym (use_hit e)) (record { gathered = updates; registers = registers; caches = caches })

-- ---- one sending after another

pub after_orders-append : (g : Gathering) (xs ys : List (List ℕ)) → after_orders g (xs ++ ys) ≡ after_orders (after_orders g xs) ys
after_orders-append g [] ys = refl
after_orders-append g (x ∷ xs) ys = after_orders-append (after_order g x) xs ys

bytes_of_orders-append : (c : Confirmed) (regs : Registers) (os ps : List SentOrder) → bytes_of_orders c regs (os ++ ps) ≡ bytes_of_orders c regs os ++ bytes_of_orders c (registers_after_orders c regs os) ps
bytes_of_orders-append c regs [] ps = refl
bytes_of_orders-append c regs (o ∷ os) ps = ap (λ bs. bytes_of_order c regs o ∷ bs) (bytes_of_orders-append c (registers_after_order c regs o) os ps)

registers-append : (c : Confirmed) (regs : Registers) (os ps : List SentOrder) → registers_after_orders c regs (os ++ ps) ≡ registers_after_orders c (registers_after_orders c regs os) ps
registers-append c regs [] ps = refl
registers-append c regs (o ∷ os) ps = registers-append c (registers_after_order c regs o) os ps

gathered-append : (c : Confirmed) (g : Gathering) (regs : Registers) (os ps : List SentOrder)
    → after_orders g (bytes_of_orders c regs (os ++ ps)) ≡ after_orders (after_orders g (bytes_of_orders c regs os)) (bytes_of_orders c (registers_after_orders c regs os) ps)
gathered-append c g regs os ps = ap (after_orders g) (bytes_of_orders-append c regs os ps) ∙ after_orders-append g (bytes_of_orders c regs os) (bytes_of_orders c (registers_after_orders c regs os) ps)

module _ (a b d : FrameWriter) where
  wrote_then : (s t : Sending) → b.confirmed ≡ a.confirmed → Wrote a b s → Wrote b d t → Wrote a d (sending (s.orders ++ t.orders) t.uses)
  wrote_then s t same p q =
      let c = a.confirmed in record {
        gathered = q.gathered
            ∙ (ap (λ k. after_orders b.updates (bytes_of_orders k b.registers t.orders)) same
            ∙ (ap (λ r. after_orders b.updates (bytes_of_orders c r t.orders)) p.registers
            ∙ (ap (λ g. after_orders g (bytes_of_orders c (registers_after_orders c a.registers s.orders) t.orders)) p.gathered
            ∙ sym (gathered-append c a.updates a.registers s.orders t.orders))));
        registers = q.registers
            ∙ (ap (λ k. registers_after_orders k b.registers t.orders) same
            ∙ (ap (λ r. registers_after_orders c r t.orders) p.registers ∙ sym (registers-append c a.registers s.orders t.orders)));
        caches = subst (λ k. CachesStand k d.caches t.uses) same q.caches;
      }

  -- what is written after something else
  pub writes_then : (f g : Uses → Sending) → Writes a b f → Writes b d g → Writes a d (λ uses. sending ((f uses).orders ++ (g (f uses).uses).orders) (g (f uses).uses).uses)
  writes_then f g p q = (
    q.0 ∙ p.0,
    λ uses stands.
        let first = p.1 uses stands in
        wrote_then (f uses) (g (f uses).uses) p.0 first (q.1 (f uses).uses (subst (λ k. CachesStand k b.caches (f uses).uses) (sym p.0) first.caches)),
  )

-- what is sent, told otherwise where the caches stand for the uses
pub writes_as : (a b : FrameWriter) (f g : Uses → Sending) → ((uses : Uses) → CachesStand a.confirmed a.caches uses → f uses ≡ g uses) → Writes a b f → Writes a b g
writes_as a b f g same p = (p.0, λ uses stands. subst (λ (s : Sending). Wrote a b s) (same uses stands) (p.1 uses stands))

-- an order that draws with what was used, by its index
pub drawn_after : (a b d : FrameWriter) (u : Uses → Use) (make : ℕ → SentOrder) (index : ℕ) → Writes a b (λ uses. used (u uses)) → Writes b d (λ uses. sending (make index ∷ []) uses)
    → ((uses : Uses) → CachesStand a.confirmed a.caches uses → index ≡ (u uses).index) → Writes a d (λ uses. sending ((u uses).orders ++ make (u uses).index ∷ []) (u uses).uses)
drawn_after a b d u make index p q is =
    writes_as a d (λ uses. sending ((u uses).orders ++ make index ∷ []) (u uses).uses) (λ uses. sending ((u uses).orders ++ make (u uses).index ∷ []) (u uses).uses)
    (λ uses stands. ap (λ k. sending ((u uses).orders ++ make k ∷ []) (u uses).uses) (is uses stands))
    (writes_then a b d (λ uses. used (u uses)) (λ uses. sending (make index ∷ []) uses) p q)

-- the entry of a brush is one byte
pub brush_entry_below : (uses : Uses) (key index : ℕ) → Miss index ≡ plan.use_of 64 (uses_of 13 uses) key → index < 64
brush_entry_below uses key index e =
    let t = missed (misses 64 (uses_of 13 uses) key) (cache_index 64 (uses_of 13 uses) key) index e in
    subst (λ i. i < 64) t.1 (cache_index_below 64 (uses_of 13 uses) key (omega arith))

pub low_byte : (index : ℕ) → index < 64 → index % 256 ≡ index
low_byte index h = omega (arith, h)
