use Rattle.std.proofs.Common.{◌≡◌, ℕ, List, length, ap, sym, ◌∙◌, arith}
use Rattle.std.specs.Prelude.{Bool}
use Rattle.px_core.specs.TileFlags.{tiles}
use Rattle.session_rules.specs.Pending.{Pending, pending_between}
use Rattle.session_core.specs.Touching.{saved_by}
use Rattle.frame_plan.specs.declared.walk.Walker.{Walker}
use Rattle.frame_plan.proofs.Jumping.{none_freed, one_freed, none_given, all_freed, has_jumped}
use Rattle.frame_plan.proofs.walk.Walker.jump.Goals as goal
use Rattle.frame_plan.proofs.walk.Walker.jump.Goals.{then-saved_since, else-saved_since}

pub loop-slot-init : goal.loop-slot-init
loop-slot-init c =
    let s = c.args.session.now in
    record {
      dirty = c.add_touched.ensures;
      held = none_freed (saved_by (pending_between s.head.size s.journal c.args.before (length s.journal))) c.args.self.now.held;
    }

pub loop-slot-preserved : goal.loop-slot-preserved
loop-slot-preserved c =
    let s = c.args.session.now in
    let saved : ℕ → Bool = saved_by (pending_between s.head.size s.journal c.args.before (length s.journal)) in
    let slot : ℕ = c.loop-slot.slot in
    elim c.if-saved_since.branch [
      | then-saved_since w ↦ record {
        dirty = ap (λ (x : Walker). tiles x.dirty) w.self-is ∙ c.loop-slot.invariant.dirty;
        held = one_freed saved slot c.args.self.now.held c.loop-slot.self.held c.if-saved_since.self.held (sym c.saved_since.ensures ∙ w.if-saved_since.true) c.loop-slot.invariant.held
            (ap (λ (x : Walker). x.held) w.self-is ∙ w.free.ensures.given_up);
      }
      | else-saved_since w ↦ record {
        dirty = ap (λ (x : Walker). tiles x.dirty) w.self-is ∙ c.loop-slot.invariant.dirty;
        held = ap (λ (x : Walker). x.held) w.self-is
            ∙ none_given saved slot c.args.self.now.held c.loop-slot.self.held (sym c.saved_since.ensures ∙ w.if-saved_since.false) c.loop-slot.invariant.held;
      }
    ]

pub returns : goal.returns
returns c =
    let s = c.args.session.now in
    let ps : List Pending = pending_between s.head.size s.journal c.args.before (length s.journal) in
    let end : c.loop-slot.slot ≡ 16 = omega arith in
    has_jumped s.head.size c.args.self.now c.loop-slot.self ps c.loop-slot.invariant.dirty
    (all_freed (saved_by ps) c.loop-slot.slot c.args.self.now.held c.loop-slot.self.held (λ n far. c.recall_slots.ensures c.args.before n c.requires (omega (arith, end, far))) c.loop-slot.invariant.held)
