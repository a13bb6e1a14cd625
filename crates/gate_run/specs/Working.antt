-- The work for the links of a gate, in threads or done.
use Rattle.std.specs.Prelude.{◌≡◌, List, [], ◌∷◌, ◌++◌, ◌||◌, ◌⊎◌, Bool, true, is_some, IfSome}
use Rattle.edge_io.specs.declared.link.Link as links
use Rattle.session_rules.specs.declared.entry.Entry.{Entry}
use Rattle.session_rules.specs.Journal.{Head}
use Rattle.grow_lock.specs.Journal.{StartsWith, IsDisjoint}
use Rattle.grow_lock.specs.Passes.{LockModel, IsPassOf}
use Rattle.grow_lock.specs.Shares.{Share, covers}
use Rattle.serve_rules.specs.Turns.{SessionPass}
use Rattle.serve_rules.specs.declared.noted.ConnReport.{ConnReport}
use Rattle.edge_io.specs.Outside.{Outside, outside_given, outside_spent}
use Rattle.viewer_run.specs.Links.{ServesViewer}
use Rattle.gate_run.specs.declared.jobs.Job.{Job}
use Rattle.gate_run.specs.Gates.{IsServed}

-- a part of the lock is in one of these shares
abbrev pub IsAmong : List Share → List Bool → Type 0
IsAmong [] path = ⊥
IsAmong (share ∷ shares) path = (covers share path ≡ true) ⊎ IsAmong shares path

-- a share was dealt out: each part of it was kept, or given away in one of these shares
abbrev pub IsDealtOut : Share → Share → List Share → Type 0
IsDealtOut share kept given = (path : List Bool) → covers share path ≡ true → (covers kept path ≡ true) ⊎ IsAmong given path

-- a pass that had no turn
abbrev pub IsFresh : SessionPass → Type 0
IsFresh pass = (pass.found ≡ []) × (pass.mine ≡ [])

-- a link was served by a pass of a lock, which is one of that lock again
pub record IsDone (lock : LockModel Head Entry) (before : SessionPass) (link : Outside) (after : SessionPass) (report : ConnReport)
    (spent : Outside) : Type 0 where
  pub of_lock : IsPassOf lock after
  pub serves : ServesViewer lock.head before after report link spent

module _ {L Reader Writer Spent : Type 0} (link : links.Ghosts L Reader Writer Spent) where
  -- a job has a link and a pass of the lock that had no turn and has seen what the lock was made with, and its thread, or what it came to, serves that link by
  -- that pass
  pub record IsWork (lock : LockModel Head Entry) (job : Job L Reader Writer Spent) : Type 0 where
    pub of_lock : job.given.lock.value ≡ lock
    pub fresh : IsFresh job.given.pass.value
    pub since : StartsWith job.given.pass.value.seen lock.first
    pub handle : IfSome job.handle (λ h. (h.promise.lock.value ≡ job.given.lock.value) × (h.promise.pass.value ≡ job.given.pass.value)
        × (h.promise.link.value ≡ job.given.link.value))
    pub outcome : IfSome job.outcome (λ o. IsDone job.given.lock.value job.given.pass.value (outside_given link job.given.link.value) o.pass o.report
        (outside_spent link o.spent))
    pub one : is_some job.handle || is_some job.outcome ≡ true

  -- a job was ended: its pass met this one, and its report and what is left of its link were handed on
  pub record EndsWork (head : Head) (first : List Entry) (given : L) (before after : SessionPass) (reports_old reports_new : List ConnReport)
      (finished_old finished_new : List Spent) : Type 0 where
    pub report : ConnReport
    pub spent : Spent
    pub served : IsServed head first after.seen (outside_given link given) report (outside_spent link spent)
    pub grows : StartsWith after.seen before.seen
    pub mine : after.mine ≡ before.mine ++ report.places.list
    pub disjoint : IsDisjoint before.mine report.places.list
    pub reports : reports_new ≡ reports_old ++ report ∷ []
    pub finished : finished_new ≡ finished_old ++ spent ∷ []
