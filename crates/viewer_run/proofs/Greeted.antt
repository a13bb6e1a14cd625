-- A client's connection sequence: one stretch after another.
use Rattle.std.proofs.Common.{◌≡◌, ℕ, List, [], ◌∷◌, ◌++◌, sym, ap, ap₂, ◌∙◌, subst, append_assoc, append-nil}
use Rattle.std.proofs.KnownBytes.{Appends-nil, Appends-trans}
use Rattle.std.specs.Prelude.{Option, Some, None, Result, Ok, Err, IfOk}
use Rattle.std.specs.Io.KnownBytes.{Consumes}
use Rattle.edge_io.specs.Faults.{Rose}
use Rattle.edge_io.specs.Outside.{Input, Output, Outside, outside}
use Rattle.conn_rules.specs.declared.conn_step.ConnStep.{ConnStep}
use Rattle.conn_rules.specs.declared.conn_step.ConnStep.TheVariants as step
use Rattle.conn_rules.specs.Hearing.{Hearing, Heard, heard, then_heard}
use Rattle.conn_rules.proofs.Pieces.{heard_then}
use Rattle.serve_rules.specs.Reading.{IsWhole}
use Rattle.serve_rules.specs.declared.ends.ConnEnd.{ConnEnd}
use Rattle.serve_rules.specs.declared.ends.ConnEnd.TheVariants.{Left, Refused, Truncated, NotInvited, RoomFull, JoinsSpent, ReadFault, WriteFault, NotStored, OutOfMemory}
use Rattle.serve_rules.proofs.ReadOn.{consumes_then}
use Rattle.viewer_run.specs.declared.guest.Guest.{Guest}
use Rattle.caps_sets.specs.declared.confirmed.Confirmed.{Confirmed}
use Rattle.std.proofs.lemmas.List.Elements.{All-tail}
use Rattle.conn_rules.specs.Placed.{AreBytes, IsStepPlaced, ArePlaced}
use Rattle.serve_rules.specs.declared.ends.SideEnd.{SideEnd}
use Rattle.serve_rules.specs.declared.ends.SideEnd.TheVariants.{Done, Stopped}
use Rattle.viewer_run.specs.Greeting.{Greeting, greeting, GreetEnd, GreetFaults, Greets, IsRestPlaced, refusal_of}
use Rattle.viewer_run.specs.Greeting.Greeting.{Connects, IsReady}

-- steps behind others of a client that still connects
pub greeting_then : (n m : List ℕ) (xs ys : List ConnStep) → greeting n xs ≡ Connects m → greeting n (xs ++ ys) ≡ greeting m ys
greeting_then n m [] ys e = ap (λ (k : List ℕ). greeting k ys) (cc e)
greeting_then n m (step.Named other ∷ xs) ys e = greeting_then other m xs ys e
greeting_then n m (step.Ready confirmed ∷ xs) ys e = absurd (cc e)
greeting_then n m (step.Event event ∷ xs) ys e = greeting_then n m xs ys e
greeting_then n m (step.Refresh area ∷ xs) ys e = greeting_then n m xs ys e
greeting_then n m (step.Suppress stop ∷ xs) ys e = greeting_then n m xs ys e
greeting_then n m (step.Shutdown ∷ xs) ys e = greeting_then n m xs ys e
greeting_then n m (step.Bye ∷ xs) ys e = absurd (cc e)
greeting_then n m (step.Packet ∷ xs) ys e = greeting_then n m xs ys e

-- an end of the second stretch is one of both
end_then : (xs ys unwritten : List ℕ) (g : Greeting) (after new : Hearing) (name : List ℕ) (i j l : Outside)
    (r : Result (Option Guest) ConnEnd) → (IsWhole j.input.left ys → IsWhole i.input.left (xs ++ ys)) → j.input.faults ≡ i.input.faults → j.output.faults ≡ i.output.faults
    → GreetEnd ys unwritten g after new name j l r → GreetEnd (xs ++ ys) unwritten g after new name i l r
end_then xs ys unwritten g after new name i j l (Ok None) whole a b e = (e.0, e.1, e.2, e.3 ∙ a, e.4 ∙ b, e.5)
end_then xs ys unwritten g after new name i j l (Ok (Some guest)) whole a b e = (e.0, e.1, e.2, e.3 ∙ a, e.4 ∙ b)
end_then xs ys unwritten g after new name i j l (Err Left) whole a b e = (e.0, e.1, e.2 ∙ b)
end_then xs ys unwritten g after new name i j l (Err (Refused k at)) whole a b e = (e.0, e.1, e.2, e.3 ∙ b)
end_then xs ys unwritten g after new name i j l (Err Truncated) whole a b e = (e.0, e.1, whole e.2, e.3 ∙ b, e.4)
end_then xs ys unwritten g after new name i j l (Err NotInvited) whole a b e = e
end_then xs ys unwritten g after new name i j l (Err RoomFull) whole a b e = e
end_then xs ys unwritten g after new name i j l (Err JoinsSpent) whole a b e = e
end_then xs ys unwritten g after new name i j l (Err ReadFault) whole a b e = (e.0, subst (λ (n : ℕ). Rose n l.input.faults) a e.1)
end_then xs ys unwritten g after new name i j l (Err WriteFault) whole a b e = subst (λ (n : ℕ). Rose n l.output.faults) b e
end_then xs ys unwritten g after new name i j l (Err NotStored) whole a b e = e
end_then xs ys unwritten g after new name i j l (Err OutOfMemory) whole a b e = e

-- and no read or write of the first stretch failed
faults_then : (g : Greeting) (h : Hearing) (i j l : Outside) (r : Result (Option Guest) ConnEnd) → j.input.faults ≡ i.input.faults → j.output.faults ≡ i.output.faults
    → GreetFaults g h j l r → GreetFaults g h i l r
faults_then g h i j l (Ok met) a b e = e ∙ a
faults_then g h i j l (Err Left) a b e = e ∙ a
faults_then g h i j l (Err (Refused k at)) a b e = e ∙ a
faults_then g h i j l (Err Truncated) a b e = e ∙ a
faults_then g h i j l (Err NotInvited) a b e = e ∙ a
faults_then g h i j l (Err RoomFull) a b e = e ∙ a
faults_then g h i j l (Err JoinsSpent) a b e = e ∙ a
faults_then g h i j l (Err ReadFault) a b e = (e.0, e.1, e.2 ∙ b)
faults_then g h i j l (Err WriteFault) a b e = e ∙ a
faults_then g h i j l (Err NotStored) a b e = e ∙ a
faults_then g h i j l (Err OutOfMemory) a b e = e ∙ a

-- a stretch after one that went well
pub greets_then : (h m k : Hearing) (n n' n'' : List ℕ) (before between after : Outside) (r : Result (Option Guest) ConnEnd)
    → Greets h m n n' before between (Ok None) → Greets m k n' n'' between after r → Greets h k n n'' before after r
greets_then h m k n n' n'' before between after r a b =
    let both : heard h (a.fed ++ b.fed) ≡ then_heard (heard h a.fed) (heard m b.fed)
    = heard_then h a.fed b.fed ∙ ap (λ (x : Hearing). then_heard (heard h a.fed) (heard x b.fed)) (sym a.came.1) in
    let steps : greeting n (heard h (a.fed ++ b.fed)).steps ≡ greeting n' (heard m b.fed).steps
    = ap (λ (x : Heard). greeting n x.steps) both ∙ greeting_then n n' (heard h a.fed).steps (heard m b.fed).steps a.came.2 in
    let stands : (heard h (a.fed ++ b.fed)).after ≡ (heard m b.fed).after = ap (λ (x : Heard). x.after) both in
    record {
      fed = a.fed ++ b.fed;
      taken = consumes_then before.input.left between.input.left after.input.left a.fed b.fed a.taken b.taken;
      written = a.written ++ b.written;
      unwritten = b.unwritten;
      replies = ap (λ (x : Heard). x.replies) both
          ∙ (ap₂ ◌++◌ (a.replies ∙ (ap (λ l. a.written ++ l) a.came.0 ∙ append-nil a.written)) b.replies ∙ sym (append_assoc a.written b.written b.unwritten));
      told = Appends-trans before.output.told between.output.told after.output.told a.written b.written a.told b.told;
      came = subst (λ (x : Hearing). GreetEnd (a.fed ++ b.fed) b.unwritten (greeting n (heard h (a.fed ++ b.fed)).steps) x k n'' before after r) (sym stands)
          (subst (λ (g : Greeting). GreetEnd (a.fed ++ b.fed) b.unwritten g (heard m b.fed).after k n'' before after r) (sym steps)
          (end_then a.fed b.fed b.unwritten (greeting n' (heard m b.fed).steps) (heard m b.fed).after k n'' before between after r
          (consumes_then before.input.left between.input.left (Some []) a.fed b.fed a.taken) a.came.3 a.came.4 b.came));
      faults = subst (λ (x : Hearing). GreetFaults (greeting n (heard h (a.fed ++ b.fed)).steps) x before after r) (sym stands)
          (subst (λ (g : Greeting). GreetFaults g (heard m b.fed).after before after r) (sym steps)
          (faults_then (greeting n' (heard m b.fed).steps) (heard m b.fed).after before between after r a.came.3 a.came.4 b.faults));
    }

-- nothing was read
pub greets_none : (h : Hearing) (n : List ℕ) (i j : Input) (o : Output) (r : Result (Option Guest) ConnEnd) → Consumes i.left j.left []
    → (heard h []).replies ≡ [] → GreetEnd [] [] (greeting n (heard h []).steps) (heard h []).after h n (outside i o) (outside j o) r
    → GreetFaults (greeting n (heard h []).steps) (heard h []).after (outside i o) (outside j o) r → Greets h h n n (outside i o) (outside j o) r
greets_none h n i j o r taken quiet e faults = record {
  fed = [];
  taken = taken;
  written = [];
  unwritten = [];
  replies = quiet;
  told = Appends-nil o.told;
  came = e;
  faults = faults;
}

-- steps behind Ready are among those whose areas are placed
pub rest_placed : (n name : List ℕ) (confirmed : Confirmed) (xs rest : List ConnStep) → ArePlaced xs → greeting n xs ≡ IsReady name confirmed rest → ArePlaced rest
rest_placed n name confirmed [] rest p e = absurd (cc e)
rest_placed n name confirmed (step.Named other ∷ xs) rest p e = rest_placed other name confirmed xs rest (All-tail IsStepPlaced _ xs p) e
rest_placed n name confirmed (step.Ready found ∷ xs) rest p e = subst ArePlaced (cc e) (All-tail IsStepPlaced _ xs p)
rest_placed n name confirmed (step.Event event ∷ xs) rest p e = rest_placed n name confirmed xs rest (All-tail IsStepPlaced _ xs p) e
rest_placed n name confirmed (step.Refresh area ∷ xs) rest p e = rest_placed n name confirmed xs rest (All-tail IsStepPlaced _ xs p) e
rest_placed n name confirmed (step.Suppress stop ∷ xs) rest p e = rest_placed n name confirmed xs rest (All-tail IsStepPlaced _ xs p) e
rest_placed n name confirmed (step.Shutdown ∷ xs) rest p e = rest_placed n name confirmed xs rest (All-tail IsStepPlaced _ xs p) e
rest_placed n name confirmed (step.Bye ∷ xs) rest p e = absurd (cc e)
rest_placed n name confirmed (step.Packet ∷ xs) rest p e = rest_placed n name confirmed xs rest (All-tail IsStepPlaced _ xs p) e

-- where a refusal isn't an end no client is ready
pub refusal_placed : (end : SideEnd) (h : Hearing) (r : Result (Option Guest) ConnEnd) → AreBytes h.part → r ≡ refusal_of end → IfOk r (λ met. AreBytes h.part × IsRestPlaced met)
refusal_placed (Done end) h r part e = subst (λ (x : Result (Option Guest) ConnEnd). IfOk x (λ met. AreBytes h.part × IsRestPlaced met)) (sym e) tt
refusal_placed Stopped h r part e = subst (λ (x : Result (Option Guest) ConnEnd). IfOk x (λ met. AreBytes h.part × IsRestPlaced met)) (sym e) (part, tt)
