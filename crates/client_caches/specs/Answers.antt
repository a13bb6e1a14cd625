-- What calls answer that obey an order.
use Rattle.std.specs.Prelude.{◌≡◌, Result, Ok, Err, ⊤}
use Rattle.order_means.specs.ClientState.{Fault}
use Rattle.order_means.specs.ClientState.Fault.{Broken as broken_fault, Oversized as oversized_fault, Empty as empty_fault}
use Rattle.client_caches.specs.declared.obey_fault.ObeyFault.{ObeyFault}
use Rattle.client_caches.specs.declared.obey_fault.ObeyFault.TheVariants.{Broken, Oversized, Empty, OutOfMemory}

-- the meaning refuses with this fault; want of memory says nothing of it
abbrev pub Refuses : {A : Type 0} → ObeyFault → Result A Fault → Type 0
Refuses Broken meaning = meaning ≡ Err broken_fault
Refuses (Oversized cache index) meaning = meaning ≡ Err (oversized_fault cache index)
Refuses (Empty cache index) meaning = meaning ≡ Err (empty_fault cache index)
Refuses OutOfMemory meaning = ⊤

-- the call gave what the meaning gives, seen by view, or the refusal that it gives; or no memory was left
abbrev pub Gives : {X A : Type 0} → (X → A) → Result X ObeyFault → Result A Fault → Type 0
Gives view (Ok x) meaning = meaning ≡ Ok (view x)
Gives view (Err f) meaning = Refuses f meaning
