-- What calls say that read a host's bytes: where and why they are refused.
use Rattle.std.specs.Prelude.{◌≡◌, ℕ, true, false, Result, Ok, Err, ⊤}
use Rattle.order_means.specs.ClientState.{Fault}
use Rattle.order_means.specs.ClientState.Fault.{Broken, Oversized, Empty}
use Rattle.order_means.specs.FrameMarks.{View, Refusal}
use Rattle.client_view.specs.declared.client_fault.ClientFault.{ClientFault}
use Rattle.client_view.specs.declared.client_fault.ClientFault.TheVariants.{Refused, Named, OutOfMemory}
use Rattle.client_view.specs.declared.viewer.Viewer.{Viewer}
use Rattle.client_view.specs.Views.{capped, StandsFor}

-- a place and why
abbrev pub refusal : ℕ → Fault → Refusal
refusal place fault = record { place = place; fault = fault }

-- the meaning refuses at that place, for that cause; want of memory says nothing of it
abbrev pub RefusesAt : {A : Type 0} → ClientFault → Result A Refusal → Type 0
RefusesAt (Refused at) meaning = (place : ℕ) × (meaning ≡ Err (refusal place Broken)) × (at ≡ capped place)
RefusesAt (Named at true cache index) meaning = (place : ℕ) × (meaning ≡ Err (refusal place (Oversized cache index))) × (at ≡ capped place)
RefusesAt (Named at false cache index) meaning = (place : ℕ) × (meaning ≡ Err (refusal place (Empty cache index))) × (at ≡ capped place)
RefusesAt OutOfMemory meaning = ⊤

-- the meaning gives a view, for which the viewer then stands, or refuses
abbrev pub Shows : Result (Unit {0}) ClientFault → Result View Refusal → Viewer → Type 0
Shows (Ok done) meaning new = (w : View) × (meaning ≡ Ok w) × StandsFor w new
Shows (Err f) meaning new = RefusesAt f meaning
