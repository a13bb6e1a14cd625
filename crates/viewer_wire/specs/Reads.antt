-- What calls say that read a packet of the host.
use Rattle.std.specs.Prelude.{◌≡◌, ℕ, List, [], ◌∷◌, Result, Ok, Err, ⊤}
use Rattle.wire_num.specs.declared.short.Short.{Short}
use Rattle.wire_num.specs.Field.{Read}
use Rattle.wire_num.specs.FieldValue.{placed}
use Rattle.wire_num.specs.Layout.{Layout, Bytes}
use Rattle.px_core.specs.declared.surface.Size.{Size}
use Rattle.viewer_rules.specs.ViewerHandshake.{Answered}
use Rattle.viewer_wire.specs.declared.answer.Answer.{Answer}
use Rattle.viewer_wire.specs.declared.answer.AnswerFault.{AnswerFault}
use Rattle.viewer_wire.specs.declared.answer.AnswerFault.TheVariants.{Refused, OutOfMemory}

-- rows of just these bytes, one after the other
abbrev pub rows_of : List (List ℕ) → Layout → Layout
rows_of [] next = next
rows_of (bytes ∷ more) next = Bytes bytes (rows_of more next)

-- the call read a packet, seen by view; or it is refused so many bytes behind its first one
abbrev pub Gives : {X A : Type 0} → (X → A) → Result X Short → Result A ℕ → Type 0
Gives view (Ok v) meaning = meaning ≡ Ok (view v)
Gives view (Err short) meaning = meaning ≡ Err short.at

abbrev pub ReadsPacket : {X A : Type 0} → (X → A) → (List ℕ → Read A) → Result X Short → List ℕ → Type 0
ReadsPacket view read result packet = Gives view result (placed (λ at. at) packet (read packet))

-- the sides of a size
abbrev pub sides : Size → List ℕ
sides size = size.w ∷ size.h ∷ []

-- the answer with its text
abbrev pub with_text : List ℕ → Answer → Answered
with_text text a = record { text = text; next = a.next; size = a.size }

-- the call answered a packet, or refused it; want of memory says nothing of it
abbrev pub Answers : Result Answer AnswerFault → List ℕ → Result Answered ℕ → Type 0
Answers (Ok a) text meaning = meaning ≡ Ok (with_text text a)
Answers (Err (Refused n)) text meaning = meaning ≡ Err n
Answers (Err OutOfMemory) text meaning = ⊤
