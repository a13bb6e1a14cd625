-- What is said behind a read, and where a read ends.
use Rattle.std.proofs.Common.{◌≡◌, ◌∙◌, ℕ, List, [], ◌++◌, Result, Ok, Err, refl, sym, ap, subst, append-nil, append_assoc, arith}
use Rattle.std.specs.Prelude.{⊤}
use Rattle.std.specs.declared.option.Option.{Option}
use Rattle.std.specs.declared.option.Option.TheVariants.{Some, None}
use Rattle.std.specs.Io.KnownBytes.{Appends}
use Rattle.std.proofs.KnownBytes.{Appends-nil, Appends-trans}
use Rattle.edge_io.specs.Outside.{Input, Output, outside}
use Rattle.edge_io.specs.Sink.{WritesFront}
use Rattle.command_words.specs.ViewWords.{ViewingOf}
use Rattle.viewer_rules.specs.ViewerHandshake.{Watched}
use Rattle.look_net.specs.Looks.{LookOf, FeedsText}
use Rattle.look_net.specs.declared.look_fault.LookFault.{LookFault}
use Rattle.look_net.specs.declared.look_fault.LookFault.TheVariants as fault
use Rattle.look_net.specs.declared.end.End.{End}
use Rattle.look_net.specs.declared.end.End.TheVariants as end
use Rattle.look_net.specs.Views.{status_of, leave, leave_at, due}
use Rattle.look_net.specs.HostTurns.{Asks, Says, with_leave, first_end, SaysThen, SaysDue, EndsBy, Turns}

-- nothing was said
pub nothing : (told : Option (List ℕ)) (text : List ℕ) → WritesFront told told text
nothing told text = record { front = []; rest = text; whole = refl; written = Appends-nil told }

-- a front of a text is one of more text
front_extends : (told telling : Option (List ℕ)) (text more : List ℕ) → WritesFront told telling text → WritesFront told telling (text ++ more)
front_extends told telling text more f = record {
  front = f.front;
  rest = f.rest ++ more;
  whole = ap (λ t. t ++ more) f.whole ∙ append_assoc f.front f.rest more;
  written = f.written;
}

-- a front of the second part, behind the first, is one of the whole
pub front_behind : (told mid telling : Option (List ℕ)) (text more : List ℕ) → Appends told mid text → WritesFront mid telling more → WritesFront told telling (text ++ more)
front_behind told mid telling text more w f = record {
  front = text ++ f.front;
  rest = f.rest;
  whole = ap (λ t. text ++ t) f.whole ∙ sym (append_assoc text f.front f.rest);
  written = Appends-trans told mid telling text f.front w f.written;
}

-- what is due where the marks are there, and else
due_left : (v : ViewingOf) (y : Watched) → status_of v y.after ≡ 0 → y.text ++ leave ≡ due v y
due_left v y is = ap (λ n. y.text ++ leave_at n) (sym is)

due_only : (v : ViewingOf) (y : Watched) (n : ℕ) → status_of v y.after ≡ n → leave_at n ≡ [] → y.text ≡ due v y
due_only v y n is none = sym (append-nil y.text) ∙ ap (λ l. y.text ++ l) (sym none) ∙ ap (λ m. y.text ++ leave_at m) (sym is)

said_whole : (told telling : Option (List ℕ)) (text other : List ℕ) → text ≡ other → Appends told telling text → Appends told telling other
said_whole told telling text other is says = subst (λ t. Appends told telling t) is says

said_front : (told telling : Option (List ℕ)) (text other : List ℕ) → text ≡ other → WritesFront told telling text → WritesFront told telling other
said_front told telling text other is says = subst (λ t. WritesFront told telling t) is says

-- the bytes ask for one thing
no_other : {X : Type 0} (v : ViewingOf) (y : Watched) (n : ℕ) → status_of v y.after ≡ n → (n ≡ 35 → ⊥) → status_of v y.after ≡ 35 → X
no_other v y n is not_so e = absurd (not_so (sym is ∙ e))

is_0 : ◌≡◌ {A = ℕ} 0 35 → ⊥
is_0 e = omega (arith, e)

is_36 : ◌≡◌ {A = ℕ} 36 35 → ⊥
is_36 e = omega (arith, e)

is_3 : ◌≡◌ {A = ℕ} 3 35 → ⊥
is_3 e = omega (arith, e)

abbrev not_memory : Option End → Type 0
not_memory (Some end.OutOfMemory) = ⊥
not_memory other = ⊤

-- a text with what goes behind it is what is due
due_is : (v : ViewingOf) (y : Watched) (look : LookOf) (asked : Option End) (text : List ℕ) → Asks asked v y.after look → not_memory asked → text ≡ y.text → with_leave asked text ≡ due v y
due_is v y look None text g n is = is ∙ due_only v y 35 g.status_is refl
due_is v y look (Some end.Marks) text g n is = ap (λ t. t ++ leave) is ∙ due_left v y g.status_is
due_is v y look (Some end.Farewell) text g n is = is ∙ due_only v y 36 g.status_is refl
due_is v y look (Some (end.Refused at)) text g n is = is ∙ due_only v y 3 g.0 refl
due_is v y look (Some end.Closed) text g n is = absurd g
due_is v y look (Some end.ReadFault) text g n is = absurd g
due_is v y look (Some end.WriteFault) text g n is = absurd g
due_is v y look (Some end.OutOfMemory) text g n is = absurd n

module _ (v : ViewingOf) (read : List ℕ) (y : Watched) (look : LookOf) (i j : Input) (calm : j.faults ≡ i.faults) (o o' : Output) where
  -- what is due couldn't be said
  unsaid : (e : End) (text : List ℕ) → text ≡ due v y → Says (Some e) text o o'
      → EndsBy e v read y look (outside i o) (outside j o')
  unsaid end.WriteFault text is s = record { is = tt; tells = (said_front o.told o'.told text (due v y) is s.0, calm, s.1) }
  unsaid end.OutOfMemory text is s = record { is = tt; tells = (said_front o.told o'.told text (due v y) is s.0, calm, s.1) }
  unsaid end.Marks text is s = absurd s
  unsaid end.Farewell text is s = absurd s
  unsaid end.Closed text is s = absurd s
  unsaid (end.Refused at) text is s = absurd s
  unsaid end.ReadFault text is s = absurd s

  -- all that is due was said
  said : (asked : Option End) (text : List ℕ) → Asks asked v y.after look → not_memory asked → text ≡ y.text → with_leave asked text ≡ due v y
      → Says None (with_leave asked text) o o' → Turns asked v read y look (outside i o) (outside j o')
  said None text g n is whole s = record { goes_on = g; told = said_whole o.told o'.told text y.text is s.0; reads = calm; writes = s.1 }
  said (Some end.Marks) text g n is whole s =
      record { is = g; tells = (said_whole o.told o'.told (text ++ leave) (due v y) whole s.0, no_other v y 0 g.status_is is_0, calm, s.1) }
  said (Some end.Farewell) text g n is whole s =
      record { is = g; tells = (said_whole o.told o'.told text (due v y) whole s.0, no_other v y 36 g.status_is is_36, calm, s.1) }
  said (Some (end.Refused at)) text g n is whole s =
      record { is = g; tells = (said_whole o.told o'.told text (due v y) whole s.0, no_other v y 3 g.0 is_3, calm, s.1) }
  said (Some end.Closed) text g n is whole s = absurd g
  said (Some end.ReadFault) text g n is whole s = absurd g
  said (Some end.WriteFault) text g n is whole s = absurd g
  said (Some end.OutOfMemory) text g n is whole s = absurd n

  says_then : (asked answer : Option End) (text : List ℕ) → Asks asked v y.after look → not_memory asked → text ≡ y.text → SaysThen asked answer (with_leave asked text) o o'
      → Turns answer v read y look (outside i o) (outside j o')
  says_then asked answer text g n is s = by s.said s.says s.answer_is
    where
      whole : with_leave asked text ≡ due v y
      whole = due_is v y look asked text g n is

      by : (w : Option End) → Says w (with_leave asked text) o o' → answer ≡ first_end w asked
          → Turns answer v read y look (outside i o) (outside j o')
      by None says e = subst (λ a. Turns a v read y look (outside i o) (outside j o')) (sym e) (said asked text g n is whole says)
      by (Some f) says e = subst (λ a. Turns a v read y look (outside i o) (outside j o')) (sym e)
          (unsaid f (with_leave asked text) whole says)

  -- no memory was left for what was read
  pub spent_turns : (answer : Option End) → answer ≡ Some end.OutOfMemory → o' ≡ o
      → Turns answer v read y look (outside i o) (outside j o')
  spent_turns answer e same = subst (λ a. Turns a v read y look (outside i o) (outside j o')) (sym e)
      (record { is = tt; tells = (subst (λ (t : Output). WritesFront o.told t.told (due v y)) (sym same) (nothing o.told (due v y)), calm, ap (λ (t : Output). t.faults) same) })

  -- what was asked behind a read, and what was said then
  pub turns_by : (asked answer : Option End) (text : List ℕ) → Asks asked v y.after look → text ≡ y.text → SaysDue asked answer text o o'
      → Turns answer v read y look (outside i o) (outside j o')
  turns_by None answer text g is s = says_then None answer text g tt is s
  turns_by (Some end.Marks) answer text g is s = says_then (Some end.Marks) answer text g tt is s
  turns_by (Some end.Farewell) answer text g is s = says_then (Some end.Farewell) answer text g tt is s
  turns_by (Some (end.Refused at)) answer text g is s = says_then (Some (end.Refused at)) answer text g tt is s
  turns_by (Some end.OutOfMemory) answer text g is s = spent_turns answer s.0 s.1
  turns_by (Some end.Closed) answer text g is s = absurd g
  turns_by (Some end.ReadFault) answer text g is s = absurd g
  turns_by (Some end.WriteFault) answer text g is s = absurd g

  -- what was made of a read, and what was said behind it
  pub hears : (fed : Result (Unit {0}) LookFault) (asked answer : Option End) (texts : List ℕ → List ℕ) (cleared text : List ℕ) → cleared ≡ [] → texts read ≡ y.text
      → FeedsText fed texts read cleared text → Asks asked v y.after look → (fed ≡ Err fault.OutOfMemory → asked ≡ Some end.OutOfMemory)
      → SaysDue asked answer text o o' → Turns answer v read y look (outside i o) (outside j o')
  hears (Ok done) asked answer texts cleared text none same f g memory s =
      turns_by asked answer text g (f ∙ ap (λ (l : List ℕ). l ++ texts read) none ∙ same) s
  hears (Err (fault.Refused at)) asked answer texts cleared text none same f g memory s =
      turns_by asked answer text g (f ∙ ap (λ (l : List ℕ). l ++ texts read) none ∙ same) s
  hears (Err fault.OutOfMemory) asked answer texts cleared text none same f g memory s =
      let spent = subst (λ (a : Option End). SaysDue a answer text o o') (memory refl) s in
      spent_turns answer spent.0 spent.1

-- there was no memory for the ultimatum
pub unleft : (asked : Option End) (text : List ℕ) (o : Output) → asked ≡ Some end.Marks → SaysDue asked (Some end.OutOfMemory) text o o
unleft asked text o is = subst (λ (a : Option End). SaysDue a (Some end.OutOfMemory) text o o) (sym is)
    (record { said = Some end.OutOfMemory; says = (nothing o.told (text ++ leave), refl); answer_is = refl })
