-- ClientReading two pieces of a stream one after the other is reading them joined.
use Rattle.std.proofs.Common.{◌≡◌, ℕ, Bool, ◌+◌, List, [], ◌∷◌, ◌++◌, refl, ap, sym, ◌∙◌, append_assoc}
use Rattle.std.specs.Prelude.{Ok, Err, Result}
use Rattle.px_core.specs.declared.surface.Size.{Size}
use Rattle.caps_sets.specs.declared.confirmed.Confirmed.{Confirmed}
use Rattle.caps_sets.specs.Confirmed.{takes_fast}
use Rattle.wire_num.specs.Field.{bind}
use Rattle.order_means.specs.Updates.{Body, Stage, Cutting, cutting, Updates, updates, updates_by, before_updates, updates_from, refusal_in}
use Rattle.order_means.specs.Updates.Stage.{Between, One, Two, Three, Inside, Fast, FastLong, FastInside, Refused}
use Rattle.order_means.specs.FrameMarks.{View, ClientReading, reading, refused, unless_refused_at, view_after_body, view_after_bodies, reading_after, read_on}

bind_bind : {A B C E : Type 0} (r : Result A E) (f : A → Result B E) (g : B → Result C E) → bind (bind r f) g ≡ bind r (λ a. bind (f a) g)
bind_bind (Ok a) f g = refl
bind_bind (Err e) f g = refl

bind_ap : {A B E : Type 0} {f g : A → Result B E} (r : Result A E) → ((a : A) → f a ≡ g a) → bind r f ≡ bind r g
bind_ap (Ok a) h = h a
bind_ap (Err e) h = refl

-- ---- cutting

before_both : (a b : List Body) (u : Updates) → before_updates a (before_updates b u) ≡ before_updates (a ++ b) u
before_both a b u = ap (λ xs. updates xs u.next) (sym (append_assoc a b u.bodies))

-- the updates of two pieces are those of the first and then those of the second
pub cut_joined : (fast : Bool) (c : Cutting) (xs ys : List ℕ) → updates_from fast c (xs ++ ys) ≡ before_updates (updates_from fast c xs).bodies (updates_from fast (updates_from fast c xs).next ys)
cut_joined fast c [] ys = refl
cut_joined fast c (x ∷ xs) ys =
    let first = updates_by fast c.place c.stage x in
    let more = updates_from fast first.next xs in
    ap (before_updates first.bodies) (cut_joined fast first.next xs ys) ∙ before_both first.bodies more.bodies (updates_from fast more.next ys)

-- ---- reading

bodies_joined : (confirmed : Confirmed) (size : Size) (v : View) (xs ys : List Body) → view_after_bodies confirmed size v (xs ++ ys) ≡ bind (view_after_bodies confirmed size v xs) (λ w. view_after_bodies confirmed size w ys)
bodies_joined confirmed size v [] ys = refl
bodies_joined confirmed size v (x ∷ xs) ys =
    let first = view_after_body confirmed size v x in
    bind_ap first (λ w. bodies_joined confirmed size w xs ys) ∙ sym (bind_bind first (λ w. view_after_bodies confirmed size w xs) (λ w. view_after_bodies confirmed size w ys))

-- a refused stream stays refused
stays_refused : (confirmed : Confirmed) (size : Size) (v : View) (at place : ℕ) (ys : List ℕ) → reading_after confirmed size v (updates_from (takes_fast confirmed) (cutting at (Refused place)) ys) ≡ refused place
stays_refused confirmed size v at place [] = refl
stays_refused confirmed size v at place (y ∷ ys) = stays_refused confirmed size v (at + 1) place ys

second_piece : (confirmed : Confirmed) (size : Size) (v : View) (at : ℕ) (stage : Stage) (ys : List ℕ) →
    reading_after confirmed size v (updates_from (takes_fast confirmed) (cutting at stage) ys) ≡ bind (unless_refused_at (refusal_in stage) (reading v (cutting at stage))) (λ r. read_on confirmed size r ys)
second_piece confirmed size v at Between ys = refl
second_piece confirmed size v at One ys = refl
second_piece confirmed size v at (Two second) ys = refl
second_piece confirmed size v at (Three second high) ys = refl
second_piece confirmed size v at (Inside missing second high low front) ys = refl
second_piece confirmed size v at Fast ys = refl
second_piece confirmed size v at (FastLong high) ys = refl
second_piece confirmed size v at (FastInside missing head front) ys = refl
second_piece confirmed size v at (Refused place) ys = stays_refused confirmed size v at place ys

-- whatever the pieces
pub read_joined : (confirmed : Confirmed) (size : Size) (r : ClientReading) (xs ys : List ℕ) → read_on confirmed size r (xs ++ ys) ≡ bind (read_on confirmed size r xs) (λ s. read_on confirmed size s ys)
read_joined confirmed size r xs ys =
    let a = updates_from (takes_fast confirmed) r.cut xs in
    let b = updates_from (takes_fast confirmed) a.next ys in
    let go = λ (w : View). unless_refused_at (refusal_in b.next.stage) (reading w b.next) in
    ap (reading_after confirmed size r.view) (cut_joined (takes_fast confirmed) r.cut xs ys)
    ∙ ap (λ x. bind x go) (bodies_joined confirmed size r.view a.bodies b.bodies)
    ∙ bind_bind (view_after_bodies confirmed size r.view a.bodies) (λ w. view_after_bodies confirmed size w b.bodies) go
    ∙ bind_ap (view_after_bodies confirmed size r.view a.bodies) (λ w. second_piece confirmed size w a.next.place a.next.stage ys)
    ∙ sym (bind_bind (view_after_bodies confirmed size r.view a.bodies) (λ w. unless_refused_at (refusal_in a.next.stage) (reading w a.next)) (λ s. read_on confirmed size s ys))
