-- The counts of a run, viewer by viewer, and their line.
use Rattle.std.proofs.Common.{◌≡◌, ℕ, ◌+◌, ◌≤◌, List, [], ◌∷◌, ◌++◌, length, refl, ap, sym, ◌∙◌, arith, append_assoc}
use Rattle.std.specs.Prelude.{sum, decimal, codes, Result, Ok}
use Rattle.std.proofs.lemmas.List.Sums.{sum_by-append}
use Rattle.px_core.specs.Picture.{listed}
use Rattle.order_means.specs.FrameMarks.{View, ClientReading, Refusal}
use Rattle.client_view.specs.Clients.{IsReading}
use Rattle.script_rules.specs.Script.{Asked}
use Rattle.demo_run.specs.Counts.{Counts as Meaning, counts_of, read_by, counted_in, sent_to, takes_of, marks_of, orders_of, tiles_of, kept, line_of as meant_line}
use Rattle.demo_run.specs.declared.watcher.Watcher.{Watcher}
use Rattle.demo_run.specs.declared.counts.Counts.{Counts}
use Rattle.demo_run.specs.declared.counts.Shown.{Shown}
use Rattle.demo_run.specs.Standing.{Watches}
use Rattle.demo_run.specs.Sums.{over_first, AreShown, AreCounts, line_of}
use Rattle.demo_run.proofs.Scenes.{listed_more}
use Rattle.demo_run.proofs.Frames.{kept_both}

-- ---- one viewer more

sum_more : (f : ℕ → ℕ) (n : ℕ) → over_first n f + f (n + 1) ≡ over_first (n + 1) f
sum_more f n =
    let e : n + 1 ≡ 1 + n = omega arith in
    let one : sum (f (1 + n) ∷ []) ≡ f (1 + n) = omega arith in
    ap (λ k. over_first n f + f k) e
    ∙ (ap (λ k. over_first n f + k) (sym one)
    ∙ (sym (sum_by-append (λ x. x) (listed n 1 f) (f (1 + n) ∷ [])) ∙ ap sum (sym (listed_more f n 1))))

count_more : (f : ℕ → ℕ) (n : ℕ) (old one new : ℕ) → old ≡ kept (over_first n f) → one ≡ kept (f (n + 1)) → new ≡ kept (old + one) → new ≡ kept (over_first (n + 1) f)
count_more f n old one new a b c =
    c ∙ (ap (λ x. kept (x + one)) a ∙ (ap (λ x. kept (kept (over_first n f) + x)) b ∙ (kept_both (over_first n f) (f (n + 1)) ∙ ap kept (sum_more f n))))

-- what a client counts is what its reading shows
shown_count : (done : List Asked) (v : ℕ) (w : Watcher) (count : View → ℕ) (n : ℕ) → Watches done v w → ((r : ClientReading) → IsReading r w.client → n ≡ kept (count r.view))
    → n ≡ kept (counted_in (read_by done v) count)
shown_count done v w count n h is = is h.reading h.client ∙ ap (λ x. kept (counted_in x count)) (sym h.read)

-- what a watcher adds to the counts of the viewers before it
pub record Adds (old new : Shown) (w : Watcher) : Type 0 where
  pub marks : ℕ
  pub orders : ℕ
  pub tiles : ℕ
  pub marks_are : (r : ClientReading) → IsReading r w.client → marks ≡ kept (length r.view.pictures)
  pub orders_are : (r : ClientReading) → IsReading r w.client → orders ≡ kept r.view.orders
  pub tiles_are : (r : ClientReading) → IsReading r w.client → tiles ≡ kept r.view.tiles
  pub takes_added : new.takes ≡ kept (old.takes + w.takes)
  pub marks_added : new.marks ≡ kept (old.marks + marks)
  pub orders_added : new.orders ≡ kept (old.orders + orders)
  pub tiles_added : new.tiles ≡ kept (old.tiles + tiles)
  pub bytes_added : new.bytes ≡ kept (old.bytes + w.bytes)

pub shown_more : (done : List Asked) (n : ℕ) (old new : Shown) (w : Watcher) → AreShown done n old → Watches done (n + 1) w → Adds old new w → AreShown done (n + 1) new
shown_more done n old new w s h a = record {
  takes = count_more (takes_of done) n old.takes w.takes new.takes s.takes h.takes a.takes_added;
  marks = count_more (marks_of done) n old.marks a.marks new.marks s.marks (shown_count done (n + 1) w (λ view. length view.pictures) a.marks h a.marks_are) a.marks_added;
  orders = count_more (orders_of done) n old.orders a.orders new.orders s.orders (shown_count done (n + 1) w (λ view. view.orders) a.orders h a.orders_are) a.orders_added;
  tiles = count_more (tiles_of done) n old.tiles a.tiles new.tiles s.tiles (shown_count done (n + 1) w (λ view. view.tiles) a.tiles h a.tiles_are) a.tiles_added;
  bytes = count_more (λ v. length (sent_to done v)) n old.bytes w.bytes new.bytes s.bytes h.bytes a.bytes_added;
}

pub nothing_shown : (done : List Asked) → AreShown done 0 (record { takes = 0; marks = 0; orders = 0; tiles = 0; bytes = 0 })
nothing_shown done = record { takes = omega arith; marks = omega arith; orders = omega arith; tiles = omega arith; bytes = omega arith }

-- ---- the line

eight : (a b c d e f g h end : List ℕ) → (((((((a ++ b) ++ c) ++ d) ++ e) ++ f) ++ g) ++ h) ++ end ≡ a ++ (b ++ (c ++ (d ++ (e ++ (f ++ (g ++ (h ++ end)))))))
eight a b c d e f g h end =
    append_assoc ((((((a ++ b) ++ c) ++ d) ++ e) ++ f) ++ g) h end
    ∙ (append_assoc (((((a ++ b) ++ c) ++ d) ++ e) ++ f) g (h ++ end)
    ∙ (append_assoc ((((a ++ b) ++ c) ++ d) ++ e) f (g ++ (h ++ end))
    ∙ (append_assoc (((a ++ b) ++ c) ++ d) e (f ++ (g ++ (h ++ end)))
    ∙ (append_assoc ((a ++ b) ++ c) d (e ++ (f ++ (g ++ (h ++ end))))
    ∙ (append_assoc (a ++ b) c (d ++ (e ++ (f ++ (g ++ (h ++ end)))))
    ∙ append_assoc a b (c ++ (d ++ (e ++ (f ++ (g ++ (h ++ end)))))))))))

-- a word and a number
abbrev told : List ℕ → ℕ → List ℕ
told word n = word ++ decimal n

pub line_is : (c : Counts) (m : Meaning) → AreCounts c m → line_of c ≡ meant_line m
line_is c m h =
    rw (h.steps, h.entries, h.takes, h.marks, h.orders, h.tiles, h.bytes, h.refused)
    (eight (told (codes "steps ") (kept m.steps)) (told (codes " entries ") (kept m.entries)) (told (codes " takes ") (kept m.takes)) (told (codes " marks ") (kept m.marks))
    (told (codes " orders ") (kept m.orders)) (told (codes " tiles ") (kept m.tiles)) (told (codes " bytes ") (kept m.bytes)) (told (codes " refused ") (kept m.refused)) (10 ∷ []))

-- the line of all that was asked, part by part
pub line_of_all : (begun drawn last : List Asked) (steps : ℕ) (c : Counts) → AreCounts c (counts_of steps ((begun ++ drawn) ++ last))
    → line_of c ≡ meant_line (counts_of steps (begun ++ (drawn ++ last)))
line_of_all begun drawn last steps c h =
    line_is c (counts_of steps ((begun ++ drawn) ++ last)) h ∙ ap (λ (xs : List Asked). meant_line (counts_of steps xs)) (append_assoc begun drawn last)
