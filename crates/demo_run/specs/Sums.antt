-- What the first viewers were sent, and what their clients read of it, as counts.
use Rattle.std.specs.Prelude.{◌≡◌, ℕ, List, length, sum, decimal, ◌++◌, ◌∷◌, [], codes}
use Rattle.px_core.specs.Picture.{listed}
use Rattle.script_rules.specs.Script.{Asked}
use Rattle.demo_run.specs.Counts.{Counts as Meaning, counts_of, sent_to, takes_of, marks_of, orders_of, tiles_of, kept}
use Rattle.demo_run.specs.declared.counts.Counts.{Counts}
use Rattle.demo_run.specs.declared.counts.Shown.{Shown}
use Rattle.demo_run.specs.declared.watcher.Watcher.{Watcher}

-- over the first viewers
abbrev pub over_first : ℕ → (ℕ → ℕ) → ℕ
over_first n count = sum (listed n 1 count)

pub record AreShown (done : List Asked) (n : ℕ) (s : Shown) : Type 0 where
  pub takes : s.takes ≡ kept (over_first n (takes_of done))
  pub marks : s.marks ≡ kept (over_first n (marks_of done))
  pub orders : s.orders ≡ kept (over_first n (orders_of done))
  pub tiles : s.tiles ≡ kept (over_first n (tiles_of done))
  pub bytes : s.bytes ≡ kept (over_first n (λ v. length (sent_to done v)))

-- the counts in code are those of a run
pub record AreCounts (c : Counts) (m : Meaning) : Type 0 where
  pub steps : c.steps ≡ kept m.steps
  pub entries : c.entries ≡ kept m.entries
  pub takes : c.shown.takes ≡ kept m.takes
  pub marks : c.shown.marks ≡ kept m.marks
  pub orders : c.shown.orders ≡ kept m.orders
  pub tiles : c.shown.tiles ≡ kept m.tiles
  pub bytes : c.shown.bytes ≡ kept m.bytes
  pub refused : c.refused ≡ kept m.refused

-- the line as it is written, count behind count
abbrev pub put : List ℕ → List ℕ → ℕ → List ℕ
put line word n = line ++ (word ++ decimal n)

abbrev pub line_of : Counts → List ℕ
line_of c = put (put (put (put (put (put (put (put [] (codes "steps ") c.steps) (codes " entries ") c.entries) (codes " takes ") c.shown.takes)
    (codes " marks ") c.shown.marks)
    (codes " orders ") c.shown.orders) (codes " tiles ") c.shown.tiles) (codes " bytes ") c.shown.bytes) (codes " refused ") c.refused ++ 10 ∷ []
