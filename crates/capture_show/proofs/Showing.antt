-- What a reading and a writing give together.
use Rattle.std.proofs.Common.{◌≡◌, ◌∙◌, ℕ, zero, suc, ◌+◌, ◌-◌, ◌<◌, Bool, List, [], ◌++◌, Result, Ok, Err, IfErr, refl, subst, sym, ap, append_assoc, add-one, arith}
use Rattle.std.specs.declared.option.Option.{Option}
use Rattle.std.specs.declared.option.Option.TheVariants.{Some, None}
use Rattle.std.specs.Io.KnownBytes.{IsAtEnd, Appends}
use Rattle.std.proofs.KnownBytes.{Appends-nil, Appends-trans, Keeps-refl}
use Rattle.edge_io.specs.Sink.{WritesFront}
use Rattle.capture_show.specs.declared.show_fault.ShowFault.{ShowFault}
use Rattle.capture_show.specs.declared.show_fault.ShowFault.TheVariants.{ReadFault, WriteFault, OutOfMemory}
use Rattle.capture_show.specs.declared.stage.Stage.{Stage}
use Rattle.capture_show.specs.Shown.{Shown, shown, text_of, row_text, rows_text}
use Rattle.capture_show.specs.Stages.{Shows}
use Rattle.capture_show.specs.Answers.{Tells, ShowsCapture, Writes, WritesShown, ReadCause, WriteCause, IsReadFault, IsWriteFault}

-- nothing was written
pub nothing : (told : Option (List ℕ)) (text : List ℕ) → WritesFront told told text
nothing told text = record { front = []; rest = text; whole = refl; written = Appends-nil told }

no_text : (left told : Option (List ℕ)) (v : ℕ) → Tells left (λ capture. WritesFront told told (text_of (shown v capture)))
no_text None told v = tt
no_text (Some capture) told v = nothing told (text_of (shown v capture))

-- a reading failed
pub stops_reading : (f : ShowFault) (v : ℕ) (left rest told : Option (List ℕ)) → IsReadFault f → ShowsCapture (Err f) v left rest told told
stops_reading ReadFault v left rest told is = Keeps-refl told
stops_reading WriteFault v left rest told is = absurd is
stops_reading OutOfMemory v left rest told is = no_text left told v

pub stops_cause : (f : ShowFault) (n : ℕ) → IsReadFault f → WriteCause {T = Bool} (Err f) n n
stops_cause ReadFault n is = refl
stops_cause WriteFault n is = absurd is
stops_cause OutOfMemory n is = refl

pub same_read_cause : (f : ShowFault) (n m : ℕ) → ReadCause {T = Stage} (Err f) n m → ReadCause {T = Bool} (Err f) n m
same_read_cause ReadFault n m is = is
same_read_cause WriteFault n m is = is
same_read_cause OutOfMemory n m is = is

-- what was shown was written
pub shown_whole : (r : Result Bool ShowFault) (s : Stage) (v : ℕ) (left rest told telling : Option (List ℕ)) → IfErr r IsWriteFault →
    ((x : Shown) → Shows s x → WritesShown r x told telling) → Tells left (λ capture. Shows s (shown v capture) × IsAtEnd rest) → ShowsCapture r v left rest told telling
shown_whole (Ok accepted) s v None rest told telling fault writes shows = tt
shown_whole (Ok accepted) s v (Some capture) rest told telling fault writes shows = let w = writes (shown v capture) shows.0 in (w.0, (w.1, shows.1))
shown_whole (Err ReadFault) s v left rest told telling fault writes shows = absurd fault
shown_whole (Err WriteFault) s v None rest told telling fault writes shows = tt
shown_whole (Err WriteFault) s v (Some capture) rest told telling fault writes shows = writes (shown v capture) shows.0
shown_whole (Err OutOfMemory) s v None rest told telling fault writes shows = tt
shown_whole (Err OutOfMemory) s v (Some capture) rest told telling fault writes shows = writes (shown v capture) shows.0

pub reads_same : (r : Result Bool ShowFault) (n m : ℕ) → IfErr r IsWriteFault → m ≡ n → ReadCause r n m
reads_same (Ok accepted) n m fault is = is
reads_same (Err ReadFault) n m fault is = absurd fault
reads_same (Err WriteFault) n m fault is = is
reads_same (Err OutOfMemory) n m fault is = is

-- ---- texts one after the other

pub writes_same : (r : Result (Unit {0}) ShowFault) (text whole : List ℕ) (told telling : Option (List ℕ)) → Writes r text told telling → text ≡ whole → Writes r whole told telling
writes_same r text whole told telling w is = rw is at w

-- a front of the first part, or of the second behind the first, is one of the whole
pub front_extends : (told telling : Option (List ℕ)) (text more : List ℕ) → WritesFront told telling text → WritesFront told telling (text ++ more)
front_extends told telling text more f = record {
  front = f.front;
  rest = f.rest ++ more;
  whole = ap (λ t. t ++ more) f.whole ∙ append_assoc f.front f.rest more;
  written = f.written;
}

pub front_behind : (told mid telling : Option (List ℕ)) (text more : List ℕ) → Appends told mid text → WritesFront mid telling more → WritesFront told telling (text ++ more)
front_behind told mid telling text more w f = record {
  front = text ++ f.front;
  rest = f.rest;
  whole = ap (λ t. text ++ t) f.whole ∙ sym (append_assoc text f.front f.rest);
  written = Appends-trans told mid telling text f.front w f.written;
}

pub writes_behind : (r : Result (Unit {0}) ShowFault) (told mid telling : Option (List ℕ)) (text more : List ℕ) → Appends told mid text → Writes r more mid telling →
    Writes r (text ++ more) told telling
writes_behind (Ok x) told mid telling text more w next = Appends-trans told mid telling text more w next
writes_behind (Err fault) told mid telling text more w next = front_behind told mid telling text more w next

pub cause_behind : (r : Result (Unit {0}) ShowFault) (before mid now : ℕ) → mid ≡ before → WriteCause r mid now → WriteCause r before now
cause_behind r before mid now same cause = rw same at cause

-- ---- rows

-- one row more
pub rows_grow : (w : ℕ) (pixel : ℕ → ℕ → Option ℕ) (y : ℕ) (told mid telling : Option (List ℕ)) → Appends told mid (rows_text w pixel y) →
    Appends mid telling (row_text (λ x. pixel x y) w) → Appends told telling (rows_text w pixel (y + 1))
rows_grow w pixel y told mid telling rows row = subst (λ n. Appends told telling (rows_text w pixel n)) (sym (add-one y))
    (Appends-trans told mid telling (rows_text w pixel y) (row_text (λ x. pixel x y) w) rows row)

-- a front of the first rows is one of more rows
more_rows : (w : ℕ) (pixel : ℕ → ℕ → Option ℕ) (m n : ℕ) (told telling : Option (List ℕ)) → WritesFront told telling (rows_text w pixel m) → WritesFront told telling (rows_text w pixel (m + n))
more_rows w pixel m zero told telling f = let e : m ≡ m + 0 = omega arith in subst (λ k. WritesFront told telling (rows_text w pixel k)) e f
more_rows w pixel m (suc n) told telling f = let e : suc (m + n) ≡ m + suc n = omega arith in subst (λ k. WritesFront told telling (rows_text w pixel k)) e
    (front_extends told telling (rows_text w pixel (m + n)) (row_text (λ x. pixel x (m + n)) w) (more_rows w pixel m n told telling f))

-- a front of a row, behind the rows before it, is one of the whole
pub rows_stop : (w : ℕ) (pixel : ℕ → ℕ → Option ℕ) (y h : ℕ) (told mid telling : Option (List ℕ)) → y < h → Appends told mid (rows_text w pixel y) →
    WritesFront mid telling (row_text (λ x. pixel x y) w) → WritesFront told telling (rows_text w pixel h)
rows_stop w pixel y h told mid telling less rows row = let e : suc y + (h - suc y) ≡ h = omega (arith, less) in
    subst (λ n. WritesFront told telling (rows_text w pixel n)) e
    (more_rows w pixel (suc y) (h - suc y) told telling (front_behind told mid telling (rows_text w pixel y) (row_text (λ x. pixel x y) w) rows row))
