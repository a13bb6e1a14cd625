use Rattle.std.proofs.Common.{◌∙◌, refl, ap, sym}
use Rattle.std.specs.Option.{option_copied}
use Rattle.line_text.specs.Words.{parts_left}
use Rattle.script_rules.specs.Capture.{capture_line}
use Rattle.capture_show.specs.Lines.{nobody_line}
use Rattle.capture_show.proofs.Lines.{of_viewer_is, of_nobody_is}
use Rattle.capture_show.proofs.said.read_said.Goals as goal

pub returns-in-Some : goal.returns-in-Some
returns-in-Some c =
    let word = c.first_word.result.0.now in
    let words = parts_left 32 (option_copied c.first_word.result.1) in
    rw (c.first_word.ensures, of_viewer_is word words c.in-Some.viewer (sym c.read_viewer.ensures ∙ c.in-Some.is)) c.read_behind.ensures

pub returns-in-None : goal.returns-in-None
returns-in-None c =
    let word = c.first_word.result.0.now in
    let words = parts_left 32 (option_copied c.first_word.result.1) in
    let bytes = c.args.bytes.now.items in
    record {
      given = bytes;
      says = ap capture_line c.first_word.ensures ∙ of_nobody_is word words (sym c.read_viewer.ensures ∙ c.in-None.is) ∙ ap nobody_line (sym c.first_word.ensures)
          ∙ c.read_nobody.ensures bytes;
      theirs = λ e. refl;
    }
