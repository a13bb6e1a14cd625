use Rattle.std.proofs.Common.{◌∷◌, ◌∙◌, refl, ap}
use Rattle.std.specs.Option.{option_copied}
use Rattle.line_text.specs.Words.{parts_left}
use Rattle.script_rules.specs.Capture.{viewer_line}
use Rattle.capture_show.proofs.said.read_of_viewer.Goals as goal

pub returns-in-None : goal.returns-in-None
returns-in-None c = rw (c.first_word.ensures, c.in-None.is) c.read_alone.ensures

pub returns-in-Some : goal.returns-in-Some
returns-in-Some c =
    let bytes = c.args.bytes.now.items in
    record {
      given = bytes;
      says = ap (viewer_line c.args.viewer) c.first_word.ensures
          ∙ ap (λ b. viewer_line c.args.viewer (c.first_word.result.0.now ∷ parts_left 32 (option_copied b))) c.in-Some.is
          ∙ c.read_several.ensures bytes;
      theirs = λ e. refl;
    }
