use Rattle.std.proofs.Common.{◌≡◌, ◌<◌, ◌++◌, ◌∙◌, length, take, drop, sym, ap}
use Rattle.std.proofs.lemmas.List.{take_at}
use Rattle.std.proofs.lemmas.List.Elements.{All-from_get_or}
use Rattle.line_text.specs.Hexadecimal.{hexadecimal_text}
use Rattle.script_rules.specs.Capture.{bytes_word}
use Rattle.script_rules.proofs.ReadBack.{bytes_word-text}
use Rattle.capture_show.proofs.Words.{has_bytes, word_has_digits}
use Rattle.capture_show.proofs.digits.read_bytes.Goals as goal

pub returns : goal.returns
returns c =
    let word = c.args.word.now in
    let written = c.write_bytes.new.bytes in
    let room = c.resize.new.self in
    let bytes = take room.len (written ++ drop (length written) room.items) in
    let whole : bytes ≡ written = take_at written (drop (length written) room.items) room.len (c.write_bytes.auto.bytes ∙ c.deref_mut.ensures.len) in
    let text : hexadecimal_text bytes ≡ word = ap hexadecimal_text whole ∙ c.write_bytes.ensures in
    ap bytes_word (sym text) ∙ bytes_word-text bytes (has_bytes bytes word text (word_has_digits word c.requires)) (All-from_get_or (λ b. b < 256) bytes 0
    (λ k below. c.type_inv.out k 0 below))
