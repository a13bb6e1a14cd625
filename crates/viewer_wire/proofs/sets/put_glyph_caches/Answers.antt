use Rattle.std.proofs.Common.{ap, sym, ◌∙◌, ◌++◌, List, ℕ, [], ◌∷◌, length, replicate}
use Rattle.byteorder.specs.Endian.{little_bytes}
use Rattle.viewer_rules.specs.ClientPackets.{sizes_bytes}
use Rattle.viewer_wire.proofs.Written.{before, glyphs_are}
use Rattle.viewer_wire.proofs.sets.put_glyph_caches.Goals as goal

pub returns-clause-written : goal.returns-clause-written
returns-clause-written c =
    let start : List ℕ = 16 ∷ 0 ∷ 52 ∷ 0 ∷ [] in
    let sizes : List ℕ = sizes_bytes c.args.c.now.glyphs in
    let pad : List ℕ = replicate 4 0 in
    let level : List ℕ = little_bytes 2 c.args.c.now.glyph_level in
    let end : List ℕ = replicate 2 0 in
    let a = c.extend_from_slice.new.self.items in
    let b = c.put_sizes.new.body.items in
    let d = c.extend_from_slice-2.new.self.items in
    let e = c.extend_from_slice-3.new.self.items in
    let f = c.extend_from_slice-4.new.self.items in
    let read = c.in_ok-put_sizes.ensures ∙ ap (λ xs. a ++ sizes_bytes xs) c.sizes.ensures.value in
    let number = c.in_ok-extend_from_slice-3.ensures.items ∙ ap (λ (xs : List ℕ). d ++ xs) c.to_le_bytes.ensures in
    before c.args.body.now.items start (sizes ++ (pad ++ (level ++ end))) a f c.in_ok-extend_from_slice.ensures.items
    (before a sizes (pad ++ (level ++ end)) b f read (before b pad (level ++ end) d f c.in_ok-extend_from_slice-2.ensures.items (before d level end e f number c.in_ok-extend_from_slice-4.ensures.items)))
    ∙ ap (λ (xs : List ℕ). c.args.body.now.items ++ xs) (glyphs_are c.args.c.now (ap length (sym c.sizes.ensures.value) ∙ c.sizes.ensures.number))

pub returns-clause-number : goal.returns-clause-number
returns-clause-number c = ap length (sym c.sizes.ensures.value) ∙ c.sizes.ensures.number
