use Rattle.std.proofs.Common.{◌+◌, ◌++◌, ℕ, List, drop, map, sym, ◌∙◌, ap}
use Rattle.std.specs.Borrow.{Bor}
use Rattle.std.specs.Option.{option_map}
use Rattle.session_rules.specs.Journal.{Row}
use Rattle.session_core.specs.Heads.{rows_of}
use Rattle.host_program.specs.Serving.{row_in, guest_rows}
use Rattle.script_run.proofs.Inviting.{rows_push}
use Rattle.host_program.proofs.Rowed.{rows_more, rows_from}
use Rattle.host_program.proofs.guests.all_rows.Goals as goal

pub loop-word-preserved : goal.loop-word-preserved
loop-word-preserved c =
    let rows = rows_of c.loop-word.rows.items in
    let row = row_in c.in-Some.row in
    let left = guest_rows (map (λ (s : Bor (List ℕ)). s.now) (drop (c.loop-word.word-index + 1) c.args.guests.now)) in
    let from = rows_from c.args.guests.now c.loop-word.word-index _ c.as_bytes.result.now row c.loop-word-test.true c.as_bytes.ensures.value c.in-Some.ensures in
    record {
      rows = ap (λ items. option_map (λ (more : List Row). rows_of items ++ more) left) c.in_ok-push-in-Some.ensures.items
          ∙ ap (λ (so_far : List Row). option_map (λ more. so_far ++ more) left) (rows_push c.loop-word.rows.items c.in-Some.row)
          ∙ rows_more rows row left
          ∙ ap (option_map (λ more. rows ++ more)) (sym from)
          ∙ c.loop-word.invariant.rows;
    }
