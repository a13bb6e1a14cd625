use Rattle.std.proofs.Common.{◌≡◌, ◌++◌, List, ℕ, subst}
use Rattle.std.specs.Prelude.{IfOk}
use Rattle.script_rules.specs.Script.{Asked}
use Rattle.demo_run.specs.Numbers.{generator_of}
use Rattle.demo_run.specs.Scene.{joins, beginning}
use Rattle.demo_run.specs.Load.{play_after, steps_from, last_takes}
use Rattle.demo_run.specs.Counts.{demo_line}
use Rattle.demo_run.specs.Sums.{line_of}
use Rattle.demo_run.proofs.Sums.{line_of_all}
use Rattle.demo_run.proofs.line.demo_line.Goals as goal

pub draw_steps-requires : goal.draw_steps-requires
draw_steps-requires c = record { done = beginning; stands = c.in_ok-load_all.ensures joins c.in_ok-demo.ensures }

pub take_all-requires : goal.take_all-requires
take_all-requires c = record {
  done = beginning ++ steps_from (play_after beginning) (generator_of c.args.seed) c.args.steps;
  stands = c.in_ok-draw_steps.ensures beginning (c.in_ok-load_all.ensures joins c.in_ok-demo.ensures);
}

pub returns : goal.returns
returns c =
    let drawn : List Asked = steps_from (play_after beginning) (generator_of c.args.seed) c.args.steps in
    let all = c.in_ok-take_all.ensures (beginning ++ drawn) (c.in_ok-draw_steps.ensures beginning (c.in_ok-load_all.ensures joins c.in_ok-demo.ensures)) in
    let counts = c.count_run.ensures ((beginning ++ drawn) ++ last_takes) all in
    let same : line_of c.count_run.result ≡ demo_line c.args.seed c.args.steps = line_of_all beginning drawn last_takes c.args.steps c.count_run.result counts in
    subst (λ (x : List ℕ). IfOk c.line.result (λ line. line.items ≡ x)) same c.line.ensures
