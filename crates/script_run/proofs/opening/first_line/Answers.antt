use Rattle.std.proofs.Common.{refl}
use Rattle.script_run.specs.Reading.{moment}
use Rattle.script_run.proofs.FirstLine.{found_opens, none_opens, failed_opens}
use Rattle.script_run.proofs.opening.first_line.Goals as goal

pub returns-in-Line-clause-opens : goal.returns-in-Line-clause-opens
returns-in-Line-clause-opens g c = λ made told laws. found_opens made laws c.next_line.result c.in-Line.ended c.size_of_line.result c.sized.result c.text.result.now
    (moment c.args.reader.now (g.S.Source.left c.args.input.now) told) (moment c.next_line.new.self (g.S.Source.left c.next_line.new.input) told)
    c.in-Line.is c.next_line.ensures.found c.requires c.text.ensures c.size_of_line.ensures.form c.size_of_line.ensures.range c.sized.ensures refl

pub returns-in-PastLimits-clause-opens : goal.returns-in-PastLimits-clause-opens
returns-in-PastLimits-clause-opens g c = λ made told laws. none_opens made laws c.next_line.result
    (moment c.args.reader.now (g.S.Source.left c.args.input.now) told) (moment c.next_line.new.self (g.S.Source.left c.next_line.new.input) told)
    c.next_line.ensures.found c.requires c.in-PastLimits.is

pub returns-in-Failed-clause-opens : goal.returns-in-Failed-clause-opens
returns-in-Failed-clause-opens g c = λ made told laws. failed_opens made laws c.next_line.result
    (moment c.args.reader.now (g.S.Source.left c.args.input.now) told) (moment c.next_line.new.self (g.S.Source.left c.next_line.new.input) told)
    c.next_line.ensures.found c.in-Failed.is refl c.next_line.ensures.part
