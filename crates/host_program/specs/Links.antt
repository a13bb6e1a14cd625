-- The lines of the links that were served.
use Rattle.std.specs.Prelude.{ℕ, ◌+◌, List, [], ◌∷◌, ◌++◌, decimal}
use Rattle.serve_rules.specs.declared.ends.ConnEnd.{ConnEnd}
use Rattle.serve_rules.specs.declared.ends.ConnEnd.TheVariants as end
use Rattle.serve_rules.specs.declared.noted.ConnReport.{ConnReport}

-- the code of a connection's end: 20 and the number of a refusal
abbrev pub end_code : ConnEnd → ℕ
end_code end.Left = 0
end_code (end.Refused k at) = 20 + k
end_code end.Truncated = 35
end_code end.NotInvited = 36
end_code end.RoomFull = 37
end_code end.JoinsSpent = 38
end_code end.ReadFault = 4
end_code end.WriteFault = 5
end_code end.NotStored = 8
end_code end.OutOfMemory = 6

-- the place of a refusal, and else 0
abbrev pub end_place : ConnEnd → ℕ
end_place end.Left = 0
end_place (end.Refused k at) = at
end_place end.Truncated = 0
end_place end.NotInvited = 0
end_place end.RoomFull = 0
end_place end.JoinsSpent = 0
end_place end.ReadFault = 0
end_place end.WriteFault = 0
end_place end.NotStored = 0
end_place end.OutOfMemory = 0

-- the line of a link: its number, its viewer's number, the code of its end, and the place of a refusal
abbrev pub link_line : ℕ → ConnReport → List ℕ
link_line number report =
    decimal number ++ 32 ∷ decimal report.viewer ++ 32 ∷ decimal (end_code report.end) ++ 32 ∷ decimal (end_place report.end) ++ 10 ∷ []

-- the lines of links that are numbered from one on
abbrev pub lines_from : ℕ → List ConnReport → List ℕ
lines_from number [] = []
lines_from number (report ∷ reports) = link_line number report ++ lines_from (number + 1) reports

-- the lines of links in their order, the first of which is number 1
abbrev pub served_text : List ConnReport → List ℕ
served_text reports = lines_from 1 reports
