use Rattle.std.proofs.Common.{◌≡◌, ◌≤◌, length, take}
use Rattle.std.specs.Str.{IsAscii}
use Rattle.info_lic.specs.ClientInfo.{utf16_units, named_by}
use Rattle.info_lic.proofs.Names.{behind}
use Rattle.info_lic.proofs.client_info.wide_name.Given as goal

-- the characters so far are ASCII, and with the code units that are left they write the same name
abbrev pub invariant-loop-left : goal.invariant-loop-left
invariant-loop-left l = record {
  size : length l.name ≡ 64;
  few : l.count ≤ 64;
  ascii : IsAscii (take l.count l.name);
  same : behind (take l.count l.name) l.left ≡ named_by (utf16_units l.fn.text);
}

abbrev pub decreases-loop-left : goal.decreases-loop-left
decreases-loop-left l = length l.left
