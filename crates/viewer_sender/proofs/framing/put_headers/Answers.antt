use Rattle.std.proofs.Common.{◌∙◌, length, sym, ap}
use Rattle.std.proofs.lemmas.List.{length-take-le}
use Rattle.viewer_sender.proofs.framing.put_headers.Goals as goal

pub copy_from_slice-requires : goal.copy_from_slice-requires
copy_from_slice-requires c = let h = c.requires.room in length-take-le 18 c.args.user.now h ∙ sym (ap length c.data_headers-headers.ensures)
