use Rattle.std.proofs.Common.{◌∙◌, ◌++◌, ◌/◌, ap}
use Rattle.byteorder.specs.Endian.{little_bytes}
use Rattle.frame_rules.specs.Pointers.{pointer_color, colors_up, masks_up}
use Rattle.pointer_share.specs.Parts.{rows_in}
use Rattle.pointer_share.proofs.Written.{shape_whole}
use Rattle.pointer_share.proofs.packet.shape_packet.Goals as goal

pub returns : goal.returns
returns c = shape_whole c.args.wide c.args.index c.args.key c.shape_size-size.result _ _ _ _ _ c.new-out.ensures.items c.in_ok-put_packet_headers.ensures.ok c.shape_size-size.ensures.value
    (c.in_ok-extend_from_slice.ensures.items ∙ ap (λ h. c.put_packet_headers.new.out.items ++ h) c.head.ensures)
    (c.in_ok-put_colors.ensures ∙ ap (λ p. c.extend_from_slice.new.self.items ++ colors_up c.args.wide p (rows_in c.rows_of-rows.result)) c.color_of-color.ensures
    ∙ ap (λ r. c.extend_from_slice.new.self.items ++ colors_up c.args.wide (little_bytes 3 (pointer_color (c.args.key / 256))) r) c.rows_of-rows.ensures)
    (c.in_ok-extend_from_slice-2.ensures.items ∙ ap (λ m. c.put_colors.new.out.items ++ m) (c.mask_of.ensures ∙ ap (masks_up c.args.wide) c.rows_of-rows.ensures))
