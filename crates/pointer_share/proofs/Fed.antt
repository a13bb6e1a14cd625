-- A packet that is fed to a view.
use Rattle.std.proofs.Common.{◌≡◌, ◌≤◌, ◌-◌, ℕ, List, ◌++◌, length, take, drop, refl, ap, sym, subst, ◌∙◌, arith, true, false}
use Rattle.std.specs.Prelude.{Ok, Err}
use Rattle.std.proofs.lemmas.List.{length-take-le, length-drop}
use Rattle.wire_num.specs.Field.{place_in}
use Rattle.wire_num.specs.Caused.{Caused, map_caused, before_caused}
use Rattle.wire_num.specs.Cursor.{CursorOf, rest}
use Rattle.wire_num.proofs.Caused.{map_ok, map_err}
use Rattle.wire_num.proofs.Content.{rest_of_content}
use Rattle.draw_ops.specs.Slots.{Slots, lookup, filled_slot}
use Rattle.pointer_share.specs.declared.fault.Cause.{Cause}
use Rattle.pointer_share.specs.declared.message.Sent.{Sent}
use Rattle.pointer_share.specs.Messages.{Message}
use Rattle.pointer_share.specs.Messages.Message.{Brings, Points}
use Rattle.order_means.specs.PointerPackets.{pointer_content}
use Rattle.update_read.specs.PacketParts.{IsContent}
use Rattle.pointer_share.specs.Views.{View, view_after_message, message_in, view_by, pointed, view_in, view_fed}
use Rattle.pointer_share.specs.Outlines.{outline, ViewOf, HasView, sent_in, sent_of, kept_after, Feeds}
use Rattle.pointer_share.proofs.Outlined.{lookup_outline, filled_outline, in_is}

kept_view : (o : ViewOf) (v : View) (m : Message) → HasView o v → HasView (kept_after o (sent_of o.wide m)) (view_after_message v m)
kept_view o v (Brings index s) h = record { cells = ap (filled_slot index (outline o.wide s)) h.cells ∙ filled_outline o.wide v.cells index s; shown = refl }
kept_view o v (Points index) h = record { cells = h.cells; shown = ap (lookup index) h.cells ∙ lookup_outline o.wide v.cells index }

message_as : (o : ViewOf) (v : View) (bs : List ℕ) → HasView o v → map_caused (sent_of o.wide) (message_in o.wide v.cells bs) ≡ sent_in o.wide o.cells bs
message_as o v bs h = sym (ap (λ (cs : Slots (ℕ × ℕ)). sent_in o.wide cs bs) h.cells ∙ in_is o.wide v.cells bs)

-- a message is obeyed
pub obeyed : (o : ViewOf) (v : View) (packet content after left : List ℕ) (sent : Sent) → HasView o v → pointer_content packet ≡ Ok (content, after) → sent_in o.wide o.cells content ≡ Ok (sent, left)
    → Feeds o.wide v packet (Ok true) (kept_after o sent)
obeyed o v packet content after left sent h found read =
    let m = map_ok (sent_of o.wide) (message_in o.wide v.cells content) (sent, left) (message_as o v content h ∙ read) in (
      view_after_message v m.0.0,
      ap (view_in o.wide v packet) found ∙ ap (λ (r : Caused Cause Message). pointed (view_by v packet (before_caused after r))) m.1,
      subst (λ (s : Sent). HasView (kept_after o s) (view_after_message v m.0.0)) m.2 (kept_view o v m.0.0 h),
    )

-- one is refused
pub refused : (o : ViewOf) (v : View) (packet content after left : List ℕ) (cause : Cause) → HasView o v → pointer_content packet ≡ Ok (content, after) → sent_in o.wide o.cells content ≡ Err (cause, left)
    → view_fed o.wide v packet ≡ Err (cause, place_in packet (left ++ after))
refused o v packet content after left cause h found read =
    ap (view_in o.wide v packet) found
    ∙ ap (λ (r : Caused Cause Message). pointed (view_by v packet (before_caused after r))) (map_err (sent_of o.wide) (message_in o.wide v.cells content) (cause, left) (message_as o v content h ∙ read))

-- the place in the packet
pub refused_at : (o : ViewOf) (v : View) (packet : List ℕ) (cause : Cause) (content inner : CursorOf) → HasView o v → IsContent packet (pointer_content packet) content → inner.bytes ≡ content.bytes → inner.at ≤ length inner.bytes
    → sent_in o.wide o.cells (rest content) ≡ Err (cause, rest inner) → view_fed o.wide v packet ≡ Err (cause, inner.at)
refused_at o v packet cause content inner h is same within read =
    let end = is.end in
    let fits = is.inside in
    let bytes : inner.bytes ≡ take end packet = same ∙ is.bytes in
    let long : length inner.bytes ≡ length (take end packet) = ap length bytes in
    let size = length-take-le end packet fits in
    let low : inner.at ≤ end = omega (arith, within, long, size) in
    let all : rest inner ++ drop end packet ≡ drop inner.at packet = ap (λ (bs : List ℕ). drop inner.at bs ++ drop end packet) bytes ∙ rest_of_content inner.at end packet low fits in
    let left = length-drop inner.at packet in
    let place : length packet - length (drop inner.at packet) ≡ inner.at = omega (arith, left, low, fits) in
    refused o v packet (rest content) (drop end packet) (rest inner) cause h is.stands read
    ∙ ap (λ (bs : List ℕ). Err (cause, length packet - length bs)) all ∙ ap (λ (n : ℕ). Err (cause, n)) place

-- another packet
pub passed : (o : ViewOf) (v : View) (packet left : List ℕ) → HasView o v → pointer_content packet ≡ Err left → Feeds o.wide v packet (Ok false) o
passed o v packet left h e = (v, ap (view_in o.wide v packet) e, h)
