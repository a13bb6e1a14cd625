use Rattle.headline.proofs.SentOnce.{sent_once_or_not, sent_drawn, sent_end, frame_drawn, frame_ends, whole_drawn}
use Rattle.headline.proofs.orders.each_sent_drawing_goes_as_one_order.Goals as goal

pub returns : goal.returns
returns k = record {
  walk = sent_once_or_not;
  orders = λ size c w ps uses. sent_drawn c size w ps uses;
  caches = λ size c w ps uses. sent_end c size w ps uses;
  frame = λ size c first held asked picture ps uses. frame_drawn c size first held asked picture ps uses;
  frame_caches = λ size c first held asked picture ps uses. frame_ends c size first held asked picture ps uses;
  whole = λ size c uses f. whole_drawn c size uses f;
}
