use Rattle.headline.proofs.Packed.{packed_where, as_packed, as_they_are}
use Rattle.headline.proofs.orders.pixels_go_packed_where_that_is_shorter.Goals as goal

pub returns : goal.returns
returns k = record {
  packed = λ depth no_header w pixels. packed_where depth w pixels no_header;
  as_packed = λ depth no_header w pixels. as_packed depth w pixels no_header;
  as_they_are = λ depth no_header w pixels. as_they_are depth w pixels no_header;
}
