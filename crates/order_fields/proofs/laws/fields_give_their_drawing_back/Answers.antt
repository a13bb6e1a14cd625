use Rattle.order_fields.proofs.Named.{named_again, shown_again, black_fill, red_fill, wired, any_third}
use Rattle.order_fields.proofs.laws.fields_give_their_drawing_back.Goals as goal

pub returns : goal.returns
returns c = record { shown = shown_again; same = named_again; black = black_fill; red = red_fill; low_byte_first = wired; any_third = any_third }
