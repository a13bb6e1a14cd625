-- How updates came, and the data of those of the fast path.
use Rattle.std.specs.Prelude.{ℕ, List, Option, Some, None}
use Rattle.wire_num.specs.Field.{Read, then_read, map_read, bytes_at}
use Rattle.wire_num.specs.Number.{little_at}
use Rattle.order_means.specs.Updates.{BodyForm as Form}
use Rattle.order_means.specs.Updates.BodyForm.{Slow, FastOrders, FastBitmap, FastSynchronize}
use Rattle.update_read.specs.declared.form.BodyForm.{BodyForm}
use Rattle.update_read.specs.declared.form.BodyForm.TheVariants as form

abbrev pub told_form : BodyForm → Form
told_form form.Slow = Slow
told_form form.FastOrders = FastOrders
told_form form.FastBitmap = FastBitmap
told_form form.FastSynchronize = FastSynchronize

abbrev pub told_forms : Option BodyForm → Option Form
told_forms None = None
told_forms (Some f) = Some (told_form f)

-- size 2, and so many bytes of data
abbrev pub data_at : Form → List ℕ → Read (Form × List ℕ)
data_at form bs = then_read (little_at 2 bs) (λ n a. map_read (λ data_. (form, data_)) (bytes_at n a))
