use Rattle.std.proofs.Common.{◌≡◌, rules, length, subst, ℕ}
use Rattle.order_fields.specs.OrderTable.{field_list, IsFieldList, pat_blt, mem3_blt, glyph_index}
use Rattle.order_fields.proofs.Rows.{fit_length}
use Rattle.order_fields.proofs.lasts.Lasts.keep.Goals as goal

pub put-requires-in-1 : goal.put-requires-in-1
put-requires-in-1 c =
    let at = λ (k : ℕ). IsFieldList (field_list k c.args.values.now c.args.bytes.now) in
    let fits = subst at c.in-1.is c.requires.fits in
    let n : length c.args.values.now ≡ 12 = fit_length pat_blt.kinds c.args.values.now fits.numbers in
    search (rules, n)

pub put-requires-in-14 : goal.put-requires-in-14
put-requires-in-14 c =
    let at = λ (k : ℕ). IsFieldList (field_list k c.args.values.now c.args.bytes.now) in
    let fits = subst at c.in-14.is c.requires.fits in
    let n : length c.args.values.now ≡ 16 = fit_length mem3_blt.kinds c.args.values.now fits.numbers in
    search (rules, n)

pub put-requires-in-27 : goal.put-requires-in-27
put-requires-in-27 c =
    let at = λ (k : ℕ). IsFieldList (field_list k c.args.values.now c.args.bytes.now) in
    let fits = subst at c.in-27.is c.requires.fits in
    let n : length c.args.values.now ≡ 21 = fit_length glyph_index.kinds c.args.values.now fits.numbers in
    search (rules, n)
