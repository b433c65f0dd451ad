use Rattle.std.proofs.Common.{◌≡◌, ◌++◌, codes, negsuc, ap, sym, ◌∙◌, w32}
use Rattle.std.specs.Fmt.{signed_decimal}
use Rattle.std.proofs.lemmas.Int.{to_z-of_z}
use mir.Val.{of_z, to_z}
use Rattle.naga_words.proofs.Writing.{writes_as}
use Rattle.naga_wgsl_shared.specs.Literals.{i32_text}
use Rattle.naga_wgsl_shared.proofs.Literals.{least_integer_row, integer_row}
use Rattle.naga_wgsl_shared.proofs.literal.write_i32.Goals as goal

pub returns-then-value-eqminus2147483648 : goal.returns-then-value-eqminus2147483648
returns-then-value-eqminus2147483648 g c =
    let least : c.args.value ≡ negsuc 2147483647 = sym (to_z-of_z w32 c.args.value c.ranges.value)
    ∙ ap (λ n. to_z w32 n) c.if-value-eqminus2147483648.true in
    writes_as (sym least_integer_row ∙ ap i32_text (sym least)) c.put.ensures

pub returns-else-value-eqminus2147483648 : goal.returns-else-value-eqminus2147483648
returns-else-value-eqminus2147483648 g c =
    let row = integer_row c.args.value (λ is. c.if-value-eqminus2147483648.false (ap (λ z. of_z w32 z) is)) in
    writes_as (ap (λ z. signed_decimal z ++ codes "i") (to_z-of_z w32 c.args.value c.ranges.value) ∙ sym row)
    c.write_number.ensures
