use Rattle.std.proofs.Common.{◌≡◌, ◌++◌, codes, negsuc, ap, sym, ◌∙◌, w64}
use Rattle.std.specs.Fmt.{signed_decimal}
use Rattle.std.proofs.lemmas.Int.{to_z-of_z}
use mir.Val.{of_z, to_z}
use Rattle.naga_words.proofs.Writing.{writes_as}
use Rattle.naga_wgsl_shared.specs.Literals.{i64_text}
use Rattle.naga_wgsl_shared.proofs.Literals.{least_long_row, long_row}
use Rattle.naga_wgsl_shared.proofs.literal.write_i64.Goals as goal

pub returns-then-value-eqminus9223372036854775808 : goal.returns-then-value-eqminus9223372036854775808
returns-then-value-eqminus9223372036854775808 g c =
    let least : c.args.value ≡ negsuc 9223372036854775807 = sym (to_z-of_z w64 c.args.value c.ranges.value)
    ∙ ap (λ n. to_z w64 n) c.if-value-eqminus9223372036854775808.true in
    writes_as (sym least_long_row ∙ ap i64_text (sym least)) c.put.ensures

pub returns-else-value-eqminus9223372036854775808 : goal.returns-else-value-eqminus9223372036854775808
returns-else-value-eqminus9223372036854775808 g c =
    let row = long_row c.args.value (λ is. c.if-value-eqminus9223372036854775808.false (ap (λ z. of_z w64 z) is)) in
    writes_as (ap (λ z. signed_decimal z ++ codes "li") (to_z-of_z w64 c.args.value c.ranges.value) ∙ sym row)
    c.write_number.ensures
