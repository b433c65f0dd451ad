use Rattle.std.proofs.Common.{◌++◌, codes, ap, sym, ◌∙◌, w16}
use Rattle.std.specs.Fmt.{signed_decimal}
use Rattle.std.proofs.lemmas.Int.{to_z-of_z}
use Rattle.naga_words.proofs.Writing.{writes_as, writes_then}
use Rattle.naga_words.specs.Output.{joined_texts}
use Rattle.naga_wgsl_shared.proofs.Literals.{short_row}
use Rattle.naga_wgsl_shared.proofs.literal.write_i16.Goals as goal

pub returns : goal.returns
returns g c =
    writes_as
    (ap (λ z. joined_texts (codes "i16(") (signed_decimal z ++ codes ")"))
    (to_z-of_z w16 c.args.value c.ranges.value) ∙ sym (short_row c.args.value))
    (writes_then c.put.ensures c.write_number.ensures)
