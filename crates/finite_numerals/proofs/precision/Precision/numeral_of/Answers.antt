use Rattle.std.proofs.Common.{◌≡◌, ℤ, rules, sym, subst, to_z-of_z, to_z, of_z, w64, ◌∙◌}
use Rattle.std.specs.Prelude.{◌≤◌, ◌^◌}
use Rattle.finite_numerals.specs.Nearest.{denoted_by}
use Rattle.finite_numerals.specs.Search.{unsigned}
use Rattle.finite_numerals.proofs.Search.{in_range, most_reach, signed_denote}
use Rattle.finite_numerals.proofs.precision.Precision.numeral_of.Goals as goal

pub least_digits-requires : goal.least_digits-requires
least_digits-requires c =
    let e = c.power_of_ten-exponent.result in
    let same : to_z w64 (of_z w64 e) ≡ e = to_z-of_z {w = w64} (search rules) in
    subst (λ (x : ℤ). c.args.size ≤ denoted_by c.args.self (unsigned (2 ^ 61) x)) (sym same)
    (most_reach c.args.self c.args.size e c.requires c.power_of_ten-exponent.ensures)

pub returns-clause-denotes : goal.returns-clause-denotes
returns-clause-denotes c =
    let e = to_z w64 (of_z w64 c.power_of_ten-exponent.result) in
    let same : e ≡ c.power_of_ten-exponent.result = to_z-of_z {w = w64} (search rules) in
    signed_denote c.args.self c.args.size e c.requires (same ∙ c.power_of_ten-exponent.ensures) c.args.negative
    c.least_digits.result c.least_digits.ensures

pub returns-clause-within : goal.returns-clause-within
returns-clause-within c =
    let e = to_z w64 (of_z w64 c.power_of_ten-exponent.result) in
    let same : e ≡ c.power_of_ten-exponent.result = to_z-of_z {w = w64} (search rules) in
    in_range c.args.self c.args.size e c.requires (same ∙ c.power_of_ten-exponent.ensures) c.args.negative
    c.least_digits.result c.least_digits.ensures
