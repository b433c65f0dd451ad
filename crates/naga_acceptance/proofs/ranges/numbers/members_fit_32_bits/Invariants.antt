use Rattle.std.proofs.Common.{◌≡◌, drop}
use Rattle.std.specs.List.{list_all}
use Rattle.module_semantics.specs.acceptance.Numbers.{member_fits_32_bits}
use Rattle.naga_acceptance.proofs.ranges.numbers.members_fit_32_bits.Given as goal

abbrev pub invariant-loop-member : goal.invariant-loop-member
invariant-loop-member l = list_all member_fits_32_bits (drop l.member-index l.members)
    ≡ list_all member_fits_32_bits l.members
