-- What was expected, as it is displayed: lines that `docs/USING.md` has.
use Rattle.std.proofs.Common.{◌≡◌, codes, refl}
use Rattle.std.specs.Fmt.{digits}
use Rattle.fault_details.specs.Texts.{many_text, mismatch_text}
use Rattle.fault_details.specs.declared.mismatch.Mismatch.TheVariants as mismatch
use Rattle.fault_details.specs.declared.words.Counted.TheVariants as counted
use Rattle.module_semantics.specs.declared.named.ListName.TheVariants as list
use Rattle.fault_details.specs.declared.words.Need.TheVariants as need

too_few_known : mismatch_text (mismatch.Number counted.Expressions 12 11) ≡ codes "expected 12 expressions, got 11"
unfolding digits
too_few_known = refl

one_argument_expected : many_text 1 counted.Arguments ≡ codes "1 argument"
unfolding digits
one_argument_expected = refl

not_before : mismatch_text (mismatch.EarlierItem list.Expressions 7 3 12)
    ≡ codes "names expressions[7], expected one before expressions[3], of 12"
unfolding digits
not_before = refl

not_there : mismatch_text (mismatch.Item list.Overrides 3 2) ≡ codes "names overrides[3], of which there are 2"
unfolding digits
not_there = refl

not_the_one : mismatch_text (mismatch.Item list.Constants 2 1) ≡ codes "names constants[2], of which there is 1"
unfolding digits
not_the_one = refl

past_the_parts : mismatch_text (mismatch.Part 3 5) ≡ codes "expected an index below 3, got 5"
unfolding digits
past_the_parts = refl

no_loop : mismatch_text (mismatch.Need need.Loop) ≡ codes "expected a loop to go on with"
no_loop = refl
