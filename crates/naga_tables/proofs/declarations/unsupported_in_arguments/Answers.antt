use Rattle.std.proofs.Common.{◌≡◌, None, length, refl, sym}
use Rattle.std.proofs.lemmas.Option.{slice_get_read}
use Rattle.naga_tables.proofs.Searching.{all_passed, one_passed}
use Rattle.naga_tables.specs.Declarations.{binding_refusal}
use Rattle.naga_ir.specs.declared.module.FunctionArgument.{FunctionArgument}
use Rattle.naga_tables.proofs.declarations.unsupported_in_arguments.Goals as goal

pub returns-in-Some : goal.returns-in-Some
returns-in-Some c =
    let here = slice_get_read c.args.arguments.now (length c.args.arguments.now) c.loop-argument.argument-index
    c.argument-item.result refl c.loop-argument-test.true c.argument-item.is in (
      c.loop-argument.argument-index,
      c.argument-item.result,
      here,
      c.loop-argument.invariant.formed,
      sym c.in-Some.ensures,
    )

pub loop-argument-preserved : goal.loop-argument-preserved
loop-argument-preserved c =
    let here = slice_get_read c.args.arguments.now (length c.args.arguments.now) c.loop-argument.argument-index
    c.argument-item.result refl c.loop-argument-test.true c.argument-item.is in
    one_passed (λ i (a : FunctionArgument). binding_refusal a.binding ≡ None) c.args.arguments.now
    c.loop-argument.argument-index c.argument-item.result here (sym c.in_default.ensures) c.loop-argument.invariant

pub returns : goal.returns
returns c =
    all_passed (λ i (a : FunctionArgument). binding_refusal a.binding ≡ None) c.args.arguments.now
    c.loop-argument.argument-index c.loop-argument-test.false c.loop-argument.invariant
