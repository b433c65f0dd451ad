use Rattle.std.proofs.Common.{false}
use Rattle.std.proofs.lemmas.List.{drop_all}
use Rattle.std.specs.Option.{option_map_or}
use Rattle.naga_ir.specs.declared.module.FunctionArgument.{FunctionArgument}
use Rattle.module_semantics.specs.Enables.{Extension}
use Rattle.naga_wgsl_out.proofs.FoundEnables.{found_all, found_at}
use Rattle.naga_wgsl_out.proofs.enables.of_arguments.Goals as goal

pub loop-argument-preserved : goal.loop-argument-preserved
loop-argument-preserved c =
    found_at (λ (x : Extension) (a : FunctionArgument). option_map_or x.for_binding a.binding false) _ _ _ _ _ _ _
    c.loop-argument-test.true c.argument-item.is c.or-found.ensures c.of_any_binding.ensures
    c.loop-argument.invariant

pub returns : goal.returns
returns c =
    found_all (λ (x : Extension) (a : FunctionArgument). option_map_or x.for_binding a.binding false) _ _ _
    (drop_all c.loop-argument.argument-index c.args.arguments.now c.loop-argument-test.false) c.loop-argument.invariant
