use Rattle.naga_tables.proofs.UnsupportedDeclarations.{argument_lacks, by_result, no_result}
use Rattle.naga_tables.proofs.declarations.unsupported_io.Goals as goal

pub returns-in-Some : goal.returns-in-Some
returns-in-Some c =
    argument_lacks c.args.function.now c.deref.result.now c.deref.ensures.value c.in-Some.unsupported c.in-Some.ensures

pub returns-in-Some-result : goal.returns-in-Some-result
returns-in-Some-result c =
    by_result c.args.function.now c.deref.result.now c.deref.ensures.value c.in_default.ensures c.in-Some-result.answer
    c.in-Some-result.is c.unsupported_binding.result c.unsupported_binding.ensures

pub returns-in-None : goal.returns-in-None
returns-in-None c =
    no_result c.args.function.now c.deref.result.now c.deref.ensures.value c.in_default.ensures c.in-None.is
