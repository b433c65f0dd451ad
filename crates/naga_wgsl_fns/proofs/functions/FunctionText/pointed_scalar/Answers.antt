use Rattle.std.proofs.Common.{◌∙◌, ap, sym}
use Rattle.std.proofs.lemmas.Bool.{false≢true}
use Rattle.std.specs.Option.{is_some, option_and_then}
use Rattle.module_semantics.specs.ExpressionOperators.{pointee_scalar}
use Rattle.naga_wgsl_fns.proofs.functions.FunctionText.pointed_scalar.Goals as goal

pub unreachable-requires : goal.unreachable-requires
unreachable-requires c =
    let types = c.args.self.now.known.shader.now.types in
    let none =
    ap (option_and_then (pointee_scalar types)) c.type_of.ensures
    ∙ (sym c.pointee_scalar.ensures ∙ c.in-None.is) in
    false≢true (sym (ap is_some none) ∙ c.requires.scalar)

pub returns : goal.returns
returns c =
    let types = c.args.self.now.known.shader.now.types in
    ap (option_and_then (pointee_scalar types)) c.type_of.ensures
    ∙ (sym c.pointee_scalar.ensures ∙ c.in-Some.is)
