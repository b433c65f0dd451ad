use Rattle.std.proofs.Common.{ap, subst, sym, ◌∙◌}
use Rattle.module_semantics.specs.Names.{module_names, name_in}
use Rattle.naga_words.proofs.Writing.{writes_as}
use Rattle.naga_wgsl_fns.proofs.OwnNames.{IsNamed, function_is, function_is_named}
use Rattle.naga_wgsl_fns.proofs.functions.FunctionText.write_function_name.Goals as goal

pub write_name-requires : goal.write_name-requires
write_name-requires g c =
    let self = c.args.self.now in
    record {
      named = subst (IsNamed self c.requires) (sym c.key.ensures) (function_is_named self c.requires);
    }

pub returns : goal.returns
returns g c =
    let self = c.args.self.now in
    writes_as
    (ap (name_in (module_names self.known.shader.now)) c.key.ensures ∙ function_is self c.requires)
    c.write_name.ensures
