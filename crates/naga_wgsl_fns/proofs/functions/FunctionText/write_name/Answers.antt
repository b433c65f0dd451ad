use Rattle.std.proofs.Common.{Some, ap, sym, ◌∙◌}
use Rattle.module_semantics.specs.Names.{module_names, name_in}
use Rattle.naga_naming.specs.Keys.{names_in}
use Rattle.naga_words.proofs.Writing.{writes_as}
use Rattle.naga_wgsl_fns.proofs.functions.FunctionText.write_name.Goals as goal

pub write_name-requires : goal.write_name-requires
write_name-requires g c =
    let key = c.args.key.now in
    record {
      named =
          ap (λ n. names_in n key) c.of_module.ensures.names
          ∙ (c.requires.named
          ∙ sym (ap (λ m. Some (name_in (module_names m) key)) c.of_module.ensures.shader));
    }

pub returns : goal.returns
returns g c =
    writes_as (ap (λ m. name_in (module_names m) c.args.key.now) c.of_module.ensures.shader)
    c.write_name.ensures
