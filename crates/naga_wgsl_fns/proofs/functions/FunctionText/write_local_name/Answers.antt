use Rattle.std.proofs.Common.{ap, subst, sym, ◌∙◌}
use Rattle.module_semantics.specs.Names.{module_names, name_in}
use Rattle.naga_words.proofs.Writing.{writes_as}
use Rattle.naga_wgsl_fns.proofs.OwnNames.{IsNamed, local_is, local_is_named}
use Rattle.naga_wgsl_fns.proofs.functions.FunctionText.write_local_name.Goals as goal

pub write_name-requires : goal.write_name-requires
write_name-requires g c =
    let self = c.args.self.now in
    record {
      named = subst (IsNamed self c.requires.can) (sym c.local_key.ensures)
          (local_is_named self c.requires.can c.args.local c.requires.local);
    }

pub returns : goal.returns
returns g c =
    let self = c.args.self.now in
    writes_as
    (ap (name_in (module_names self.known.shader.now)) c.local_key.ensures ∙ local_is self c.requires.can c.args.local)
    c.write_name.ensures
