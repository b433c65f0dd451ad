-- What is known of a module from what is known of the text of one of its functions.
-- Serves 7 contracts, `expression` among them.
use Rattle.std.proofs.Common.{◌≡◌, subst, sym}
use Rattle.module_semantics.specs.Names.{HasNamesOf}
use Rattle.naga_naming.specs.Keys.{names_in}
use Rattle.naga_tables.specs.Tables.{AreTablesOf}
use Rattle.naga_wgsl_fns.specs.FunctionText.{CanWrite}
use Rattle.naga_wgsl_shared.specs.ModuleText.{CanWriteIn, CanWriteOf}
use Rattle.naga_wgsl_fns.specs.declared.functions.FunctionText.{FunctionText}
use Rattle.naga_wgsl_shared.specs.declared.module_text.ModuleText.{ModuleText}

pub can_of : (f : FunctionText) → CanWrite f → CanWriteOf f.known.shader.now
can_of f can = record {
  info = f.known.info.now;
  accepted = can.known.accepted;
}

-- a text of its module under its names, with what is looked up of it
pub can_in : (f : FunctionText) → CanWrite f → (t : ModuleText) → t.shader.now ≡ f.known.shader.now →
    t.tables.now ≡ f.known.tables.now → t.names.now ≡ f.known.names.now → CanWriteIn t
can_in f can t shader tables names = record {
  of_module = subst CanWriteOf (sym shader) (can_of f can);
  named = subst (λ m. HasNamesOf m (names_in t.names.now)) (sym shader)
      (subst (λ n. HasNamesOf f.known.shader.now (names_in n)) (sym names) can.known.named);
  tables = subst (λ m. AreTablesOf m t.tables.now) (sym shader)
      (subst (AreTablesOf f.known.shader.now) (sym tables) can.known.tables);
}
