-- The parts that the texts of declarations share, from what is written of them in turn; and what
-- stands in front of a module's functions.
-- Serves 26 contracts, `write_first_value` among them.
--
-- Throughout, m is a module, and rest what stands after a type.
use Rattle.std.proofs.Common.{◌≡◌, ◌++◌, ◌==◌, ℕ, List, [], ◌∷◌, append_assoc, ap, arith, codes}
use Rattle.std.proofs.Common.{length, map, ne_eqb, refl, suc, sym}
use Rattle.std.specs.List.{enumerate_from}
use Rattle.std.specs.Prelude.{Some, None, IsTrue, if◌then◌else◌}
use Rattle.naga_ir.specs.declared.module.Module.{Module}
use Rattle.naga_naming.specs.Keys.{names_in}
use Rattle.naga_naming.specs.declared.key.NameKey.{NameKey}
use Rattle.module_semantics.specs.acceptance.Accepted.{is_accepted}
use Rattle.module_semantics.specs.DeclarationForms.{DeclarationsHaveForms}
use Rattle.module_semantics.specs.Names.{module_names, name_in}
use Rattle.module_semantics.specs.Types.{type_names}
use Rattle.naga_form.specs.ConstantForms.{global_form}
use Rattle.naga_words.specs.Output.{joined_texts}
use Rattle.wgsl_text.proofs.Functions.{value_text as value_row_text}
use Rattle.wgsl_text.specs.Functions.{group_end}
use Rattle.wgsl_text.specs.Text.{text}
use Rattle.naga_wgsl_shared.specs.Constants.{global_text}
use Rattle.naga_wgsl_fns.specs.Functions.{group_end_text}
use Rattle.naga_wgsl_shared.specs.Types.{spelled_text}
use Rattle.naga_scope.specs.declared.known_module.KnownModule.{KnownModule}
use Rattle.naga_tables.specs.Tables.{AreTablesOf}
use Rattle.naga_wgsl_out.specs.Items.{CanWriteModule, first_value_text, typed_text, value_text}
use Rattle.naga_wgsl_out.specs.ModuleRefusals.{HasAllNames}

pub typed_row : (m : Module) (key : NameKey) (ty : ℕ) →
    typed_text m key ty ≡
    joined_texts (name_in (module_names m) key) (joined_texts (codes ": ") (spelled_text m ty))
unfolding typed_text joined_texts
typed_row m key ty = refl

-- a name, its type and what stands after
pub typed_then : (m : Module) (key : NameKey) (ty : ℕ) (rest : List ℕ) →
    name_in (module_names m) key ++ (codes ": " ++ (spelled_text m ty ++ rest)) ≡
    typed_text m key ty ++ rest
unfolding typed_text
typed_then m key ty rest =
    sym (append_assoc (name_in (module_names m) key) (codes ": " ++ spelled_text m ty) rest)

-- ---- values
pub first_value_row : (m : Module) (value : ℕ) →
    first_value_text m value ≡
    joined_texts (codes " = ") (joined_texts (global_text m value) (codes ";\n"))
unfolding first_value_text global_text joined_texts
first_value_row m value = value_row_text (global_form m (type_names m) value)

pub value_row : (m : Module) (value : ℕ) → first_value_text m value ≡ value_text m (Some value)
unfolding first_value_text value_text
value_row m value = refl

pub no_value_row : (m : Module) → value_text m None ≡ codes ";\n"
unfolding value_text
no_value_row m = refl

-- ---- groups
-- the empty line after items, one of each item of an arena
pub group_end_row : {X Y : Type 0} (form : ℕ × X → Y) (items : List X) →
    group_end_text (length items == 0) ≡ text (group_end (map form (enumerate_from 0 items)))
unfolding group_end_text
group_end_row form [] = refl
group_end_row form (item ∷ items) =
    ap (λ b. if b then [] else codes "\n")
    (ne_eqb (suc (length items)) 0 (λ same. absurd (omega arith)))

-- ---- what is asked of a module that is written
-- It is accepted, all that it declares has forms, its tables are its own, and all its items have
-- names.
pub can_write_module : (k : KnownModule) → IsTrue (is_accepted k.shader.now k.info.now) →
    DeclarationsHaveForms k.shader.now → AreTablesOf k.shader.now k.tables.now →
    HasAllNames k.shader.now (names_in k.names.now) → CanWriteModule k
can_write_module k accepted declared tables names = record {
  known = record { accepted = accepted; named = names.named; tables = tables };
  declared = declared;
  names = names;
}
