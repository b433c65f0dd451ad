-- The own expressions of an accepted module stand together as those of a function do: what they
-- name is there and stands before them. Each constant has a tree.
use Rattle.module_semantics.specs.Names.{TypesAreDistinguished}
use Rattle.std.proofs.Common.{◌≡◌, ℕ, ◌<◌, ◌+◌, true, sym, ap, ◌∙◌, length, Option, Some, None}
use Rattle.std.proofs.Common.{slice_get, arith, nat_lt, ◌&&◌}
use Rattle.std.specs.List.{list_all}
use Rattle.std.specs.Prelude.{IsTrue}
use Rattle.std.specs.Option.{option_map}
use Rattle.std.proofs.lemmas.Bool.{and_parts, ltb-true}
use Rattle.naga_ir.specs.Operands.{expression_operands}
use Rattle.naga_ir.specs.declared.expression.Expression.{Expression}
use Rattle.naga_ir.specs.declared.expression.Expression.TheVariants as expression
use Rattle.naga_ir.specs.declared.module.Constant.{Constant}
use Rattle.naga_ir.specs.declared.module.Function.{Function}
use Rattle.naga_ir.specs.declared.module.Module.{Module}
use Rattle.naga_info.specs.declared.info.ModuleInfo.{ModuleInfo}
use Rattle.naga_info.specs.declared.info.TypeResolution.TheVariants.{Handle}
use Rattle.naga_info.proofs.Options.{map_some}
use Rattle.shader_runs.specs.Program.{ConstantTree}
use Rattle.module_semantics.specs.acceptance.Accepted.{is_accepted}
use Rattle.module_semantics.specs.acceptance.AgreeingOperators.{Group, module_operators_agree}
use Rattle.module_semantics.specs.acceptance.ExpressionTypes as types
use Rattle.module_semantics.specs.acceptance.InfoSizes.{sizes_fit, type_is_fit, all_known}
use Rattle.module_semantics.specs.acceptance.Ranges.{module_ranges_fit, module_in_range}
use Rattle.module_semantics.specs.acceptance.Ranges.{declarations_in_range, types_in_range}
use Rattle.module_semantics.specs.acceptance.Ranges.{special_types_fit, constant_in_range}
use Rattle.module_semantics.specs.acceptance.Ranges.{override_in_range, global_in_range}
use Rattle.module_semantics.specs.acceptance.Ranges.{global_expression_in_range, expression_in_range}
use Rattle.module_semantics.specs.acceptance.Ranges.{initialiser_before, names_in_range, all_by_handle}
use Rattle.module_semantics.specs.acceptance.Ranges.{all_below, resolution_fits, is_below}
use Rattle.module_semantics.specs.acceptance.Ranges.{function_in_range, entry_point_in_range}
use Rattle.module_semantics.specs.acceptance.Soundness.{module_is_sound}
use Rattle.module_semantics.specs.ExpressionContexts.{constant_over, global_tree, written_constant}
use Rattle.module_semantics.proofs.Lists.{list_all_at, numbered_at}
use Rattle.naga_form.proofs.declarations.AcceptedGroups.{IsSoundGroup, own_known, own_group}
use Rattle.naga_form.proofs.declarations.AcceptedGroups.{declarations_are}
use Rattle.naga_form.proofs.operators.ConstantTrees.{expected_there, availability_tree}

abbrev HasTree : Option ConstantTree → Type 0
HasTree o = (t : ConstantTree) × (o ≡ Some t)

module _ (m : Module) (info : ModuleInfo) where
  module _ (accepted : IsTrue (is_accepted m info)) where
    -- ---- the module's own expressions stand after the initialisers that they name
    ranges : module_ranges_fit m info ≡ true
    unfolding is_accepted
    ranges = (and_parts (module_ranges_fit m info) (module_is_sound m info && module_operators_agree m info) accepted).0

    pub declared_in_range : declarations_in_range m ≡ true
    unfolding module_ranges_fit
    declared_in_range =
        let one = and_parts (sizes_fit m info) _ ranges in
        let two = and_parts (list_all type_is_fit m.types) _ one.1 in
        let three = and_parts (module_in_range m)
        (all_known (resolution_fits (length m.overrides) (length m.types)) info) two.1 in
        (and_parts (declarations_in_range m)
        (all_by_handle (function_in_range m) m.functions
        && list_all (entry_point_in_range m) m.entry_points.items) three.0).0

    abbrev pub Own : Group
    Own = own_group m info accepted

    pub own_is : IsSoundGroup m info None Own
    own_is = declarations_are m info accepted

    own_parts : (list_all (constant_in_range (length m.types) (length m.global_expressions)) m.constants ≡ true)
        × (all_by_handle (global_expression_in_range m) m.global_expressions ≡ true)
    own_parts =
        let types = length m.types in let own = length m.global_expressions in
        let declared = and_parts (types_in_range (length m.overrides) m.types) _ declared_in_range in
        let d1 = and_parts (special_types_fit types m.special_types) _ declared.1 in
        let d2 = and_parts (list_all (constant_in_range types own) m.constants) _ d1.1 in
        let d3 = and_parts (list_all (override_in_range types own) m.overrides) _ d2.1 in
        let d4 = and_parts (list_all (global_in_range types own) m.global_variables)
        (all_by_handle (global_expression_in_range m) m.global_expressions) d3.1 in
        (d2.0, d4.1)

    -- the constant that an expression names
    pub constant_named : (f : Option Function) (g : Group) → IsSoundGroup m info f g →
        (h c : ℕ) → slice_get g.expressions h ≡ Some (expression.Constant c) → (k : Constant) ×
        (slice_get m.constants c ≡ Some k)
    constant_named f g is h c at =
        let own = own_known m info f g is h (expression.Constant c) at in
        let there = expected_there m info (types.constant_type m c) own.0
        (is.typed h (expression.Constant c) own.0 at own.1) in
        let item = map_some (λ c. Handle c.ty) (slice_get m.constants c) there.0 there.1 in
        (item.0, item.1)

    -- each initialiser is one of the module's own expressions
    pub initialiser_within : (c : ℕ) (k : Constant) → slice_get m.constants c ≡ Some k →
        k.init < length m.global_expressions
    initialiser_within c k at =
        let own = and_parts (nat_lt k.ty (length m.types))
        (nat_lt k.init (length m.global_expressions))
        (list_all_at (constant_in_range (length m.types) (length m.global_expressions))
        m.constants c k own_parts.0 at) in
        ltb-true k.init (length m.global_expressions) own.1

    -- its operands and the initialisers of the constants that it names stand before one of the
    -- module's own expressions, and what it names is there
    global_is_in_range : (h : ℕ) (e : Expression) → slice_get m.global_expressions h ≡ Some e →
        global_expression_in_range m h e ≡ true
    global_is_in_range h e at =
        let from : 0 + h ≡ h = omega arith in
        sym (ap (λ n. global_expression_in_range m n e) from)
        ∙ numbered_at (global_expression_in_range m) 0 m.global_expressions h e own_parts.1 at

    pub global_names_in_range : (h : ℕ) (e : Expression) → slice_get m.global_expressions h ≡ Some e →
        names_in_range m 0 0 e ≡ true
    global_names_in_range h e at =
        let own = and_parts (expression_in_range m 0 0 h e) (initialiser_before m h e) (global_is_in_range h e at) in
        (and_parts (all_below h (expression_operands e)) (names_in_range m 0 0 e) own.0).1

    pub initialiser_stands_before : (h c : ℕ) → slice_get m.global_expressions h
        ≡ Some (expression.Constant c) → (k : Constant) → slice_get m.constants c ≡ Some k → k.init < h
    initialiser_stands_before h c at k there =
        let before =
        (and_parts (expression_in_range m 0 0 h (expression.Constant c))
        (initialiser_before m h (expression.Constant c))
        (global_is_in_range h (expression.Constant c) at)).1 in
        ltb-true k.init h (sym (ap (λ o. is_below h (option_map (λ k. k.init) o)) there) ∙ before)

    module _ (distinguished : TypesAreDistinguished m) where
      -- ---- constants
      -- a tree stands for each constant
      constant_stands : (global : ℕ → Option ConstantTree) (h : ℕ) (c : Constant) → slice_get m.constants h
          ≡ Some c → HasTree (constant_over m global h)
      constant_stands global h c at = (_, ap (option_map (availability_tree m info accepted distinguished global h)) at)

      pub constant_has_tree : (h : ℕ) (c : Constant) → slice_get m.constants h ≡ Some c →
          HasTree (written_constant m info h)
      constant_has_tree = constant_stands (global_tree m info)
