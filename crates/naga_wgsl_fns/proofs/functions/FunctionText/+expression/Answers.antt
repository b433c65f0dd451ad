use Rattle.std.proofs.Common.{[], ◌<◌, false, ap, arith, ◌∙◌, length, refl, subst, sym, true, Some}
use Rattle.std.specs.Option.{option_map, option_map_or, option_to_list}
use Rattle.naga_ir.specs.Operands.{expression_operands, level_operands}
use Rattle.naga_ir.specs.declared.expression.Expression.TheVariants.{As, CooperativeLoad}
use Rattle.std.specs.List.{AllByRecursion}
use Rattle.naga_words.proofs.Writing.{leaves_as, leaves_last, leaves_more, leaves_start, writes_as}
use Rattle.naga_words.proofs.Writing.{writes_nothing, writes_then}
use Rattle.module_semantics.specs.Sampling.{offset_has_form, own_offset_has_form, sampling_has_form}
use Rattle.naga_wgsl_fns.proofs.ImageRows.{furthers_none, furthers_one, furthers_two, no_offset}
use Rattle.naga_wgsl_fns.proofs.ImageRows.{offset_row, sampling_whole}
use Rattle.naga_wgsl_fns.proofs.Preconditions.{all_in_text, highest_below, sampled_in}
use Rattle.naga_wgsl_fns.proofs.Preconditions.{global_within, offset_formed, override_within}
use Rattle.naga_wgsl_fns.proofs.Preconditions.{base_in, known_within_infos, no_other_part}
use Rattle.naga_wgsl_fns.proofs.Preconditions.{part_has_form, IsOperand, argument_within}
use Rattle.naga_wgsl_fns.proofs.Preconditions.{local_within, made_value, operands_in, written_as}
use Rattle.naga_wgsl_fns.proofs.ModuleTexts.{can_in}
use Rattle.naga_wgsl_fns.proofs.VariableRows.{handle_variable_reference, memory_variable_reference}
use Rattle.naga_wgsl_shared.specs.Names.{name_of_override}
use Rattle.naga_wgsl_fns.specs.Expressions.{next_operand_text, operands_left, operands_text}
use Rattle.naga_wgsl_fns.specs.FunctionText.{AreInText, expressions}
use Rattle.module_semantics.specs.ExpressionOperators.{level_of}
use Rattle.module_semantics.specs.OperatorTable.{zero_is_written}
use Rattle.naga_wgsl_fns.specs.Images.{depths_at, furthers_text, offset_text, zero_text}
use Rattle.naga_wgsl_fns.proofs.PartRows.{base_pointed, base_signed, base_unpointed, base_unsigned}
use Rattle.naga_wgsl_fns.proofs.PartRows.{element_end, plain_row, reference_pointed}
use Rattle.naga_wgsl_fns.proofs.PartRows.{reference_unpointed, selected_end, value_pointed}
use Rattle.naga_wgsl_fns.proofs.PartRows.{value_unpointed}
use Rattle.naga_wgsl_fns.proofs.ExpressionRows.{operands_more, operands_none, operands_start}
use Rattle.naga_wgsl_fns.proofs.ExpressionRows.{no_value_row, own_at, own_called, own_made, own_row}
use Rattle.naga_wgsl_fns.proofs.ConversionRows.{own_conversion, typed_row}
use Rattle.naga_wgsl_fns.proofs.LoadRows.{atomic_loaded, other_loaded, own_matrix_load}
use Rattle.naga_wgsl_fns.proofs.functions.FunctionText.+expression.Goals as goal

pub write_own-write_literal-requires : goal.write_own-write_literal-requires
write_own-write_literal-requires g t c =
    written_as c.args.self.now c.requires.can c.index.ensures c.requires.handle c.in-Literal.is

pub write_own-write_constant-requires-clause-has_form : goal.write_own-write_constant-requires-clause-has_form
write_own-write_constant-requires-clause-has_form g t c =
    written_as c.args.self.now c.requires.can c.index.ensures c.requires.handle c.in-Constant.is

pub write_own-write_override_name-requires-clause-can : goal.write_own-write_override_name-requires-clause-can
write_own-write_override_name-requires-clause-can g t c =
    can_in c.args.self.now c.requires.can c.of_module.result c.of_module.ensures.shader
    c.of_module.ensures.tables c.of_module.ensures.names

pub write_own-write_override_name-requires-clause-there : goal.write_own-write_override_name-requires-clause-there
write_own-write_override_name-requires-clause-there g t c =
    subst (λ m. c.in-Override.item < length m.overrides) (sym c.of_module.ensures.shader)
    (override_within c.args.self.now c.requires.can _ c.index.ensures c.in-Override.is)

pub write_own-returns-in-Override : goal.write_own-returns-in-Override
write_own-returns-in-Override g t c =
    writes_as
    (ap (λ m. name_of_override m c.in-Override.item) c.of_module.ensures.shader
    ∙ sym
    (own_row c.args.self.now c.args.scope.now.table c.args.handle c.requires.can c.requires.handle
    ∙ ap (own_at c.args.self.now c.args.scope.now.table c.args.handle) (c.index.ensures ∙ ap Some c.in-Override.is)))
    c.write_override_name.ensures

pub write_own-write_global_value-requires-clause-variable : goal.write_own-write_global_value-requires-clause-variable
write_own-write_global_value-requires-clause-variable g t c =
    global_within c.args.self.now c.requires.can _ c.index.ensures c.in-GlobalVariable.is

pub write_reference-write_global_reference-requires : goal.write_reference-write_global_reference-requires
write_reference-write_global_reference-requires g t c κs within =
    let there = global_within c.args.self.now c.requires.can _ c.index.ensures c.in-GlobalVariable.is in
    (omega (arith, c.decreases), (within, (c.requires.can, (c.requires.handle, there))))

pub write_global_reference-write_dereference-requires : goal.write_global_reference-write_dereference-requires
write_global_reference-write_dereference-requires g t c κs within =
    (omega (arith, c.decreases), (within, (c.requires.can, c.requires.handle)))

pub write_global_reference-returns-then-is_handle_variable :
    goal.write_global_reference-returns-then-is_handle_variable
write_global_reference-returns-then-is_handle_variable g t c =
    writes_as
    (handle_variable_reference c.args.self.now c.args.scope.now.table c.args.handle c.args.variable
    (sym c.is_handle_variable.ensures ∙ c.if-is_handle_variable.true))
    c.write_dereference.ensures

pub write_global_reference-returns-else-is_handle_variable :
    goal.write_global_reference-returns-else-is_handle_variable
write_global_reference-returns-else-is_handle_variable g t c =
    writes_as
    (memory_variable_reference c.args.self.now c.args.scope.now.table c.args.handle c.args.variable
    (sym c.is_handle_variable.ensures ∙ c.if-is_handle_variable.false))
    c.write_global_name.ensures

pub write_own-write_argument_name-requires-clause-argument : goal.write_own-write_argument_name-requires-clause-argument
write_own-write_argument_name-requires-clause-argument g t c =
    argument_within c.args.self.now c.requires.can _ c.index.ensures c.in-FunctionArgument.is

pub write_own-write_address-requires-clause-local : goal.write_own-write_address-requires-clause-local
write_own-write_address-requires-clause-local g t c =
    local_within c.args.self.now c.requires.can _ c.index.ensures c.in-LocalVariable.is

pub write_own-write_load-requires : goal.write_own-write_load-requires
write_own-write_load-requires g t c κs within =
    let at = c.index.ensures ∙ ap Some c.in-Load.is in
    (omega (arith, c.decreases), (within, (c.requires.can, (c.requires.handle, at))))

pub write_load-is_atomic_pointer-requires-clause-handle : goal.write_load-is_atomic_pointer-requires-clause-handle
write_load-is_atomic_pointer-requires-clause-handle g t c =
    let operand =
    (operands_in c.args.self.now c.requires.can c.requires.load refl
    c.requires.handle).0 in
    known_within_infos c.args.self.now c.requires.can c.args.pointer operand.1.there

pub write_load-write_reference-requires : goal.write_load-write_reference-requires
write_load-write_reference-requires g t c κs within =
    let operand =
    (operands_in c.args.self.now c.requires.can c.requires.load refl
    c.requires.handle).0 in
    let before = operand.0 in
    (omega (arith, before, c.decreases), (within, (c.requires.can, operand.1)))

pub write_load-returns-then-is_atomic_pointer : goal.write_load-returns-then-is_atomic_pointer
write_load-returns-then-is_atomic_pointer g t c =
    writes_as
    (atomic_loaded c.args.self.now c.args.scope.now.table c.args.handle c.args.pointer c.requires.load
    (sym c.is_atomic_pointer.ensures ∙ c.if-is_atomic_pointer.true))
    c.write_called.ensures

pub write_load-returns-else-is_atomic_pointer : goal.write_load-returns-else-is_atomic_pointer
write_load-returns-else-is_atomic_pointer g t c =
    writes_as
    (other_loaded c.args.self.now c.args.scope.now.table c.args.pointer
    (sym c.is_atomic_pointer.ensures ∙ c.if-is_atomic_pointer.false))
    c.write_reference.ensures

pub write_own-write_matrix_callee-requires-clause-formed : goal.write_own-write_matrix_callee-requires-clause-formed
write_own-write_matrix_callee-requires-clause-formed g t c =
    written_as c.args.self.now c.requires.can c.index.ensures c.requires.handle c.in-CooperativeLoad.is

pub write_own-returns-in-CooperativeLoad : goal.write_own-returns-in-CooperativeLoad
write_own-returns-in-CooperativeLoad g t c =
    let it = c.in-CooperativeLoad in
    let loaded = CooperativeLoad it.columns it.rows it.role it.data_ in
    let formed =
    written_as c.args.self.now c.requires.can
    c.index.ensures c.requires.handle c.in-CooperativeLoad.is in
    writes_as
    (sym (typed_row c.args.self.now c.args.scope.now.table loaded c.args.handle)
    ∙ own_matrix_load c.args.self.now c.args.scope.now.table c.requires.can c.requires.handle formed
    c.index.ensures c.in-CooperativeLoad.is)
    (writes_then c.write_matrix_callee.ensures
    (writes_then c.put-in-CooperativeLoad.ensures c.write_operands-in-CooperativeLoad.ensures))

pub write_own-write_swizzle-requires : goal.write_own-write_swizzle-requires
write_own-write_swizzle-requires g t c κs within =
    let operand =
    (operands_in c.args.self.now c.requires.can
    c.index.ensures c.in-Swizzle.is c.requires.handle).0 in
    let before = operand.0 in
    (omega (arith, before, c.decreases), (within, (c.requires.can, operand.1)))

pub write_own-write_prefix-requires : goal.write_own-write_prefix-requires
write_own-write_prefix-requires g t c κs within =
    let operand =
    (operands_in c.args.self.now c.requires.can
    c.index.ensures c.in-Unary.is c.requires.handle).0 in
    let before = operand.0 in
    (omega (arith, before, c.decreases), (within, (c.requires.can, operand.1)))

pub write_own-write_infix-requires : goal.write_own-write_infix-requires
write_own-write_infix-requires g t c κs within =
    let operands =
    operands_in c.args.self.now c.requires.can
    c.index.ensures c.in-Binary.is c.requires.handle in
    let left = operands.0.0 in
    let right = operands.1.0.0 in (
      omega (arith, left, right, c.decreases),
      (within, (c.requires.can, (operands.0.1, operands.1.0.1))),
    )

pub write_own-returns-in-Some : goal.write_own-returns-in-Some
write_own-returns-in-Some g t c =
    writes_as
    (own_called c.args.self.now c.args.scope.now.table c.requires.can c.requires.handle c.index.ensures
    (sym c.called_str.ensures ∙ ap (option_map (λ w. w.now)) c.in-Some.is))
    c.write_called.ensures

pub write_own-returns-in-None : goal.write_own-returns-in-None
write_own-returns-in-None g t c =
    writes_as
    (no_value_row c.args.self.now c.args.scope.now.table c.args.handle c.requires.can c.requires.handle
    c.index.result.now
    c.index.ensures
    (record {
      literal = c.in_default.not-Literal;
      constant = c.in_default.not-Constant;
      overridden = c.in_default.not-Override;
      zero_value = c.in_default.not-ZeroValue;
      composed = c.in_default.not-Compose;
      element = c.in_default.not-Access;
      part = c.in_default.not-AccessIndex;
      argument = c.in_default.not-FunctionArgument;
      global = c.in_default.not-GlobalVariable;
      local_ = c.in_default.not-LocalVariable;
      load = c.in_default.not-Load;
      unary = c.in_default.not-Unary;
      binary = c.in_default.not-Binary;
      swizzle = c.in_default.not-Swizzle;
      converted = c.in_default.not-As;
      sampled = c.in_default.not-ImageSample;
      matrix_load = c.in_default.not-CooperativeLoad;
      called = sym c.called_str.ensures ∙ ap (option_map (λ w. w.now)) c.in-None.is;
    }))
    c.put-in-None.ensures

pub write_reference-write_local_name-requires-clause-local : goal.write_reference-write_local_name-requires-clause-local
write_reference-write_local_name-requires-clause-local g t c =
    local_within c.args.self.now c.requires.can _ c.index.ensures c.in-LocalVariable.is

pub write_own-write_made-requires : goal.write_own-write_made-requires
write_own-write_made-requires g t c κs within =
    let value =
    made_value c.args.self.now c.requires.can _ c.index.ensures
    c.requires.handle c.in-ZeroValue.is refl in
    (omega (arith, c.decreases), (within, (c.requires.can, (c.requires.handle, value))))

pub write_own-write_made-requires-in-Compose : goal.write_own-write_made-requires-in-Compose
write_own-write_made-requires-in-Compose g t c κs within =
    let value =
    made_value c.args.self.now c.requires.can _ c.index.ensures
    c.requires.handle c.in-Compose.is refl in
    (omega (arith, c.decreases), (within, (c.requires.can, (c.requires.handle, value))))

pub write_own-returns-in-ZeroValue : goal.write_own-returns-in-ZeroValue
write_own-returns-in-ZeroValue g t c =
    let value =
    made_value c.args.self.now c.requires.can _ c.index.ensures
    c.requires.handle c.in-ZeroValue.is refl in
    writes_as
    (own_made c.args.self.now c.args.scope.now.table _ _ c.requires.can c.requires.handle value c.index.ensures
    c.in-ZeroValue.is refl)
    c.write_made.ensures

pub write_own-returns-in-Compose : goal.write_own-returns-in-Compose
write_own-returns-in-Compose g t c =
    let value =
    made_value c.args.self.now c.requires.can _ c.index.ensures
    c.requires.handle c.in-Compose.is refl in
    writes_as
    (own_made c.args.self.now c.args.scope.now.table _ _ c.requires.can c.requires.handle value c.index.ensures
    c.in-Compose.is refl)
    c.write_made-in-Compose.ensures

pub write_operands-loop-operand-init : goal.write_operands-loop-operand-init
write_operands-loop-operand-init g t c =
    let self = c.args.self.now in
    let scope = c.args.scope.now.table in
    let h = c.args.handle in
    let items = c.into_iter-operand-iterator.ensures.into_iter_gives ∙ c.operands-operand-items.ensures in
    let there = ap (λ o. option_map_or expression_operands o []) c.index.ensures in
    record {
      writes = leaves_as
          (operands_start self scope h ∙ ap (operands_left self scope true) (there ∙ sym items))
          (leaves_start _ (operands_text self scope h));
      before = subst (AllByRecursion (IsOperand self h)) (sym items)
          (operands_in self c.requires.can c.index.ensures refl c.requires.handle);
    }

pub write_operands-write_next_operand-requires : goal.write_operands-write_next_operand-requires
write_operands-write_next_operand-requires g t c κs within =
    let first = (subst (AllByRecursion (IsOperand c.args.self.now c.args.handle))
    c.in-Some.ensures.steps c.loop-operand.invariant.before).0 in
    let before = first.0 in
    (omega (arith, before, c.decreases), (within, (c.requires.can, first.1)))

pub write_operands-loop-operand-preserved : goal.write_operands-loop-operand-preserved
write_operands-loop-operand-preserved g t c =
    let self = c.args.self.now in
    let scope = c.args.scope.now.table in
    let steps = c.in-Some.ensures.steps in
    let first = c.loop-operand.is_first in
    record {
      writes = leaves_more _ _ _ _ _ _ _ c.loop-operand.invariant.writes
          (ap (operands_left self scope first) steps
          ∙ operands_more self scope first c.in-Some.operand c.next.new.self)
          c.write_next_operand.ensures;
      before = (subst (AllByRecursion (IsOperand self c.args.handle)) steps c.loop-operand.invariant.before).1;
    }

pub write_operands-returns : goal.write_operands-returns
write_operands-returns g t c =
    let self = c.args.self.now in
    let scope = c.args.scope.now.table in
    let first = c.loop-operand.is_first in
    leaves_last _ _ _ _ _ c.loop-operand.invariant.writes
    (writes_as
    (sym (ap (operands_left self scope first) c.in-None.ensures.steps.0
    ∙ operands_none self scope first))
    c.put.ensures)

pub write_base-returns-then-is_signed : goal.write_base-returns-then-is_signed
write_base-returns-then-is_signed g t c =
    writes_as
    (base_signed c.args.self.now c.args.scope.now.table c.args.handle
    (sym c.if-is_signed.true ∙ c.is_signed.ensures))
    c.write_in_parentheses.ensures

pub write_base-returns-else-is_signed : goal.write_base-returns-else-is_signed
write_base-returns-else-is_signed g t c =
    writes_as
    (base_unsigned c.args.self.now c.args.scope.now.table c.args.handle
    (sym c.if-is_signed.false ∙ c.is_signed.ensures))
    c.write_value.ensures

pub write_part_value-is_pointer-requires-clause-handle : goal.write_part_value-is_pointer-requires-clause-handle
write_part_value-is_pointer-requires-clause-handle g t c =
    let base = base_in c.args.self.now c.requires.can c.args.handle c.args.base c.requires.part c.requires.handle in
    known_within_infos c.args.self.now c.requires.can c.args.base base.1.there

pub write_part_value-returns-then-is_pointer : goal.write_part_value-returns-then-is_pointer
write_part_value-returns-then-is_pointer g t c =
    writes_as
    (value_pointed c.args.self.now c.args.scope.now.table c.args.handle c.args.base
    (sym c.is_pointer.ensures ∙ c.if-is_pointer.true))
    c.write_part_address.ensures

pub write_part_value-returns-else-is_pointer : goal.write_part_value-returns-else-is_pointer
write_part_value-returns-else-is_pointer g t c =
    writes_as
    (value_unpointed c.args.self.now c.args.scope.now.table c.args.handle c.args.base
    (sym c.is_pointer.ensures ∙ c.if-is_pointer.false))
    c.write_part.ensures

pub write_part_reference-is_pointer-requires-clause-handle : goal.write_part_reference-is_pointer-requires-clause-handle
write_part_reference-is_pointer-requires-clause-handle g t c =
    let base = base_in c.args.self.now c.requires.can c.args.handle c.args.base c.requires.part c.requires.handle in
    known_within_infos c.args.self.now c.requires.can c.args.base base.1.there

pub write_part_reference-write_dereference-requires : goal.write_part_reference-write_dereference-requires
write_part_reference-write_dereference-requires g t c κs within =
    (omega (arith, c.decreases), (within, (c.requires.can, c.requires.handle)))

pub write_part_reference-returns-then-is_pointer : goal.write_part_reference-returns-then-is_pointer
write_part_reference-returns-then-is_pointer g t c =
    writes_as
    (reference_pointed c.args.self.now c.args.scope.now.table c.args.handle c.args.base
    (sym c.is_pointer.ensures ∙ c.if-is_pointer.true))
    c.write_part.ensures

pub write_part_reference-returns-else-is_pointer : goal.write_part_reference-returns-else-is_pointer
write_part_reference-returns-else-is_pointer g t c =
    writes_as
    (reference_unpointed c.args.self.now c.args.scope.now.table c.args.handle c.args.base
    (sym c.is_pointer.ensures ∙ c.if-is_pointer.false))
    c.write_dereference.ensures

pub write_part-write_part_base-requires : goal.write_part-write_part_base-requires
write_part-write_part_base-requires g t c κs within =
    let base = base_in c.args.self.now c.requires.can c.args.handle c.args.base c.requires.part c.requires.handle in
    let before = base.0 in
    (omega (arith, before, c.decreases), (within, (c.requires.can, base.1)))

pub write_part-returns : goal.write_part-returns
write_part-returns g t c =
    writes_as
    (sym
    (plain_row c.args.self.now c.args.scope.now.table c.args.handle c.args.base c.requires.can
    c.requires.handle
    c.requires.part))
    (writes_then c.write_part_base.ensures c.write_part_end.ensures)

pub write_part_base-returns-then-is_pointer : goal.write_part_base-returns-then-is_pointer
write_part_base-returns-then-is_pointer g t c =
    writes_as
    (base_pointed c.args.self.now c.args.scope.now.table c.args.base
    (sym c.is_pointer.ensures ∙ c.if-is_pointer.true))
    c.write_reference.ensures

pub write_part_base-returns-else-is_pointer : goal.write_part_base-returns-else-is_pointer
write_part_base-returns-else-is_pointer g t c =
    writes_as
    (base_unpointed c.args.self.now c.args.scope.now.table c.args.base
    (sym c.is_pointer.ensures ∙ c.if-is_pointer.false))
    c.write_base.ensures

pub write_part_end-write_index-requires : goal.write_part_end-write_index-requires
write_part_end-write_index-requires g t c κs within =
    let index =
    (operands_in c.args.self.now c.requires.can
    c.index.ensures c.in-Access.is c.requires.handle).1.0 in
    let before = index.0 in
    (omega (arith, before, c.decreases), (within, (c.requires.can, index.1)))

pub write_part_end-write_selector-requires-clause-has_form : goal.write_part_end-write_selector-requires-clause-has_form
write_part_end-write_selector-requires-clause-has_form g t c =
    part_has_form c.args.self.now c.requires.can c.args.handle c.args.base c.index.result.now _ _
    c.index.ensures c.requires.handle c.in-AccessIndex.is c.requires.part

pub write_part_end-returns-in-Access : goal.write_part_end-returns-in-Access
write_part_end-returns-in-Access g t c =
    writes_as
    (element_end c.args.self.now c.args.scope.now.table c.args.handle c.index.result.now _ _
    c.index.ensures c.in-Access.is)
    c.write_index.ensures

pub write_part_end-returns-in-AccessIndex : goal.write_part_end-returns-in-AccessIndex
write_part_end-returns-in-AccessIndex g t c =
    writes_as
    (selected_end c.args.self.now c.args.scope.now.table c.args.handle c.args.base c.index.result.now _ _
    c.index.ensures c.in-AccessIndex.is c.requires.part)
    c.write_selector.ensures

pub write_part_end-unreachable-requires : goal.write_part_end-unreachable-requires
write_part_end-unreachable-requires g t c =
    no_other_part c.args.self.now c.requires.can c.args.handle c.args.base c.index.result.now
    c.index.ensures c.requires.part c.in_default.not-Access c.in_default.not-AccessIndex

pub write_own-write_cast_callee-requires-clause-formed : goal.write_own-write_cast_callee-requires-clause-formed
write_own-write_cast_callee-requires-clause-formed g t c =
    written_as c.args.self.now c.requires.can c.index.ensures c.requires.handle c.in-As.is

pub write_own-returns-in-As : goal.write_own-returns-in-As
write_own-returns-in-As g t c =
    let cast = As c.in-As.expr c.in-As.kind c.in-As.convert in
    let allowed =
    written_as c.args.self.now c.requires.can
    c.index.ensures c.requires.handle c.in-As.is in
    writes_as
    (sym (typed_row c.args.self.now c.args.scope.now.table cast c.args.handle)
    ∙ own_conversion c.args.self.now c.args.scope.now.table c.requires.can c.requires.handle allowed
    c.index.ensures c.in-As.is)
    (writes_then c.write_cast_callee.ensures (writes_then c.put.ensures c.write_operands.ensures))

pub write_further-returns-in-Some : goal.write_further-returns-in-Some
write_further-returns-in-Some g t c =
    let self = c.args.self.now in
    let scope = c.args.scope.now.table in
    writes_as
    (furthers_one self scope c.in-Some.operand
    ∙ ap (λ o. furthers_text self scope (option_to_list o)) (sym c.in-Some.is))
    c.write_next_operand.ensures

pub write_further-returns-in_default : goal.write_further-returns-in_default
write_further-returns-in_default g t c =
    let self = c.args.self.now in
    let scope = c.args.scope.now.table in
    writes_as
    (furthers_none self scope
    ∙ ap (λ o. furthers_text self scope (option_to_list o)) (sym c.in_default.is))
    (writes_nothing _)

pub write_level-returns-in-Auto : goal.write_level-returns-in-Auto
write_level-returns-in-Auto g t c =
    let self = c.args.self.now in
    let scope = c.args.scope.now.table in
    writes_as
    (furthers_none self scope
    ∙ ap (λ l. furthers_text self scope (level_operands l)) (sym c.in-Auto.is))
    (writes_nothing _)

pub write_level-returns-in-Zero : goal.write_level-returns-in-Zero
write_level-returns-in-Zero g t c =
    let self = c.args.self.now in
    let scope = c.args.scope.now.table in
    writes_as
    (furthers_none self scope
    ∙ ap (λ l. furthers_text self scope (level_operands l)) (sym c.in-Zero.is))
    (writes_nothing _)

pub write_level-returns-in-Exact : goal.write_level-returns-in-Exact
write_level-returns-in-Exact g t c =
    let self = c.args.self.now in
    let scope = c.args.scope.now.table in
    writes_as
    (furthers_one self scope c.in-Exact.level
    ∙ ap (λ l. furthers_text self scope (level_operands l)) (sym c.in-Exact.is))
    c.write_next_operand.ensures

pub write_level-returns-in-Bias : goal.write_level-returns-in-Bias
write_level-returns-in-Bias g t c =
    let self = c.args.self.now in
    let scope = c.args.scope.now.table in
    writes_as
    (furthers_one self scope c.in-Bias.bias
    ∙ ap (λ l. furthers_text self scope (level_operands l)) (sym c.in-Bias.is))
    c.write_next_operand-in-Bias.ensures

pub write_level-returns-in-Gradient : goal.write_level-returns-in-Gradient
write_level-returns-in-Gradient g t c =
    let self = c.args.self.now in
    let scope = c.args.scope.now.table in
    writes_as
    (furthers_two self scope c.in-Gradient.x c.in-Gradient.y
    ∙ ap (λ l. furthers_text self scope (level_operands l)) (sym c.in-Gradient.is))
    (writes_then c.write_next_operand-in-Gradient.ensures
    c.write_next_operand-in-Gradient-2.ensures)

pub write_offset-returns-in-Some : goal.write_offset-returns-in-Some
write_offset-returns-in-Some g t c =
    let self = c.args.self.now in
    let h = c.in-Some.offset in
    let text = subst (λ o. AreInText self (option_to_list o)) c.in-Some.is c.requires.offset in
    let is = ap (offset_has_form (expressions self)) (sym c.in-Some.is) ∙ c.requires.constant in
    writes_as
    (ap (λ table. next_operand_text self table false h) c.without_names.ensures
    ∙ (offset_row self c.requires.can h text.0.there is
    ∙ ap (offset_text self) (sym c.in-Some.is)))
    c.write_next_operand-in-Some.ensures

pub write_offset-returns-in_default : goal.write_offset-returns-in_default
write_offset-returns-in_default g t c =
    let self = c.args.self.now in
    writes_as (no_offset self ∙ ap (offset_text self) (sym c.in_default.is)) (writes_nothing _)

pub write_sampling-write_sampling_head-requires-clause-image :
    goal.write_sampling-write_sampling_head-requires-clause-image
write_sampling-write_sampling_head-requires-clause-image g t c =
    (operands_in c.args.self.now c.requires.can
    c.index.ensures c.in-ImageSample.is c.requires.handle).0.1

pub write_sampling-sampling_str-word-requires : goal.write_sampling-sampling_str-word-requires
write_sampling-sampling_str-word-requires g t c =
    let s = c.in-ImageSample in
    ap (λ b. sampling_has_form s.gather s.level b s.clamp_to_edge) c.is_some-compares.ensures
    ∙ written_as c.args.self.now c.requires.can c.index.ensures c.requires.handle s.is

pub write_sampling-zero_is_whole-requires-clause-image : goal.write_sampling-zero_is_whole-requires-clause-image
write_sampling-zero_is_whole-requires-clause-image g t c =
    (operands_in c.args.self.now c.requires.can
    c.index.ensures c.in-ImageSample.is c.requires.handle).0.1

pub write_sampling-write_value-requires : goal.write_sampling-write_value-requires
write_sampling-write_value-requires g t c κs within =
    let all =
    operands_in c.args.self.now c.requires.can
    c.index.ensures c.in-ImageSample.is c.requires.handle in
    let before = all.0.0 in
    (omega (arith, before, c.decreases), (within, (c.requires.can, all.0.1)))

pub write_sampling-write_next_operand-requires : goal.write_sampling-write_next_operand-requires
write_sampling-write_next_operand-requires g t c κs within =
    let all =
    operands_in c.args.self.now c.requires.can
    c.index.ensures c.in-ImageSample.is c.requires.handle in
    let before = all.1.0.0 in
    (omega (arith, before, c.decreases), (within, (c.requires.can, all.1.0.1)))

pub write_sampling-write_next_operand-requires-in-ImageSample :
    goal.write_sampling-write_next_operand-requires-in-ImageSample
write_sampling-write_next_operand-requires-in-ImageSample g t c κs within =
    let all =
    operands_in c.args.self.now c.requires.can
    c.index.ensures c.in-ImageSample.is c.requires.handle in
    let before = all.1.1.0.0 in
    (omega (arith, before, c.decreases), (within, (c.requires.can, all.1.1.0.1)))

pub write_sampling-write_further-requires : goal.write_sampling-write_further-requires
write_sampling-write_further-requires g t c κs within =
    let self = c.args.self.now in
    let h = c.args.handle in
    let e = c.in-ImageSample in
    let s = sampled_in self c.requires.can c.index.ensures c.in-ImageSample.is c.requires.handle in
    let image = s.image.0 in
    let before = highest_below self h (option_to_list e.array_index) (omega (arith, image)) s.array in (
      omega (arith, before, c.decreases),
      (within, (c.requires.can, all_in_text self h (option_to_list e.array_index) s.array)),
    )

pub write_sampling-write_further-requires-in-ImageSample : goal.write_sampling-write_further-requires-in-ImageSample
write_sampling-write_further-requires-in-ImageSample g t c κs within =
    let self = c.args.self.now in
    let h = c.args.handle in
    let e = c.in-ImageSample in
    let s = sampled_in self c.requires.can c.index.ensures c.in-ImageSample.is c.requires.handle in
    let image = s.image.0 in
    let before = highest_below self h (option_to_list e.depth_ref) (omega (arith, image)) s.depth in (
      omega (arith, before, c.decreases),
      (within, (c.requires.can, all_in_text self h (option_to_list e.depth_ref) s.depth)),
    )

pub write_sampling-write_level-requires : goal.write_sampling-write_level-requires
write_sampling-write_level-requires g t c κs within =
    let self = c.args.self.now in
    let h = c.args.handle in
    let e = c.in-ImageSample in
    let s = sampled_in self c.requires.can c.index.ensures c.in-ImageSample.is c.requires.handle in
    let image = s.image.0 in
    let before = highest_below self h (level_operands e.level) (omega (arith, image)) s.level in (
      omega (arith, before, c.decreases),
      (within, (c.requires.can, all_in_text self h (level_operands e.level) s.level)),
    )

pub write_sampling-write_offset-requires : goal.write_sampling-write_offset-requires
write_sampling-write_offset-requires g t c κs within =
    let self = c.args.self.now in
    let h = c.args.handle in
    let e = c.in-ImageSample in
    let s = sampled_in self c.requires.can c.index.ensures c.in-ImageSample.is c.requires.handle in
    let image = s.image.0 in
    let before = highest_below self h (option_to_list e.offset) (omega (arith, image)) s.offset in
    let constant =
    ap (own_offset_has_form (expressions self)) (sym c.in-ImageSample.is)
    ∙ offset_formed self c.requires.can h c.index.result.now c.index.ensures c.requires.handle in (
      omega (arith, before, c.decreases),
      (within, (c.requires.can, (all_in_text self h (option_to_list e.offset) s.offset, constant))),
    )

pub write_sampling-returns : goal.write_sampling-returns
write_sampling-returns g t c =
    let s = c.in-ImageSample in
    writes_as
    (sampling_whole c.args.self.now c.args.scope.now.table c.args.handle s.image s.sampler s.gather
    s.coordinate s.array_index s.offset s.level s.depth_ref s.clamp_to_edge
    (c.index.ensures ∙ ap Some s.is) c.is_some-compares.result c.is_some-compares.ensures
    c.sampling_str-word.result.now (c.sampling_str-word.ensures (depths_at c.args.self.now s.image))
    c.level_str.result.now
    (c.level_str.ensures
    ∙ (λ i. zero_text
    (zero_is_written (level_of s.level) (c.is_zero_by_name-by_name.ensures i))
    (c.zero_is_whole.ensures i))))
    (writes_then c.write_sampling_head.ensures
    (writes_then c.write_value.ensures
    (writes_then c.write_next_operand.ensures
    (writes_then c.write_next_operand-in-ImageSample.ensures
    (writes_then c.write_further.ensures
    (writes_then c.write_further-in-ImageSample.ensures
    (writes_then c.write_level.ensures
    (writes_then c.put.ensures
    (writes_then c.write_offset.ensures c.put-in-ImageSample.ensures)))))))))
