use Rattle.std.proofs.Common.{None, Some, subst}
use Rattle.naga_tables.proofs.UnsupportedDeclarations.{all_formed, of_constants, of_entry_points}
use Rattle.naga_tables.proofs.UnsupportedDeclarations.{of_functions}
use Rattle.naga_tables.proofs.UnsupportedDeclarations.{of_overrides, of_types, of_variables}
use Rattle.naga_tables.specs.Declarations.{EntryPointHasForm, FindsFirst, IsUnsupportedEntryPoint}
use Rattle.naga_tables.proofs.declarations.unsupported_declaration.Goals as goal

pub returns-in-Some-clause-some : goal.returns-in-Some-clause-some
returns-in-Some-clause-some c = (of_types c.args.module.now c.in-Some.unsupported c.in-Some.ensures).some

pub returns-in-Some-unsupported_in_constants-clause-some : goal.returns-in-Some-unsupported_in_constants-clause-some
returns-in-Some-unsupported_in_constants-clause-some c =
    let step = c.in-Some-unsupported_in_constants in
    (of_constants c.args.module.now c.in_default.ensures
    step.unsupported step.ensures).some

pub returns-in-Some-unsupported_in_overrides-clause-some : goal.returns-in-Some-unsupported_in_overrides-clause-some
returns-in-Some-unsupported_in_overrides-clause-some c =
    let step = c.in-Some-unsupported_in_overrides in
    (of_overrides c.args.module.now c.in_default.ensures c.in_default-unsupported_in_constants.ensures
    step.unsupported step.ensures).some

pub returns-in-Some-unsupported_in_variables-clause-some : goal.returns-in-Some-unsupported_in_variables-clause-some
returns-in-Some-unsupported_in_variables-clause-some c =
    let step = c.in-Some-unsupported_in_variables in
    (of_variables c.args.module.now c.in_default.ensures c.in_default-unsupported_in_constants.ensures
    c.in_default-unsupported_in_overrides.ensures
    step.unsupported step.ensures).some

pub returns-in-Some-unsupported_in_functions-clause-some : goal.returns-in-Some-unsupported_in_functions-clause-some
returns-in-Some-unsupported_in_functions-clause-some c =
    let step = c.in-Some-unsupported_in_functions in
    (of_functions c.args.module.now c.in_default.ensures c.in_default-unsupported_in_constants.ensures
    c.in_default-unsupported_in_overrides.ensures
    c.in_default-unsupported_in_variables.ensures step.unsupported step.ensures).some

pub returns-in-Some-unsupported_in_entry_points-clause-some :
    goal.returns-in-Some-unsupported_in_entry_points-clause-some
returns-in-Some-unsupported_in_entry_points-clause-some c =
    let step = c.in-Some-unsupported_in_entry_points in
    (of_entry_points c.args.module.now c.in_default.ensures c.in_default-unsupported_in_constants.ensures
    c.in_default-unsupported_in_overrides.ensures
    c.in_default-unsupported_in_variables.ensures c.in_default-unsupported_in_functions.ensures
    (step.index, step.construct)
    (subst (λ ps. FindsFirst ps (λ i. EntryPointHasForm) (λ i. i) (λ i. IsUnsupportedEntryPoint)
    (Some (step.index, step.construct))) c.deref.ensures.value step.ensures)).some

pub returns-in-Some-clause-stands : goal.returns-in-Some-clause-stands
returns-in-Some-clause-stands c = (of_types c.args.module.now c.in-Some.unsupported c.in-Some.ensures).stands

pub returns-in-Some-unsupported_in_constants-clause-stands : goal.returns-in-Some-unsupported_in_constants-clause-stands
returns-in-Some-unsupported_in_constants-clause-stands c =
    let step = c.in-Some-unsupported_in_constants in
    (of_constants c.args.module.now c.in_default.ensures
    step.unsupported step.ensures).stands

pub returns-in-Some-unsupported_in_overrides-clause-stands : goal.returns-in-Some-unsupported_in_overrides-clause-stands
returns-in-Some-unsupported_in_overrides-clause-stands c =
    let step = c.in-Some-unsupported_in_overrides in
    (of_overrides c.args.module.now c.in_default.ensures c.in_default-unsupported_in_constants.ensures
    step.unsupported step.ensures).stands

pub returns-in-Some-unsupported_in_variables-clause-stands : goal.returns-in-Some-unsupported_in_variables-clause-stands
returns-in-Some-unsupported_in_variables-clause-stands c =
    let step = c.in-Some-unsupported_in_variables in
    (of_variables c.args.module.now c.in_default.ensures c.in_default-unsupported_in_constants.ensures
    c.in_default-unsupported_in_overrides.ensures
    step.unsupported step.ensures).stands

pub returns-in-Some-unsupported_in_functions-clause-stands : goal.returns-in-Some-unsupported_in_functions-clause-stands
returns-in-Some-unsupported_in_functions-clause-stands c =
    let step = c.in-Some-unsupported_in_functions in
    (of_functions c.args.module.now c.in_default.ensures c.in_default-unsupported_in_constants.ensures
    c.in_default-unsupported_in_overrides.ensures
    c.in_default-unsupported_in_variables.ensures step.unsupported step.ensures).stands

pub returns-in-Some-unsupported_in_entry_points-clause-stands :
    goal.returns-in-Some-unsupported_in_entry_points-clause-stands
returns-in-Some-unsupported_in_entry_points-clause-stands c =
    let step = c.in-Some-unsupported_in_entry_points in
    (of_entry_points c.args.module.now c.in_default.ensures c.in_default-unsupported_in_constants.ensures
    c.in_default-unsupported_in_overrides.ensures
    c.in_default-unsupported_in_variables.ensures c.in_default-unsupported_in_functions.ensures
    (step.index, step.construct)
    (subst (λ ps. FindsFirst ps (λ i. EntryPointHasForm) (λ i. i) (λ i. IsUnsupportedEntryPoint)
    (Some (step.index, step.construct))) c.deref.ensures.value step.ensures)).stands

pub returns-in-Some-clause-first : goal.returns-in-Some-clause-first
returns-in-Some-clause-first c = (of_types c.args.module.now c.in-Some.unsupported c.in-Some.ensures).first

pub returns-in-Some-unsupported_in_constants-clause-first : goal.returns-in-Some-unsupported_in_constants-clause-first
returns-in-Some-unsupported_in_constants-clause-first c =
    let step = c.in-Some-unsupported_in_constants in
    (of_constants c.args.module.now c.in_default.ensures
    step.unsupported step.ensures).first

pub returns-in-Some-unsupported_in_overrides-clause-first : goal.returns-in-Some-unsupported_in_overrides-clause-first
returns-in-Some-unsupported_in_overrides-clause-first c =
    let step = c.in-Some-unsupported_in_overrides in
    (of_overrides c.args.module.now c.in_default.ensures c.in_default-unsupported_in_constants.ensures
    step.unsupported step.ensures).first

pub returns-in-Some-unsupported_in_variables-clause-first : goal.returns-in-Some-unsupported_in_variables-clause-first
returns-in-Some-unsupported_in_variables-clause-first c =
    let step = c.in-Some-unsupported_in_variables in
    (of_variables c.args.module.now c.in_default.ensures c.in_default-unsupported_in_constants.ensures
    c.in_default-unsupported_in_overrides.ensures
    step.unsupported step.ensures).first

pub returns-in-Some-unsupported_in_functions-clause-first : goal.returns-in-Some-unsupported_in_functions-clause-first
returns-in-Some-unsupported_in_functions-clause-first c =
    let step = c.in-Some-unsupported_in_functions in
    (of_functions c.args.module.now c.in_default.ensures c.in_default-unsupported_in_constants.ensures
    c.in_default-unsupported_in_overrides.ensures
    c.in_default-unsupported_in_variables.ensures step.unsupported step.ensures).first

pub returns-in-Some-unsupported_in_entry_points-clause-first :
    goal.returns-in-Some-unsupported_in_entry_points-clause-first
returns-in-Some-unsupported_in_entry_points-clause-first c =
    let step = c.in-Some-unsupported_in_entry_points in
    (of_entry_points c.args.module.now c.in_default.ensures c.in_default-unsupported_in_constants.ensures
    c.in_default-unsupported_in_overrides.ensures
    c.in_default-unsupported_in_variables.ensures c.in_default-unsupported_in_functions.ensures
    (step.index, step.construct)
    (subst (λ ps. FindsFirst ps (λ i. EntryPointHasForm) (λ i. i) (λ i. IsUnsupportedEntryPoint)
    (Some (step.index, step.construct))) c.deref.ensures.value step.ensures)).first

pub returns-in-None-clause-none : goal.returns-in-None-clause-none
returns-in-None-clause-none c =
    all_formed c.args.module.now c.in_default.ensures c.in_default-unsupported_in_constants.ensures
    c.in_default-unsupported_in_overrides.ensures
    c.in_default-unsupported_in_variables.ensures c.in_default-unsupported_in_functions.ensures
    (subst (λ ps. FindsFirst ps (λ i. EntryPointHasForm) (λ i. i) (λ i. IsUnsupportedEntryPoint) None)
    c.deref.ensures.value c.in-None.ensures)
