use Rattle.std.proofs.Common.{ap, ◌∙◌, subst, sym, codes}
use Rattle.naga_ir.specs.Operands.{own_operands, own_result}
use Rattle.naga_words.proofs.Writing.{writes_as}
use Rattle.naga_wgsl_fns.specs.FunctionText.{AreInText, CanWriteStatement, handles_in}
use Rattle.naga_wgsl_fns.specs.Statements.{act_text, statement_text}
use Rattle.naga_wgsl_fns.proofs.StatementParts.{stored_operands, stored_pointer, stored_value}
use Rattle.naga_wgsl_fns.proofs.StatementRows.{store_to_atomic, store_to_other}
use Rattle.naga_wgsl_fns.proofs.Preconditions.{known_within_infos}
use Rattle.naga_wgsl_fns.proofs.functions.FunctionText.write_store.Goals as goal

pub is_atomic_pointer-requires-clause-handle : goal.is_atomic_pointer-requires-clause-handle
is_atomic_pointer-requires-clause-handle g c =
    let self = c.args.self.now in
    let inside = subst (CanWriteStatement self) c.requires.stored c.requires.statement in
    known_within_infos self c.requires.can c.args.pointer (stored_pointer self c.args.pointer c.args.value inside).there

pub write_act_line-requires-clause-operands : goal.write_act_line-requires-clause-operands
write_act_line-requires-clause-operands g c =
    let self = c.args.self.now in
    subst (λ st. AreInText self (own_operands st)) (sym c.requires.stored)
    (stored_operands self c.args.pointer c.args.value
    (subst (CanWriteStatement self) c.requires.stored c.requires.statement))

pub write_assignment-requires-clause-pointer : goal.write_assignment-requires-clause-pointer
write_assignment-requires-clause-pointer g c =
    let self = c.args.self.now in
    stored_pointer self c.args.pointer c.args.value
    (subst (CanWriteStatement self) c.requires.stored c.requires.statement)

pub write_assignment-requires-clause-value : goal.write_assignment-requires-clause-value
write_assignment-requires-clause-value g c =
    let self = c.args.self.now in
    stored_value self c.args.pointer c.args.value
    (subst (CanWriteStatement self) c.requires.stored c.requires.statement)

pub returns-then-is_atomic_pointer : goal.returns-then-is_atomic_pointer
returns-then-is_atomic_pointer g c =
    let self = c.args.self.now in
    let k = c.args.at.now.scope.named in
    let s = handles_in self c.args.at.now.scope.table in
    let i = c.args.at.now.indent in
    writes_as
    (ap (λ st. act_text self s i (codes "atomicStore") (own_operands st) (own_result st)) c.requires.stored
    ∙ (store_to_atomic self k s i c.args.pointer c.args.value
    (sym c.is_atomic_pointer.ensures ∙ c.if-is_atomic_pointer.true)
    ∙ ap (statement_text self k s i) (sym c.requires.stored)))
    c.write_act_line.ensures

pub returns-else-is_atomic_pointer : goal.returns-else-is_atomic_pointer
returns-else-is_atomic_pointer g c =
    let self = c.args.self.now in
    let k = c.args.at.now.scope.named in
    let s = handles_in self c.args.at.now.scope.table in
    let i = c.args.at.now.indent in
    writes_as
    (store_to_other self k s i c.args.pointer c.args.value
    (sym c.is_atomic_pointer.ensures ∙ c.if-is_atomic_pointer.false)
    ∙ ap (statement_text self k s i) (sym c.requires.stored))
    c.write_assignment.ensures
