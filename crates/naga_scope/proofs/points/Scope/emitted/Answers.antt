use Rattle.std.proofs.Common.{false, get_or, true, ap, subst, sym, ◌∙◌}
use Rattle.std.specs.Prelude.{IsTrue}
use Rattle.shader_runs.specs.Program.{expression_of, operands_of, is_pure}
use Rattle.shader_runs.specs.Scope.{usable_all}
use Rattle.module_semantics.specs.FunctionShapes.{function_shape}
use Rattle.naga_scope.specs.Log.{grows}
use Rattle.naga_scope.specs.declared.points.Availability.TheVariants.{Absent}
use Rattle.naga_scope.specs.declared.points.BoundName.TheVariants.{Numbered}
use Rattle.naga_scope.proofs.Logs.{bound_grows, emitted_grows, grows_refl}
use Rattle.std.specs.Option.{is_some}
use Rattle.module_semantics.specs.ExpressionLabels.{label_of}
use Rattle.naga_scope.specs.Availabilities.{handles_of, emitted_availability, is_pure_kind}
use Rattle.naga_scope.specs.Availabilities.{next_name, unbound_availability}
use Rattle.naga_scope.proofs.ShapeKinds.{pure_at, pure_operands}
use Rattle.naga_scope.proofs.points.Scope.emitted.Goals as goal

pub returns-then-is_bound-clause-emitted : goal.returns-then-is_bound-clause-emitted
returns-then-is_bound-clause-emitted c named m known es =
    let shape = function_shape m known c.args.function.now es in
    let e = expression_of shape c.args.handle in
    let u = usable_all shape (handles_of named c.args.self.now.table) (operands_of e) in
    let before = get_or c.args.self.now.table c.args.handle Absent in
    let bound = sym c.if-is_bound.true in
    λ i. emitted_availability (bound i) (is_pure e) u (c.next_name.ensures i) before

pub returns-then-is_operator-clause-emitted : goal.returns-then-is_operator-clause-emitted
returns-then-is_operator-clause-emitted c named m known es =
    let f = c.args.function.now in
    let h = c.args.handle in
    let shape = function_shape m known f es in
    let name = next_name (is_some (label_of f h)) c.args.self.now.named in
    let bound = sym c.if-is_bound.false in
    let pure = sym (c.is_operator.ensures ∙ ap is_pure_kind c.kind_at.ensures) ∙ c.if-is_operator.true in
    let operator = sym (pure_at m known f es h ∙ pure) in
    let operands = c.has_operands.ensures named m known es
    ∙ sym (ap (usable_all shape (handles_of named c.args.self.now.table)) (pure_operands m known f es h pure)) in
    c.unbound.ensures
    ∙ (λ i. emitted_availability (bound i) (operator i) (operands i) name
    (c.availability-before.ensures i))

pub returns-else-is_operator-clause-emitted : goal.returns-else-is_operator-clause-emitted
returns-else-is_operator-clause-emitted c named m known es =
    let f = c.args.function.now in
    let h = c.args.handle in
    let shape = function_shape m known f es in
    let name = next_name (is_some (label_of f h)) c.args.self.now.named in
    let u = usable_all shape (handles_of named c.args.self.now.table) (operands_of (expression_of shape h)) in
    let bound = sym c.if-is_bound.false in
    let other = sym (c.is_operator.ensures ∙ ap is_pure_kind c.kind_at.ensures) ∙ c.if-is_operator.false in
    let operator = sym (pure_at m known f es h ∙ other) in
    λ i. emitted_availability (bound i) (operator i) u name (c.availability-before.ensures i)

pub returns-then-is_bound-clause-grows : goal.returns-then-is_bound-clause-grows
returns-then-is_bound-clause-grows c = bound_grows _ _

pub returns-then-is_operator-clause-grows : goal.returns-then-is_operator-clause-grows
returns-then-is_operator-clause-grows c =
    let before = get_or c.args.self.now.table c.args.handle Absent in
    subst (λ x. IsTrue (grows before x))
    (sym (c.unbound.ensures ∙ ap (unbound_availability c.has_operands.result) c.availability-before.ensures))
    (emitted_grows false true c.has_operands.result Numbered before)

pub returns-else-is_operator-clause-grows : goal.returns-else-is_operator-clause-grows
returns-else-is_operator-clause-grows c =
    let before = get_or c.args.self.now.table c.args.handle Absent in
    subst (λ x. IsTrue (grows before x)) (sym c.availability-before.ensures) (grows_refl before)
