use Rattle.std.proofs.Common.{◌≡◌, ℕ, None, refl, subst, sym}
use Rattle.std.specs.Prelude.{IsTrue}
use Rattle.module_semantics.specs.ExpressionForms.{global_has_form}
use Rattle.naga_ir.specs.declared.module.Module.{Module}
use Rattle.naga_refusals.specs.Constructs.{IsToldOf}
use Rattle.naga_tables.proofs.FilledTables.{items_in_order}
use Rattle.naga_tables.proofs.Refusals.{global_refusal_is, refused_lacks, unrefused_has}
use Rattle.naga_tables.specs.Refusals.{global_refusal}
use Rattle.naga_wgsl_shared.proofs.SingleExpressions.{global_for_form, global_refused}
use Rattle.naga_wgsl_shared.proofs.SingleExpressions.{global_writes}
use Rattle.naga_wgsl_shared.proofs.global_expressions.write_global_expression.Goals as goal

has_form_there : (m : Module) (h : ℕ) → None ≡ global_refusal m h → IsTrue (global_has_form m h)
has_form_there m h none =
    unrefused_has (global_refusal m h) (global_has_form m h) (global_refusal_is m h) (sym none)

pub of-requires : goal.of-requires
of-requires g c = record {
  ordered =
      items_in_order c.args.«module».now c.requires.accepted.0 c.requires.accepted.1;
}

pub returns-in_err-tables : goal.returns-in_err-tables
returns-in_err-tables g c =
    global_refused c.args.«module».now c.args.handle (g.W.TextSink.text c.args.out.now)
    (g.W.TextSink.failures c.args.out.now) c.from_residual.result _ c.from_residual.ensures.1 tt

pub write_written_global-requires : goal.write_written_global-requires
write_written_global-requires g c = record {
  can = record {
    of_module = record {
      info = c.requires.accepted.0;
      accepted = c.requires.accepted.1;
    };
    named = c.requires.names;
    tables = c.in_ok-tables.ensures;
  };
  has_form = has_form_there c.args.«module».now c.args.handle c.in-None.ensures;
}

pub returns : goal.returns
returns g c =
    global_writes c.args.«module».now c.args.handle c.requires.accepted.0 c.requires.accepted.1
    (has_form_there c.args.«module».now c.args.handle c.in-None.ensures)
    c.write_written_global.result (g.W.TextSink.text c.args.out.now)
    (g.W.TextSink.text c.write_written_global.new.out) (g.W.TextSink.failures c.args.out.now)
    (g.W.TextSink.failures c.write_written_global.new.out) c.write_written_global.ensures.text_ok
    c.write_written_global.ensures.text_err c.write_written_global.ensures.failures_ok
    c.write_written_global.ensures.reason

pub returns-in-Some : goal.returns-in-Some
returns-in-Some g c =
    let m = c.args.«module».now in
    let content = g.W.TextSink.text c.args.out.now in
    let before = g.W.TextSink.failures c.args.out.now in
    global_refused m c.args.handle content before _ c.to_error.result refl
    (global_for_form m c.args.handle content before c.to_error.result
    (refused_lacks (global_refusal m c.args.handle) (global_has_form m c.args.handle)
    (global_refusal_is m c.args.handle) c.in-Some.construct (sym c.in-Some.ensures))
    (subst (λ o. IsToldOf o c.to_error.result) c.in-Some.ensures c.to_error.ensures))
