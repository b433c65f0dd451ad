use Rattle.std.proofs.Common.{ℕ, ◌≡◌, ◌<◌, ap, length, nat_lt, subst, sym, ◌∙◌}
use Rattle.std.proofs.lemmas.Bool.{and_parts, ltb-true}
use Rattle.std.specs.Option.{is_some}
use Rattle.std.specs.Prelude.{IsTrue}
use Rattle.module_semantics.specs.acceptance.Ranges.{statement_in_range}
use Rattle.naga_ir.specs.StatementViews.{tree_of}
use Rattle.naga_ir.specs.declared.statement.Statement.{Statement}
use Rattle.naga_ir.specs.declared.statement.Statement.TheVariants as statement
use Rattle.naga_wgsl_fns.specs.FunctionText.{CanWriteStatement, callees}
use Rattle.naga_wgsl_fns.specs.declared.functions.FunctionText.{FunctionText}
use Rattle.naga_wgsl_fns.specs.Statements.{act_word}
use Rattle.naga_wgsl_fns.proofs.OwnNames.{callee_is, callee_is_named}
use Rattle.naga_wgsl_fns.proofs.functions.FunctionText.act_str.Goals as goal

pub returns-in-ImageAtomic : goal.returns-in-ImageAtomic
returns-in-ImageAtomic c =
    c.image_atomic_str.ensures (is_some c.in-ImageAtomic.array_index)
    ∙ ap (λ st. act_word c.args.self.now (tree_of st)) (sym c.in-ImageAtomic.is)

callee_before : (t : FunctionText) (st : Statement) (h : ℕ) (arguments : _) (result : _) →
    CanWriteStatement t (tree_of st) → st ≡ statement.Call h arguments result → h < callees t
callee_before t st h arguments result can is =
    let range =
    subst
    (λ st. IsTrue (statement_in_range (callees t) (length t.function.now.expressions) (tree_of st)))
    is can.in_range in
    ltb-true h (callees t) (and_parts (nat_lt h (callees t)) _ range).0

pub callee_str-requires : goal.callee_str-requires
callee_str-requires c =
    callee_is_named c.args.self.now c.requires.can c.in-Call.function
    (callee_before c.args.self.now c.args.statement.now c.in-Call.function _ _ c.requires.statement c.in-Call.is)

pub returns-in-Call : goal.returns-in-Call
returns-in-Call c =
    let self = c.args.self.now in
    c.callee_str.ensures
    ∙ (callee_is self c.requires.can c.in-Call.function
    (callee_before self c.args.statement.now c.in-Call.function _ _ c.requires.statement c.in-Call.is)
    ∙ ap (λ st. act_word self (tree_of st)) (sym c.in-Call.is))
