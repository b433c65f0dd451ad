use Rattle.std.proofs.Common.{◌∙◌, ◌≡◌, ap, subst, sym, refl, length, arith}
use Rattle.std.specs.Option.{option_to_list}
use Rattle.module_semantics.specs.Names.{module_names}
use Rattle.naga_ir.specs.Operands.{own_operands, own_result}
use Rattle.naga_ir.specs.StatementViews.{tree_of}
use Rattle.naga_scope.proofs.Logs.{extends_refl}
use Rattle.naga_scope.specs.Changes.{statement_changes}
use Rattle.naga_words.proofs.Writing.{writes_as}
use Rattle.shader_runs.specs.Scope.{after_result}
use Rattle.naga_wgsl_fns.specs.FunctionText.{AreInText, bound, handles_in, named_in, naming, number}
use Rattle.naga_wgsl_fns.specs.Statements.{act_text}
use Rattle.naga_wgsl_fns.proofs.StatementRows.{act_after, act_changes, act_is, act_named, act_handles}
use Rattle.naga_wgsl_fns.proofs.functions.FunctionText.write_act.Goals as goal

pub write_act_line-requires-clause-operands : goal.write_act_line-requires-clause-operands
write_act_line-requires-clause-operands g c =
    let self = c.args.self.now in
    subst (AreInText self) (act_handles (bound self) (tree_of c.args.statement.now) c.requires.act)
    c.requires.statement.written

pub returns-in-Some-clause-text : goal.returns-in-Some-clause-text
returns-in-Some-clause-text g c =
    let self = c.args.self.now in
    let st = tree_of c.args.statement.now in
    let s = handles_in self c.args.at.now.scope.table in
    let i = c.args.at.now.indent in
    writes_as
    (ap (λ word. act_text self s i word (own_operands st) (own_result st)) c.act_str-word.ensures
    ∙ act_is self c.args.at.now.scope.named s i st c.requires.act)
    c.write_act_line.ensures

pub returns-in_default-clause-text : goal.returns-in_default-clause-text
returns-in_default-clause-text g c =
    let self = c.args.self.now in
    let st = tree_of c.args.statement.now in
    let s = handles_in self c.args.at.now.scope.table in
    let i = c.args.at.now.indent in
    writes_as
    (ap (λ word. act_text self s i word (own_operands st) (own_result st)) c.act_str-word.ensures
    ∙ act_is self c.args.at.now.scope.named s i st c.requires.act)
    c.write_act_line.ensures

pub returns-in-Some-clause-after : goal.returns-in-Some-clause-after
returns-in-Some-clause-after g c =
    let self = c.args.self.now in
    let s = handles_in self c.args.at.now.scope.table in
    c.introduce.ensures.handles (module_names self.known.shader.now) self.known.shader.now (named_in self) (number self)
    ∙ (ap (λ o. after_result (naming self).names o s) (sym c.in-Some.is ∙ c.result.ensures)
    ∙ act_after self c.args.at.now.scope.named s (tree_of c.args.statement.now) c.requires.act)

pub returns-in-Some-clause-passed : goal.returns-in-Some-clause-passed
returns-in-Some-clause-passed g c =
    let st = tree_of c.args.statement.now in
    let one : statement_changes st ≡ 1 = act_changes st c.requires.act ∙ ap (λ o. length (option_to_list o))
    (sym c.result.ensures ∙ c.in-Some.is) in
    let log = c.introduce.ensures.counted.log in
    let names = c.introduce.ensures.counted.names in
    record {
      named = c.introduce.ensures.named ∙ sym (act_named c.args.self.now c.args.at.now.scope.named st c.requires.act);
      counted = record { log = omega (arith, log, one); names = omega (arith, names, one) };
      indent = refl;
    }

pub returns-in_default-clause-passed : goal.returns-in_default-clause-passed
returns-in_default-clause-passed g c = record {
  named = sym (act_named c.args.self.now c.args.at.now.scope.named (tree_of c.args.statement.now) c.requires.act);
  counted = record { log = omega arith; names = omega arith };
  indent = refl;
}

pub returns-in_default-clause-kept : goal.returns-in_default-clause-kept
returns-in_default-clause-kept g c = extends_refl c.args.at.now.scope
