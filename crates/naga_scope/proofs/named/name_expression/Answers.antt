use Rattle.std.proofs.Common.{ap, map, string_bytes, sym, subst, ◌∙◌}
use Rattle.std.specs.Prelude.{IfErr, OnOk}
use Rattle.std.specs.Option.{option_map, option_to_list}
use Rattle.naga_scope.specs.ExpressionNames.{NamesLabels, RefusesLabels}
use Rattle.naga_scope.proofs.ExpressionNames.{names_none}
use Rattle.naga_scope.proofs.named.name_expression.Goals as goal

pub returns-in-Some-clause-ok : goal.returns-in-Some-clause-ok
returns-in-Some-clause-ok c =
    let is = sym c.label_of.ensures ∙ ap (option_map (λ l. l.now)) c.in-Some.is in
    subst (λ o. OnOk c.name_label.result
    (NamesLabels c.args.namer.now (map string_bytes c.args.names.now.items)
    (option_to_list o) c.name_label.new.namer (map string_bytes c.name_label.new.names.items)))
    (sym is) c.name_label.ensures.ok

pub returns-in-Some-clause-err : goal.returns-in-Some-clause-err
returns-in-Some-clause-err c =
    let is = sym c.label_of.ensures ∙ ap (option_map (λ l. l.now)) c.in-Some.is in
    subst (λ o. IfErr c.name_label.result
    (RefusesLabels c.args.namer.now (option_to_list o) c.name_label.new.namer)) (sym is) c.name_label.ensures.err

pub returns-in-None-clause-ok : goal.returns-in-None-clause-ok
returns-in-None-clause-ok c =
    let is = sym c.label_of.ensures ∙ ap (option_map (λ l. l.now)) c.in-None.is in
    subst (λ o. NamesLabels c.args.namer.now (map string_bytes c.args.names.now.items)
    (option_to_list o) c.args.namer.now (map string_bytes c.args.names.now.items)) (sym is) (names_none _ _)
