use Rattle.std.proofs.Common.{[], ◌∷◌, ap, map, string_bytes, sym, subst, ◌∙◌}
use Rattle.std.proofs.lemmas.List.{map-append}
use Rattle.naga_naming.proofs.Reset.{if_err}
use Rattle.naga_scope.specs.ExpressionNames.{NamesLabels, RefusesLabels}
use Rattle.naga_scope.proofs.ExpressionNames.{names_one, refused_one, refused_room}
use Rattle.naga_scope.proofs.named.name_label.Goals as goal

pub returns-in_err-name-clause-err : goal.returns-in_err-name-clause-err
returns-in_err-name-clause-err c =
    if_err c.from_residual.result c.in_err-name.field-0.0
    (RefusesLabels c.args.namer.now (c.args.label.now ∷ []) c.call.new.self) c.from_residual.ensures.1
    (refused_one c.args.namer.now c.call.new.self c.args.label.now c.in_err-name.field-0.0
    c.in_err-name.ensures.err c.in_err-name.ensures.reason)

pub returns-in_err-push-clause-err : goal.returns-in_err-push-clause-err
returns-in_err-push-clause-err c =
    if_err c.from_residual-in_err-push.result _
    (RefusesLabels c.args.namer.now (c.args.label.now ∷ []) c.call.new.self)
    c.from_residual-in_err-push.ensures.1
    (refused_room c.args.label.now _
    (names_one c.args.namer.now c.call.new.self [] c.args.label.now (string_bytes c.in_ok-name.name)
    c.in_ok-name.ensures.used c.in_ok-name.ensures.history c.in_ok-name.ensures.more_history)
    (λ earlier. tt))

pub returns-clause-ok : goal.returns-clause-ok
returns-clause-ok c =
    subst
    (NamesLabels c.args.namer.now (map string_bytes c.args.names.now.items) (c.args.label.now ∷ [])
    c.call.new.self)
    (sym (ap (map string_bytes) c.in_ok-push.ensures.items
    ∙ map-append string_bytes c.args.names.now.items (c.in_ok-name.name ∷ [])))
    (names_one c.args.namer.now c.call.new.self (map string_bytes c.args.names.now.items)
    c.args.label.now (string_bytes c.in_ok-name.name) c.in_ok-name.ensures.used
    c.in_ok-name.ensures.history c.in_ok-name.ensures.more_history)
