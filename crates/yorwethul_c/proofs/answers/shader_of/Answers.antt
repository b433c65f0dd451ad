use Rattle.std.proofs.Common.{◌≡◌, IfErr, IfOk, None, OnOk, string_bytes, subst}
use Rattle.module_answers.specs.Shaders.{IsInfoOf, TellsUnasked}
use Rattle.module_limits.specs.Nesting.{nested_past}
use Rattle.yorwethul_c.specs.Answers.{SaysOfUnasked, deepest_nesting}
use Rattle.yorwethul_c.proofs.Told.{not_asked}
use Rattle.yorwethul_c.proofs.answers.shader_of.Goals as goal

pub returns-in-Ok-clause-its_info : goal.returns-in-Ok-clause-its_info
returns-in-Ok-clause-its_info c =
    subst (λ r. IfOk r (IsInfoOf c.args.given.module c.args.given.info)) c.in-Ok.is c.info_within.ensures.info

pub returns-in-Ok-clause-nested : goal.returns-in-Ok-clause-nested
returns-in-Ok-clause-nested c =
    subst (λ r. OnOk r (nested_past deepest_nesting c.args.given.module ≡ None)) c.in-Ok.is c.info_within.ensures.nested

pub returns-in-Err-clause-unread : goal.returns-in-Err-clause-unread
returns-in-Err-clause-unread c =
    let given = c.args.given in
    λ json stands. not_asked json given c.in-Err.unasked _ _ stands
    (subst (λ r. IfErr r (TellsUnasked deepest_nesting given.module given.info)) c.in-Err.is
    c.info_within.ensures.unasked)
    (subst (λ from. SaysOfUnasked from given.module c.in-Err.unasked c.not_asked.result.status
    (string_bytes c.not_asked.result.text)) c.holder_of-holder.ensures c.not_asked.ensures)
