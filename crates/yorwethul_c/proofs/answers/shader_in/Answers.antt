use Rattle.std.proofs.Common.{◌≡◌, IfOk, subst}
use Rattle.naga_json.specs.Modules.{seen_given, text_given_said}
use Rattle.naga_json.specs.Said.{Gives}
use Rattle.yorwethul_c.specs.Answers.{IsGivenIn}
use Rattle.yorwethul_c.proofs.Told.{given_in, read_so}
use Rattle.yorwethul_c.proofs.answers.shader_in.Goals as goal

pub returns-in-Ok-read_given-clause-read : goal.returns-in-Ok-read_given-clause-read
returns-in-Ok-read_given-clause-read c =
    let stands = given_in c.args.json.now c.in-Ok.text.now c.in-Ok-read_given.given c.read_given.result
    c.in-Ok.ensures.cases c.in-Ok-read_given.is c.read_given.ensures.said in
    read_so c.args.json.now c.in-Ok-read_given.given c.shader_of.result stands c.shader_of.ensures.its_module
    c.shader_of.ensures.its_holder c.shader_of.ensures.its_info c.shader_of.ensures.nested

pub returns-in-Ok-read_given-clause-unread : goal.returns-in-Ok-read_given-clause-unread
returns-in-Ok-read_given-clause-unread c =
    let stands = given_in c.args.json.now c.in-Ok.text.now c.in-Ok-read_given.given c.read_given.result
    c.in-Ok.ensures.cases c.in-Ok-read_given.is c.read_given.ensures.said in
    c.shader_of.ensures.unread c.args.json.now stands
