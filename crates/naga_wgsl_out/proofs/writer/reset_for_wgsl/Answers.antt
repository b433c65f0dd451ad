use Rattle.std.proofs.Common.{refl}
use Rattle.naga_wgsl_out.proofs.Names.{start_is, namer_after_reset, names_after_reset, refusal_of_reset}
use Rattle.naga_wgsl_out.proofs.writer.reset_for_wgsl.Goals as goal

pub returns-clause-ok : goal.returns-clause-ok
returns-clause-ok c =
    names_after_reset c.reset.result c.args.«module».now
    _ _ _ _ (start_is c.args.«module».now _ _ _ _ c.reserved_words-reserved.ensures c.builtin_words-builtin.ensures c.new.ensures
    refl) c.reset.ensures.ok c.reset.ensures.full c.reset.ensures.key_full

pub returns-clause-err : goal.returns-clause-err
returns-clause-err c =
    refusal_of_reset c.reset.result c.args.«module».now _
    (start_is c.args.«module».now _ _ _ _ c.reserved_words-reserved.ensures c.builtin_words-builtin.ensures c.new.ensures refl)
    c.reset.ensures.reason

pub returns-clause-namer : goal.returns-clause-namer
returns-clause-namer c =
    namer_after_reset c.reset.result c.args.«module».now _ _ _ _
    (start_is c.args.«module».now _ _ _ _ c.reserved_words-reserved.ensures c.builtin_words-builtin.ensures c.new.ensures refl)
    c.reset.ensures.ok
