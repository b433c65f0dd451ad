use Rattle.std.proofs.Common.{sym, ◌∙◌}
use Rattle.naga_words.proofs.Writing.{writes_as, writes_nothing}
use Rattle.naga_wgsl_fns.proofs.Preconditions.{known_resolution_fits, known_within_infos}
use Rattle.naga_wgsl_fns.proofs.Preconditions.{annotated_is_formed, annotated_row, undeclared_row}
use Rattle.naga_wgsl_fns.proofs.functions.FunctionText.write_let_type.Goals as goal

pub index-requires : goal.index-requires
index-requires g c = known_within_infos c.args.self.now c.requires.can c.args.handle c.requires.handle

pub names_undeclared-requires : goal.names_undeclared-requires
names_undeclared-requires g c = record { tables = c.requires.can.known.tables }

pub write_annotation-requires-clause-formed : goal.write_annotation-requires-clause-formed
write_annotation-requires-clause-formed g c =
    annotated_is_formed c.args.self.now c.requires.can c.args.handle c.index.result.now
    c.index.ensures
    c.requires.tells c.requires.named
    (sym c.names_undeclared.ensures ∙ c.if-not-names_undeclared.true)

pub write_annotation-requires-clause-fits : goal.write_annotation-requires-clause-fits
write_annotation-requires-clause-fits g c =
    known_resolution_fits c.args.self.now c.requires.can c.args.handle c.index.result.now c.index.ensures

pub returns-then-not-names_undeclared : goal.returns-then-not-names_undeclared
returns-then-not-names_undeclared g c =
    let self = c.args.self.now in
    let declared = sym c.names_undeclared.ensures ∙ c.if-not-names_undeclared.true in
    writes_as
    (annotated_row self c.requires.can c.args.handle c.index.result.now c.index.ensures
    c.requires.tells
    declared
    (annotated_is_formed self c.requires.can c.args.handle c.index.result.now c.index.ensures
    c.requires.tells c.requires.named declared))
    c.write_annotation.ensures

pub returns-else-not-names_undeclared : goal.returns-else-not-names_undeclared
returns-else-not-names_undeclared g c =
    writes_as
    (sym
    (undeclared_row c.args.self.now c.requires.can c.args.handle c.index.result.now c.index.ensures
    (sym c.names_undeclared.ensures ∙ c.if-not-names_undeclared.false)))
    (writes_nothing _)
