use Rattle.std.proofs.Common.{ap, sym, ◌∙◌, Some}
use Rattle.naga_wgsl_fns.proofs.PartRows.{is_prefix, no_prefix, signed_named, signed_unnamed}
use Rattle.naga_wgsl_fns.proofs.functions.FunctionText.is_signed.Goals as goal

pub returns-in-Bound : goal.returns-in-Bound
returns-in-Bound c =
    signed_named c.args.self.now c.args.scope.now.table c.args.handle c.requires.can c.requires.handle
    c.availability.result c.availability.ensures _ c.in-Bound.is

pub returns-in-Unary : goal.returns-in-Unary
returns-in-Unary c =
    sym (ap (λ e. is_prefix (Some e)) c.in-Unary.is)
    ∙ signed_unnamed c.args.self.now c.args.scope.now.table c.args.handle c.requires.can c.requires.handle
    c.availability.result c.availability.ensures c.in_default.not-Bound c.index.result.now
    c.index.ensures

pub returns-in_default-matches : goal.returns-in_default-matches
returns-in_default-matches c =
    no_prefix c.index.result.now c.in_default-matches.not-Unary
    ∙ signed_unnamed c.args.self.now c.args.scope.now.table c.args.handle c.requires.can c.requires.handle
    c.availability.result c.availability.ensures c.in_default.not-Bound c.index.result.now
    c.index.ensures
