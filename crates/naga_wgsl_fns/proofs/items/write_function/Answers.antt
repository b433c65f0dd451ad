use Rattle.std.proofs.Common.{refl}
use Rattle.module_semantics.specs.FunctionNumbers.{function_number}
use Rattle.naga_tables.proofs.FilledTables.{items_in_order}
use Rattle.naga_wgsl_fns.proofs.SingleFunctions.{for_head, items_named, none_named, refused}
use Rattle.naga_wgsl_fns.proofs.items.write_function.Goals as goal

pub of-requires : goal.of-requires
of-requires g c = record {
  ordered = items_in_order c.args.«module».now c.args.info.now c.requires.accepted;
}

pub write_by_plan-requires-clause-known : goal.write_by_plan-requires-clause-known
write_by_plan-requires-clause-known g c = record {
  accepted = c.requires.accepted;
  named = c.requires.names;
  tables = c.in_ok-tables.ensures;
}

pub write_by_plan-requires-clause-words : goal.write_by_plan-requires-clause-words
write_by_plan-requires-clause-words g c = c.requires.namer.named.words

pub returns-in-Some-clause-function : goal.returns-in-Some-clause-function
returns-in-Some-clause-function g c =
    λ earlier has.
    let m = c.args.«module».now in
    let info = c.args.info.now in
    let content = g.W.TextSink.text c.args.out.now in
    let before = g.W.TextSink.failures c.args.out.now in
    refused m info c.args.flags earlier c.args.ty content before _ c.to_error.result
    c.args.namer.now refl
    (for_head m info c.args.flags earlier c.args.ty content before c.to_error.result
    (c.in-Some.construct, c.in-Some.ensures.some, c.to_error.ensures))
    (none_named m info c.args.flags earlier c.args.ty c.args.namer.now has)

pub returns-in_err-tables-clause-function : goal.returns-in_err-tables-clause-function
returns-in_err-tables-clause-function g c =
    λ earlier has.
    let m = c.args.«module».now in
    let info = c.args.info.now in
    refused m info c.args.flags earlier c.args.ty (g.W.TextSink.text c.args.out.now)
    (g.W.TextSink.failures c.args.out.now) c.from_residual.result _ c.args.namer.now
    c.from_residual.ensures.1 tt
    (none_named m info c.args.flags earlier c.args.ty c.args.namer.now has)

pub returns-clause-named : goal.returns-clause-named
returns-clause-named g c =
    items_named c.args.«module».now (function_number c.args.«module».now c.args.ty)
    c.args.namer.now c.write_by_plan.new.namer
    c.requires.namer c.write_by_plan.ensures.words c.write_by_plan.result
    (λ earlier has. let w = c.write_by_plan.ensures.function earlier has in (w.named_ok, w.named_err))
