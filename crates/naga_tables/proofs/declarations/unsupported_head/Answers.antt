use Rattle.std.proofs.Common.{subst, sym}
use Rattle.std.specs.Prelude.{IfNone, IfSome}
use Rattle.std.proofs.lemmas.Option.{slice_get_read}
use Rattle.module_semantics.specs.DeclarationForms.{HeadHasForm}
use Rattle.module_semantics.specs.FunctionNumbers.{IsFunctionOf, function_number}
use Rattle.naga_tables.proofs.UnsupportedDeclarations.{entry_point_with, entry_point_without}
use Rattle.naga_tables.proofs.UnsupportedDeclarations.{function_with, function_without}
use Rattle.naga_tables.specs.Declarations.{IsUnsupportedHead}
use Rattle.naga_tables.proofs.declarations.unsupported_head.Goals as goal

pub returns-in-Function-clause-none : goal.returns-in-Function-clause-none
returns-in-Function-clause-none c =
    let m = c.args.module.now in
    let found = c.unsupported_io.result in
    subst (λ ty. IfNone found (HeadHasForm m (function_number m ty))) (sym c.in-Function.is)
    (function_without m c.in-Function.handle c.index.result.now c.index.ensures found c.unsupported_io.ensures)

pub returns-in-Function-clause-some : goal.returns-in-Function-clause-some
returns-in-Function-clause-some c =
    let m = c.args.module.now in
    let found = c.unsupported_io.result in
    subst (λ ty. IfSome found (IsUnsupportedHead m (function_number m ty))) (sym c.in-Function.is)
    (function_with m c.in-Function.handle c.index.result.now c.index.ensures found c.unsupported_io.ensures)

pub returns-in-EntryPoint-clause-none : goal.returns-in-EntryPoint-clause-none
returns-in-EntryPoint-clause-none c =
    let m = c.args.module.now in
    let found = c.unsupported_entry_point.result in
    let within = subst (λ ty. IsFunctionOf ty m) c.in-EntryPoint.is c.requires.there in
    let there = slice_get_read m.entry_points.items m.entry_points.len c.in-EntryPoint.index
    c.index-in-EntryPoint.result.now
    m.entry_points.ok.0 within c.index-in-EntryPoint.ensures in
    subst (λ ty. IfNone found (HeadHasForm m (function_number m ty))) (sym c.in-EntryPoint.is)
    (entry_point_without m c.in-EntryPoint.index c.index-in-EntryPoint.result.now there found
    c.unsupported_entry_point.ensures)

pub returns-in-EntryPoint-clause-some : goal.returns-in-EntryPoint-clause-some
returns-in-EntryPoint-clause-some c =
    let m = c.args.module.now in
    let found = c.unsupported_entry_point.result in
    let within = subst (λ ty. IsFunctionOf ty m) c.in-EntryPoint.is c.requires.there in
    let there = slice_get_read m.entry_points.items m.entry_points.len c.in-EntryPoint.index
    c.index-in-EntryPoint.result.now
    m.entry_points.ok.0 within c.index-in-EntryPoint.ensures in
    subst (λ ty. IfSome found (IsUnsupportedHead m (function_number m ty))) (sym c.in-EntryPoint.is)
    (entry_point_with m c.in-EntryPoint.index c.index-in-EntryPoint.result.now there found
    c.unsupported_entry_point.ensures)
