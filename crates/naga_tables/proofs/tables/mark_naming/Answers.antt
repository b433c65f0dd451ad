use Rattle.std.proofs.Common.{◌≡◌, ◌<◌, ◌∙◌, ap, arith, false, length, subst, sym}
use Rattle.std.specs.Prelude.{slice_get, if◌then◌else◌}
use Rattle.module_semantics.specs.Undeclared.{handle_names_undeclared}
use Rattle.naga_spelling.specs.Spelling.{is_struct}
use Rattle.naga_tables.proofs.FilledTables.{naming_by, no_type_beyond}
use Rattle.naga_tables.proofs.WrittenConstants.{CellsBelow, all_below, none_below, one_below}
use Rattle.naga_tables.specs.Marks.{is_marked}
use Rattle.naga_tables.specs.Tables.{is_marked_over}
use Rattle.naga_tables.proofs.tables.mark_naming.Goals as goal

pub loop-index-init : goal.loop-index-init
loop-index-init c =
    let m = c.args.module.now in
    none_below false (handle_names_undeclared m) (length m.types) c.args.marks.now c.requires.size

pub loop-index-preserved : goal.loop-index-preserved
loop-index-preserved c =
    let m = c.args.module.now in
    let end = c.len-index-end.ensures in
    let test = c.loop-index-test.true in
    let within : c.loop-index.index < length m.types = omega (arith, end, test) in
    let it = c.index.result.now.inner in
    let at = ap (slice_get m.types) (sym c.from_index-handle.ensures) ∙ c.index.ensures in
    one_below false (handle_names_undeclared m) (length m.types) c.loop-index.marks c.loop-index.index
    c.names_by-names.result within
    (c.names_by-names.ensures
    ∙ (ap
    (λ h. if is_struct it then is_marked c.args.undeclared.now h
    else is_marked_over c.loop-index.marks it)
    c.from_index-handle.ensures
    ∙ naming_by m c.requires.ordered.types c.loop-index.index c.index.result.now at
    c.args.undeclared.now c.requires.undeclared c.loop-index.marks c.loop-index.invariant))
    c.loop-index.invariant

pub returns : goal.returns
returns c =
    let m = c.args.module.now in
    let end = c.len-index-end.ensures in
    let test = c.loop-index-test.false in
    let last = c.loop-index.auto.index-end in
    let all : c.loop-index.index ≡ length m.types = omega (arith, end, test, last) in
    all_below false (handle_names_undeclared m) (length m.types) (no_type_beyond m) c.loop-index.marks
    (subst (CellsBelow false (handle_names_undeclared m) (length m.types) c.loop-index.marks) all
    c.loop-index.invariant)
