-- What stands in front of a module's functions, group by group.
-- Serves 11 contracts, `write_all` among them.
use Rattle.std.proofs.Common.{◌≡◌, ◌∙◌, ◌++◌, append_assoc, ap, refl, sym}
use Rattle.naga_ir.specs.declared.module.Module.{Module}
use Rattle.naga_words.specs.Output.{joined_texts}
use Rattle.wgsl_text.proofs.Declarations.{program_text}
use Rattle.wgsl_text.specs.Declarations.{Program, constants_pieces, enables_pieces}
use Rattle.wgsl_text.specs.Declarations.{globals_pieces, overrides_pieces, structs_pieces}
use Rattle.wgsl_text.specs.Functions.{entry_points_pieces, functions_pieces, group_end}
use Rattle.wgsl_text.specs.Reading.{printed_program}
use Rattle.wgsl_text.specs.Text.{text}
use Rattle.naga_wgsl_out.specs.Constants.{constants_text, overrides_text}
use Rattle.naga_wgsl_out.specs.Declarations.{declarations_of, declarations_text}
use Rattle.naga_wgsl_out.specs.Enables.{enables_text}
use Rattle.naga_wgsl_out.specs.Structs.{structs_text}
use Rattle.naga_wgsl_out.specs.Variables.{variables_text}

pub declarations_row : (m : Module) →
    declarations_text m ≡
    joined_texts (structs_text m)
    (joined_texts (constants_text m) (joined_texts (overrides_text m) (variables_text m)))
unfolding declarations_text structs_text constants_text overrides_text variables_text joined_texts
declarations_row m = refl

-- a whole text: what it enables, its declarations, its functions and its entry points
pub program_row : (p : Program) →
    printed_program p ≡
    enables_text p.enables ++
    (declarations_of p ++ (text (functions_pieces p.functions) ++ text (entry_points_pieces p.entry_points)))
program_row p =
    let enables = text (enables_pieces p.enables) in
    let after_enables = text (group_end p.enables) in
    let structs = text (structs_pieces p.structs) in
    let constants = text (constants_pieces p.constants) in
    let after_constants = text (group_end p.constants) in
    let overrides = text (overrides_pieces p.overrides) in
    let after_overrides = text (group_end p.overrides) in
    let globals = text (globals_pieces p.globals) in
    let after_globals = text (group_end p.globals) in
    let last = text (functions_pieces p.functions) ++ text (entry_points_pieces p.entry_points) in
    program_text p
    ∙ sym
    (append_assoc enables after_enables (declarations_of p ++ last)
    ∙ ap (λ t. enables ++ (after_enables ++ t))
    (append_assoc structs ((constants ++ after_constants)
    ++ ((overrides ++ after_overrides) ++ (globals ++ after_globals))) last
    ∙ ap (λ t. structs ++ t)
    (append_assoc (constants ++ after_constants) ((overrides ++ after_overrides) ++ (globals ++ after_globals)) last
    ∙ (append_assoc constants after_constants (((overrides ++ after_overrides) ++ (globals ++ after_globals)) ++ last)
    ∙ ap (λ t. constants ++ (after_constants ++ t))
    (append_assoc (overrides ++ after_overrides) (globals ++ after_globals) last
    ∙ (append_assoc overrides after_overrides ((globals ++ after_globals) ++ last)
    ∙ ap (λ t. overrides ++ (after_overrides ++ t))
    (append_assoc globals after_globals last)))))))
