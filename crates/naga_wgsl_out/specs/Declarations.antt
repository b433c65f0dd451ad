-- The text of what a module declares in front of its functions.
use Rattle.std.specs.Prelude.{ℕ, ◌++◌, List}
use Rattle.naga_ir.specs.declared.module.Module.{Module}
use Rattle.wgsl_text.specs.Declarations.{Program, constants_pieces, globals_pieces}
use Rattle.wgsl_text.specs.Declarations.{no_declarations, overrides_pieces, structs_pieces}
use Rattle.wgsl_text.specs.Functions.{group_end}
use Rattle.wgsl_text.specs.Text.{text}
use Rattle.naga_wgsl_out.specs.Constants.{constants_of, overrides_of}
use Rattle.naga_wgsl_out.specs.Structs.{structs_of}
use Rattle.naga_wgsl_out.specs.Variables.{globals_of}

-- what stands in a text between what it enables and its functions
abbrev pub declarations_of : Program → List ℕ
declarations_of p =
    text (structs_pieces p.structs) ++
    ((text (constants_pieces p.constants) ++ text (group_end p.constants)) ++
    ((text (overrides_pieces p.overrides) ++ text (group_end p.overrides)) ++
    (text (globals_pieces p.globals) ++ text (group_end p.globals))))

-- the structs of the module, its constants that have names, its overrides and its variables
unfoldable pub declarations_text : Module → List ℕ
declarations_text m =
    declarations_of (record no_declarations {
      structs = structs_of m;
      constants = constants_of m;
      overrides = overrides_of m;
      globals = globals_of m;
    })
