-- Short words for the programs of right texts, whose names are those of a module.
--
-- Throughout, w is a name and t a type.
use Rattle.std.proofs.Common.{ℕ, List, [], ◌∷◌}
use Rattle.wgsl_text.specs.Declarations.{Program}
use Rattle.wgsl_text.specs.Functions.{Local, Parameter, Result}
use Rattle.wgsl_text.specs.Statements.{Statement}
use Rattle.wgsl_text.specs.Types.{TypeSpecifier}
use Rattle.wgsl_text.specs.WorkedTrees.{of_functions, statements}

abbrev pub parameter_named : (w : List ℕ) → TypeSpecifier → Parameter
parameter_named w t = record { attributes = []; name = w; type = t }

-- the program of this function alone
abbrev pub program_named : (w : List ℕ) → List Parameter → Result → List Local → List Statement → Program
program_named w parameters result locals body =
    of_functions (
    record {
      name = w;
      parameters = parameters;
      result = result;
      locals = locals;
      body = statements body;
    } ∷ [])
