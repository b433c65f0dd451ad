-- The words that a text may use before operands beside the names of its functions: those that ask
-- for an event, and those that are operators.
--
-- Throughout, structs are the names of the structs that the text declares.
use Rattle.std.specs.Prelude.{ℕ, List, map}
use Rattle.wgsl_text.specs.Declarations.{Program}
use Rattle.wgsl_text.specs.Operators.{is_operator}
use Rattle.wgsl_text.specs.Requests.{is_request}
use Rattle.shader_runs.specs.World.{Vocabulary}

-- by the names of its structs
abbrev pub vocabulary_of : (structs : List (List ℕ)) → Vocabulary
vocabulary_of structs = record { is_request = is_request; is_operator = is_operator structs }

-- of a program
abbrev pub vocabulary_read : Program → Vocabulary
vocabulary_read program = vocabulary_of (map (λ s. s.name) program.structs)
