-- Worked programs that are too large to be written out: their texts by recursion.
--
-- Throughout, n is the depth.
use Rattle.std.specs.Prelude.{◌≡◌, ℕ, zero, suc, ◌*◌, List, [], ◌∷◌, ◌++◌, codes, length, replicate}
use Rattle.wgsl_text.specs.Types.{Template, NoTemplateArguments, TypeArgument}
use Rattle.wgsl_text.specs.Expressions.{Add, Expression, Binary, Index}
use Rattle.wgsl_text.specs.Statements.{ReturnValue, Block, Statements, NoStatements, Then}
use Rattle.wgsl_text.specs.Functions.{NoResult, ResultOf}
use Rattle.wgsl_text.specs.Declarations.{Program}
use Rattle.wgsl_text.specs.WorkedTrees.{IsText, named_type, name, parameter, function, of_functions}

-- blocks, each inside the one before
abbrev pub nested_blocks : ℕ → Statements
nested_blocks zero = NoStatements
nested_blocks (suc n) = Then (Block (nested_blocks n)) NoStatements

abbrev pub deep : Program
deep =
    of_functions (record {
      name = codes "deep";
      parameters = [];
      result = NoResult;
      locals = [];
      body = nested_blocks 32;
    } ∷ [])

-- their lines, from a level on
abbrev pub nested_text : ℕ → ℕ → List ℕ
nested_text zero level = []
nested_text (suc n) level =
    replicate (4 * level) 32 ++ (codes "{\n" ++ (nested_text n (suc level) ++
    (replicate (4 * level) 32 ++ codes "}\n")))

abbrev pub deep_text : List ℕ
deep_text = codes "fn deep() {\n" ++ (nested_text 32 1 ++ codes "}\n\n")

-- an operand that is used twice at each level
abbrev pub doubled_operand : ℕ → Expression
doubled_operand zero = Index (name "t") (name "x")
doubled_operand (suc n) = Index (name "t") (Binary (doubled_operand n) Add (doubled_operand n))

abbrev pub double : Program
double = of_functions (
    function "d"
    (parameter "t"
    (Template (codes "vec4") (TypeArgument (named_type "i32") NoTemplateArguments)) ∷
    parameter "x" (named_type "i32") ∷ []) (ResultOf [] (named_type "i32")) [] (
    ReturnValue (doubled_operand 12) ∷ []) ∷ [])

abbrev pub doubled_text : ℕ → List ℕ
doubled_text zero = codes "t[x]"
doubled_text (suc n) =
    codes "t[(" ++ (doubled_text n ++ (codes " + " ++ (doubled_text n ++ codes ")]")))

abbrev pub double_text : List ℕ
double_text =
    codes "fn d(t: vec4<i32>, x: i32) -> i32 {\n    return " ++ (doubled_text 12 ++
    codes ";\n}\n\n")

pub record LargePrograms : Type 0 where
  pub deep : IsText deep deep_text
  pub deep_length : length deep_text ≡ 4367
  pub double : IsText double double_text
  pub double_length : length (doubled_text 12) ≡ 49144
