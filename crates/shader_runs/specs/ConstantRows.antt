-- A module with named constants and an override: what both
-- sides compute, and what texts with other initialisers do.
--
-- Throughout, b is the value of the override, i the tree of the initialiser of N.
use Rattle.std.specs.Prelude.{◌≡◌, ℕ, ◌+◌, ◌*◌, pos, cond, [], ◌∷◌, get_or, Option, Some, None}
use Rattle.std.specs.Prelude.{codes, true, false, nat_eq}
use Rattle.shader_runs.specs.Value.{Bytes, same_bytes, OtherType, Value, Whole, Opaque}
use Rattle.shader_runs.specs.Value.{BooleanType, MemberNamed, ShortCircuitAnd, Truth}
use Rattle.shader_runs.specs.Value.{Spelled, PartWord, IndexWord}
use Rattle.shader_runs.specs.World.{Entry, Meaning, Settings, Vocabulary}
use Rattle.shader_runs.specs.Outcome.{ReachedOrHalted, Gives, Halts, Stuck}
use Rattle.shader_runs.specs.Program.{ConstantTree, Fixed, NamedConstant, Composed, no_constant}
use Rattle.shader_runs.specs.Program.{constant, Constant, Return, end, then, Function, Module}
use Rattle.shader_runs.specs.Program.{AtPlace, Indexing, Picking, Joining, Jumps}
use Rattle.shader_runs.specs.Text.{Tree, Name, LiteralOf, Apply, no_more, more, last}
use Rattle.shader_runs.specs.Text.{before, Index, PartOf, LogicalOf, TextModule, JumpLine}
use Rattle.shader_runs.specs.Constants.{run_module, follow_module}
use Rattle.shader_runs.specs.Scope.{ModuleNames, Naming}
use Rattle.shader_runs.specs.Form.{form_module}
use Rattle.shader_runs.specs.Premises.{ConstantsFit, SettingsFit}
use Rattle.shader_runs.specs.WorkedFunctions.{no_parts, i32, number, numbered_name, row_world}
use Rattle.shader_runs.specs.WorkedFunctions.{row_vocabulary, text_of}

-- the type `vec2<i32>`
abbrev pub pair_word : Bytes
pair_word = codes "vec2<i32>"

-- a pointer to a variable of it
abbrev pub private_pair : Bytes
private_pair = codes "ptr<private, vec2<i32>>"

-- two digits as one value of it
abbrev pub pair : ℕ → ℕ → Value
pair a b = Opaque pair_word (10 * a + b)

-- the digits of the pair of 3 and 4, which is 34; other pairs have zeros
abbrev pub digit : (pair place : ℕ) → ℕ
digit n i = cond (nat_eq n 34) (get_or (3 ∷ 4 ∷ []) i 0) 0

-- the meaning of these rows: a pair of digits, and the digits of one
abbrev pub pair_meaning : Meaning
pair_meaning (Spelled w) (Whole s (pos a) ∷ Whole r (pos b) ∷ []) =
    cond (same_bytes w pair_word) (pair a b) (number 0)
pair_meaning IndexWord (Opaque w n ∷ Whole s (pos i) ∷ []) = number (digit n i)
pair_meaning (PartWord (MemberNamed x)) (Opaque w n ∷ []) =
    number (digit n (cond (same_bytes x (codes "x")) 0 1))
pair_meaning w vs = number 0

-- returns the first constant
abbrev pub pair_function : Function
pair_function =
    record {
      argument_types = [];
      result = Some (OtherType pair_word);
      first_values = [];
      local_pointers = [];
      expressions = Constant (NamedConstant 0) ∷ [];
      types = OtherType pair_word ∷ [];
      bound_by_uses = [];
      named_expressions = [];
      body = then (Jumps (Return (Some 0))) end;
    }

-- what P is: a pair of the constant 1 and the override, which is 2
abbrev pub pair_initialiser : ConstantTree
pair_initialiser =
    Composed pair_word (OtherType pair_word)
    (constant (NamedConstant 1) (constant (NamedConstant 2) no_constant))

-- the constant P; the constant N, which P names and which
-- is declared after it; the override m; a variable v
abbrev pub module_of : ConstantTree → Module
module_of i =
    record {
      constant_types = OtherType pair_word ∷ i32 ∷ i32 ∷ [];
      initialisers = pair_initialiser ∷ i ∷ [];
      globals = AtPlace private_pair ∷ [];
      parts = no_parts;
      functions = pair_function ∷ [];
    }

-- N is 6
abbrev pub pair_module : Module
pair_module = module_of (Fixed (number 6))

-- the words: that of a pair is an operator
abbrev pub pair_vocabulary : Vocabulary
pair_vocabulary = record row_vocabulary { is_operator = same_bytes pair_word }

-- the names
abbrev pub pair_names : ModuleNames
pair_names =
    record {
      constant = λ i. get_or (codes "P" ∷ codes "N" ∷ codes "m" ∷ []) i [];
      global = λ i. codes "v";
      function = λ g. codes "f";
      vocabulary = pair_vocabulary;
    }

-- the function with them
abbrev pub pair_naming : Naming
pair_naming =
    record {
      function = pair_function;
      names = record {
        outer = pair_names;
        argument = λ i. [];
        local_ = λ i. [];
        named = λ k. [];
        numbered = numbered_name;
        earlier = 0;
      };
    }

-- `vec2<i32>(N, m)`
abbrev pub pair_tree : Tree
pair_tree = Apply pair_word (more (Name (codes "N")) (more (Name (codes "m")) no_more))

-- `P` as that, `N` with this initialiser, `m` and `v`, and a function that returns `P`
abbrev pub pair_text : Tree → TextModule
pair_text initialiser =
    record {
      constants =
          record { name = codes "P"; initialiser = pair_tree }
          ∷ record { name = codes "N"; initialiser = initialiser }
          ∷ [];
      overrides = codes "m" ∷ [];
      globals = record { name = codes "v"; pointer = Some private_pair } ∷ [];
      functions =
          text_of (codes "f") [] [] (before (JumpLine (Return (Some (Name (codes "P"))))) last) ∷ [];
    }

-- a value of the override
abbrev pub with_override : ℕ → Settings
with_override b = record { overrides = number b ∷ []; globals = None ∷ [] }

-- what the module does, with this initialiser and where N is 6
abbrev pub run_of : ConstantTree → ℕ → ReachedOrHalted (Option Value)
run_of i b = run_module (module_of i) (with_override b) row_world pair_meaning 1 0 [] []

abbrev pub run_pair : ℕ → ReachedOrHalted (Option Value)
run_pair = run_of (Fixed (number 6))

-- what the text with this initialiser does
abbrev pub follow_pair : Tree → ℕ → ReachedOrHalted (Option Value)
follow_pair initialiser b =
    follow_module (pair_text initialiser) no_parts (with_override b) row_world pair_meaning
    pair_vocabulary 1 (codes "f") [] []

-- ---- initialisers that apply operators to others
-- the pair of 3 and 4, as a tree and in a text
abbrev pub three_four : ConstantTree
three_four =
    Composed pair_word (OtherType pair_word)
    (constant (Fixed (number 3)) (constant (Fixed (number 4)) no_constant))

abbrev pub three_four_text : Tree
three_four_text =
    Apply pair_word (more (LiteralOf (number 3)) (more (LiteralOf (number 4)) no_more))

-- its digit at the place that the override tells, and its second one
abbrev pub at_override : ConstantTree
at_override = Indexing i32 three_four (NamedConstant 2)

abbrev pub second : ConstantTree
second = Picking (MemberNamed (codes "y")) i32 three_four

-- `false && P`, of which the right side leads back to this one and has no value
abbrev pub decided : ConstantTree
decided = Joining ShortCircuitAnd BooleanType (Fixed (Truth false)) (NamedConstant 0)

-- `true && P`
abbrev pub undecided : ConstantTree
undecided = Joining ShortCircuitAnd BooleanType (Fixed (Truth true)) (NamedConstant 0)

-- such a text
abbrev pub joined_text : Value → Tree
joined_text v = LogicalOf ShortCircuitAnd (LiteralOf v) (Name (codes "P"))

-- a pair is returned, and nothing is read
abbrev pub returns_pair : ℕ → ℕ → ReachedOrHalted (Option Value)
returns_pair a b = Gives (Some (pair a b)) (Entry 0 [] [] ∷ [])

-- no value is there
abbrev pub without_value : ReachedOrHalted (Option Value)
without_value = Halts Stuck (Entry 0 [] [] ∷ [])

-- the module's text, what both do, and what other texts do: another initialiser gives another
-- value; one that leads back to itself, reads, asks for an event, calls a function or an unknown
-- word, or names what isn't there gives none
pub record ConstantRowsHold : Type 0 where
  pub fits : ConstantsFit pair_module pair_names
  pub settings : SettingsFit pair_module (with_override 7)
  pub text :
      form_module pair_module pair_names (pair_naming ∷ []) ≡ pair_text (LiteralOf (number 6))
  pub module_run : run_pair 7 ≡ returns_pair 6 7
  pub text_run : follow_pair (LiteralOf (number 6)) 7 ≡ returns_pair 6 7
  pub other_override : run_pair 8 ≡ returns_pair 6 8
  pub text_of_other_override : follow_pair (LiteralOf (number 6)) 8 ≡ returns_pair 6 8
  pub wrong_initialiser : follow_pair (LiteralOf (number 5)) 7 ≡ returns_pair 5 7
  pub override_for_constant : follow_pair (Name (codes "m")) 7 ≡ returns_pair 7 7
  pub leads_back : follow_pair (Name (codes "P")) 7 ≡ without_value
  pub reads_variable : follow_pair (Name (codes "v")) 7 ≡ without_value
  pub asks : follow_pair (Apply (codes "storageBarrier") no_more) 7 ≡ without_value
  pub calls_function : follow_pair (Apply (codes "f") no_more) 7 ≡ without_value
  pub calls_nothing : follow_pair (Apply (codes "frobnicate") no_more) 7 ≡ without_value
  pub unknown_name : follow_pair (Name (codes "q")) 7 ≡ without_value
  -- an index and a part of a value that operators made
  pub indexed : run_of at_override 1 ≡ returns_pair 4 1
  pub indexed_text : follow_pair (Index three_four_text (Name (codes "m"))) 1 ≡ returns_pair 4 1
  pub part : run_of second 7 ≡ returns_pair 4 7
  pub part_text : follow_pair (PartOf (MemberNamed (codes "y")) three_four_text) 7 ≡ returns_pair 4 7
  pub other_part : follow_pair (PartOf (MemberNamed (codes "x")) three_four_text) 7 ≡ returns_pair 3 7
  -- the right side of `&&` counts only where the left one leaves it open. What `&&` gives is no
  -- number, so that the pair of it is 0
  pub decided_run : run_of decided 7 ≡ Gives (Some (number 0)) (Entry 0 [] [] ∷ [])
  pub decided_text :
      follow_pair (joined_text (Truth false)) 7 ≡ Gives (Some (number 0)) (Entry 0 [] [] ∷ [])
  pub undecided_run : run_of undecided 7 ≡ without_value
  pub undecided_text : follow_pair (joined_text (Truth true)) 7 ≡ without_value
