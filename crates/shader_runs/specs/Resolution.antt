-- What the identifiers and words of a text stand for, and what a module means by them. A name is
-- looked up where it stands, and inner names hide outer ones. So is a word before operands, which
-- stands for itself where no name hides it. A part's word or number, `&&`, `||` and a literal stand
-- for themselves everywhere. On both sides a word comes before what it is over, and the end of its
-- operands after them, so that they are grouped in one way. A `let` tells where it is declared.
--
-- Throughout, of a point of a function: k names were given by front ends before it, l `let`s of the
-- body stand before it, s are the handles in scope there, and a handle that has a name is bound by
-- the `let` with its number.
use Rattle.std.specs.Prelude.{ℕ, zero, suc, true, false, cond, List, [], ◌∷◌, ◌++◌, map, length}
use Rattle.std.specs.Prelude.{Option, Some, None}
use Rattle.shader_runs.specs.Value.{Bytes, MemberNamed, Selector, ShortCircuit, Truth, Value}
use Rattle.shader_runs.specs.World.{update, bind}
use Rattle.shader_runs.specs.Program.{ConstantTree, Fixed, NamedConstant, Composed, Indexing}
use Rattle.shader_runs.specs.Program.{Picking, Joining}
use Rattle.shader_runs.specs.Program.{ConstantTrees, no_constant, constant, Expression, Constant}
use Rattle.shader_runs.specs.Program.{Argument, Local, Global, Load, Operator, Access, AccessIndex}
use Rattle.shader_runs.specs.Program.{Logical, Swizzle, Request, Action, Asked, Called, Statement}
use Rattle.shader_runs.specs.Program.{Emit, Store, Block, If, Switch, Loop, Return, Barrier, Act}
use Rattle.shader_runs.specs.Program.{Statements, end, then, Cases, no_case, case, Function}
use Rattle.shader_runs.specs.Program.{expression_of, binds, from, holds_continue, Module, Jumps}
use Rattle.shader_runs.specs.ProgramRun.{barrier_words}
use Rattle.shader_runs.specs.Scope.{Availability, Bound, Handles, Naming, at_start, named_after}
use Rattle.shader_runs.specs.Scope.{named_by, named_by_all, after_one, after, after_all}
use Rattle.shader_runs.specs.Text.{Tree, Name, LiteralOf, Apply, Deref, AddressOf, Index, PartOf}
use Rattle.shader_runs.specs.Text.{LogicalOf, Trees, no_more, more, Line, Let, Assign, Braces}
use Rattle.shader_runs.specs.Text.{IfElse, SwitchOn, LoopOf, Perform, Lines, last}
use Rattle.shader_runs.specs.Text.{before, Groups, no_group, group, Variable, TextFunction}
use Rattle.shader_runs.specs.Text.{TextModule, JumpLine}
use Rattle.shader_runs.specs.TextRun.{has_continue}

-- what a name or a word stands for: an item of the module, or an argument, a variable or a `let` of
-- the function where it stands; or a word, a part, a short circuit or a literal, for itself
pub data Target : Type 0 where
  -- a named constant or override, by its number among both
  ConstantTarget : (number : ℕ) → Target
  -- a variable of the module
  GlobalTarget : (number : ℕ) → Target
  -- a function, by how many stand before it
  FunctionTarget : (number : ℕ) → Target
  ArgumentTarget : (number : ℕ) → Target
  -- a variable of the function
  LocalTarget : (number : ℕ) → Target
  -- a `let`, by its number among those of the body: where it is declared, and where it is named
  LetTarget : (number : ℕ) → Target
  -- a word of the language before operands: an operator, a function or a type's constructor, what
  -- asks for an event, or a barrier
  WordTarget : (word : Bytes) → Target
  -- the end of the operands of a word or a function
  OperandsEnd : Target
  -- a member, an element or several components, by its word or its number
  PartTarget : Selector → Target
  -- `&&` or `||`
  LogicTarget : ShortCircuit → Target
  LiteralTarget : Value → Target

-- what each name in scope stands for
abbrev pub Lookup : Type 0
Lookup = Bytes → Option Target

-- nothing is in scope
abbrev pub no_targets : Lookup
no_targets x = None

-- ---- a text
-- a word before operands is a function's name, or a word of the language where nothing in scope has
-- this name
abbrev pub word_target : (word : Bytes) → Option Target → Target
word_target word None = WordTarget word
word_target word (Some t) = t

abbrev mutual
  -- the identifiers and words of an expression, each with what it stands for, and where the
  -- operands of each word end
  pub tree_targets : Lookup → Tree → List (Option Target)
  tree_targets names (Name x) = names x ∷ []
  tree_targets names (LiteralOf v) = Some (LiteralTarget v) ∷ []
  tree_targets names (Apply word es) =
      Some (word_target word (names word)) ∷ trees_targets names es
  tree_targets names (Deref e) = tree_targets names e
  tree_targets names (AddressOf e) = tree_targets names e
  tree_targets names (Index e i) = tree_targets names e ++ tree_targets names i
  tree_targets names (PartOf x e) = Some (PartTarget x) ∷ tree_targets names e
  tree_targets names (LogicalOf j a b) =
      Some (LogicTarget j) ∷ (tree_targets names a ++ tree_targets names b)

  pub trees_targets : Lookup → Trees → List (Option Target)
  trees_targets names no_more = Some OperandsEnd ∷ []
  trees_targets names (more e es) = tree_targets names e ++ trees_targets names es

-- those of an expression, if there is one
abbrev pub tree_targets_if : Lookup → Option Tree → List (Option Target)
tree_targets_if names None = []
tree_targets_if names (Some e) = tree_targets names e

-- how many `let`s stand before what follows a line
abbrev mutual
  pub lets_following : ℕ → Line → ℕ
  lets_following l (Let x e) = suc l
  lets_following l (Braces b) = lets_following_all l b
  lets_following l (IfElse e a b) = lets_following_all (lets_following_all l a) b
  lets_following l (SwitchOn e groups) = lets_following_groups l groups
  lets_following l (LoopOf b d e) = lets_following_all (lets_following_all l b) d
  lets_following l _ = l

  pub lets_following_all : ℕ → Lines → ℕ
  lets_following_all l last = l
  lets_following_all l (before x ls) = lets_following_all (lets_following l x) ls

  pub lets_following_groups : ℕ → Groups → ℕ
  lets_following_groups l no_group = l
  lets_following_groups l (group case_values b gs) = lets_following_groups (lets_following_all l b) gs

-- what is in scope after a line: the name of a `let`, from there on
abbrev pub names_following : ℕ → Line → Lookup → Lookup
names_following l (Let x e) names = bind names x (Some (LetTarget l))
names_following l _ names = names

-- what a list leaves to its loop's `continuing`: no name from the first line with a `continue` on
abbrev pub names_left : ℕ → Lines → Lookup → Lookup
names_left l last names = names
names_left l (before x ls) names =
    cond (has_continue x) names (names_left (lets_following l x) ls (names_following l x names))

abbrev mutual
  -- those of a line
  pub line_targets : ℕ → Lookup → Line → List (Option Target)
  line_targets l names (Let x e) = Some (LetTarget l) ∷ tree_targets names e
  line_targets l names (Assign p e) = tree_targets names p ++ tree_targets names e
  line_targets l names (Braces b) = lines_targets l names b
  line_targets l names (IfElse e a b) =
      tree_targets names e
      ++ (lines_targets l names a ++ lines_targets (lets_following_all l a) names b)
  line_targets l names (SwitchOn e groups) = tree_targets names e ++ groups_targets l names groups
  line_targets l names (LoopOf b d e) =
      let l1 = lets_following_all l b in
      let inside = names_left l b names in
      lines_targets l names b
      ++ (lines_targets l1 inside d ++ tree_targets_if (names_left l1 d inside) e)
  line_targets l names (JumpLine (Return e)) = tree_targets_if names e
  line_targets l names (Perform word es) =
      Some (word_target word (names word)) ∷ trees_targets names es
  line_targets l names _ = []

  pub lines_targets : ℕ → Lookup → Lines → List (Option Target)
  lines_targets l names last = []
  lines_targets l names (before x ls) =
      line_targets l names x ++ lines_targets (lets_following l x) (names_following l x names) ls

  pub groups_targets : ℕ → Lookup → Groups → List (Option Target)
  groups_targets l names no_group = []
  groups_targets l names (group case_values b gs) =
      lines_targets l names b ++ groups_targets (lets_following_all l b) names gs

-- items under these names, from the number i on
abbrev pub with_items : (ℕ → Target) → ℕ → List Bytes → Lookup → Lookup
with_items target i [] names = names
with_items target i (x ∷ xs) names = bind (with_items target (suc i) xs names) x (Some (target i))

-- functions, the last one first
abbrev pub with_functions : List TextFunction → Lookup
with_functions [] = no_targets
with_functions (f ∷ fs) = bind (with_functions fs) f.name (Some (FunctionTarget (length fs)))

-- the names of a text's items
abbrev pub text_names : TextModule → Lookup
text_names t =
    with_items ConstantTarget 0 (map (λ c. c.name) t.constants ++ t.overrides)
    (with_items GlobalTarget 0 (map (λ g. g.name) t.globals) (with_functions t.functions))

-- those of variables from the number i on, each of which is in scope after its first value, and of
-- the lines after them
abbrev pub variables_targets : ℕ → Lookup → List Variable → Lines → List (Option Target)
variables_targets i names [] ls = lines_targets 0 names ls
variables_targets i names (v ∷ vs) ls =
    tree_targets_if names v.first_value
    ++ variables_targets (suc i) (bind names v.name (Some (LocalTarget i))) vs ls

-- those of a function, in the scope of the text's items
abbrev pub text_function_targets : Lookup → TextFunction → List (Option Target)
text_function_targets items f =
    variables_targets 0 (with_items ArgumentTarget 0 f.parameters items) f.variables f.lines

-- The identifiers and words of a text, each with what it stands for: of each initialiser, and of
-- each function, the last one first.
abbrev pub text_targets : TextModule → List (List (Option Target))
text_targets t =
    map (λ c. tree_targets (text_names t) c.initialiser) t.constants
    ++ map (text_function_targets (text_names t)) t.functions

-- ---- a module
abbrev mutual
  -- what a tree over constants means by its identifiers and words
  pub constant_targets : ConstantTree → List Target
  constant_targets (Fixed v) = LiteralTarget v ∷ []
  constant_targets (NamedConstant i) = ConstantTarget i ∷ []
  constant_targets (Composed word ty es) = WordTarget word ∷ constants_targets es
  constant_targets (Indexing ty b i) = constant_targets b ++ constant_targets i
  constant_targets (Picking x ty b) = PartTarget x ∷ constant_targets b
  constant_targets (Joining j ty l r) = LogicTarget j ∷ (constant_targets l ++ constant_targets r)

  pub constants_targets : ConstantTrees → List Target
  constants_targets no_constant = OperandsEnd ∷ []
  constants_targets (constant e es) = constant_targets e ++ constants_targets es

-- what operands mean, and what stands after them
abbrev pub operands_targets_then : (ℕ → List Target) → List ℕ → (tail : List Target) → List Target
operands_targets_then operand [] tail = tail
operands_targets_then operand (x ∷ xs) tail = operand x ++ operands_targets_then operand xs tail

-- what the operands of a word mean, up to their end
abbrev pub operands_targets : (ℕ → List Target) → List ℕ → List Target
operands_targets operand xs = operands_targets_then operand xs (OperandsEnd ∷ [])

-- what words without operands mean
abbrev pub words_targets : List Bytes → List Target
words_targets [] = []
words_targets (w ∷ ws) = WordTarget w ∷ OperandsEnd ∷ words_targets ws

-- stands where a handle is out of scope, which the check of a module refuses
abbrev pub no_value : List Target
no_value = LiteralTarget (Truth false) ∷ []

-- what an expression means, by what its operands mean
abbrev pub own_targets : (ℕ → List Target) → Option Expression → List Target
own_targets operand (Some (Constant e)) = constant_targets e
own_targets operand (Some (Argument i)) = ArgumentTarget i ∷ []
own_targets operand (Some (Local i)) = LocalTarget i ∷ []
own_targets operand (Some (Global held i)) = GlobalTarget i ∷ []
own_targets operand (Some (Load p)) = operand p
own_targets operand (Some (Operator word xs)) = WordTarget word ∷ operands_targets operand xs
own_targets operand (Some (Access b i)) = operand b ++ operand i
own_targets operand (Some (AccessIndex x b)) = PartTarget x ∷ operand b
own_targets operand (Some (Logical j a b)) = LogicTarget j ∷ (operand a ++ operand b)
own_targets operand (Some (Swizzle letters v)) = PartTarget (MemberNamed letters) ∷ operand v
own_targets operand (Some (Request word xs es)) =
    WordTarget word ∷ operands_targets_then operand xs (constants_targets es)
own_targets operand _ = no_value

-- the number of the `let` that binds a handle
abbrev pub LetNumbers : Type 0
LetNumbers = ℕ → ℕ

-- a handle that has a name means its `let`, and any other what its expression means
abbrev pub availability_targets : Availability → (number : ℕ) → List Target → List Target
availability_targets (Bound x) number own = LetTarget number ∷ []
availability_targets _ number own = own

-- what a handle below the bound means
abbrev pub targets_below : Function → Handles → LetNumbers → ℕ → ℕ → List Target
targets_below f s numbers zero h = no_value
targets_below f s numbers (suc n) h =
    availability_targets (s h) (numbers h)
    (own_targets (targets_below f s numbers n) (expression_of f h))

-- what a handle means
abbrev pub value_targets : Function → Handles → LetNumbers → ℕ → List Target
value_targets f s numbers h = targets_below f s numbers (length f.expressions) h

-- what a handle means, if there is one
abbrev pub value_targets_if : Function → Handles → LetNumbers → Option ℕ → List Target
value_targets_if f s numbers None = []
value_targets_if f s numbers (Some h) = value_targets f s numbers h

-- after an emitted handle: how many `let`s there are, and their numbers
abbrev pub lets_after : Function → ℕ → ℕ → ℕ
lets_after f h l = cond (binds f h) (suc l) l

abbrev pub numbers_after : Function → ℕ → ℕ → LetNumbers → LetNumbers
numbers_after f l h numbers = cond (binds f h) (update numbers h l) numbers

-- after several
abbrev pub lets_after_all : Function → List ℕ → ℕ → ℕ
lets_after_all f [] l = l
lets_after_all f (h ∷ hs) l = lets_after_all f hs (lets_after f h l)

abbrev pub numbers_after_all : Function → ℕ → List ℕ → LetNumbers → LetNumbers
numbers_after_all f l [] numbers = numbers
numbers_after_all f l (h ∷ hs) numbers =
    numbers_after_all f (lets_after f h l) hs (numbers_after f l h numbers)

-- after a result
abbrev pub lets_after_result : Option ℕ → ℕ → ℕ
lets_after_result None l = l
lets_after_result (Some h) l = suc l

abbrev pub numbers_after_result : ℕ → Option ℕ → LetNumbers → LetNumbers
numbers_after_result l None numbers = numbers
numbers_after_result l (Some h) numbers = update numbers h l

-- how many `let`s stand before what follows a statement. Of a case that falls through nothing is
-- written
abbrev mutual
  pub lets_by : Function → Statement → ℕ → ℕ
  lets_by f (Emit first count) l = lets_after_all f (from first count) l
  lets_by f (Block b) l = lets_by_all f b l
  lets_by f (If c a b) l = lets_by_all f b (lets_by_all f a l)
  lets_by f (Switch h cases) l = lets_by_cases f cases l
  lets_by f (Loop b d e) l = lets_by_all f d (lets_by_all f b l)
  lets_by f (Act a xs r) l = lets_after_result r l
  lets_by f _ l = l

  pub lets_by_all : Function → Statements → ℕ → ℕ
  lets_by_all f end l = l
  lets_by_all f (then st ss) l = lets_by_all f ss (lets_by f st l)

  pub lets_by_cases : Function → Cases → ℕ → ℕ
  lets_by_cases f no_case l = l
  lets_by_cases f (case case_value b true cs) l = lets_by_cases f cs l
  lets_by_cases f (case case_value b false cs) l = lets_by_cases f cs (lets_by_all f b l)

-- the numbers of the names in scope after a statement
abbrev pub numbers_by : Function → ℕ → Statement → LetNumbers → LetNumbers
numbers_by f l (Emit first count) numbers = numbers_after_all f l (from first count) numbers
numbers_by f l (Act a xs r) numbers = numbers_after_result l r numbers
numbers_by f l _ numbers = numbers

-- those of the names that a list leaves to its loop's `continuing`
abbrev pub numbers_left : Function → ℕ → Statements → LetNumbers → LetNumbers
numbers_left f l end numbers = numbers
numbers_left f l (then st ss) numbers =
    cond (holds_continue st) numbers
    (numbers_left f (lets_by f st l) ss (numbers_by f l st numbers))

-- what the `let`s of emitted handles mean
abbrev pub emit_targets : Naming → (k l : ℕ) → List ℕ → Handles → LetNumbers → List Target
emit_targets f k l [] s numbers = []
emit_targets f k l (h ∷ hs) s numbers =
    let own = own_targets (value_targets f.function s numbers) (expression_of f.function h) in
    let k1 = named_after f.function h k in
    let l1 = lets_after f.function h l in
    cond (binds f.function h) (LetTarget l ∷ own) []
    ++ emit_targets f k1 l1 hs (after_one f k h s) (numbers_after f.function l h numbers)

-- the `let` that is declared for a result
abbrev pub result_targets : (l : ℕ) → Option ℕ → List Target
result_targets l None = []
result_targets l (Some h) = LetTarget l ∷ []

-- what an action asks for or calls
abbrev pub action_targets : Action → List Target
action_targets (Asked word) = WordTarget word ∷ []
action_targets (Called g) = FunctionTarget g ∷ []

abbrev mutual
  -- what a statement means by its identifiers and words
  pub statement_targets : Naming → (k l : ℕ) → Statement → Handles → LetNumbers → List Target
  statement_targets f k l (Emit first count) s numbers =
      emit_targets f k l (from first count) s numbers
  statement_targets f k l (Store p v) s numbers =
      value_targets f.function s numbers p ++ value_targets f.function s numbers v
  statement_targets f k l (Block b) s numbers = statements_targets f k l b s numbers
  statement_targets f k l (If c a b) s numbers =
      let k1 = named_by_all f.function a k in
      let l1 = lets_by_all f.function a l in
      value_targets f.function s numbers c
      ++ (statements_targets f k l a s numbers ++ statements_targets f k1 l1 b s numbers)
  statement_targets f k l (Switch h cases) s numbers =
      value_targets f.function s numbers h ++ cases_targets f k l cases s numbers
  statement_targets f k l (Loop b d e) s numbers =
      let k1 = named_by_all f.function b k in
      let l1 = lets_by_all f.function b l in
      let s1 = after_all f k b s in
      let numbers1 = numbers_left f.function l b numbers in
      let numbers2 = numbers_left f.function l1 d numbers1 in
      statements_targets f k l b s numbers
      ++ (statements_targets f k1 l1 d s1 numbers1
      ++ value_targets_if f.function (after_all f k1 d s1) numbers2 e)
  statement_targets f k l (Jumps (Return v)) s numbers = value_targets_if f.function s numbers v
  statement_targets f k l (Barrier bits) s numbers = words_targets (barrier_words bits)
  statement_targets f k l (Act a xs r) s numbers =
      result_targets l r
      ++ (action_targets a ++ operands_targets (value_targets f.function s numbers) xs)
  statement_targets f k l _ s numbers = []

  pub statements_targets : Naming → (k l : ℕ) → Statements → Handles → LetNumbers → List Target
  statements_targets f k l end s numbers = []
  statements_targets f k l (then st ss) s numbers =
      let k1 = named_by f.function st k in
      let l1 = lets_by f.function st l in
      statement_targets f k l st s numbers
      ++ statements_targets f k1 l1 ss (after f k st s) (numbers_by f.function l st numbers)

  pub cases_targets : Naming → (k l : ℕ) → Cases → Handles → LetNumbers → List Target
  cases_targets f k l no_case s numbers = []
  cases_targets f k l (case case_value b true cs) s numbers =
      cases_targets f (named_by_all f.function b k) l cs s numbers
  cases_targets f k l (case case_value b false cs) s numbers =
      statements_targets f k l b s numbers
      ++ cases_targets f (named_by_all f.function b k) (lets_by_all f.function b l) cs s numbers

-- no `let` stands before a function's body
abbrev pub no_numbers : LetNumbers
no_numbers h = 0

-- what the first values of variables mean
abbrev pub first_values_targets : Function → List (Option ℕ) → List Target
first_values_targets f [] = []
first_values_targets f (o ∷ os) =
    value_targets_if f (at_start f) no_numbers o ++ first_values_targets f os

-- what a function means by its identifiers and words
abbrev pub function_targets : Naming → List Target
function_targets f =
    first_values_targets f.function f.function.first_values
    ++ statements_targets f 0 0 f.function.body (at_start f.function) no_numbers

-- What a module means by its identifiers and words: in each initialiser, and in each function, the
-- last one first.
abbrev pub module_targets : Module → List Naming → List (List Target)
module_targets p fs = map constant_targets p.initialisers ++ map function_targets fs
