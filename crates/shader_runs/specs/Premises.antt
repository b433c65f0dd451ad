-- What is asked of a module, of its names, of the environment and of the meaning.
--
-- Throughout, p is a module, f a function, mostly with its names, n are names, g
-- is the number of a function, or what is chosen for a variable x or its name stands for,
-- h a handle, e an expression or a constant tree, i an index, m the meaning, w a word, xs
-- are operands, r is a result, k a type, s are settings, v is a value, and a and b are keys
-- of names or bodies.
use Rattle.std.specs.Prelude.{◌≡◌, ◌≢◌, ℕ, ◌<◌, Bool, true, false, List, [], ◌∷◌, length, Option}
use Rattle.std.specs.Prelude.{Some, None, ◌&&◌, IsTrue, ◌≤◌, slice_get}
use Rattle.shader_runs.specs.Value.{Bytes, same_bytes, PartTypes, ValueType, BooleanType}
use Rattle.shader_runs.specs.Value.{IntegerType, PointerType, OtherType, type_at, Value, Truth}
use Rattle.shader_runs.specs.Value.{Whole, Pointer, Opaque, has_type, has_types, Spelled}
use Rattle.shader_runs.specs.World.{Environment, GlobalValue, Stored, InHandleSpace, Meaning}
use Rattle.shader_runs.specs.World.{Settings}
use Rattle.shader_runs.specs.Program.{ConstantTree, Fixed, NamedConstant, Composed, Indexing}
use Rattle.shader_runs.specs.Program.{Picking, Joining}
use Rattle.shader_runs.specs.Program.{ConstantTrees, no_constant, constant, Expression, Constant}
use Rattle.shader_runs.specs.Program.{Argument, Local, Global, Operator, Swizzle, Request, Result}
use Rattle.shader_runs.specs.Program.{Action, Asked, Called, Statement, Block, If, Switch, Loop}
use Rattle.shader_runs.specs.Program.{Return, Barrier, Act, Statements, end, then, Cases, no_case}
use Rattle.shader_runs.specs.Program.{case, Function, argument_count, local_count, local_pointer}
use Rattle.shader_runs.specs.Program.{function_numbered, expression_of, handle_type, operands_of}
use Rattle.shader_runs.specs.Program.{VariableShape, Held, AtPlace, is_held, variable_type}
use Rattle.shader_runs.specs.Program.{variable_shape_at, Module, constant_count, override_types}
use Rattle.shader_runs.specs.Program.{is_pure, Jumps}
use Rattle.shader_runs.specs.ProgramRun.{combined_value, barrier_words, constant_index}
use Rattle.shader_runs.specs.ProgramRun.{constant_part, constant_logic}
use Rattle.shader_runs.specs.Scope.{ModuleNames, Names, Naming, named_by_all}
use Rattle.shader_runs.specs.Scope.{fits_function}
use Rattle.shader_runs.specs.Form.{functions_of}

-- a name that a function's text uses from its start on
pub data FixedName : Type 0 where
  ArgumentName : ℕ → FixedName
  LocalName : ℕ → FixedName
  ConstantName : ℕ → FixedName
  GlobalName : ℕ → FixedName

-- any name that it uses
pub data NameKey : Type 0 where
  FixedKey : FixedName → NameKey
  NumberedKey : ℕ → NameKey
  NamedKey : ℕ → NameKey

-- the name itself
abbrev pub fixed_name : Names → FixedName → Bytes
fixed_name n (ArgumentName i) = n.argument i
fixed_name n (LocalName i) = n.local_ i
fixed_name n (ConstantName i) = n.outer.constant i
fixed_name n (GlobalName i) = n.outer.global i

-- the name itself
abbrev pub name_at : Names → NameKey → Bytes
name_at n (FixedKey x) = fixed_name n x
name_at n (NumberedKey h) = n.numbered h
name_at n (NamedKey k) = n.named k

-- the function or the module has such an item
abbrev pub IsFixedName : Module → Function → FixedName → Type 0
IsFixedName p f (ArgumentName i) = i < argument_count f
IsFixedName p f (LocalName i) = i < local_count f
IsFixedName p f (ConstantName i) = i < length p.constant_types
IsFixedName p f (GlobalName i) = i < length p.globals

-- the function uses such a name: a handle may have one, and given names are counted
abbrev pub IsName : Module → Function → NameKey → Type 0
IsName p f (FixedKey x) = IsFixedName p f x
IsName p f (NumberedKey h) = Unit {0}
IsName p f (NamedKey k) = k < named_by_all f f.body 0

-- a word that is none of a function's names, which would hide it
abbrev pub IsNoName : Module → Naming → Bytes → Type 0
IsNoName p f w = (a : NameKey) → IsName p f.function a → name_at f.names a ≢ w

-- a word that is the name of no function of the module, earlier or later, and of no variable
abbrev pub StandsFree : Module → Naming → Bytes → Type 0
StandsFree p f w =
    ((g : ℕ) → g < length p.functions → f.names.outer.function g ≢ w) × IsNoName p f w

-- a word that asks for an event
abbrev pub AsksBy : Module → Naming → Bytes → Type 0
AsksBy p f w = IsTrue (f.names.outer.vocabulary.is_request w) × StandsFree p f w

-- an operator's word
abbrev pub OperatesBy : Module → Naming → Bytes → Type 0
OperatesBy p f w =
    (f.names.outer.vocabulary.is_request w ≡ false)
    × IsTrue (f.names.outer.vocabulary.is_operator w)
    × StandsFree p f w

abbrev mutual
  -- each word of a tree over constants alone
  pub EachWord : (Bytes → Type 0) → ConstantTree → Type 0
  EachWord P (Fixed v) = Unit {0}
  EachWord P (NamedConstant i) = Unit {0}
  EachWord P (Composed w ty es) = P w × EachWordOf P es
  EachWord P (Indexing ty b i) = EachWord P b × EachWord P i
  EachWord P (Picking x ty b) = EachWord P b
  EachWord P (Joining j ty l r) = EachWord P l × EachWord P r

  pub EachWordOf : (Bytes → Type 0) → ConstantTrees → Type 0
  EachWordOf P no_constant = Unit {0}
  EachWordOf P (constant e es) = EachWord P e × EachWordOf P es

-- the words of a tree in a function
abbrev pub ConstantWords : Module → Naming → ConstantTree → Type 0
ConstantWords p f e = EachWord (OperatesBy p f) e

-- the words of several
abbrev pub ConstantsWords : Module → Naming → ConstantTrees → Type 0
ConstantsWords p f es = EachWordOf (OperatesBy p f) es

-- the words of an expression
abbrev pub WordFits : Module → Naming → Option Expression → Type 0
WordFits p f (Some (Constant e)) = ConstantWords p f e
WordFits p f (Some (Operator w xs)) = OperatesBy p f w
WordFits p f (Some (Request w xs es)) = AsksBy p f w × ConstantsWords p f es
WordFits p f _ = Unit {0}

-- operands stand before their expression
abbrev pub AllBelow : ℕ → List ℕ → Type 0
AllBelow h [] = Unit {0}
AllBelow h (x ∷ xs) = (x < h) × AllBelow h xs

-- words that ask for events
abbrev pub EachAsks : Module → Naming → List Bytes → Type 0
EachAsks p f [] = Unit {0}
EachAsks p f (w ∷ ws) = AsksBy p f w × EachAsks p f ws

-- a handle that a statement gives
abbrev pub IsResult : Option Expression → Type 0
IsResult (Some Result) = Unit {0}
IsResult _ = ⊥

-- the types of handles
abbrev pub handle_types : Function → List ℕ → List ValueType
handle_types f [] = []
handle_types f (x ∷ xs) = handle_type f x ∷ handle_types f xs

-- a wanted result is one that the callee gives
abbrev pub UsedResultFits : Function → Option ValueType → Option ℕ → Type 0
UsedResultFits f k None = Unit {0}
UsedResultFits f k (Some h) = k ≡ Some (handle_type f h)

-- the callee wants arguments of these types
abbrev pub CallFits : Function → Option Function → List ℕ → Option ℕ → Type 0
CallFits f None xs r = ⊥
CallFits f (Some callee) xs r =
    (handle_types f xs ≡ callee.argument_types) × UsedResultFits f callee.result r

-- a callee stands before its caller, and no variable hides its name
abbrev pub ActionFits : Module → List Function → Naming → Action → List ℕ → Option ℕ → Type 0
ActionFits p callees f (Asked w) xs r = AsksBy p f w
ActionFits p callees f (Called g) xs r =
    (g < f.names.earlier) × IsNoName p f (f.names.outer.function g)
    × CallFits f.function (function_numbered callees g) xs r

-- a result is given to a result handle
abbrev pub ResultFits : Function → Option ℕ → Type 0
ResultFits f None = Unit {0}
ResultFits f (Some h) = IsResult (expression_of f h)

-- what is returned has the function's result type
abbrev pub ReturnFits : Function → Option ℕ → Type 0
ReturnFits f None = Unit {0}
ReturnFits f (Some h) = f.result ≡ Some (handle_type f h)

-- the last case doesn't fall through
abbrev pub FallsFrom : Bool → Cases → Type 0
FallsFrom false cs = Unit {0}
FallsFrom true no_case = ⊥
FallsFrom true (case l b falls cs) = Unit {0}

-- the words, calls, results and cases of a statement
abbrev mutual
  pub IsRegular : Module → List Function → Naming → Statement → Type 0
  IsRegular p callees f (Block b) = AreRegular p callees f b
  IsRegular p callees f (If c a b) = AreRegular p callees f a × AreRegular p callees f b
  IsRegular p callees f (Switch h cases) = CasesAreRegular p callees f cases
  IsRegular p callees f (Loop b d e) = AreRegular p callees f b × AreRegular p callees f d
  IsRegular p callees f (Jumps (Return v)) = ReturnFits f.function v
  IsRegular p callees f (Barrier bits) = EachAsks p f (barrier_words bits)
  IsRegular p callees f (Act a xs r) = ActionFits p callees f a xs r × ResultFits f.function r
  IsRegular p callees f _ = Unit {0}

  pub AreRegular : Module → List Function → Naming → Statements → Type 0
  AreRegular p callees f end = Unit {0}
  AreRegular p callees f (then s ss) = IsRegular p callees f s × AreRegular p callees f ss

  pub CasesAreRegular : Module → List Function → Naming → Cases → Type 0
  CasesAreRegular p callees f no_case = Unit {0}
  CasesAreRegular p callees f (case l b falls cs) =
      FallsFrom falls cs × AreRegular p callees f b × CasesAreRegular p callees f cs

-- a case with statements doesn't fall through
abbrev pub FallsEmpty : Bool → Statements → Type 0
FallsEmpty false b = Unit {0}
FallsEmpty true end = Unit {0}
FallsEmpty true (then s ss) = ⊥

-- only empty cases fall through in a statement, in a body and among cases
abbrev mutual
  pub OnlyEmptyFalls : Statement → Type 0
  OnlyEmptyFalls (Block b) = OnlyEmptyFallIn b
  OnlyEmptyFalls (If c a b) = OnlyEmptyFallIn a × OnlyEmptyFallIn b
  OnlyEmptyFalls (Switch h cases) = OnlyEmptyCasesFall cases
  OnlyEmptyFalls (Loop b d e) = OnlyEmptyFallIn b × OnlyEmptyFallIn d
  OnlyEmptyFalls _ = Unit {0}

  pub OnlyEmptyFallIn : Statements → Type 0
  OnlyEmptyFallIn end = Unit {0}
  OnlyEmptyFallIn (then s ss) = OnlyEmptyFalls s × OnlyEmptyFallIn ss

  pub OnlyEmptyCasesFall : Cases → Type 0
  OnlyEmptyCasesFall no_case = Unit {0}
  OnlyEmptyCasesFall (case l b falls cs) =
      FallsEmpty falls b × OnlyEmptyFallIn b × OnlyEmptyCasesFall cs

-- a literal's type: no literal is a pointer
abbrev pub literal_type : Value → ValueType
literal_type (Truth b) = BooleanType
literal_type (Whole spelling z) = IntegerType spelling
literal_type (Pointer place) = OtherType []
literal_type (Opaque spelling payload) = OtherType spelling

-- it is no pointer
abbrev pub IsLiteral : Value → Type 0
IsLiteral (Pointer place) = ⊥
IsLiteral _ = Unit {0}

-- the types of a function's leaves
abbrev mutual
  pub constant_type : Module → ConstantTree → ValueType
  constant_type p (Fixed v) = literal_type v
  constant_type p (NamedConstant i) = type_at p.constant_types i
  constant_type p (Composed w ty es) = ty
  constant_type p (Indexing ty b i) = ty
  constant_type p (Picking x ty b) = ty
  constant_type p (Joining j ty l r) = ty

  pub constant_types_of : Module → ConstantTrees → List ValueType
  constant_types_of p no_constant = []
  constant_types_of p (constant e es) = constant_type p e ∷ constant_types_of p es

abbrev mutual
  -- each literal of a tree, and each named constant and override
  pub EachLeaf : (Value → Type 0) → (ℕ → Type 0) → ConstantTree → Type 0
  EachLeaf L P (Fixed v) = L v
  EachLeaf L P (NamedConstant i) = P i
  EachLeaf L P (Composed w ty es) = EachLeafOf L P es
  EachLeaf L P (Indexing ty b i) = EachLeaf L P b × EachLeaf L P i
  EachLeaf L P (Picking x ty b) = EachLeaf L P b
  EachLeaf L P (Joining j ty l r) = EachLeaf L P l × EachLeaf L P r

  pub EachLeafOf : (Value → Type 0) → (ℕ → Type 0) → ConstantTrees → Type 0
  EachLeafOf L P no_constant = Unit {0}
  EachLeafOf L P (constant e es) = EachLeaf L P e × EachLeafOf L P es

-- named constants lie in the module's list, and literals are no pointers
abbrev pub ConstantInRange : Module → ConstantTree → Type 0
ConstantInRange p e = EachLeaf IsLiteral (λ i. i < length p.constant_types) e

-- those of several trees
abbrev pub ConstantsInRange : Module → ConstantTrees → Type 0
ConstantsInRange p es = EachLeafOf IsLiteral (λ i. i < length p.constant_types) es

-- a value that is no pointer
abbrev pub IsNoPointer : ValueType → Type 0
IsNoPointer (PointerType spelling) = ⊥
IsNoPointer _ = Unit {0}

-- a leaf has the type of its item, and tells of a variable whether it is held; and what is swizzled
-- is a vector, and no pointer to one
abbrev pub LeafFits : Module → Function → ValueType → Option Expression → Type 0
LeafFits p f k (Some (Constant e)) = ConstantInRange p e × (k ≡ constant_type p e)
LeafFits p f k (Some (Argument i)) = k ≡ type_at f.argument_types i
LeafFits p f k (Some (Local i)) = k ≡ PointerType (local_pointer f i)
LeafFits p f k (Some (Global held i)) =
    let x = variable_shape_at p.globals i in
    (i < length p.globals) × (held ≡ is_held x) × (k ≡ variable_type x)
LeafFits p f k (Some (Request w xs es)) = ConstantsInRange p es
LeafFits p f k (Some (Swizzle w v)) = IsNoPointer (handle_type f v)
LeafFits p f k _ = Unit {0}

-- there is a value of this type
abbrev pub GivesTyped : PartTypes → ValueType → Option Value → Type 0
GivesTyped parts k o = (v : Value) × (o ≡ Some v) × IsTrue (has_type parts k v)

abbrev mutual
  -- an operator's value has its type whenever its operands have theirs
  pub ConstantTyped : PartTypes → Module → Meaning → ConstantTree → Type 0
  ConstantTyped parts p m (Fixed v) = Unit {0}
  ConstantTyped parts p m (NamedConstant i) = Unit {0}
  ConstantTyped parts p m (Composed w ty es) =
      ((vs : List Value) → IsTrue (has_types parts (constant_types_of p es) vs) →
      IsTrue (has_type parts ty (m (Spelled w) vs)))
      × ConstantsTyped parts p m es
  ConstantTyped parts p m (Indexing ty b i) =
      ((v z : Value) → IsTrue (has_type parts (constant_type p b) v) →
      IsTrue (has_type parts (constant_type p i) z) → GivesTyped parts ty (constant_index m v z))
      × ConstantTyped parts p m b × ConstantTyped parts p m i
  ConstantTyped parts p m (Picking x ty b) =
      ((v : Value) → IsTrue (has_type parts (constant_type p b) v) →
      GivesTyped parts ty (constant_part m x v))
      × ConstantTyped parts p m b
  ConstantTyped parts p m (Joining j ty l r) =
      ((a b : Value) → IsTrue (has_type parts (constant_type p l) a) →
      IsTrue (has_type parts (constant_type p r) b) →
      GivesTyped parts ty (constant_logic m j (Some b) a))
      × ConstantTyped parts p m l × ConstantTyped parts p m r

  pub ConstantsTyped : PartTypes → Module → Meaning → ConstantTrees → Type 0
  ConstantsTyped parts p m no_constant = Unit {0}
  ConstantsTyped parts p m (constant e es) = ConstantTyped parts p m e × ConstantsTyped parts p m es

-- the operators in a leaf
abbrev pub LeafTyped : PartTypes → Module → Meaning → Option Expression → Type 0
LeafTyped parts p m (Some (Constant e)) = ConstantTyped parts p m e
LeafTyped parts p m (Some (Request w xs es)) = ConstantsTyped parts p m es
LeafTyped parts p m _ = Unit {0}

-- each operator of a function gives a value of its handle's type whenever its operands have theirs
pub record IsTypedIn (parts : PartTypes) (p : Module) (m : Meaning) (f : Function) : Type 0 where
  pub constants : (h : ℕ) → LeafTyped parts p m (expression_of f h)
  pub operators : (h : ℕ) → IsTrue (is_pure (expression_of f h)) →
      (vs : List Value) →
      IsTrue (has_types parts (handle_types f (operands_of (expression_of f h))) vs) →
      (v : Value) × (combined_value parts m (expression_of f h) vs ≡ Some v)
      × IsTrue (has_type parts (handle_type f h) v)

-- the operators of each function
abbrev pub AllTypedIn : PartTypes → Module → Meaning → List Function → Type 0
AllTypedIn parts p m [] = Unit {0}
AllTypedIn parts p m (f ∷ fs) = IsTypedIn parts p m f × AllTypedIn parts p m fs

-- a typed meaning of a module
pub record IsTyped (p : Module) (m : Meaning) : Type 0 where
  pub functions : AllTypedIn p.parts p m p.functions
  pub initialisers : (i : ℕ) (e : ConstantTree) → slice_get p.initialisers i ≡ Some e →
      ConstantTyped p.parts p m e

-- no two of a function's names are equal
abbrev pub AreDistinct : Module → Naming → Type 0
AreDistinct p f =
    (a b : NameKey) → IsName p f.function a → IsName p f.function b →
    name_at f.names a ≡ name_at f.names b → a ≡ b

-- one function of a module, after these
pub record FunctionFits (p : Module) (n : ModuleNames) (callees : List Function)
    (f : Naming) : Type 0 where
  pub outer : f.names.outer ≡ n
  pub earlier : f.names.earlier ≡ length callees
  pub ordered : (h : ℕ) → AllBelow h (operands_of (expression_of f.function h))
  pub words : (h : ℕ) → WordFits p f (expression_of f.function h)
  pub leaves :
      (h : ℕ) → LeafFits p f.function (handle_type f.function h) (expression_of f.function h)
  pub regular : AreRegular p callees f f.function.body
  pub cases : OnlyEmptyFallIn f.function.body
  pub distinct : AreDistinct p f
  pub scope : IsTrue (fits_function f)

-- each function after those before it
abbrev pub AllFit : Module → ModuleNames → List Naming → Type 0
AllFit p n [] = Unit {0}
AllFit p n (f ∷ fs) = FunctionFits p n (functions_of fs) f × AllFit p n fs

-- an operator's word that no item of the module hides
pub record OperatesOutside (p : Module) (n : ModuleNames) (w : Bytes) : Type 0 where
  pub asks_nothing : n.vocabulary.is_request w ≡ false
  pub operates : IsTrue (n.vocabulary.is_operator w)
  pub functions : (g : ℕ) → g < length p.functions → n.function g ≢ w
  pub constants : (i : ℕ) → i < length p.constant_types → n.constant i ≢ w
  pub globals : (i : ℕ) → i < length p.globals → n.global i ≢ w

-- the initialiser of the constant i has its type, its words are operators, and each named constant
-- in it has a smaller rank than i
pub record InitialiserFits (p : Module) (n : ModuleNames) (rank : ℕ → ℕ) (i : ℕ)
    (e : ConstantTree) : Type 0 where
  pub range : ConstantInRange p e
  pub type : type_at p.constant_types i ≡ constant_type p e
  pub words : EachWord (OperatesOutside p n) e
  pub before : EachLeaf (λ v. Unit {0}) (λ k. k < constant_count p → rank k < rank i) e

-- the named constants, in whatever order they are
-- declared. As each has a rank, none leads back to itself
pub record ConstantsFit (p : Module) (n : ModuleNames) : Type 0 where
  pub counted : constant_count p ≤ length p.constant_types
  pub rank : ℕ → ℕ
  pub initialisers : (i : ℕ) (e : ConstantTree) → slice_get p.initialisers i ≡ Some e →
      InitialiserFits p n rank i e
  pub distinct : (i k : ℕ) → i < length p.constant_types → k < length p.constant_types →
      n.constant i ≡ n.constant k → i ≡ k

-- a value is chosen exactly where the variable is held, and has its type
abbrev pub choice_fits : PartTypes → VariableShape → Option Value → Bool
choice_fits parts (AtPlace pointer) None = true
choice_fits parts (AtPlace pointer) (Some v) = false
choice_fits parts (Held type) None = false
choice_fits parts (Held type) (Some v) = has_type parts type v

-- as many choices as variables, each as its variable says
abbrev pub choices_fit : PartTypes → List VariableShape → List (Option Value) → Bool
choices_fit parts [] [] = true
choices_fit parts [] (g ∷ gs) = false
choices_fit parts (x ∷ xs) [] = false
choices_fit parts (x ∷ xs) (g ∷ gs) = choice_fits parts x g && choices_fit parts xs gs

-- the overrides have their types, and of the variables those that are held have values of theirs
pub record SettingsFit (p : Module) (s : Settings) : Type 0 where
  pub overrides : IsTrue (has_types p.parts (override_types p) s.overrides)
  pub globals : IsTrue (choices_fit p.parts p.globals s.globals)

-- a variable's name stands for a value of its type where the variable is held, else for its place
abbrev pub global_fits : PartTypes → VariableShape → GlobalValue → Bool
global_fits parts (AtPlace spelling) (Stored pointer) = same_bytes spelling pointer
global_fits parts (AtPlace spelling) (InHandleSpace chosen) = false
global_fits parts (Held type) (Stored pointer) = false
global_fits parts (Held type) (InHandleSpace None) = false
global_fits parts (Held type) (InHandleSpace (Some v)) = has_type parts type v

-- each variable's name
abbrev pub globals_fit : PartTypes → List VariableShape → List GlobalValue → Bool
globals_fit parts [] [] = true
globals_fit parts [] (g ∷ gs) = false
globals_fit parts (x ∷ xs) [] = false
globals_fit parts (x ∷ xs) (g ∷ gs) = global_fits parts x g && globals_fit parts xs gs

-- the constants and overrides have their types, the variables' names stand for what their spaces
-- say, and types have the module's parts
pub record EnvironmentFits (p : Module) (env : Environment) : Type 0 where
  pub parts : env.parts ≡ p.parts
  pub constants : IsTrue (has_types env.parts p.constant_types env.constants)
  pub globals : IsTrue (globals_fit env.parts p.globals env.globals)

-- no two items of a module have one name
pub record ModuleNamesAreDistinct (p : Module) (n : ModuleNames) : Type 0 where
  pub functions : (g k : ℕ) → g < length p.functions → k < length p.functions →
      n.function g ≡ n.function k → g ≡ k
