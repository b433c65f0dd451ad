-- When a module's operators are typed consistently.
--
-- Throughout, p is a module, f a function, h a handle, e a constant tree, w a word, xs are
-- operands, k is a type, x and y are signatures, x is a selector too, b a base, i an index, z an
-- integer and whole the spelling of a pointer; parts are those of all places, own those of one.
use Rattle.std.specs.Prelude.{◌≡◌, ℕ, ℤ, List, [], ◌∷◌, ◌++◌, Option, Some, None, slice_get}
use Rattle.shader_runs.specs.Value.{Parts, PartTypes, Step, Selector, MemberNamed, part_pointer}
use Rattle.shader_runs.specs.Value.{step_to, step_at, ValueType, BooleanType, IntegerType}
use Rattle.shader_runs.specs.Value.{PointerType, Word, Spelled, PartWord, IndexWord}
use Rattle.shader_runs.specs.Value.{short_circuit_word}
use Rattle.shader_runs.specs.Program.{ConstantTree, Fixed, NamedConstant, Composed, Indexing}
use Rattle.shader_runs.specs.Program.{Picking, Joining}
use Rattle.shader_runs.specs.Program.{ConstantTrees, no_constant, constant, Expression, Constant}
use Rattle.shader_runs.specs.Program.{Operator, Access, AccessIndex, Logical, Swizzle, Request}
use Rattle.shader_runs.specs.Program.{Function, expression_of, handle_type, Module}
use Rattle.shader_runs.specs.Premises.{constant_type, constant_types_of, handle_types}
use Rattle.shader_runs.specs.Premises.{IsNoPointer}

-- a spelled operator with its operands' types and its result's
pub record Signature : Type 0 where
  pub word : Word
  pub operands : List ValueType
  pub result : ValueType

abbrev mutual
  pub constant_signatures : Module → ConstantTree → List Signature
  constant_signatures p (Fixed v) = []
  constant_signatures p (NamedConstant i) = []
  constant_signatures p (Composed w ty es) =
      record { word = Spelled w; operands = constant_types_of p es; result = ty } ∷
      constants_signatures p es
  constant_signatures p (Indexing ty b i) =
      let operands = constant_type p b ∷ constant_type p i ∷ [] in
      record { word = IndexWord; operands = operands; result = ty } ∷
      (constant_signatures p b ++ constant_signatures p i)
  constant_signatures p (Picking x ty b) =
      record { word = PartWord x; operands = constant_type p b ∷ []; result = ty } ∷
      constant_signatures p b
  constant_signatures p (Joining j ty l r) =
      let operands = constant_type p l ∷ constant_type p r ∷ [] in
      record { word = Spelled (short_circuit_word j); operands = operands; result = ty } ∷
      (constant_signatures p l ++ constant_signatures p r)

  pub constants_signatures : Module → ConstantTrees → List Signature
  constants_signatures p no_constant = []
  constants_signatures p (constant e es) = constant_signatures p e ++ constants_signatures p es

-- the operators that an expression of this type spells
abbrev pub signatures_of : Module → Function → ValueType → Option Expression → List Signature
signatures_of p f k (Some (Constant e)) = constant_signatures p e
signatures_of p f k (Some (Operator w xs)) =
    record { word = Spelled w; operands = handle_types f xs; result = k } ∷ []
signatures_of p f k (Some (Access b i)) =
    record { word = IndexWord; operands = handle_types f (b ∷ i ∷ []); result = k } ∷ []
signatures_of p f k (Some (AccessIndex x b)) =
    record { word = PartWord x; operands = handle_types f (b ∷ []); result = k } ∷ []
signatures_of p f k (Some (Logical j l r)) =
    record {
      word = Spelled (short_circuit_word j);
      operands = handle_types f (l ∷ r ∷ []);
      result = k;
    } ∷ []
signatures_of p f k (Some (Swizzle w v)) =
    record { word = PartWord (MemberNamed w); operands = handle_types f (v ∷ []); result = k } ∷ []
signatures_of p f k (Some (Request w xs es)) = constants_signatures p es
signatures_of p f k _ = []

-- in a list
pub data IsOneOf (x : Signature) : List Signature → Type 0 where
  first_of : {xs : List Signature} → IsOneOf x (x ∷ xs)
  later_of : {y : Signature} {xs : List Signature} → IsOneOf x xs → IsOneOf x (y ∷ xs)

-- the module spells it: in an expression of a function, or in the initialiser of a named constant
pub data IsSpelled (p : Module) (x : Signature) : Type 0 where
  in_function : (place : ℕ) (f : Function) → slice_get p.functions place ≡ Some f →
      (h : ℕ) → IsOneOf x (signatures_of p f (handle_type f h) (expression_of f h)) → IsSpelled p x
  in_initialiser : (i : ℕ) (e : ConstantTree) → slice_get p.initialisers i ≡ Some e →
      IsOneOf x (constant_signatures p e) → IsSpelled p x

-- there is such a step, and this is the type of a pointer to the part that it leads to
abbrev pub IsPart : Parts → Option Step → ValueType → Type 0
IsPart own None k = ⊥
IsPart own (Some step) k = k ≡ PointerType (part_pointer own step)

-- an integer's index through a pointer gives a pointer to
-- the part, which is of one type whatever the index is
abbrev pub AccessFits : PartTypes → (base index result : ValueType) → Type 0
AccessFits parts (PointerType whole) (IntegerType spelling) k =
    (z : ℤ) → IsPart (parts whole) (step_at (parts whole) z) k
AccessFits parts (PointerType whole) i k = ⊥
AccessFits parts b i k = Unit {0}

-- a member or element through a pointer gives a pointer to that part
abbrev pub AccessIndexFits : PartTypes → Selector → (base result : ValueType) → Type 0
AccessIndexFits parts x (PointerType whole) k =
    IsPart (parts whole) (step_to (parts whole) x) k
AccessIndexFits parts x b k = Unit {0}

-- `&&` and `||` on `bool` give `bool`
abbrev pub LogicalFits : (left result : ValueType) → Type 0
LogicalFits BooleanType k = k ≡ BooleanType
LogicalFits l k = Unit {0}

-- what an expression over pointers or truth values gives
abbrev pub PartsFit : PartTypes → Function → ValueType → Option Expression → Type 0
PartsFit parts f k (Some (Access b i)) = AccessFits parts (handle_type f b) (handle_type f i) k
PartsFit parts f k (Some (AccessIndex x b)) = AccessIndexFits parts x (handle_type f b) k
PartsFit parts f k (Some (Logical j l r)) = LogicalFits (handle_type f l) k
PartsFit parts f k _ = Unit {0}

abbrev mutual
  -- what an operator over constants indexes, or has a part of, is no pointer; and `&&` and `||` on
  -- `bool` give `bool`
  pub TreeFits : Module → ConstantTree → Type 0
  TreeFits p (Fixed v) = Unit {0}
  TreeFits p (NamedConstant i) = Unit {0}
  TreeFits p (Composed w ty es) = TreesFit p es
  TreeFits p (Indexing ty b i) = IsNoPointer (constant_type p b) × TreeFits p b × TreeFits p i
  TreeFits p (Picking x ty b) = IsNoPointer (constant_type p b) × TreeFits p b
  TreeFits p (Joining j ty l r) =
      LogicalFits (constant_type p l) ty × TreeFits p l × TreeFits p r

  pub TreesFit : Module → ConstantTrees → Type 0
  TreesFit p no_constant = Unit {0}
  TreesFit p (constant e es) = TreeFits p e × TreesFit p es

-- the same of the constants in an expression
abbrev pub LeafTreesFit : Module → Option Expression → Type 0
LeafTreesFit p (Some (Constant e)) = TreeFits p e
LeafTreesFit p (Some (Request w xs es)) = TreesFit p es
LeafTreesFit p _ = Unit {0}

-- what is spelled alike over operands of types alike has a result of types alike
pub record IsConsistent (p : Module) : Type 0 where
  pub alike : (x y : Signature) → IsSpelled p x → IsSpelled p y → x.word ≡ y.word →
      x.operands ≡ y.operands → x.result ≡ y.result
  pub parts : (place : ℕ) (f : Function) → slice_get p.functions place ≡ Some f → (h : ℕ) →
      PartsFit p.parts f (handle_type f h) (expression_of f h)
  pub constants : (place : ℕ) (f : Function) → slice_get p.functions place ≡ Some f → (h : ℕ) →
      LeafTreesFit p (expression_of f h)
  pub initialisers : (i : ℕ) (e : ConstantTree) → slice_get p.initialisers i ≡ Some e →
      TreeFits p e
