-- What functions and modules that are being built hold after a call.
--
-- Throughout, old and new are such a function or module before and after a call, and b is one.
use Rattle.std.specs.Prelude.{◌≡◌, ℕ, List, [], ◌∷◌, ◌++◌, length, nat_eq, string_bytes}
use Rattle.std.specs.Prelude.{Bool, IsSomeAnd, Option, None, Some, String, map}
use Rattle.std.specs.List.{position_or_len}
use Rattle.std.specs.declared.alloc.Global.{Global}
use Rattle.indexmap.specs.IndexMap.{IsUnchanged, insert_entry}
use Rattle.indexmap.specs.IndexSet.{insert_key}
use Rattle.naga_ir.specs.declared.types.TypeInner.{TypeInner}
use Rattle.naga_ir.specs.Empty.{IsEmptyFunction}
use Rattle.naga_ir.specs.Ranges.{range_of}
use Rattle.naga_ir.specs.StatementTree.{StatementTree, emit, simple}
use Rattle.naga_ir.specs.contracts.types.PredeclaredTypePartialEq.TheImpl.{
  eq-value as predeclared-eq-value,
}
use Rattle.naga_ir.specs.contracts.types.Type_PartialEq.TheImpl.{eq-value}
use Rattle.naga_ir.specs.declared.types.PredeclaredType.{PredeclaredType}
use Rattle.naga_ir.specs.declared.types.Type_.{Type_}
use Rattle.naga_ir.specs.declared.module.EntryPoint.{EntryPoint}
use Rattle.naga_ir.specs.declared.module.ShaderStage.{ShaderStage}
use Rattle.naga_ir.specs.declared.module.Function.{Function}
use Rattle.naga_ir.specs.declared.module.Module.{Module}
use Rattle.naga_ir.specs.declared.module.FunctionArgument.{FunctionArgument}
use Rattle.naga_ir.specs.declared.module.LocalVariable.{LocalVariable}
use Rattle.naga_ir.specs.declared.expression.Expression.{Expression}
use Rattle.naga_ir.specs.declared.expression.Expression.TheVariants as expression
use Rattle.naga_info.specs.declared.info.ExpressionInfo.{ExpressionInfo}
use Rattle.naga_info.specs.declared.info.ModuleInfo.{ModuleInfo}
use Rattle.naga_info.specs.declared.info.TypeResolution.{TypeResolution}
use Rattle.naga_info.specs.declared.info.TypeResolution.TheVariants.{Handle}
use Rattle.naga_inference.specs.Inferred.{inferred_type}
use Rattle.naga_builder.specs.declared.function.BuiltFunction.{BuiltFunction}
use Rattle.naga_builder.specs.declared.function.FunctionBuilder.{FunctionBuilder}
use Rattle.naga_builder.specs.declared.«module».ModuleBuilder.{ModuleBuilder}
use Rattle.naga_builder.specs.declared.«module».StageExtras.{StageExtras}

-- ---- statements
-- the expressions from the first to the last are evaluated
abbrev pub emitted : (first last : ℕ) → StatementTree
emitted first last = let r = range_of first last in simple (emit r.first r.end)

-- ---- functions
-- what is known of an expression of this type, of which no use is counted
abbrev pub uncounted : TypeResolution → ExpressionInfo
uncounted ty = record { ref_count = 0; ty = ty }

-- there is a label, and it is this one
abbrev pub IsLabel : {Y : Type 0} → List ℕ → Option (String Y) → Type 0
IsLabel label name = IsSomeAnd name (λ s. string_bytes s ≡ label)

-- a function for this module with this label and nothing else
pub record IsNew (m : Module) (label : List ℕ) (new : FunctionBuilder) : Type 0 where
  pub looks_at : new.«module».now ≡ m
  pub labelled : IsLabel label new.function.name
  pub empty : IsEmptyFunction (record new.function { name = None })
  pub known : new.known.items ≡ []
  pub body : new.body ≡ new.function.body

-- a function for this module with nothing, not even a label
pub record IsUnlabelled (m : Module) (new : FunctionBuilder) : Type 0 where
  pub looks_at : new.«module».now ≡ m
  pub empty : IsEmptyFunction new.function
  pub known : new.known.items ≡ []
  pub body : new.body ≡ new.function.body

-- one function, before or after it looks at a module
pub record HasPartsOf (b : FunctionBuilder) (built : BuiltFunction) : Type 0 where
  pub function : b.function ≡ built.function
  pub known : b.known ≡ built.known
  pub body : b.body ≡ built.body

-- the type that the rules give an expression after those of a function: by its module, by what the
-- function has and by the types known in it
abbrev pub next_type : FunctionBuilder → Expression → Option TypeResolution
next_type b e = inferred_type b.«module».now (Some b.function) (map (λ k. k.ty) b.known.items) e

-- nothing is added
pub record Keeps (old new : FunctionBuilder) : Type 0 where
  pub looks_at : new.«module» ≡ old.«module»
  pub arguments : new.function.arguments.items ≡ old.function.arguments.items
  pub rest : new.function ≡ record old.function { arguments = new.function.arguments }
  pub known : new.known.items ≡ old.known.items
  pub body : new.body ≡ old.body

-- one expression is added, of this type
pub record AddsExpression (e : Expression) (ty : TypeResolution) (old new : FunctionBuilder) :
    Type 0 where
  pub looks_at : new.«module» ≡ old.«module»
  pub function : new.function ≡
      record old.function { expressions = old.function.expressions ++ e ∷ [] }
  pub known : new.known.items ≡ old.known.items ++ uncounted ty ∷ []
  pub body : new.body ≡ old.body

-- one expression is added, of the type that the rules give it
pub record AddsInferred (e : Expression) (old new : FunctionBuilder) : Type 0 where
  pub ty : TypeResolution
  pub rule : next_type old e ≡ Some ty
  pub added : AddsExpression e ty old new

-- an argument is added, and the expression that is its value
pub record AddsArgument (a : FunctionArgument) (old new : FunctionBuilder) : Type 0 where
  pub looks_at : new.«module» ≡ old.«module»
  pub arguments : new.function.arguments.items ≡ old.function.arguments.items ++ a ∷ []
  pub rest : new.function ≡ record old.function {
    arguments = new.function.arguments;
    expressions = old.function.expressions ++
        expression.FunctionArgument (length old.function.arguments.items) ∷ [];
  }
  pub known : new.known.items ≡ old.known.items ++ uncounted (Handle a.ty) ∷ []
  pub body : new.body ≡ old.body

-- the function is this one now, and nothing else is another
pub record GetsFunction (f : Function) (old new : FunctionBuilder) : Type 0 where
  pub looks_at : new.«module» ≡ old.«module»
  pub function : new.function ≡ f
  pub known : new.known ≡ old.known
  pub body : new.body ≡ old.body

-- a local variable is added
abbrev pub AddsLocal : LocalVariable → (old new : FunctionBuilder) → Type 0
AddsLocal l old new = GetsFunction
    (record old.function { local_variables = old.function.local_variables ++ l ∷ [] }) old new

-- the labels of expressions, and nothing else, are others
abbrev pub IsBesideNames : (old new : FunctionBuilder) → Type 0
IsBesideNames old new = GetsFunction
    (record old.function { named_expressions = new.function.named_expressions }) old new

-- An expression has this label, in the place of one that it had or after the others.
pub record NamesExpression (handle : ℕ) (label : List ℕ) (old new : FunctionBuilder) : Type 0 where
  pub name : String Global
  pub labelled : string_bytes name ≡ label
  pub names : new.function.named_expressions.entries
      ≡ insert_entry nat_eq old.function.named_expressions.entries handle name
  pub rest : IsBesideNames old new

-- no label is added
pub record KeepsNames (old new : FunctionBuilder) : Type 0 where
  pub names : IsUnchanged old.function.named_expressions new.function.named_expressions
  pub rest : IsBesideNames old new

-- what is built, with its statements
abbrev pub function_of : BuiltFunction → Function
function_of b = record b.function { body = b.body }

-- ---- modules
-- Are two types equal?
abbrev pub type_eq : Type_ → Type_ → Bool
type_eq = eq-value.it

-- the type is there, at this handle, added after the others if none of them equals it
pub record FindsType (ty : Type_) (old new : ModuleBuilder) (handle : ℕ) : Type 0 where
  pub found : handle ≡ position_or_len (type_eq ty) old.«module».types
  pub added : new ≡ record old {
    «module» = record old.«module» {
      types = insert_key type_eq old.«module».types ty;
    };
  }

-- the same of the type of this form that has no name
abbrev pub IsTypeOf : TypeInner → ModuleBuilder → ModuleBuilder → (handle : ℕ) → Type 0
IsTypeOf inner = FindsType (record { name = None; inner = inner })

-- Are two types of what WGSL's own functions give equal?
abbrev pub predeclared_eq : PredeclaredType → PredeclaredType → Bool
predeclared_eq = predeclared-eq-value.it

-- what the module tells of the types that WGSL's own functions give, and nothing else, is another
abbrev pub IsBesidePredeclared : (old new : ModuleBuilder) → Type 0
IsBesidePredeclared old new = new ≡ record old {
  «module» = record old.«module» {
    special_types = record old.«module».special_types {
      predeclared_types = new.«module».special_types.predeclared_types;
    };
  };
}

-- What a function of WGSL's own gives is this type, in the place of one told before or after the
-- others.
pub record TellsPredeclared (given : PredeclaredType) (ty : ℕ) (old new : ModuleBuilder) : Type 0
  where
    pub types : new.«module».special_types.predeclared_types.entries ≡ insert_entry predeclared_eq
        old.«module».special_types.predeclared_types.entries given ty
    pub rest : IsBesidePredeclared old new

-- no type is told
pub record KeepsPredeclared (old new : ModuleBuilder) : Type 0 where
  pub types : IsUnchanged old.«module».special_types.predeclared_types
      new.«module».special_types.predeclared_types
  pub rest : IsBesidePredeclared old new

-- nothing is known yet
pub record KnowsNothing (info : ModuleInfo) : Type 0 where
  pub functions : info.functions.items ≡ []
  pub entry_points : info.entry_points.items ≡ []
  pub types : info.const_expression_types.items ≡ []

-- as much is known as before
pub record KnowsAsBefore (old new : ModuleInfo) : Type 0 where
  pub functions : new.functions.items ≡ old.functions.items
  pub entry_points : new.entry_points.items ≡ old.entry_points.items
  pub types : new.const_expression_types.items ≡ old.const_expression_types.items

-- nothing is added
pub record KeepsModule (old new : ModuleBuilder) : Type 0 where
  pub entry_points : new.«module».entry_points.items ≡ old.«module».entry_points.items
  pub rest : new.«module» ≡
      record old.«module» { entry_points = new.«module».entry_points }
  pub known : KnowsAsBefore old.info new.info

-- the type that the rules give an expression after the module's own
abbrev pub next_own_type : ModuleBuilder → Expression → Option TypeResolution
next_own_type b e = inferred_type b.«module» None b.info.const_expression_types.items e

-- one of the module's own expressions is added, of this type
pub record AddsGlobalExpression (e : Expression) (ty : TypeResolution) (old new : ModuleBuilder) :
    Type 0 where
  pub expressions : new.«module» ≡ record old.«module» {
    global_expressions = old.«module».global_expressions ++ e ∷ [];
  }
  pub known : new.info.const_expression_types.items
      ≡ old.info.const_expression_types.items ++ ty ∷ []
  pub rest : new.info ≡
      record old.info { const_expression_types = new.info.const_expression_types }

-- the same, of the type that the rules give it
pub record AddsInferredOwn (e : Expression) (old new : ModuleBuilder) : Type 0 where
  pub ty : TypeResolution
  pub rule : next_own_type old e ≡ Some ty
  pub added : AddsGlobalExpression e ty old new

-- a function is added, with what is known of it
pub record AddsFunction (b : BuiltFunction) (old new : ModuleBuilder) : Type 0 where
  pub functions : new.«module» ≡
      record old.«module» { functions = old.«module».functions ++ function_of b ∷ [] }
  pub known : new.info.functions.items ≡ old.info.functions.items ++ b.known.items ∷ []
  pub rest : new.info ≡ record old.info { functions = new.info.functions }

-- nothing that a stage has beside its label, its size of workgroups and its function
abbrev pub no_extras : StageExtras
no_extras =
    record {
      mesh_info = None;
      task_payload = None;
      incoming_ray_payload = None;
      workgroup_size_overrides = None ∷ None ∷ None ∷ [];
    }

-- An entry point is added, with what is known of its function. It has this label, stage, size of
-- workgroups and function, and these parts of its stage.
pub record AddsEntryPoint (b : BuiltFunction) (label : List ℕ) (stage : ShaderStage)
    (workgroup_size : List ℕ) (parts : StageExtras) (old new : ModuleBuilder) : Type 0 where
  pub entry_point_added : EntryPoint
  pub entry_points : new.«module».entry_points.items
      ≡ old.«module».entry_points.items ++ entry_point_added ∷ []
  pub labelled : string_bytes entry_point_added.name ≡ label
  pub stage_is : entry_point_added.stage ≡ stage
  pub size : entry_point_added.workgroup_size ≡ workgroup_size
  -- of an array of three, which it is
  pub size_overrides : length parts.workgroup_size_overrides ≡ 3 →
      entry_point_added.workgroup_size_overrides ≡ parts.workgroup_size_overrides
  pub function : entry_point_added.function ≡ function_of b
  pub mesh : entry_point_added.mesh_info ≡ parts.mesh_info
  pub task : entry_point_added.task_payload ≡ parts.task_payload
  pub ray : entry_point_added.incoming_ray_payload ≡ parts.incoming_ray_payload
  pub others : new.«module» ≡
      record old.«module» { entry_points = new.«module».entry_points }
  pub known : new.info.entry_points.items ≡ old.info.entry_points.items ++ b.known.items ∷ []
  pub rest : new.info ≡ record old.info { entry_points = new.info.entry_points }
