-- The names that a function's text uses from its start on are those of items of the module: no two are
-- alike.
--
-- Throughout, named tells the names of the labels that front ends gave in the function.
use Rattle.std.proofs.Common.{◌≡◌, ◌≢◌, ℕ, ◌<◌, List, length, Some, None, Option, refl, sym, ap}
use Rattle.std.proofs.Common.{◌∙◌, subst}
use Rattle.std.specs.Prelude.{slice_get}
use Rattle.std.proofs.lemmas.Option.{none-some, same_Some}
use Rattle.naga_back.specs.FunctionContext.{argument_key, function_key, local_key}
use Rattle.naga_back.specs.declared.context.FunctionType.{FunctionType}
use Rattle.naga_back.specs.declared.context.FunctionType.TheVariants as function
use Rattle.naga_info.specs.declared.info.ExpressionInfo.{ExpressionInfo}
use Rattle.naga_info.specs.declared.info.ModuleInfo.{ModuleInfo}
use Rattle.naga_ir.specs.declared.module.Function as ir_function
use Rattle.naga_ir.specs.declared.module.Module.{Module}
use Rattle.naga_naming.specs.declared.key.NameKey.{NameKey}
use Rattle.naga_naming.specs.declared.key.NameKey.TheVariants as key
use Rattle.naga_naming.proofs.Refusal.{element}
use Rattle.module_semantics.specs.ExpressionContexts.{constant_number, override_number}
use Rattle.module_semantics.specs.FunctionNumbers.{all_functions, function_type}
use Rattle.module_semantics.specs.FunctionShapes.{function_shape}
use Rattle.module_semantics.specs.Names.{global_name, module_names, name_in}
use Rattle.module_semantics.specs.Namings.{inner_names, numbered_key}
use Rattle.module_semantics.specs.Types.{declared_type}
use Rattle.shader_runs.specs.Premises.{ArgumentName, ConstantName, FixedName, fixed_name}
use Rattle.shader_runs.specs.Premises.{GlobalName, IsFixedName, LocalName}
use Rattle.shader_runs.specs.Program as shapes
use Rattle.shader_runs.specs.Scope.{Names}
use Rattle.naga_form.proofs.Fits.{mapped_length}
use Rattle.naga_form.proofs.names.ItemKeys.{CountsItems, global_has, HasItem, keys_tell}
use Rattle.naga_form.proofs.names.ItemKeys.{numbered_has}
use Rattle.naga_form.proofs.declarations.NamedConstants.{IsNumberedIn, OfConstant, OfOverride}
use Rattle.naga_form.proofs.declarations.NamedConstants.{which_constant}
use Rattle.naga_form.proofs.names.Names.{argument_there, local_there}

-- ---- keys
-- the fixed name of which this is the key, in a function that has one so
abbrev pub fixed_of : Module → NameKey → Option FixedName
fixed_of m (key.FunctionArgument h n) = Some (ArgumentName n)
fixed_of m (key.EntryPointArgument j n) = Some (ArgumentName n)
fixed_of m (key.FunctionLocal h l) = Some (LocalName l)
fixed_of m (key.EntryPointLocal j l) = Some (LocalName l)
fixed_of m (key.Constant h) = Some (ConstantName (constant_number m h))
fixed_of m (key.Override h) = Some (ConstantName (override_number m h))
fixed_of m (key.GlobalVariable v) = Some (GlobalName v)
fixed_of m _ = None

argument_is : (m : Module) (ty : FunctionType) (n : ℕ) →
    fixed_of m (argument_key ty n) ≡ Some (ArgumentName n)
argument_is m (function.Function h) n = refl
argument_is m (function.EntryPoint j) n = refl

local_is : (m : Module) (ty : FunctionType) (l : ℕ) →
    fixed_of m (local_key ty l) ≡ Some (LocalName l)
local_is m (function.Function h) l = refl
local_is m (function.EntryPoint j) l = refl

-- the key of a fixed name in the function with this number
abbrev pub fixed_key : Module → (number : ℕ) → FixedName → NameKey
fixed_key m g (ArgumentName n) = argument_key (function_type m g) n
fixed_key m g (LocalName l) = local_key (function_type m g) l
fixed_key m g (ConstantName i) = numbered_key m i
fixed_key m g (GlobalName v) = key.GlobalVariable v

-- and its names
abbrev names_in : Module → (number : ℕ) → (named : ℕ → List ℕ) → Names
names_in m g named = inner_names (module_names m) m named g

pub fixed_named : (m : Module) (g : ℕ) (named : ℕ → List ℕ) (x : FixedName) →
    fixed_name (names_in m g named) x ≡ name_in (module_names m) (fixed_key m g x)
fixed_named m g named (ArgumentName n) = refl
fixed_named m g named _ = refl

one_variable : (u v : ℕ) → key.GlobalVariable u ≡ key.GlobalVariable v → u ≡ v
one_variable u v e = cc

-- that of a function is none
pub function_is_none : (m : Module) (ty : FunctionType) → fixed_of m (function_key ty) ≡ None
function_is_none m (function.Function h) = refl
function_is_none m (function.EntryPoint j) = refl

module _ (m : Module) (p : shapes.Module) (counts : CountsItems m p) where
  numbered_is : (i : ℕ) → i < length p.constant_types →
      fixed_of m (numbered_key m i) ≡ Some (ConstantName i)
  numbered_is i lt = by (which_constant m i (subst (λ n. i < n) counts.constants lt))
    where
      by : IsNumberedIn m i → fixed_of m (numbered_key m i) ≡ Some (ConstantName i)
      by (OfConstant h c there count is) =
          ap (fixed_of m) is ∙ ap (λ n. Some (ConstantName n)) count
      by (OfOverride h o there count is) =
          ap (fixed_of m) is ∙ ap (λ n. Some (ConstantName n)) count

  -- no two constants or overrides have one name
  pub constants_tell : (i k : ℕ) → i < length p.constant_types → k < length p.constant_types →
      name_in (module_names m) (numbered_key m i) ≡ name_in (module_names m) (numbered_key m k) →
      i ≡ k
  constants_tell i k li lk e =
      let same = keys_tell m (numbered_key m i) (numbered_key m k)
      (numbered_has m i (subst (λ n. i < n) counts.constants li))
      (numbered_has m k (subst (λ n. k < n) counts.constants lk)) e in
      let fixed = same_Some (ConstantName i) (ConstantName k)
      (sym (numbered_is i li) ∙ (ap (fixed_of m) same ∙ numbered_is k lk)) in
      cc

  -- nor have two variables
  has_variable : (v : ℕ) → v < length p.globals → HasItem m (key.GlobalVariable v)
  has_variable v lt = global_has m v (subst (λ n. v < n) counts.globals lt)

  pub variables_tell : (u v : ℕ) → u < length p.globals → v < length p.globals →
      global_name (module_names m) u ≡ global_name (module_names m) v → u ≡ v
  variables_tell u v lu lv e =
      one_variable u v
      (keys_tell m (key.GlobalVariable u) (key.GlobalVariable v) (has_variable u lu)
      (has_variable v lv) e)

  -- nor has a variable that of a constant or of an override
  pub constant_no_variable : (i v : ℕ) → i < length p.constant_types → v < length p.globals →
      name_in (module_names m) (numbered_key m i) ≢ global_name (module_names m) v
  constant_no_variable i v li lv e =
      let same = keys_tell m (numbered_key m i) (key.GlobalVariable v)
      (numbered_has m i (subst (λ n. i < n) counts.constants li)) (has_variable v lv) e in
      let fixed = same_Some (ConstantName i) (GlobalName v)
      (sym (numbered_is i li) ∙ ap (fixed_of m) same) in
      cc

  -- ---- in one function
  module _ (info : ModuleInfo) (g : ℕ) (f : ir_function.Function)
      (found : slice_get (all_functions m) g ≡ Some f) (es : List ExpressionInfo) where
    abbrev shape : shapes.Function
    shape = function_shape m info f es

    -- the key is that of an item
    pub fixed_has : (x : FixedName) → IsFixedName p shape x → HasItem m (fixed_key m g x)
    fixed_has (ArgumentName n) is =
        let a = element f.arguments.items n
        (subst (λ k. n < k) (mapped_length (λ a. declared_type m a.ty) f.arguments.items) is) in
        (_, argument_there m g f n a.0 found a.1)
    fixed_has (LocalName l) is =
        let a = element f.local_variables l
        (subst (λ k. l < k) (mapped_length (λ v. v.init) f.local_variables) is) in
        (_, local_there m g f l a.0 found a.1)
    fixed_has (ConstantName i) is = numbered_has m i (subst (λ n. i < n) counts.constants is)
    fixed_has (GlobalName v) is = has_variable v is

    -- and that of this name alone
    fixed_is : (x : FixedName) → IsFixedName p shape x → fixed_of m (fixed_key m g x) ≡ Some x
    fixed_is (ArgumentName n) is = argument_is m (function_type m g) n
    fixed_is (LocalName l) is = local_is m (function_type m g) l
    fixed_is (ConstantName i) is = numbered_is i is
    fixed_is (GlobalName v) is = refl

    -- so no two are alike
    pub fixed_tell : (named : ℕ → List ℕ) (x y : FixedName) → IsFixedName p shape x →
        IsFixedName p shape y → fixed_name (names_in m g named) x ≡ fixed_name (names_in m g named) y →
        x ≡ y
    fixed_tell named x y is_x is_y e =
        let same = keys_tell m (fixed_key m g x) (fixed_key m g y) (fixed_has x is_x) (fixed_has y is_y)
        (sym (fixed_named m g named x) ∙ (e ∙ fixed_named m g named y)) in
        same_Some x y (sym (fixed_is x is_x) ∙ (ap (fixed_of m) same ∙ fixed_is y is_y))

    -- and none is the name of an item that has another key
    pub fixed_no_item : (named : ℕ → List ℕ) (k : NameKey) → HasItem m k → fixed_of m k ≡ None →
        (x : FixedName) → IsFixedName p shape x →
        fixed_name (names_in m g named) x ≡ name_in (module_names m) k → ⊥
    fixed_no_item named k has none x is e =
        let same = keys_tell m (fixed_key m g x) k (fixed_has x is) has
        (sym (fixed_named m g named x) ∙ e) in
        none-some x (sym none ∙ (sym (ap (fixed_of m) same) ∙ fixed_is x is))
