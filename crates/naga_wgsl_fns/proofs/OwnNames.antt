-- The names of a function, of its arguments and of its locals by their keys, and those of the functions
-- that it calls.
-- Serves `act_str`, `write_argument_name`, `write_function_name` and `write_local_name`.
use Rattle.std.proofs.Common.{◌≡◌, ℕ, ◌<◌, Some, ap, arith, length, subst, sym}
use Rattle.std.proofs.lemmas.Option.{slice_get_within}
use Rattle.module_semantics.proofs.FunctionNumbers.{below_all, callees_within, one_type, type_of_function}
use Rattle.module_semantics.specs.FunctionNumbers.{all_functions, function_type}
use Rattle.module_semantics.specs.Names.{function_name, module_names, name_in}
use Rattle.naga_back.specs.FunctionContext.{argument_key, function_key, local_key}
use Rattle.naga_ir.specs.declared.module.Module.{Module}
use Rattle.naga_naming.specs.Keys.{names_in}
use Rattle.naga_naming.specs.declared.key.NameKey.{NameKey}
use Rattle.naga_naming.specs.declared.key.NameKey.TheVariants as key
use Rattle.naga_wgsl_fns.specs.FunctionText.{CanWrite, callees, number}
use Rattle.naga_wgsl_fns.specs.Names.{name_of_argument, name_of_function, name_of_local}
use Rattle.naga_wgsl_fns.specs.declared.functions.FunctionText.{FunctionText}

module _ (t : FunctionText) (can : CanWrite t) where
  abbrev m : Module
  m = t.known.shader.now

  -- the map has the name that the module has under the key
  abbrev pub IsNamed : NameKey → Type 0
  IsNamed k = names_in t.known.names.now k ≡ Some (name_in (module_names m) k)

  own_type : function_type m (number t) ≡ t.ty
  own_type = one_type m t.ty can.there

  pub function_is_named : IsNamed (function_key t.ty)
  function_is_named =
      subst (λ ty. IsNamed (function_key ty)) own_type
      (can.known.named.functions (number t)
      (slice_get_within (all_functions m) (number t) t.function.now can.function))

  pub argument_is_named : (n : ℕ) → n < length t.function.now.arguments.items →
      IsNamed (argument_key t.ty n)
  argument_is_named n lt =
      subst (λ ty. IsNamed (argument_key ty n)) own_type
      (can.known.named.arguments (number t) t.function.now can.function n lt)

  pub local_is_named : (l : ℕ) → l < length t.function.now.local_variables →
      IsNamed (local_key t.ty l)
  local_is_named l lt =
      subst (λ ty. IsNamed (local_key ty l)) own_type
      (can.known.named.locals (number t) t.function.now can.function l lt)

  -- and it is the one that the text uses
  pub function_is : name_in (module_names m) (function_key t.ty) ≡ name_of_function t
  unfolding name_of_function
  function_is = ap (λ ty. name_in (module_names m) (function_key ty)) (sym own_type)

  pub argument_is : (n : ℕ) → name_in (module_names m) (argument_key t.ty n) ≡ name_of_argument t n
  unfolding name_of_argument
  argument_is n = ap (λ ty. name_in (module_names m) (argument_key ty n)) (sym own_type)

  pub local_is : (l : ℕ) → name_in (module_names m) (local_key t.ty l) ≡ name_of_local t l
  unfolding name_of_local
  local_is l = ap (λ ty. name_in (module_names m) (local_key ty l)) (sym own_type)

  -- ---- functions that it calls
  callee_within : (h : ℕ) → h < callees t → h < length m.functions
  callee_within h lt = let all = callees_within m t.ty can.there in omega (arith, lt, all)

  pub callee_is_named : (h : ℕ) → h < callees t → IsNamed (key.Function h)
  callee_is_named h lt =
      let within = callee_within h lt in
      subst (λ ty. IsNamed (function_key ty)) (type_of_function m h within)
      (can.known.named.functions h (below_all m h within))

  pub callee_is : (h : ℕ) → h < callees t →
      name_in (module_names m) (key.Function h) ≡ function_name m (module_names m) h
  callee_is h lt =
      ap (λ ty. name_in (module_names m) (function_key ty))
      (sym (type_of_function m h (callee_within h lt)))
