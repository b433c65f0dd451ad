-- What the named constants of a module are doesn't hang on its variables. So the text that is written
-- for a module of which some variables have no form declares what another module does: one with the
-- same constants, and with variables such as the text is read to have. By it no value of the module's
-- own expressions hangs on the type of a variable.
--
-- Throughout, p is a program of shapes with the names n, e is a tree over constants alone (es are
-- several), w a word, v a variable of the module m, k its handle, g what is chosen for it, and b says
-- whether it is in the handle space.
use Rattle.std.proofs.Common.{◌≡◌, ℕ, zero, suc, ◌+◌, ◌<◌, ◌∙◌, Bool, true, false, List, [], ◌∷◌}
use Rattle.std.proofs.Common.{◌&&◌, Option, None, Some, add-one, ap, length, map, refl, slice_get}
use Rattle.std.proofs.Common.{subst, sym}
use Rattle.std.specs.Prelude.{IsTrue, if◌then◌else◌, unwrap_or}
use Rattle.std.specs.List.{enumerate_from}
use Rattle.naga_ir.specs.declared.module.GlobalVariable.{GlobalVariable}
use Rattle.naga_ir.specs.declared.module.Module as ir_module
use Rattle.naga_ir.specs.declared.types.AddressSpace.{AddressSpace}
use Rattle.naga_ir.specs.declared.types.AddressSpace.TheVariants as space
use Rattle.shader_runs.specs.Constants.{all_found, found_after, found_with, known_value}
use Rattle.shader_runs.specs.Constants.{module_initialiser_value}
use Rattle.shader_runs.specs.Correct.{ItemsFit}
use Rattle.shader_runs.specs.Form.{globals_from}
use Rattle.shader_runs.specs.Premises.{AllTypedIn, ConstantTyped, ConstantsFit, ConstantsTyped}
use Rattle.shader_runs.specs.Premises.{EachWord, EachWordOf, IsTyped, OperatesOutside, SettingsFit}
use Rattle.shader_runs.specs.Premises.{choice_fits, choices_fit, constant_type, constant_types_of}
use Rattle.shader_runs.specs.Program.{AtPlace, ConstantTree, ConstantTrees, Composed, Fixed}
use Rattle.shader_runs.specs.Program.{Function, Held, Indexing, Joining, Module, NamedConstant}
use Rattle.shader_runs.specs.Program.{Picking, VariableShape, constant, constant_count, no_constant}
use Rattle.shader_runs.specs.Program.{pointer_to}
use Rattle.shader_runs.specs.ProgramRun.{tree_value}
use Rattle.shader_runs.specs.Scope.{ModuleNames}
use Rattle.shader_runs.specs.Text.{TextFunction}
use Rattle.shader_runs.specs.Value.{Bytes, PartTypes, Value, ValueType, has_type, has_types}
use Rattle.shader_runs.specs.World.{Meaning, Settings}
use Rattle.text_semantics.specs.Abstraction.{global_pointer_read, module_variable_read}
use Rattle.module_semantics.specs.acceptance.ExpressionTypes.{variable_type}
use Rattle.wgsl_text.specs.Types.{TypeSpecifier}
use Rattle.wgsl_words.specs.Words.{space_access_word, space_word}
use Rattle.module_semantics.specs.acceptance.InfoSizes.{is_handle_space}
use Rattle.module_semantics.specs.ModuleShapes.{variable_shape}
use Rattle.module_semantics.specs.Names.{global_name, module_names}
use Rattle.module_semantics.specs.Namings.{outer_names}
use Rattle.module_semantics.specs.Types.{declared_type, type_names, word_of_values}
use Rattle.naga_form.specs.Declarations.{space_form, space_of_words, variable_form}
use Rattle.naga_form.specs.Types.{type_form}
use Rattle.naga_form.proofs.Fits.{mapped_length}

-- ---- other variables
-- a function in which no expression stands
abbrev emptied : Function → Function
emptied f = record f { expressions = [] }

-- the same constants with other variables, and with functions that are typed whatever these are
abbrev pub with_variables : Module → List VariableShape → Module
with_variables p globals = record p { globals = globals; functions = map emptied p.functions }

module _ (p : Module) (globals : List VariableShape) where
  abbrev q : Module
  q = with_variables p globals

  same_type_of : (e : ConstantTree) → constant_type q e ≡ constant_type p e
  same_type_of (Fixed v) = refl
  same_type_of (NamedConstant i) = refl
  same_type_of (Composed w ty es) = refl
  same_type_of (Indexing ty b i) = refl
  same_type_of (Picking x ty b) = refl
  same_type_of (Joining j ty l r) = refl

  same_types_of : (es : ConstantTrees) → constant_types_of q es ≡ constant_types_of p es
  same_types_of no_constant = refl
  same_types_of (constant e es) = λ i. same_type_of e i ∷ same_types_of es i

  -- a meaning types the constants all the same
  module _ (parts : PartTypes) (m : Meaning) where
    typed_there : (e : ConstantTree) (v : Value) → IsTrue (has_type parts (constant_type q e) v) →
        IsTrue (has_type parts (constant_type p e) v)
    typed_there e v = subst (λ k. IsTrue (has_type parts k v)) (same_type_of e)

    mutual
      tree_typed : (e : ConstantTree) → ConstantTyped parts p m e → ConstantTyped parts q m e
      tree_typed (Fixed v) typed = tt
      tree_typed (NamedConstant i) typed = tt
      tree_typed (Composed w ty es) typed = (
        λ vs have.
            typed.0 vs (subst (λ ks. IsTrue (has_types parts ks vs)) (same_types_of es) have),
        trees_typed es typed.1,
      )
      tree_typed (Indexing ty b i) typed = (
        λ v z base index. typed.0 v z (typed_there b v base) (typed_there i z index),
        tree_typed b typed.1,
        tree_typed i typed.2,
      )
      tree_typed (Picking x ty b) typed =
          (λ v base. typed.0 v (typed_there b v base), tree_typed b typed.1)
      tree_typed (Joining j ty l r) typed = (
        λ a b left right. typed.0 a b (typed_there l a left) (typed_there r b right),
        tree_typed l typed.1,
        tree_typed r typed.2,
      )

      trees_typed : (es : ConstantTrees) → ConstantsTyped parts p m es →
          ConstantsTyped parts q m es
      trees_typed no_constant typed = tt
      trees_typed (constant e es) typed = (tree_typed e typed.0, trees_typed es typed.1)

    functions_typed : (fs : List Function) → AllTypedIn parts q m (map emptied fs)
    functions_typed [] = tt
    functions_typed (f ∷ fs) =
        (record { constants = λ h. tt; operators = λ h pure. absurd cc }, functions_typed fs)

  pub typed_with : (m : Meaning) → IsTyped p m → IsTyped q m
  typed_with m typed = record {
    functions = functions_typed p.parts m p.functions;
    initialisers = λ i e at. tree_typed p.parts m e (typed.initialisers i e at);
  }

  -- and an expression has the same value
  module _ (s : Settings) (m : Meaning) where
    found_alike : (n : ℕ) → found_after q s m n ≡ found_after p s m n
    found_alike zero = refl
    found_alike (suc n) =
        ap (λ found. found_with (tree_value (known_value found) m) p s) (found_alike n)

    pub value_with : (e : ConstantTree) →
        module_initialiser_value q s m e ≡ module_initialiser_value p s m e
    value_with e =
        ap (λ found. tree_value (slice_get (unwrap_or (all_found found) [])) m e)
        (found_alike (constant_count p))

  -- its names fit, where there are as many variables
  module _ (n : ModuleNames) (counted : length globals ≡ length p.globals) where
    fewer : (g : ℕ) → g < length q.functions → g < length p.functions
    fewer g = subst (λ k. g < k) (mapped_length emptied p.functions)

    operates : (w : Bytes) → OperatesOutside p n w → OperatesOutside q n w
    operates w outside = record {
      asks_nothing = outside.asks_nothing;
      operates = outside.operates;
      functions = λ g lt. outside.functions g (fewer g lt);
      constants = outside.constants;
      globals = λ i lt. outside.globals i (subst (λ k. i < k) counted lt);
    }

    mutual
      pub words_with : (e : ConstantTree) → EachWord (OperatesOutside p n) e →
          EachWord (OperatesOutside q n) e
      words_with (Fixed v) each = tt
      words_with (NamedConstant i) each = tt
      words_with (Composed w ty es) each = (operates w each.0, all_words es each.1)
      words_with (Indexing ty b i) each = (words_with b each.0, words_with i each.1)
      words_with (Picking x ty b) each = words_with b each
      words_with (Joining j ty l r) each = (words_with l each.0, words_with r each.1)

      all_words : (es : ConstantTrees) → EachWordOf (OperatesOutside p n) es →
          EachWordOf (OperatesOutside q n) es
      all_words no_constant each = tt
      all_words (constant e es) each = (words_with e each.0, all_words es each.1)

    constants_with : ConstantsFit p n → ConstantsFit q n
    constants_with fit = record {
      counted = fit.counted;
      rank = fit.rank;
      initialisers = λ i e at. let one = fit.initialisers i e at in
          record {
            range = one.range;
            type = one.type ∙ sym (same_type_of e);
            words = words_with e one.words;
            before = one.before;
          };
      distinct = fit.distinct;
    }

    pub items_with : (functions : List TextFunction) → ItemsFit p n functions →
        ItemsFit q n functions
    items_with functions fit = record {
      distinct = record {
        functions = λ g k lt le. fit.distinct.functions g k (fewer g lt) (fewer k le);
      };
      constants = constants_with fit.constants;
      named = fit.named;
      counted = fit.counted ∙ sym (mapped_length emptied p.functions);
    }

-- ---- the variables of a text
module _ (m : ir_module.Module) where
  -- one as it is read, whether its type has a form or not
  abbrev pub read_shape : GlobalVariable → VariableShape
  read_shape v =
      if is_handle_space v.space then Held (declared_type m v.ty)
      else AtPlace
      (unwrap_or (global_pointer_read (space_form v.space) (type_form (type_names m) v.ty)) [])

  there_in : (word : List ℕ) (access : Option (List ℕ)) (t : TypeSpecifier) →
      let o = global_pointer_read (space_of_words (Some word) access) t in
      o ≡ Some (unwrap_or o [])
  there_in word None t = refl
  there_in word (Some access) t = refl

  -- in a space that has a word it is at a place
  there : (at : AddressSpace) (word : List ℕ) → space_word at ≡ Some word → (t : TypeSpecifier) →
      let o = global_pointer_read (space_form at) t in
      o ≡ Some (unwrap_or o [])
  there at word named t =
      subst
      (λ w.
      let o = global_pointer_read (space_of_words w (space_access_word at)) t in
      o ≡ Some (unwrap_or o []))
      (sym named) (there_in word (space_access_word at) t)

  read_so : (v : GlobalVariable) →
      global_pointer_read (space_form v.space) (type_form (type_names m) v.ty)
      ≡ pointer_to (read_shape v)
  read_so v = by v.space
    where
      by : (at : AddressSpace) →
          global_pointer_read (space_form at) (type_form (type_names m) v.ty) ≡
          pointer_to
          (if is_handle_space at then Held (declared_type m v.ty)
          else AtPlace
          (unwrap_or (global_pointer_read (space_form at) (type_form (type_names m) v.ty)) []))
      by space.Handle = refl
      by at = there at _ refl (type_form (type_names m) v.ty)

  pub read_as_they_are : (k : ℕ) (vs : List GlobalVariable) →
      map module_variable_read
      (map (variable_form (module_names m) (type_names m) m) (enumerate_from k vs)) ≡
      globals_from (outer_names (module_names m) m).global k (map read_shape vs)
  read_as_they_are k [] = refl
  read_as_they_are k (v ∷ vs) =
      let rest =
      read_as_they_are (k + 1) vs
      ∙ ap (λ n. globals_from (outer_names (module_names m) m).global n (map read_shape vs))
      (add-one k) in
      λ i. record { name = global_name (module_names m) k; pointer = read_so v i } ∷ rest i

  -- what is chosen for them fits as before
  choice_so : (parts : PartTypes) (type : ValueType) (a c : Bytes) (b : Bool) (g : Option Value) →
      choice_fits parts (if b then Held type else AtPlace a) g ≡
      choice_fits parts (if b then Held type else AtPlace c) g
  choice_so parts type a c true g = refl
  choice_so parts type a c false None = refl
  choice_so parts type a c false (Some x) = refl

  choices_so : (parts : PartTypes) (vs : List GlobalVariable) (gs : List (Option Value)) →
      choices_fit parts (map read_shape vs) gs ≡ choices_fit parts (map (variable_shape m) vs) gs
  choices_so parts [] [] = refl
  choices_so parts [] (g ∷ gs) = refl
  choices_so parts (v ∷ vs) [] = refl
  choices_so parts (v ∷ vs) (g ∷ gs) =
      let one =
      choice_so parts (declared_type m v.ty)
      (unwrap_or (global_pointer_read (space_form v.space) (type_form (type_names m) v.ty)) [])
      (word_of_values m (variable_type v.space v.ty)) (is_handle_space v.space) g in
      λ i. one i && choices_so parts vs gs i

  pub settings_with : (p : Module) → p.globals ≡ map (variable_shape m) m.global_variables →
      (s : Settings) → SettingsFit p s →
      SettingsFit (with_variables p (map read_shape m.global_variables)) s
  settings_with p is s fit = record {
    overrides = fit.overrides;
    globals =
        choices_so p.parts m.global_variables s.globals
        ∙ (ap (λ vs. choices_fit p.parts vs s.globals) (sym is) ∙ fit.globals);
  }
