-- What acceptance says of each function and entry point, in the order in which they are numbered in
-- the program of shapes.
use Rattle.naga_ir.specs.Operands.{expression_operands}
use Rattle.naga_ir.specs.declared.expression.Expression.{Expression}
use Rattle.module_semantics.specs.acceptance.Ranges.{expression_in_range, names_in_range, all_below}
use Rattle.module_semantics.specs.acceptance.Ranges.{module_ranges_fit, module_in_range, is_below}
use Rattle.module_semantics.specs.acceptance.Ranges.{function_in_range, entry_point_in_range}
use Rattle.module_semantics.specs.acceptance.Ranges.{signature_fits, signature_types_fit, names_fit}
use Rattle.module_semantics.specs.acceptance.Ranges.{local_in_range, expressions_in_range}
use Rattle.module_semantics.specs.acceptance.Ranges.{block_in_range}
use Rattle.module_semantics.proofs.FunctionNumbers.{after_left, in_append, which_function, IsNumbered}
use Rattle.module_semantics.proofs.FunctionNumbers.{OfEntryPoint, OfFunction}
use Rattle.module_semantics.proofs.SideBySide.{paired_at, zip_at, zip_parts}
use Rattle.module_semantics.specs.FunctionNumbers.{IsFunctionOf, all_functions, all_infos}
use Rattle.module_semantics.specs.FunctionNumbers.{callee_count, entry_functions, function_number}
use Rattle.naga_back.specs.declared.context.FunctionType.{FunctionType}
use Rattle.naga_back.specs.declared.context.FunctionType.TheVariants as item
use Rattle.std.proofs.Common.{◌≡◌, ℕ, ◌≤◌, ◌+◌, Bool, true, List, sym, ap, ◌∙◌, length, Some}
use Rattle.std.proofs.Common.{slice_get, map, arith, ◌⊎◌, inl, inr, eqb-true, ◌==◌, subst}
use Rattle.std.specs.List.{list_all, zip}
use Rattle.std.specs.Prelude.{IsTrue}
use Rattle.std.specs.Option.{option_map}
use Rattle.std.proofs.lemmas.Bool.{and_parts}
use Rattle.std.proofs.lemmas.List.{length-append, length-map}
use Rattle.std.proofs.lemmas.Option.{slice_get_within}
use Rattle.naga_ir.specs.declared.module.EntryPoint.{EntryPoint}
use Rattle.naga_ir.specs.declared.module.Function.{Function}
use Rattle.naga_ir.specs.declared.module.Module.{Module}
use Rattle.naga_info.specs.declared.info.ExpressionInfo.{ExpressionInfo}
use Rattle.naga_info.specs.declared.info.ModuleInfo.{ModuleInfo}
use Rattle.module_semantics.specs.acceptance.Accepted.{is_accepted}
use Rattle.module_semantics.specs.acceptance.AgreeingOperators.{module_operators_agree}
use Rattle.module_semantics.specs.acceptance.AgreeingOperators.{function_group}
use Rattle.module_semantics.specs.acceptance.InfoSizes.{all_paired, function_size_fits, sizes_fit}
use Rattle.module_semantics.specs.acceptance.Numbers.{signature_fits_32_bits, workgroup_fits_32_bits}
use Rattle.module_semantics.specs.acceptance.Initialisers.{locals_are_sound}
use Rattle.module_semantics.specs.acceptance.Soundness.{expressions_are_sound, module_is_sound}
use Rattle.module_semantics.specs.acceptance.Soundness.{function_is_sound, entry_point_is_sound}
use Rattle.module_semantics.specs.acceptance.StatementsFit.{body_is_sound}
use Rattle.module_semantics.proofs.EntryPointRanges.{EntryPointFits, entry_point_fits}
use Rattle.module_semantics.proofs.Lists.{list_all_at, numbered_at}
use Rattle.naga_naming.proofs.Refusal.{element}
use Rattle.naga_form.proofs.declarations.AcceptedGroups.{IsSoundGroup, functions_are}
use Rattle.naga_form.proofs.declarations.AcceptedGroups.{entry_points_are}

-- ---- lists side by side and after each other
paired_length : {X Y : Type 0} (test : X → Y → Bool) (xs : List X) (ys : List Y) →
    all_paired test xs ys ≡ true → length xs ≡ length ys
paired_length test xs ys all =
    eqb-true (length xs) (length ys)
    (and_parts (length xs == length ys) (list_all (λ p. test p.0 p.1) (zip xs ys)) all).0

-- ---- functions
-- all functions, each with what is known of its expressions
abbrev pub functions_known : Module → ModuleInfo → List (Function × List ExpressionInfo)
functions_known m info = zip (all_functions m) (all_infos info)

-- the function with this number, which may call so many
pub record IsAccepted (m : Module) (k : ℕ) (f : Function) (es : List ExpressionInfo) : Type 0 where
  pub callees : ℕ
  pub before : callees ≤ k
  pub there : callees ≤ length m.functions
  pub size : length f.expressions ≡ length es
  pub ranges : function_in_range m callees f ≡ true
  pub sound : function_is_sound m f es ≡ true

-- its expressions and its body are in range
pub ranges_are : (m : Module) (callees : ℕ) (f : Function) → function_in_range m callees f ≡ true →
    (expressions_in_range m f ≡ true) ×
    (block_in_range callees (length f.expressions) f.body ≡ true)
ranges_are m callees f ranges =
    let one = and_parts (signature_fits (length m.types) f) _ ranges in
    let two = and_parts (names_fit f) _ one.1 in
    let three =
    and_parts (list_all (local_in_range (length m.types) (length f.expressions)) f.local_variables)
    _ two.1 in
    let four =
    and_parts (expressions_in_range m f)
    (block_in_range callees (length f.expressions) f.body) three.1 in
    (four.0, four.1)

-- so are its locals
pub locals_are_in_range : (m : Module) (callees : ℕ) (f : Function) →
    function_in_range m callees f ≡ true →
    list_all (local_in_range (length m.types) (length f.expressions)) f.local_variables ≡ true
locals_are_in_range m callees f ranges =
    let one = and_parts (signature_fits (length m.types) f) _ ranges in
    let two = and_parts (names_fit f) _ one.1 in
    (and_parts (list_all (local_in_range (length m.types) (length f.expressions)) f.local_variables)
    _ two.1).0

-- the numbers of what its arguments and its result are bound to have 32 bits
pub bindings_are_in_range : (m : Module) (callees : ℕ) (f : Function) →
    function_in_range m callees f ≡ true → signature_fits_32_bits f ≡ true
bindings_are_in_range m callees f ranges =
    let one = and_parts (signature_fits (length m.types) f) _ ranges in
    (and_parts (signature_types_fit (length m.types) f) (signature_fits_32_bits f) one.0).1

-- what an expression names is in range
pub names_are_in_range : (m : Module) (callees : ℕ) (f : Function) →
    function_in_range m callees f ≡ true → (h : ℕ) (e : Expression) →
    slice_get f.expressions h ≡ Some e →
    names_in_range m (length f.arguments.items) (length f.local_variables) e ≡ true
names_are_in_range m callees f ranges h e at =
    let test =
    expression_in_range m (length f.arguments.items) (length f.local_variables) in
    let from : 0 + h ≡ h = omega arith in
    (and_parts (all_below h (expression_operands e))
    (names_in_range m (length f.arguments.items) (length f.local_variables) e)
    (sym (ap (λ n. test n e) from) ∙
    numbered_at test 0 f.expressions h e (ranges_are m callees f ranges).0 at)).1

-- its expressions and its body are sound
pub soundness_is : (m : Module) (f : Function) (es : List ExpressionInfo) →
    function_is_sound m f es ≡ true →
    (expressions_are_sound m (Some f) (map (λ e. e.ty) es) f.expressions ≡ true) ×
    (body_is_sound m f (map (λ e. e.ty) es) ≡ true)
soundness_is m f es sound =
    let known = map (λ e. e.ty) es in
    let one = and_parts (expressions_are_sound m (Some f) known f.expressions) _ sound in
    let two =
    and_parts (locals_are_sound m.types known f.local_variables) (body_is_sound m f known) one.1 in
    (one.0, two.1)

module _ (m : Module) (info : ModuleInfo) (accepted : IsTrue (is_accepted m info)) where
  accepted_parts : (module_ranges_fit m info ≡ true) × (module_is_sound m info ≡ true)
  unfolding is_accepted
  accepted_parts =
      let one = and_parts _ _ accepted in
      let two = and_parts (module_is_sound m info) (module_operators_agree m info) one.1 in
      (one.0, two.0)

  ranges_parts : (sizes_fit m info ≡ true) × (module_in_range m ≡ true)
  unfolding module_ranges_fit
  ranges_parts =
      let one = and_parts _ _ accepted_parts.0 in let two = and_parts _ _ one.1 in
      let three = and_parts _ _ two.1 in (one.0, three.0)

  sound_parts :
      (all_paired (function_is_sound m) m.functions info.functions.items ≡ true) ×
      (all_paired (entry_point_is_sound m) m.entry_points.items info.entry_points.items ≡ true)
  unfolding module_is_sound
  sound_parts =
      let one = and_parts _ _ accepted_parts.1 in let two = and_parts _ _ one.1 in (two.0, two.1)

  pub functions_paired : all_paired function_size_fits m.functions info.functions.items ≡ true
  functions_paired = (and_parts _ _ ranges_parts.0).0

  pub functions_counted : length m.functions ≡ length info.functions.items
  functions_counted =
      paired_length function_size_fits m.functions info.functions.items functions_paired

  -- a function is in range, if it may call those before it, and that of an entry point if it may call all
  function_range : (k : ℕ) (f : Function) → slice_get m.functions k ≡ Some f →
      function_in_range m k f ≡ true
  function_range k f here =
      let from : 0 + k ≡ k = omega arith in
      let range = and_parts _ _ ranges_parts.1 in let functions = and_parts _ _ range.1 in
      sym (ap (λ n. function_in_range m n f) from) ∙
      numbered_at (function_in_range m) 0 m.functions k f functions.0 here

  -- all that an entry point names is there
  entry_point_is_in_range : (j : ℕ) (p : EntryPoint) → slice_get m.entry_points.items j ≡ Some p →
      entry_point_in_range m p ≡ true
  entry_point_is_in_range j p here =
      let range = and_parts _ _ ranges_parts.1 in let functions = and_parts _ _ range.1 in
      list_all_at (entry_point_in_range m) m.entry_points.items j p functions.1 here

  pub entry_point_parts : (j : ℕ) (p : EntryPoint) → slice_get m.entry_points.items j ≡ Some p →
      EntryPointFits m p
  entry_point_parts j p here = entry_point_fits m p (entry_point_is_in_range j p here)

  entry_point_range : (j : ℕ) (p : EntryPoint) → slice_get m.entry_points.items j ≡ Some p →
      function_in_range m (length m.functions) p.function ≡ true
  entry_point_range j p here = (entry_point_parts j p here).function

  pub of_function : (k : ℕ) (f : Function) (es : List ExpressionInfo) →
      slice_get m.functions k ≡ Some f → slice_get info.functions.items k ≡ Some es →
      IsAccepted m k f es
  of_function k f es here there =
      let before : k ≤ k = omega arith in
      let within = slice_get_within m.functions k f here in
      let below : k ≤ length m.functions = omega (arith, within) in
      record {
        callees = k;
        before = before;
        there = below;
        size = eqb-true (length f.expressions) (length es)
            (paired_at function_size_fits m.functions info.functions.items functions_paired
            k f es here there);
        ranges = function_range k f here;
        sound = paired_at (function_is_sound m) m.functions info.functions.items sound_parts.0
            k f es here there;
      }

  of_entry_point : (k j : ℕ) (p : EntryPoint) (es : List ExpressionInfo) →
      k ≡ length m.functions + j →
      slice_get m.entry_points.items j ≡ Some p → slice_get info.entry_points.items j ≡ Some es →
      IsAccepted m k p.function es
  of_entry_point k j p es at here there =
      let before : length m.functions ≤ k = omega (arith, at) in
      let all : length m.functions ≤ length m.functions = omega arith in
      let sizes = and_parts _ _ ranges_parts.0 in let more = and_parts _ _ sizes.1 in
      record {
        callees = length m.functions;
        before = before;
        there = all;
        size = eqb-true (length p.function.expressions) (length es)
            (paired_at (λ p es. function_size_fits p.function es) m.entry_points.items
            info.entry_points.items more.0 j p es here there);
        ranges = entry_point_range j p here;
        sound = paired_at (entry_point_is_sound m) m.entry_points.items info.entry_points.items
            sound_parts.1 j p es here there;
      }

  -- the number of a function, or of an entry point among these
  pub data Numbered (k : ℕ) (f : Function) (es : List ExpressionInfo) : Type 0 where
    AsFunction : slice_get m.functions k ≡ Some f → slice_get info.functions.items k ≡ Some es →
        Numbered k f es
    AsEntryPoint : (j : ℕ) (p : EntryPoint) → k ≡ length m.functions + j →
        slice_get m.entry_points.items j ≡ Some p → slice_get info.entry_points.items j ≡ Some es →
        p.function ≡ f → Numbered k f es

  pub numbered : (k : ℕ) (f : Function) (es : List ExpressionInfo) →
      slice_get (functions_known m info) k ≡ Some (f, es) → Numbered k f es
  numbered k f es there =
      let both = zip_parts (all_functions m) (all_infos info) k (f, es) there in
      by (which_function m k f both.0)
      (in_append info.functions.items info.entry_points.items k es both.1)
    where
      by : IsNumbered m k f → (slice_get info.functions.items k ≡ Some es) ⊎
          ((j : ℕ) × (k ≡ length info.functions.items + j)
          × (slice_get info.entry_points.items j ≡ Some es)) →
          Numbered k f es
      by (OfFunction here ty) (inl known) = AsFunction here known
      by (OfFunction here ty) (inr e) =
          let within = slice_get_within m.functions k f here in
          let counted = functions_counted in let at = e.1 in
          absurd (omega (arith, within, counted, at))
      by (OfEntryPoint j p at here same ty) (inl known) =
          let within = slice_get_within info.functions.items k es known in
          let counted = functions_counted in
          absurd (omega (arith, within, counted, at))
      by (OfEntryPoint j p at here same ty) (inr e) =
          let counted = functions_counted in let also = e.1 in
          let one : e.0 ≡ j = omega (arith, counted, at, also) in
          AsEntryPoint j p at here
          (ap (slice_get info.entry_points.items) (sym one) ∙ e.2) same

  -- each of them
  pub accepted_at : (k : ℕ) (f : Function) (es : List ExpressionInfo) →
      slice_get (functions_known m info) k ≡ Some (f, es) → IsAccepted m k f es
  accepted_at k f es there = by (numbered k f es there)
    where
      by : Numbered k f es → IsAccepted m k f es
      by (AsFunction here known) = of_function k f es here known
      by (AsEntryPoint j p at here known same) =
          subst (λ f. IsAccepted m k f es) same (of_entry_point k j p es at here known)

  -- so many of both kinds are known
  pub entry_points_counted : length m.entry_points.items ≡ length info.entry_points.items
  entry_points_counted =
      let more = and_parts _ _ (and_parts _ _ ranges_parts.0).1 in
      paired_length (λ p es. function_size_fits p.function es) m.entry_points.items
      info.entry_points.items more.0

  pub all_counted : length (all_functions m) ≡ length (all_infos info)
  all_counted =
      let functions = functions_counted in let entry_points = entry_points_counted in
      let one = length-append m.functions (entry_functions m.entry_points.items) in
      let two = length-append info.functions.items info.entry_points.items in
      let mapped = length-map m.entry_points.items (λ p. p.function) in
      omega (arith, functions, entry_points, one, two, mapped)

  -- what is known of that of an entry point stands after what is known of the functions
  pub entry_info_among : (j : ℕ) (es : List ExpressionInfo) →
      slice_get info.entry_points.items j ≡ Some es →
      slice_get (all_infos info) (length m.functions + j) ≡ Some es
  entry_info_among j es there =
      ap (λ n. slice_get (all_infos info) (n + j)) functions_counted
      ∙ after_left info.functions.items info.entry_points.items j es there

  -- of each something is known
  pub known_there : (g : ℕ) (f : Function) → slice_get (all_functions m) g ≡ Some f →
      (es : List ExpressionInfo) × (slice_get (all_infos info) g ≡ Some es)
  known_there g f here =
      let within = slice_get_within (all_functions m) g f here in
      let counted = all_counted in
      element (all_infos info) g (omega (arith, within, counted))

  pub function_there : (g : ℕ) (f : Function) → slice_get (all_functions m) g ≡ Some f →
      (es : List ExpressionInfo) × (slice_get (functions_known m info) g ≡ Some (f, es))
  function_there g f here =
      let known = known_there g f here in
      (known.0, zip_at (all_functions m) (all_infos info) g f known.0 here known.1)

  -- acceptance says it of what has a number and is known
  pub of_number : (g : ℕ) (f : Function) (es : List ExpressionInfo) →
      slice_get (all_functions m) g ≡ Some f → slice_get (all_infos info) g ≡ Some es →
      IsAccepted m g f es
  of_number g f es here known =
      accepted_at g f es (zip_at (all_functions m) (all_infos info) g f es here known)

  -- each is in range, where it may call so many
  pub ranges_of : (ty : FunctionType) → IsFunctionOf ty m → (f : Function) →
      slice_get (all_functions m) (function_number m ty) ≡ Some f →
      function_in_range m (callee_count m ty) f ≡ true
  ranges_of (item.Function h) lt f at = by (which_function m h f at)
    where
      by : IsNumbered m h f → function_in_range m h f ≡ true
      by (OfFunction here ty) = function_range h f here
      by (OfEntryPoint j p number here same ty) = absurd (omega (arith, lt, number))
  ranges_of (item.EntryPoint j) lt f at = by (which_function m (length m.functions + j) f at)
    where
      by : IsNumbered m (length m.functions + j) f →
          function_in_range m (length m.functions) f ≡ true
      by (OfFunction here ty) =
          let within = slice_get_within m.functions (length m.functions + j) f here in
          absurd (omega (arith, within))
      by (OfEntryPoint i p number here same ty) =
          subst (λ f. function_in_range m (length m.functions) f ≡ true) same
          (entry_point_range i p here)

  -- what is known of the expressions of each
  pub group_at : (k : ℕ) (f : Function) (es : List ExpressionInfo) →
      slice_get (functions_known m info) k ≡ Some (f, es) →
      IsSoundGroup m info (Some f) (function_group f es)
  group_at k f es there = by (numbered k f es there)
    where
      by : Numbered k f es → IsSoundGroup m info (Some f) (function_group f es)
      by (AsFunction here known) = functions_are m info accepted k f es here known
      by (AsEntryPoint j p at here known same) =
          subst (λ f. IsSoundGroup m info (Some f) (function_group f es)) same
          (entry_points_are m info accepted j p es here known)
