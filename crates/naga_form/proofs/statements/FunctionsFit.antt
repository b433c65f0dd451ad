-- What the law of runs asks of the functions of every accepted module, as far as acceptance gives it:
-- their operands stand before, leaves have their types and statements are regular. What is left is
-- said of names, words, constants and scope.
use Rattle.module_semantics.specs.StatementForms.{block_has_forms}
use Rattle.module_semantics.specs.Names.{TypesAreDistinguished}
use Rattle.std.proofs.Common.{◌≡◌, ℕ, suc, ◌<◌, ◌≤◌, ◌+◌, ◌||◌, Bool, true, false, List, [], ◌∷◌}
use Rattle.std.proofs.Common.{Option, Some, refl, sym, ap, ◌∙◌, subst, slice_get, length, map}
use Rattle.std.proofs.Common.{arith, nat_eq, cond}
use mathlib.Core.List.{reverse_aux}
use Rattle.std.specs.Prelude.{IsTrue}
use Rattle.std.specs.Option.{option_map}
use Rattle.std.proofs.lemmas.Bool.{eqb-true, eq-eqb, true≢false}
use Rattle.std.proofs.lemmas.Option.{slice_get-map}
use Rattle.naga_info.proofs.Options.{map_some}
use Rattle.naga_ir.specs.declared.module.Function.{Function}
use Rattle.naga_ir.specs.declared.module.Module.{Module}
use Rattle.naga_info.specs.declared.info.ExpressionInfo.{ExpressionInfo}
use Rattle.naga_info.specs.declared.info.ModuleInfo.{ModuleInfo}
use Rattle.module_semantics.specs.acceptance.Accepted.{is_accepted}
use Rattle.module_semantics.specs.FunctionShapes.{function_shape}
use Rattle.module_semantics.specs.ModuleShapes.{module_shape}
use Rattle.module_semantics.specs.ExpressionContexts.{declared, types_known}
use Rattle.shader_runs.specs.Form.{functions_of}
use Rattle.shader_runs.specs.Premises.{FunctionFits, AllFit, WordFits, AreDistinct, AreRegular}
use Rattle.shader_runs.specs.Premises.{OnlyEmptyFallIn}
use Rattle.shader_runs.specs.Program as shapes
use Rattle.shader_runs.specs.Program.{expression_of, function_numbered}
use Rattle.shader_runs.specs.Scope.{ModuleNames, Names, Naming, fits_function}
use Rattle.naga_form.proofs.statements.AcceptedFunctions.{functions_known, accepted_at, group_at}
use Rattle.naga_form.proofs.statements.AcceptedFunctions.{function_there, ranges_are, soundness_is}
use Rattle.naga_form.proofs.declarations.AcceptedGroups.{types_are_counted}
use Rattle.module_semantics.proofs.FunctionNumbers.{function_among}
use Rattle.naga_form.proofs.operators.Leaves.{ConstantsAreTyped, leaves}
use Rattle.naga_form.proofs.operators.Ordered.{ordered}
use Rattle.naga_form.proofs.statements.Regular.{AreWorded, StandAfter, regular}
use Rattle.naga_form.proofs.statements.Worded.{AsksFreely, worded}

-- ---- functions by their numbers
-- each of these has its number
abbrev pub Tells : (ℕ → Option shapes.Function) → List shapes.Function → Type 0
Tells at fs = (g : ℕ) → g < length fs → function_numbered fs g ≡ at g

pub one_more : (at : ℕ → Option shapes.Function) (f : shapes.Function) (fs : List shapes.Function) →
    Tells at fs → at (length fs) ≡ Some f → Tells at (f ∷ fs)
one_more at f fs tells is g lt = by (nat_eq g (length fs)) refl
  where
    by : (b : Bool) → nat_eq g (length fs) ≡ b → cond b (Some f) (function_numbered fs g) ≡ at g
    by true same = sym is ∙ ap at (sym (eqb-true g (length fs) same))
    by false other =
        let apart : (g ≡ length fs → ⊥) =
        λ e. true≢false (sym (eq-eqb g (length fs) e) ∙ other) in
        let before : g < suc (length fs) = lt in
        tells g (omega (arith, before, apart))

-- so they have in a list that is turned round
turned : (at : ℕ → Option shapes.Function) (xs following : List shapes.Function) → Tells at following →
    ((i : ℕ) (f : shapes.Function) → slice_get xs i ≡ Some f → at (length following + i) ≡ Some f) →
    Tells at (reverse_aux xs following)
turned at [] following tells each = tells
turned at (f ∷ xs) following tells each =
    turned at xs (f ∷ following)
    (one_more at f following tells (let same : length following ≡ length following
    + 0 = omega arith in ap at same ∙ each 0 f refl))
    (λ i g there. let same : suc (length following) + i ≡ length following + suc i = omega arith in
    ap at same ∙ each (suc i) g there)

pub first_distinguished : (at : ℕ → Option shapes.Function) (f : shapes.Function) (fs : List shapes.Function) →
    Tells at (f ∷ fs) → at (length fs) ≡ Some f
first_distinguished at f fs tells =
    sym (tells (length fs) (omega arith)) ∙
    ap (λ b. cond b (Some f) (function_numbered fs (length fs))) (eq-eqb (length fs) (length fs) refl)

pub rest_distinguished : (at : ℕ → Option shapes.Function) (f : shapes.Function) (fs : List shapes.Function) →
    Tells at (f ∷ fs) → Tells at fs
rest_distinguished at f fs tells g lt =
    ap (λ b. cond b (Some f) (function_numbered fs g)) (sym (by (nat_eq g (length fs)) refl)) ∙
    tells g (omega (arith, lt))
  where
    by : (b : Bool) → nat_eq g (length fs) ≡ b → nat_eq g (length fs) ≡ false
    by true same = let e = eqb-true g (length fs) same in absurd (omega (arith, e, lt))
    by false other = other

-- ---- what is left
-- what is asked of one function beside acceptance: its names, its words and its scope
pub record IsLeft (p : shapes.Module) (n : ModuleNames) (callees : List shapes.Function)
    (f : Naming) : Type 0 where
  pub outer : f.names.outer ≡ n
  pub earlier : f.names.earlier ≡ length callees
  pub words : (h : ℕ) → WordFits p f (expression_of f.function h)
  pub worded : AreWorded p f f.function.body
  pub distinct : AreDistinct p f
  pub scope : IsTrue (fits_function f)

-- the same where each statement has a form, or `all` words ask
pub record IsFree (all : Bool) (p : shapes.Module) (n : ModuleNames) (callees : List shapes.Function)
    (f : Naming) : Type 0 where
  pub outer : f.names.outer ≡ n
  pub earlier : f.names.earlier ≡ length callees
  pub words : (h : ℕ) → WordFits p f (expression_of f.function h)
  pub free : AsksFreely all p f
  pub distinct : AreDistinct p f
  pub scope : IsTrue (fits_function f)

-- each function after those before it
abbrev pub AllAfter : (List shapes.Function → Naming → Type 0) → List Naming → Type 0
AllAfter L [] = Unit {0}
AllAfter L (f ∷ fs) = L (functions_of fs) f × AllAfter L fs

abbrev pub named : shapes.Function → Names → Naming
named f names = record { function = f; names = names }

module _ (m : Module) (info : ModuleInfo) (accepted : IsTrue (is_accepted m info)) where
  abbrev p : shapes.Module
  p = module_shape m info

  -- the shape with a number
  abbrev pub shape_numbered : ℕ → Option shapes.Function
  shape_numbered g =
      slice_get (map (λ p. function_shape m info p.0 p.1) (functions_known m info)) g

  pub all_distinguished : Tells shape_numbered p.functions
  all_distinguished =
      turned shape_numbered (map (λ p. function_shape m info p.0 p.1) (functions_known m info)) []
      (λ g lt. absurd (omega (arith, lt)))
      (λ i f there. let at : 0 + i ≡ i = omega arith in ap shape_numbered at ∙ there)

  -- the functions of the module among those that are numbered so
  pub stand_after : (count : ℕ) (callees : List shapes.Function) → count ≤ length callees →
      Tells shape_numbered callees → StandAfter m info count callees
  stand_after count callees le tells = record {
    shape_of_callee = λ g f lt there.
        let known = function_there m info accepted g f (function_among m g f there) in (
          known.0,
          (function_shape m info f known.0).body,
          tells g (omega (arith, lt, le)) ∙
              (slice_get-map (λ p. function_shape m info p.0 p.1) (functions_known m info) g ∙
              ap (option_map (λ p. function_shape m info p.0 p.1)) known.1),
        );
  }

  -- ---- one function, after those before it, in any module and whatever its body is
  module _ (k : ℕ) (f : Function) (es : List ExpressionInfo)
      (at : slice_get (functions_known m info) k ≡ Some (f, es)) (q : shapes.Module)
      (body : shapes.Statements) (names : Names) where
    abbrev own : Naming
    own = named (record (function_shape m info f es) { body = body }) names

    -- its words ask for events, where each statement has a form or all words ask
    pub worded_at : (all : Bool) → k ≤ names.earlier → AsksFreely all q own →
        (all || block_has_forms f.body) ≡ true → AreWorded q own (function_shape m info f es).body
    worded_at all earlier free has =
        let is = accepted_at m info accepted k f es at in
        let before = is.before in
        worded all q own free
        (declared m info (types_known es)).context is.callees (length f.expressions)
        (omega (arith, before, earlier)) f.body (ranges_are m is.callees f is.ranges).1 has

    -- its statements are regular
    pub regular_at : TypesAreDistinguished m → (callees : List shapes.Function) →
        StandAfter m info (accepted_at m info accepted k f es at).callees callees →
        k ≤ names.earlier → AreWorded q own (function_shape m info f es).body →
        AreRegular q callees own (function_shape m info f es).body
    regular_at distinguished callees following earlier words =
        let is = accepted_at m info accepted k f es at in
        let group = group_at m info accepted k f es at in
        let before = is.before in
        regular m info f es (types_are_counted m info accepted distinguished) group body q names
        is.callees callees following
        (omega (arith, before, earlier)) (ranges_are m is.callees f is.ranges).1
        (soundness_is m f es is.sound).1 words

  -- all that is asked of it
  pub function_fits : TypesAreDistinguished m → (k : ℕ) (f : Function) (es : List ExpressionInfo) →
      slice_get (functions_known m info) k ≡ Some (f, es) → ConstantsAreTyped m info f es →
      OnlyEmptyFallIn (function_shape m info f es).body →
      (n : ModuleNames) (names : Names) (callees : List shapes.Function) →
      length callees ≡ k → Tells shape_numbered callees →
      IsLeft p n callees (named (function_shape m info f es) names) →
      FunctionFits p n callees (named (function_shape m info f es) names)
  function_fits distinguished k f es at constants only n names callees number tells left =
      let is = accepted_at m info accepted k f es at in
      let group = group_at m info accepted k f es at in
      let before = is.before in
      let earlier = left.earlier in
      record {
        outer = left.outer;
        earlier = left.earlier;
        ordered = ordered m info is.callees f es is.ranges;
        words = left.words;
        leaves = leaves m info f es (types_are_counted m info accepted distinguished) group
            constants;
        regular = regular_at k f es at p (function_shape m info f es).body names distinguished
            callees (stand_after is.callees callees (omega (arith, before, number)) tells)
            (omega (arith, number, earlier)) left.worded;
        cases = only;
        distinct = left.distinct;
        scope = left.scope;
      }

  -- ---- all functions
  -- what follows for each function from what is said of it follows for all
  pub all_from : (L F : List shapes.Function → Naming → Type 0) →
      ((k : ℕ) (f : Function) (es : List ExpressionInfo) →
      slice_get (functions_known m info) k ≡ Some (f, es) → (names : Names)
      (callees : List shapes.Function) → length callees ≡ k → Tells shape_numbered callees →
      L callees (named (function_shape m info f es) names) →
      F callees (named (function_shape m info f es) names)) →
      (fs : List Naming) → Tells shape_numbered (functions_of fs) → AllAfter L fs → AllAfter F fs
  all_from L F each [] tells left = tt
  all_from L F each (f ∷ fs) tells left =
      (here, all_from L F each fs (rest_distinguished shape_numbered f.function (functions_of fs) tells) left.1)
    where
      here : F (functions_of fs) f
      here =
          let callees = functions_of fs in
          let k = length callees in
          let found =
          map_some (λ p. function_shape m info p.0 p.1) (slice_get (functions_known m info) k)
          f.function
          (sym (slice_get-map (λ p. function_shape m info p.0 p.1) (functions_known m info) k) ∙
          first_distinguished shape_numbered f.function callees tells) in
          subst (λ g. F callees (named g f.names)) found.2
          (each k found.0.0 found.0.1 found.1 f.names callees refl
          (rest_distinguished shape_numbered f.function callees tells)
          (subst (λ g. L callees (named g f.names)) (sym found.2) left.0))

  all_are : (p : shapes.Module) (n : ModuleNames) (fs : List Naming) →
      AllAfter (FunctionFits p n) fs → AllFit p n fs
  all_are p n [] all = tt
  all_are p n (f ∷ fs) all = (all.0, all_are p n fs all.1)

  -- what is asked beside acceptance of the constants and cases of each
  module _ (distinguished : TypesAreDistinguished m)
      (constants : (k : ℕ) (f : Function) (es : List ExpressionInfo) →
      slice_get (functions_known m info) k ≡ Some (f, es) → ConstantsAreTyped m info f es)
      (only : (k : ℕ) (f : Function) (es : List ExpressionInfo) →
      slice_get (functions_known m info) k ≡ Some (f, es) →
      OnlyEmptyFallIn (function_shape m info f es).body)
      (n : ModuleNames) (fs : List Naming) (same : functions_of fs ≡ p.functions) where
    -- the functions of an accepted module meet what the law of runs asks of them, where this is
    -- shown beside
    pub all_fit : AllAfter (IsLeft p n) fs → AllFit p n fs
    all_fit left =
        all_are p n fs
        (all_from (IsLeft p n) (FunctionFits p n)
        (λ k f es at names callees number tells left.
        function_fits distinguished k f es at (constants k f es at) (only k f es at) n names callees number tells
        left)
        fs (subst (Tells shape_numbered) (sym same) all_distinguished) left)

    -- the same where each statement has a form, or all words ask
    pub all_fit_freely : (all : Bool) → ((k : ℕ) (f : Function) (es : List ExpressionInfo) →
        slice_get (functions_known m info) k ≡ Some (f, es) →
        (all || block_has_forms f.body) ≡ true) →
        AllAfter (IsFree all p n) fs → AllFit p n fs
    all_fit_freely all has free =
        all_fit
        (all_from (IsFree all p n) (IsLeft p n)
        (λ k f es at names callees number tells free.
        let earlier = free.earlier in
        record {
          outer = free.outer;
          earlier = free.earlier;
          words = free.words;
          worded = worded_at k f es at p (function_shape m info f es).body names all
              (omega (arith, number, earlier)) free.free (has k f es at);
          distinct = free.distinct;
          scope = free.scope;
        })
        fs (subst (Tells shape_numbered) (sym same) all_distinguished) free)
