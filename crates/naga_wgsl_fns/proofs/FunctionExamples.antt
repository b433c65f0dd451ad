-- A function that is written by itself in a module that no text is written for: the function after it
-- is refused, and an override has an initialiser without a form. What its text means is told by the
-- one answer that it got.
--
-- Throughout, a module has these two functions and this override, and neither constants nor variables.
-- All else that it has is any, and so are what it takes and gives, and what stands in it.
use Rattle.std.proofs.Common.{◌≡◌, ℕ, pos, Bool, false, true, List, [], ◌∷◌, ◌++◌, Some, refl}
use Rattle.std.proofs.Common.{arith}
use Rattle.std.specs.Prelude.{Ok}
use Rattle.naga_ir.specs.StatementTree.{no_statements, ray_query, simple, statement}
use Rattle.naga_ir.specs.declared.expression.Expression.TheVariants as expression
use Rattle.naga_ir.specs.declared.expression.Literal.TheVariants as literal
use Rattle.naga_ir.specs.declared.operators.UnaryOperator.TheVariants as unary
use Rattle.naga_ir.specs.declared.module.Function.{Function}
use Rattle.naga_ir.specs.declared.module.Module.{Module}
use Rattle.naga_ir.specs.declared.module.Override.{Override}
use Rattle.naga_info.specs.declared.info.ExpressionInfo.{ExpressionInfo}
use Rattle.naga_info.specs.declared.info.ModuleInfo.{ModuleInfo}
use Rattle.naga_naming.specs.Naming.{Names}
use Rattle.naga_back.specs.declared.context.FunctionType.TheVariants as item
use Rattle.naga_back.specs.declared.flags.WriterFlags.{WriterFlags}
use Rattle.module_semantics.specs.FunctionLets.{BindsAt}
use Rattle.module_semantics.specs.DeclarationForms.{DeclarationsHaveForms, IsInitialiser}
use Rattle.module_semantics.specs.DeclarationForms.{ItemsHaveForms}
use Rattle.module_semantics.specs.Faithful.{RunsAt}
use Rattle.module_semantics.specs.Names.{LabelNames, item_labels}
use Rattle.module_semantics.specs.Resolution.{BodyResolves}
use Rattle.module_semantics.specs.Written.{AllWrittenHaveForms}
use Rattle.naga_form.proofs.names.ExpressionNames.{names_of_each_are}
use Rattle.naga_form.specs.Declarations.{program_under}
use Rattle.naga_back.specs.Flags.{annotates_types}
use Rattle.naga_wgsl_fns.specs.Items.{AreNamesOfText, FunctionWriting, IsMeantUnder}
use Rattle.naga_wgsl_fns.specs.Items.{IsWritableFunction, named_following}

-- One program has the texts of all functions, each of which was written by itself after labels of its
-- own: there are names of which each text's are a part.
names_of_all : (m : Module) (later : (number : ℕ) → List (List ℕ)) (number : ℕ) →
    AreNamesOfText m (item_labels m ++ later number) number
    (λ k. named_following m (item_labels m ++ later k) k)
names_of_all m later number = record { are = names_of_each_are m later; own = refl }

module _ (other : Module) (more : ModuleInfo) (o : Override) (first : Function)
    (known : List ExpressionInfo) where
  -- a step of a ray query has no form
  abbrev second : Function
  second = record first { body = statement (simple (ray_query 0)) no_statements }

  -- an operator has none in an initialiser
  abbrev scale : Override
  scale = record o { init = Some 1 }

  abbrev m : Module
  m =
      record other {
        constants = [];
        overrides = scale ∷ [];
        global_variables = [];
        global_expressions =
            expression.Literal (literal.I32 (pos 7)) ∷ expression.Unary unary.Negate 0 ∷ [];
        functions = first ∷ second ∷ [];
      }

  abbrev info : ModuleInfo
  info =
      record more {
        functions = record more.functions {
          len = 2;
          cap = 2;
          items = known ∷ known ∷ [];
          ok = (refl, omega arith);
          small = omega arith;
        };
      }

  -- not all that is written of its functions has forms, nor has all that it declares
  not_all_written : (explicit : Bool) → AllWrittenHaveForms explicit m info → ⊥
  not_all_written explicit have =
      let formed : false ≡ true = (have 1 second known refl refl).statements in
      cc

  not_all_have_forms : DeclarationsHaveForms m → ⊥
  not_all_have_forms have =
      let formed : false ≡ true =
      have.initialisers 1 (IsInitialiser.OfOverride 0 scale 1 refl refl) in
      cc

  -- so the second function is refused, whatever labels were named before it
  refused : (explicit : Bool) (earlier : List (List ℕ)) → IsWritableFunction explicit m info earlier 1 → ⊥
  refused explicit earlier is =
      let formed : false ≡ true = (is.plan.formed second known refl refl).statements in
      cc

  -- the items that runs hang on have forms
  items : ItemsHaveForms m
  items = record {
    variables = λ i v at. absurd cc;
    constants = λ i c at named. absurd cc;
  }

  -- the first one was written, and a program has names among which are those of its text
  module _ (flags : WriterFlags) (earlier later : List (List ℕ)) (begins : earlier ≡ item_labels m ++ later)
      (answer : Unit {0}) (namer : Names) (content now : List ℕ) (before after : ℕ)
      (writing : FunctionWriting m info flags earlier (item.Function 0) (Ok answer) namer content now
      before after) (named : LabelNames) (agree : AreNamesOfText m earlier 0 named) where
    meant : IsMeantUnder named flags m info (item.Function 0) content now
    meant = (writing.as_meant later begins).under named agree

    lets : BindsAt named m info (annotates_types flags)
        (program_under named m info flags) 0
    lets = meant.lets

    words : BodyResolves named m info (program_under named m info flags) 0
    words = meant.resolution.body

    runs : RunsAt m info (program_under named m info flags) 0
    runs =
        meant.runs items (λ g lt. absurd (omega (arith, lt))) (λ g lt. absurd (omega (arith, lt)))
