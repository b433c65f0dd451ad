-- What an error says of an expression, a type or a declaration that is refused: it names the
-- construct for which it is, or tells want of memory for its text.
--
-- Throughout, m is a module, r a type of an expression, h the handle of one of the module's own
-- expressions, e an expression of a function, of which es are all and known is what is known of
-- their types, and number is that of a function or an entry point.
use Rattle.std.specs.Prelude.{ℕ, List, codes}
use Rattle.naga_info.specs.declared.info.ExpressionInfo.{ExpressionInfo}
use Rattle.naga_info.specs.declared.info.TypeResolution.{TypeResolution}
use Rattle.naga_ir.specs.declared.expression.Expression.{Expression}
use Rattle.naga_ir.specs.declared.module.Module.{Module}
use Rattle.naga_refusals.specs.Constructs.{IsToldAs, IsToldOf}
use Rattle.naga_refusals.specs.Errors.{IsUnsupported}
use Rattle.naga_refusals.specs.declared.construct.Construct.{Construct}
use Rattle.naga_refusals.specs.declared.error.Error.{Error}
use Rattle.naga_tables.specs.Declarations.{IsUnsupportedDeclaration, IsUnsupportedHead}
use Rattle.naga_tables.specs.Refusals.{expression_refusal, global_refusal, type_refusal}

-- a type that no text can spell
abbrev pub NamesType : Module → TypeResolution → Error → Type 0
NamesType m r error = IsToldOf (type_refusal m r) error

-- one of the module's own expressions
abbrev pub NamesGlobal : Module → Error → (h : ℕ) → Type 0
NamesGlobal m error h = IsToldOf (global_refusal m h) error

-- an expression among others of a module
abbrev pub NamesExpression : Module → (known : List ExpressionInfo) → (es : List Expression) →
    Expression → Error → Type 0
NamesExpression m known es e error = IsToldOf (expression_refusal m known es e) error

-- a built-in value that WGSL has no word for
abbrev pub NamesBuiltin : Error → Type 0
NamesBuiltin error = IsUnsupported (codes "builtin value") error

-- what a function takes or gives, or its stage
abbrev pub NamesHead : Module → (number : ℕ) → Error → Type 0
NamesHead m number error = (it : Construct) × IsUnsupportedHead m number it × IsToldAs it error

-- a declaration of the module, or a struct that can't keep the offsets of its members
abbrev pub NamesDeclaration : Module → Error → Type 0
NamesDeclaration m error = (it : Construct) × IsUnsupportedDeclaration m it × IsToldAs it error
