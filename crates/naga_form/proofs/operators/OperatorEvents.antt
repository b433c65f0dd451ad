-- The words that ask for an event are those of the operators that do.
use Rattle.std.proofs.Common.{◌≡◌, ℕ, Bool, true, false, not, ◌&&◌, List, codes, Some, refl, sym}
use Rattle.std.proofs.Common.{ap, ◌∙◌}
use Rattle.std.specs.Prelude.{unwrap_or}
use Rattle.std.specs.List.{list_all}
use Rattle.std.specs.Option.{option_map_or}
use Rattle.std.proofs.lemmas.Bool.{false≢true, true≢false, and_parts, not-true}
use Rattle.naga_ir.specs.declared.operators.UnaryOperator.TheVariants as unary
use Rattle.wgsl_text.specs.Words.{stands_in, is_builtin}
use Rattle.wgsl_text.specs.Types.{TypeSpecifier, Named, is_type, TemplateRule, TakesNone}
use Rattle.wgsl_text.specs.Types.{rule_among, type_templates, IsType}
use Rattle.wgsl_text.proofs.Words.{all_words, passes}
use Rattle.naga_form.proofs.operators.OperatorTable.{by_table, mathematical, others}
use Rattle.wgsl_text.specs.Reading.{printed_type}
use Rattle.wgsl_text.specs.Requests.{request_words, is_request}
use Rattle.module_semantics.specs.OperatorTable.{Operator, UnarySign, Sample, Gather, Texel}
use Rattle.module_semantics.specs.OperatorTable.{OnlyTexel, Automatic, Zero, CooperativeLoad}
use Rattle.module_semantics.specs.OperatorTable.{MakeSpelled, Convert, Reinterpret, with_type}
use Rattle.module_semantics.specs.OperatorTable.{operator_word, own_word, run_word, one_word, asks}
use Rattle.module_semantics.specs.OperatorTable.{is_untyped, SpellsAType, TypeIsSound, WithoutForm}
use Rattle.module_semantics.specs.OperatorTable.{ValueOf}
use Rattle.naga_form.proofs.operators.TypedWords.{head_of, head_is, no_type_begins}

pub keeps_text : (o : Operator) → operator_word (one_word o) ≡ operator_word o
keeps_text (UnarySign unary.Negate) = refl
keeps_text (UnarySign _) = refl
keeps_text (Sample Zero true false arrayed offset) = refl
keeps_text (Sample Zero false false arrayed offset) = refl
keeps_text (Sample Zero compares true arrayed offset) = refl
keeps_text (Sample Automatic compares clamped arrayed offset) = refl
keeps_text (Sample _ compares clamped arrayed offset) = refl
keeps_text (Gather c Zero compares false arrayed offset) = refl
keeps_text (Gather c Zero compares true arrayed offset) = refl
keeps_text (Gather c Automatic compares clamped arrayed offset) = refl
keeps_text (Gather c _ compares clamped arrayed offset) = refl
keeps_text (Texel arrayed OnlyTexel) = refl
keeps_text (Texel arrayed _) = refl
keeps_text _ = refl

pub keeps_asking : (o : Operator) → asks (one_word o) ≡ asks o
keeps_asking (UnarySign unary.Negate) = refl
keeps_asking (UnarySign _) = refl
keeps_asking (Texel arrayed OnlyTexel) = refl
keeps_asking (Texel arrayed _) = refl
keeps_asking (WithoutForm (ValueOf numbers components)) = refl
keeps_asking (WithoutForm _) = refl
keeps_asking _ = refl

abbrev same : Bool → Bool → Bool
same true b = b
same false b = not b

same_is : (a b : Bool) → same a b ≡ true → a ≡ b
same_is true true e = refl
same_is true false e = absurd (false≢true e)
same_is false true e = absurd (false≢true e)
same_is false false e = refl

-- where the operator has a word, that asks as it does
asks_alike : Operator → Bool
asks_alike o = option_map_or (λ w. same (is_request w) (asks o)) (operator_word o) true

others_alike : list_all asks_alike others ≡ true
unfolding asks_alike is_request
others_alike = refl

mathematical_alike : list_all asks_alike mathematical ≡ true
unfolding asks_alike is_request
mathematical_alike = refl

untyped_stands : (o : Operator) (w : List ℕ) → operator_word o ≡ Some w → asks_alike (one_word o) ≡ true →
    same (is_request w) (asks o) ≡ true
unfolding asks_alike
untyped_stands o w e holds =
    ap (λ b. same (is_request w) b) (sym (keeps_asking o))
    ∙ (ap (λ x. option_map_or (λ v. same (is_request v) (asks (one_word o))) x true) (sym (keeps_text o ∙ e)) ∙ holds)

untyped_asks : (o : Operator) (w : List ℕ) → is_untyped o ≡ true → operator_word o ≡ Some w → is_request w ≡ asks o
untyped_asks o w u e =
    same_is (is_request w) (asks o)
    (untyped_stands o w e (by_table asks_alike others_alike mathematical_alike o u).1)

-- ---- types
abbrev takes_none : TemplateRule → Bool
takes_none TakesNone = true
takes_none _ = false

none_taken : (r : TemplateRule) → takes_none r ≡ true → r ≡ TakesNone
none_taken TakesNone e = refl
none_taken _ e = absurd (false≢true e)

-- a word that asks for an event is no type's
no_type : List ℕ → Bool
no_type v = not (is_type (Named v)) && takes_none (rule_among type_templates v)

no_types : all_words no_type request_words ≡ true
unfolding no_type is_builtin
no_types = refl

no_type_parts : (v : List ℕ) → no_type v ≡ true → (is_type (Named v) ≡ false)
    × (takes_none (rule_among type_templates v) ≡ true)
unfolding no_type
no_type_parts v e =
    let parts = and_parts (not (is_type (Named v))) (takes_none (rule_among type_templates v)) e in
    (not-true (is_type (Named v)) parts.0, parts.1)

no_request : (t : TypeSpecifier) → IsType t → stands_in request_words (head_of t) ≡ false
no_request t is = by (stands_in request_words (head_of t)) refl
  where
    by : (b : Bool) → stands_in request_words (head_of t) ≡ b → b ≡ false
    by true at =
        let parts = no_type_parts (head_of t) (passes no_type request_words (head_of t) no_types at) in
        absurd (no_type_begins (head_of t) parts.0 (none_taken (rule_among type_templates (head_of t)) parts.1)
        t is refl)
    by false at = refl

type_asks_nothing : (t : TypeSpecifier) → IsType t → is_request (printed_type t) ≡ false
unfolding is_request
type_asks_nothing t is = ap (stands_in request_words) (head_is t is.part) ∙ no_request t is

spelling_asks_nothing : (w : List ℕ) → SpellsAType w → is_request w ≡ false
spelling_asks_nothing w is = ap is_request (sym is.1.1) ∙ type_asks_nothing is.0 is.1.0

reinterpret_asks : (w : List ℕ) → is_request (with_type (codes "bitcast") w) ≡ false
unfolding is_request
reinterpret_asks w = refl

load_asks : (w : List ℕ) → is_request (with_type (codes "coopLoad") w) ≡ true
unfolding is_request
load_asks w = refl

transposed_asks : (w : List ℕ) → is_request (with_type (codes "coopLoadT") w) ≡ true
unfolding is_request
transposed_asks w = refl

typed_asks : (o : Operator) (w : List ℕ) → is_untyped o ≡ false → TypeIsSound o → operator_word o ≡ Some w →
    is_request (run_word o) ≡ asks o
typed_asks (CooperativeLoad false x) w u is e = load_asks x
typed_asks (CooperativeLoad true x) w u is e = transposed_asks x
typed_asks (MakeSpelled x n) w u is e = spelling_asks_nothing x is
typed_asks (Convert x) w u is e = spelling_asks_nothing x is
typed_asks (Reinterpret x) w u is e = reinterpret_asks x
typed_asks (WithoutForm x) w u is e = absurd (cc)
typed_asks _ w u is e = absurd (true≢false u)

pub asks_as_distinguished : (o : Operator) (w : List ℕ) → TypeIsSound o → operator_word o ≡ Some w →
    is_request w ≡ asks o
asks_as_distinguished o w is e = by (is_untyped o) refl
  where
    by : (b : Bool) → is_untyped o ≡ b → is_request w ≡ asks o
    by true u = untyped_asks o w u e
    by false u = ap (λ x. is_request (unwrap_or x (own_word o))) (sym e) ∙ typed_asks o w u is e
