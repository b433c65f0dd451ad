-- The texts of attributes, from what is written of them in turn.
-- Serves 18 contracts, `write_blend_source` among them.
--
-- Throughout, list are attributes, more those after one, n is a number, w a word, i an interpolation
-- and s a sampling.
use Rattle.std.proofs.Common.{◌≡◌, ◌∙◌, ◌++◌, ℕ, Bool, true, false, List, [], ◌∷◌, append_assoc, ap}
use Rattle.std.proofs.Common.{codes, decimal, refl, sym}
use Rattle.std.specs.Prelude.{Option, Some, None}
use Rattle.std.proofs.lemmas.List.{append-nil}
use Rattle.naga_ir.specs.declared.binding.Binding.TheVariants as binding
use Rattle.naga_ir.specs.declared.binding.BuiltIn.{BuiltIn}
use Rattle.naga_ir.specs.declared.binding.Interpolation.{Interpolation}
use Rattle.naga_ir.specs.declared.binding.Sampling.{Sampling}
use Rattle.naga_form.specs.Attributes.{attribute_if, attribute_of, builtin_attributes}
use Rattle.naga_form.specs.Attributes.{interpolation_attributes, interpolation_told}
use Rattle.naga_form.specs.Attributes.{passing_attributes}
use Rattle.module_semantics.specs.StageBindings.{is_invariant}
use Rattle.naga_words.specs.Output.{joined_texts}
use Rattle.wgsl_text.proofs.Text.{text-append}
use Rattle.wgsl_text.specs.Attributes.{Attribute, BlendSource, Interpolate, Invariant, Location}
use Rattle.wgsl_text.specs.Attributes.{Numbered, NumberedAttribute, PerPrimitive}
use Rattle.wgsl_text.specs.Attributes.{Plain, PlainAttribute, Worded, WordedAttribute, Builtin}
use Rattle.wgsl_text.specs.Attributes.{attribute_pieces, attributes_pieces, numbered_attribute_word}
use Rattle.wgsl_text.specs.Attributes.{plain_attribute_word, worded_attribute_word}
use Rattle.wgsl_text.specs.Text.{text}
use Rattle.wgsl_words.specs.Words.{builtin_word}
use Rattle.naga_wgsl_shared.specs.Attributes.{attributes_text, binding_text, interpolated_text}
use Rattle.naga_wgsl_shared.specs.Attributes.{numbered_text, text_if, worded_text}

-- ---- what is written of one
pub numbered_parts : (front : List ℕ) (n : ℕ) →
    numbered_text front n ≡ joined_texts front (joined_texts (decimal n) (codes ") "))
unfolding numbered_text joined_texts
numbered_parts front n = refl

pub worded_parts : (front w : List ℕ) →
    worded_text front w ≡ joined_texts front (joined_texts w (codes ") "))
unfolding worded_text joined_texts
worded_parts front w = refl

pub interpolated_parts : (i s : List ℕ) →
    interpolated_text i s ≡
    joined_texts (codes "@interpolate(")
    (joined_texts i (joined_texts (codes ", ") (joined_texts s (codes ") "))))
unfolding interpolated_text joined_texts
interpolated_parts i s = refl

-- ---- some attributes after others
pub no_attributes : attributes_text [] ≡ []
unfolding attributes_text
no_attributes = refl

pub attributes_then : (list more : List Attribute) →
    attributes_text (list ++ more) ≡ joined_texts (attributes_text list) (attributes_text more)
unfolding attributes_text joined_texts
attributes_then [] more = refl
attributes_then (a ∷ list) more =
    text-append (attribute_pieces a) (attributes_pieces (list ++ more))
    ∙ (ap (λ t. text (attribute_pieces a) ++ t) (attributes_then list more)
    ∙ (sym (append_assoc (text (attribute_pieces a)) (text (attributes_pieces list)) (text (attributes_pieces more)))
    ∙ ap (λ t. t ++ text (attributes_pieces more))
    (sym (text-append (attribute_pieces a) (attributes_pieces list)))))

-- what stands in front of a number and of a word
abbrev pub numbered_front : NumberedAttribute → List ℕ
numbered_front a = codes "@" ++ (numbered_attribute_word a ++ codes "(")

abbrev pub worded_front : WordedAttribute → List ℕ
worded_front a = codes "@" ++ (worded_attribute_word a ++ codes "(")

pub numbered_alone : (a : NumberedAttribute) (n : ℕ) →
    attributes_text (Numbered a n ∷ []) ≡ numbered_text (numbered_front a) n
unfolding attributes_text numbered_text
numbered_alone a n =
    let word = numbered_attribute_word a in
    ap (λ d. codes "@" ++ (word ++ (codes "(" ++ (d ++ codes ") ")))) (append-nil (decimal n))
    ∙ ap (λ t. codes "@" ++ t) (sym (append_assoc word (codes "(") (decimal n ++ codes ") ")))

pub worded_alone : (a : WordedAttribute) (w : List ℕ) →
    attributes_text (Worded a w ∷ []) ≡ worded_text (worded_front a) w
unfolding attributes_text worded_text
worded_alone a w =
    ap (λ t. codes "@" ++ t)
    (sym (append_assoc (worded_attribute_word a) (codes "(") (w ++ codes ") ")))

pub numbered_then : (a : NumberedAttribute) (n : ℕ) (more : List Attribute) →
    attributes_text (Numbered a n ∷ more) ≡
    joined_texts (numbered_text (numbered_front a) n) (attributes_text more)
numbered_then a n more =
    attributes_then (Numbered a n ∷ []) more
    ∙ ap (λ t. joined_texts t (attributes_text more)) (numbered_alone a n)

pub worded_then : (a : WordedAttribute) (w : List ℕ) (more : List Attribute) →
    attributes_text (Worded a w ∷ more) ≡
    joined_texts (worded_text (worded_front a) w) (attributes_text more)
worded_then a w more =
    attributes_then (Worded a w ∷ []) more
    ∙ ap (λ t. joined_texts t (attributes_text more)) (worded_alone a w)

-- a word alone, where a test passes
pub plain_if : (a : PlainAttribute) (there : Bool) →
    attributes_text (attribute_if (Plain a) there) ≡
    text_if there (codes "@" ++ (plain_attribute_word a ++ codes " "))
unfolding attributes_text text_if
plain_if a true = refl
plain_if a false = refl

-- ---- bindings
pub unbound_row : attributes_text (passing_attributes None) ≡ []
unbound_row = no_attributes

pub builtin_row : (value : BuiltIn) (w : List ℕ) → builtin_word value ≡ Some w →
    binding_text (binding.BuiltIn value) ≡
    joined_texts (worded_text (codes "@builtin(") w) (text_if (is_invariant value) (codes "@invariant "))
builtin_row value w named =
    ap (λ o. attributes_text (builtin_attributes o (is_invariant value))) named
    ∙ (worded_then Builtin w (attribute_if (Plain Invariant) (is_invariant value))
    ∙ ap (λ t. joined_texts (worded_text (codes "@builtin(") w) t)
    (plain_if Invariant (is_invariant value)))

pub source_row : (n : ℕ) →
    attributes_text (attribute_of (Numbered BlendSource) (Some n)) ≡
    numbered_text (codes "@blend_src(") n
source_row n = numbered_alone BlendSource n

pub no_source_row : attributes_text (attribute_of (Numbered BlendSource) None) ≡ []
no_source_row = no_attributes

-- of an interpolation and a sampling
pub sampled_row : (perspective : Bool) (i s : List ℕ) →
    attributes_text (interpolation_told perspective false i s) ≡ interpolated_text i s
unfolding attributes_text interpolated_text
sampled_row true i s = refl
sampled_row false i s = refl

pub interpolated_row : (i s : List ℕ) →
    attributes_text (interpolation_told false true i s) ≡ worded_text (codes "@interpolate(") i
interpolated_row i s = worded_alone Interpolate i

pub untold_row : (i s : List ℕ) → attributes_text (interpolation_told true true i s) ≡ []
untold_row i s = no_attributes

pub location_row : (n : ℕ) (interpolation : Option Interpolation) (sampling : Option Sampling)
    (source : Option ℕ) (per_primitive : Bool) →
    binding_text (binding.Location n interpolation sampling source per_primitive) ≡
    joined_texts (numbered_text (codes "@location(") n)
    (joined_texts (attributes_text (attribute_of (Numbered BlendSource) source))
    (joined_texts (attributes_text (interpolation_attributes interpolation sampling))
    (text_if per_primitive (codes "@per_primitive "))))
location_row n interpolation sampling source per_primitive =
    let sources = attribute_of (Numbered BlendSource) source in
    let told = interpolation_attributes interpolation sampling in
    let last = attribute_if (Plain PerPrimitive) per_primitive in
    let first = joined_texts (numbered_text (codes "@location(") n) in
    numbered_then Location n (sources ++ (told ++ last))
    ∙ (ap first (attributes_then sources (told ++ last))
    ∙ (ap (λ t. first (joined_texts (attributes_text sources) t)) (attributes_then told last)
    ∙ ap (λ t. first (joined_texts (attributes_text sources) (joined_texts (attributes_text told) t)))
    (plain_if PerPrimitive per_primitive)))
