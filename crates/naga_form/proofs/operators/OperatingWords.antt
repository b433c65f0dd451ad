-- Words of operators that no name hides: those of all operators that expressions apply.
use Rattle.std.proofs.Common.{◌≡◌, ℕ, Bool, true, false, List, [], ◌∷◌, refl, nat_eq, sym, ap, ◌∙◌}
use Rattle.std.proofs.Common.{codes, ◌++◌, Option, Some, None}
use Rattle.std.specs.Char.{is_ascii_digit}
use Rattle.std.specs.List.{AllByRecursion, list_all}
use Rattle.std.specs.Prelude.{◌&&◌, ◌||◌, if◌then◌else◌, not}
use Rattle.std.specs.Option.{option_map_or}
use Rattle.std.proofs.lemmas.Bool.{and_from, and_parts, eqb-true, false≢true, not-true, or_parts}
use Rattle.module_semantics.specs.OperatorTable.{Operator, UnarySign, Texel, OnlyTexel, TexelChange}
use Rattle.module_semantics.specs.OperatorTable.{Collective, RayStep, run_word, with_type}
use Rattle.module_semantics.specs.OperatorTable.{Unsupported, MatrixLoad, WithoutForm}
use Rattle.module_semantics.specs.OperatorTable.{CooperativeLoad, unsupported_asks, asks, is_untyped}
use Rattle.module_semantics.specs.OperatorTable.{one_word}
use Rattle.module_semantics.specs.ExpressionOperators.{ExpressionContext, matrix_load}
use Rattle.naga_form.proofs.operators.OperatorEvents.{keeps_asking}
use Rattle.naga_form.proofs.operators.OperatorTable.{by_table, mathematical, others}
use Rattle.naga_ir.specs.declared.expression.CooperativeData.{CooperativeData}
use Rattle.naga_ir.specs.declared.operators.UnaryOperator.TheVariants as unary
use Rattle.naga_ir.specs.declared.types.CooperativeRole.{CooperativeRole}
use Rattle.naga_ir.specs.declared.types.CooperativeSize.{CooperativeSize}
use Rattle.naga_keywords.specs.Plain.{is_identifier_char, is_word}
use Rattle.wgsl_text.proofs.Words.{all_words, passes}
use Rattle.wgsl_text.specs.Keywords.{builtin_words}
use Rattle.wgsl_text.specs.Operators.{is_built_in}
use Rattle.wgsl_text.specs.Reading.{printed_type}
use Rattle.wgsl_text.specs.Requests.{word_before_arguments, is_request, request_words}
use Rattle.wgsl_text.specs.Types.{Named, plain_type_words, type_templates}
use Rattle.wgsl_text.specs.Words.{is_builtin, stands_in}

-- it has another sign than blanks
abbrev pub is_signed : List ℕ → Bool
is_signed [] = false
is_signed (c ∷ rest) = not (nat_eq c 32) || is_signed rest

-- it is no name: a sign, a built-in word, or no word at all, that begins like no numbered name
abbrev pub names_no_item : List ℕ → Bool
names_no_item [] = false
names_no_item (c ∷ rest) =
    not (nat_eq c 95) &&
    (is_signed (c ∷ rest) && (not (is_word (c ∷ rest)) || is_builtin (c ∷ rest)))

-- and it asks for nothing and is an operator's in every text, or asks for an event
abbrev pub operates_freely : List ℕ → Bool
operates_freely w = not (is_request w) && (is_built_in w && names_no_item w)

abbrev pub asks_freely : List ℕ → Bool
asks_freely w = is_request w && names_no_item w

pub record OperatesFreely (w : List ℕ) : Type 0 where
  pub asks_nothing : is_request w ≡ false
  pub operates : is_built_in w ≡ true
  pub no_item : names_no_item w ≡ true

pub free_parts : (w : List ℕ) → operates_freely w ≡ true → OperatesFreely w
free_parts w free =
    let one = and_parts (not (is_request w)) (is_built_in w && names_no_item w) free in
    let two = and_parts (is_built_in w) (names_no_item w) one.1 in
    record { asks_nothing = not-true (is_request w) one.0; operates = two.0; no_item = two.1 }

-- so is the cast of bits to any type
pub bits_free : (word : List ℕ) → operates_freely (with_type (codes "bitcast") word) ≡ true
unfolding is_request is_built_in is_builtin builtin_words
bits_free word = refl

-- what stands for what has no form: a blank, and after it no blank
pub unsupported_free : (what : Unsupported) → unsupported_asks what ≡ false →
    operates_freely (run_word (WithoutForm what)) ≡ true
unfolding is_request is_built_in is_builtin builtin_words
unsupported_free (MatrixLoad columns rows role row_major) silent = absurd cc
unsupported_free _ silent = refl

-- as are the loads of matrices, which ask
load_among_free : (columns rows : CooperativeSize) (role : CooperativeRole) (row_major : Bool)
    (o : Option (List ℕ)) →
    asks_freely
    (run_word
    (option_map_or (CooperativeLoad row_major) o
    (WithoutForm (MatrixLoad columns rows role row_major)))) ≡
    true
unfolding is_request is_built_in is_builtin builtin_words
load_among_free columns rows role true (Some w) = refl
load_among_free columns rows role false (Some w) = refl
load_among_free columns rows role row_major None = refl

pub matrix_load_free : (a : ExpressionContext) (columns rows : CooperativeSize)
    (role : CooperativeRole)
    (place : CooperativeData) → asks_freely (run_word (matrix_load a columns rows role place)) ≡ true
matrix_load_free a columns rows role place = load_among_free columns rows role place.row_major _

-- as are the types of one word, and words of types with parts, whatever these are
pub plain_types_free :
    all_words (λ w. operates_freely (printed_type (Named w))) plain_type_words ≡ true
unfolding is_request is_built_in is_builtin builtin_words
plain_types_free = refl

pub templates_free : (rest : List ℕ) →
    AllByRecursion
    (λ row. all_words (λ w. operates_freely (w ++ 60 ∷ rest)) row.0 ≡ true) type_templates
unfolding is_request is_built_in is_builtin builtin_words
templates_free rest =
    (refl, (refl, (refl, (refl, (refl, (refl, (refl, (refl, (refl, tt)))))))))

-- ---- all words that ask
-- a word of letters, digits and `_` has no parts
goes_on : (b : ℕ) → is_identifier_char b ≡ true → (nat_eq b 60 || nat_eq b 32) ≡ false
goes_on b is = by (nat_eq b 60) refl (nat_eq b 32) refl
  where
    by : (x : Bool) → nat_eq b 60 ≡ x → (y : Bool) → nat_eq b 32 ≡ y → (x || y) ≡ false
    by true less y blank = absurd (false≢true (sym (ap is_identifier_char (eqb-true b 60 less)) ∙ is))
    by false less true blank = absurd (false≢true (sym (ap is_identifier_char (eqb-true b 32 blank)) ∙ is))
    by false less false blank = refl

head_whole : (w : List ℕ) → list_all is_identifier_char w ≡ true → word_before_arguments w ≡ w
head_whole [] all = refl
head_whole (b ∷ bytes) all =
    let parts = and_parts (is_identifier_char b) (list_all is_identifier_char bytes) all in
    ap (λ t. if t then [] else b ∷ word_before_arguments bytes) (goes_on b parts.0)
    ∙ ap (λ bs. b ∷ bs) (head_whole bytes parts.1)

-- each is a built-in word that begins with no `_`
abbrev begins_plainly : List ℕ → Bool
begins_plainly [] = false
begins_plainly (c ∷ rest) = not (nat_eq c 95)

plain_requests : all_words (λ w. begins_plainly w && is_builtin w) request_words ≡ true
unfolding is_builtin builtin_words
plain_requests = refl

-- so that it is no name, whatever its parts are
head_free : (w : List ℕ) → stands_in request_words (word_before_arguments w) ≡ true → names_no_item w ≡ true
head_free [] stands = absurd (false≢true stands)
head_free (c ∷ rest) stands = by (nat_eq c 60 || nat_eq c 32) refl stands
  where
    whole : (a : Bool) → is_word (c ∷ rest) ≡ a → (not a || is_builtin (c ∷ rest)) ≡ true
    whole false word = refl
    whole true word =
        let all = (and_parts (list_all is_identifier_char (c ∷ rest)) (not (is_ascii_digit c)) word).0 in
        let at = ap (stands_in request_words) (sym (head_whole (c ∷ rest) all)) ∙ stands in
        (and_parts (begins_plainly (c ∷ rest)) (is_builtin (c ∷ rest))
        (passes (λ w. begins_plainly w && is_builtin w) request_words (c ∷ rest) plain_requests at)).1

    by : (parted : Bool) → (nat_eq c 60 || nat_eq c 32) ≡ parted →
        stands_in request_words (if parted then [] else c ∷ word_before_arguments rest) ≡ true →
        (not (nat_eq c 95) &&
        (is_signed (c ∷ rest) && (not (is_word (c ∷ rest)) || is_builtin (c ∷ rest)))) ≡ true
    by true at stands = absurd (false≢true stands)
    by false at stands =
        let passed = passes (λ w. begins_plainly w && is_builtin w) request_words
        (c ∷ word_before_arguments rest) plain_requests stands in
        let plain = (and_parts (not (nat_eq c 95)) (is_builtin (c ∷ word_before_arguments rest)) passed).0 in
        and_from (not (nat_eq c 95)) _ plain
        (and_from (is_signed (c ∷ rest)) _
        (ap (λ b. not b || is_signed rest) (or_parts (nat_eq c 60) (nat_eq c 32) at).1)
        (whole (is_word (c ∷ rest)) refl))

pub request_free : (w : List ℕ) → is_request w ≡ true → names_no_item w ≡ true
unfolding is_request
request_free w is = head_free w is

-- ---- operators that take no type
-- statements alone apply it, and WGSL may have no word for it
abbrev pub is_of_statements : Operator → Bool
is_of_statements (TexelChange way arrayed) = true
is_of_statements (Collective op collective) = true
is_of_statements RayStep = true
is_of_statements _ = false

keeps_statements : (o : Operator) → is_of_statements (one_word o) ≡ is_of_statements o
keeps_statements (UnarySign unary.Negate) = refl
keeps_statements (UnarySign _) = refl
keeps_statements (Texel arrayed OnlyTexel) = refl
keeps_statements (Texel arrayed _) = refl
keeps_statements _ = refl

-- its word operates freely, or asks where the operator asks
is_free : Operator → Bool
is_free o =
    if asks o then is_of_statements o || is_request (run_word o) else operates_freely (run_word o)

others_free : list_all is_free others ≡ true
unfolding is_free is_request is_built_in is_builtin builtin_words
others_free = refl

mathematical_free : list_all is_free mathematical ≡ true
unfolding is_free is_request is_built_in is_builtin builtin_words
mathematical_free = refl

free_if_silent : (o : Operator) → asks o ≡ false → is_free o ≡ true →
    operates_freely (run_word o) ≡ true
unfolding is_free
free_if_silent o silent passes =
    sym (ap (λ b. if b then is_of_statements o || is_request (run_word o)
    else operates_freely (run_word o)) silent)
    ∙ passes

free_if_asking : (o : Operator) → asks o ≡ true → is_of_statements o ≡ false → is_free o ≡ true →
    is_request (run_word o) ≡ true
unfolding is_free
free_if_asking o does other passes =
    ap (λ b. b || is_request (run_word o)) (sym other)
    ∙ (sym (ap (λ b. if b then is_of_statements o || is_request (run_word o)
    else operates_freely (run_word o)) does)
    ∙ passes)

-- so does each that asks for nothing
pub silent_free : (o : Operator) → is_untyped o ≡ true → asks o ≡ false →
    operates_freely (run_word o) ≡ true
silent_free o u silent =
    let at = by_table is_free others_free mathematical_free o u in
    ap operates_freely at.0 ∙ free_if_silent (one_word o) (keeps_asking o ∙ silent) at.1

-- and each asks that expressions apply and that asks for an event
pub asking_free : (o : Operator) → is_untyped o ≡ true → is_of_statements o ≡ false →
    asks o ≡ true → asks_freely (run_word o) ≡ true
asking_free o u other does =
    let at = by_table is_free others_free mathematical_free o u in
    let is = ap is_request at.0
    ∙ free_if_asking (one_word o) (keeps_asking o ∙ does) (keeps_statements o ∙ other) at.1 in
    and_from (is_request (run_word o)) (names_no_item (run_word o)) is (request_free (run_word o) is)
