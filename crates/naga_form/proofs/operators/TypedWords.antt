-- The words of operators that take a type are told from all others, and tell the type.
use Rattle.std.proofs.Common.{[], ◌≡◌, ℕ, Bool, true, false, not, ◌&&◌, ◌||◌, List, ◌∷◌, ◌++◌}
use Rattle.std.proofs.Common.{codes, drop, suc, Some, None, refl, sym, ap, ◌∙◌}
use Rattle.std.specs.Prelude.{if◌then◌else◌, get_or, slice_get, nat_lt}
use Rattle.std.specs.Str.{bytes_eq}
use Rattle.std.specs.Bool.{nat_eq}
use Rattle.std.specs.Char.{is_ascii_digit}
use Rattle.std.specs.List.{list_all, list_any}
use Rattle.std.specs.Option.{option_or}
use Rattle.std.proofs.lemmas.Bool.{false≢true, true≢false, and_parts, eqb-true}
use Rattle.std.proofs.lemmas.List.{append_cancel_left, append_cancel_right}
use Rattle.std.proofs.lemmas.Slice.Eq.{bytes_eq-Decides}
use Rattle.wgsl_text.specs.Words.{is_word_text, is_letter, all_word_bytes, is_word_byte, stands_in}
use Rattle.wgsl_text.specs.Words.{IsIdentifier, is_builtin}
use Rattle.wgsl_text.specs.Types.{TypeSpecifier, Named, Template, TemplateArguments, has_gaps}
use Rattle.wgsl_text.specs.Types.{template_pieces, plain_type_words, is_type, TakesNone, rule_among}
use Rattle.wgsl_text.specs.Types.{type_templates, fits, IsTemplateArgument, IsType}
use Rattle.naga_form.proofs.operators.OperatorTable.{mathematical, others, first_with, operator_of}
use Rattle.naga_form.proofs.operators.OperatorTable.{distinguished, untyped_one_word}
use Rattle.wgsl_text.proofs.Types.{fits_none, type_template, named_text}
use Rattle.wgsl_text.specs.Reading.{printed_type}
use Rattle.wgsl_text.specs.Text.{text}
use Rattle.wgsl_text.specs.Requests.{word_before_arguments, is_request, request_words}
use Rattle.wgsl_text.specs.Keywords.{builtin_words}
use Rattle.wgsl_text.proofs.Words.{passes}
use Rattle.module_semantics.specs.OperatorTable.{Operator, CooperativeLoad, MakeSpelled, Convert}
use Rattle.module_semantics.specs.OperatorTable.{Reinterpret, with_type, run_word, one_word}
use Rattle.module_semantics.specs.OperatorTable.{is_untyped, SpellsAType, TypeIsSound, Unsupported}
use Rattle.module_semantics.specs.OperatorTable.{Cast, PartAt, ValueOf, MatrixLoad, WithoutForm}
use Rattle.module_semantics.specs.OperatorTable.{unsupported_code, unsupported_word, one_unsupported}
use Rattle.module_semantics.proofs.TypeIdentity.{kind_of, kind_distinguished, cooperative_of}
use Rattle.module_semantics.proofs.TypeIdentity.{cooperative_distinguished, role_of}
use Rattle.module_semantics.proofs.TypeIdentity.{role_distinguished, truth_of, truth_distinguished}

-- ---- the head of a word
word_byte_goes_on : (b : ℕ) → is_word_byte b ≡ true → (nat_eq b 60 || nat_eq b 32) ≡ false
word_byte_goes_on b e = by (nat_eq b 60) refl (nat_eq b 32) refl
  where
    by : (x : Bool) → nat_eq b 60 ≡ x → (y : Bool) → nat_eq b 32 ≡ y → (nat_eq b 60 || nat_eq b 32) ≡ false
    by true is y also = absurd (false≢true (sym (ap is_word_byte (eqb-true b 60 is)) ∙ e))
    by false is true also = absurd (false≢true (sym (ap is_word_byte (eqb-true b 32 also)) ∙ e))
    by false is false also = λ i. is i || also i

head_before : (w rest : List ℕ) → all_word_bytes w ≡ true → word_before_arguments (w ++ (60 ∷ rest)) ≡ w
head_before [] rest e = refl
head_before (b ∷ bytes) rest e =
    let parts = and_parts (is_word_byte b) (all_word_bytes bytes) e in
    ap (λ x. if x then [] else b ∷ word_before_arguments (bytes ++ (60 ∷ rest))) (word_byte_goes_on b parts.0)
    ∙ ap (λ bs. b ∷ bs) (head_before bytes rest parts.1)

head_alone : (w : List ℕ) → all_word_bytes w ≡ true → word_before_arguments w ≡ w
head_alone [] e = refl
head_alone (b ∷ bytes) e =
    let parts = and_parts (is_word_byte b) (all_word_bytes bytes) e in
    ap (λ x. if x then [] else b ∷ word_before_arguments bytes) (word_byte_goes_on b parts.0)
    ∙ ap (λ bs. b ∷ bs) (head_alone bytes parts.1)

-- ---- no other operator's word is one of these
-- a word with a `<` after it
abbrev opens : List ℕ → Bool
opens w = is_word_text (word_before_arguments w) && list_any (nat_eq 60) w

-- a word of the language that is no type
abbrev is_function : List ℕ → Bool
is_function w = not (is_word_text w) || (is_builtin w && not (stands_in plain_type_words w))

-- what holds of the words of all operators in a list
abbrev all_words : (List ℕ → Bool) → List Operator → Bool
all_words p os = list_all (λ o. p (run_word o)) os

none_among : (p : List ℕ → Bool) (w : List ℕ) → p w ≡ false → (os : List Operator) → all_words p os ≡ true →
    first_with w os ≡ None
none_among p w fails [] all = refl
none_among p w fails (o ∷ os) all =
    let parts = and_parts (p (run_word o)) (all_words p os) all in
    by (bytes_eq w (run_word o)) refl (none_among p w fails os parts.1)
  where
    by : (b : Bool) → bytes_eq w (run_word o) ≡ b → first_with w os ≡ None →
        (if b then Some o else first_with w os) ≡ None
    by true same more =
        absurd (false≢true (sym fails
        ∙ (ap p ((bytes_eq-Decides w (run_word o)).0 same) ∙ (and_parts (p (run_word o)) (all_words p os) all).0)))
    by false same more = more

not_open : List ℕ → Bool
not_open w = not (opens w)

none_open_others : all_words not_open others ≡ true
unfolding not_open
none_open_others = refl

none_open_mathematical : all_words not_open mathematical ≡ true
unfolding not_open
none_open_mathematical = refl

functions_others : all_words is_function others ≡ true
unfolding is_builtin
functions_others = refl

functions_mathematical : all_words is_function mathematical ≡ true
unfolding is_builtin
functions_mathematical = refl

no_operator : (p : List ℕ → Bool) (w : List ℕ) → p w ≡ false → all_words p others ≡ true →
    all_words p mathematical ≡ true → operator_of w ≡ None
no_operator p w fails one two =
    ap (λ o. option_or o (first_with w mathematical)) (none_among p w fails others one)
    ∙ none_among p w fails mathematical two

-- ---- printed types
word_bytes : (w : List ℕ) → is_word_text w ≡ true → all_word_bytes w ≡ true
word_bytes [] e = refl
word_bytes (b ∷ bytes) e = letter_first b bytes (and_parts (is_letter b) (all_word_bytes bytes) e)
  where
    letter_first : (b : ℕ) (bytes : List ℕ) → (is_letter b ≡ true) × (all_word_bytes bytes ≡ true) →
        (is_word_byte b && all_word_bytes bytes) ≡ true
    letter_first b bytes p = λ i. (p.0 i || is_ascii_digit b) && p.1 i

-- an identifier asks for no event
pub no_request : (w : List ℕ) → IsIdentifier w → is_request w ≡ false
unfolding is_request is_builtin builtin_words
no_request w is = by (stands_in request_words w) refl
  where
    by : (b : Bool) → stands_in request_words w ≡ b →
        stands_in request_words (word_before_arguments w) ≡ false
    by false at = ap (stands_in request_words) (head_alone w (word_bytes w is.word.text)) ∙ at
    by true at = absurd (true≢false (sym (passes is_builtin request_words w refl at) ∙ is.own))

-- what a printed type begins with, up to its parts
abbrev pub head_of : TypeSpecifier → List ℕ
head_of (Named w) = w
head_of (Template w parts) = w

pub head_text : (t : TypeSpecifier) → IsTemplateArgument t → is_word_text (head_of t) ≡ true
head_text (Named w) is = is.text
head_text (Template w parts) is = (type_template w parts is.0).word.text

pub head_is : (t : TypeSpecifier) → IsTemplateArgument t → word_before_arguments (printed_type t) ≡ head_of t
head_is (Named w) is = ap word_before_arguments (named_text w) ∙ head_alone w (word_bytes w is.text)
head_is (Template w parts) is = head_before w (text (template_pieces parts (has_gaps w)))
    (word_bytes w (head_text (Template w parts) is))

-- ---- which words these are
any_after : (w rest : List ℕ) → list_any (nat_eq 60) (w ++ (60 ∷ rest)) ≡ true
any_after [] rest = refl
any_after (b ∷ bytes) rest = by (nat_eq 60 b) (any_after bytes rest)
  where
    by : (x : Bool) → list_any (nat_eq 60) (bytes ++ (60 ∷ rest)) ≡ true →
        (x || list_any (nat_eq 60) (bytes ++ (60 ∷ rest))) ≡ true
    by true e = refl
    by false e = e

template_opens : (w : List ℕ) (parts : TemplateArguments) → IsTemplateArgument (Template w parts) →
    not_open (printed_type (Template w parts)) ≡ false
unfolding not_open
template_opens w parts is =
    let following = text (template_pieces parts (has_gaps w)) in
    λ i. not ((ap is_word_text (head_is (Template w parts) is) ∙ head_text (Template w parts) is) i
    && any_after w following i)

named_is_none : (w : List ℕ) → IsType (Named w) → is_function (printed_type (Named w)) ≡ false
named_is_none w is =
    ap is_function (named_text w) ∙ by (is_word_text w) is.part.text (stands_in plain_type_words w)
    (is_builtin w) is.whole
  where
    by : (x : Bool) → x ≡ true → (plain builtin : Bool) → (plain || not builtin) ≡ true →
        (not x || (builtin && not plain)) ≡ false
    by true e true true whole = refl
    by true e true false whole = refl
    by true e false false whole = refl
    by true e false true whole = absurd (false≢true whole)
    by false e plain builtin whole = absurd (false≢true e)

type_is_none : (t : TypeSpecifier) → IsType t → operator_of (printed_type t) ≡ None
type_is_none (Named w) is = no_operator is_function (printed_type (Named w))
    (named_is_none w is) functions_others functions_mathematical
type_is_none (Template w parts) is = no_operator not_open (printed_type (Template w parts))
    (template_opens w parts is.part) none_open_others none_open_mathematical

open_is_none : (w : List ℕ) → not_open w ≡ false → operator_of w ≡ None
open_is_none w e = no_operator not_open w e none_open_others none_open_mathematical

reinterpret_opens : (w : List ℕ) → not_open (with_type (codes "bitcast") w) ≡ false
unfolding not_open
reinterpret_opens w = refl

load_opens : (w : List ℕ) → not_open (with_type (codes "coopLoad") w) ≡ false
unfolding not_open
load_opens w = refl

transposed_opens : (w : List ℕ) → not_open (with_type (codes "coopLoadT") w) ≡ false
unfolding not_open
transposed_opens w = refl

spelling_is_none : (w : List ℕ) → SpellsAType w → operator_of w ≡ None
spelling_is_none w is = ap operator_of (sym is.1.1) ∙ type_is_none is.0 is.1.0

-- what no text has holds a blank and a number that is no letter's: at its start, or after the word
-- that loads a matrix
abbrev is_unsupported_at : (place : ℕ) → List ℕ → Bool
is_unsupported_at place w = nat_eq (get_or w place 0) 32 && nat_lt (get_or w (suc place) 4) 4

abbrev is_unsupported : List ℕ → Bool
is_unsupported w = is_unsupported_at 0 w || is_unsupported_at 8 w

not_unsupported : List ℕ → Bool
not_unsupported w = not (is_unsupported w)

none_unsupported_others : all_words not_unsupported others ≡ true
unfolding not_unsupported
none_unsupported_others = refl

none_unsupported_mathematical : all_words not_unsupported mathematical ≡ true
unfolding not_unsupported
none_unsupported_mathematical = refl

unsupported_begins : (x : Unsupported) → not_unsupported (unsupported_word x) ≡ false
unfolding not_unsupported
unsupported_begins (Cast kind width) = refl
unsupported_begins _ = refl

unsupported_is_none : (x : Unsupported) → operator_of (unsupported_word x) ≡ None
unsupported_is_none x =
    no_operator not_unsupported (unsupported_word x) (unsupported_begins x) none_unsupported_others
    none_unsupported_mathematical

typed_is_none : (o : Operator) → is_untyped o ≡ false → TypeIsSound o → operator_of (run_word o) ≡ None
typed_is_none (CooperativeLoad false w) u is = open_is_none (with_type (codes "coopLoad") w) (load_opens w)
typed_is_none (CooperativeLoad true w) u is = open_is_none (with_type (codes "coopLoadT") w) (transposed_opens w)
typed_is_none (MakeSpelled w n) u is = spelling_is_none w is
typed_is_none (Convert w) u is = spelling_is_none w is
typed_is_none (Reinterpret w) u is = open_is_none (with_type (codes "bitcast") w) (reinterpret_opens w)
typed_is_none (WithoutForm x) u is = unsupported_is_none x
typed_is_none _ u is = absurd (true≢false u)

-- ---- two words with types
-- a type does not begin with the word of a function
pub no_type_begins : (v : List ℕ) → is_type (Named v) ≡ false → rule_among type_templates v ≡ TakesNone →
    (t : TypeSpecifier) → IsType t → head_of t ≡ v → ⊥
no_type_begins v named rule (Named w) is e = false≢true (sym named ∙ (ap (λ x. is_type (Named x)) (sym e) ∙ is.whole))
no_type_begins v named rule (Template w parts) is e =
    false≢true (sym (fits_none parts)
    ∙ (ap (λ r. fits r parts) (sym rule ∙ ap (rule_among type_templates) (sym e)) ∙ is.part.0))

-- a function that takes a type
record TakesType (v : List ℕ) : Type 0 where
  pub named : is_type (Named v) ≡ false
  pub rule : rule_among type_templates v ≡ TakesNone
  pub head : (w : List ℕ) → word_before_arguments (with_type v w) ≡ v

reinterpret_takes : TakesType (codes "bitcast")
unfolding is_builtin
reinterpret_takes = record { named = refl; rule = refl; head = λ w. refl }

load_takes : TakesType (codes "coopLoad")
unfolding is_builtin
load_takes = record { named = refl; rule = refl; head = λ w. refl }

transposed_takes : TakesType (codes "coopLoadT")
unfolding is_builtin
transposed_takes = record { named = refl; rule = refl; head = λ w. refl }

type_is_no_call : (v : List ℕ) → TakesType v → (w x : List ℕ) → SpellsAType w → w ≡ with_type v x → ⊥
type_is_no_call v takes w x is e =
    no_type_begins v takes.named takes.rule is.0 is.1.0
    (sym (head_is is.0 is.1.0.part) ∙ (ap word_before_arguments (is.1.1 ∙ e) ∙ takes.head x))

same_call : (v w x : List ℕ) → with_type v w ≡ with_type v x → w ≡ x
same_call v w x e =
    append_cancel_right w x (codes ">")
    (ap (drop 1) (append_cancel_left v (codes "<" ++ (w ++ codes ">")) (codes "<" ++ (x ++ codes ">")) e))

other_call : (v u : List ℕ) → TakesType v → TakesType u → bytes_eq v u ≡ false → (w x : List ℕ) →
    with_type v w ≡ with_type u x → ⊥
other_call v u a b apart w x e =
    false≢true (sym apart ∙ (bytes_eq-Decides v u).1 (sym (a.head w) ∙ (ap word_before_arguments e ∙ b.head x)))

-- ---- what no text has
-- its word tells it
abbrev unsupported_of : List ℕ → Unsupported
unsupported_of code =
    if nat_eq (get_or code 0 0) 32 then get_or (
    Cast (kind_of (get_or code 2 0)) (slice_get code 3) ∷ PartAt (get_or code 2 0) ∷ ValueOf (drop 2 code) 1 ∷
    []) (get_or code 1 0) (PartAt 0)
    else MatrixLoad (cooperative_of (get_or code 10 0)) (cooperative_of (get_or code 11 0))
    (role_of (get_or code 12 0)) (truth_of (get_or code 13 0))

unsupported_distinguished : (x : Unsupported) → unsupported_of (unsupported_word x) ≡ one_unsupported x
unsupported_distinguished (Cast kind None) = λ i. Cast (kind_distinguished kind i) None
unsupported_distinguished (Cast kind (Some width)) = λ i. Cast (kind_distinguished kind i) (Some width)
unsupported_distinguished (PartAt index) = refl
unsupported_distinguished (ValueOf numbers components) = refl
unsupported_distinguished (MatrixLoad columns rows role row_major) =
    λ i. MatrixLoad (cooperative_distinguished columns i) (cooperative_distinguished rows i)
    (role_distinguished role i) (truth_distinguished row_major i)

unsupported_by_word : (x y : Unsupported) → unsupported_word x ≡ unsupported_word y → one_unsupported x
    ≡ one_unsupported y
unsupported_by_word x y e = sym (unsupported_distinguished x)
    ∙ (ap unsupported_of e ∙ unsupported_distinguished y)

-- no type is spelled so
pub no_blank : (w code : List ℕ) → SpellsAType w → w ≡ 32 ∷ code → ⊥
no_blank w code is e =
    false≢true (ap is_word_text (sym (ap word_before_arguments (is.1.1 ∙ e)) ∙ head_is is.0 is.1.0.part)
    ∙ head_text is.0 is.1.0.part)

no_unsupported : (w : List ℕ) (x : Unsupported) → SpellsAType w → w ≡ unsupported_word x → ⊥
no_unsupported w (Cast kind width) is e = no_blank w (unsupported_code (Cast kind width)) is e
no_unsupported w (PartAt index) is e = no_blank w (unsupported_code (PartAt index)) is e
no_unsupported w (ValueOf numbers components) is e = no_blank w (unsupported_code (ValueOf numbers components)) is e
no_unsupported w (MatrixLoad columns rows role row_major) is e =
    no_type_begins (codes "coopLoad") load_takes.named load_takes.rule is.0 is.1.0
    (sym (head_is is.0 is.1.0.part) ∙ ap word_before_arguments (is.1.1 ∙ e))

-- nor a function that takes a type
abbrev has_byte : (place byte : ℕ) → List ℕ → Bool
has_byte place byte w = nat_eq (get_or w place 0) byte

no_unsupported_reinterpret : (w : List ℕ) (x : Unsupported) → with_type (codes "bitcast") w ≡ unsupported_word x → ⊥
no_unsupported_reinterpret w (MatrixLoad columns rows role row_major) e = false≢true (ap (has_byte 0 99) e)
no_unsupported_reinterpret w _ e = false≢true (ap (has_byte 0 32) e)

no_unsupported_load : (w : List ℕ) (x : Unsupported) → with_type (codes "coopLoad") w ≡ unsupported_word x → ⊥
no_unsupported_load w (MatrixLoad columns rows role row_major) e = false≢true (ap (has_byte 8 32) e)
no_unsupported_load w _ e = false≢true (ap (has_byte 0 32) e)

no_unsupported_transposed : (w : List ℕ) (x : Unsupported) → with_type (codes "coopLoadT") w ≡ unsupported_word x → ⊥
no_unsupported_transposed w (MatrixLoad columns rows role row_major) e = false≢true (ap (has_byte 8 32) e)
no_unsupported_transposed w _ e = false≢true (ap (has_byte 0 32) e)

-- ---- the law
some_none : (o : Operator) → Some o ≡ None → ⊥
some_none o e = cc

typed_one_word : (a b : Operator) → is_untyped a ≡ false → is_untyped b ≡ false → TypeIsSound a → TypeIsSound b →
    run_word a ≡ run_word b → one_word a ≡ one_word b
typed_one_word (MakeSpelled w n) (MakeSpelled x m) ua ub sa sb e = ap (λ y. MakeSpelled y 1) e
typed_one_word (MakeSpelled w n) (Convert x) ua ub sa sb e = ap (λ y. MakeSpelled y 1) e
typed_one_word (MakeSpelled w n) (Reinterpret x) ua ub sa sb e =
    absurd (type_is_no_call (codes "bitcast") reinterpret_takes w x sa e)
typed_one_word (MakeSpelled w n) (CooperativeLoad false x) ua ub sa sb e =
    absurd (type_is_no_call (codes "coopLoad") load_takes w x sa e)
typed_one_word (MakeSpelled w n) (CooperativeLoad true x) ua ub sa sb e =
    absurd (type_is_no_call (codes "coopLoadT") transposed_takes w x sa e)
typed_one_word (Convert w) (MakeSpelled x m) ua ub sa sb e = ap (λ y. MakeSpelled y 1) e
typed_one_word (Convert w) (Convert x) ua ub sa sb e = ap (λ y. MakeSpelled y 1) e
typed_one_word (Convert w) (Reinterpret x) ua ub sa sb e =
    absurd (type_is_no_call (codes "bitcast") reinterpret_takes w x sa e)
typed_one_word (Convert w) (CooperativeLoad false x) ua ub sa sb e =
    absurd (type_is_no_call (codes "coopLoad") load_takes w x sa e)
typed_one_word (Convert w) (CooperativeLoad true x) ua ub sa sb e =
    absurd (type_is_no_call (codes "coopLoadT") transposed_takes w x sa e)
typed_one_word (Reinterpret w) (MakeSpelled x m) ua ub sa sb e =
    absurd (type_is_no_call (codes "bitcast") reinterpret_takes x w sb (sym e))
typed_one_word (Reinterpret w) (Convert x) ua ub sa sb e =
    absurd (type_is_no_call (codes "bitcast") reinterpret_takes x w sb (sym e))
typed_one_word (Reinterpret w) (Reinterpret x) ua ub sa sb e = ap Reinterpret (same_call (codes "bitcast") w x e)
typed_one_word (Reinterpret w) (CooperativeLoad false x) ua ub sa sb e =
    absurd (other_call (codes "bitcast") (codes "coopLoad") reinterpret_takes load_takes refl w x e)
typed_one_word (Reinterpret w) (CooperativeLoad true x) ua ub sa sb e =
    absurd (other_call (codes "bitcast") (codes "coopLoadT") reinterpret_takes transposed_takes refl w x e)
typed_one_word (CooperativeLoad false w) (MakeSpelled x m) ua ub sa sb e =
    absurd (type_is_no_call (codes "coopLoad") load_takes x w sb (sym e))
typed_one_word (CooperativeLoad false w) (Convert x) ua ub sa sb e =
    absurd (type_is_no_call (codes "coopLoad") load_takes x w sb (sym e))
typed_one_word (CooperativeLoad false w) (Reinterpret x) ua ub sa sb e =
    absurd (other_call (codes "coopLoad") (codes "bitcast") load_takes reinterpret_takes refl w x e)
typed_one_word (CooperativeLoad false w) (CooperativeLoad false x) ua ub sa sb e =
    ap (CooperativeLoad false) (same_call (codes "coopLoad") w x e)
typed_one_word (CooperativeLoad false w) (CooperativeLoad true x) ua ub sa sb e =
    absurd (other_call (codes "coopLoad") (codes "coopLoadT") load_takes transposed_takes refl w x e)
typed_one_word (CooperativeLoad true w) (MakeSpelled x m) ua ub sa sb e =
    absurd (type_is_no_call (codes "coopLoadT") transposed_takes x w sb (sym e))
typed_one_word (CooperativeLoad true w) (Convert x) ua ub sa sb e =
    absurd (type_is_no_call (codes "coopLoadT") transposed_takes x w sb (sym e))
typed_one_word (CooperativeLoad true w) (Reinterpret x) ua ub sa sb e =
    absurd (other_call (codes "coopLoadT") (codes "bitcast") transposed_takes reinterpret_takes refl w x e)
typed_one_word (CooperativeLoad true w) (CooperativeLoad false x) ua ub sa sb e =
    absurd (other_call (codes "coopLoadT") (codes "coopLoad") transposed_takes load_takes refl w x e)
typed_one_word (CooperativeLoad true w) (CooperativeLoad true x) ua ub sa sb e =
    ap (CooperativeLoad true) (same_call (codes "coopLoadT") w x e)
typed_one_word (WithoutForm x) (WithoutForm y) ua ub sa sb e = ap WithoutForm (unsupported_by_word x y e)
typed_one_word (WithoutForm x) (MakeSpelled w n) ua ub sa sb e = absurd (no_unsupported w x sb (sym e))
typed_one_word (WithoutForm x) (Convert w) ua ub sa sb e = absurd (no_unsupported w x sb (sym e))
typed_one_word (WithoutForm x) (Reinterpret w) ua ub sa sb e = absurd (no_unsupported_reinterpret w x (sym e))
typed_one_word (WithoutForm x) (CooperativeLoad false w) ua ub sa sb e = absurd (no_unsupported_load w x (sym e))
typed_one_word (WithoutForm x) (CooperativeLoad true w) ua ub sa sb e = absurd (no_unsupported_transposed w x (sym e))
typed_one_word (MakeSpelled w n) (WithoutForm x) ua ub sa sb e = absurd (no_unsupported w x sa e)
typed_one_word (Convert w) (WithoutForm x) ua ub sa sb e = absurd (no_unsupported w x sa e)
typed_one_word (Reinterpret w) (WithoutForm x) ua ub sa sb e = absurd (no_unsupported_reinterpret w x e)
typed_one_word (CooperativeLoad false w) (WithoutForm x) ua ub sa sb e = absurd (no_unsupported_load w x e)
typed_one_word (CooperativeLoad true w) (WithoutForm x) ua ub sa sb e = absurd (no_unsupported_transposed w x e)
typed_one_word (WithoutForm x) _ ua ub sa sb e = absurd (true≢false ub)
typed_one_word (MakeSpelled w n) _ ua ub sa sb e = absurd (true≢false ub)
typed_one_word (Convert w) _ ua ub sa sb e = absurd (true≢false ub)
typed_one_word (Reinterpret w) _ ua ub sa sb e = absurd (true≢false ub)
typed_one_word (CooperativeLoad false w) _ ua ub sa sb e = absurd (true≢false ub)
typed_one_word (CooperativeLoad true w) _ ua ub sa sb e = absurd (true≢false ub)
typed_one_word _ b ua ub sa sb e = absurd (true≢false ua)

-- operators of one word have one operator that stands for them
pub have_one_word : (a b : Operator) → TypeIsSound a → TypeIsSound b → run_word a ≡ run_word b → one_word a ≡ one_word b
have_one_word a b sa sb e = by (is_untyped a) refl (is_untyped b) refl
  where
    by : (x : Bool) → is_untyped a ≡ x → (y : Bool) → is_untyped b ≡ y → one_word a ≡ one_word b
    by true ua true ub = untyped_one_word a b ua ub e
    by true ua false ub =
        absurd (some_none (one_word a) (sym (distinguished a ua) ∙ (ap operator_of e ∙ typed_is_none b ub sb)))
    by false ua true ub =
        absurd (some_none (one_word b) (sym (distinguished b ub) ∙ (ap operator_of (sym e) ∙ typed_is_none a ua sa)))
    by false ua false ub = typed_one_word a b ua ub sa sb e
