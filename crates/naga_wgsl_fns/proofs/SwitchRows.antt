-- The texts of switches, from what is written of them in turn.
-- Serves 7 contracts, `is_default_alone` among them.
use Rattle.std.proofs.Common.{◌==◌, ne_eqb, ◌-◌, zero, arith, ◌≡◌, ℕ, ℤ, pos, negsuc, ◌*◌, ◌+◌, ◌<◌}
use Rattle.std.proofs.Common.{◌≤◌, suc, Bool, true, false, List, [], ◌∷◌, ◌++◌, codes, decimal}
use Rattle.std.proofs.Common.{replicate, refl, sym, ap, ◌∙◌, append_assoc, drop, take, length}
use Rattle.std.proofs.Common.{slice_index_or}
use Rattle.naga_wgsl_fns.specs.Statements.{stands_alone, around_text, block_text, case_text}
use Rattle.naga_wgsl_fns.specs.Statements.{cases_text, group_start, group_text, case_value_text}
use Rattle.naga_wgsl_fns.specs.Statements.{case_values_of, line_start, named_following, statement_text}
use Rattle.naga_wgsl_fns.specs.Statements.{waiting_text}
use Rattle.std.specs.Prelude.{if◌then◌else◌}
use Rattle.std.specs.Fmt.{signed_decimal}
use Rattle.std.proofs.lemmas.List.{append-nil, drop_all}
use Rattle.naga_back.specs.Indentation.{indentation}
use Rattle.naga_form.specs.Expressions.{value_form}
use Rattle.naga_form.specs.Statements.{cases_form, case_value_form, case_values_form, lines_form}
use Rattle.naga_ir.specs.StatementTree.{switch, BlockTree, CaseTrees, case, no_cases}
use Rattle.naga_ir.specs.StatementViews.{cases_of}
use Rattle.naga_ir.specs.declared.statement.SwitchCase.{SwitchCase}
use Rattle.naga_ir.specs.declared.statement.SwitchValue.{SwitchValue}
use Rattle.naga_ir.specs.declared.statement.SwitchValue.TheVariants as switch_value
use Rattle.naga_words.specs.Output.{joined_texts}
use Rattle.shader_runs.specs.Scope.{Handles}
use Rattle.wgsl_text.proofs.Statements.{case_text as case_row_text, switch_text}
use Rattle.wgsl_text.proofs.Text.{text-append}
use Rattle.wgsl_text.specs.Reading.{printed_expression}
use Rattle.wgsl_text.specs.Statements.{DefaultCase, CaseValue, SignedCase, UnsignedCase}
use Rattle.wgsl_text.specs.Statements.{case_pieces, cases_pieces, case_value_pieces}
use Rattle.wgsl_text.specs.Statements.{case_values_pieces, statements_pieces}
use Rattle.wgsl_text.specs.Statements as tree
use Rattle.wgsl_text.specs.Text.{text}
use Rattle.wgsl_text.specs.Token.{Colon, mark}
use Rattle.naga_wgsl_fns.specs.FunctionText.{let_annotation, naming, source}
use Rattle.naga_wgsl_fns.specs.declared.functions.FunctionText.{FunctionText}
use Rattle.naga_wgsl_fns.proofs.StatementRows.{indentation_row, one_line}
use Rattle.naga_ir.proofs.Listed.{drop_first, first_case}

-- ---- case values
pub signed_row : (z : ℤ) → case_value_text (case_value_form (switch_value.I32 z)) ≡ signed_decimal z ++ codes ""
unfolding case_value_text
signed_row (pos n) = append-nil (decimal n ++ [])
signed_row (negsuc n) = append-nil (codes "-" ++ (decimal (suc n) ++ []))

pub unsigned_row : (n : ℕ) → case_value_text (case_value_form (switch_value.U32 n)) ≡ decimal n ++ codes "u"
unfolding case_value_text
unsigned_row n = append-nil (decimal n ++ codes "u")

pub default_case_value_row : case_value_text (case_value_form switch_value.Default) ≡ codes "default"
unfolding case_value_text
default_case_value_row = refl

-- the case values up to the colon
group_case_values : (case_values : List CaseValue) (own : CaseValue) →
    text (case_values_pieces (case_values_form case_values own)) ≡
    waiting_text case_values ++ (case_value_text own ++ codes ":")
unfolding waiting_text case_value_text
group_case_values [] own = text-append (case_value_pieces own) (mark Colon ∷ [])
group_case_values (l ∷ ls) own =
    text-append (case_value_pieces l) _
    ∙ (ap (λ t. text (case_value_pieces l) ++ (codes ", " ++ t)) (group_case_values ls own)
    ∙ sym (append_assoc (text (case_value_pieces l)) (codes ", " ++ waiting_text ls)
    (case_value_text own ++ codes ":")))

pub default_row : (case_values : List CaseValue) (own : CaseValue) → stands_alone case_values own ≡ true →
    group_start case_values own ≡ codes "default:"
unfolding group_start
default_row [] DefaultCase alone = refl
default_row _ _ alone = absurd cc

pub case_values_row : (case_values : List CaseValue) (own : CaseValue) → stands_alone case_values own ≡ false
    → group_start case_values own ≡ joined_texts (codes "case ")
    (joined_texts (waiting_text case_values) (joined_texts (case_value_text own) (codes ":")))
unfolding group_start joined_texts
case_values_row [] DefaultCase other = absurd cc
case_values_row [] (SignedCase negative n) other =
    ap (λ t. codes "case " ++ t) (group_case_values [] (SignedCase negative n))
case_values_row [] (UnsignedCase n) other = ap (λ t. codes "case " ++ t) (group_case_values [] (UnsignedCase n))
case_values_row (l ∷ ls) own other = ap (λ t. codes "case " ++ t) (group_case_values (l ∷ ls) own)

-- whether the default stands alone
pub alone_row : (waiting : List SwitchCase) → (length waiting == 0) ≡ stands_alone (case_values_of waiting)
    (case_value_form switch_value.Default)
alone_row [] = refl
alone_row (c ∷ cs) = ne_eqb (suc (length cs)) 0 (λ same. absurd (omega arith))

pub signed_other : (case_values : List CaseValue) (z : ℤ) →
    stands_alone case_values (case_value_form (switch_value.I32 z)) ≡ false
signed_other [] (pos n) = refl
signed_other [] (negsuc n) = refl
signed_other (l ∷ ls) z = refl

pub unsigned_other : (case_values : List CaseValue) (n : ℕ) →
    stands_alone case_values (case_value_form (switch_value.U32 n)) ≡ false
unsigned_other [] n = refl
unsigned_other (l ∷ ls) n = refl

-- a loop over cases whose values wait: one more, and none
pub waiting_more : (items : List SwitchCase) (i : ℕ) (item : SwitchCase) → i < length items →
    item ≡ slice_index_or items i item
    → waiting_text (case_values_of (drop i items)) ≡ joined_texts (case_value_text (case_value_form item.value))
    (joined_texts (codes ", ") (waiting_text (case_values_of (drop (i + 1) items))))
unfolding waiting_text joined_texts
waiting_more items i item lt is = ap (λ (cs : List SwitchCase). waiting_text (case_values_of cs))
    (drop_first i items item lt is)

pub waiting_none : (items : List SwitchCase) (i : ℕ) → length items ≤ i →
    waiting_text (case_values_of (drop i items)) ≡ []
unfolding waiting_text
waiting_none items i past = ap (λ (cs : List SwitchCase). waiting_text (case_values_of cs)) (drop_all i items past)

-- ---- groups
pub group_row : (f : FunctionText) (k : ℕ) (s : Handles) (i : ℕ) (case_values : List CaseValue) (own : CaseValue)
    (b : BlockTree)
    → group_text f k s i case_values own b ≡ joined_texts (indentation i) (joined_texts (group_start case_values own)
    (joined_texts (codes " {\n") (joined_texts (block_text f k s (suc i) b) (line_start i (codes "}\n")))))
unfolding group_text joined_texts
group_row f k s i case_values own b = refl

group_lines : (i : ℕ) (start b more : List ℕ)
    → replicate (4 * i) 32 ++ (start ++ (codes " {\n" ++ (b ++ (replicate (4 * i) 32 ++ (codes "}\n" ++ more)))))
    ≡ (indentation i ++ (start ++ (codes " {\n" ++ (b ++ line_start i (codes "}\n"))))) ++ more
unfolding line_start
group_lines i start b more = simp (append_assoc, indentation_row)

-- a case that falls through gives its value to the next one
abbrev waiting_after : (falls : Bool) → List CaseValue → SwitchValue → List CaseValue
waiting_after true case_values v = case_values ++ case_value_form v ∷ []
waiting_after false case_values v = []

case_row : (f : FunctionText) (k : ℕ) (s : Handles) (i : ℕ) (case_values : List CaseValue) (v : SwitchValue)
    (b : BlockTree) (falls : Bool) (cs : CaseTrees)
    → cases_text f k s i case_values (case v b falls cs)
    ≡ joined_texts (case_text f k s i case_values (case_value_form v) falls b)
    (cases_text f (named_following f b k) s i (waiting_after falls case_values v) cs)
unfolding cases_text case_text group_text group_start block_text joined_texts
case_row f k s i case_values v b true cs = refl
case_row f k s i case_values v b false cs =
    let lines = lines_form (naming f) (let_annotation f) (source f) k b s in
    let more = cases_form (naming f) (let_annotation f) (source f) (named_following f b k) [] cs s in
    case_row_text (case_values_form case_values (case_value_form v)) lines more i
    ∙ group_lines i (text (case_pieces (case_values_form case_values (case_value_form v))))
    (text (statements_pieces lines (suc i))) (text (cases_pieces more i))

-- the values of the cases from the first on
abbrev pub case_values_between : (first index : ℕ) → List SwitchCase → List CaseValue
case_values_between first index cases = case_values_of (take (index - first) (drop first cases))

taken_first : (n : ℕ) (cs : List SwitchCase) (c : SwitchCase) → n < length cs → c ≡ slice_index_or cs n c →
    case_values_of (take (suc n) cs) ≡ case_values_of (take n cs) ++ case_value_form c.value ∷ []
taken_first n [] c lt is = absurd (omega (arith, lt))
taken_first zero (x ∷ cs) c lt is = ap (λ (y : SwitchCase). case_value_form y.value ∷ []) (sym is)
taken_first (suc n) (x ∷ cs) c lt is =
    ap (λ ls. case_value_form x.value ∷ ls) (taken_first n cs c (omega (arith, lt)) is)

taken_from : (first n index : ℕ) (cs : List SwitchCase) (c : SwitchCase) → index ≡ first + n →
    index < length cs → c ≡ slice_index_or cs index c
    → case_values_of (take (suc n) (drop first cs)) ≡
    case_values_of (take n (drop first cs)) ++ case_value_form c.value ∷ []
taken_from zero n index cs c at lt is =
    let same : index ≡ n = omega (arith, at) in
    taken_first n cs c (omega (arith, same, lt)) (is ∙ ap (λ i. slice_index_or cs i c) same)
taken_from (suc first) n index [] c at lt is = absurd (omega (arith, lt))
taken_from (suc first) n zero (x ∷ cs) c at lt is = absurd (omega (arith, at))
taken_from (suc first) n (suc index) (x ∷ cs) c at lt is = taken_from first n index cs c (omega (arith, at))
    (omega (arith, lt)) is

after_falling : (first index : ℕ) (cs : List SwitchCase) (c : SwitchCase) → first ≤ index → index < length cs →
    c ≡ slice_index_or cs index c
    → case_values_between first (index + 1) cs ≡ case_values_between first index cs ++ case_value_form c.value ∷ []
after_falling first index cs c le lt is =
    let one : index + 1 - first ≡ suc (index - first) = omega (arith, le) in
    let at : index ≡ first + (index - first) = omega (arith, le) in
    ap (λ n. case_values_of (take n (drop first cs))) one ∙ taken_from first (index - first) index cs c at lt is

case_values_after : (falls : Bool) (first first1 index : ℕ) (cs : List SwitchCase) (c : SwitchCase) →
    first ≤ index → index < length cs → c ≡ slice_index_or cs index c
    → first1 ≡ (if falls then first else index + 1) →
    waiting_after falls (case_values_between first index cs) c.value ≡ case_values_between first1 (index + 1) cs
case_values_after true first first1 index cs c le lt is next =
    sym (ap (λ n. case_values_between n (index + 1) cs) next ∙ after_falling first index cs c le lt is)
case_values_after false first first1 index cs c le lt is next =
    let none : index + 1 - first1 ≡ 0 = omega (arith, next) in
    sym (ap (λ n. case_values_of (take n (drop first1 cs))) none)

-- a loop over cases: one more
pub cases_more : (f : FunctionText) (k k1 : ℕ) (s : Handles) (i first first1 index : ℕ) (cs : List SwitchCase)
    (c : SwitchCase) → first ≤ index → index < length cs → c ≡ slice_index_or cs index c
    → first1 ≡ (if c.fall_through then first else index + 1) → k1 ≡ named_following f c.body k
    → cases_text f k s i (case_values_between first index cs) (cases_of (drop index cs)) ≡
    joined_texts (case_text f k s i (case_values_between first index cs)
    (case_value_form c.value) c.fall_through c.body)
    (cases_text f k1 s i (case_values_between first1 (index + 1) cs) (cases_of (drop (index + 1) cs)))
cases_more f k k1 s i first first1 index cs c le lt is next given =
    let case_values = case_values_between first index cs in
    let more = cases_of (drop (index + 1) cs) in
    ap (cases_text f k s i case_values) (first_case cs index c lt is)
    ∙ (case_row f k s i case_values c.value c.body c.fall_through more
    ∙ (λ j. joined_texts (case_text f k s i case_values (case_value_form c.value) c.fall_through c.body)
    (cases_text f (sym given j) s i (case_values_after c.fall_through first first1 index cs c le lt is next j) more)))

pub first_within : (falls : Bool) (first first1 index : ℕ) → first ≤ index →
    first1 ≡ (if falls then first else index + 1) → first1 ≤ index + 1
first_within true first first1 index le next = omega (arith, le, next)
first_within false first first1 index le next = omega (arith, next)

pub cases_none : (f : FunctionText) (k : ℕ) (s : Handles) (i : ℕ) (case_values : List CaseValue) →
    cases_text f k s i case_values no_cases ≡ []
unfolding cases_text
cases_none f k s i case_values = refl

-- ---- switches
switch_lines : (i : ℕ) (e cs : List ℕ)
    → replicate (4 * i) 32
    ++ (codes "switch " ++ (e ++ (codes " {\n" ++ (cs ++ (replicate (4 * i) 32 ++ codes "}\n")))))
    ≡ (line_start i (codes "switch ") ++ (e ++ codes " {\n")) ++ (cs ++ line_start i (codes "}\n"))
unfolding line_start
switch_lines i e cs = simp (append_assoc, indentation_row)

pub switch_row : (f : FunctionText) (k : ℕ) (s : Handles) (i h : ℕ) (cs : CaseTrees)
    → statement_text f k s i (switch h cs) ≡ joined_texts (around_text f s i (codes "switch ") h (codes " {\n"))
    (joined_texts (cases_text f k s (suc i) [] cs) (line_start i (codes "}\n")))
unfolding statement_text around_text cases_text joined_texts
switch_row f k s i h cs =
    let e = value_form (naming f) (source f) s h in
    let groups = cases_form (naming f) (let_annotation f) (source f) k [] cs s in
    one_line (tree.Switch e groups) i ∙ (switch_text e groups i ∙ switch_lines i (printed_expression e)
    (text (cases_pieces groups (suc i))))
