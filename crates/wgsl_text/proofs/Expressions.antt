-- Expressions: the machine reads back what their pieces write, and no token of these runs into the
-- next; and the text of each row.
use Rattle.std.proofs.Common.{◌≡◌, ℕ, Bool, true, false, List, [], ◌∷◌, ◌++◌, refl, sym, ap, ◌∙◌}
use Rattle.std.proofs.Common.{◌&&◌, ◌||◌, arith, nat_lt}
use Rattle.wgsl_text.specs.Expressions.{BinaryOperator, Less, GreaterEqual, ShiftRight}
use Rattle.wgsl_text.specs.Expressions.{UnaryOperator, Negate, LogicalNot, BitwiseNot, Expression}
use Rattle.wgsl_text.specs.Expressions.{Constant, Name, Binary, Unary, Call, Member, Index, IndexAt}
use Rattle.wgsl_text.specs.Expressions.{AddressOf, Dereference, Arguments, NoArguments, Argument}
use Rattle.wgsl_text.specs.Expressions.{NumberArgument, ZeroArgument, binary_pieces, unary_mark}
use Rattle.wgsl_text.specs.Expressions.{base_pieces, expression_pieces, arguments_pieces}
use Rattle.wgsl_text.specs.Expressions.{more_arguments_pieces, call_templates, IsCallee, IsSome}
use Rattle.wgsl_text.specs.Expressions.{IsExpression, IsArguments, are_expressions, have_a_zero}
use Rattle.wgsl_text.specs.Expressions.{may_take}
use Rattle.wgsl_text.specs.Literals.{IsPlainNumber}
use Rattle.wgsl_text.specs.Token.{OpenParen, CloseBracket, LessThan, NoSuffix, Number, Piece, Blank}
use Rattle.wgsl_text.specs.Token.{mark}
use Rattle.wgsl_text.specs.Types.{TypeSpecifier, Named, Template, TemplateArguments, has_gaps}
use Rattle.wgsl_text.specs.Types.{type_pieces, TakesType, rule_among, type_templates, fits, IsType}
use Rattle.wgsl_text.specs.Words.{stands_in, is_builtin, is_reserved}
use Rattle.wgsl_text.proofs.Chain.{◌$◌}
use Rattle.wgsl_text.proofs.Literals.{literal_runs, literal_opens, literal_spaced}
use Rattle.wgsl_text.proofs.Runs.{Runs, ◌onward◌, reads, over_gap, as_reader, when_true, when_false}
use Rattle.wgsl_text.proofs.Runs.{at_end}
use Rattle.wgsl_text.proofs.Spacing.{Spaced, Ends, end, part, tok, free, size, gap, close, Opens}
use Rattle.wgsl_text.proofs.Spacing.{opens_first, word_opens}
use Rattle.wgsl_text.proofs.Text.{ends, text-append, plain_text}
use Rattle.wgsl_text.proofs.Types.{parts_run, IsTemplateWord, is_template, all_rows, row_word}
use Rattle.wgsl_text.proofs.Types.{template_of, parts_of_fit, takes_none, fits_nothing, parts_open}
use Rattle.wgsl_text.proofs.Types.{parts_spaced}
use Rattle.wgsl_text.proofs.Words.{passes}
use Rattle.wgsl_text.proofs.Machine.{Stack, InParens, InRight, InUnary, InArguments, InCallee}
use Rattle.wgsl_text.proofs.Machine.{Reader, Expect, Got, GotNumberArgument, AfterArgument}
use Rattle.wgsl_text.proofs.Machine.{unwind_arguments}
use Rattle.std.specs.Prelude.{⊤, codes, IsTrue, cond}
use Rattle.std.proofs.lemmas.Bool.{false≢true}
use Rattle.wgsl_text.specs.Tables.{gather_words, level_words, type_taking_words}
use Rattle.std.specs.Fmt.{decimal}
use Rattle.wgsl_text.specs.Text.{mark_text, text}
use Rattle.std.proofs.lemmas.List.{append-nil}
use Rattle.wgsl_text.specs.Reading.{printed_type, printed_expression}

less_runs : (a : Expression) → IsExpression a → (s : Stack) → Runs (mark LessThan ∷ []) (Got a (InParens s))
    (Expect (InRight a Less s))
less_runs (Name w) is s = record { to = when_false _ is.own }
less_runs _ is s = at_end

operator_runs : (op : BinaryOperator) (a : Expression) → IsExpression a → (s : Stack) →
    Runs (binary_pieces op) (Got a (InParens s)) (Expect (InRight a op s))
operator_runs Less a is s = less_runs a is s
operator_runs _ a is s = at_end

unary_runs : (op : UnaryOperator) (s : Stack) → Runs (mark (unary_mark op) ∷ mark OpenParen ∷ []) (Expect s)
    (Expect (InUnary op s))
unary_runs Negate s = at_end
unary_runs _ s = at_end

-- the base of a member or an index, in parentheses where it is unary
base_runs : (e : Expression) (s : Stack) → ((s : Stack) → Runs (expression_pieces e) (Expect s) (Got e s)) →
    Runs (base_pieces e (expression_pieces e)) (Expect s) (Got e s)
base_runs (Unary op e) s a = reads $ a _ onward at_end
base_runs (Constant l) s a = a s
base_runs _ s a = a s

argument_done : (more : Arguments) {e : Expression} {t : TypeSpecifier} {done : Arguments}
    {s : Stack} {s' : Reader} →
    Runs (more_arguments_pieces more) (AfterArgument t (Argument e done) s) s' →
    Runs (more_arguments_pieces more) (Got e (InArguments t done s)) s'
argument_done NoArguments a = record { to = a.to }
argument_done _ a = record { to = a.to }

number_done : (more : Arguments) → IsSome more →
    {n : ℕ} {t : TypeSpecifier} {s : Stack} {s' : Reader} →
    Runs (more_arguments_pieces more) (AfterArgument t (NumberArgument n NoArguments) s) s' →
    Runs (more_arguments_pieces more) (GotNumberArgument t NoArguments false n s) s'
number_done NoArguments is a = absurd is
number_done _ is a = record { to = a.to }

-- a whole zero after others
zero_done : (more done : Arguments) → IsSome done → {t : TypeSpecifier} {s : Stack} {s' : Reader} →
    Runs (more_arguments_pieces more) (AfterArgument t (ZeroArgument true done) s) s' →
    Runs (more_arguments_pieces more) (GotNumberArgument t done false 0 s) s'
zero_done more NoArguments is a = absurd is
zero_done NoArguments (Argument e done) is a = record { to = a.to }
zero_done NoArguments (NumberArgument n done) is a = record { to = a.to }
zero_done NoArguments (ZeroArgument whole done) is a = record { to = a.to }
zero_done _ (Argument e done) is a = record { to = a.to }
zero_done _ (NumberArgument n done) is a = record { to = a.to }
zero_done _ (ZeroArgument whole done) is a = record { to = a.to }

-- A plain number that stands after others is a level, and the first one is none.
abbrev StandAfter : Arguments → Type 0
StandAfter NoArguments = ⊤
StandAfter (Argument e more) = StandAfter more
StandAfter (NumberArgument n more) = ⊥
StandAfter (ZeroArgument whole more) = StandAfter more

abbrev pub StandFirst : Arguments → Type 0
StandFirst NoArguments = ⊤
StandFirst (Argument e more) = StandAfter more
StandFirst (NumberArgument n more) = StandAfter more
StandFirst (ZeroArgument whole more) = ⊥

expressions_after : (args : Arguments) → are_expressions args ≡ true → StandAfter args
expressions_after NoArguments is = tt
expressions_after (Argument e more) is = expressions_after more is
expressions_after (NumberArgument n more) is = absurd (false≢true is)
expressions_after (ZeroArgument whole more) is = absurd (false≢true is)

zero_after : (args : Arguments) → have_a_zero args ≡ true → StandAfter args
zero_after NoArguments is = absurd (false≢true is)
zero_after (Argument e more) is = zero_after more is
zero_after (NumberArgument n more) is = absurd (false≢true is)
zero_after (ZeroArgument whole more) is = expressions_after more is

expressions_first : (args : Arguments) → are_expressions args ≡ true → StandFirst args
expressions_first NoArguments is = tt
expressions_first (Argument e more) is = expressions_after more is
expressions_first (NumberArgument n more) is = absurd (false≢true is)
expressions_first (ZeroArgument whole more) is = absurd (false≢true is)

right_of : (a b : Bool) → (a && b) ≡ true → b ≡ true
right_of true b is = is
right_of false b is = absurd (false≢true is)

one_after : (args : Arguments) (word expressions : Bool) → are_expressions args ≡ expressions →
    (expressions || (word && have_a_zero args)) ≡ true → StandAfter args
one_after args word true is holds = expressions_after args is
one_after args word false is holds = zero_after args (right_of word (have_a_zero args) holds)

-- so it is in what a call may take
pub stand_first : (t : TypeSpecifier) (args : Arguments) → IsTrue (may_take t args) → StandFirst args
stand_first (Named w) NoArguments is = tt
stand_first (Named w) (Argument e more) is =
    one_after more (stands_in level_words w) (are_expressions more) refl is
stand_first (Named w) (NumberArgument n more) is =
    expressions_after more
    (right_of (nat_lt n 4) (are_expressions more)
    (right_of (stands_in gather_words w) (nat_lt n 4 && are_expressions more) is))
stand_first (Named w) (ZeroArgument whole more) is =
    absurd (false≢true (right_of (stands_in level_words w) false is))
stand_first (Template w parts) args is = expressions_first args is

-- Words that take parts.

calls_are_templates : all_rows is_template call_templates ≡ true
unfolding is_reserved is_builtin
calls_are_templates = refl

pub call_template : (w : List ℕ) (parts : TemplateArguments) →
    IsTrue (fits (rule_among call_templates w) parts) → IsTemplateWord w
call_template w parts fit = template_of w (row_word is_template call_templates w parts calls_are_templates fit)

-- The machine reads back expressions.

-- what stands in front of the parenthesis of a call
pub callee_runs : (t : TypeSpecifier) → IsCallee t → (ps : List Piece) (s : Stack) (s' : Reader) →
    Runs ps (Expect (InArguments t NoArguments s)) s' →
    Runs (type_pieces t ++ (mark OpenParen ∷ ps)) (Expect s) s'
callee_runs (Named w) is ps s s' a = record { to = a.to }
callee_runs (Template w parts) is ps s s' a =
    reads $ reads $ as_reader (when_true _ (call_template w parts is.0).builtin) $
    parts_run parts is.1 (has_gaps w) w (InCallee s) onward reads a

mutual
  pub expression_runs : (e : Expression) → IsExpression e → (s : Stack) →
      Runs (expression_pieces e) (Expect s) (Got e s)
  expression_runs (Constant l) is s = literal_runs l is s
  expression_runs (Name w) is s = at_end
  expression_runs (Binary a op b) is s =
      reads $ expression_runs a is.0 _ onward over_gap $ operator_runs op a is.0 s onward over_gap $
      expression_runs b is.1 _ onward at_end
  expression_runs (Unary op e) is s = unary_runs op s onward expression_runs e is _ onward at_end
  expression_runs (Call t args) is s = callee_runs t is.0 _ s _ (arguments_run args is.1 (stand_first t args is.2) t s)
  expression_runs (Member e w) is s = base_runs e s (expression_runs e is.0) onward at_end
  expression_runs (Index e i) is s = base_runs e s (expression_runs e is.0) onward reads $
      expression_runs i is.1 _ onward at_end
  expression_runs (IndexAt e n) is s = base_runs e s (expression_runs e is.0) onward at_end
  expression_runs (AddressOf e) is s = reads $ reads $ expression_runs e is _ onward at_end
  expression_runs (Dereference e) is s = reads $ reads $ expression_runs e is _ onward at_end

  pub arguments_run : (args : Arguments) → IsArguments args → StandFirst args →
      (t : TypeSpecifier) (s : Stack) →
      Runs (arguments_pieces args) (Expect (InArguments t NoArguments s)) (Got (Call t args) s)
  arguments_run NoArguments is first t s = at_end
  arguments_run (Argument e more) is first t s = expression_runs e is.0 _ onward argument_done more
      (more_arguments_run more is.1 first (Argument e NoArguments) tt t s)
  arguments_run (NumberArgument n more) is first t s =
      reads $ number_done more is.1 (more_arguments_run more is.2 first (NumberArgument n NoArguments) tt t s)
  arguments_run (ZeroArgument whole more) is first t s = absurd first

  pub more_arguments_run : (args : Arguments) → IsArguments args → StandAfter args →
      (done : Arguments) → IsSome done → (t : TypeSpecifier) (s : Stack) →
      Runs (more_arguments_pieces args) (AfterArgument t done s)
      (Got (Call t (unwind_arguments done args)) s)
  more_arguments_run NoArguments is following done some t s = at_end
  more_arguments_run (Argument e more) is following done some t s = reads $ over_gap $
      expression_runs e is.0 _ onward argument_done more
      (more_arguments_run more is.1 following (Argument e done) tt t s)
  more_arguments_run (NumberArgument n more) is following done some t s = absurd following
  more_arguments_run (ZeroArgument false more) is following done some t s = reads $ over_gap $ reads $
      more_arguments_run more is following (ZeroArgument false done) tt t s
  more_arguments_run (ZeroArgument true more) is following done some t s = reads $ over_gap $ reads $
      zero_done more done some (more_arguments_run more is following (ZeroArgument true done) tt t s)

-- Words that take parts.

-- A function that takes a type is no type.
call_fits : (w : List ℕ) (parts : TemplateArguments) → IsTrue (fits (rule_among type_templates w) parts) →
    IsTrue (fits (rule_among call_templates w) parts)
call_fits w parts fit = by_word (stands_in type_taking_words w) refl
  where
    by_word : (b : Bool) → stands_in type_taking_words w ≡ b →
        IsTrue (fits (cond b TakesType (rule_among type_templates w)) parts)
    by_word true e =
        let none = passes (λ v. takes_none (rule_among type_templates v)) type_taking_words w refl e in
        absurd (false≢true (sym (fits_nothing (rule_among type_templates w) parts none) ∙ fit))
    by_word false e = fit

pub type_called : (t : TypeSpecifier) → IsType t → IsCallee t
type_called (Named w) is = is.part
type_called (Template w parts) is = (call_fits w parts is.part.0, is.part.1)

-- In their pieces no token runs into the next.

callee_opens : (t : TypeSpecifier) → IsCallee t → Opens (type_pieces t)
callee_opens (Named w) is = word_opens w is
callee_opens (Template w parts) is = word_opens w (call_template w parts is.0).word

base_opens : (e : Expression) → Opens (expression_pieces e) → Opens (base_pieces e (expression_pieces e))
base_opens (Unary op e) a = record { at = λ more. refl }
base_opens _ a = a

expression_opens : (e : Expression) → IsExpression e → Opens (expression_pieces e)
expression_opens (Constant l) is = literal_opens l is
expression_opens (Name w) is = word_opens w is.word
expression_opens (Unary Negate e) is = record { at = λ more. refl }
expression_opens (Unary LogicalNot e) is = record { at = λ more. refl }
expression_opens (Unary BitwiseNot e) is = record { at = λ more. refl }
expression_opens (Call t args) is = opens_first _ (callee_opens t is.0)
expression_opens (Member e w) is = opens_first _ (base_opens e (expression_opens e is.0))
expression_opens (Index e i) is = opens_first _ (base_opens e (expression_opens e is.0))
expression_opens (IndexAt e n) is = opens_first _ (base_opens e (expression_opens e is.0))
expression_opens _ is = record { at = λ more. refl }

pub callee_spaced : (t : TypeSpecifier) → IsCallee t → Spaced (type_pieces t)
callee_spaced (Named w) is = free is (λ more e. e) end
callee_spaced (Template w parts) is =
    free (call_template w parts is.0).word (λ more e. refl) $
    tok tt (λ more e. (parts_open parts (parts_of_fit _ parts is.0) is.1 (has_gaps w)).at more) $
    parts_spaced parts is.1 (has_gaps w)

-- an operator between blanks
operator_spaced : (op : BinaryOperator) {qs : List Piece} → Spaced qs → Spaced (binary_pieces op ++ (Blank ∷ qs))
operator_spaced GreaterEqual a = tok tt (λ more e. refl) $ tok tt (λ more e. refl) $ gap a
operator_spaced ShiftRight a = tok tt (λ more e. refl) $ tok tt (λ more e. refl) $ gap a
operator_spaced _ a = tok tt (λ more e. refl) $ gap a

base_spaced : (e : Expression) → Spaced (expression_pieces e) → Spaced (base_pieces e (expression_pieces e))
base_spaced (Unary op e) a = tok tt (λ more _. refl) $ part a (λ more _. refl) close
base_spaced _ a = a

unary_spaced : (op : UnaryOperator) {qs : List Piece} → Spaced qs → Spaced (mark (unary_mark op) ∷ mark OpenParen ∷ qs)
unary_spaced Negate a = tok tt (λ more e. refl) $ tok tt (λ more e. refl) a
unary_spaced _ a = tok tt (λ more e. refl) $ tok tt (λ more e. refl) a

more_arguments_end : (args : Arguments) → Ends (more_arguments_pieces args)
more_arguments_end NoArguments more e = refl
more_arguments_end _ more e = refl

number_argument_end : (args : Arguments) (n : ℕ) (more : List Piece) →
    ends (Number false n NoSuffix) (text (more_arguments_pieces args ++ more)) ≡ true
number_argument_end NoArguments n more = refl
number_argument_end _ n more = refl

plain_zero : IsPlainNumber 0
plain_zero = omega arith

mutual
  pub expression_spaced : (e : Expression) → IsExpression e → Spaced (expression_pieces e)
  expression_spaced (Constant l) is = literal_spaced l is
  expression_spaced (Name w) is = free is.word (λ more e. e) end
  expression_spaced (Binary a op b) is =
      tok tt (λ more e. refl) $ part (expression_spaced a is.0) (λ more e. refl) $ gap $
      operator_spaced op (part (expression_spaced b is.1) (λ more e. refl) close)
  expression_spaced (Unary op e) is = unary_spaced op (part (expression_spaced e is) (λ more e. refl) close)
  expression_spaced (Call t args) is = part (callee_spaced t is.0) (λ more e. refl) $ tok tt (λ more e. refl) $
      arguments_spaced args is.1
  expression_spaced (Member e w) is = part (base_spaced e (expression_spaced e is.0)) (λ more _. refl) $
      tok tt (λ more _. refl) $ free is.1 (λ more h. h) end
  expression_spaced (Index e i) is =
      part (base_spaced e (expression_spaced e is.0)) (λ more _. refl) $ tok tt
      (λ more _. refl) $ part (expression_spaced i is.1) (λ more _. refl) $ tok tt
      (λ more _. refl) end
  expression_spaced (IndexAt e n) is = part (base_spaced e (expression_spaced e is.0)) (λ more _. refl) $
      tok tt (λ more _. refl) $ size is.1 (λ more _. refl) $ tok tt (λ more _. refl) end
  expression_spaced (AddressOf e) is = tok tt (λ more _. refl) $
      tok tt (λ more _. (opens_first _ (expression_opens e is)).at more) $ part (expression_spaced e is)
      (λ more _. refl) close
  expression_spaced (Dereference e) is = tok tt (λ more _. refl) $ tok tt (λ more _. refl) $
      part (expression_spaced e is) (λ more _. refl) close

  pub arguments_spaced : (args : Arguments) → IsArguments args → Spaced (arguments_pieces args)
  arguments_spaced NoArguments is = close
  arguments_spaced (Argument e more) is = part (expression_spaced e is.0) (more_arguments_end more) $
      more_arguments_spaced more is.1
  arguments_spaced (NumberArgument n more) is = size is.0 (λ ps e. number_argument_end more n ps) $
      more_arguments_spaced more is.2
  arguments_spaced (ZeroArgument false more) is = tok tt (λ ps e. more_arguments_end more ps e) $
      more_arguments_spaced more is
  arguments_spaced (ZeroArgument true more) is = size plain_zero (λ ps e. number_argument_end more 0 ps) $
      more_arguments_spaced more is

  pub more_arguments_spaced : (args : Arguments) → IsArguments args → Spaced (more_arguments_pieces args)
  more_arguments_spaced NoArguments is = close
  more_arguments_spaced (Argument e more) is = tok tt (λ ps e. refl) $ gap $ part (expression_spaced e is.0)
      (more_arguments_end more) $ more_arguments_spaced more is.1
  more_arguments_spaced (NumberArgument n more) is = tok tt (λ ps e. refl) $ gap $
      size is.0 (λ ps e. number_argument_end more n ps) $ more_arguments_spaced more is.2
  more_arguments_spaced (ZeroArgument false more) is = tok tt (λ ps e. refl) $ gap $
      tok tt (λ ps e. more_arguments_end more ps e) $ more_arguments_spaced more is
  more_arguments_spaced (ZeroArgument true more) is = tok tt (λ ps e. refl) $ gap $
      size plain_zero (λ ps e. number_argument_end more 0 ps) $ more_arguments_spaced more is

-- The text of each row, from the texts of its parts.

pub name_text : (w : List ℕ) → printed_expression (Name w) ≡ w
name_text w = append-nil w

pub binary_text : (a : Expression) (op : BinaryOperator) (b : Expression) →
    printed_expression (Binary a op b) ≡ codes "(" ++
    (printed_expression a ++
    (codes " " ++ (text (binary_pieces op) ++ (codes " " ++ (printed_expression b ++ codes ")")))))
binary_text a op b = simp text-append

pub unary_text : (op : UnaryOperator) (e : Expression) → printed_expression (Unary op e)
    ≡ mark_text (unary_mark op) ++ (codes "(" ++ (printed_expression e ++ codes ")"))
unary_text op e = simp text-append

pub call_text : (t : TypeSpecifier) (args : Arguments) → printed_expression (Call t args) ≡ printed_type t
    ++ (codes "(" ++ text (arguments_pieces args))
call_text t args = simp text-append

pub argument_text : (e : Expression) (more : Arguments) → text (arguments_pieces (Argument e more))
    ≡ printed_expression e ++ text (more_arguments_pieces more)
argument_text e more = simp text-append

pub next_argument_text : (e : Expression) (more : Arguments) → text (more_arguments_pieces (Argument e more))
    ≡ codes ", " ++ (printed_expression e ++ text (more_arguments_pieces more))
next_argument_text e more = simp text-append

-- the base of a member or an index
abbrev pub base_text : Expression → List ℕ
base_text e = text (base_pieces e (expression_pieces e))

pub member_text : (e : Expression) (w : List ℕ) → printed_expression (Member e w) ≡ base_text e ++ (codes "." ++ w)
member_text e w = simp (text-append, append-nil)

pub index_text : (e i : Expression) → printed_expression (Index e i)
    ≡ base_text e ++ (codes "[" ++ (printed_expression i ++ codes "]"))
index_text e i = simp text-append

pub index_at_text : (e : Expression) (n : ℕ) → printed_expression (IndexAt e n)
    ≡ base_text e ++ (codes "[" ++ (decimal n ++ codes "]"))
index_at_text e n = text-append (base_pieces e (expression_pieces e)) _
    ∙ ap (λ v. base_text e ++ (codes "[" ++ v)) (plain_text n (mark CloseBracket ∷ []))

pub address_text : (e : Expression) →
    printed_expression (AddressOf e) ≡ codes "(&" ++ (printed_expression e ++ codes ")")
address_text e = simp text-append

pub dereference_text : (e : Expression) → printed_expression (Dereference e)
    ≡ codes "(*" ++ (printed_expression e ++ codes ")")
dereference_text e = simp text-append
