-- Functions: the machine reads back what their pieces write, and no token of these runs into the
-- next; and the text of each row.
use Rattle.std.proofs.Common.{◌≡◌, ℕ, true, List, [], ◌∷◌, ◌++◌, refl, sym, ap, subst, ◌∙◌}
use Rattle.std.proofs.Common.{append_assoc}
use Rattle.std.specs.Prelude.{Option, codes, None, Some, IsTrue}
use Rattle.std.proofs.lemmas.Bool.{false≢true}
use Rattle.wgsl_text.specs.Attributes.{Attribute, attributes_pieces, is_stage}
use Rattle.wgsl_text.specs.Declarations.{Program}
use Rattle.wgsl_text.specs.Expressions.{Expression}
use Rattle.wgsl_text.specs.Functions.{Parameter, Result, NoResult, ResultOf, Local, Function}
use Rattle.wgsl_text.specs.Functions.{EntryPoint, value_pieces, parameter_pieces}
use Rattle.wgsl_text.specs.Functions.{more_parameters_pieces, parameters_pieces, result_pieces}
use Rattle.wgsl_text.specs.Functions.{locals_pieces, group_end, function_pieces, functions_pieces}
use Rattle.wgsl_text.specs.Functions.{entry_point_pieces, more_entry_points_pieces}
use Rattle.wgsl_text.specs.Functions.{entry_points_pieces, IsValue, IsParameter, IsResult, IsLocal}
use Rattle.wgsl_text.specs.Functions.{Each, IsFunction, IsEntryPoint}
use Rattle.wgsl_text.specs.Statements.{NoStatements, statements_pieces}
use Rattle.wgsl_text.specs.Token.{OpenBrace, Colon, Piece, Blank, LineEnd, mark, word}
use Rattle.wgsl_text.specs.Types.{TypeSpecifier, Named, Template, type_pieces, IsType}
use Rattle.wgsl_text.proofs.Machine.{Stack, Reader, Expect, ExpectType, GotType, InStatements}
use Rattle.wgsl_text.proofs.Machine.{InProgram, InParameters, InParameterType, InLocals}
use Rattle.wgsl_text.proofs.Machine.{InLocalType, ExpectParameter, AfterParameters, ExpectResult}
use Rattle.wgsl_text.proofs.Machine.{turned, add_local, function_added, close_parameters}
use Rattle.wgsl_text.proofs.Chain.{◌$◌}
use Rattle.wgsl_text.proofs.Attributes.{attributes_run, parameter_attributes_run}
use Rattle.wgsl_text.proofs.Attributes.{result_attributes_run, attributes_closed}
use Rattle.wgsl_text.proofs.Closing.{Closed, none, line, gap, indent, free, sign, part, ◌then◌}
use Rattle.wgsl_text.proofs.Closing.{stop}
use Rattle.wgsl_text.proofs.Expressions.{expression_runs, expression_spaced}
use Rattle.wgsl_text.proofs.Runs.{Runs, ◌onward◌, reads, over_gap, over_line, over_indent, as_reader}
use Rattle.wgsl_text.proofs.Runs.{at_end, to_reader, turned_back}
use Rattle.wgsl_text.proofs.Statements.{closes, statements_run, statements_closed}
use Rattle.wgsl_text.proofs.Text.{ends_word, text-append}
use Rattle.wgsl_text.proofs.Types.{type_runs, type_spaced}
use Rattle.wgsl_text.specs.Text.{text}
use Rattle.wgsl_text.specs.Reading.{printed_type, printed_expression}

-- functions

-- a parameter, up to its type
parameter_runs : (p : Parameter) → IsParameter p →
    (f : List ℕ) (done : List Parameter) (s : Stack) →
    Runs (parameter_pieces p) (ExpectParameter (InParameters f done [] s))
    (GotType p.type (InParameterType f done (turned p.attributes []) p.name s))
parameter_runs p is f done s = parameter_attributes_run p.attributes f done [] s onward reads $ reads $
    over_gap $ type_runs p.type is.type.part _

-- the parameter that has been read, with the others
abbrev parameter_done : Parameter → List ℕ → List Parameter → Stack → Stack
parameter_done p f done s = InParameters f (record p { attributes = turned (turned p.attributes []) [] } ∷ done) [] s

kept : (p : Parameter) (f : List ℕ) (done : List Parameter) (s : Stack) → parameter_done p f done s
    ≡ InParameters f (p ∷ done) [] s
kept p f done s = ap (λ v. InParameters f (record p { attributes = v } ∷ done) [] s) (turned_back p.attributes [])

more_parameters_run : (ps : List Parameter) → Each IsParameter ps →
    (p : Parameter) (f : List ℕ) (done : List Parameter) (s : Stack) →
    Runs (more_parameters_pieces ps)
    (GotType p.type (InParameterType f done (turned p.attributes []) p.name s))
    (AfterParameters f (turned (p ∷ done) ps) s)
more_parameters_run [] is p f done s = reads $ as_reader (ap close_parameters (kept p f done s)) at_end
more_parameters_run (q ∷ more) is p f done s =
    reads $ as_reader (ap ExpectParameter (kept p f done s)) $ over_gap $
    parameter_runs q is.0 f (p ∷ done) s onward more_parameters_run more is.1 q f (p ∷ done) s

parameters_run : (ps : List Parameter) → Each IsParameter ps → (f : List ℕ) (s : Stack) →
    Runs (parameters_pieces ps) (ExpectParameter (InParameters f [] [] s)) (AfterParameters f ps s)
parameters_run [] is f s = at_end
parameters_run (p ∷ more) is f s = parameter_runs p is.0 f [] s onward more_parameters_run more is.1 p f [] s

-- a type after the attributes of a result
result_type : (t : TypeSpecifier) {s : Stack} {s' : Reader} → Runs (type_pieces t) (ExpectType s) s' →
    Runs (type_pieces t) (ExpectResult s) s'
result_type (Named w) a = record { to = a.to }
result_type (Template w parts) a = record { to = a.to }

-- what stands between the parameters and the body
result_runs : (r : Result) → IsResult r →
    (f : List ℕ) (ps : List Parameter) (s : Stack) {qs : List Piece} {s' : Reader} →
    Runs qs (Expect (InStatements NoStatements (InLocals f ps r [] s))) s' →
    Runs (result_pieces r ++ (Blank ∷ mark OpenBrace ∷ qs)) (AfterParameters f ps s) s'
result_runs NoResult is f ps s b = over_gap $ reads b
result_runs (ResultOf attributes t) is f ps s b =
    over_gap $ reads $ reads $ over_gap $
    (result_attributes_run attributes f ps [] s onward result_type t (type_runs t is.2.part _)) onward
    over_gap $ reads $
    as_reader (ap (λ v. Expect (InStatements NoStatements (InLocals f ps (ResultOf v t) [] s)))
    (turned_back attributes [])) b

value_runs : (value : Option Expression) → IsValue value → (w : List ℕ) (t : TypeSpecifier) (s : Stack) →
    Runs (value_pieces value) (GotType t (InLocalType w s)) (add_local w t value s)
value_runs None is w t s = at_end
value_runs (Some e) is w t s = over_gap $ reads $ over_gap $ expression_runs e is _ onward at_end

locals_run : (locals : List Local) → Each IsLocal locals →
    (f : List ℕ) (ps : List Parameter) (r : Result) (done : List Local) (s : Stack) →
    Runs (locals_pieces locals) (Expect (InStatements NoStatements (InLocals f ps r done s)))
    (Expect (InStatements NoStatements (InLocals f ps r (turned locals done) s)))
locals_run [] is f ps r done s = at_end
locals_run (l ∷ more) is f ps r done s =
    over_indent $ reads $ over_gap $ reads $ reads $ over_gap $
    type_runs l.type is.0.type.part _ onward value_runs l.value is.0.value l.name l.type _ onward locals_run
    more is.1 f ps r (l ∷ done) s

pub group_end_runs : {A : Type 0} (list : List A) (s : Reader) → Runs (group_end list) s s
group_end_runs [] s = at_end
group_end_runs (x ∷ more) s = at_end

pub function_runs : (f : Function) → IsFunction f → (attributes : List Attribute) (p : Program) →
    Runs (function_pieces f) (Expect (InProgram attributes p))
    (Expect (InProgram [] (function_added (turned attributes []) f p)))
function_runs f is attributes p =
    reads $ over_gap $ reads $ reads $ parameters_run f.parameters is.parameters f.name _ onward result_runs
    f.result is.result f.name f.parameters _ (over_line (
    locals_run f.locals is.locals f.name f.parameters f.result [] _ onward
    (group_end_runs f.locals _ onward (statements_run f.body is.body 1 NoStatements _ onward closes f.body
    (over_line (
    as_reader (ap (λ l. Expect
    (InProgram [] (function_added (turned attributes []) (record f { locals = l }) p)))
    (turned_back f.locals [])) at_end))))))

pub functions_run : (list : List Function) → Each IsFunction list →
    (p : Program) → Runs (functions_pieces list) (Expect (InProgram [] p))
    (Expect (InProgram [] (record p { functions = turned list p.functions })))
functions_run [] is p = at_end
functions_run (f ∷ more) is p = function_runs f is.0 [] p onward over_line $
    functions_run more is.1 (record p { functions = f ∷ p.functions })

entry_added : (stage : List Attribute) → IsTrue (is_stage stage) → (f : Function) (p : Program) →
    function_added stage f p ≡ record p {
      entry_points =
          record { stage = stage; function = f } ∷ p.entry_points;
    }
entry_added [] is f p = absurd (false≢true is)
entry_added (a ∷ more) is f p = refl

pub entry_point_runs : (e : EntryPoint) → IsEntryPoint e → (p : Program) →
    Runs (entry_point_pieces e) (Expect (InProgram [] p))
    (Expect (InProgram [] (record p { entry_points = e ∷ p.entry_points })))
entry_point_runs e is p =
    attributes_run e.stage [] p onward over_line $ to_reader (function_runs e.function is.function _ p)
    (ap (λ v. Expect (InProgram [] (function_added v e.function p))) (turned_back e.stage [])
    ∙ ap (λ v. Expect (InProgram [] v)) (entry_added e.stage is.stage e.function p))

more_entry_points_run : (list : List EntryPoint) → Each IsEntryPoint list →
    (p : Program) → Runs (more_entry_points_pieces list) (Expect (InProgram [] p))
    (Expect (InProgram [] (record p { entry_points = turned list p.entry_points })))
more_entry_points_run [] is p = at_end
more_entry_points_run (e ∷ more) is p = over_line $ entry_point_runs e is.0 p onward more_entry_points_run more
    is.1 (record p { entry_points = e ∷ p.entry_points })

pub entry_points_run : (list : List EntryPoint) → Each IsEntryPoint list →
    (p : Program) → Runs (entry_points_pieces list) (Expect (InProgram [] p))
    (Expect (InProgram [] (record p { entry_points = turned list p.entry_points })))
entry_points_run [] is p = at_end
entry_points_run (e ∷ more) is p = entry_point_runs e is.0 p onward more_entry_points_run more is.1
    (record p { entry_points = e ∷ p.entry_points })

-- In their pieces no token runs into the next.

-- functions

value_closed : (value : Option Expression) → IsValue value → Closed (value_pieces value)
value_closed None is = stop
value_closed (Some e) is = gap $ sign (λ _. refl) $ gap $ part (expression_spaced e is) (λ _. refl) stop

-- a type, a value and what stands after them
pub value_after : (t : TypeSpecifier) → IsType t → (value : Option Expression) → IsValue value →
    {qs : List Piece} → Closed qs → Closed (type_pieces t ++ (value_pieces value ++ qs))
value_after t is None at b = part (type_spaced t is.part) (λ _. refl) $ stop then b
value_after t is (Some e) at b = part (type_spaced t is.part) (λ _. refl) $ value_closed (Some e) at then b

-- pieces that end in a type, and those after them
before_type : (ps qs rest : List Piece) → Closed (ps ++ (qs ++ rest)) → Closed ((ps ++ qs) ++ rest)
before_type ps qs rest a = subst Closed (sym (append_assoc ps qs rest)) a

parameter_closed : (p : Parameter) → IsParameter p → {qs : List Piece} →
    ((more : List Piece) → ends_word (text (qs ++ more)) ≡ true) → Closed qs → Closed (parameter_pieces p ++ qs)
parameter_closed p is {qs} front b =
    before_type (attributes_pieces p.attributes)
    (word p.name ∷ mark Colon ∷ Blank ∷ type_pieces p.type) qs
    (attributes_closed p.attributes is.attributes then free is.name.word (λ _. refl) $ sign
    (λ _. refl) $ gap $ part (type_spaced p.type is.type.part) front b)

more_parameters_end : (ps : List Parameter) (more : List Piece) →
    ends_word (text (more_parameters_pieces ps ++ more)) ≡ true
more_parameters_end [] more = refl
more_parameters_end (p ∷ ps) more = refl

more_parameters_closed : (ps : List Parameter) → Each IsParameter ps → Closed (more_parameters_pieces ps)
more_parameters_closed [] is = sign (λ _. refl) none
more_parameters_closed (p ∷ more) is = sign (λ _. refl) $ gap $
    parameter_closed p is.0 (more_parameters_end more) $ more_parameters_closed more is.1

parameters_closed : (ps : List Parameter) → Each IsParameter ps → Closed (parameters_pieces ps)
parameters_closed [] is = sign (λ _. refl) none
parameters_closed (p ∷ more) is = parameter_closed p is.0 (more_parameters_end more) $ more_parameters_closed more is.1

result_closed : (r : Result) → IsResult r → {qs : List Piece} → Closed qs → Closed (result_pieces r ++ (Blank ∷ qs))
result_closed NoResult is a = gap a
result_closed (ResultOf attributes t) is {qs} a =
    gap $ sign (λ _. refl) $ sign (λ _. refl) $ gap $ before_type (attributes_pieces attributes)
    (type_pieces t) (Blank ∷ qs)
    (attributes_closed attributes is.0 then part (type_spaced t is.2.part) (λ _. refl) $ gap a)

locals_closed : (locals : List Local) → Each IsLocal locals → Closed (locals_pieces locals)
locals_closed [] is = none
locals_closed (l ∷ more) is =
    indent $ sign (λ _. refl) $ gap $ free is.0.name.word (λ _. refl) $ sign (λ _. refl) $ gap $
    value_after l.type is.0.type l.value is.0.value $ locals_closed more is.1

pub group_end_closed : {A : Type 0} (list : List A) → Closed (group_end list)
group_end_closed [] = none
group_end_closed (x ∷ more) = line none

pub function_closed : (f : Function) → IsFunction f → Closed (function_pieces f)
function_closed f is =
    sign (λ _. refl) $ gap $ free is.name.word (λ _. refl) $ sign (λ _. refl) $
    parameters_closed f.parameters is.parameters then result_closed f.result is.result (sign (λ _. refl) (line (
    locals_closed f.locals is.locals then
    (group_end_closed f.locals then (statements_closed f.body is.body 1 then sign (λ _. refl) (line none))))))

pub functions_closed : (list : List Function) → Each IsFunction list → Closed (functions_pieces list)
functions_closed [] is = none
functions_closed (f ∷ more) is = function_closed f is.0 then line $ functions_closed more is.1

pub entry_point_closed : (e : EntryPoint) → IsEntryPoint e → Closed (entry_point_pieces e)
entry_point_closed e is = attributes_closed e.stage is.attributes then line $ function_closed e.function is.function

more_entry_points_closed : (list : List EntryPoint) → Each IsEntryPoint list → Closed (more_entry_points_pieces list)
more_entry_points_closed [] is = none
more_entry_points_closed (e ∷ more) is = line $ entry_point_closed e is.0 then more_entry_points_closed more is.1

pub entry_points_closed : (list : List EntryPoint) → Each IsEntryPoint list → Closed (entry_points_pieces list)
entry_points_closed [] is = none
entry_points_closed (e ∷ more) is = entry_point_closed e is.0 then more_entry_points_closed more is.1

-- The text of each row, from the texts of its parts.

pub value_text : (e : Expression) → text (value_pieces (Some e)) ≡ codes " = " ++ (printed_expression e ++ codes ";\n")
value_text e = simp text-append

pub result_text : (list : List Attribute) (t : TypeSpecifier) → text (result_pieces (ResultOf list t))
    ≡ codes " -> " ++ (text (attributes_pieces list) ++ printed_type t)
result_text list t = simp text-append

pub locals_text : (l : Local) (more : List Local) →
    text (locals_pieces (l ∷ more)) ≡ codes "    var " ++
    (l.name ++ (codes ": " ++
    (printed_type l.type ++ (text (value_pieces l.value) ++ text (locals_pieces more)))))
locals_text l more = simp text-append

pub function_text : (f : Function) → text (function_pieces f) ≡ codes "fn " ++
    (f.name ++ (codes "(" ++
    (text (parameters_pieces f.parameters) ++
    (text (result_pieces f.result) ++
    (codes " {\n" ++
    (text (locals_pieces f.locals) ++
    (text (group_end f.locals) ++ (text (statements_pieces f.body 1) ++ codes "}\n"))))))))
function_text f = simp text-append

pub functions_text : (f : Function) (more : List Function) → text (functions_pieces (f ∷ more))
    ≡ text (function_pieces f) ++ (codes "\n" ++ text (functions_pieces more))
functions_text f more = text-append (function_pieces f) (LineEnd ∷ functions_pieces more)

pub entry_point_text : (e : EntryPoint) → text (entry_point_pieces e) ≡ text (attributes_pieces e.stage)
    ++ (codes "\n" ++ text (function_pieces e.function))
entry_point_text e = text-append (attributes_pieces e.stage) (LineEnd ∷ function_pieces e.function)
