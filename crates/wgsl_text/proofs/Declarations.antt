-- Declarations: the machine reads back what their pieces write, and no token of these runs into the
-- next; and the text of each row.
use Rattle.std.proofs.Common.{◌≡◌, ℕ, true, false, List, [], ◌∷◌, ◌++◌, refl, ap, ◌∙◌, ◌||◌}
use Rattle.std.specs.Prelude.{Option, codes, None, Some, IsTrue}
use Rattle.std.proofs.lemmas.Bool.{and_parts}
use Rattle.wgsl_text.specs.Attributes.{Location, Binding, Attribute, Numbered, attributes_pieces}
use Rattle.wgsl_text.specs.Attributes.{IsAttributes}
use Rattle.wgsl_text.specs.Declarations.{StructMember, Struct, NamedConstant, Override, Space}
use Rattle.wgsl_text.specs.Declarations.{NoSpace, SpaceAlone, SpaceAndAccess, Global, Program}
use Rattle.wgsl_text.specs.Declarations.{no_declarations, enables_pieces, members_pieces}
use Rattle.wgsl_text.specs.Declarations.{structs_pieces, constants_pieces, overrides_pieces}
use Rattle.wgsl_text.specs.Declarations.{after_attribute, global_attributes_pieces, space_pieces}
use Rattle.wgsl_text.specs.Declarations.{globals_pieces, program_pieces, IsMember, IsStruct}
use Rattle.wgsl_text.specs.Declarations.{IsNamedConstant, IsOverride, is_space, IsGlobal, IsEnable}
use Rattle.wgsl_text.specs.Declarations.{IsProgram}
use Rattle.wgsl_text.specs.Expressions.{Expression}
use Rattle.wgsl_text.specs.Functions.{value_pieces, group_end, functions_pieces}
use Rattle.wgsl_text.specs.Functions.{entry_points_pieces, IsValue, Each}
use Rattle.wgsl_text.specs.Token.{KeywordVar, Piece, Blank, mark, word}
use Rattle.wgsl_text.specs.Types.{TypeSpecifier}
use Rattle.wgsl_text.specs.Words.{stands_in, is_reserved}
use Rattle.wgsl_text.proofs.Machine.{Stack, Reader, Expect, GotType, InProgram, InMembers}
use Rattle.wgsl_text.proofs.Machine.{InOverrideType, InGlobalType, ExpectMemberName, AfterVar}
use Rattle.wgsl_text.proofs.Machine.{AfterGlobalName, turned, add_global, add_override}
use Rattle.wgsl_text.proofs.Chain.{◌$◌}
use Rattle.wgsl_text.proofs.Attributes.{attribute_runs, attributes_run, member_attributes_run}
use Rattle.wgsl_text.proofs.Attributes.{attribute_closed, attributes_closed}
use Rattle.wgsl_text.proofs.Closing.{Closed, none, line, gap, indent, free, sign, angle, part}
use Rattle.wgsl_text.proofs.Closing.{◌then◌}
use Rattle.wgsl_text.proofs.Expressions.{expression_runs, expression_spaced}
use Rattle.wgsl_text.proofs.Functions.{group_end_runs, functions_run, entry_points_run, value_after}
use Rattle.wgsl_text.proofs.Functions.{group_end_closed, functions_closed, entry_points_closed}
use Rattle.wgsl_text.proofs.Runs.{Runs, ◌onward◌, reads, over_gap, over_line, over_indent, as_reader}
use Rattle.wgsl_text.proofs.Runs.{at_end, to_reader, turned_back}
use Rattle.wgsl_text.proofs.Spacing.{word_opens}
use Rattle.wgsl_text.proofs.Text.{text-append}
use Rattle.wgsl_text.proofs.Types.{type_runs, type_spaced}
use Rattle.wgsl_text.proofs.Words.{all_words, is_free, table_word, address_spaces_free}
use Rattle.wgsl_text.proofs.Words.{accesses_free, enables_free}
use Rattle.std.specs.Str.{bytes_eq}
use Rattle.wgsl_text.specs.Tables.{address_space_words, access_words, enable_words}
use Rattle.wgsl_text.specs.Text.{text}
use Rattle.wgsl_text.specs.Reading.{printed_type, printed_expression, printed_program}

after_runs : (a : Attribute) (s : Reader) → Runs (after_attribute a) s s
after_runs (Numbered Binding n) s = at_end
after_runs (Numbered Location n) s = at_end
after_runs _ s = at_end

global_attributes_run : (list attributes : List Attribute) (p : Program) →
    Runs (global_attributes_pieces list) (Expect (InProgram attributes p))
    (Expect (InProgram (turned list attributes) p))
global_attributes_run [] attributes p = at_end
global_attributes_run (a ∷ more) attributes p =
    attribute_runs a refl onward after_runs a _ onward global_attributes_run more (a ∷ attributes) p

-- declarations

enables_run : (list : List (List ℕ)) (p : Program) → Runs (enables_pieces list) (Expect (InProgram [] p))
    (Expect (InProgram [] (record p { enables = turned list p.enables })))
enables_run [] p = at_end
enables_run (w ∷ more) p = reads $ over_gap $ reads $ reads $ over_line $
    enables_run more (record p { enables = w ∷ p.enables })

members_run : (ms : List StructMember) → Each IsMember ms →
    (w : List ℕ) (done : List StructMember) (s : Stack) →
    Runs (members_pieces ms) (ExpectMemberName (InMembers w done [] s))
    (ExpectMemberName (InMembers w (turned ms done) [] s))
members_run [] is w done s = at_end
members_run (m ∷ more) is w done s =
    over_indent $ member_attributes_run m.attributes w done [] s onward reads $ reads $ over_gap $
    type_runs m.type is.0.type.part _ onward reads $
    as_reader (ap (λ v. ExpectMemberName (InMembers w (record m { attributes = v } ∷ done) [] s))
    (turned_back m.attributes [])) $
    over_line $ members_run more is.1 w (m ∷ done) s

structs_run : (list : List Struct) → Each IsStruct list → (p : Program) →
    Runs (structs_pieces list) (Expect (InProgram [] p))
    (Expect (InProgram [] (record p { structs = turned list p.structs })))
structs_run [] is p = at_end
structs_run (d ∷ more) is p =
    reads $ over_gap $ reads $ over_gap $ reads $ over_line $
    members_run d.members is.0.members d.name [] _ onward reads $
    as_reader (ap (λ v. Expect (InProgram [] (record p { structs = record d { members = v } ∷ p.structs })))
    (turned_back d.members [])) $
    over_line $ over_line $ structs_run more is.1 (record p { structs = d ∷ p.structs })

constants_run : (list : List NamedConstant) → Each IsNamedConstant list →
    (p : Program) → Runs (constants_pieces list) (Expect (InProgram [] p))
    (Expect (InProgram [] (record p { constants = turned list p.constants })))
constants_run [] is p = at_end
constants_run (d ∷ more) is p =
    reads $ over_gap $ reads $ reads $ over_gap $ type_runs d.type is.0.type.part _ onward over_gap $ reads $
    over_gap $ expression_runs d.value is.0.value _ onward reads $ over_line $
    constants_run more is.1 (record p { constants = d ∷ p.constants })

override_value_runs : (value : Option Expression) → IsValue value →
    (w : List ℕ) (t : TypeSpecifier) (s : Stack) → Runs (value_pieces value) (GotType t (InOverrideType w s))
    (add_override w t value s)
override_value_runs None is w t s = at_end
override_value_runs (Some e) is w t s = over_gap $ reads $ over_gap $ expression_runs e is _ onward at_end

overrides_run : (list : List Override) → Each IsOverride list →
    (p : Program) → Runs (overrides_pieces list) (Expect (InProgram [] p))
    (Expect (InProgram [] (record p { overrides = turned list p.overrides })))
overrides_run [] is p = at_end
overrides_run (d ∷ more) is p =
    attributes_run d.attributes [] p onward reads $ over_gap $ reads $ reads $ over_gap $
    type_runs d.type is.0.type.part _ onward
    to_reader (override_value_runs d.value is.0.value d.name d.type _)
    (ap (λ v. Expect
    (InProgram [] (record p { overrides = record d { attributes = v } ∷ p.overrides })))
    (turned_back d.attributes [])) onward
    overrides_run more is.1 (record p { overrides = d ∷ p.overrides })

space_runs : (space : Space) (w : List ℕ) {s : Stack} {qs : List Piece} {s' : Reader} →
    Runs qs (AfterGlobalName space w s) s' → Runs (space_pieces space ++ (Blank ∷ word w ∷ qs)) (AfterVar s) s'
space_runs NoSpace w b = over_gap $ reads b
space_runs (SpaceAlone a) w b = reads $ reads $ reads $ over_gap $ reads b
space_runs (SpaceAndAccess a m) w b = reads $ reads $ reads $ over_gap $ reads $ reads $ over_gap $ reads b

global_value_runs : (value : Option Expression) → IsValue value →
    (space : Space) (w : List ℕ) (t : TypeSpecifier) (s : Stack) →
    Runs (value_pieces value) (GotType t (InGlobalType space w s)) (add_global space w t value s)
global_value_runs None is space w t s = at_end
global_value_runs (Some e) is space w t s = over_gap $ reads $ over_gap $ expression_runs e is _ onward at_end

globals_run : (list : List Global) → Each IsGlobal list → (p : Program) →
    Runs (globals_pieces list) (Expect (InProgram [] p))
    (Expect (InProgram [] (record p { globals = turned list p.globals })))
globals_run [] is p = at_end
globals_run (d ∷ more) is p =
    global_attributes_run d.attributes [] p onward reads $ space_runs d.space d.name $ reads $ over_gap $
    type_runs d.type is.0.type.part _ onward
    to_reader (global_value_runs d.value is.0.value d.space d.name d.type _)
    (ap (λ v. Expect
    (InProgram [] (record p { globals = record d { attributes = v } ∷ p.globals })))
    (turned_back d.attributes [])) onward
    globals_run more is.1 (record p { globals = d ∷ p.globals })

-- the declarations of each kind, the newest first
abbrev pub newest_first : Program → Program
newest_first p = record {
  enables = turned p.enables [];
  structs = turned p.structs [];
  constants = turned p.constants [];
  overrides = turned p.overrides [];
  globals = turned p.globals [];
  functions = turned p.functions [];
  entry_points = turned p.entry_points [];
}

pub program_runs : (p : Program) → IsProgram p → Runs (program_pieces p) (Expect (InProgram [] no_declarations))
    (Expect (InProgram [] (newest_first p)))
program_runs p is =
    enables_run p.enables _ onward group_end_runs p.enables _ onward structs_run p.structs is.structs _ onward
    constants_run p.constants is.constants _ onward group_end_runs p.constants _ onward
    overrides_run p.overrides is.overrides _ onward group_end_runs p.overrides _ onward
    globals_run p.globals is.globals _ onward group_end_runs p.globals _ onward
    functions_run p.functions is.functions _ onward entry_points_run p.entry_points is.entry_points _

pub newest_twice : (p : Program) → newest_first (newest_first p) ≡ p
newest_twice p =
    ap (λ v. record (newest_first (newest_first p)) { enables = v }) (turned_back p.enables [])
    ∙ ap (λ v. record p {
      structs = v;
      constants = (newest_first (newest_first p)).constants;
      overrides = (newest_first (newest_first p)).overrides;
      globals =
          (newest_first (newest_first p)).globals;
      functions =
          (newest_first (newest_first p)).functions;
      entry_points =
          (newest_first (newest_first p)).entry_points;
    }) (turned_back p.structs [])
    ∙ ap (λ v. record p {
      constants = v;
      overrides = (newest_first (newest_first p)).overrides;
      globals = (newest_first (newest_first p)).globals;
      functions =
          (newest_first (newest_first p)).functions;
      entry_points =
          (newest_first (newest_first p)).entry_points;
    }) (turned_back p.constants [])
    ∙ ap (λ v. record p {
      overrides = v;
      globals = (newest_first (newest_first p)).globals;
      functions = (newest_first (newest_first p)).functions;
      entry_points =
          (newest_first (newest_first p)).entry_points;
    }) (turned_back p.overrides [])
    ∙ ap (λ v. record p {
      globals = v;
      functions = (newest_first (newest_first p)).functions;
      entry_points = (newest_first (newest_first p)).entry_points;
    }) (turned_back p.globals [])
    ∙ ap (λ v. record p { functions = v; entry_points = (newest_first (newest_first p)).entry_points })
    (turned_back p.functions [])
    ∙ ap (λ v. record p { entry_points = v }) (turned_back p.entry_points [])

-- In their pieces no token runs into the next.

after_closed : (a : Attribute) → Closed (after_attribute a)
after_closed (Numbered Binding n) = line none
after_closed (Numbered Location n) = none
after_closed _ = none

global_attributes_closed : (list : List Attribute) → IsAttributes list → Closed (global_attributes_pieces list)
global_attributes_closed [] is = none
global_attributes_closed (a ∷ more) is =
    attribute_closed a is.0 then after_closed a then global_attributes_closed more is.1

-- declarations

enables_closed : (list : List (List ℕ)) → Each IsEnable list → Closed (enables_pieces list)
enables_closed [] is = none
enables_closed (w ∷ more) is = sign (λ _. refl) $ gap $ free (table_word enable_words w enables_free is.0)
    (λ _. refl) $ sign (λ _. refl) $ line $ enables_closed more is.1

members_closed : (ms : List StructMember) → Each IsMember ms → Closed (members_pieces ms)
members_closed [] is = none
members_closed (m ∷ more) is =
    indent $ attributes_closed m.attributes is.0.attributes then free is.0.name (λ _. refl) $ sign (λ _. refl) $
    gap $ part (type_spaced m.type is.0.type.part) (λ _. refl) $
    sign (λ _. refl) $ line $ members_closed more is.1

structs_closed : (list : List Struct) → Each IsStruct list → Closed (structs_pieces list)
structs_closed [] is = none
structs_closed (d ∷ more) is =
    sign (λ _. refl) $ gap $ free is.0.name.word (λ _. refl) $ gap $ sign (λ _. refl) $ line $
    members_closed d.members is.0.members then sign (λ _. refl) $ line $ line $ structs_closed more is.1

constants_closed : (list : List NamedConstant) → Each IsNamedConstant list → Closed (constants_pieces list)
constants_closed [] is = none
constants_closed (d ∷ more) is =
    sign (λ _. refl) $ gap $ free is.0.name.word (λ _. refl) $ sign (λ _. refl) $ gap $
    part (type_spaced d.type is.0.type.part) (λ _. refl) $ gap $ sign (λ _. refl) $ gap $
    part (expression_spaced d.value is.0.value) (λ _. refl) $ sign (λ _. refl) $ line $ constants_closed more is.1

overrides_closed : (list : List Override) → Each IsOverride list → Closed (overrides_pieces list)
overrides_closed [] is = none
overrides_closed (d ∷ more) is =
    attributes_closed d.attributes is.0.attributes then sign (λ _. refl) $ gap $
    free is.0.name.word (λ _. refl) $ sign (λ _. refl) $ gap $
    value_after d.type is.0.type d.value is.0.value $ overrides_closed more is.1

storage_free : all_words is_free (codes "storage" ∷ []) ≡ true
unfolding is_reserved
storage_free = refl

var_closed : (space : Space) → IsTrue (is_space space) → {qs : List Piece} → Closed qs →
    Closed (mark KeywordVar ∷ (space_pieces space ++ (Blank ∷ qs)))
var_closed NoSpace is b = sign (λ _. refl) $ gap b
var_closed (SpaceAlone a) is b =
    let w = table_word address_space_words a address_spaces_free is in
    sign (λ _. refl) $ angle (word_opens a w) $ free w (λ _. refl) $ sign (λ _. refl) $ gap b
var_closed (SpaceAndAccess a m) is b =
    let h = and_parts (bytes_eq (codes "storage") a) (stands_in access_words m) is in
    let w = table_word (codes "storage" ∷ []) a storage_free (ap (λ c. c || false) h.0) in
    sign (λ _. refl) $ angle (word_opens a w) $ free w (λ _. refl) $ sign (λ _. refl) $ gap $
    free (table_word access_words m accesses_free h.1) (λ _. refl) $ sign (λ _. refl) $ gap b

globals_closed : (list : List Global) → Each IsGlobal list → Closed (globals_pieces list)
globals_closed [] is = none
globals_closed (d ∷ more) is =
    global_attributes_closed d.attributes is.0.attributes then var_closed d.space is.0.space $
    free is.0.name.word (λ _. refl) $ sign (λ _. refl) $ gap $
    value_after d.type is.0.type d.value is.0.value $ globals_closed more is.1

pub program_closed : (p : Program) → IsProgram p → Closed (program_pieces p)
program_closed p is =
    enables_closed p.enables is.enables then group_end_closed p.enables then structs_closed p.structs is.structs then
    constants_closed p.constants is.constants then group_end_closed p.constants then
    overrides_closed p.overrides is.overrides then group_end_closed p.overrides then
    globals_closed p.globals is.globals then group_end_closed p.globals then
    functions_closed p.functions is.functions then entry_points_closed p.entry_points is.entry_points

-- The text of each row, from the texts of its parts.

pub enables_text : (w : List ℕ) (more : List (List ℕ)) → text (enables_pieces (w ∷ more)) ≡ codes "enable "
    ++ (w ++ (codes ";\n" ++ text (enables_pieces more)))
enables_text w more = refl

pub members_text : (m : StructMember) (more : List StructMember) →
    text (members_pieces (m ∷ more)) ≡ codes "    " ++
    (text (attributes_pieces m.attributes) ++
    (m.name ++ (codes ": " ++ (printed_type m.type ++ (codes ",\n" ++ text (members_pieces more))))))
members_text m more = simp text-append

pub structs_text : (d : Struct) (more : List Struct) →
    text (structs_pieces (d ∷ more)) ≡ codes "struct " ++
    (d.name ++ (codes " {\n" ++
    (text (members_pieces d.members) ++ (codes "}\n\n" ++ text (structs_pieces more)))))
structs_text d more = simp text-append

pub constants_text : (d : NamedConstant) (more : List NamedConstant) →
    text (constants_pieces (d ∷ more)) ≡ codes "const " ++
    (d.name ++ (codes ": " ++
    (printed_type d.type ++
    (codes " = " ++ (printed_expression d.value ++ (codes ";\n" ++ text (constants_pieces more)))))))
constants_text d more = simp text-append

pub overrides_text : (d : Override) (more : List Override) →
    text (overrides_pieces (d ∷ more)) ≡ text (attributes_pieces d.attributes) ++
    (codes "override " ++
    (d.name ++ (codes ": " ++
    (printed_type d.type ++ (text (value_pieces d.value) ++ text (overrides_pieces more))))))
overrides_text d more = simp text-append

pub globals_text : (d : Global) (more : List Global) →
    text (globals_pieces (d ∷ more)) ≡ text (global_attributes_pieces d.attributes) ++
    (codes "var" ++
    (text (space_pieces d.space) ++
    (codes " " ++
    (d.name ++ (codes ": " ++
    (printed_type d.type ++ (text (value_pieces d.value) ++ text (globals_pieces more))))))))
globals_text d more = simp text-append

pub program_text : (p : Program) → printed_program p ≡ text (enables_pieces p.enables) ++
    (text (group_end p.enables) ++
    (text (structs_pieces p.structs) ++
    (text (constants_pieces p.constants) ++
    (text (group_end p.constants) ++
    (text (overrides_pieces p.overrides) ++
    (text (group_end p.overrides) ++
    (text (globals_pieces p.globals) ++
    (text (group_end p.globals) ++
    (text (functions_pieces p.functions) ++ text (entry_points_pieces p.entry_points))))))))))
program_text p = simp text-append
