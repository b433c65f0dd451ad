-- Worked programs, and beside each its text.
use Rattle.std.specs.Prelude.{ℕ, true, false, List, [], ◌∷◌, codes, None, Some}
use Rattle.wgsl_text.specs.Token.{SuffixLi}
use Rattle.wgsl_text.specs.Literals.{Truth, Suffixed}
use Rattle.wgsl_text.specs.Expressions.{Add, Multiply, Negate, Constant, Binary, Unary, IndexAt}
use Rattle.wgsl_text.specs.Expressions.{AddressOf, Dereference, NoArguments, Argument, ZeroArgument}
use Rattle.wgsl_text.specs.Expressions.{operands}
use Rattle.wgsl_text.specs.Statements.{DefaultCase, SignedCase, LastCaseValue, MoreCaseValues}
use Rattle.wgsl_text.specs.Statements.{Assign}
use Rattle.wgsl_text.specs.Statements.{CallStatement, ReturnValue, Continue, If, LoopBreakIf}
use Rattle.wgsl_text.specs.Statements.{Switch, NoStatements, NoBlock, SomeBlock, NoCases, Case}
use Rattle.wgsl_text.specs.Attributes.{Vertex, Fragment, Compute, Location, Id, Group, Binding}
use Rattle.wgsl_text.specs.Attributes.{Size, Builtin, Interpolate, Plain, Numbered, WorkgroupSize, FixedSize}
use Rattle.wgsl_text.specs.Functions.{NoResult, ResultOf}
use Rattle.wgsl_text.specs.Declarations.{Program, no_declarations}
use Rattle.wgsl_text.specs.WorkedTrees.{IsText, lines, named_type, template_of, sized_template}
use Rattle.wgsl_text.specs.WorkedTrees.{name, names}
use Rattle.wgsl_text.specs.WorkedTrees.{integer, unsigned, call, member_of, let_statement}
use Rattle.wgsl_text.specs.WorkedTrees.{typed_let_statement}
use Rattle.wgsl_text.specs.WorkedTrees.{statements, parameter, attributed_parameter, gives, local}
use Rattle.wgsl_text.specs.WorkedTrees.{function, worded_attribute, member, struct, constant}
use Rattle.wgsl_text.specs.WorkedTrees.{override, space, workgroup_size, named_size}
use Rattle.wgsl_text.specs.WorkedTrees.{space_and_access, global, entry_point, of_functions}

abbrev pub identity : Program
identity = of_functions (
    function "f" (parameter "x" (named_type "i32") ∷ []) (gives "i32") [] (
    ReturnValue (name "x") ∷ []) ∷ [])

abbrev pub identity_text : List ℕ
identity_text = lines (
    "fn f(x: i32) -> i32 {" ∷
    "    return x;" ∷
    "}" ∷
    "" ∷ [])

abbrev pub negative : Program
negative = of_functions (
    function "r" (parameter "b" (named_type "bool") ∷ []) (gives "i64") [] (
    ReturnValue (Constant (Suffixed true 7 SuffixLi)) ∷ []) ∷ [])

abbrev pub negative_text : List ℕ
negative_text = lines (
    "fn r(b: bool) -> i64 {" ∷
    "    return -7li;" ∷
    "}" ∷
    "" ∷ [])

abbrev pub same_labels : Program
same_labels = of_functions (
    function "f" (parameter "x" (named_type "i32") ∷ parameter "x_1" (named_type "i32") ∷ [])
    (gives "i32") [] (
    ReturnValue (name "x_1") ∷ []) ∷ [])

abbrev pub same_labels_text : List ℕ
same_labels_text = lines (
    "fn f(x: i32, x_1: i32) -> i32 {" ∷
    "    return x_1;" ∷
    "}" ∷
    "" ∷ [])

abbrev pub type_label : Program
type_label = of_functions (
    function "type_1" (parameter "x" (named_type "i32") ∷ []) (gives "i32") [] (
    ReturnValue (name "x") ∷ []) ∷ [])

abbrev pub type_label_text : List ℕ
type_label_text = lines (
    "fn type_1(x: i32) -> i32 {" ∷
    "    return x;" ∷
    "}" ∷
    "" ∷ [])

abbrev pub hostile_labels : Program
hostile_labels = of_functions (
    function "gen__naga" (parameter "u00e9_" (named_type "i32") ∷ []) (gives "i32") [] (
    ReturnValue (name "u00e9_") ∷ []) ∷ [])

abbrev pub hostile_labels_text : List ℕ
hostile_labels_text = lines (
    "fn gen__naga(u00e9_: i32) -> i32 {" ∷
    "    return u00e9_;" ∷
    "}" ∷
    "" ∷ [])

abbrev pub store : Program
store = of_functions (
    function "g" [] (gives "i32") (local "a" (named_type "i32") (Some (integer 1)) ∷ []) (
    let_statement "_e2" (name "a") ∷
    Assign (name "a") (integer 2) ∷
    ReturnValue (name "_e2") ∷ []) ∷ [])

abbrev pub store_text : List ℕ
store_text = lines (
    "fn g() -> i32 {" ∷
    "    var a: i32 = 1i;" ∷
    "" ∷
    "    let _e2 = a;" ∷
    "    a = 2i;" ∷
    "    return _e2;" ∷
    "}" ∷
    "" ∷ [])

abbrev pub store_explicit : Program
store_explicit = of_functions (
    function "g" [] (gives "i32") (local "a" (named_type "i32") (Some (integer 1)) ∷ []) (
    typed_let_statement "_e2" (named_type "i32") (name "a") ∷
    Assign (name "a") (integer 2) ∷
    ReturnValue (name "_e2") ∷ []) ∷ [])

abbrev pub store_explicit_text : List ℕ
store_explicit_text = lines (
    "fn g() -> i32 {" ∷
    "    var a: i32 = 1i;" ∷
    "" ∷
    "    let _e2: i32 = a;" ∷
    "    a = 2i;" ∷
    "    return _e2;" ∷
    "}" ∷
    "" ∷ [])

abbrev pub unused_read : Program
unused_read = of_functions (
    function "g" [] (gives "i32") (local "a" (named_type "i32") (Some (integer 1)) ∷ []) (
    Assign (name "a") (integer 2) ∷
    ReturnValue (integer 2) ∷ []) ∷ [])

abbrev pub unused_read_text : List ℕ
unused_read_text = lines (
    "fn g() -> i32 {" ∷
    "    var a: i32 = 1i;" ∷
    "" ∷
    "    a = 2i;" ∷
    "    return 2i;" ∷
    "}" ∷
    "" ∷ [])

abbrev pub late_use : Program
late_use = of_functions (
    function "p" [] (gives "i32") (local "a" (named_type "i32") (Some (integer 1)) ∷ []) (
    let_statement "_e2" (name "a") ∷
    Assign (name "a") (integer 2) ∷
    ReturnValue (Binary (name "_e2") Add (integer 1)) ∷ []) ∷ [])

abbrev pub late_use_text : List ℕ
late_use_text = lines (
    "fn p() -> i32 {" ∷
    "    var a: i32 = 1i;" ∷
    "" ∷
    "    let _e2 = a;" ∷
    "    a = 2i;" ∷
    "    return (_e2 + 1i);" ∷
    "}" ∷
    "" ∷ [])

abbrev pub inlined_program : Program
inlined_program = of_functions (
    function "q" (parameter "x" (named_type "i32") ∷ []) (gives "i32")
    (local "a" (named_type "i32") None ∷ []) (
    Assign (name "a") (Binary (name "x") Add (name "x")) ∷
    let_statement "_e3" (name "a") ∷
    ReturnValue (name "_e3") ∷ []) ∷ [])

abbrev pub inlined_text : List ℕ
inlined_text = lines (
    "fn q(x: i32) -> i32 {" ∷
    "    var a: i32;" ∷
    "" ∷
    "    a = (x + x);" ∷
    "    let _e3 = a;" ∷
    "    return _e3;" ∷
    "}" ∷
    "" ∷ [])

abbrev pub used_twice : Program
used_twice = of_functions (
    function "q" (parameter "x" (named_type "i32") ∷ []) (gives "i32")
    (local "a" (named_type "i32") None ∷ []) (
    let_statement "_e2" (Binary (name "x") Add (name "x")) ∷
    Assign (name "a") (name "_e2") ∷
    let_statement "_e3" (name "a") ∷
    ReturnValue (Binary (name "_e2") Multiply (name "_e3")) ∷ []) ∷ [])

abbrev pub used_twice_text : List ℕ
used_twice_text = lines (
    "fn q(x: i32) -> i32 {" ∷
    "    var a: i32;" ∷
    "" ∷
    "    let _e2 = (x + x);" ∷
    "    a = _e2;" ∷
    "    let _e3 = a;" ∷
    "    return (_e2 * _e3);" ∷
    "}" ∷
    "" ∷ [])

abbrev pub select_call : Program
select_call = of_functions (
    function "sel" (parameter "c" (named_type "bool") ∷ parameter "a" (named_type "i32") ∷
    parameter "b" (named_type "i32") ∷ []) (gives "i32") [] (
    ReturnValue (call "select" (names ("b" ∷ "a" ∷ "c" ∷ []))) ∷ []) ∷ [])

abbrev pub select_call_text : List ℕ
select_call_text = lines (
    "fn sel(c: bool, a: i32, b: i32) -> i32 {" ∷
    "    return select(b, a, c);" ∷
    "}" ∷
    "" ∷ [])

abbrev pub named_expression : Program
named_expression = of_functions (
    function "e" (parameter "x" (named_type "i32") ∷ []) (gives "i32") [] (
    let_statement "x_1" (Binary (name "x") Add (name "x")) ∷
    ReturnValue (name "x_1") ∷ []) ∷ [])

abbrev pub named_expression_text : List ℕ
named_expression_text = lines (
    "fn e(x: i32) -> i32 {" ∷
    "    let x_1 = (x + x);" ∷
    "    return x_1;" ∷
    "}" ∷
    "" ∷ [])

abbrev pub idle_literal : Program
idle_literal = of_functions (
    function "u" [] (gives "i32") [] (
    ReturnValue (integer 1) ∷ []) ∷ [])

abbrev pub idle_literal_text : List ℕ
idle_literal_text = lines (
    "fn u() -> i32 {" ∷
    "    return 1i;" ∷
    "}" ∷
    "" ∷ [])

abbrev pub sample_at_zero : Program
sample_at_zero = of_functions (
    function "sp" (parameter "t" (template_of "texture_2d" ("f32" ∷ [])) ∷
    parameter "s" (named_type "sampler") ∷ parameter "p" (template_of "vec2" ("f32" ∷ [])) ∷ [])
    (ResultOf [] (template_of "vec4" ("f32" ∷ []))) [] (
    let_statement "_e3" (call "textureSampleLevel"
    (Argument (name "t") (Argument (name "s") (Argument (name "p")
    (ZeroArgument false NoArguments))))) ∷
    ReturnValue (name "_e3") ∷ []) ∷ [])

abbrev pub sample_at_zero_text : List ℕ
sample_at_zero_text = lines (
    "fn sp(t: texture_2d<f32>, s: sampler, p: vec2<f32>) -> vec4<f32> {" ∷
    "    let _e3 = textureSampleLevel(t, s, p, 0.0);" ∷
    "    return _e3;" ∷
    "}" ∷
    "" ∷ [])

abbrev pub pointer : Program
pointer = of_functions (
    function "h" [] NoResult (local "arr" (sized_template "array" (named_type "i32") 4) None ∷ []) (
    let_statement "p" (AddressOf (IndexAt (name "arr") 0)) ∷
    Assign (Dereference (name "p")) (integer 2) ∷ []) ∷ [])

abbrev pub pointer_text : List ℕ
pointer_text = lines (
    "fn h() {" ∷
    "    var arr: array<i32, 4>;" ∷
    "" ∷
    "    let p = (&arr[0]);" ∷
    "    (*p) = 2i;" ∷
    "}" ∷
    "" ∷ [])

abbrev pub negate : Program
negate = of_functions (
    function "neg" (parameter "v" (template_of "vec3" ("i32" ∷ [])) ∷ []) (gives "i32") [] (
    ReturnValue (member_of (Unary Negate (name "v")) "x") ∷ []) ∷ [])

abbrev pub negate_text : List ℕ
negate_text = lines (
    "fn neg(v: vec3<i32>) -> i32 {" ∷
    "    return (-(v)).x;" ∷
    "}" ∷
    "" ∷ [])

abbrev pub modf_members : Program
modf_members = of_functions (
    function "m" (parameter "x" (named_type "f32") ∷ []) (gives "f32") [] (
    let_statement "_e1" (call "modf" (names ("x" ∷ []))) ∷
    ReturnValue
    (Binary (member_of (name "_e1") "fract") Add (member_of (name "_e1") "whole")) ∷ []) ∷ [])

abbrev pub modf_members_text : List ℕ
modf_members_text = lines (
    "fn m(x: f32) -> f32 {" ∷
    "    let _e1 = modf(x);" ∷
    "    return (_e1.fract + _e1.whole);" ∷
    "}" ∷
    "" ∷ [])

abbrev pub siblings : Program
siblings = of_functions (
    function "k" (parameter "c" (named_type "bool") ∷ parameter "x" (named_type "i32") ∷ [])
    (gives "i32") [] (
    If (name "c") (statements (
    let_statement "_e2" (Binary (name "x") Add (name "x")) ∷
    ReturnValue (name "_e2") ∷ [])) (SomeBlock (statements (
    let_statement "_e2" (Binary (name "x") Add (name "x")) ∷
    ReturnValue (name "_e2") ∷ []))) ∷ []) ∷ [])

abbrev pub siblings_text : List ℕ
siblings_text = lines (
    "fn k(c: bool, x: i32) -> i32 {" ∷
    "    if c {" ∷
    "        let _e2 = (x + x);" ∷
    "        return _e2;" ∷
    "    } else {" ∷
    "        let _e2 = (x + x);" ∷
    "        return _e2;" ∷
    "    }" ∷
    "}" ∷
    "" ∷ [])

abbrev pub named_siblings : Program
named_siblings = of_functions (
    function "k" (parameter "c" (named_type "bool") ∷ parameter "x" (named_type "i32") ∷ [])
    (gives "i32") [] (
    If (name "c") (statements (
    let_statement "y" (Binary (name "x") Add (name "x")) ∷
    ReturnValue (name "y") ∷ [])) (SomeBlock (statements (
    let_statement "y_1" (Binary (name "x") Add (name "x")) ∷
    ReturnValue (name "y_1") ∷ []))) ∷ []) ∷ [])

abbrev pub named_siblings_text : List ℕ
named_siblings_text = lines (
    "fn k(c: bool, x: i32) -> i32 {" ∷
    "    if c {" ∷
    "        let y = (x + x);" ∷
    "        return y;" ∷
    "    } else {" ∷
    "        let y_1 = (x + x);" ∷
    "        return y_1;" ∷
    "    }" ∷
    "}" ∷
    "" ∷ [])

abbrev pub switch_joined : Program
switch_joined = of_functions (
    function "s" (parameter "x" (named_type "i32") ∷ []) NoResult [] (
    Switch (name "x") (Case (MoreCaseValues (SignedCase false 1)
    (MoreCaseValues (SignedCase false 2) (LastCaseValue DefaultCase))) NoStatements NoCases) ∷ [])
    ∷ [])

abbrev pub switch_joined_text : List ℕ
switch_joined_text = lines (
    "fn s(x: i32) {" ∷
    "    switch x {" ∷
    "        case 1, 2, default: {" ∷
    "        }" ∷
    "    }" ∷
    "}" ∷
    "" ∷ [])

abbrev pub switch_default_first : Program
switch_default_first = of_functions (
    function "dflt" (parameter "x" (named_type "i32") ∷ []) NoResult [] (
    Switch (name "x")
    (Case (MoreCaseValues DefaultCase (LastCaseValue (SignedCase false 3))) NoStatements
    NoCases) ∷ []) ∷ [])

abbrev pub switch_default_first_text : List ℕ
switch_default_first_text = lines (
    "fn dflt(x: i32) {" ∷
    "    switch x {" ∷
    "        case default, 3: {" ∷
    "        }" ∷
    "    }" ∷
    "}" ∷
    "" ∷ [])

abbrev pub loop_break_if : Program
loop_break_if = of_functions (
    function "l" (parameter "c" (named_type "bool") ∷ []) NoResult [] (
    LoopBreakIf NoStatements NoStatements (name "c") ∷ []) ∷ [])

abbrev pub loop_break_if_text : List ℕ
loop_break_if_text = lines (
    "fn l(c: bool) {" ∷
    "    loop {" ∷
    "        continuing {" ∷
    "            break if c;" ∷
    "        }" ∷
    "    }" ∷
    "}" ∷
    "" ∷ [])

abbrev pub loop_tail : Program
loop_tail = of_functions (
    function "lp" (parameter "x" (named_type "i32") ∷ []) NoResult
    (local "a" (named_type "i32") None ∷ []) (
    LoopBreakIf (statements (
    let_statement "_e2" (Binary (name "x") Add (name "x")) ∷
    Assign (name "a") (name "_e2") ∷ [])) (statements (
    Assign (name "a") (name "_e2") ∷ [])) (Constant (Truth true)) ∷ []) ∷ [])

abbrev pub loop_tail_text : List ℕ
loop_tail_text = lines (
    "fn lp(x: i32) {" ∷
    "    var a: i32;" ∷
    "" ∷
    "    loop {" ∷
    "        let _e2 = (x + x);" ∷
    "        a = _e2;" ∷
    "        continuing {" ∷
    "            a = _e2;" ∷
    "            break if true;" ∷
    "        }" ∷
    "    }" ∷
    "}" ∷
    "" ∷ [])

abbrev pub loop_folded : Program
loop_folded = of_functions (
    function "cf" (parameter "c" (named_type "bool") ∷ []) NoResult
    (local "a" (named_type "i32") None ∷ []) (
    LoopBreakIf (statements (
    If (name "c") (statements (
    Continue ∷ [])) NoBlock ∷
    let_statement "_e3" (Binary (integer 1) Add (integer 1)) ∷
    Assign (name "a") (name "_e3") ∷ [])) (statements (
    Assign (name "a") (Binary (integer 1) Add (integer 1)) ∷ [])) (name "c") ∷ []) ∷ [])

abbrev pub loop_folded_text : List ℕ
loop_folded_text = lines (
    "fn cf(c: bool) {" ∷
    "    var a: i32;" ∷
    "" ∷
    "    loop {" ∷
    "        if c {" ∷
    "            continue;" ∷
    "        }" ∷
    "        let _e3 = (1i + 1i);" ∷
    "        a = _e3;" ∷
    "        continuing {" ∷
    "            a = (1i + 1i);" ∷
    "            break if c;" ∷
    "        }" ∷
    "    }" ∷
    "}" ∷
    "" ∷ [])

abbrev pub barriers : Program
barriers = of_functions (
    function "b" [] NoResult [] (
    CallStatement (named_type "storageBarrier") NoArguments ∷
    CallStatement (named_type "workgroupBarrier") NoArguments ∷
    CallStatement (named_type "subgroupBarrier") NoArguments ∷
    CallStatement (named_type "textureBarrier") NoArguments ∷ []) ∷ [])

abbrev pub barriers_text : List ℕ
barriers_text = lines (
    "fn b() {" ∷
    "    storageBarrier();" ∷
    "    workgroupBarrier();" ∷
    "    subgroupBarrier();" ∷
    "    textureBarrier();" ∷
    "}" ∷
    "" ∷ [])

abbrev pub call_of_function : Program
call_of_function = of_functions (
    function "inc" (parameter "p" (template_of "ptr" ("function" ∷ "i32" ∷ [])) ∷ []) NoResult [] (
    let_statement "_e2" (Dereference (name "p")) ∷
    Assign (Dereference (name "p")) (Binary (name "_e2") Add (integer 1)) ∷ []) ∷
    function "run" [] (gives "i32") (local "a" (named_type "i32") None ∷ []) (
    CallStatement (named_type "inc") (operands (AddressOf (name "a") ∷ [])) ∷
    let_statement "_e1" (name "a") ∷
    ReturnValue (name "_e1") ∷ []) ∷ [])

abbrev pub call_of_function_text : List ℕ
call_of_function_text = lines (
    "fn inc(p: ptr<function, i32>) {" ∷
    "    let _e2 = (*p);" ∷
    "    (*p) = (_e2 + 1i);" ∷
    "}" ∷
    "" ∷
    "fn run() -> i32 {" ∷
    "    var a: i32;" ∷
    "" ∷
    "    inc((&a));" ∷
    "    let _e1 = a;" ∷
    "    return _e1;" ∷
    "}" ∷
    "" ∷ [])

abbrev pub compute : Program
compute = record no_declarations {
  entry_points =
      entry_point (Plain Compute ∷ workgroup_size 64 1 1 ∷ [])
      (function "main" [] NoResult [] []) ∷ [];
}

abbrev pub compute_text : List ℕ
compute_text = lines (
    "@compute @workgroup_size(64, 1, 1) " ∷
    "fn main() {" ∷
    "}" ∷ [])

abbrev pub compute_of_overrides : Program
compute_of_overrides = record no_declarations {
  overrides =
      override [] "W" (named_type "u32") None ∷
      override (Numbered Id 7 ∷ []) "H" (named_type "i32") None ∷ [];
  entry_points =
      entry_point
      (Plain Compute ∷ WorkgroupSize (named_size "W") (FixedSize 4) (named_size "H") ∷ [])
      (function "main" [] NoResult [] []) ∷ [];
}

abbrev pub compute_of_overrides_text : List ℕ
compute_of_overrides_text = lines (
    "override W: u32;" ∷
    "@id(7) override H: i32;" ∷
    "" ∷
    "@compute @workgroup_size(W, 4, H) " ∷
    "fn main() {" ∷
    "}" ∷ [])

abbrev pub struct_names : Program
struct_names = record no_declarations {
  structs =
      struct "S" (
      member [] "fract" (named_type "i32") ∷
      member [] "fn_" (named_type "i32") ∷ []) ∷ [];
}

abbrev pub struct_names_text : List ℕ
struct_names_text = lines (
    "struct S {" ∷
    "    fract: i32," ∷
    "    fn_: i32," ∷
    "}" ∷
    "" ∷ [])

abbrev pub override_with_id : Program
override_with_id = record no_declarations {
  overrides = override (Numbered Id 3 ∷ []) "override_type" (named_type "u32") None ∷ [];
}

abbrev pub override_with_id_text : List ℕ
override_with_id_text = lines (
    "@id(3) override override_type: u32;" ∷
    "" ∷ [])

abbrev pub global_buffer : Program
global_buffer = record no_declarations {
  globals =
      global (Numbered Group 0 ∷ Numbered Binding 1 ∷ []) (space_and_access "storage" "read_write")
      "buf" (template_of "array" ("u32" ∷ [])) None ∷ [];
}

abbrev pub global_buffer_text : List ℕ
global_buffer_text = lines (
    "@group(0) @binding(1) " ∷
    "var<storage, read_write> buf: array<u32>;" ∷
    "" ∷ [])

abbrev pub vertex_output : Program
vertex_output = record no_declarations {
  structs =
      struct "VertexOutput" (
      member (worded_attribute Builtin "position" ∷ []) "pos" (template_of "vec4" ("f32" ∷ [])) ∷
      []) ∷ [];
  entry_points =
      entry_point (Plain Vertex ∷ []) (function "main" [] (gives "VertexOutput") [] (
      ReturnValue (call "VertexOutput" NoArguments) ∷ [])) ∷ [];
}

abbrev pub vertex_output_text : List ℕ
vertex_output_text = lines (
    "struct VertexOutput {" ∷
    "    @builtin(position) pos: vec4<f32>," ∷
    "}" ∷
    "" ∷
    "@vertex " ∷
    "fn main() -> VertexOutput {" ∷
    "    return VertexOutput();" ∷
    "}" ∷ [])

abbrev pub enable_f16 : Program
enable_f16 = record no_declarations {
  enables = codes "f16" ∷ [];
}

abbrev pub enable_f16_text : List ℕ
enable_f16_text = lines (
    "enable f16;" ∷
    "" ∷ [])

abbrev pub named_constant : Program
named_constant = record no_declarations {
  constants = constant "N" (named_type "i32") (integer 7) ∷ [];
}

abbrev pub named_constant_text : List ℕ
named_constant_text = lines (
    "const N: i32 = 7i;" ∷
    "" ∷ [])

abbrev pub flat_input : Program
flat_input = record no_declarations {
  entry_points =
      entry_point (Plain Fragment ∷ [])
      (function "main"
      (attributed_parameter (Numbered Location 0 ∷ worded_attribute Interpolate "flat" ∷ []) "i"
      (named_type "u32") ∷ []) NoResult [] []) ∷ [];
}

abbrev pub flat_input_text : List ℕ
flat_input_text = lines (
    "@fragment " ∷
    "fn main(@location(0) @interpolate(flat) i: u32) {" ∷
    "}" ∷ [])

abbrev pub atomic_add : Program
atomic_add = record no_declarations {
  globals = global [] (space "workgroup") "c" (template_of "atomic" ("u32" ∷ [])) None ∷ [];
  entry_points =
      entry_point (Plain Compute ∷ workgroup_size 1 1 1 ∷ []) (function "main" [] NoResult [] (
      let_statement "_e2"
      (call "atomicAdd" (operands (AddressOf (name "c") ∷ unsigned 1 ∷ []))) ∷ [])) ∷ [];
}

abbrev pub atomic_add_text : List ℕ
atomic_add_text = lines (
    "var<workgroup> c: atomic<u32>;" ∷
    "" ∷
    "@compute @workgroup_size(1, 1, 1) " ∷
    "fn main() {" ∷
    "    let _e2 = atomicAdd((&c), 1u);" ∷
    "}" ∷ [])

abbrev pub natural_offsets : Program
natural_offsets = record no_declarations {
  structs =
      struct "P" (
      member [] "a" (named_type "f32") ∷
      member [] "b" (template_of "vec3" ("f32" ∷ [])) ∷
      member [] "c" (named_type "f32") ∷ []) ∷ [];
}

abbrev pub natural_offsets_text : List ℕ
natural_offsets_text = lines (
    "struct P {" ∷
    "    a: f32," ∷
    "    b: vec3<f32>," ∷
    "    c: f32," ∷
    "}" ∷
    "" ∷ [])

abbrev pub gap_by_size : Program
gap_by_size = record no_declarations {
  structs =
      struct "Q" (
      member (Numbered Size 16 ∷ []) "a" (named_type "u32") ∷
      member [] "b" (named_type "u32") ∷ []) ∷ [];
}

abbrev pub gap_by_size_text : List ℕ
gap_by_size_text = lines (
    "struct Q {" ∷
    "    @size(16) a: u32," ∷
    "    b: u32," ∷
    "}" ∷
    "" ∷ [])

abbrev pub stride_by_size : Program
stride_by_size = record no_declarations {
  structs =
      struct "I" (
      member (Numbered Size 16 ∷ []) "a" (named_type "u32") ∷ []) ∷
      struct "O" (
      member [] "v" (sized_template "array" (named_type "I") 2) ∷ []) ∷ [];
}

abbrev pub stride_by_size_text : List ℕ
stride_by_size_text = lines (
    "struct I {" ∷
    "    @size(16) a: u32," ∷
    "}" ∷
    "" ∷
    "struct O {" ∷
    "    v: array<I, 2>," ∷
    "}" ∷
    "" ∷ [])

-- each program has its text
pub record WorkedPrograms : Type 0 where
  pub empty : IsText no_declarations []
  pub identity : IsText identity identity_text
  pub negative : IsText negative negative_text
  pub same_labels : IsText same_labels same_labels_text
  pub type_label : IsText type_label type_label_text
  pub hostile_labels : IsText hostile_labels hostile_labels_text
  pub store : IsText store store_text
  pub store_explicit : IsText store_explicit store_explicit_text
  pub unused_read : IsText unused_read unused_read_text
  pub late_use : IsText late_use late_use_text
  pub inlined : IsText inlined_program inlined_text
  pub used_twice : IsText used_twice used_twice_text
  pub select_call : IsText select_call select_call_text
  pub named_expression : IsText named_expression named_expression_text
  pub idle_literal : IsText idle_literal idle_literal_text
  pub sample_at_zero : IsText sample_at_zero sample_at_zero_text
  pub pointer : IsText pointer pointer_text
  pub negate : IsText negate negate_text
  pub modf_members : IsText modf_members modf_members_text
  pub siblings : IsText siblings siblings_text
  pub named_siblings : IsText named_siblings named_siblings_text
  pub switch_joined : IsText switch_joined switch_joined_text
  pub switch_default_first : IsText switch_default_first switch_default_first_text
  pub loop_break_if : IsText loop_break_if loop_break_if_text
  pub loop_tail : IsText loop_tail loop_tail_text
  pub loop_folded : IsText loop_folded loop_folded_text
  pub barriers : IsText barriers barriers_text
  pub call_of_function : IsText call_of_function call_of_function_text
  pub compute : IsText compute compute_text
  pub compute_of_overrides : IsText compute_of_overrides compute_of_overrides_text
  pub struct_names : IsText struct_names struct_names_text
  pub override_with_id : IsText override_with_id override_with_id_text
  pub global_buffer : IsText global_buffer global_buffer_text
  pub vertex_output : IsText vertex_output vertex_output_text
  pub enable_f16 : IsText enable_f16 enable_f16_text
  pub named_constant : IsText named_constant named_constant_text
  pub flat_input : IsText flat_input flat_input_text
  pub atomic_add : IsText atomic_add atomic_add_text
  pub natural_offsets : IsText natural_offsets natural_offsets_text
  pub gap_by_size : IsText gap_by_size gap_by_size_text
  pub stride_by_size : IsText stride_by_size stride_by_size_text
