-- A tree for each row of the grammar, and beside it its text.
--
-- Throughout, t is a type, and e an expression.
use Prim.Native.String.{String}
use Rattle.std.specs.Prelude.{◌≡◌, ℕ, true, false, List, [], ◌∷◌, codes, None, Some}
use Rattle.wgsl_text.specs.Token.{SuffixI, SuffixLi, SuffixLu, NoPower, PowerOf, Half, Single}
use Rattle.wgsl_text.specs.Token.{Double}
use Rattle.wgsl_text.specs.Literals.{Truth, Suffixed, SignedShort, UnsignedShort, LeastInteger}
use Rattle.wgsl_text.specs.Literals.{LeastLong, Floating}
use Rattle.wgsl_text.specs.Types.{TypeSpecifier, IsType}
use Rattle.wgsl_text.specs.Expressions.{Add, Subtract, Multiply, Divide, Modulo, Equal, NotEqual}
use Rattle.wgsl_text.specs.Expressions.{Less, LessEqual, Greater, GreaterEqual, And, ExclusiveOr}
use Rattle.wgsl_text.specs.Expressions.{InclusiveOr, LogicalAnd, LogicalOr, ShiftLeft, ShiftRight}
use Rattle.wgsl_text.specs.Expressions.{Negate, LogicalNot, BitwiseNot, Expression, Constant}
use Rattle.wgsl_text.specs.Expressions.{Binary, Unary, Call, Index, IndexAt, AddressOf, Dereference}
use Rattle.wgsl_text.specs.Expressions.{NoArguments, Argument, NumberArgument, ZeroArgument}
use Rattle.wgsl_text.specs.Expressions.{operands, IsExpression}
use Rattle.wgsl_text.specs.Statements.{DefaultCase, SignedCase, UnsignedCase, LastCaseValue}
use Rattle.wgsl_text.specs.Statements.{MoreCaseValues, Assign, CallStatement, Return, ReturnValue}
use Rattle.wgsl_text.specs.Statements.{Discard, Break, If, Loop, Switch, Block, NoStatements}
use Rattle.wgsl_text.specs.Statements.{NoBlock, SomeBlock, NoCases, Case}
use Rattle.wgsl_text.specs.Attributes.{Invariant, PerPrimitive, Coherent, Volatile, Vertex}
use Rattle.wgsl_text.specs.Attributes.{Fragment, Task, RayGeneration, AnyHit, ClosestHit, Miss}
use Rattle.wgsl_text.specs.Attributes.{Location, BlendSource, Id, Group, Binding, Size, Align}
use Rattle.wgsl_text.specs.Attributes.{Builtin, Interpolate, Mesh, Payload, IncomingPayload, Plain}
use Rattle.wgsl_text.specs.Attributes.{Numbered}
use Rattle.wgsl_text.specs.Functions.{NoResult, ResultOf}
use Rattle.wgsl_text.specs.Declarations.{NoSpace, Program, no_declarations}
use Rattle.wgsl_text.specs.Reading.{printed_type, printed_expression}
use Rattle.wgsl_text.specs.WorkedTrees.{lines, names, template_of, named_type, template}
use Rattle.wgsl_text.specs.WorkedTrees.{sized_template}
use Rattle.wgsl_text.specs.WorkedTrees.{member_of, let_statement, typed_let_statement}
use Rattle.wgsl_text.specs.WorkedTrees.{attributed_parameter, worded_attribute}
use Rattle.wgsl_text.specs.WorkedTrees.{interpolated_attribute, member, struct, constant, override}
use Rattle.wgsl_text.specs.WorkedTrees.{space, workgroup_size}
use Rattle.wgsl_text.specs.WorkedTrees.{global, entry_point, name, integer, unsigned, call}
use Rattle.wgsl_text.specs.WorkedTrees.{statements, parameter, local, function, of_functions}
use Rattle.wgsl_text.specs.WorkedTrees.{IsText}

-- The tree is a type, and it is printed so.
pub record IsTypeText (t : TypeSpecifier) (spelling : String) : Type 0 where
  pub form : IsType t
  pub text : printed_type t ≡ codes spelling

-- the same of an expression
pub record IsExpressionText (e : Expression) (spelling : String) : Type 0 where
  pub form : IsExpression e
  pub text : printed_expression e ≡ codes spelling

-- each row of types
pub record TypeRows : Type 0 where
  pub scalar : IsTypeText (named_type "i16") "i16"
  pub vector : IsTypeText (template_of "vec4" ("u32" ∷ [])) "vec4<u32>"
  pub matrix : IsTypeText (template_of "mat3x2" ("f32" ∷ [])) "mat3x2<f32>"
  pub atomic : IsTypeText (template_of "atomic" ("i64" ∷ [])) "atomic<i64>"
  pub array_of_number : IsTypeText (sized_template "array" (named_type "i32") 4) "array<i32, 4>"
  pub array_of_override : IsTypeText (template_of "array" ("i32" ∷ "N" ∷ [])) "array<i32, N>"
  pub dynamic_array : IsTypeText (template_of "array" ("u32" ∷ [])) "array<u32>"
  pub binding_array_of_number :
      IsTypeText (sized_template "binding_array" (named_type "sampler") 8)
      "binding_array<sampler, 8>"
  pub binding_array_of_override :
      IsTypeText (template_of "binding_array" ("S" ∷ "N" ∷ [])) "binding_array<S, N>"
  pub dynamic_binding_array : IsTypeText
      (template "binding_array" (template_of "texture_2d" ("f32" ∷ []) ∷ []))
      "binding_array<texture_2d<f32>>"
  pub pointer : IsTypeText (template_of "ptr" ("function" ∷ "S" ∷ [])) "ptr<function, S>"
  pub pointer_with_access : IsTypeText (template_of "ptr" ("storage" ∷ "i32" ∷ "read_write" ∷ []))
      "ptr<storage, i32, read_write>"
  pub pointer_to_array : IsTypeText
      (template "ptr" (named_type "storage" ∷ template_of "array" ("u32" ∷ []) ∷ []))
      "ptr<storage, array<u32>>"
  pub value_pointer_to_vector : IsTypeText
      (template "ptr" (named_type "function" ∷ template_of "vec3" ("i32" ∷ []) ∷ []))
      "ptr<function, vec3<i32>>"
  pub value_pointer_to_scalar :
      IsTypeText (template_of "ptr" ("storage" ∷ "u32" ∷ "atomic" ∷ [])) "ptr<storage, u32, atomic>"
  pub struct_name : IsTypeText (named_type "VertexOutput") "VertexOutput"
  pub sampler : IsTypeText (named_type "sampler") "sampler"
  pub comparison_sampler : IsTypeText (named_type "sampler_comparison") "sampler_comparison"
  pub sampled_image : IsTypeText (template_of "texture_2d" ("f32" ∷ [])) "texture_2d<f32>"
  pub multisampled_image : IsTypeText (template_of "texture_multisampled_2d_array" ("i32" ∷ []))
      "texture_multisampled_2d_array<i32>"
  pub depth_image : IsTypeText (named_type "texture_depth_cube_array") "texture_depth_cube_array"
  pub multisampled_depth_image :
      IsTypeText (named_type "texture_depth_multisampled_2d") "texture_depth_multisampled_2d"
  pub storage_image : IsTypeText (template_of "texture_storage_2d" ("rgba8unorm" ∷ "write" ∷ []))
      "texture_storage_2d<rgba8unorm,write>"
  pub storage_image_array : IsTypeText
      (template_of "texture_storage_1d_array" ("r64uint" ∷ "atomic" ∷ []))
      "texture_storage_1d_array<r64uint,atomic>"
  pub external_image : IsTypeText (named_type "texture_external") "texture_external"
  pub acceleration_structure : IsTypeText (named_type "acceleration_structure")
      "acceleration_structure"
  pub acceleration_structure_with_vertices : IsTypeText
      (template_of "acceleration_structure" ("vertex_return" ∷ []))
      "acceleration_structure<vertex_return>"
  pub ray_query : IsTypeText (named_type "ray_query") "ray_query"
  pub ray_query_with_vertices :
      IsTypeText (template_of "ray_query" ("vertex_return" ∷ [])) "ray_query<vertex_return>"
  pub cooperative_matrix :
      IsTypeText (template_of "coop_mat8x16" ("f32" ∷ "A" ∷ [])) "coop_mat8x16<f32,A>"

-- each row of literals, names, operators and constructors
pub record OperatorRows : Type 0 where
  pub truth : IsExpressionText (Constant (Truth true)) "true"
  pub falsehood : IsExpressionText (Constant (Truth false)) "false"
  pub signed_integer : IsExpressionText (integer 5) "5i"
  pub negative_integer : IsExpressionText (Constant (Suffixed true 5 SuffixI)) "-5i"
  pub unsigned_integer : IsExpressionText (unsigned 5) "5u"
  pub signed_long : IsExpressionText (Constant (Suffixed false 5 SuffixLi)) "5li"
  pub unsigned_long : IsExpressionText (Constant (Suffixed false 5 SuffixLu)) "5lu"
  pub signed_short : IsExpressionText (Constant (SignedShort true 5)) "i16(-5)"
  pub unsigned_short : IsExpressionText (Constant (UnsignedShort 5)) "u16(5)"
  pub single : IsExpressionText (Constant (Floating false (codes "0") (codes "5") Single)) "0.5f"
  pub half : IsExpressionText (Constant (Floating true (codes "120") [] Half)) "-120h"
  pub double :
      IsExpressionText (Constant (Floating false (codes "1") (codes "0") (Double NoPower))) "1.0lf"
  pub great_double :
      IsExpressionText
      (Constant (Floating false (codes "1") [] (Double (PowerOf false (codes "16")))))
      "1e16lf"
  pub small_double :
      IsExpressionText
      (Constant (Floating true (codes "1") (codes "5") (Double (PowerOf true (codes "5")))))
      "-1.5e-5lf"
  pub least_integer : IsExpressionText (Constant LeastInteger) "i32(-2147483648)"
  pub least_long : IsExpressionText (Constant LeastLong) "i64(-9223372036854775807 - 1)"
  pub inlined_constant : IsExpressionText (integer 7) "7i"
  pub variable : IsExpressionText (name "override_type") "override_type"
  pub zero_value :
      IsExpressionText (Call (sized_template "array" (named_type "i32") 4) NoArguments)
      "array<i32, 4>()"
  pub composed : IsExpressionText (Call (template_of "vec2" ("f32" ∷ [])) (names ("x" ∷ "y" ∷ [])))
      "vec2<f32>(x, y)"
  pub composed_struct : IsExpressionText (call "S" (names ("a" ∷ "b" ∷ []))) "S(a, b)"
  pub splat : IsExpressionText (call "vec3" (names ("x" ∷ []))) "vec3(x)"
  pub add : IsExpressionText (Binary (name "a") Add (name "b")) "(a + b)"
  pub subtract : IsExpressionText (Binary (name "a") Subtract (name "b")) "(a - b)"
  pub multiply : IsExpressionText (Binary (name "a") Multiply (name "b")) "(a * b)"
  pub divide : IsExpressionText (Binary (name "a") Divide (name "b")) "(a / b)"
  pub modulo : IsExpressionText (Binary (name "a") Modulo (name "b")) "(a % b)"
  pub equal : IsExpressionText (Binary (name "a") Equal (name "b")) "(a == b)"
  pub not_equal : IsExpressionText (Binary (name "a") NotEqual (name "b")) "(a != b)"
  pub less : IsExpressionText (Binary (name "a") Less (name "b")) "(a < b)"
  pub less_equal : IsExpressionText (Binary (name "a") LessEqual (name "b")) "(a <= b)"
  pub greater : IsExpressionText (Binary (name "a") Greater (name "b")) "(a > b)"
  pub greater_equal : IsExpressionText (Binary (name "a") GreaterEqual (name "b")) "(a >= b)"
  pub bitwise_and : IsExpressionText (Binary (name "a") And (name "b")) "(a & b)"
  pub exclusive_or : IsExpressionText (Binary (name "a") ExclusiveOr (name "b")) "(a ^ b)"
  pub inclusive_or : IsExpressionText (Binary (name "a") InclusiveOr (name "b")) "(a | b)"
  pub logical_and : IsExpressionText (Binary (name "a") LogicalAnd (name "b")) "(a && b)"
  pub logical_or : IsExpressionText (Binary (name "a") LogicalOr (name "b")) "(a || b)"
  pub shift_left : IsExpressionText (Binary (name "a") ShiftLeft (name "b")) "(a << b)"
  pub shift_right : IsExpressionText (Binary (name "a") ShiftRight (name "b")) "(a >> b)"
  pub negation : IsExpressionText (Unary Negate (name "a")) "-(a)"
  pub logical_not : IsExpressionText (Unary LogicalNot (name "a")) "!(a)"
  pub bitwise_not : IsExpressionText (Unary BitwiseNot (name "a")) "~(a)"
  pub selection : IsExpressionText (call "select" (names ("b" ∷ "a" ∷ "c" ∷ []))) "select(b, a, c)"

-- each row of accesses and built-in functions
pub record AccessRows : Type 0 where
  pub access : IsExpressionText (Index (name "t") (name "x")) "t[x]"
  pub access_of_unary : IsExpressionText (Index (Unary Negate (name "v")) (name "i")) "(-(v))[i]"
  pub component : IsExpressionText (member_of (name "v") "x") "v.x"
  pub member : IsExpressionText (member_of (name "s") "fract") "s.fract"
  pub access_at_number : IsExpressionText (IndexAt (name "m") 3) "m[3]"
  pub access_of_reference : IsExpressionText (AddressOf (IndexAt (name "arr") 0)) "(&arr[0])"
  pub access_through_pointer : IsExpressionText
      (IndexAt (member_of (Index (Dereference (name "p")) (name "i")) "color") 2) "(*p)[i].color[2]"
  pub swizzle : IsExpressionText (member_of (name "v") "zyx") "v.zyx"
  pub swizzle_of_unary : IsExpressionText (member_of (Unary Negate (name "v")) "zyx") "(-(v)).zyx"
  pub math : IsExpressionText (call "clamp" (names ("x" ∷ "y" ∷ "z" ∷ []))) "clamp(x, y, z)"
  pub relational : IsExpressionText (call "all" (names ("b" ∷ []))) "all(b)"
  pub some_of : IsExpressionText (call "any" (names ("b" ∷ []))) "any(b)"
  pub conversion : IsExpressionText (call "u32" (names ("x" ∷ []))) "u32(x)"
  pub vector_conversion :
      IsExpressionText (Call (template_of "vec2" ("u32" ∷ [])) (names ("v" ∷ []))) "vec2<u32>(v)"
  pub bits : IsExpressionText (Call (template_of "bitcast" ("u32" ∷ [])) (names ("x" ∷ [])))
      "bitcast<u32>(x)"
  pub vector_bits : IsExpressionText
      (Call (template "bitcast" (template_of "vec2" ("u32" ∷ []) ∷ [])) (names ("v" ∷ [])))
      "bitcast<vec2<u32>>(v)"
  pub matrix_conversion : IsExpressionText
      (Call (template_of "mat2x2" ("f32" ∷ [])) (names ("m" ∷ []))) "mat2x2<f32>(m)"
  pub load : IsExpressionText (Dereference (name "p")) "(*p)"
  pub atomic_load :
      IsExpressionText (call "atomicLoad" (operands (AddressOf (name "c") ∷ []))) "atomicLoad((&c))"
  pub array_length : IsExpressionText (call "arrayLength" (operands (AddressOf (name "buf") ∷ [])))
      "arrayLength((&buf))"
  pub derivative : IsExpressionText (call "dpdx" (names ("x" ∷ []))) "dpdx(x)"
  pub coarse_derivative : IsExpressionText (call "dpdyCoarse" (names ("x" ∷ []))) "dpdyCoarse(x)"
  pub fine_derivative : IsExpressionText (call "fwidthFine" (names ("x" ∷ []))) "fwidthFine(x)"
  pub sample : IsExpressionText (call "textureSample" (names ("t" ∷ "s" ∷ "p" ∷ [])))
      "textureSample(t, s, p)"
  pub sample_of_array : IsExpressionText (call "textureSample"
      (operands (name "t" ∷ name "s" ∷ name "p" ∷ name "i" ∷ Call (template_of "vec2" ("i32" ∷ []))
      (operands (integer 1 ∷ integer 2 ∷ [])) ∷ []))) "textureSample(t, s, p, i, vec2<i32>(1i, 2i))"
  pub sample_at_level : IsExpressionText
      (call "textureSampleLevel" (names ("t" ∷ "s" ∷ "p" ∷ "l" ∷ [])))
      "textureSampleLevel(t, s, p, l)"
  pub sample_at_zero : IsExpressionText
      (call "textureSampleLevel" (Argument (name "t") (Argument (name "s") (Argument (name "p")
      (Argument (name "i") (ZeroArgument false (Argument (name "o") NoArguments)))))))
      "textureSampleLevel(t, s, p, i, 0.0, o)"
  pub sample_at_whole_zero : IsExpressionText
      (call "textureSampleLevel" (Argument (name "t") (Argument (name "s") (Argument (name "p")
      (ZeroArgument true (Argument (name "o") NoArguments))))))
      "textureSampleLevel(t, s, p, 0, o)"
  pub sample_with_bias : IsExpressionText
      (call "textureSampleBias" (names ("t" ∷ "s" ∷ "p" ∷ "b" ∷ [])))
      "textureSampleBias(t, s, p, b)"
  pub sample_with_gradient : IsExpressionText
      (call "textureSampleGrad" (names ("t" ∷ "s" ∷ "p" ∷ "x" ∷ "y" ∷ [])))
      "textureSampleGrad(t, s, p, x, y)"
  pub sample_clamped : IsExpressionText
      (call "textureSampleBaseClampToEdge" (names ("t" ∷ "s" ∷ "p" ∷ [])))
      "textureSampleBaseClampToEdge(t, s, p)"
  pub sample_compared : IsExpressionText
      (call "textureSampleCompare" (names ("t" ∷ "s" ∷ "p" ∷ "d" ∷ [])))
      "textureSampleCompare(t, s, p, d)"
  pub sample_compared_at_zero : IsExpressionText
      (call "textureSampleCompareLevel" (names ("t" ∷ "s" ∷ "p" ∷ "d" ∷ [])))
      "textureSampleCompareLevel(t, s, p, d)"
  pub gather : IsExpressionText (call "textureGather" (NumberArgument 3
      (Argument (name "t") (Argument (name "s") (Argument (name "p") NoArguments)))))
      "textureGather(3, t, s, p)"
  pub gather_of_depth : IsExpressionText (call "textureGather" (names ("t" ∷ "s" ∷ "p" ∷ [])))
      "textureGather(t, s, p)"
  pub gather_compared : IsExpressionText
      (call "textureGatherCompare" (names ("t" ∷ "s" ∷ "p" ∷ "d" ∷ [])))
      "textureGatherCompare(t, s, p, d)"
  pub image_load :
      IsExpressionText (call "textureLoad" (names ("t" ∷ "p" ∷ "l" ∷ []))) "textureLoad(t, p, l)"
  pub image_size :
      IsExpressionText (call "textureDimensions" (names ("t" ∷ "l" ∷ []))) "textureDimensions(t, l)"
  pub image_levels :
      IsExpressionText (call "textureNumLevels" (names ("t" ∷ []))) "textureNumLevels(t)"
  pub image_layers :
      IsExpressionText (call "textureNumLayers" (names ("t" ∷ []))) "textureNumLayers(t)"
  pub image_samples :
      IsExpressionText (call "textureNumSamples" (names ("t" ∷ []))) "textureNumSamples(t)"
  pub cooperative_load : IsExpressionText
      (Call (template "coopLoad" (template_of "coop_mat8x8" ("f32" ∷ "A" ∷ []) ∷ []))
      (operands (AddressOf (name "a") ∷ name "n" ∷ []))) "coopLoad<coop_mat8x8<f32,A>>((&a), n)"
  pub cooperative_load_row_major : IsExpressionText
      (Call (template "coopLoadT" (template_of "coop_mat8x8" ("f32" ∷ "C" ∷ []) ∷ []))
      (operands (AddressOf (name "a") ∷ name "n" ∷ []))) "coopLoadT<coop_mat8x8<f32,C>>((&a), n)"
  pub cooperative_multiply_add : IsExpressionText
      (call "coopMultiplyAdd" (names ("a" ∷ "b" ∷ "c" ∷ []))) "coopMultiplyAdd(a, b, c)"

abbrev pub every_statement : Program
every_statement = of_functions (
    function "rows"
    (parameter "x" (named_type "i32") ∷ parameter "c" (named_type "bool") ∷
    parameter "p" (template "ptr"
    (named_type "storage" ∷ template_of "atomic" ("u32" ∷ []) ∷ named_type "read_write" ∷ [])) ∷ [])
    NoResult
    (local "m" (template_of "mat2x2" ("f32" ∷ [])) (Some
    (Call (template_of "mat2x2" ("f32" ∷ [])) NoArguments)) ∷
    local "u" (named_type "u32") None ∷ []) (
    typed_let_statement "_e1" (template_of "vec2" ("f32" ∷ [])) (IndexAt (name "m") 0) ∷
    Assign (member_of (IndexAt (name "m") 0) "x") (member_of (name "_e1") "y") ∷
    Assign (name "u") (unsigned 1) ∷
    If (name "c") (statements (
    Discard ∷ [])) NoBlock ∷
    If (name "c") NoStatements (SomeBlock NoStatements) ∷
    Block (statements (
    Block NoStatements ∷ [])) ∷
    CallStatement (named_type "atomicStore") (operands (name "p" ∷ unsigned 5 ∷ [])) ∷
    let_statement "_e2"
    (call "atomicCompareExchangeWeak" (operands (name "p" ∷ unsigned 1 ∷ unsigned 2 ∷ []))) ∷
    CallStatement (named_type "atomicMax") (operands (name "p" ∷ unsigned 7 ∷ [])) ∷
    let_statement "_e3" (call "inc" (names ("x" ∷ "x" ∷ []))) ∷
    CallStatement (named_type "textureAtomicMin")
    (operands (name "t" ∷ name "v" ∷ unsigned 1 ∷ [])) ∷
    CallStatement (named_type "textureStore")
    (operands (name "t" ∷ name "v" ∷ integer 2 ∷ name "w" ∷ [])) ∷
    let_statement "_e4" (call "workgroupUniformLoad" (operands (AddressOf (name "wg") ∷ []))) ∷
    Switch (name "u") (Case (LastCaseValue (UnsignedCase 1)) (statements (
    Break ∷ []))
    (Case (MoreCaseValues (UnsignedCase 2) (LastCaseValue (UnsignedCase 3))) (statements (
    Return ∷ [])) (Case (LastCaseValue DefaultCase) NoStatements NoCases))) ∷
    Switch (name "x") (Case (LastCaseValue (SignedCase true 1)) NoStatements
    (Case (LastCaseValue DefaultCase) NoStatements NoCases)) ∷
    Loop (statements (
    Break ∷ [])) (SomeBlock (statements (
    Assign (name "u") (unsigned 2) ∷ []))) ∷
    Loop NoStatements NoBlock ∷
    Loop NoStatements (SomeBlock NoStatements) ∷
    let_statement "_e5" (call "subgroupBallot" NoArguments) ∷
    let_statement "_e6" (call "subgroupBallot" (names ("c" ∷ []))) ∷
    let_statement "_e7" (call "subgroupExclusiveAdd" (names ("x" ∷ []))) ∷
    let_statement "_e8" (call "subgroupBroadcastFirst" (names ("x" ∷ []))) ∷
    let_statement "_e9" (call "subgroupShuffle" (names ("x" ∷ "u" ∷ []))) ∷
    let_statement "_e10" (call "quadSwapX" (names ("x" ∷ []))) ∷
    CallStatement (named_type "coopStore")
    (operands (name "a" ∷ AddressOf (name "b") ∷ name "n" ∷ [])) ∷
    CallStatement (named_type "coopStoreT")
    (operands (name "a" ∷ AddressOf (name "b") ∷ name "n" ∷ [])) ∷
    CallStatement (named_type "traceRay")
    (operands (name "s" ∷ name "d" ∷ AddressOf (name "payload") ∷ [])) ∷
    Return ∷ []) ∷ [])

abbrev pub every_statement_text : List ℕ
every_statement_text = lines (
    "fn rows(x: i32, c: bool, p: ptr<storage, atomic<u32>, read_write>) {" ∷
    "    var m: mat2x2<f32> = mat2x2<f32>();" ∷
    "    var u: u32;" ∷
    "" ∷
    "    let _e1: vec2<f32> = m[0];" ∷
    "    m[0].x = _e1.y;" ∷
    "    u = 1u;" ∷
    "    if c {" ∷
    "        discard;" ∷
    "    }" ∷
    "    if c {" ∷
    "    } else {" ∷
    "    }" ∷
    "    {" ∷
    "        {" ∷
    "        }" ∷
    "    }" ∷
    "    atomicStore(p, 5u);" ∷
    "    let _e2 = atomicCompareExchangeWeak(p, 1u, 2u);" ∷
    "    atomicMax(p, 7u);" ∷
    "    let _e3 = inc(x, x);" ∷
    "    textureAtomicMin(t, v, 1u);" ∷
    "    textureStore(t, v, 2i, w);" ∷
    "    let _e4 = workgroupUniformLoad((&wg));" ∷
    "    switch u {" ∷
    "        case 1u: {" ∷
    "            break;" ∷
    "        }" ∷
    "        case 2u, 3u: {" ∷
    "            return;" ∷
    "        }" ∷
    "        default: {" ∷
    "        }" ∷
    "    }" ∷
    "    switch x {" ∷
    "        case -1: {" ∷
    "        }" ∷
    "        default: {" ∷
    "        }" ∷
    "    }" ∷
    "    loop {" ∷
    "        break;" ∷
    "        continuing {" ∷
    "            u = 2u;" ∷
    "        }" ∷
    "    }" ∷
    "    loop {" ∷
    "    }" ∷
    "    loop {" ∷
    "        continuing {" ∷
    "        }" ∷
    "    }" ∷
    "    let _e5 = subgroupBallot();" ∷
    "    let _e6 = subgroupBallot(c);" ∷
    "    let _e7 = subgroupExclusiveAdd(x);" ∷
    "    let _e8 = subgroupBroadcastFirst(x);" ∷
    "    let _e9 = subgroupShuffle(x, u);" ∷
    "    let _e10 = quadSwapX(x);" ∷
    "    coopStore(a, (&b), n);" ∷
    "    coopStoreT(a, (&b), n);" ∷
    "    traceRay(s, d, (&payload));" ∷
    "    return;" ∷
    "}" ∷
    "" ∷ [])

abbrev pub every_declaration : Program
every_declaration = record no_declarations {
  enables =
      codes "f16" ∷
      codes "dual_source_blending" ∷ [];
  structs =
      struct "Input" (
      member (worded_attribute Builtin "position" ∷ Plain Invariant ∷ []) "pos"
      (template_of "vec4" ("f32" ∷ [])) ∷
      member (Numbered Location 1 ∷ interpolated_attribute "perspective" "centroid" ∷ []) "a"
      (named_type "f32") ∷
      member (Numbered Location 0 ∷ Numbered BlendSource 1 ∷ Plain PerPrimitive ∷ []) "b"
      (named_type "f32") ∷
      member (Numbered Size 32 ∷ Numbered Align 16 ∷ []) "c" (named_type "f32") ∷ []) ∷ [];
  constants =
      constant "N" (named_type "i32") (integer 7) ∷
      constant "M" (template_of "vec2" ("f32" ∷ []))
      (Call (template_of "vec2" ("f32" ∷ [])) NoArguments) ∷ [];
  overrides =
      override (Numbered Id 3 ∷ []) "gain" (named_type "f32") (Some (integer 1)) ∷
      override [] "plain" (named_type "bool") None ∷ [];
  globals =
      global (Numbered Group 0 ∷ Numbered Binding 0 ∷ []) NoSpace "image"
      (template_of "texture_storage_2d" ("rgba8unorm" ∷ "write" ∷ [])) None ∷
      global (Numbered Group 0 ∷ Numbered Binding 1 ∷ Plain Coherent ∷ Plain Volatile ∷ [])
      (space "storage") "buf" (template_of "array" ("u32" ∷ [])) None ∷
      global (Plain Coherent ∷ []) (space "uniform") "block" (named_type "Input") None ∷
      global [] (space "private") "counter" (named_type "i32") (Some (integer 1)) ∷ [];
  functions =
      function "f"
      (attributed_parameter (worded_attribute Builtin "vertex_index" ∷ []) "i"
      (named_type "u32") ∷ [])
      (ResultOf (Numbered Location 0 ∷ []) (named_type "f32")) [] (
      ReturnValue (integer 1) ∷ []) ∷
      function "g" [] NoResult [] [] ∷ [];
  entry_points =
      entry_point (Plain Vertex ∷ []) (function "vs" (parameter "v" (named_type "Input") ∷
      attributed_parameter (Numbered Location 0 ∷ worded_attribute Interpolate "linear" ∷ []) "x"
      (named_type "f32") ∷
      []) (ResultOf (worded_attribute Builtin "position" ∷ [])
      (template_of "vec4" ("f32" ∷ []))) [] (
      ReturnValue (Call (template_of "vec4" ("f32" ∷ [])) NoArguments) ∷ [])) ∷
      entry_point (Plain Fragment ∷ [])
      (function "fs" [] (ResultOf (Numbered Location 0 ∷ []) (template_of "vec4" ("f32" ∷ []))) [] (
      ReturnValue (Call (template_of "vec4" ("f32" ∷ [])) NoArguments) ∷ [])) ∷ [];
}

abbrev pub every_declaration_text : List ℕ
every_declaration_text = lines (
    "enable f16;" ∷
    "enable dual_source_blending;" ∷
    "" ∷
    "struct Input {" ∷
    "    @builtin(position) @invariant pos: vec4<f32>," ∷
    "    @location(1) @interpolate(perspective, centroid) a: f32," ∷
    "    @location(0) @blend_src(1) @per_primitive b: f32," ∷
    "    @size(32) @align(16) c: f32," ∷
    "}" ∷
    "" ∷
    "const N: i32 = 7i;" ∷
    "const M: vec2<f32> = vec2<f32>();" ∷
    "" ∷
    "@id(3) override gain: f32 = 1i;" ∷
    "override plain: bool;" ∷
    "" ∷
    "@group(0) @binding(0) " ∷
    "var image: texture_storage_2d<rgba8unorm,write>;" ∷
    "@group(0) @binding(1) " ∷
    "@coherent @volatile var<storage> buf: array<u32>;" ∷
    "@coherent var<uniform> block: Input;" ∷
    "var<private> counter: i32 = 1i;" ∷
    "" ∷
    "fn f(@builtin(vertex_index) i: u32) -> @location(0) f32 {" ∷
    "    return 1i;" ∷
    "}" ∷
    "" ∷
    "fn g() {" ∷
    "}" ∷
    "" ∷
    "@vertex " ∷
    "fn vs(v: Input, @location(0) @interpolate(linear) x: f32) -> @builtin(position) vec4<f32> {" ∷
    "    return vec4<f32>();" ∷
    "}" ∷
    "" ∷
    "@fragment " ∷
    "fn fs() -> @location(0) vec4<f32> {" ∷
    "    return vec4<f32>();" ∷
    "}" ∷ [])

abbrev pub every_stage : Program
every_stage = record no_declarations {
  enables =
      codes "wgpu_mesh_shader" ∷
      codes "wgpu_ray_tracing_pipeline" ∷ [];
  globals =
      global [] (space "workgroup") "out" (named_type "u32") None ∷
      global [] (space "task_payload") "load" (named_type "u32") None ∷
      global [] (space "ray_payload") "ray" (named_type "u32") None ∷
      global [] (space "incoming_ray_payload") "hit" (named_type "u32") None ∷
      global [] (space "immediate") "scale" (named_type "f32") None ∷ [];
  entry_points =
      entry_point (worded_attribute Mesh "out" ∷ workgroup_size 1 1 1 ∷ [])
      (function "ms" [] NoResult [] []) ∷
      entry_point
      (worded_attribute Mesh "out" ∷ workgroup_size 1 1 1 ∷ worded_attribute Payload "load" ∷ [])
      (function "mp" [] NoResult [] []) ∷
      entry_point (Plain Task ∷ worded_attribute Payload "load" ∷ workgroup_size 1 1 1 ∷ [])
      (function "ts" [] NoResult [] []) ∷
      entry_point (Plain RayGeneration ∷ []) (function "rg" [] NoResult [] []) ∷
      entry_point (Plain AnyHit ∷ worded_attribute IncomingPayload "hit" ∷ [])
      (function "ah" [] NoResult [] []) ∷
      entry_point (Plain ClosestHit ∷ worded_attribute IncomingPayload "hit" ∷ [])
      (function "ch" [] NoResult [] []) ∷
      entry_point (Plain Miss ∷ worded_attribute IncomingPayload "hit" ∷ [])
      (function "mi" [] NoResult [] []) ∷ [];
}

abbrev pub every_stage_text : List ℕ
every_stage_text = lines (
    "enable wgpu_mesh_shader;" ∷
    "enable wgpu_ray_tracing_pipeline;" ∷
    "" ∷
    "var<workgroup> out: u32;" ∷
    "var<task_payload> load: u32;" ∷
    "var<ray_payload> ray: u32;" ∷
    "var<incoming_ray_payload> hit: u32;" ∷
    "var<immediate> scale: f32;" ∷
    "" ∷
    "@mesh(out) @workgroup_size(1, 1, 1) " ∷
    "fn ms() {" ∷
    "}" ∷
    "" ∷
    "@mesh(out) @workgroup_size(1, 1, 1) @payload(load) " ∷
    "fn mp() {" ∷
    "}" ∷
    "" ∷
    "@task @payload(load) @workgroup_size(1, 1, 1) " ∷
    "fn ts() {" ∷
    "}" ∷
    "" ∷
    "@ray_generation " ∷
    "fn rg() {" ∷
    "}" ∷
    "" ∷
    "@any_hit @incoming_payload(hit) " ∷
    "fn ah() {" ∷
    "}" ∷
    "" ∷
    "@closest_hit @incoming_payload(hit) " ∷
    "fn ch() {" ∷
    "}" ∷
    "" ∷
    "@miss @incoming_payload(hit) " ∷
    "fn mi() {" ∷
    "}" ∷ [])

-- each row of statements and declarations
pub record LineRows : Type 0 where
  pub every_statement : IsText every_statement every_statement_text
  pub every_declaration : IsText every_declaration every_declaration_text
  pub every_stage : IsText every_stage every_stage_text
