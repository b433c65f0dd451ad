-- Worked functions that ask for events: atomics, images, derivatives, collectives, barriers and ray
-- traces. Each with its text, and what both runs of it do.
use Rattle.std.specs.Prelude.{true, false, List, [], ◌∷◌, Some, None, codes}
use Rattle.shader_runs.specs.Value.{Bytes, Place, AtOrigin, GlobalOrigin, ValueType, PointerType}
use Rattle.shader_runs.specs.Value.{OtherType, Value, Pointer, Opaque}
use Rattle.shader_runs.specs.World.{Event, Ask, Write}
use Rattle.shader_runs.specs.Outcome.{Gives}
use Rattle.shader_runs.specs.Program.{Fixed, NamedConstant, no_constant, constant}
use Rattle.shader_runs.specs.Program.{Argument, Global, Operator, Access, Request, Result}
use Rattle.shader_runs.specs.Program.{Asked, Emit, Store, Return, Barrier, BarrierBits, Act}
use Rattle.shader_runs.specs.Program.{Function, Jumps}
use Rattle.shader_runs.specs.Text.{Tree, Name, LiteralOf, Index, Assign, TextFunction}
use Rattle.shader_runs.specs.WorkedModules.{texel, ballot, pair_type, pair, in_memory, resource}
use Rattle.shader_runs.specs.WorkedModules.{named_function, Example, IsWorked, start_events}
use Rattle.shader_runs.specs.WorkedFunctions.{i32, number, literal, named_by, sum_of, text_of, row}
use Rattle.shader_runs.specs.WorkedFunctions.{bound_row}
use Rattle.shader_runs.specs.WorkedFunctions.{function_with, lines, call_of, perform, let_own}
use Rattle.shader_runs.specs.WorkedFunctions.{return_of, digits, pointer_of}

-- ---- atomics

-- a counter of the work group
abbrev pub counter_type : Bytes
counter_type = codes "ptr<workgroup, atomic<i32>>"

-- its place
abbrev pub counter_place : Place
counter_place = AtOrigin (GlobalOrigin counter_type 0)

-- it is stored to, added to and loaded; what the addition found and what is loaded are added up
abbrev pub count_function : Function
count_function =
    function_with [] (Some i32) [] (
    row (Global false 0) (PointerType counter_type)
    ∷ row (literal 5) i32
    ∷ row Result i32
    ∷ bound_row (Request (codes "atomicLoad") (0 ∷ []) no_constant) i32
    ∷ row (Operator (codes "+") (2 ∷ 3 ∷ [])) i32 ∷ []) (
    Act (Asked (codes "atomicStore")) (0 ∷ 1 ∷ []) None
    ∷ Act (Asked (codes "atomicAdd")) (0 ∷ 1 ∷ []) (Some 2)
    ∷ Emit 3 2
    ∷ Jumps (Return (Some 4)) ∷ [])

-- its module
abbrev pub atomic_example : Example
atomic_example =
    record {
      constants = [];
      variables = in_memory (codes "counter") counter_type ∷ [];
      functions = named_function (codes "count") [] [] count_function ∷ [];
    }

-- its text, with this for the load
abbrev pub atomic_text : Tree → List TextFunction
atomic_text load =
    text_of (codes "count") [] [] (lines (
    perform (codes "atomicStore") (pointer_of (codes "counter") ∷ digits 5 ∷ [])
    ∷ let_own 2 (call_of (codes "atomicAdd") (pointer_of (codes "counter") ∷ digits 5 ∷ []))
    ∷ let_own 3 load
    ∷ return_of (sum_of (named_by 2) (named_by 3)) ∷ [])) ∷ []

-- its events up to the addition
abbrev pub atomic_events : List Event
atomic_events =
    Ask (codes "atomicAdd") (Pointer counter_place ∷ number 5 ∷ [])
    ∷ Ask (codes "atomicStore") (Pointer counter_place ∷ number 5 ∷ [])
    ∷ start_events 0 [] []

-- 5 is found and 10 is loaded
abbrev pub AtomicRow : Type 0
AtomicRow =
    let text = atomic_text (call_of (codes "atomicLoad") (pointer_of (codes "counter") ∷ [])) in
    let loading = Ask (codes "atomicLoad") (Pointer counter_place ∷ []) in
    IsWorked atomic_example text 0 3 [] (Gives (Some (number 15)) (loading ∷ atomic_events))

-- ---- images

-- the types of an image with layers, of a sampler, of
-- what is taken from an image, and of a coordinate
abbrev pub layers_type : Bytes
layers_type = codes "texture_2d_array<f32>"

abbrev pub sampler_type : Bytes
sampler_type = codes "sampler"

abbrev pub texel_type : ValueType
texel_type = OtherType (codes "vec4<f32>")

abbrev pub coordinate_type : ValueType
coordinate_type = OtherType (codes "vec2<f32>")

-- some coordinate
abbrev pub coordinate : Value
coordinate = Opaque (codes "vec2<f32>") 9

-- the level `0.0`
abbrev pub level_zero : Value
level_zero = Opaque (codes "f32") 0

-- an image with layers is sampled at level zero, with an offset that is a named constant
abbrev pub sampling_function : Function
sampling_function =
    let constants = constant (Fixed level_zero) (constant (NamedConstant 0) no_constant) in
    let sample = Request (codes "textureSampleLevel") (0 ∷ 1 ∷ 2 ∷ 3 ∷ []) constants in
    function_with (coordinate_type ∷ i32 ∷ []) (Some texel_type) [] (
    row (Global true 0) (OtherType layers_type)
    ∷ row (Global true 1) (OtherType sampler_type)
    ∷ row (Argument 0) coordinate_type
    ∷ row (Argument 1) i32
    ∷ bound_row sample texel_type ∷ []) (
    Emit 4 1
    ∷ Jumps (Return (Some 4)) ∷ [])

-- its arguments' names
abbrev pub sampling_arguments : List Bytes
sampling_arguments = codes "uv" ∷ codes "layer" ∷ []

-- its module
abbrev pub sampling_example : Example
sampling_example =
    let image = resource (codes "image") layers_type 400 in
    let filtering = resource (codes "filtering") sampler_type 2 in
    record {
      constants = record { name = codes "OFFSET"; type = pair_type; value = pair 30 } ∷ [];
      variables = image ∷ filtering ∷ [];
      functions = named_function (codes "shade") sampling_arguments [] sampling_function ∷ [];
    }

-- its text, with these operands after the layer
abbrev pub sampling_text : List Tree → List TextFunction
sampling_text following =
    let image = Name (codes "image") in
    let filtering = Name (codes "filtering") in
    let operands = image ∷ filtering ∷ Name (codes "uv") ∷ Name (codes "layer") ∷ following in
    text_of (codes "shade") sampling_arguments [] (lines (
    let_own 4 (call_of (codes "textureSampleLevel") operands)
    ∷ return_of (named_by 4) ∷ [])) ∷ []

-- its arguments
abbrev pub sampling_values : List Value
sampling_values = coordinate ∷ number 1 ∷ []

-- its events, with these operands after the layer
abbrev pub sampling_events : List Value → List Event
sampling_events following =
    let image = Opaque layers_type 400 in
    let filtering = Opaque sampler_type 2 in
    let operands = image ∷ filtering ∷ coordinate ∷ number 1 ∷ following in
    Ask (codes "textureSampleLevel") operands ∷ start_events 0 sampling_values []

-- the world's answer is 400 and 1 and 0 and 30
abbrev pub SamplingRow : Type 0
SamplingRow =
    let text = sampling_text (LiteralOf level_zero ∷ Name (codes "OFFSET") ∷ []) in
    let events = sampling_events (level_zero ∷ pair 30 ∷ []) in
    IsWorked sampling_example text 0 3 sampling_values (Gives (Some (texel 431)) events)

-- a texel of one of many images, whose index is a sum
abbrev pub images_type : Bytes
images_type = codes "binding_array<texture_2d<f32>>"

abbrev pub image_type : Bytes
image_type = codes "texture_2d<f32>"

abbrev pub texel_function : Function
texel_function =
    let load = Request (codes "textureLoad") (6 ∷ 2 ∷ 4 ∷ []) no_constant in
    function_with (i32 ∷ pair_type ∷ []) (Some texel_type) [] (
    row (Global true 0) (OtherType images_type)
    ∷ row (Argument 0) i32
    ∷ row (Argument 1) pair_type
    ∷ row (literal 1) i32
    ∷ row (literal 0) i32
    ∷ row (Operator (codes "+") (1 ∷ 3 ∷ [])) i32
    ∷ row (Access 0 5) (OtherType image_type)
    ∷ bound_row load texel_type ∷ []) (
    Emit 5 3
    ∷ Jumps (Return (Some 7)) ∷ [])

-- its arguments' names
abbrev pub texel_arguments : List Bytes
texel_arguments = codes "i" ∷ codes "at" ∷ []

-- its module
abbrev pub texel_example : Example
texel_example =
    record {
      constants = [];
      variables = resource (codes "images") images_type 400 ∷ [];
      functions = named_function (codes "pick") texel_arguments [] texel_function ∷ [];
    }

-- neither the sum nor the chosen image has a name
abbrev pub texel_text : List TextFunction
texel_text =
    let image = Index (Name (codes "images")) (sum_of (Name (codes "i")) (digits 1)) in
    text_of (codes "pick") texel_arguments [] (lines (
    let_own 7 (call_of (codes "textureLoad") (image ∷ Name (codes "at") ∷ digits 0 ∷ []))
    ∷ return_of (named_by 7) ∷ [])) ∷ []

-- index 2 and 1 leads to the image 403
abbrev pub TexelRow : Type 0
TexelRow =
    let vs : List Value = number 2 ∷ pair 12 ∷ [] in
    let loading = Ask (codes "textureLoad") (Opaque image_type 403 ∷ pair 12 ∷ number 0 ∷ []) in
    IsWorked texel_example texel_text 0 3 vs
    (Gives (Some (texel 403)) (loading ∷ start_events 0 vs []))

-- two reads that nobody uses: one of an atomic, and one of an image, for which a `let` asks for no
-- use
abbrev pub unused_function : Function
unused_function =
    let load = Request (codes "textureLoad") (1 ∷ 2 ∷ 3 ∷ []) no_constant in
    function_with (pair_type ∷ []) None [] (
    row (Global false 0) (PointerType counter_type)
    ∷ row (Global true 1) (OtherType image_type)
    ∷ row (Argument 0) pair_type
    ∷ row (literal 0) i32
    ∷ row (Request (codes "atomicLoad") (0 ∷ []) no_constant) i32
    ∷ bound_row load texel_type ∷ []) (
    Emit 4 2 ∷ [])

-- its module
abbrev pub unused_example : Example
unused_example =
    let counter = in_memory (codes "counter") counter_type in
    let image = resource (codes "image") image_type 400 in
    record {
      constants = [];
      variables = counter ∷ image ∷ [];
      functions = named_function (codes "peek") (codes "at" ∷ []) [] unused_function ∷ [];
    }

-- its text, where the atomic is not read
abbrev pub unused_text : List TextFunction
unused_text =
    let operands = Name (codes "image") ∷ Name (codes "at") ∷ digits 0 ∷ [] in
    text_of (codes "peek") (codes "at" ∷ []) [] (lines (
    let_own 5 (call_of (codes "textureLoad") operands) ∷ [])) ∷ []

-- that of the image is written, and is the one event
abbrev pub UnusedRequestsRow : Type 0
UnusedRequestsRow =
    let vs : List Value = pair 12 ∷ [] in
    let loading = Ask (codes "textureLoad") (Opaque image_type 400 ∷ pair 12 ∷ number 0 ∷ []) in
    IsWorked unused_example unused_text 0 3 vs (Gives None (loading ∷ start_events 0 vs []))

-- ---- a derivative and a texel that is stored

abbrev pub canvas_type : Bytes
canvas_type = codes "texture_storage_2d<rgba8unorm, write>"

-- the derivative of an argument is stored to an image
abbrev pub edge_function : Function
edge_function =
    let derivative = Request (codes "dpdx") (2 ∷ []) no_constant in
    function_with (pair_type ∷ texel_type ∷ []) None [] (
    row (Global true 0) (OtherType canvas_type)
    ∷ row (Argument 0) pair_type
    ∷ row (Argument 1) texel_type
    ∷ bound_row derivative texel_type ∷ []) (
    Emit 3 1
    ∷ Act (Asked (codes "textureStore")) (0 ∷ 1 ∷ 3 ∷ []) None ∷ [])

-- its arguments' names
abbrev pub edge_arguments : List Bytes
edge_arguments = codes "at" ∷ codes "colour" ∷ []

-- its module
abbrev pub edge_example : Example
edge_example =
    record {
      constants = [];
      variables = resource (codes "canvas") canvas_type 7 ∷ [];
      functions = named_function (codes "edge") edge_arguments [] edge_function ∷ [];
    }

-- its text
abbrev pub edge_text : List TextFunction
edge_text =
    let operands = Name (codes "canvas") ∷ Name (codes "at") ∷ named_by 3 ∷ [] in
    text_of (codes "edge") edge_arguments [] (lines (
    let_own 3 (call_of (codes "dpdx") (Name (codes "colour") ∷ []))
    ∷ perform (codes "textureStore") operands ∷ [])) ∷ []

-- the derivative is asked for first
abbrev pub EdgeRow : Type 0
EdgeRow =
    let vs : List Value = pair 12 ∷ texel 5 ∷ [] in
    IsWorked edge_example edge_text 0 3 vs (Gives None (
    Ask (codes "textureStore") (Opaque canvas_type 7 ∷ pair 12 ∷ texel 5 ∷ [])
    ∷ Ask (codes "dpdx") (texel 5 ∷ [])
    ∷ start_events 0 vs []))

-- ---- collectives, barriers, a ballot and a ray trace

-- a number of the work group, the payload of a ray,
-- and the types of a scene, of a ray and of a ballot
abbrev pub cell_type : Bytes
cell_type = codes "ptr<workgroup, i32>"

abbrev pub payload_type : Bytes
payload_type = codes "ptr<ray_payload, i32>"

abbrev pub scene_type : Bytes
scene_type = codes "acceleration_structure"

abbrev pub ray_type : Bytes
ray_type = codes "RayDesc"

abbrev pub ballot_type : ValueType
ballot_type = OtherType (codes "vec4<u32>")

-- an argument is stored for the work group, read by all after all barriers, and is the payload of
-- a ray; then the subgroup votes
abbrev pub together_function : Function
together_function =
    let all : BarrierBits =
    record { storage = true; work_group = true; sub_group = true; texture = true } in
    function_with (i32 ∷ OtherType ray_type ∷ []) (Some ballot_type) [] (
    row (Global false 0) (PointerType cell_type)
    ∷ row (Global true 1) (OtherType scene_type)
    ∷ row (Global false 2) (PointerType payload_type)
    ∷ row (Argument 0) i32
    ∷ row (Argument 1) (OtherType ray_type)
    ∷ row Result i32
    ∷ row Result ballot_type ∷ []) (
    Store 0 3
    ∷ Barrier all
    ∷ Act (Asked (codes "workgroupUniformLoad")) (0 ∷ []) (Some 5)
    ∷ Store 2 5
    ∷ Act (Asked (codes "traceRay")) (1 ∷ 4 ∷ 2 ∷ []) None
    ∷ Act (Asked (codes "subgroupBallot")) [] (Some 6)
    ∷ Jumps (Return (Some 6)) ∷ [])

-- its arguments' names
abbrev pub together_arguments : List Bytes
together_arguments = codes "x" ∷ codes "ray" ∷ []

-- its module
abbrev pub together_example : Example
together_example =
    let cell = in_memory (codes "cell") cell_type in
    let scene = resource (codes "scene") scene_type 6 in
    let payload = in_memory (codes "payload") payload_type in
    record {
      constants = [];
      variables = cell ∷ scene ∷ payload ∷ [];
      functions = named_function (codes "together") together_arguments [] together_function ∷ [];
    }

-- its text, with a line for each barrier
abbrev pub together_text : List TextFunction
together_text =
    let trace = Name (codes "scene") ∷ Name (codes "ray") ∷ pointer_of (codes "payload") ∷ [] in
    text_of (codes "together") together_arguments [] (lines (
    Assign (Name (codes "cell")) (Name (codes "x"))
    ∷ perform (codes "storageBarrier") []
    ∷ perform (codes "workgroupBarrier") []
    ∷ perform (codes "subgroupBarrier") []
    ∷ perform (codes "textureBarrier") []
    ∷ let_own 5 (call_of (codes "workgroupUniformLoad") (pointer_of (codes "cell") ∷ []))
    ∷ Assign (Name (codes "payload")) (named_by 5)
    ∷ perform (codes "traceRay") trace
    ∷ let_own 6 (call_of (codes "subgroupBallot") [])
    ∷ return_of (named_by 6) ∷ [])) ∷ []

-- each barrier is an event, and what is read after them is what was stored
abbrev pub TogetherRow : Type 0
TogetherRow =
    let cell = AtOrigin (GlobalOrigin cell_type 0) in
    let payload = AtOrigin (GlobalOrigin payload_type 2) in
    let ray = Opaque ray_type 3 in
    let vs : List Value = number 8 ∷ ray ∷ [] in
    IsWorked together_example together_text 0 3 vs (Gives (Some ballot) (
    Ask (codes "subgroupBallot") []
    ∷ Ask (codes "traceRay") (Opaque scene_type 6 ∷ ray ∷ Pointer payload ∷ [])
    ∷ Write payload (number 8)
    ∷ Ask (codes "workgroupUniformLoad") (Pointer cell ∷ [])
    ∷ Ask (codes "textureBarrier") []
    ∷ Ask (codes "subgroupBarrier") []
    ∷ Ask (codes "workgroupBarrier") []
    ∷ Ask (codes "storageBarrier") []
    ∷ Write cell (number 8)
    ∷ start_events 0 vs []))
