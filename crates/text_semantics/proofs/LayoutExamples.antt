-- Structs of texts and how they are laid out, worked by hand from WGSL's rules.
use Rattle.std.proofs.Common.{◌≡◌, refl, ℕ, List, [], ◌∷◌, Option, Some, None, codes}
use Prim.Native.String.{String}
use Rattle.wgsl_layout.specs.declared.layouts.Layout.{Layout}
use Rattle.wgsl_text.specs.Attributes.{Numbered, Size, Align}
use Rattle.wgsl_text.specs.Declarations.{Struct, StructMember}
use Rattle.wgsl_text.specs.Types.{TypeSpecifier}
use Rattle.wgsl_text.specs.WorkedTrees as worked
use Rattle.text_semantics.specs.Layout.{offsets_read, size_of_struct_read, struct_layout_read}
use Rattle.text_semantics.specs.Layout.{type_layout_by}

-- ---- types
-- a type in a text without structs
abbrev layout_of : TypeSpecifier → Option Layout
layout_of t = type_layout_by (λ w. None) t

abbrev bytes : (a s : ℕ) → Option Layout
bytes a s = Some (record { alignment = a; size = Some s })

abbrev over : String → String → TypeSpecifier
over w scalar = worked.template_of w (scalar ∷ [])

u16 : layout_of (worked.named_type "u16") ≡ bytes 2 2
u16 = refl

f32 : layout_of (worked.named_type "f32") ≡ bytes 4 4
f32 = refl

i64 : layout_of (worked.named_type "i64") ≡ bytes 8 8
i64 = refl

truth : layout_of (worked.named_type "bool") ≡ None
truth = refl

vec3f : layout_of (over "vec3" "f32") ≡ bytes 16 12
vec3f = refl

vec4h : layout_of (over "vec4" "f16") ≡ bytes 8 8
vec4h = refl

vec2b : layout_of (over "vec2" "bool") ≡ None
vec2b = refl

mat3x3h : layout_of (over "mat3x3" "f16") ≡ bytes 8 24
mat3x3h = refl

mat4x3f : layout_of (over "mat4x3" "f32") ≡ bytes 16 64
mat4x3f = refl

atomic32 : layout_of (over "atomic" "u32") ≡ bytes 4 4
atomic32 = refl

atomic64 : layout_of (over "atomic" "u64") ≡ bytes 8 8
atomic64 = refl

atomic16 : layout_of (over "atomic" "u16") ≡ None
atomic16 = refl

two_vec3f : layout_of (worked.sized_template "array" (over "vec3" "f32") 2) ≡ bytes 16 32
two_vec3f = refl

endless : layout_of (over "array" "u32") ≡ Some (record { alignment = 4; size = None })
endless = refl

-- its length is an override, or its elements are endless
by_override : layout_of (worked.template_of "array" ("u32" ∷ "N" ∷ [])) ≡ None
by_override = refl

of_endless : layout_of (worked.sized_template "array" (over "array" "u32") 2) ≡ None
of_endless = refl

pointer : layout_of (worked.template_of "ptr" ("function" ∷ "u32" ∷ [])) ≡ None
pointer = refl

-- ---- structs
abbrev plain : String → TypeSpecifier → StructMember
plain w t = worked.member [] w t

abbrev sized : ℕ → String → TypeSpecifier → StructMember
sized n w t = worked.member (Numbered Size n ∷ []) w t

abbrev u32 : TypeSpecifier
u32 = worked.named_type "u32"

-- `O` is declared before `I`, which it is made of
abbrev texts : List Struct
texts =
    worked.struct "P" (plain "a" (worked.named_type "f32") ∷ plain "b" (over "vec3" "f32")
    ∷ plain "c" (worked.named_type "f32") ∷ []) ∷
    worked.struct "Q" (sized 16 "a" u32 ∷ plain "b" u32 ∷ []) ∷
    worked.struct "O" (plain "v" (worked.sized_template "array" (worked.named_type "I") 2) ∷ []) ∷
    worked.struct "I" (sized 16 "a" u32 ∷ []) ∷
    worked.struct "T" (plain "n" (worked.named_type "I") ∷ plain "m" (over "mat3x3" "f16")
    ∷ plain "t" (worked.template "array" (over "vec3" "f32" ∷ [])) ∷ []) ∷
    worked.struct "A" (worked.member (Numbered Align 16 ∷ []) "a" u32 ∷ plain "b" u32 ∷ []) ∷
    worked.struct "B" (plain "a" u32 ∷ plain "b" (worked.named_type "bool") ∷ []) ∷
    worked.struct "R" (plain "r" (worked.named_type "R") ∷ []) ∷
    worked.struct "E" [] ∷ []

p_offsets : offsets_read texts (codes "P") ≡ Some (0 ∷ 16 ∷ 28 ∷ [])
unfolding struct_layout_read
p_offsets = refl

p_size : size_of_struct_read texts (codes "P") ≡ Some 32
unfolding struct_layout_read
p_size = refl

q_offsets : offsets_read texts (codes "Q") ≡ Some (0 ∷ 16 ∷ [])
unfolding struct_layout_read
q_offsets = refl

q_size : size_of_struct_read texts (codes "Q") ≡ Some 20
unfolding struct_layout_read
q_size = refl

i_size : size_of_struct_read texts (codes "I") ≡ Some 16
unfolding struct_layout_read
i_size = refl

o_layout : struct_layout_read texts (codes "O") ≡ bytes 4 32
unfolding struct_layout_read
o_layout = refl

-- the last member ends with its buffer
t_offsets : offsets_read texts (codes "T") ≡ Some (0 ∷ 16 ∷ 48 ∷ [])
unfolding struct_layout_read
t_offsets = refl

t_size : size_of_struct_read texts (codes "T") ≡ None
unfolding struct_layout_read
t_size = refl

-- an alignment counts for nothing
a_offsets : offsets_read texts (codes "A") ≡ Some (0 ∷ 4 ∷ [])
unfolding struct_layout_read
a_offsets = refl

-- a member that isn't laid out, a struct in itself, one without members, and one that isn't there
b_offsets : offsets_read texts (codes "B") ≡ None
unfolding struct_layout_read
b_offsets = refl

r_layout : struct_layout_read texts (codes "R") ≡ None
unfolding struct_layout_read
r_layout = refl

e_layout : struct_layout_read texts (codes "E") ≡ None
unfolding struct_layout_read
e_layout = refl

other_layout : struct_layout_read texts (codes "S") ≡ None
unfolding struct_layout_read
other_layout = refl
