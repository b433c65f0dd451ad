-- Spelled words, places and values with their types.
--
-- Throughout, v is a value (vs are several) and t a type (ts are
-- several), b a truth value, z an integer, p a place, i an index, and a and b are letters;
-- m, n, x, y and a, b in a test of equality are what it compares.
use Rattle.std.specs.Prelude.{ℕ, ℤ, pos, negsuc, Bool, true, false, cond, nat_eq, nat_lt, List, []}
use Rattle.std.specs.Prelude.{◌∷◌, Option, Some, None, option_map, option_and_then, unwrap_or}
use Rattle.std.specs.Prelude.{◌&&◌, get_or, codes, length}
use Rattle.std.specs.Option.{option_map_or}

-- the bytes of a name or of a spelled word
abbrev pub Bytes : Type 0
Bytes = List ℕ

-- equal words
abbrev pub same_bytes : Bytes → Bytes → Bool
same_bytes [] [] = true
same_bytes [] (y ∷ ys) = false
same_bytes (x ∷ xs) [] = false
same_bytes (x ∷ xs) (y ∷ ys) = nat_eq x y && same_bytes xs ys

-- equal integers
abbrev pub same_integer : ℤ → ℤ → Bool
same_integer (pos m) (pos n) = nat_eq m n
same_integer (pos m) (negsuc n) = false
same_integer (negsuc m) (pos n) = false
same_integer (negsuc m) (negsuc n) = nat_eq m n

-- what stands after a base: a component or member by its word, or an element by a constant index
pub data Selector : Type 0 where
  MemberNamed : (word : Bytes) → Selector
  ElementAt : (index : ℕ) → Selector

-- a step into a place: an element by its index, or a member by its word
pub data Step : Type 0 where
  At : ℤ → Step
  Field : Bytes → Step

-- a variable, with the spelling of a pointer to it: a module's by its index, or a local by the
-- number of function entries before its own function's and its index
pub data Origin : Type 0 where
  GlobalOrigin : (pointer : Bytes) → (index : ℕ) → Origin
  LocalOrigin : (pointer : Bytes) → (entries index : ℕ) → Origin

-- an origin and a path of steps
pub data Place : Type 0 where
  AtOrigin : Origin → Place
  Part : Place → Step → Place

-- what a place is made of, with the spelling of a pointer to each part: of nothing that a step
-- leads to; of elements or columns, by their numbers, and how many where it is known; of a
-- vector's components, by their numbers or letters; or of a struct's members, by their words
pub data Parts : Type 0 where
  NoParts : Parts
  Elements : (count : Option ℕ) → (pointer : Bytes) → Parts
  Components : (count : ℕ) → (pointer : Bytes) → Parts
  Members : (words_and_pointers : List (Bytes × Bytes)) → Parts

-- the parts of what a pointer points to, by its spelling
abbrev pub PartTypes : Type 0
PartTypes = Bytes → Parts

-- the spelling of a pointer to the first member with this word
abbrev pub member_pointer : List (Bytes × Bytes) → Bytes → Option Bytes
member_pointer [] word = None
member_pointer (member ∷ members) word =
    cond (same_bytes word member.0) (Some member.1) (member_pointer members word)

-- the spelling of a pointer to the part that a step leads to, and no bytes where it leads nowhere
abbrev pub part_pointer : Parts → Step → Bytes
part_pointer (Elements count pointer) (At z) = pointer
part_pointer (Components count pointer) (At z) = pointer
part_pointer (Members members) (Field word) = unwrap_or (member_pointer members word) []
part_pointer _ _ = []

-- the number of the component with this letter
abbrev pub component_number : Bytes → Option ℕ
component_number word =
    cond (same_bytes word (codes "x")) (Some 0) (
    cond (same_bytes word (codes "y")) (Some 1) (
    cond (same_bytes word (codes "z")) (Some 2) (
    cond (same_bytes word (codes "w")) (Some 3) None)))

-- the step to a component of a vector, if it has this one
abbrev pub step_to_component : (count : ℕ) → ℕ → Option Step
step_to_component count i = cond (nat_lt i count) (Some (At (pos i))) None

-- the step to an element: where it is known how many there are, it is one of them
abbrev pub step_to_element : (count : Option ℕ) → ℕ → Option Step
step_to_element (Some count) i = step_to_component count i
step_to_element None i = Some (At (pos i))

-- the step that a constant index, a letter or a member's word names, if there is one.
-- `.x` and `[0]` of a vector are one step, so are `.y` and `[1]`, and so on
abbrev pub step_to : Parts → Selector → Option Step
step_to (Elements count pointer) (ElementAt i) = step_to_element count i
step_to (Components count pointer) (ElementAt i) = step_to_component count i
step_to (Components count pointer) (MemberNamed word) =
    option_and_then (step_to_component count) (component_number word)
step_to (Members members) (MemberNamed word) =
    option_map (λ pointer. Field word) (member_pointer members word)
step_to _ _ = None

-- each of these letters names a component of a vector with so many
abbrev pub are_components : (count : ℕ) → Bytes → Bool
are_components count [] = true
are_components count (letter ∷ letters) =
    option_map_or (λ i. nat_lt i count) (component_number (letter ∷ [])) false
    && are_components count letters

-- the selector takes several components of a vector, two to four
abbrev pub takes_several : Parts → Selector → Bool
takes_several (Components count pointer) (MemberNamed (a ∷ b ∷ letters)) =
    nat_lt (length letters) 3 && are_components count (a ∷ b ∷ letters)
takes_several _ _ = false

-- the step to which a computed index leads. An index past the end is not judged here
abbrev pub step_at : Parts → ℤ → Option Step
step_at (Elements count pointer) z = Some (At z)
step_at (Components count pointer) z = Some (At z)
step_at _ z = None

-- the spelling of a pointer to a variable
abbrev pub origin_type : Origin → Bytes
origin_type (GlobalOrigin pointer index) = pointer
origin_type (LocalOrigin pointer entries index) = pointer

-- the spelling of a pointer to a place: a place knows its type, by its variable and its steps
abbrev pub place_type : PartTypes → Place → Bytes
place_type parts (AtOrigin root) = origin_type root
place_type parts (Part place step) = part_pointer (parts (place_type parts place)) step

-- the part of a place to which a computed index leads, if it has such parts
abbrev pub element_place : PartTypes → Place → ℤ → Option Place
element_place parts place z = option_map (Part place) (step_at (parts (place_type parts place)) z)

-- the part of a place that a selector names, if it has this one
abbrev pub place_to : PartTypes → Place → Selector → Option Place
place_to parts place x = option_map (Part place) (step_to (parts (place_type parts place)) x)

-- a value's type: `bool`, or the spelling of an integer's, a pointer's or any other type
pub data ValueType : Type 0 where
  BooleanType : ValueType
  IntegerType : (spelling : Bytes) → ValueType
  PointerType : (spelling : Bytes) → ValueType
  OtherType : (spelling : Bytes) → ValueType

-- a payload stands for whatever a value of another type is
pub data Value : Type 0 where
  Truth : Bool → Value
  Whole : (spelling : Bytes) → ℤ → Value
  Pointer : Place → Value
  Opaque : (spelling : Bytes) → (payload : ℕ) → Value

-- a value's truth value
abbrev pub truth_in : Value → Option Bool
truth_in (Truth b) = Some b
truth_in _ = None

-- a value's integer
abbrev pub integer_in : Value → Option ℤ
integer_in (Whole spelling z) = Some z
integer_in _ = None

-- a value's place
abbrev pub place_in : Value → Option Place
place_in (Pointer p) = Some p
place_in _ = None

-- a value's type
abbrev pub type_of : PartTypes → Value → ValueType
type_of parts (Truth b) = BooleanType
type_of parts (Whole spelling z) = IntegerType spelling
type_of parts (Pointer p) = PointerType (place_type parts p)
type_of parts (Opaque spelling payload) = OtherType spelling

-- equal types
abbrev pub same_type : ValueType → ValueType → Bool
same_type BooleanType BooleanType = true
same_type (IntegerType a) (IntegerType b) = same_bytes a b
same_type (PointerType a) (PointerType b) = same_bytes a b
same_type (OtherType a) (OtherType b) = same_bytes a b
same_type _ _ = false

-- the value has this type
abbrev pub has_type : PartTypes → ValueType → Value → Bool
has_type parts t v = same_type t (type_of parts v)

-- as many values as types, each of its type
abbrev pub has_types : PartTypes → List ValueType → List Value → Bool
has_types parts [] [] = true
has_types parts [] (v ∷ vs) = false
has_types parts (t ∷ ts) [] = false
has_types parts (t ∷ ts) (v ∷ vs) = has_type parts t v && has_types parts ts vs

-- the type at an index
abbrev pub type_at : List ValueType → ℕ → ValueType
type_at ts i = get_or ts i BooleanType

-- an operator: a sign, a function or a type by its spelling, a member or element of a value, or an
-- index into a value
pub data Word : Type 0 where
  Spelled : Bytes → Word
  PartWord : Selector → Word
  IndexWord : Word

-- `&&` and `||`
pub data ShortCircuit : Type 0 where
  ShortCircuitAnd : ShortCircuit
  ShortCircuitOr : ShortCircuit

-- its sign
abbrev pub short_circuit_word : ShortCircuit → Bytes
short_circuit_word ShortCircuitAnd = codes "&&"
short_circuit_word ShortCircuitOr = codes "||"

-- the left side's value decides
abbrev pub is_decided : ShortCircuit → Bool → Bool
is_decided ShortCircuitAnd true = false
is_decided ShortCircuitAnd false = true
is_decided ShortCircuitOr true = true
is_decided ShortCircuitOr false = false
