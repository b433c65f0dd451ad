-- What is displayed of what was expected, and of what stands there instead.
--
-- Throughout, h is the number of an item in its list, and n counts several things.
use Rattle.std.specs.Prelude.{ℕ, List, [], ◌++◌, ◌==◌, codes, decimal, if◌then◌else◌, string_bytes}
use Rattle.naga_ir.specs.declared.expression.SwizzleComponent.{SwizzleComponent}
use Rattle.naga_ir.specs.declared.expression.SwizzleComponent.TheVariants as component
use Rattle.naga_acceptance.specs.FaultTexts.{item_text as position_text}
use Rattle.fault_details.specs.declared.mismatch.Mismatch.{Mismatch}
use Rattle.fault_details.specs.declared.mismatch.Mismatch.TheVariants as mismatch
use Rattle.fault_details.specs.declared.words.Counted.{Counted}
use Rattle.fault_details.specs.declared.words.Counted.TheVariants as counted
use Rattle.module_semantics.specs.declared.named.ListName.{ListName}
use Rattle.module_semantics.specs.acceptance.NamedItems.{list_text}
use Rattle.fault_details.specs.declared.words.Need.{Need}
use Rattle.fault_details.specs.declared.words.Need.TheVariants as need
use Rattle.fault_details.specs.declared.words.TypeClass.{TypeClass}
use Rattle.fault_details.specs.declared.words.TypeClass.TheVariants as class

-- an item of a list, as `expressions[41]`
abbrev pub item_text : ListName → (h : ℕ) → List ℕ
item_text name h = list_text name ++ codes "[" ++ decimal h ++ codes "]"

-- what one thing is called
abbrev pub singular_text : Counted → List ℕ
singular_text counted.Arguments = codes "argument"
singular_text counted.Functions = codes "function"
singular_text counted.EntryPoints = codes "entry point"
singular_text counted.Expressions = codes "expression"
singular_text counted.GlobalExpressions = codes "global expression"

-- so many of it: `1 argument`, `2 arguments`
abbrev pub many_text : (n : ℕ) → Counted → List ℕ
many_text n of =
    decimal n ++ codes " " ++ singular_text of ++ (if n == 1 then [] else codes "s")

-- the types of a class
abbrev pub class_text : TypeClass → List ℕ
class_text class.Bool = codes "bool"
class_text class.Integer = codes "an integer"
class_text class.Selector = codes "i32 or u32"
class_text class.Components = codes "a scalar or a vector"
class_text class.Vector = codes "a vector"
class_text class.Composite = codes "a vector, a matrix, an array or a pointer to one of these"
class_text class.Pointer = codes "a pointer"
class_text class.ComponentsPointer = codes "a pointer to a scalar or a vector"
class_text class.AtomicPointer = codes "a pointer to an atomic"

-- a letter of a swizzle
abbrev pub letter_text : SwizzleComponent → List ℕ
letter_text component.X = codes "x"
letter_text component.Y = codes "y"
letter_text component.Z = codes "z"
letter_text component.W = codes "w"

-- what a statement needs beside types
abbrev pub need_text : Need → List ℕ
need_text need.LoopOrSwitch = codes "a loop or a switch to leave"
need_text need.Loop = codes "a loop to go on with"
need_text need.DistinctCaseValues = codes "case values that differ"
need_text need.Default = codes "a default case"
need_text need.End = codes "a last case that does not fall through"
need_text need.CalleeResult = codes "a callee with a result"
need_text need.OwnResult = codes "an expression that is its result"

-- the number of items that a list has: `is 1`, `are 12`
abbrev pub count_text : (n : ℕ) → List ℕ
count_text n = (if n == 1 then codes "is" else codes "are") ++ codes " " ++ decimal n

-- what was expected and what stands there: `expected vec4<f32>, got f32`
abbrev pub mismatch_text : Mismatch → List ℕ
mismatch_text (mismatch.Type ty got) =
    codes "expected " ++ string_bytes ty ++ codes ", got " ++ string_bytes got
mismatch_text (mismatch.KnownType gives known) =
    codes "the expression gives " ++ (string_bytes gives ++ (codes ", the info has " ++ string_bytes known))
mismatch_text (mismatch.Class any got) =
    codes "expected " ++ class_text any ++ codes ", got " ++ string_bytes got
mismatch_text (mismatch.Value ty) = codes "expected " ++ string_bytes ty ++ codes ", got nothing"
mismatch_text (mismatch.Nothing got) = codes "expected nothing, got " ++ string_bytes got
mismatch_text (mismatch.Item name h n) =
    codes "names " ++ (item_text name h ++ (codes ", of which there " ++ count_text n))
mismatch_text (mismatch.EarlierItem name h before n) =
    codes "names " ++ (item_text name h ++ (codes ", expected one before " ++ (item_text name before
    ++ (codes ", of " ++ decimal n))))
mismatch_text (mismatch.Number of n got) =
    codes "expected " ++ many_text n of ++ codes ", got " ++ decimal got
mismatch_text (mismatch.Part n got) =
    codes "expected an index below " ++ decimal n ++ codes ", got " ++ decimal got
mismatch_text (mismatch.Letter letter got) =
    codes "names ." ++ (letter_text letter ++ (codes ", which " ++ (string_bytes got ++
    codes " does not have")))
mismatch_text (mismatch.Use at ty got) =
    codes "expected " ++ (string_bytes ty ++ (codes " as at " ++ (position_text at ++ (codes ", got "
    ++ string_bytes got))))
mismatch_text (mismatch.Need it) = codes "expected " ++ need_text it
