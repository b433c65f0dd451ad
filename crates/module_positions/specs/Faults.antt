-- What is told of a fault, at which a module is not accepted.
--
-- Throughout, m is a module, info what is known of it, u a position with a kind of fault, and from
-- what the JSON holds by which the position is told.
use Rattle.std.specs.Prelude.{◌≡◌, ℕ, List, ◌++◌, codes, string_bytes, Option, Some, None}
use Rattle.naga_ir.specs.declared.module.Module.{Module}
use Rattle.naga_info.specs.declared.info.ModuleInfo.{ModuleInfo}
use Rattle.naga_acceptance.specs.FaultTexts.{fault_text}
use Rattle.naga_acceptance.specs.declared.faults.Fault.{Fault}
use Rattle.naga_acceptance.specs.declared.faults.FaultPosition.{FaultPosition}
use Rattle.naga_acceptance.specs.declared.faults.Unaccepted.{Unaccepted}
use Rattle.fault_details.specs.Reasons.{fault_reason}
use Rattle.fault_details.specs.Texts.{mismatch_text}
use Rattle.fault_details.specs.Told.{TellsOf}
use Rattle.fault_details.specs.declared.mismatch.Mismatch.{Mismatch}
use Rattle.fault_details.specs.declared.mismatch.Mismatch.TheVariants as mismatch
use Rattle.module_positions.specs.Labels.{label_of}
use Rattle.module_positions.specs.declared.positions.JsonHolder.{JsonHolder}
use Rattle.module_positions.specs.Positions.{IsLabelled, json_position}

-- an item by its position, with the label there
abbrev pub TellsPosition : JsonHolder → Module → FaultPosition → (text : List ℕ) → Type 0
TellsPosition from m at text = IsLabelled (label_of m at) (json_position from at) text

-- What was expected, and what stands there; another use of an operator is told by its position in the
-- JSON: `expected i32 as at module.functions[0].expressions[1], in "half", got f32`.
abbrev pub TellsMismatch : JsonHolder → Module → Mismatch → (text : List ℕ) → Type 0
TellsMismatch from m (mismatch.Use at ty got) text =
    (position : List ℕ) × TellsPosition from m at position
    × (text ≡ codes "expected " ++ (string_bytes ty ++ (codes " as at " ++ (position
    ++ (codes ", got " ++ string_bytes got)))))
TellsMismatch from m expected text = text ≡ mismatch_text expected

-- that after the kind of fault, if more can be told than the kind
abbrev pub TellsKind : JsonHolder → Module → Fault → Option Mismatch → (text : List ℕ) → Type 0
TellsKind from m kind None text = text ≡ fault_text kind
TellsKind from m kind (Some expected) text =
    (reason : List ℕ) × TellsMismatch from m expected reason
    × (text ≡ fault_text kind ++ (codes ": " ++ reason))

-- the kind of fault and what was expected: `the initialiser is of another type: expected f32, got i32`
abbrev pub TellsFault :
    JsonHolder → Module → ModuleInfo → Unaccepted → (text : List ℕ) → Type 0
TellsFault from m info u text =
    (expected : Option Mismatch) × TellsOf m (fault_reason m info u) expected
    × TellsKind from m u.fault expected text

-- the same after its position
abbrev pub TellsFaultAt : JsonHolder → Module → ModuleInfo → Unaccepted → (line : List ℕ) → Type 0
TellsFaultAt from m info u line =
    (position text : List ℕ) × TellsPosition from m u.item position × TellsFault from m info u text
    × (line ≡ position ++ (codes ": " ++ text))
