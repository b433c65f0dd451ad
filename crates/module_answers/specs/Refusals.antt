-- What is told of what a module is refused for.
--
-- Throughout, m is a module, refusal a construct with its position, and from what the JSON holds by
-- which the position is told.
use Rattle.std.specs.Prelude.{◌≡◌, ℕ, List, ◌++◌, codes}
use Rattle.naga_ir.specs.declared.module.Module.{Module}
use Rattle.naga_refusals.specs.Constructs.{construct_text}
use Rattle.naga_wgsl_out.specs.declared.unwritable.Refusal.{Refusal}
use Rattle.module_positions.specs.Labels.{label_at}
use Rattle.module_positions.specs.Positions.{IsKnownText, IsLabelled, json_refusal_position}
use Rattle.module_positions.specs.Roles.{role_in}
use Rattle.module_positions.specs.ScopeRoots.{root_after, root_in}
use Rattle.module_positions.specs.declared.positions.JsonHolder.{JsonHolder}

-- The construct, and after a colon its position and the label there:
-- `float literal: module.functions[0].expressions[3], in statement 1, in "half"`. Of a construct of
-- whose words nothing is known there is some text.
abbrev pub TellsConstructAt : JsonHolder → Module → Refusal → (text : List ℕ) → Type 0
TellsConstructAt from m refusal text =
    (construct position : List ℕ) × IsKnownText (construct_text refusal.construct) construct
    × IsLabelled (label_at m refusal.position)
    (json_refusal_position from (role_in m refusal.position) refusal.position) position
    × (text ≡ construct ++ (codes ": " ++ position))

-- the same, and of an operand that is out of scope why it has no value
abbrev pub TellsRefusalAt : JsonHolder → Module → Refusal → (line : List ℕ) → Type 0
TellsRefusalAt from m refusal line =
    (text : List ℕ) × TellsConstructAt from m refusal text
    × (line ≡ text ++ root_after (root_in m refusal.position))
