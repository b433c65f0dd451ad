-- What the code's uses stand for, as they are looked for.
--
-- Throughout, e is the handle of an expression.
use Rattle.std.specs.Prelude.{ℕ, Option, Some, None}
use Rattle.naga_info.specs.declared.info.TypeResolution.{TypeResolution}
use Rattle.naga_acceptance.specs.declared.faults.FunctionPosition.{FunctionPosition}
use Rattle.naga_acceptance.specs.declared.faults.FunctionPosition.TheVariants as part
use Rattle.naga_acceptance.specs.declared.faults.FaultPosition.{FaultPosition}
use Rattle.naga_acceptance.specs.declared.other_uses.FoundUse.{FoundUse}
use Rattle.naga_acceptance.specs.declared.other_uses.OtherUse.{OtherUse}
use Rattle.naga_acceptance.specs.declared.other_uses.Seen.{Seen}
use Rattle.naga_acceptance.specs.declared.other_uses.Sited.{Sited}

-- an expression by its group and its number there
abbrev pub sited : Sited → ℕ × ℕ
sited site = (site.group, site.index)

-- a part of the function that is this group, where it is an expression
abbrev pub site_in : (group : ℕ) → FunctionPosition → Option (ℕ × ℕ)
site_in group (part.Expression e) = Some (group, e)
site_in group _ = None

-- a use in a group, by its number there and its type
abbrev pub seen : Seen → ℕ × TypeResolution
seen it = (it.index, it.ty.now)

-- one in the group of this number
abbrev pub found_use : FoundUse → ℕ × (ℕ × TypeResolution)
found_use found = (found.group, seen found.seen)

-- one by its position, with both types
abbrev pub other : OtherUse → FaultPosition × (TypeResolution × TypeResolution)
other it = (it.item, (it.there.now, it.here.now))
