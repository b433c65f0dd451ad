-- What is mixed of a type's levels, one after another, is what is mixed of all their numbers.
use Rattle.std.proofs.Common.{◌≡◌, ℕ, true, List, [], refl, sym}
use Rattle.std.proofs.Common.{Option, Some, None, unwrap_or, true≢false}
use Rattle.std.specs.Option.{is_some}
use Rattle.naga_acceptance.proofs.Views.{following}
use Rattle.naga_acceptance.specs.Uses.{all_mixed}
use Rattle.naga_acceptance.specs.Views.{numbers}
use Rattle.naga_acceptance.specs.declared.type_numbers.Level.{Level}

-- the numbers after a level are mixed into what is mixed of the level
pub level_then : (h : ℕ) (l : Level) (o : Option (List ℕ)) → is_some o ≡ true →
    all_mixed h (unwrap_or (following l o) []) ≡ all_mixed (all_mixed h (numbers l)) (unwrap_or o [])
level_then h l None some = absurd (true≢false (sym some))
level_then h l (Some xs) some = refl
