-- From how many uses on a `let` binds an expression, by its kind. This is the one table of it: the
-- runs know of each expression only whether it is used so often.
--
-- Throughout, h is a handle, e an expression, es are those of a function, and known is what is
-- known of them.
use Rattle.std.specs.Prelude.{ℕ, Bool, List, map, nat_le, get_or}
use Rattle.std.specs.List.{enumerate_from}
use Rattle.naga_ir.specs.declared.expression.Expression as ir
use Rattle.naga_ir.specs.declared.expression.Expression.TheVariants as expression
use Rattle.naga_info.specs.declared.info.ExpressionInfo.{ExpressionInfo}
use Rattle.naga_back.specs.Baking.{count_to_bind}

-- An operation on an image is bound without a use. Any other expression is bound from naga's number
-- of uses on, but the load of a cooperative matrix from one on, since that reads memory.
abbrev pub uses_to_bind : ir.Expression → ℕ
uses_to_bind
    (expression.ImageSample
    image sampler gather coordinate array_index offset level depth_ref clamp) =
    0
uses_to_bind (expression.ImageLoad image coordinate array_index sample level) = 0
uses_to_bind (expression.ImageQuery image query) = 0
uses_to_bind (expression.CooperativeLoad columns rows role place) = 1
uses_to_bind e = count_to_bind e

-- it is used as often as a `let` asks
abbrev pub is_bound_by_uses : ir.Expression → (uses : ℕ) → Bool
is_bound_by_uses e uses = nat_le (uses_to_bind e) uses

-- how often the expression with this handle is used; one of which nothing is known, not at all
abbrev pub uses_of : List ExpressionInfo → ℕ → ℕ
uses_of known h = get_or (map (λ k. k.ref_count) known) h 0

-- whether each of these expressions is used as often as a `let` asks
abbrev pub are_bound_by_uses : List ir.Expression → List ExpressionInfo → List Bool
are_bound_by_uses es known =
    map (λ p. is_bound_by_uses p.1 (uses_of known p.0)) (enumerate_from 0 es)
