-- What a ray met, as a number in a shader.
use Rattle.std.specs.Prelude.{ℕ}
use Rattle.naga_back.specs.declared.rays.RayIntersectionType.{RayIntersectionType}
use Rattle.naga_back.specs.declared.rays.RayIntersectionType.TheVariants.{Triangle, BoundingBox}

-- the numbers that shaders know these by
abbrev pub intersection_number : RayIntersectionType → ℕ
intersection_number Triangle = 1
intersection_number BoundingBox = 4
