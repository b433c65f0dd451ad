-- The texts of the stages of entry points.
--
-- Throughout, m is a module, e an entry point of it, front is what stands in front of a variable,
-- and x, y and z are the parts of a workgroup's size.
use Rattle.std.specs.Prelude.{◌≡◌, ℕ, List, [], ◌++◌, codes, decimal, IsTrue, Option, Some, None}
use Rattle.std.specs.Prelude.{length}
use Rattle.std.specs.Option.{option_map}
use Rattle.naga_ir.specs.declared.module.EntryPoint.{EntryPoint}
use Rattle.naga_ir.specs.declared.module.MeshStageInfo.{MeshStageInfo}
use Rattle.naga_ir.specs.declared.module.Module.{Module}
use Rattle.module_semantics.specs.Names.{global_name, module_names}
use Rattle.module_semantics.specs.WorkgroupSizes.{size_parts}
use Rattle.module_semantics.specs.acceptance.Ranges.{is_below, size_overrides_fit}
use Rattle.naga_form.specs.Attributes.{size_attributes, stage_attributes}
use Rattle.wgsl_text.specs.Attributes.{SizePart, FixedSize, NamedSize}
use Rattle.naga_wgsl_shared.specs.Attributes.{attributes_text, worded_text}

-- the variables and overrides that an entry point names are there, and a workgroup has a size along
-- each of three axes
pub record StageIsThere (m : Module) (e : EntryPoint) : Type 0 where
  pub output : IsTrue (is_below (length m.global_variables)
      (option_map (λ k. k.output_variable) e.mesh_info))
  pub payload : IsTrue (is_below (length m.global_variables) e.task_payload)
  pub incoming : IsTrue (is_below (length m.global_variables) e.incoming_ray_payload)
  pub overrides : IsTrue (size_overrides_fit m e)
  pub axes : length e.workgroup_size ≡ 3
  pub override_axes : length e.workgroup_size_overrides ≡ 3

-- the attributes of its stage, and the line end after them
unfoldable pub stage_text : Module → EntryPoint → List ℕ
stage_text m e = attributes_text (stage_attributes (module_names m) e e.stage) ++ codes "\n"

-- ---- parts
-- an attribute with a variable, if there is one
unfoldable pub variable_text : Module → (front : List ℕ) → (variable : Option ℕ) → List ℕ
variable_text m front None = []
variable_text m front (Some v) = worded_text front (global_name (module_names m) v)

-- a stage that answers a ray, with its payload
unfoldable pub hit_text : Module → (stage : List ℕ) → (payload : Option ℕ) → List ℕ
hit_text m stage payload = stage ++ variable_text m (codes "@incoming_payload(") payload

-- the output of a mesh stage
unfoldable pub output_text : Module → Option MeshStageInfo → List ℕ
output_text m output = variable_text m (codes "@mesh(") (option_map (λ k. k.output_variable) output)

-- the size of a workgroup along an axis: the number, or the name of the override that sets it
unfoldable pub part_text : SizePart → List ℕ
part_text (FixedSize n) = decimal n
part_text (NamedSize w) = w

-- its size along each axis
unfoldable pub size_text : (x y z : SizePart) → List ℕ
size_text x y z =
    codes "@workgroup_size(" ++
    ((part_text x ++ codes ", ") ++ ((part_text y ++ codes ", ") ++ (part_text z ++ codes ") ")))

-- the attribute of an entry point
abbrev pub own_size_text : Module → EntryPoint → List ℕ
own_size_text m e = attributes_text (size_attributes (size_parts (module_names m) e))
