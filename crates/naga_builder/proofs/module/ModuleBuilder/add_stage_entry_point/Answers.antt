use Rattle.std.proofs.Common.{◌≡◌, ℕ, List, [], ◌∷◌, length, get_or, arith, refl}
use Rattle.std.proofs.lemmas.Grind.{common_steps}
use Rattle.naga_builder.proofs.module.ModuleBuilder.add_stage_entry_point.Goals as goal

-- three elements, one by one, are the list
three : {A : Type 0} (xs : List A) (x y z : A) → length xs ≡ 3 →
    get_or xs 0 x ∷ get_or xs 1 y ∷ get_or xs 2 z ∷ [] ≡ xs
three [] x y z e = absurd (cc)
three (a ∷ []) x y z e = grind (arith)
three (a ∷ b ∷ []) x y z e = grind (arith)
three (a ∷ b ∷ c ∷ []) x y z e = refl
three (a ∷ b ∷ c ∷ d ∷ xs) x y z e = grind (arith)

pub returns-clause-ok : goal.returns-clause-ok
returns-clause-ok c = record {
  entry_point_added = record {
    name = c.in_ok-name.name;
    stage = c.args.stage;
    workgroup_size = c.args.workgroup_size;
    workgroup_size_overrides =
        get_or c.args.parts.workgroup_size_overrides 0 c.index-parts-0.result ∷
        get_or c.args.parts.workgroup_size_overrides 1 c.index-parts-1.result ∷
        get_or c.args.parts.workgroup_size_overrides 2 c.index-parts-2.result ∷ [];
    function = c.into_parts-function.result.0;
    mesh_info = c.args.parts.mesh_info;
    task_payload = c.args.parts.task_payload;
    incoming_ray_payload = c.args.parts.incoming_ray_payload;
  };
  entry_points = grind (arith, common_steps);
  labelled = c.in_ok-name.ensures.ok;
  stage_is = refl;
  size = refl;
  size_overrides = three c.args.parts.workgroup_size_overrides _ _ _;
  function = c.into_parts-function.ensures.function;
  mesh = refl;
  task = refl;
  ray = refl;
  others = refl;
  known = grind (arith, common_steps);
  rest = refl;
}
