-- The variables and overrides that the attributes of an entry point name are those that the module
-- has there.
--
-- Throughout, names are those of the module m, find tells what each name stands for, e is an entry
-- point, v a variable, o an override, first and second are attributes, and ss and ts what they name.
use Rattle.std.proofs.Common.{◌≡◌, ℕ, ◌+◌, ◌<◌, ◌==◌, true, List, [], ◌∷◌, ◌++◌, Option, Some, None, refl}
use Rattle.std.proofs.Common.{sym, ap, ◌∙◌, arith, append-nil, eqb-true, length, map, slice_get, suc}
use Rattle.std.specs.List.{filter_map, flat_map, list_all}
use Rattle.std.specs.Option.{option_map}
use Rattle.std.proofs.lemmas.Bool.{and_parts, ltb-true}
use Rattle.std.proofs.lemmas.Grind.{flat_map-append}
use Rattle.std.proofs.lemmas.List.{map-append}
use Rattle.naga_info.specs.declared.info.ExpressionInfo.{ExpressionInfo}
use Rattle.naga_info.specs.declared.info.ModuleInfo.{ModuleInfo}
use Rattle.naga_ir.specs.declared.module.EntryPoint.{EntryPoint}
use Rattle.naga_ir.specs.declared.module.MeshStageInfo.{MeshStageInfo}
use Rattle.naga_ir.specs.declared.module.Module.{Module}
use Rattle.naga_ir.specs.declared.module.ShaderStage.{ShaderStage}
use Rattle.naga_ir.specs.declared.module.ShaderStage.TheVariants as stage
use Rattle.naga_naming.specs.Keys.{NameMap}
use Rattle.module_semantics.proofs.EntryPointRanges.{EntryPointFits}
use Rattle.module_semantics.specs.DeclaredItems.{overrides_meant, sizes_meant, stage_meant, variables_meant}
use Rattle.module_semantics.specs.ExpressionContexts.{override_number}
use Rattle.module_semantics.specs.Names.{global_name, LabelNames, override_name}
use Rattle.module_semantics.specs.WorkgroupSizes.{size_parts, size_parts_of}
use Rattle.module_semantics.specs.acceptance.Ranges.{is_below}
use Rattle.shader_runs.specs.Resolution.{ConstantTarget, GlobalTarget, Lookup, Target}
use Rattle.text_semantics.specs.Resolution.{names_in, size_name}
use Rattle.wgsl_text.specs.Attributes.{Attribute, IncomingPayload, Mesh, Payload, Worded}
use Rattle.naga_form.specs.Attributes.{attribute_of, payload_attributes, size_attributes}
use Rattle.naga_form.specs.Attributes.{stage_attributes}
use Rattle.naga_form.specs.Declarations.{entry_points_under}
use Rattle.naga_form.proofs.declarations.Attributes.{three_sizes}
use Rattle.naga_back.specs.declared.flags.WriterFlags.{WriterFlags}

module _ (names : NameMap) (m : Module) (find : Lookup) (found : (v : ℕ) → v < length m.global_variables →
    find (global_name names v) ≡ Some (GlobalTarget v)) (override_found : (o : ℕ) → o < length m.overrides →
    find (override_name names o) ≡ Some (ConstantTarget (override_number m o))) where
  -- the attributes name these
  abbrev pub AreNamed : List Attribute → List Target → Type 0
  AreNamed first ts = map find (flat_map names_in first) ≡ map Some ts

  joined : (first second : List Attribute) (ss ts : List Target) → AreNamed first ss →
      AreNamed second ts → AreNamed (first ++ second) (ss ++ ts)
  joined first second ss ts a b =
      ap (map find) (flat_map-append names_in first second)
      ∙ (map-append find (flat_map names_in first) (flat_map names_in second)
      ∙ ((λ i. a i ++ b i) ∙ sym (map-append Some ss ts)))

  -- a size names its override, and a number none
  parts_named : (sizes : List ℕ) (overrides : List (Option ℕ)) → length sizes ≡ length overrides →
      list_all (is_below (length m.overrides)) overrides ≡ true →
      map find (filter_map size_name (size_parts_of names sizes overrides)) ≡ map Some (overrides_meant m overrides)
  parts_named [] [] same below = refl
  parts_named [] (o ∷ overrides) same below = absurd (omega (arith, same))
  parts_named (n ∷ sizes) [] same below = absurd (omega (arith, same))
  parts_named (n ∷ sizes) (None ∷ overrides) same below =
      parts_named sizes overrides (omega (arith, same)) below
  parts_named (n ∷ sizes) (Some o ∷ overrides) same below =
      let both = and_parts (is_below (length m.overrides) (Some o)) _ below in
      let here = override_found o (ltb-true o (length m.overrides) both.0) in
      let rest = parts_named sizes overrides (omega (arith, same)) both.1 in
      λ i. here i ∷ rest i

  sizes_named : (e : EntryPoint) → EntryPointFits m e →
      AreNamed (size_attributes (size_parts names e)) (sizes_meant m e)
  sizes_named e fits =
      let ss = three_sizes names e.workgroup_size e.workgroup_size_overrides fits.sizes in
      let first = and_parts (length e.workgroup_size == 3) _ fits.sizes in
      let second = and_parts (length e.workgroup_size_overrides == 3) _ first.1 in
      ap (λ l. map find (flat_map names_in (size_attributes l))) ss.are
      ∙ (ap (map find) (append-nil (filter_map size_name (ss.x ∷ ss.y ∷ ss.z ∷ [])))
      ∙ (ap (λ l. map find (filter_map size_name l)) (sym ss.are)
      ∙ parts_named e.workgroup_size e.workgroup_size_overrides
      (eqb-true (length e.workgroup_size) 3 first.0
      ∙ sym (eqb-true (length e.workgroup_size_overrides) 3 second.0)) fits.overrides))

  one_found : (v : ℕ) → is_below (length m.global_variables) (Some v) ≡ true →
      find (global_name names v) ∷ [] ≡ Some (GlobalTarget v) ∷ []
  one_found v within = ap (λ o. o ∷ []) (found v (ltb-true v (length m.global_variables) within))

  mesh_named : (k : Option MeshStageInfo) →
      is_below (length m.global_variables) (option_map (λ k. k.output_variable) k) ≡ true →
      AreNamed (attribute_of (λ k. Worded Mesh (global_name names k.output_variable)) k)
      (variables_meant (option_map (λ k. k.output_variable) k))
  mesh_named None within = refl
  mesh_named (Some k) within = one_found k.output_variable within

  payload_named : (v : Option ℕ) → is_below (length m.global_variables) v ≡ true →
      AreNamed (attribute_of (λ v. Worded Payload (global_name names v)) v) (variables_meant v)
  payload_named None within = refl
  payload_named (Some v) within = one_found v within

  incoming_named : (v : Option ℕ) → is_below (length m.global_variables) v ≡ true →
      AreNamed (attribute_of (λ v. Worded IncomingPayload (global_name names v)) v) (variables_meant v)
  incoming_named None within = refl
  incoming_named (Some v) within = one_found v within

  stage_named : (e : EntryPoint) → EntryPointFits m e → (s : ShaderStage) →
      AreNamed (stage_attributes names e s) (stage_meant m e s)
  stage_named e fits stage.Compute = sizes_named e fits
  stage_named e fits stage.Mesh =
      joined (attribute_of (λ k. Worded Mesh (global_name names k.output_variable)) e.mesh_info)
      (size_attributes (size_parts names e) ++ payload_attributes names e)
      (variables_meant (option_map (λ k. k.output_variable) e.mesh_info))
      (sizes_meant m e ++ variables_meant e.task_payload) (mesh_named e.mesh_info fits.output)
      (joined (size_attributes (size_parts names e)) (payload_attributes names e) (sizes_meant m e)
      (variables_meant e.task_payload) (sizes_named e fits) (payload_named e.task_payload fits.payload))
  stage_named e fits stage.Task =
      joined (payload_attributes names e) (size_attributes (size_parts names e))
      (variables_meant e.task_payload) (sizes_meant m e) (payload_named e.task_payload fits.payload)
      (sizes_named e fits)
  stage_named e fits stage.AnyHit = incoming_named e.incoming_ray_payload fits.incoming
  stage_named e fits stage.ClosestHit = incoming_named e.incoming_ray_payload fits.incoming
  stage_named e fits stage.Miss = incoming_named e.incoming_ray_payload fits.incoming
  stage_named e fits _ = refl

  -- so it is of each entry point
  pub stages_named : (flags : WriterFlags) (labels : LabelNames) (info : ModuleInfo) (number : ℕ)
      (ps : List EntryPoint) (ess : List (List ExpressionInfo)) → length ps ≡ length ess →
      ((j : ℕ) (e : EntryPoint) → slice_get ps j ≡ Some e → EntryPointFits m e) →
      map (λ e. map find (flat_map names_in e.stage))
      (entry_points_under labels flags names m info number ps ess)
      ≡ map (map Some) (map (λ e. stage_meant m e e.stage) ps)
  stages_named flags labels info number [] ess size fits = refl
  stages_named flags labels info number (e ∷ ps) [] size fits = absurd (omega (arith, size))
  stages_named flags labels info number (e ∷ ps) (es ∷ ess) size fits =
      let here = stage_named e (fits 0 e refl) e.stage in
      let rest = stages_named flags labels info (number + 1) ps ess (omega (arith, size))
      (λ j e at. fits (suc j) e at) in
      λ i. here i ∷ rest i
