use Rattle.std.proofs.Common.{◌≡◌, ◌∙◌, List, ℕ, ap, refl, sym}
use Rattle.module_semantics.specs.Names.{module_names}
use Rattle.naga_form.specs.Attributes.{stage_attributes}
use Rattle.naga_ir.specs.declared.module.EntryPoint.{EntryPoint}
use Rattle.naga_ir.specs.declared.module.Module.{Module}
use Rattle.naga_ir.specs.declared.module.ShaderStage.{ShaderStage}
use Rattle.naga_words.proofs.Writing.{writes_as}
use Rattle.wgsl_text.specs.Attributes.{AnyHit, ClosestHit, Fragment, Miss, RayGeneration, Vertex}
use Rattle.naga_wgsl_shared.proofs.StageRows.{hit_is, plain_row}
use Rattle.naga_wgsl_shared.specs.Attributes.{attributes_text}
use Rattle.naga_wgsl_shared.proofs.module_text.ModuleText.write_stage_attributes.Goals as goal

-- the text of the stage that the entry point is for
own : (m : Module) (e : EntryPoint) (s : ShaderStage) (text : List ℕ) → e.stage ≡ s →
    text ≡ attributes_text (stage_attributes (module_names m) e s) →
    text ≡ attributes_text (stage_attributes (module_names m) e e.stage)
own m e s text is row =
    row ∙ ap (λ s. attributes_text (stage_attributes (module_names m) e s)) (sym is)

pub returns-in-Vertex : goal.returns-in-Vertex
returns-in-Vertex g c =
    writes_as
    (own c.args.self.now.shader.now c.args.entry_point.now _ _ c.in-Vertex.is (sym (plain_row Vertex)))
    c.put.ensures

pub returns-in-Fragment : goal.returns-in-Fragment
returns-in-Fragment g c =
    writes_as
    (own c.args.self.now.shader.now c.args.entry_point.now _ _ c.in-Fragment.is (sym (plain_row Fragment)))
    c.put-in-Fragment.ensures

pub returns-in-RayGeneration : goal.returns-in-RayGeneration
returns-in-RayGeneration g c =
    writes_as
    (own c.args.self.now.shader.now c.args.entry_point.now _ _ c.in-RayGeneration.is (sym (plain_row RayGeneration)))
    c.put-in-RayGeneration.ensures

pub returns-in-Compute : goal.returns-in-Compute
returns-in-Compute g c =
    writes_as
    (own c.args.self.now.shader.now c.args.entry_point.now _ _ c.in-Compute.is
    refl)
    c.write_compute.ensures

pub returns-in-AnyHit : goal.returns-in-AnyHit
returns-in-AnyHit g c =
    writes_as
    (own c.args.self.now.shader.now c.args.entry_point.now _ _ c.in-AnyHit.is
    (hit_is c.args.self.now.shader.now AnyHit c.args.entry_point.now.incoming_ray_payload))
    c.write_hit.ensures

pub returns-in-ClosestHit : goal.returns-in-ClosestHit
returns-in-ClosestHit g c =
    writes_as
    (own c.args.self.now.shader.now c.args.entry_point.now _ _ c.in-ClosestHit.is
    (hit_is c.args.self.now.shader.now ClosestHit c.args.entry_point.now.incoming_ray_payload))
    c.write_hit-in-ClosestHit.ensures

pub returns-in-Miss : goal.returns-in-Miss
returns-in-Miss g c =
    writes_as
    (own c.args.self.now.shader.now c.args.entry_point.now _ _ c.in-Miss.is
    (hit_is c.args.self.now.shader.now Miss c.args.entry_point.now.incoming_ray_payload))
    c.write_hit-in-Miss.ensures
