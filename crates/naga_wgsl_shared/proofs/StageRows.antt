-- The texts of the stages of entry points, from what is written of them in turn.
-- Serves 9 contracts, `write_stage` among them.
--
-- Throughout, m is a module, e an entry point of it, front is what stands in front of a variable, and
-- x, y and z are the parts of a workgroup's size.
use Rattle.std.proofs.Common.{◌≡◌, ◌∙◌, ◌++◌, ℕ, List, [], ◌∷◌, append_assoc, ap, arith, codes}
use Rattle.std.proofs.Common.{decimal, get_or, length, refl, slice_get, sym}
use Rattle.std.specs.Prelude.{◌&&◌, ◌==◌, ◌<◌, true, Option, Some, None, IsTrue}
use Rattle.std.specs.List.{list_all}
use Rattle.std.specs.Option.{option_map}
use Rattle.std.proofs.lemmas.Bool.{and_parts}
use Rattle.std.proofs.lemmas.Bool.Decides.{nat_tests}
use Rattle.std.proofs.lemmas.List.{append-nil}
use Rattle.std.proofs.lemmas.Option.{slice_get-get_or}
use Rattle.naga_info.specs.declared.info.ModuleInfo.{ModuleInfo}
use Rattle.naga_ir.specs.declared.module.EntryPoint.{EntryPoint}
use Rattle.naga_ir.specs.declared.module.MeshStageInfo.{MeshStageInfo}
use Rattle.naga_ir.specs.declared.module.Module.{Module}
use Rattle.naga_ir.specs.declared.module.ShaderStage.TheVariants as stage
use Rattle.module_semantics.proofs.Lists.{list_all_at}
use Rattle.module_semantics.specs.acceptance.Accepted.{is_accepted}
use Rattle.module_semantics.specs.Names.{global_name, module_names, override_name}
use Rattle.module_semantics.specs.acceptance.AgreeingOperators.{module_operators_agree}
use Rattle.module_semantics.specs.acceptance.InfoSizes.{sizes_fit, type_is_fit}
use Rattle.module_semantics.specs.acceptance.Ranges.{all_by_handle, declarations_in_range}
use Rattle.module_semantics.specs.acceptance.Ranges.{entry_point_in_range, function_in_range}
use Rattle.module_semantics.specs.acceptance.Ranges.{is_below, module_in_range, module_ranges_fit}
use Rattle.module_semantics.specs.WorkgroupSizes.{size_part, size_parts, size_parts_of}
use Rattle.module_semantics.proofs.EntryPointRanges.{entry_point_fits}
use Rattle.naga_naming.specs.Keys.{NameMap}
use Rattle.module_semantics.specs.acceptance.Soundness.{module_is_sound}
use Rattle.naga_form.specs.Attributes.{attribute_of, payload_attributes, size_attributes}
use Rattle.naga_form.specs.Attributes.{stage_attributes}
use Rattle.naga_words.specs.Output.{joined_texts}
use Rattle.wgsl_text.specs.Attributes.{Attribute, Compute, IncomingPayload, Mesh, Payload, Plain}
use Rattle.wgsl_text.specs.Attributes.{PlainAttribute, Task, WorkgroupSize, Worded, WordedAttribute}
use Rattle.wgsl_text.specs.Attributes.{FixedSize, NamedSize, SizePart, plain_attribute_word, size_token}
use Rattle.wgsl_text.specs.Text.{token_text}
use Rattle.naga_wgsl_shared.proofs.AttributeRows.{attributes_then, no_attributes, worded_alone}
use Rattle.naga_wgsl_shared.proofs.AttributeRows.{worded_front}
use Rattle.naga_wgsl_shared.specs.Attributes.{attributes_text, worded_text}
use Rattle.naga_wgsl_shared.specs.Names.{name_of_override}
use Rattle.naga_wgsl_shared.specs.Stages.{StageIsThere, hit_text, output_text, own_size_text}
use Rattle.naga_wgsl_shared.specs.Stages.{part_text, size_text, stage_text, variable_text}

is_three : (n : ℕ) → (n == 3) ≡ true → n ≡ 3
is_three n e = grind (arith, nat_tests)

-- what an entry point of an accepted module names is there
pub stage_is_there : (m : Module) (info : ModuleInfo) → IsTrue (is_accepted m info) → (i : ℕ)
    (e : EntryPoint) → slice_get m.entry_points.items i ≡ Some e → StageIsThere m e
unfolding is_accepted module_ranges_fit
stage_is_there m info accepted i e at =
    let ranges = and_parts (module_ranges_fit m info)
    (module_is_sound m info && module_operators_agree m info) accepted in
    let types = and_parts (sizes_fit m info) _ ranges.0 in
    let known = and_parts (list_all type_is_fit m.types) _ types.1 in
    let all = and_parts (module_in_range m) _ known.1 in
    let declared = and_parts (declarations_in_range m) _ all.0 in
    let points = and_parts (all_by_handle (function_in_range m) m.functions)
    (list_all (entry_point_in_range m) m.entry_points.items) declared.1 in
    let own = list_all_at (entry_point_in_range m) m.entry_points.items i e points.1 at in
    let fits = entry_point_fits m e own in
    let sizes = and_parts (length e.workgroup_size == 3) _ fits.sizes in
    let overrides = and_parts (length e.workgroup_size_overrides == 3) _ sizes.1 in
    record {
      output = fits.output;
      payload = fits.payload;
      incoming = fits.incoming;
      overrides = fits.overrides;
      axes = is_three (length e.workgroup_size) sizes.0;
      override_axes = is_three (length e.workgroup_size_overrides) overrides.0;
    }

pub stage_row : (m : Module) (e : EntryPoint) →
    stage_text m e ≡
    joined_texts (attributes_text (stage_attributes (module_names m) e e.stage)) (codes "\n")
unfolding stage_text joined_texts
stage_row m e = refl

-- ---- stages without variables
pub plain_row : (a : PlainAttribute) →
    attributes_text (Plain a ∷ []) ≡ codes "@" ++ (plain_attribute_word a ++ codes " ")
unfolding attributes_text
plain_row a = refl

-- ---- the size of a workgroup
-- a part, as it is written
pub fixed_is : (n : ℕ) (suffix : List ℕ) → part_text (FixedSize n) ++ suffix ≡ decimal n ++ suffix
unfolding part_text
fixed_is n suffix = refl

pub named_is : (m : Module) (o : ℕ) (suffix : List ℕ) →
    part_text (NamedSize (override_name (module_names m) o)) ++ suffix ≡ joined_texts (name_of_override m o) suffix
unfolding part_text name_of_override joined_texts
named_is m o suffix = refl

part_is : (x : SizePart) → token_text (size_token x) ≡ part_text x
unfolding part_text
part_is (FixedSize n) = append-nil (decimal n)
part_is (NamedSize w) = refl

size_parts_row : (x y z : SizePart) →
    size_text x y z ≡
    joined_texts (codes "@workgroup_size(")
    (joined_texts (part_text x ++ codes ", ")
    (joined_texts (part_text y ++ codes ", ") (part_text z ++ codes ") ")))
unfolding size_text joined_texts
size_parts_row x y z = refl

size_is : (x y z : SizePart) → attributes_text (WorkgroupSize x y z ∷ []) ≡ size_text x y z
unfolding attributes_text size_text
size_is x y z =
    let last = part_text z ++ codes ") " in
    let rest = part_text y ++ (codes ", " ++ last) in
    (λ i. codes "@workgroup_size(" ++ (part_is x i ++
    (codes ", " ++ (part_is y i ++ (codes ", " ++ (part_is z i ++ codes ") "))))))
    ∙ ap (λ t. codes "@workgroup_size(" ++ t)
    (sym (append_assoc (part_text x) (codes ", ") rest)
    ∙ ap (λ t. (part_text x ++ codes ", ") ++ t) (sym (append_assoc (part_text y) (codes ", ") last)))

-- three items, each by itself, whatever stands for one that is not there
three : {A : Type 0} (xs : List A) (a b c : A) → length xs ≡ 3 →
    xs ≡ get_or xs 0 a ∷ get_or xs 1 b ∷ get_or xs 2 c ∷ []
three [] a b c is = absurd (omega (arith, is))
three (x ∷ []) a b c is = absurd (omega (arith, is))
three (x ∷ y ∷ []) a b c is = absurd (omega (arith, is))
three (x ∷ y ∷ z ∷ []) a b c is = refl
three (x ∷ y ∷ z ∷ w ∷ more) a b c is = absurd (omega (arith, is))

-- from its parts, along three axes
pub sizes_row : (names : NameMap) (sizes : List ℕ) (overrides : List (Option ℕ)) (d : ℕ) (a b c : Option ℕ) →
    length sizes ≡ 3 → length overrides ≡ 3 →
    joined_texts (codes "@workgroup_size(")
    (joined_texts (part_text (size_part names (get_or sizes 0 d) (get_or overrides 0 a)) ++ codes ", ")
    (joined_texts (part_text (size_part names (get_or sizes 1 d) (get_or overrides 1 b)) ++ codes ", ")
    (part_text (size_part names (get_or sizes 2 d) (get_or overrides 2 c)) ++ codes ") ")))
    ≡ attributes_text (size_attributes (size_parts_of names sizes overrides))
sizes_row names sizes overrides d a b c three_sizes three_overrides =
    let x = size_part names (get_or sizes 0 d) (get_or overrides 0 a) in
    let y = size_part names (get_or sizes 1 d) (get_or overrides 1 b) in
    let z = size_part names (get_or sizes 2 d) (get_or overrides 2 c) in
    sym (size_parts_row x y z)
    ∙ (sym (size_is x y z)
    ∙ (λ i. attributes_text
    (size_attributes
    (size_parts_of names (sym (three sizes d d d three_sizes) i) (sym (three overrides a b c three_overrides) i)))))

-- each of three overrides is there
pub setting_fits : (count : ℕ) (overrides : List (Option ℕ)) (o : Option ℕ) → length overrides ≡ 3 →
    list_all (is_below count) overrides ≡ true → (axis : ℕ) → axis < 3 →
    is_below count (get_or overrides axis o) ≡ true
setting_fits count overrides o is fit axis below =
    list_all_at (is_below count) overrides axis (get_or overrides axis o) fit
    (slice_get-get_or overrides axis o (omega (arith, is, below)))

-- ---- stages with variables
variable_row : (m : Module) (a : WordedAttribute) (variable : Option ℕ) →
    attributes_text (attribute_of (λ v. Worded a (global_name (module_names m) v)) variable) ≡
    variable_text m (worded_front a) variable
unfolding variable_text
variable_row m a None = no_attributes
variable_row m a (Some v) = worded_alone a (global_name (module_names m) v)

output_row : (m : Module) (output : Option MeshStageInfo) →
    attributes_text
    (attribute_of (λ i. Worded Mesh (global_name (module_names m) i.output_variable)) output) ≡
    output_text m output
unfolding output_text variable_text
output_row m None = no_attributes
output_row m (Some i) = worded_alone Mesh (global_name (module_names m) i.output_variable)

pub output_is : (m : Module) (i : MeshStageInfo) →
    worded_text (codes "@mesh(") (global_name (module_names m) i.output_variable) ≡
    output_text m (Some i)
unfolding output_text variable_text
output_is m i = refl

pub mesh_row : (m : Module) (e : EntryPoint) →
    attributes_text (stage_attributes (module_names m) e stage.Mesh) ≡
    joined_texts (output_text m e.mesh_info)
    (joined_texts (own_size_text m e)
    (variable_text m (codes "@payload(") e.task_payload))
mesh_row m e =
    let names = module_names m in
    let output = attribute_of (λ (i : MeshStageInfo). Worded Mesh (global_name names i.output_variable)) e.mesh_info in
    let sizes = size_attributes (size_parts names e) in
    attributes_then output (sizes ++ payload_attributes names e)
    ∙ (λ i. joined_texts (output_row m e.mesh_info i)
    (attributes_then sizes (payload_attributes names e) i))
    ∙ ap (λ t. joined_texts (output_text m e.mesh_info) (joined_texts (attributes_text sizes) t))
    (variable_row m Payload e.task_payload)

-- one in front of others
plain_then : (a : PlainAttribute) (more : List Attribute) →
    attributes_text (Plain a ∷ more) ≡
    joined_texts (codes "@" ++ (plain_attribute_word a ++ codes " ")) (attributes_text more)
plain_then a more =
    attributes_then (Plain a ∷ []) more
    ∙ ap (λ t. joined_texts t (attributes_text more)) (plain_row a)

pub compute_row : (m : Module) (e : EntryPoint) →
    joined_texts (codes "@compute ") (own_size_text m e) ≡
    attributes_text (stage_attributes (module_names m) e stage.Compute)
compute_row m e = sym (plain_then Compute (size_attributes (size_parts (module_names m) e)))

pub task_row : (m : Module) (e : EntryPoint) →
    attributes_text (stage_attributes (module_names m) e stage.Task) ≡
    joined_texts (codes "@task ")
    (joined_texts (variable_text m (codes "@payload(") e.task_payload)
    (own_size_text m e))
task_row m e =
    let payload = payload_attributes (module_names m) e in
    let sizes = size_attributes (size_parts (module_names m) e) in
    plain_then Task (payload ++ sizes)
    ∙ (ap (joined_texts (codes "@task ")) (attributes_then payload sizes)
    ∙ ap (λ t. joined_texts (codes "@task ") (joined_texts t (attributes_text sizes)))
    (variable_row m Payload e.task_payload))

pub hit_row : (m : Module) (front : List ℕ) (payload : Option ℕ) →
    hit_text m front payload ≡
    joined_texts front (variable_text m (codes "@incoming_payload(") payload)
unfolding hit_text joined_texts
hit_row m front payload = refl

-- of a stage that answers a ray
pub hit_is : (m : Module) (a : PlainAttribute) (payload : Option ℕ) →
    hit_text m (codes "@" ++ (plain_attribute_word a ++ codes " ")) payload ≡
    attributes_text
    (Plain a ∷ attribute_of (λ v. Worded IncomingPayload (global_name (module_names m) v)) payload)
hit_is m a payload =
    let front = codes "@" ++ (plain_attribute_word a ++ codes " ") in
    hit_row m front payload
    ∙ (ap (joined_texts front) (sym (variable_row m IncomingPayload payload))
    ∙ sym (plain_then a _))
