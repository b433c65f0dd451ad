-- Each function of an accepted module of which all that is written has a form can be written; and the
-- texts of its parts, from what is written of them in turn.
-- Serves 17 contracts, `write_answer` among them.
use Rattle.std.proofs.Common.{◌≡◌, ℕ, ◌+◌, ◌-◌, ◌<◌, ◌≤◌, ◌==◌, zero, suc, add-one, arith, ne_eqb}
use Rattle.std.proofs.Common.{false, Option, None, Some, refl, sym, ap, subst, ◌∙◌, codes, List, []}
use Rattle.std.proofs.Common.{◌∷◌, ◌++◌, append_assoc, drop, length, slice_get, slice_index_or}
use Rattle.std.proofs.Common.{get_or, map, string_bytes, ◌^◌}
use Rattle.std.specs.declared.string.String.{String}
use Rattle.std.specs.Prelude.{if◌then◌else◌, unwrap_or, vec_len}
use Rattle.std.specs.Option.{option_map_or}
use Rattle.std.proofs.lemmas.Bool.{lt-ltb}
use Rattle.std.proofs.lemmas.List.{append-nil, drop_all}
use Rattle.std.proofs.lemmas.Option.{slice_get_read, slice_get_within, get_or_from_slice_get}
use Rattle.naga_ir.specs.declared.module.Function.{Function}
use Rattle.naga_ir.specs.declared.module.FunctionArgument.{FunctionArgument}
use Rattle.naga_ir.specs.declared.module.FunctionResult.{FunctionResult}
use Rattle.naga_ir.specs.declared.module.LocalVariable.{LocalVariable}
use Rattle.naga_ir.specs.declared.module.Module.{Module}
use Rattle.naga_info.specs.declared.info.ExpressionInfo.{ExpressionInfo}
use Rattle.naga_info.specs.declared.info.ModuleInfo.{ModuleInfo}
use Rattle.module_semantics.specs.DeclarationForms.{HeadHasForm, entry_point_numbered}
use Rattle.naga_form.specs.Expressions.{value_form}
use Rattle.naga_form.specs.Statements.{lines_form}
use Rattle.wgsl_text.specs.Functions.{Parameter, value_pieces, parameter_pieces}
use Rattle.wgsl_text.specs.Functions.{more_parameters_pieces, parameters_pieces, result_pieces}
use Rattle.wgsl_text.specs.Functions.{locals_pieces, group_end}
use Rattle.naga_form.specs.Functions.{locals_form, parameter_form, parameters_form, result_form}
use Rattle.wgsl_text.proofs.Text.{text-append}
use Rattle.naga_naming.proofs.Refusal.{element}
use Rattle.naga_form.proofs.statements.AcceptedFunctions.{of_number, ranges_of}
use Rattle.module_semantics.specs.FunctionNumbers.{IsFunctionOf, all_functions, all_infos}
use Rattle.module_semantics.specs.FunctionNumbers.{function_number}
use Rattle.wgsl_text.proofs.Functions.{value_text as value_row_text, locals_text as local_row_text}
use Rattle.wgsl_text.proofs.Functions.{function_text as function_row_text}
use Rattle.shader_runs.specs.Scope.{Handles}
use Rattle.module_semantics.specs.ExpressionLabels.{expression_labels}
use Rattle.module_semantics.specs.Names.{module_names}
use Rattle.module_semantics.specs.Written.{WrittenHaveForms}
use Rattle.naga_scope.specs.Availabilities.{TextPoint}
use Rattle.naga_scope.specs.declared.points.Availability.{Availability}
use Rattle.naga_words.specs.Output.{joined_texts}
use Rattle.wgsl_text.specs.Reading.{printed_expression, printed_type}
use Rattle.wgsl_text.specs.Text.{text}
use Rattle.naga_scope.specs.KnownModules.{IsKnownModule}
use Rattle.naga_wgsl_fns.specs.declared.functions.FunctionText.{FunctionText}
use Rattle.naga_wgsl_fns.specs.FunctionText.{handles_in, named_in, number, CanWrite, source, naming}
use Rattle.naga_wgsl_fns.specs.FunctionText.{let_annotation, type_names_of}
use Rattle.naga_back.specs.Flags.{annotates_types}
use Rattle.naga_wgsl_fns.specs.Names.{name_of_argument, name_of_function, name_of_local}
use Rattle.naga_wgsl_fns.specs.Types.{type_text}
use Rattle.naga_wgsl_fns.specs.Expressions.{value_text}
use Rattle.naga_wgsl_fns.specs.Statements.{block_text, lines_text}
use Rattle.naga_ir.proofs.Listed.{drop_first}
use Rattle.naga_wgsl_fns.specs.Functions.{StartsAt, answer_text, argument_text, arguments_text}
use Rattle.naga_wgsl_fns.specs.Functions.{body_text, first_form, first_text, first_value_text}
use Rattle.naga_wgsl_fns.specs.Functions.{form_of, function_text, group_end_text, head_text}
use Rattle.naga_wgsl_fns.specs.Functions.{known_of, local_form, local_text, local_text_of}
use Rattle.naga_wgsl_fns.specs.Functions.{locals_text, next_argument_text, result_text, separator}
use Rattle.naga_wgsl_fns.specs.Functions.{item_text, stage_before, text_of, text_under}
use Rattle.naga_wgsl_shared.specs.Attributes.{attributes_text}
use Rattle.naga_wgsl_shared.specs.Stages.{stage_text}
use Rattle.naga_form.specs.Attributes.{passing_attributes}
use Rattle.naga_form.proofs.statements.WrittenFunctions.{entry_point_at}
use Rattle.naga_back.specs.declared.context.FunctionType.TheVariants as item
use Rattle.naga_ir.specs.declared.module.EntryPoint.{EntryPoint}
use Rattle.wgsl_text.specs.Attributes.{attributes_pieces}

-- ---- what is wanted
-- what is known of a function is what is known of its number
known_is : (info : ModuleInfo) (g : ℕ) (es : List ExpressionInfo) → slice_get (all_infos info) g ≡ Some es →
    known_of info g ≡ es
known_is info g es at = ap (λ o. unwrap_or o []) at

pub can_write : (t : FunctionText) → IsKnownModule t.known → IsFunctionOf t.ty t.known.shader.now →
    slice_get (all_functions t.known.shader.now) (number t) ≡ Some t.function.now →
    slice_get (all_infos t.known.info.now) (number t) ≡ Some t.info.now →
    WrittenHaveForms (annotates_types t.known.flags) t.known.shader.now t.known.info.now t.function.now
    t.info.now → HeadHasForm t.known.shader.now (number t) →
    length (expression_labels t.function.now) < 2 ^ 64 → CanWrite t
can_write t can there here known formed head room =
    let m = t.known.shader.now in
    let info = t.known.info.now in
    let f = t.function.now in
    record {
      known = can;
      there = there;
      function = here;
      infos = known;
      ranges = ranges_of m info can.accepted t.ty there f here;
      size = (of_number m info can.accepted (number t) f t.info.now here known).size;
      formed = formed;
      head = head;
      room = room;
    }

-- the names that a plan has are those of its texts
pub names_read : {Y : Type 0} (names : List (String Y)) (number : ℕ) →
    option_map_or string_bytes (slice_get names number) [] ≡ get_or (map string_bytes names) number []
names_read [] number = refl
names_read (name ∷ names) zero = refl
names_read (name ∷ names) (suc number) = names_read names number

-- the same where they were put into a slice
pub names_same : {Y : Type 0} (slice names : List (String Y)) (named : List (List ℕ)) →
    slice ≡ names → map string_bytes names ≡ named → (number : ℕ) →
    option_map_or string_bytes (slice_get slice number) [] ≡ get_or named number []
names_same slice names named same are number =
    ap (λ xs. option_map_or string_bytes (slice_get xs number) []) same
    ∙ (names_read names number ∙ ap (λ ns. get_or ns number []) are)

-- the text of a function that there is
pub text_under_names : (t : FunctionText) →
    slice_get (all_functions t.known.shader.now) (number t) ≡ Some t.function.now →
    slice_get (all_infos t.known.info.now) (number t) ≡ Some t.info.now →
    text_under t.known.shader.now t.known.info.now t.known.flags (named_in t) (number t) ≡ item_text t
unfolding item_text function_text
text_under_names t here known =
    let m = t.known.shader.now in
    let info = t.known.info.now in
    let form = λ (f : Function) (es : List ExpressionInfo).
    text_of m info t.known.flags (named_in t) (number t) f es in
    ap (λ o. option_map_or (λ f. form f (known_of info (number t))) o []) here
    ∙ ap (form t.function.now) (known_is info (number t) t.info.now known)

-- ---- the head
pub head_row : (f : FunctionText) →
    head_text f ≡ joined_texts (codes "fn ")
    (joined_texts (name_of_function f)
    (joined_texts (codes "(")
    (joined_texts (arguments_text f) (joined_texts (result_text f) (codes " {\n")))))
unfolding head_text joined_texts
head_row f = refl

pub argument_row : (f : FunctionText) (number : ℕ) (a : FunctionArgument) →
    argument_text f number a ≡
    joined_texts (attributes_text (passing_attributes a.binding))
    (joined_texts (name_of_argument f number) (joined_texts (codes ": ") (type_text f a.ty)))
unfolding argument_text attributes_text name_of_argument type_text joined_texts
argument_row f number a = text-append (attributes_pieces (passing_attributes a.binding)) _

pub next_argument_row : (f : FunctionText) (number : ℕ) (a : FunctionArgument) → next_argument_text f number a
    ≡ joined_texts (separator number) (argument_text f number a)
unfolding next_argument_text joined_texts
next_argument_row f number a = refl

pub answer_row : (f : FunctionText) (r : FunctionResult) →
    answer_text f r ≡
    joined_texts (codes " -> ")
    (joined_texts (attributes_text (passing_attributes r.binding)) (type_text f r.ty))
unfolding answer_text joined_texts
answer_row f r = refl

abbrev pub result_at : FunctionText → Option FunctionResult → List ℕ
result_at f None = []
result_at f (Some r) = answer_text f r

pub result_row : (f : FunctionText) → result_text f ≡ result_at f f.function.now.result
unfolding result_text answer_text type_text attributes_text
result_row f = by f.function.now.result
  where
    by : (r : Option FunctionResult) → text (result_pieces (result_form (type_names_of f) r)) ≡ result_at f r
    by None = refl
    by (Some r) =
        ap (λ t. codes " -> " ++ t) (text-append (attributes_pieces (passing_attributes r.binding)) _)

-- what is left of the arguments from this number on, with the parenthesis after the last
abbrev pub arguments_left : FunctionText → ℕ → List FunctionArgument → List ℕ
arguments_left f zero more =
    text (parameters_pieces
    (parameters_form (module_names f.known.shader.now) f.known.shader.now (number f) zero more))
arguments_left f (suc n) more =
    text (more_parameters_pieces
    (parameters_form (module_names f.known.shader.now) f.known.shader.now (number f) (suc n) more))

pub arguments_start : (f : FunctionText) → arguments_text f ≡ arguments_left f 0 f.function.now.arguments.items
unfolding arguments_text
arguments_start f = refl

arguments_row : (f : FunctionText) (n : ℕ) (a : FunctionArgument) (more : List FunctionArgument) →
    arguments_left f n (a ∷ more) ≡ joined_texts (next_argument_text f n a)
    (arguments_left f (n + 1) more)
unfolding next_argument_text argument_text joined_texts
arguments_row f n a more = by n
  where
    form : ℕ → List FunctionArgument → List Parameter
    form n more = parameters_form (module_names f.known.shader.now) f.known.shader.now (number f) n more

    later : (n : ℕ) → text (more_parameters_pieces (form (n + 1) more)) ≡ arguments_left f (n + 1) more
    later n = rw add-one refl

    split : (n : ℕ) →
        text (parameter_pieces
        (parameter_form (module_names f.known.shader.now) f.known.shader.now (number f) n a) ++
        more_parameters_pieces (form (n + 1) more)) ≡ argument_text f n a ++ arguments_left f
        (n + 1) more
    split n =
        text-append
        (parameter_pieces
        (parameter_form (module_names f.known.shader.now) f.known.shader.now (number f) n a))
        (more_parameters_pieces (form (n + 1) more))
        ∙ ap (λ t. argument_text f n a ++ t) (later n)

    by : (n : ℕ) → arguments_left f n (a ∷ more) ≡ (separator n ++ argument_text f n a) ++ arguments_left f (n + 1) more
    by zero = split zero
    by (suc n) =
        let next : (suc n == 0) ≡ false = ne_eqb (suc n) 0 (λ same. absurd (omega arith))
        in rw next (ap (λ t. codes ", " ++ t) (split (suc n)))

-- a loop over arguments: one more, and none
pub arguments_more : (f : FunctionText) (n : ℕ) (items : List FunctionArgument) (a : FunctionArgument) →
    n < length items → a ≡ slice_index_or items n a
    → arguments_left f n (drop n items) ≡ joined_texts (next_argument_text f n a)
    (arguments_left f (n + 1) (drop (n + 1) items))
arguments_more f n items a lt is = ap (arguments_left f n) (drop_first n items a lt is)
    ∙ arguments_row f n a (drop (n + 1) items)

pub arguments_none : (f : FunctionText) (n : ℕ) (items : List FunctionArgument) → length items ≤ n →
    arguments_left f n (drop n items) ≡ codes ")"
arguments_none f n items past = ap (arguments_left f n) (drop_all n items past) ∙ by n
  where
    by : (n : ℕ) → arguments_left f n [] ≡ codes ")"
    by zero = refl
    by (suc n) = refl

-- ---- the locals
pub first_value_row : (f : FunctionText) (table : List Availability) (value : ℕ) →
    StartsAt f table →
    joined_texts (codes " = ") (joined_texts (value_text f table value) (codes ";\n")) ≡
    first_value_text f value
unfolding first_value_text value_text joined_texts
first_value_row f table value start =
    ap (λ (s : Handles). codes " = " ++ (printed_expression (value_form (naming f) (source f) s value)
    ++ codes ";\n")) start
    ∙ sym (value_row_text (first_form f value))

abbrev pub first_at : FunctionText → (value : Option ℕ) → List ℕ
first_at f None = codes ";\n"
first_at f (Some value) = first_value_text f value

pub first_row : (f : FunctionText) (value : Option ℕ) → first_text f value ≡ first_at f value
unfolding first_text first_value_text
first_row f None = refl
first_row f (Some value) = refl

-- a local that there is
pub local_row : (f : FunctionText) (handle : ℕ) (local : LocalVariable) →
    slice_get f.function.now.local_variables handle ≡ Some local
    → local_text f handle ≡ joined_texts (codes "    var ")
    (joined_texts (name_of_local f handle)
    (joined_texts (codes ": ") (joined_texts (type_text f local.ty) (first_text f local.init))))
unfolding local_text name_of_local type_text first_text joined_texts
local_row f handle local at =
    ap (λ o. option_map_or (local_text_of f handle) o []) at
    ∙ (local_row_text (local_form f handle local) []
    ∙ ap (λ t. codes "    var " ++ (name_of_local f handle ++ (codes ": " ++ (type_text f local.ty ++ t))))
    (append-nil (first_text f local.init)))

-- the locals from this one on
abbrev pub locals_left : FunctionText → ℕ → List LocalVariable → List ℕ
locals_left f handle locals = text (locals_pieces (locals_form (naming f) (type_names_of f) (source f) handle locals))

locals_step : (f : FunctionText) (handle : ℕ) (local : LocalVariable) (more : List LocalVariable) →
    locals_left f handle (local ∷ more) ≡ local_text_of f handle local ++ locals_left f
    (handle + 1) more
locals_step f handle local more =
    let form = local_form f handle local in
    let following = locals_form (naming f) (type_names_of f) (source f) (handle + 1) more in
    let first = text (locals_pieces following) in
    local_row_text form following
    ∙ (ap (λ t. codes "    var " ++ (form.name ++ (codes ": " ++ t)))
    (sym (append_assoc (printed_type form.type) (text (value_pieces form.value)) first))
    ∙ (ap (λ t. codes "    var " ++ (form.name ++ (codes ": " ++ (t ++ first))))
    (ap (λ t. printed_type form.type ++ t) (sym (append-nil (text (value_pieces form.value)))))
    ∙ (ap (λ t. codes "    var " ++ t)
    (sym (append_assoc form.name (codes ": "
    ++ (printed_type form.type ++ (text (value_pieces form.value) ++ []))) first))
    ∙ ap (λ t. t ++ first) (sym (local_row_text form [])))))

-- a list from an item of it on, by what stands there
pub drop_at : {X : Type 0} (i : ℕ) (xs : List X) (x : X) → slice_get xs i ≡ Some x → drop i xs ≡ x ∷ drop (i + 1) xs
drop_at i xs x at = drop_first i xs x (slice_get_within xs i x at) (sym (get_or_from_slice_get xs i x x at))

-- a loop over locals: one more, and none
pub locals_more : (f : FunctionText) (i handle : ℕ) → i < length f.function.now.local_variables → handle ≡ i
    → locals_left f i (drop i f.function.now.local_variables) ≡ joined_texts (local_text f handle)
    (locals_left f (i + 1) (drop (i + 1) f.function.now.local_variables))
unfolding local_text joined_texts
locals_more f i handle lt is =
    let locals = f.function.now.local_variables in
    let local = element locals i lt in
    let more = locals_left f (i + 1) (drop (i + 1) locals) in
    ap (locals_left f i) (drop_at i locals local.0 local.1)
    ∙ (locals_step f i local.0 (drop (i + 1) locals)
    ∙ (ap (λ o. option_map_or (local_text_of f i) o [] ++ more) (sym local.1) ∙ ap (λ h. local_text f h ++ more)
    (sym is)))

-- after the locals, the empty line
pub locals_none : (f : FunctionText) (i : ℕ) → length f.function.now.local_variables ≤ i →
    locals_left f i (drop i f.function.now.local_variables) ≡ []
locals_none f i past = ap (locals_left f i) (drop_all i f.function.now.local_variables past)

pub locals_row : (f : FunctionText) →
    locals_text f ≡ joined_texts (locals_left f 0 f.function.now.local_variables)
    (group_end_text (length f.function.now.local_variables == 0))
unfolding locals_text group_end_text joined_texts
locals_row f = ap (λ t. locals_left f 0 f.function.now.local_variables ++ t) (sym (by f.function.now.local_variables))
  where
    by : (locals : List LocalVariable) → (if length locals == 0 then [] else codes "\n")
        ≡ text (group_end (locals_form (naming f) (type_names_of f) (source f) 0 locals))
    by [] = refl
    by (local ∷ more) = ap (λ b. if b then [] else codes "\n") (ne_eqb (suc (length more)) 0
        (λ same. absurd (omega arith)))

-- ---- the whole
pub body_row : (f : FunctionText) (at : TextPoint) → StartsAt f at.table → at.named ≡ 0 →
    joined_texts (locals_text f)
    (joined_texts (block_text f at.named (handles_in f at.table) 1 f.function.now.body) (codes "}\n")) ≡ body_text f
unfolding body_text block_text joined_texts
body_row f at start none =
    λ i. locals_text f
    ++ (lines_text 1 (lines_form (naming f) (let_annotation f) (source f) (none i) f.function.now.body
    (start i)) ++ codes "}\n")

pub function_row : (f : FunctionText) → function_text f ≡ joined_texts (head_text f) (body_text f)
unfolding function_text head_text body_text name_of_function arguments_text result_text locals_text joined_texts
function_row f =
    let form = form_of f in
    let locals = text (locals_pieces form.locals) in
    let end = text (group_end form.locals) in
    let following = lines_text 1 form.body ++ codes "}\n" in
    function_row_text form
    ∙ sym (append_assoc (codes "fn ") (name_of_function f
    ++ (codes "(" ++ (arguments_text f ++ (result_text f ++ codes " {\n")))) ((locals ++ end) ++ following)
    ∙ ap (λ t. codes "fn " ++ t) (append_assoc form.name
    (codes "(" ++ (arguments_text f ++ (result_text f ++ codes " {\n"))) ((locals ++ end) ++ following)
    ∙ ap (λ t. form.name ++ (codes "(" ++ t))
    (append_assoc (arguments_text f) (result_text f ++ codes " {\n") ((locals ++ end) ++ following)
    ∙ ap (λ t. arguments_text f ++ t) (append_assoc (result_text f) (codes " {\n") ((locals ++ end) ++ following)
    ∙ ap (λ t. result_text f ++ (codes " {\n" ++ t)) (append_assoc locals end following)))))

-- ---- the stage in front
pub item_row : (f : FunctionText) →
    item_text f ≡ joined_texts (stage_before f.known.shader.now (number f)) (function_text f)
unfolding item_text joined_texts
item_row f = refl

-- a function that others may call is no entry point
pub no_entry_point : (m : Module) (h : ℕ) → h < length m.functions → entry_point_numbered m h ≡ None
no_entry_point m h lt =
    ap (λ b. if b then None else slice_get m.entry_points.items (h - length m.functions))
    (lt-ltb h (length m.functions) lt)

-- the entry points are as many as their list is long
pub entry_point_within : (m : Module) (j : ℕ) → j < vec_len m.entry_points →
    j < length m.entry_points.items
entry_point_within m j lt =
    let counted : m.entry_points.len ≡ length m.entry_points.items = m.entry_points.ok.0 in
    omega (arith, lt, counted)

-- one that was read at its index stands there
pub own_entry_point : (f : FunctionText) → CanWrite f → (j : ℕ) → f.ty ≡ item.EntryPoint j →
    (p : EntryPoint) → p ≡ get_or f.known.shader.now.entry_points.items j p →
    slice_get f.known.shader.now.entry_points.items j ≡ Some p
own_entry_point f can j is p read =
    let m = f.known.shader.now in
    let lt = subst (λ ty. IsFunctionOf ty m) is can.there in
    slice_get_read m.entry_points.items (length m.entry_points.items) j p refl
    (entry_point_within m j lt) read

-- the entry point of a function
pub entry_point_there : (f : FunctionText) → CanWrite f → (j : ℕ) → f.ty ≡ item.EntryPoint j →
    (p : EntryPoint) → slice_get f.known.shader.now.entry_points.items j ≡ Some p →
    entry_point_numbered f.known.shader.now (number f) ≡ Some p
entry_point_there f can j is p at =
    let m = f.known.shader.now in
    ap (λ ty. entry_point_numbered m (function_number m ty)) is
    ∙ (entry_point_at m j ∙ at)

pub stage_row : (f : FunctionText) → CanWrite f → (j : ℕ) → f.ty ≡ item.EntryPoint j →
    (p : EntryPoint) → slice_get f.known.shader.now.entry_points.items j ≡ Some p →
    stage_before f.known.shader.now (number f) ≡ stage_text f.known.shader.now p
stage_row f can j is p at =
    ap (λ o. option_map_or (stage_text f.known.shader.now) o []) (entry_point_there f can j is p at)
