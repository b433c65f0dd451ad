-- A function that is written by itself.
-- Serves `write_by_plan` and `write_function`.
use Rattle.std.proofs.Common.{◌≡◌, ◌+◌, ◌<◌, ◌^◌, ◌∙◌, ◌++◌, ℕ, Bool, List, [], Some}
use Rattle.std.proofs.Common.{append-nil, ap, append_assoc, arith, drop, inl, inr, length, refl}
use Rattle.std.proofs.Common.{slice_get, subst, sym, codes, take, unwrap_or, ◌∷◌}
use Rattle.std.specs.Prelude.{Err, IfErr, IsErrAnd, IsTrue, Ok, OnErr, OnOk, Result}
use Rattle.std.specs.Option.{option_map_or}
use Rattle.std.proofs.lemmas.Bool.{leb-true}
use Rattle.naga_ir.specs.declared.module.Function as ir_function
use Rattle.naga_ir.specs.declared.module.EntryPoint as ir_entry_point
use Rattle.naga_ir.specs.declared.module.Module.{Module}
use Rattle.naga_info.specs.declared.info.ExpressionInfo.{ExpressionInfo}
use Rattle.naga_info.specs.declared.info.ModuleInfo.{ModuleInfo}
use Rattle.naga_naming.specs.Naming.{HasNamed, Names, name_after}
use Rattle.naga_naming.proofs.Refusal.{element}
use Rattle.module_semantics.proofs.FunctionNumbers.{entry_point_among, function_among, number_within}
use Rattle.module_semantics.specs.acceptance.Accepted.{is_accepted}
use Rattle.module_semantics.specs.ExpressionLabels.{expression_labels, name_of_label}
use Rattle.module_semantics.specs.Names.{LabelNames, item_labels, labels_named_in, module_names}
use Rattle.module_semantics.specs.Names.{wgsl_names}
use Rattle.module_semantics.specs.DeclarationForms.{HeadHasForm}
use Rattle.module_semantics.specs.FunctionNumbers.{IsFunctionOf, all_functions, all_infos}
use Rattle.module_semantics.specs.FunctionNumbers.{function_number}
use Rattle.naga_form.proofs.statements.AcceptedFunctions.{all_counted}
use Rattle.naga_form.proofs.declarations.DeclaredPrograms.{stage_formed}
use Rattle.naga_form.proofs.statements.WrittenFunctions.{entry_point_at}
use Rattle.naga_form.proofs.names.Names.{is_identifier}
use Rattle.naga_form.proofs.Programs.{one_is}
use Rattle.naga_form.specs.Attributes.{stage_attributes}
use Rattle.naga_form.specs.Declarations.{program_under}
use Rattle.naga_form.specs.Functions.{function_form}
use Rattle.naga_back.specs.declared.flags.WriterFlags.{WriterFlags}
use Rattle.naga_back.specs.declared.context.FunctionType.{FunctionType}
use Rattle.naga_back.specs.declared.context.FunctionType.TheVariants as item
use Rattle.naga_scope.specs.ExpressionNames.{HasNamedSome, HasOtherUses, NamesLabels}
use Rattle.naga_scope.specs.Plans.{IsPlanOf, Planned}
use Rattle.naga_spelling.specs.Sink.{IsAfter}
use Rattle.wgsl_text.specs.Attributes.{attributes_pieces}
use Rattle.wgsl_text.specs.Functions.{EntryPoint, Function, IsFunction, function_pieces}
use Rattle.wgsl_text.specs.Reading.{HasOneReading, ReadsEntryPoint, ReadsFunction}
use Rattle.wgsl_text.specs.Reading.{printed_entry_point, printed_function}
use Rattle.wgsl_text.specs.Text.{text, tokens}
use Rattle.wgsl_text.specs.Token.{LineEnd}
use Rattle.wgsl_text.specs.Words.{IsIdentifier}
use Rattle.wgsl_text.proofs.Reading.{entry_point_has_one_reading, function_has_one_reading}
use Rattle.wgsl_text.proofs.Text.{text-append}
use Rattle.naga_wgsl_shared.specs.Attributes.{attributes_text}
use Rattle.naga_wgsl_shared.specs.Refusals.{NamesHead}
use Rattle.naga_refusals.specs.Errors.{IsWant}
use Rattle.naga_back.specs.Flags.{annotates_types}
use Rattle.naga_wgsl_fns.specs.Functions.{known_of, names_of, stage_before, text_of, text_under}
use Rattle.naga_wgsl_fns.specs.Items.{AppendsOne, FunctionWriting, IsFunctionRefusal}
use Rattle.naga_wgsl_fns.specs.Items.{HasNamedItemsOf, StandsIn, named_following, text_after}
use Rattle.naga_wgsl_fns.specs.PlanRefusals.{IsPlanRefusal, IsWritableAt}
use Rattle.naga_wgsl_shared.specs.Stages.{stage_text}
use Rattle.naga_refusals.specs.declared.error.Error.{Error}
use Rattle.naga_refusals.specs.declared.error.Error.TheVariants.{FmtError, Memory}
use Rattle.naga_wgsl_fns.proofs.ExpressionNames.{named_are, none_full}
use Rattle.naga_wgsl_fns.proofs.FunctionRows.{no_entry_point, entry_point_within}
use Rattle.naga_wgsl_fns.proofs.MeantFunctions.{is_meant, own_function, own_entry_point}
use Rattle.naga_wgsl_shared.proofs.Wants.{want_tells_nothing}
use Rattle.naga_wgsl_shared.proofs.Wants.{told_no_sink}
use Rattle.naga_wgsl_fns.proofs.PlanRefusals.{planned_holds}

-- a namer that has named some first labels of a function has named the items in front of them
pub items_named : (m : Module) (handle : ℕ) (old new : Names) → HasNamedItemsOf m old →
    HasOtherUses old new → (r : Result Unit Error) →
    ((earlier : List (List ℕ)) → HasNamed old earlier →
    OnOk r (HasNamed new (earlier ++ labels_named_in m handle)) ×
    OnErr r (HasNamedSome new earlier (labels_named_in m handle))) →
    HasNamedItemsOf m new
items_named m handle old new items same r named =
    by r (named (item_labels m ++ items.later) items.named.labels)
  where
    with_more : (more : List (List ℕ)) → HasNamed new ((item_labels m ++ items.later) ++ more) →
        HasNamedItemsOf m new
    with_more more has = record {
      later = items.later ++ more;
      named = record {
        words = same ∙ ap (λ (o : Names). record o { uses = new.uses }) items.named.words;
        labels = subst (HasNamed new) (append_assoc (item_labels m) items.later more) has;
      };
    }

    by : (r : Result Unit Error) →
        OnOk r (HasNamed new ((item_labels m ++ items.later) ++ labels_named_in m handle)) ×
        OnErr r (HasNamedSome new (item_labels m ++ items.later) (labels_named_in m handle)) →
        HasNamedItemsOf m new
    by (Ok _) has = with_more (labels_named_in m handle) has.0
    by (Err e) has = with_more has.1.named has.1.has

-- an entry point's text is its function's after that of its stage
entry_point_printed : (m : Module) (p : ir_entry_point.EntryPoint) (form : Function) →
    printed_entry_point
    (record { stage = stage_attributes (module_names m) p p.stage; function = form }) ≡
    stage_text m p ++ printed_function form
unfolding stage_text attributes_text
entry_point_printed m p form =
    let attributes = attributes_pieces (stage_attributes (module_names m) p p.stage) in
    text-append attributes (LineEnd ∷ function_pieces form)
    ∙ sym (append_assoc (text attributes) (codes "\n") (printed_function form))

-- what stands after the same text is the same
pub same_following : (content a b : List ℕ) → content ++ a ≡ content ++ b → a ≡ b
same_following [] a b e = e
same_following (x ∷ content) a b e = same_following content a b (ap (drop 1) e)

-- ---- what is read of its text
module _ (m : Module) (info : ModuleInfo) (flags : WriterFlags) (earlier : List (List ℕ))
    (accepted : IsTrue (is_accepted m info)) where
  abbrev form_at : (number : ℕ) → ir_function.Function → Function
  form_at number f =
      function_form flags (module_names m) (named_following m earlier number) m info number f
      (known_of info number)

  text_at : (number : ℕ) (f : ir_function.Function) → slice_get (all_functions m) number ≡ Some f →
      text_after m info flags earlier number ≡
      stage_before m number ++ printed_function (form_at number f)
  text_at number f stands =
      ap
      (λ o. option_map_or
      (λ f. text_of m info flags (named_following m earlier number) number f (known_of info number)) o [])
      stands

  function_text_is : (h : ℕ) (f : ir_function.Function) → h < length m.functions →
      slice_get (all_functions m) h ≡ Some f →
      text_after m info flags earlier h ≡ printed_function (form_at h f)
  function_text_is h f lt stands =
      text_at h f stands
      ∙ ap (λ o. option_map_or (stage_text m) o [] ++ printed_function (form_at h f)) (no_entry_point m h lt)

  abbrev entry_point_tree : (index : ℕ) → ir_entry_point.EntryPoint → EntryPoint
  entry_point_tree index p = record {
    stage = stage_attributes (module_names m) p p.stage;
    function = form_at (length m.functions + index) p.function;
  }

  entry_point_text_is : (j : ℕ) (p : ir_entry_point.EntryPoint) →
      slice_get m.entry_points.items j ≡ Some p →
      text_after m info flags earlier (length m.functions + j) ≡ printed_entry_point (entry_point_tree j p)
  entry_point_text_is j p at =
      let form = form_at (length m.functions + j) p.function in
      text_at (length m.functions + j) p.function (entry_point_among m j p at)
      ∙ (ap (λ o. option_map_or (stage_text m) o [] ++ printed_function form)
      (entry_point_at m j ∙ at)
      ∙ sym (entry_point_printed m p form))

  -- the function is one of the grammar
  abbrev IsWellFormed : FunctionType → Type 0
  IsWellFormed ty =
      (f : ir_function.Function) → slice_get (all_functions m) (function_number m ty) ≡ Some f →
      IsFunction (form_at (function_number m ty) f)

  function_reading : (h : ℕ) → IsWellFormed (item.Function h) → (f : ir_function.Function) →
      h < length m.functions → slice_get (all_functions m) h ≡ Some f →
      HasOneReading ReadsFunction (text_after m info flags earlier h) (form_at h f)
  function_reading h is f lt stands =
      subst (λ t. HasOneReading ReadsFunction t (form_at h f)) (sym (function_text_is h f lt stands))
      (function_has_one_reading (form_at h f) (is f stands))

  entry_point_reading : (j : ℕ) → IsWellFormed (item.EntryPoint j) →
      HeadHasForm m (length m.functions + j) → (p : ir_entry_point.EntryPoint) →
      slice_get m.entry_points.items j ≡ Some p →
      HasOneReading ReadsEntryPoint (text_after m info flags earlier (length m.functions + j))
      (entry_point_tree j p)
  entry_point_reading j is head p at =
      let stage =
      stage_formed m info accepted j p at (head.stage p (entry_point_at m j ∙ at)) in
      subst (λ t. HasOneReading ReadsEntryPoint t (entry_point_tree j p)) (sym (entry_point_text_is j p at))
      (entry_point_has_one_reading (entry_point_tree j p) (record {
        attributes = stage.0;
        stage = stage.1;
        function = is p.function (entry_point_among m j p at);
      }))

  -- one reading, as what it is
  reads_one : (ty : FunctionType) → IsFunctionOf ty m → HeadHasForm m (function_number m ty) →
      IsWellFormed ty → (content now : List ℕ) →
      now ≡ content ++ text_after m info flags earlier (function_number m ty) →
      AppendsOne ty content now
  reads_one (item.Function h) lt head is content now appended =
      let f = element m.functions h lt in
      record {
        text = text_after m info flags earlier h;
        appended = appended;
        function = form_at h f.0;
        reading = function_reading h is f.0 lt (function_among m h f.0 f.1);
      }
  reads_one (item.EntryPoint j) lt head is content now appended =
      let p = element m.entry_points.items j (entry_point_within m j lt) in
      record {
        text = text_after m info flags earlier (length m.functions + j);
        appended = appended;
        entry_point = entry_point_tree j p.0;
        reading = entry_point_reading j is head p.0 p.1;
      }

  -- and it is that of the program, where its labels have these names there
  stands_in : (ty : FunctionType) → IsFunctionOf ty m → HeadHasForm m (function_number m ty) →
      IsWellFormed ty → (content now : List ℕ) →
      now ≡ content ++ text_after m info flags earlier (function_number m ty) →
      (named : LabelNames) →
      named (function_number m ty) ≡ named_following m earlier (function_number m ty) →
      StandsIn ty content now (program_under named m info flags)
  stands_in (item.Function h) lt head is content now appended named agree = λ text following function reads.
      let f = element m.functions h lt in
      let stands = function_among m h f.0 f.1 in
      let same = same_following content text (text_after m info flags earlier h) (sym following ∙ appended) in
      let only =
      (function_reading h is f.0 lt stands).only function
      (subst (λ t. ReadsFunction (tokens t) function) same reads) in
      own_function named flags m info accepted h lt f.0 stands
      ∙ ap (λ own. Some (function_form flags (module_names m) own m info h f.0 (known_of info h)))
      agree
      ∙ ap Some (sym only)
  stands_in (item.EntryPoint j) lt head is content now appended named agree = λ text following point reads.
      let p = element m.entry_points.items j (entry_point_within m j lt) in
      let number = length m.functions + j in
      let same = same_following content text (text_after m info flags earlier number) (sym following ∙ appended) in
      let only =
      (entry_point_reading j is head p.0 p.1).only point
      (subst (λ t. ReadsEntryPoint (tokens t) point) same reads) in
      own_entry_point named flags m info accepted j p.0 p.1
      ∙ ap (λ own. Some (record {
        stage = stage_attributes (module_names m) p.0 p.0.stage;
        function = function_form flags (module_names m) own m info number
            p.0.function (known_of info number);
      })) agree
      ∙ ap Some (sym only)

-- ---- one function
module _ (m : Module) (info : ModuleInfo) (flags : WriterFlags) (earlier : List (List ℕ))
    (ty : FunctionType) where
  abbrev explicit : Bool
  explicit = annotates_types flags

  abbrev g : ℕ
  g = function_number m ty

  abbrev labels : List (List ℕ)
  labels = labels_named_in m g

  abbrev whole : List ℕ
  whole = text_after m info flags earlier g

  -- ---- in front of the text
  -- no label was named
  pub none_named : (namer : Names) → HasNamed namer earlier → HasNamedSome namer earlier labels
  none_named namer has = record {
    named = [];
    left = labels;
    all = refl;
    has = subst (HasNamed namer) (sym (append-nil earlier)) has;
  }

  -- all were
  all_named : (namer : Names) → HasNamed namer (earlier ++ labels) → HasNamedSome namer earlier labels
  all_named namer has = record { named = labels; left = []; all = sym (append-nil labels); has = has }

  module _ (content : List ℕ) (before : ℕ) where
    pub refused : (r : Result Unit Error) (error : Error) (namer : Names) →
        IsErrAnd r (λ e. e ≡ error) →
        IsFunctionRefusal explicit m info earlier g before before error →
        HasNamedSome namer earlier labels →
        FunctionWriting m info flags earlier ty r namer content content before before
    refused (Ok _) error namer reported refusal some = absurd reported
    refused (Err e) error namer reported refusal some = record {
      refusals = subst (IsFunctionRefusal explicit m info earlier g before before) (sym reported) refusal;
      text_ok = tt;
      reading = tt;
      as_meant = tt;
      failures_ok = tt;
      text_err = ([], whole, refl, sym (append-nil content));
      untouched = λ tells. (refl, refl);
      named_ok = tt;
      named_err = some;
    }

    pub for_plan : (error : Error) → IsPlanRefusal explicit m info earlier g error →
        IsFunctionRefusal explicit m info earlier g before before error
    for_plan (FmtError e) refusal = absurd refusal.0
    for_plan (Memory e) refusal = tt
    for_plan _ refusal = inr refusal.1

    pub for_head : (error : Error) → NamesHead m g error →
        IsFunctionRefusal explicit m info earlier g before before error
    for_head (FmtError e) named = absurd (told_no_sink named.0 e named.2)
    for_head (Memory e) named = tt
    for_head _ named = inl named

  -- ---- the text
  for_want : (before after : ℕ) (error : Error) → IsWant before after error →
      IsFunctionRefusal explicit m info earlier g before after error
  for_want before after (FmtError e) is = is
  for_want before after (Memory e) is = tt
  for_want before after _ is = absurd is

  identifiers : (f : ir_function.Function) → slice_get (all_functions m) g ≡ Some f → (k : ℕ) →
      k < length (expression_labels f) → IsIdentifier (named_following m earlier g k)
  identifiers f stands k lt =
      let label = element (expression_labels f) k lt in
      let same = ap (λ o. name_of_label (wgsl_names m) earlier (option_map_or expression_labels o []) k) stands in
      let name = ap (λ o. option_map_or (name_after (wgsl_names m) (earlier ++ take k (expression_labels f))) o [])
      label.1 in
      subst IsIdentifier (sym (same ∙ name)) (is_identifier m (earlier ++ take k (expression_labels f)) label.0)

  module _ (accepted : IsTrue (is_accepted m info)) (head : HeadHasForm m g)
      (there : IsFunctionOf ty m) (old new : Names) (words : HasOtherUses (wgsl_names m) old)
      (has : HasNamed old earlier) (planned : Planned) (plan : IsPlanOf explicit m info g planned)
      (named : NamesLabels old [] labels new planned.named) where
    within : g < length (all_functions m)
    within = number_within m ty there

    known : (es : List ExpressionInfo) × (slice_get (all_infos info) g ≡ Some es)
    known =
        let counted = all_counted m info accepted in
        element (all_infos info) g (omega (arith, within, counted))

    well_formed : IsWellFormed m info flags earlier accepted ty
    well_formed f stands =
        let here = plan f known.0 stands known.1 in
        let same : known_of info g ≡ known.0 = ap (λ o. unwrap_or o []) known.1 in
        subst
        (λ es. IsFunction (function_form flags (module_names m) (named_following m earlier g) m info
        g f es))
        (sym same)
        (one_is flags m info accepted (named_following m earlier g) g f stands known.0
        known.1 (identifiers f stands) here.formed (leb-true (length f.expressions) (2 ^ 64) here.counted))

    -- the names of the plan are those after the earlier labels
    text_same : text_under m info flags (names_of planned) g ≡ whole
    text_same =
        ap (λ names. text_under m info flags names g)
        (λ i number. named_are m g earlier old words planned.named (named.names earlier has) number i)

    new_words : HasOtherUses (wgsl_names m) new
    new_words = named.words ∙ ap (λ (o : Names). record o { uses = new.uses }) words

    new_named : HasNamed new (earlier ++ labels)
    new_named = named.labels_named earlier has

    writable : IsWritableAt explicit m info earlier g
    writable =
        planned_holds explicit m info earlier g planned plan (none_full m g earlier new new_words new_named)

    pub writes : (r : Result Unit Error) (content now : List ℕ) (before after : ℕ) →
        OnOk r (now ≡ content ++ text_under m info flags (names_of planned) g) →
        OnErr r (IsAfter content (text_under m info flags (names_of planned) g) now) →
        OnOk r (after ≡ before) → IfErr r (IsWant before after) →
        FunctionWriting m info flags earlier ty r new content now before after
    writes (Ok _) content now before after text_ok text_err kept reason =
        let appended = text_ok ∙ ap (λ t. content ++ t) text_same in
        record {
          refusals = record { head = head; plan = writable };
          text_ok = appended;
          reading = reads_one m info flags earlier accepted ty there head well_formed content now appended;
          as_meant = λ later is.
              is_meant flags m info accepted ty earlier later is writable content now
              (stands_in m info flags earlier accepted ty there head well_formed content now appended);
          failures_ok = kept;
          text_err = tt;
          untouched = tt;
          named_ok = new_named;
          named_err = tt;
        }
    writes (Err e) content now before after text_ok text_err kept reason = record {
      refusals = for_want before after e reason;
      text_ok = tt;
      reading = tt;
      as_meant = tt;
      failures_ok = tt;
      text_err = subst (λ t. IsAfter content t now) text_same text_err;
      untouched = λ tells. absurd (want_tells_nothing before after e reason tells);
      named_ok = tt;
      named_err = all_named new new_named;
    }
