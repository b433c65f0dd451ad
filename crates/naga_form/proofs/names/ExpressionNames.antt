-- The names that front ends gave: each is that of a label that stands in the list of a module's
-- labels after those in front of it, so that no two indices of this list have one name.
use Rattle.std.proofs.Common.{◌≡◌, ◌≢◌, ℕ, ◌<◌, zero, suc, Bool, true, false, List, [], ◌∷◌}
use Rattle.std.proofs.Common.{◌++◌, length, take, Some, refl, sym, ap, subst, ◌∙◌, ◌||◌, arith}
use Rattle.std.proofs.Common.{append_assoc, length-append}
use Rattle.std.specs.Prelude.{slice_get, ◌⊎◌, not, ◌==◌, if◌then◌else◌}
use Rattle.std.specs.Option.{option_map_or}
use mathlib.Core.Logic.{inl, inr}
use Rattle.std.proofs.lemmas.Bool.{cases_order, eq-eqb, eqb-true}
use Rattle.std.proofs.lemmas.List.{length-take-le}
use Rattle.std.proofs.lemmas.Option.{none-some, same_Some}
use Rattle.naga_ir.specs.declared.module.Function as ir_function
use Rattle.naga_ir.specs.declared.module.Module.{Module}
use Rattle.naga_keywords.specs.Plain.{is_word}
use Rattle.naga_naming.specs.Naming.{name_after}
use Rattle.naga_naming.specs.Reset.{LabelledItem, labelled_items, labels_of}
use Rattle.naga_naming.proofs.NameShapes.{name_after_is_word, name_after_not_numbered, names_differ}
use Rattle.naga_naming.proofs.NamedItems.{Stands}
use Rattle.naga_naming.proofs.Refusal.{element}
use Rattle.naga_naming.proofs.Reset.{labels_of-around}
use Rattle.module_semantics.specs.ExpressionLabels.{all_expression_labels, expression_labels}
use Rattle.module_semantics.specs.ExpressionLabels.{name_of_label}
use Rattle.module_semantics.specs.FunctionNumbers.{all_functions}
use Rattle.module_semantics.specs.Names.{AreLabelNames, AreLabelNamesOf, expression_name, item_labels}
use Rattle.module_semantics.specs.Names.{labels_named_in, module_names, name_in, named_apart}
use Rattle.module_semantics.specs.Names.{numbered_name, wgsl_names}
use Rattle.wgsl_text.specs.Words.{IsIdentifier, is_builtin}
use Rattle.naga_form.proofs.names.Names.{identifier_is_another, is_identifier, name_is, unnumbered}

-- what stands at a index of a list
pub split_at : {X : Type 0} (xs : List X) (j : ℕ) (y : X) → slice_get xs j ≡ Some y →
    (rest : List X) × (xs ≡ take j xs ++ y ∷ rest)
split_at [] j y e = absurd (none-some y e)
split_at (x ∷ xs) zero y e = (xs, ap (λ z. z ∷ xs) (same_Some x y e))
split_at (x ∷ xs) (suc j) y e =
    let rest = split_at xs j y e in (rest.0, ap (λ t. x ∷ t) rest.1)

-- ---- indices of a list of labels
-- the label stands in the list, after these
pub record StandsAfter (labels earlier : List (List ℕ)) (label : List ℕ) : Type 0 where
  pub rest : List (List ℕ)
  pub all : labels ≡ earlier ++ label ∷ rest

-- the shorter of two beginnings begins the other one
begins : (a : List (List ℕ)) (x : List ℕ) (r : List (List ℕ)) (b : List (List ℕ)) (y : List ℕ)
    (s : List (List ℕ)) → a ++ x ∷ r ≡ b ++ y ∷ s → length a < length b →
    (middle : List (List ℕ)) × (b ≡ a ++ x ∷ middle)
begins [] x r [] y s same lt = absurd (omega (arith, lt))
begins [] x r (z ∷ b) y s same lt = let head : z ≡ x = cc in (b, ap (λ w. w ∷ b) head)
begins (w ∷ a) x r [] y s same lt = absurd (omega (arith, lt))
begins (w ∷ a) x r (z ∷ b) y s same lt =
    let head : z ≡ w = cc in
    let tails : a ++ x ∷ r ≡ b ++ y ∷ s = cc in
    let inner = begins a x r b y s tails (omega (arith, lt)) in
    (inner.0, λ i. head i ∷ inner.1 i)

module _ (m : Module) (labels : List (List ℕ)) where
  -- labels at two indices have different names
  differ : (a : List (List ℕ)) (x : List ℕ) (b : List (List ℕ)) (y : List ℕ) →
      StandsAfter labels a x → StandsAfter labels b y → length a < length b →
      name_after (wgsl_names m) a x ≡ name_after (wgsl_names m) b y → ⊥
  differ a x b y s t lt same =
      let middle = begins a x s.rest b y t.rest (sym s.all ∙ t.all) lt in
      names_differ (wgsl_names m) a x middle.0 y
      (same ∙ ap (λ e. name_after (wgsl_names m) e y) middle.1)

  -- two indices with one name are one
  pub names_tell : (a : List (List ℕ)) (x : List ℕ) (b : List (List ℕ)) (y : List ℕ) →
      StandsAfter labels a x → StandsAfter labels b y →
      name_after (wgsl_names m) a x ≡ name_after (wgsl_names m) b y → length a ≡ length b
  names_tell a x b y s t same = by (cases_order (length a) (length b))
    where
      by : (length a ≡ length b) ⊎ ((length a < length b) ⊎ (length b < length a)) →
          length a ≡ length b
      by (inl e) = e
      by (inr (inl lt)) = absurd (differ a x b y s t lt same)
      by (inr (inr lt)) = absurd (differ b y a x t s lt (sym same))

-- ---- labels after those of the module's items
module _ (m : Module) (later labels : List (List ℕ)) where
  abbrev earlier : List (List ℕ)
  earlier = item_labels m ++ later

  abbrev all : List (List ℕ)
  all = earlier ++ labels

  -- where the label of an item stands
  abbrev before_item : (item : LabelledItem) → Stands (labelled_items (wgsl_names m) m) item →
      List (List ℕ)
  before_item item s = labels_of (take s.index (labelled_items (wgsl_names m) m))

  -- the labels of items are those in front of one, that one, and others
  split_item : (item : LabelledItem) (s : Stands (labelled_items (wgsl_names m) m) item) →
      StandsAfter (item_labels m) (before_item item s) item.1
  split_item item s =
      let parts = split_at (labelled_items (wgsl_names m) m) s.index item s.there in
      record {
        rest = labels_of parts.0;
        all = ap labels_of parts.1
            ∙ labels_of-around (take s.index (labelled_items (wgsl_names m) m)) item parts.0 s.outside;
      }

  item_stands : (item : LabelledItem) (s : Stands (labelled_items (wgsl_names m) m) item) →
      StandsAfter all (before_item item s) item.1
  item_stands item s =
      let first = before_item item s in
      let own = split_item item s in
      record {
        rest = (own.rest ++ later) ++ labels;
        all = ap (λ ls. (ls ++ later) ++ labels) own.all
            ∙ (ap (λ ls. ls ++ labels) (append_assoc first (item.1 ∷ own.rest) later)
            ∙ append_assoc first (item.1 ∷ (own.rest ++ later)) labels);
      }

  before_item_short : (item : LabelledItem) (s : Stands (labelled_items (wgsl_names m) m) item) →
      length (before_item item s) < length (item_labels m)
  before_item_short item s =
      let first = before_item item s in
      let own = split_item item s in
      let counts = ap length own.all ∙ length-append first (item.1 ∷ own.rest) in
      omega (arith, counts)

  -- where the label with this number stands
  abbrev before_named : ℕ → List (List ℕ)
  before_named k = earlier ++ take k labels

  named_stands : (k : ℕ) (label : List ℕ) → slice_get labels k ≡ Some label →
      StandsAfter all (before_named k) label
  named_stands k label at =
      let own = split_at labels k label at in
      record {
        rest = own.0;
        all = ap (λ ls. earlier ++ ls) own.1
            ∙ sym (append_assoc earlier (take k labels) (label ∷ own.0));
      }

  -- it is named after these
  abbrev name : ℕ → List ℕ
  name k = name_of_label (wgsl_names m) earlier labels k

  named_name_is : (k : ℕ) (label : List ℕ) → slice_get labels k ≡ Some label →
      name k ≡ name_after (wgsl_names m) (before_named k) label
  named_name_is k label at =
      ap (λ o. option_map_or (name_after (wgsl_names m) (before_named k)) o []) at

  named_is_identifier : (k : ℕ) → k < length labels → IsIdentifier (name k)
  named_is_identifier k lt =
      let label = element labels k lt in
      subst IsIdentifier (sym (named_name_is k label.0 label.1))
      (is_identifier m (before_named k) label.0)

  -- no handle that front ends did not name has it
  named_not_numbered : (k : ℕ) → k < length labels → (h : ℕ) → name k ≢ numbered_name h
  named_not_numbered k lt h e =
      let label = element labels k lt in
      let before = before_named k in
      unnumbered (name_after (wgsl_names m) before label.0) h
      (name_after_is_word (wgsl_names m) before label.0)
      (name_after_not_numbered (wgsl_names m) before label.0 h)
      (sym (named_name_is k label.0 label.1) ∙ e)

  -- nor has an item of the module
  named_no_item : (k : ℕ) → k < length labels → (item : LabelledItem) →
      Stands (labelled_items (wgsl_names m) m) item → name_in (module_names m) item.0 ≢ name k
  named_no_item k lt item s e =
      let label = element labels k lt in
      let same = names_tell m all (before_item item s) item.1 (before_named k) label.0
      (item_stands item s) (named_stands k label.0 label.1)
      (sym (name_is m item s) ∙ (e ∙ named_name_is k label.0 label.1)) in
      let short = before_item_short item s in
      let one = length-append (item_labels m) later in
      let two = length-append earlier (take k labels) in
      omega (arith, same, short, one, two)

  -- and it is given once
  named_tell : (j k : ℕ) → j < length labels → k < length labels → name j ≡ name k → j ≡ k
  named_tell j k lj lk e =
      let a = element labels j lj in
      let b = element labels k lk in
      let same = names_tell m all (before_named j) a.0 (before_named k) b.0
      (named_stands j a.0 a.1) (named_stands k b.0 b.1)
      (sym (named_name_is j a.0 a.1) ∙ (e ∙ named_name_is k b.0 b.1)) in
      let one = length-append earlier (take j labels) in
      let two = length-append earlier (take k labels) in
      let short = length-take-le j labels (omega (arith, lj)) in
      let long = length-take-le k labels (omega (arith, lk)) in
      omega (arith, same, one, two, short, long)

-- ---- the names of the labels of a module's functions
module _ (m : Module) where
  -- those of one function, after any that are named after the labels of the module's items
  pub names_following : (f : ir_function.Function) (later : List (List ℕ)) →
      AreLabelNamesOf m f (name_of_label (wgsl_names m) (item_labels m ++ later) (expression_labels f))
  names_following f later =
      let labels = expression_labels f in
      record {
        identifiers = named_is_identifier m later labels;
        distinct = named_tell m later labels;
        no_item = λ k lt index item there outside.
            named_no_item m later labels k lt item
            (record { index = index; there = there; outside = outside });
        not_numbered = named_not_numbered m later labels;
      }

  -- the same of a function by its number
  names_after_at : (g : ℕ) (f : ir_function.Function) → slice_get (all_functions m) g ≡ Some f →
      (later : List (List ℕ)) →
      AreLabelNamesOf m f
      (name_of_label (wgsl_names m) (item_labels m ++ later) (labels_named_in m g))
  names_after_at g f found later =
      subst (λ o. AreLabelNamesOf m f
      (name_of_label (wgsl_names m) (item_labels m ++ later) (option_map_or expression_labels o [])))
      (sym found) (names_following f later)

  -- in a text of the whole module each function's labels are named after those of the functions in
  -- front of it
  pub expression_names_are : AreLabelNames m (expression_name m)
  unfolding expression_name
  expression_names_are g f found =
      names_after_at g f found (all_expression_labels (take g (all_functions m)))

  -- those of one function may be others
  pub apart_there : (number : ℕ) (own : ℕ → List ℕ) → named_apart m number own number ≡ own
  apart_there number own =
      ap (λ b. if b then own else expression_name m number) (eq-eqb number number refl)

  -- as those that are named after any others
  pub names_after_are : (number : ℕ) (later : List (List ℕ)) →
      AreLabelNames m
      (named_apart m number
      (name_of_label (wgsl_names m) (item_labels m ++ later) (labels_named_in m number)))
  names_after_are number later g f found = by (g == number) refl
    where
      own : ℕ → List ℕ
      own = name_of_label (wgsl_names m) (item_labels m ++ later) (labels_named_in m number)

      by : (b : Bool) → g == number ≡ b →
          AreLabelNamesOf m f (if b then own else expression_name m g)
      by true same =
          names_after_at number f
          (ap (slice_get (all_functions m)) (sym (eqb-true g number same)) ∙ found) later
      by false other = expression_names_are g f found

  -- and those of each may be such others
  pub names_of_each_are : (later : (number : ℕ) → List (List ℕ)) →
      AreLabelNames m
      (λ number.
      name_of_label (wgsl_names m) (item_labels m ++ later number) (labels_named_in m number))
  names_of_each_are later g f found = names_after_at g f found (later g)

  -- ---- what names of labels are
  module _ (f : ir_function.Function) (named : (label : ℕ) → List ℕ)
      (are : AreLabelNamesOf m f named) where
    -- none is that of an item of the module
    pub label_no_item : (k : ℕ) → k < length (expression_labels f) → (item : LabelledItem) →
        Stands (labelled_items (wgsl_names m) m) item → name_in (module_names m) item.0 ≢ named k
    label_no_item k lt item s = are.no_item k lt s.index item s.there s.outside

    -- nor what is no word, or one of WGSL's own
    pub label_no_word : (k : ℕ) → k < length (expression_labels f) → (w : List ℕ) →
        (not (is_word w) || is_builtin w) ≡ true → named k ≢ w
    label_no_word k lt w other = identifier_is_another (named k) w (are.identifiers k lt) other
