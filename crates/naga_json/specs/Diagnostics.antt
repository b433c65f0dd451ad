-- What a JSON value says of filters of diagnostics: the forms of naga's `DiagnosticFilter` and others, as serde writes
-- them by the names of their variants and members in Rust (docs/JSON.md, "Forms"). Then which filters hold in a module.
--
-- Throughout, nodes are all filters of a module with their parents, and leaf is the last of those that hold in all of
-- it, if any do.
use Rattle.std.specs.Prelude.{ℕ, List, [], ◌∷◌, Bool, true, false, ◌&&◌, cond, nat_lt, nat_eq, length}
use Rattle.std.specs.Prelude.{Option, Some, None, map, ⊤, codes}
use Rattle.std.specs.List.{enumerate_from, list_all}
use Rattle.std.specs.Option.{option_map_or}
use Prim.Native.String.{String}
use Rattle.json.specs.Json.{Json, Items, no_items, item}
use Rattle.json.specs.Find.{get, as_array, as_str}
use Rattle.naga_json.specs.Said.{◌⇒◌, ◌>>=◌, Table, members, field, field_or, option_field}
use Rattle.naga_json.specs.Said.{list_said, tuple_said, variant_said, word_said}
use Rattle.naga_json.specs.Numbers.{index_said}
use Rattle.naga_json.specs.Text.{json_of}
use Rattle.naga_json.specs.Seen.{SeenFilter, SeenFilters, SeenNode, SeenRule, standard_rule}
use Rattle.naga_json.specs.Seen.{unknown_rule, user_rule}
use Rattle.naga_json.specs.declared.diagnostics.RuleName.{RuleName}
use Rattle.naga_ir.specs.declared.diagnostics.Severity.{Severity}
use Rattle.naga_ir.specs.declared.diagnostics.StandardFilterableTriggeringRule.{StandardFilterableTriggeringRule}

abbrev pub severity_words : Table Severity
severity_words =
    "Off" ⇒ Severity.Off ∷ "Info" ⇒ Severity.Info ∷ "Warning" ⇒ Severity.Warning ∷
    "Error" ⇒ Severity.Error ∷ []

abbrev pub severity_said : Json → Option Severity
severity_said = word_said severity_words

abbrev pub standard_rule_words : Table StandardFilterableTriggeringRule
standard_rule_words =
    "DerivativeUniformity" ⇒ StandardFilterableTriggeringRule.DerivativeUniformity ∷ []

abbrev pub standard_rule_said : Json → Option StandardFilterableTriggeringRule
standard_rule_said = word_said standard_rule_words

abbrev pub rule_names : Table RuleName
rule_names =
    "Standard" ⇒ RuleName.Standard ∷ "Unknown" ⇒ RuleName.Unknown ∷ "User" ⇒ RuleName.User ∷ []

-- a rule of a tool by the tool's name and its own
abbrev pub rule_payload : RuleName → Json → Option SeenRule
rule_payload RuleName.Standard j = standard_rule_said j >>= λ x. Some (standard_rule x)
rule_payload RuleName.Unknown j = as_str j >>= λ x. Some (unknown_rule x)
rule_payload RuleName.User j = tuple_said 2 as_str j >>= λ x. Some (user_rule x)

abbrev pub rule_said : Json → Option SeenRule
rule_said = variant_said rule_names rule_payload

abbrev pub filter_said : Json → Option SeenFilter
filter_said j = do
  _ ← members ("new_severity" ∷ "triggering_rule" ∷ []) j
  new_severity ← field "new_severity" severity_said j
  triggering_rule ← field "triggering_rule" rule_said j
  Some (record { new_severity = new_severity; triggering_rule = triggering_rule })

abbrev pub node_said : Json → Option SeenNode
node_said j = do
  _ ← members ("inner" ∷ "parent" ∷ []) j
  inner ← field "inner" filter_said j
  parent ← option_field "parent" index_said j
  Some (record { inner = inner; parent = parent })

-- ---- which of them hold

-- the n-th filter has no parent, or one that stands before it
abbrev pub follows : (n : ℕ) → (parent : Option ℕ) → Bool
follows n parent = option_map_or (λ p. nat_lt p n) parent true

-- so it is with each of them
abbrev pub follow_parents : (parents : List (Option ℕ)) → Bool
follow_parents parents = list_all (λ p. follows p.0 p.1) (enumerate_from 0 parents)

-- the leaf, if there is one, is one of so many filters
abbrev pub is_one_of : (count : ℕ) → (leaf : Option ℕ) → Bool
is_one_of count leaf = option_map_or (λ l. nat_lt l count) leaf true

-- So all that hold are there: the leaf, its parent, and so on to one without a parent.
abbrev pub can_hold : (parents : List (Option ℕ)) → (leaf : Option ℕ) → Option ⊤
can_hold parents leaf =
    cond (follow_parents parents && is_one_of (length parents) leaf) (Some tt) None

-- ---- functions have none of their own

-- a function has no leaf, or that of the module
abbrev pub is_leaf_of : (leaf own : Option ℕ) → Bool
is_leaf_of leaf None = true
is_leaf_of leaf (Some n) = option_map_or (λ l. nat_eq n l) leaf false

abbrev pub without_own : (leaf : Option ℕ) → Json → Option ⊤
without_own leaf j =
    option_field "diagnostic_filter_leaf" index_said j >>= λ own. cond (is_leaf_of leaf own) (Some tt) None

abbrev pub entry_without_own : (leaf : Option ℕ) → Json → Option ⊤
entry_without_own leaf j = option_map_or (without_own leaf) (get (codes "function") j) (Some tt)

abbrev pub each_item : (Json → Option ⊤) → Items → Option ⊤
each_item said no_items = Some tt
each_item said (item j js) = said j >>= λ _. each_item said js

-- the items of this member, where that is a list
abbrev pub list_at : (name : List ℕ) → Json → Option Items
list_at name j = get name j >>= as_array

-- each of them
abbrev pub each_of : String → (Json → Option ⊤) → Json → Option ⊤
each_of name said j = option_map_or (each_item said) (list_at (codes name) j) (Some tt)

abbrev pub no_own_filters : (leaf : Option ℕ) → Json → Option ⊤
no_own_filters leaf j = do
  _ ← each_of "functions" (without_own leaf) j
  each_of "entry_points" (entry_without_own leaf) j

-- the filters of a module, all of which hold in the whole of it or nowhere
unfoldable pub filters_said : Json → Option SeenFilters
filters_said j = do
  nodes ← field_or "diagnostic_filters" [] (list_said node_said) j
  leaf ← option_field "diagnostic_filter_leaf" index_said j
  _ ← can_hold (map (λ node. node.parent) nodes) leaf
  _ ← no_own_filters leaf j
  Some (record { nodes = nodes; leaf = leaf })

-- what a text says of them by its JSON, which is a module
unfoldable pub text_filters_said : (text : List ℕ) → Option SeenFilters
text_filters_said text = json_of text >>= filters_said

-- of an object with a module and what is known of it
abbrev pub known_filters_said : Json → Option SeenFilters
known_filters_said j = field "module" filters_said j

-- of a module by itself, or in such an object
abbrev pub given_filters_said : (is_bare : Bool) → Json → Option SeenFilters
given_filters_said true j = filters_said j
given_filters_said false j = known_filters_said j

-- the same of texts
unfoldable pub text_known_filters_said : (text : List ℕ) → Option SeenFilters
text_known_filters_said text = json_of text >>= known_filters_said

unfoldable pub text_given_filters_said : (is_bare : Bool) → (text : List ℕ) → Option SeenFilters
text_given_filters_said is_bare text = json_of text >>= given_filters_said is_bare
