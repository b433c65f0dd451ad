-- One more filter of a chain.
--
-- Throughout, met are the filters that were met, old is what was found of them, and f is the next one.
use Rattle.std.proofs.Common.{◌≡◌, ◌∙◌, ℕ, Bool, true, false, ◌||◌, List, [], ◌∷◌, ◌++◌, ap, append_assoc}
use Rattle.std.proofs.Common.{◌+◌, ◌<◌, arith, drop, length, refl, slice_index_or, string_bytes, subst, sym}
use Rattle.std.specs.Prelude.{IsTrue, codes, cond}
use Rattle.std.specs.List.{flat_map, list_any}
use Rattle.std.proofs.lemmas.List.{append-nil, drop_more}
use Rattle.std.proofs.lemmas.List.Elements.{All-cons}
use Rattle.std.proofs.lemmas.Slice.Eq.{bytes_eq-Decides}
use Rattle.std.specs.BTreeSet.{contains_text}
use Rattle.std.specs.Str.{bytes_eq}
use Rattle.std.specs.declared.string.String.{String}
use Rattle.naga_ir.specs.declared.diagnostics.DiagnosticFilter.{DiagnosticFilter}
use Rattle.naga_words.specs.Diagnostics.{rule_name}
use Rattle.diagnostic_directives.specs.Directives.{HaveNames, directive, with_empty_line}
use Rattle.diagnostic_directives.specs.Filters.{has_its_rule, in_force, is_of_rule, unless_overruled}
use Rattle.diagnostic_directives.specs.Found.{Tells, joined_backwards}
use Rattle.diagnostic_directives.specs.Names.{has_name}
use Rattle.diagnostic_directives.specs.declared.found.Found.{Found}

-- one more text at the end comes first
pub joined_backwards-push : {Y : Type 0} (texts : List (String Y)) (text : String Y) →
    joined_backwards (texts ++ text ∷ []) ≡ string_bytes text ++ joined_backwards texts
joined_backwards-push [] text = sym (append-nil (string_bytes text))
joined_backwards-push (first ∷ texts) text =
    ap (λ all. all ++ string_bytes first) (joined_backwards-push texts text)
    ∙ append_assoc (string_bytes text) (joined_backwards texts) (string_bytes first)

-- so does the one before those from here on
pub joined_next : {Y : Type 0} (texts : List (String Y)) (i : ℕ) (d : String Y) → i < length texts →
    joined_backwards (drop i texts) ≡ joined_backwards (drop (i + 1) texts) ++ string_bytes (slice_index_or texts i d)
joined_next texts i d within = ap joined_backwards (drop_more texts i d within)

-- an empty line comes after lines, if there are any
pub ended : (bytes : List ℕ) → 0 < length bytes → with_empty_line bytes ≡ bytes ++ codes "\n"
ended [] some = absurd (omega arith)
ended (b ∷ bytes) some = refl

module _ (met : List DiagnosticFilter) (old : Found) (f : DiagnosticFilter) (tells : Tells met old) where
  -- the rule of the filter was met just where its name was
  was_met : contains_text old.rules (rule_name f.triggering_rule) ≡ has_its_rule met f
  was_met = tells.rules (rule_name f.triggering_rule)

  -- a filter of its rule was met, which overrules it
  pub overruled : contains_text old.rules (rule_name f.triggering_rule) ≡ true → Tells (f ∷ met) old
  overruled found =
      let same : in_force (f ∷ met) ≡ in_force met =
      ap (λ b. unless_overruled b f (in_force met)) (sym was_met ∙ found) in
      record {
        lines = tells.lines ∙ ap (flat_map directive) (sym same);
        rules = λ name. with_its_name name (bytes_eq (rule_name f.triggering_rule) name) refl;
        named = subst HaveNames (sym same) tells.named;
      }
    where
      with_its_name : (name : List ℕ) (b : Bool) → bytes_eq (rule_name f.triggering_rule) name ≡ b →
          contains_text old.rules name ≡ (bytes_eq (rule_name f.triggering_rule) name || list_any (is_of_rule name) met)
      with_its_name name true same =
          subst (λ name. contains_text old.rules name ≡ true) ((bytes_eq-Decides _ _).0 same) found
          ∙ ap (λ b. b || list_any (is_of_rule name) met) (sym same)
      with_its_name name false other =
          tells.rules name ∙ ap (λ b. b || list_any (is_of_rule name) met) (sym other)

  -- none was met, and its directive is kept
  pub added : (new : Found) (line : String _) →
      contains_text old.rules (rule_name f.triggering_rule) ≡ false → has_name f.triggering_rule ≡ true →
      string_bytes line ≡ directive f → new.lines.items ≡ old.lines.items ++ line ∷ [] →
      ((name : List ℕ) → contains_text new.rules name
      ≡ cond (bytes_eq (rule_name f.triggering_rule) name) true (contains_text old.rules name)) →
      Tells (f ∷ met) new
  added new line unmet named is lines rules =
      let same : in_force (f ∷ met) ≡ f ∷ in_force met =
      ap (λ b. unless_overruled b f (in_force met)) (sym was_met ∙ unmet) in
      record {
        lines =
            ap joined_backwards lines ∙ joined_backwards-push old.lines.items line
            ∙ ap (λ bytes. bytes ++ joined_backwards old.lines.items) is
            ∙ ap (λ more. directive f ++ more) tells.lines
            ∙ ap (flat_map directive) (sym same);
        rules = λ name. rules name
            ∙ or_found (bytes_eq (rule_name f.triggering_rule) name) _ _ (tells.rules name);
        named = subst HaveNames (sym same) (All-cons (λ x. IsTrue (has_name x.triggering_rule)) f (in_force met) named tells.named);
      }
    where
      or_found : (b old all : Bool) → old ≡ all → cond b true old ≡ (b || all)
      or_found true old all same = refl
      or_found false old all same = same
