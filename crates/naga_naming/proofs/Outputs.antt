-- One entry point more in the table by which structs without a name are labelled.
use Rattle.std.proofs.Common.{◌≡◌, ℕ, ◌+◌, ◌<◌, Bool, true, false, cond, List, length, take, get_or}
use Rattle.std.proofs.Common.{Option, Some, None, HashMap, nat_eq, refl, sym, ap, ◌∙◌}
use denote.Ref.{Bor}
use Rattle.std.specs.HashMap as hash
use Rattle.std.specs.Option.{option_map, option_map_or, option_or}
use Rattle.naga_ir.specs.declared.module.EntryPoint.{EntryPoint}
use Rattle.naga_ir.specs.declared.module.FunctionResult.{FunctionResult}
use Rattle.naga_naming.specs.Reset.{output_label, output_word}
use Rattle.naga_naming.proofs.Reset.{output_label-more}
use Rattle.naga_naming.specs.Outputs.{words_in}

module _ (t : ℕ) (entry_points : List EntryPoint) (i : ℕ) (entry_point : EntryPoint)
    (lt : i < length entry_points) (is : entry_point ≡ get_or entry_points i entry_point) where
  -- by what it returns, and the word for it
  abbrev more : Option FunctionResult → Option (List ℕ) → Option (List ℕ)
  more result word = option_or (cond (option_map_or (λ result. nat_eq result.ty t) result false) word None)
      (output_label t (take i entry_points))

  -- it returns nothing
  pub returns_nothing : entry_point.function.result ≡ None → output_label t (take (i + 1) entry_points)
      ≡ output_label t (take i entry_points)
  returns_nothing nothing = output_label-more t entry_points i entry_point lt is
      ∙ ap (λ result. more result (output_word entry_point.stage)) nothing

  -- there is no word for what it returns
  pub has_no_word : (result : FunctionResult) → entry_point.function.result ≡ Some result →
      output_word entry_point.stage ≡ None →
      output_label t (take (i + 1) entry_points) ≡ output_label t (take i entry_points)
  has_no_word result some no_word = output_label-more t entry_points i entry_point lt is
      ∙ (λ j. more (some j) (no_word j)) ∙ neither (nat_eq result.ty t)
    where
      neither : (b : Bool) → option_or (cond b None None) (output_label t (take i entry_points))
          ≡ output_label t (take i entry_points)
      neither true = refl
      neither false = refl

  -- there is one, which is put into the table
  pub has_word : {S : Type 0} (old new : HashMap ℕ (Bor (List ℕ)) S) (result : FunctionResult)
      (word : Bor (List ℕ)) → entry_point.function.result ≡ Some result →
      output_word entry_point.stage ≡ Some word.now →
      hash.Updates nat_eq old new result.ty (Some word)
      → words_in old t ≡ output_label t (take i entry_points) → words_in new t
      ≡ output_label t (take (i + 1) entry_points)
  has_word old new result word some is_word updates so_far =
      ap (option_map (λ word. word.now)) (updates.0 t) ∙ either (nat_eq result.ty t)
      ∙ sym (output_label-more t entry_points i entry_point lt is ∙ (λ j. more (some j) (is_word j)))
    where
      either : (b : Bool) → option_map (λ word. word.now) (cond b (Some word) (hash.get nat_eq old t))
          ≡ option_or (cond b (Some word.now) None) (output_label t (take i entry_points))
      either true = refl
      either false = so_far
