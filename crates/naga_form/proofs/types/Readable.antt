-- Being alike is an equivalence, and says nothing of strides.
use Rattle.std.proofs.Common.{◌≡◌, ℕ, List, refl, sym, ap, ◌∙◌, Option, Some, None}
use Rattle.std.specs.Prelude.{IsTrue}
use Rattle.std.specs.Option.{is_some}
use Rattle.naga_info.specs.declared.info.TypeResolution.{TypeResolution}
use Rattle.naga_info.specs.declared.info.TypeResolution.TheVariants as resolution
use Rattle.naga_ir.specs.declared.types.ArraySize.{ArraySize}
use Rattle.naga_ir.specs.declared.types.Type_.{Type_}
use Rattle.naga_ir.specs.declared.types.TypeInner.TheVariants as inner
use Rattle.wgsl_text.specs.Types.{TypeSpecifier}
use Rattle.naga_form.specs.Readable.{is_readable, handle_names, AreAlike, SpelledAlike, Unsupported}
use Rattle.naga_form.specs.TypeTrees.{resolution_tree}

module _ (types : List Type_) where
  by_tree : (a : TypeResolution) (o : Option TypeSpecifier) → resolution_tree (handle_names types) a ≡ o →
      AreAlike types a a
  by_tree a (Some t) at = SpelledAlike t at at
  by_tree a None at = Unsupported at at refl

  pub alike_itself : (a : TypeResolution) → AreAlike types a a
  alike_itself a = by_tree a (resolution_tree (handle_names types) a) refl

  pub alike_back : (a b : TypeResolution) → AreAlike types a b → AreAlike types b a
  alike_back a b (SpelledAlike t p q) = SpelledAlike t q p
  alike_back a b (Unsupported p q same) = Unsupported q p (sym same)

  one_tree : (o : Option TypeSpecifier) (t u : TypeSpecifier) → o ≡ Some t → o ≡ Some u → t ≡ u
  one_tree o t u p q = cc

  pub alike_through : (a b c : TypeResolution) → AreAlike types a b → AreAlike types b c → AreAlike types a c
  alike_through a b c (SpelledAlike t p q) (SpelledAlike u r s) =
      SpelledAlike t p (s ∙ ap Some (sym (one_tree (resolution_tree (handle_names types) b) t u q r)))
  alike_through a b c (SpelledAlike t p q) (Unsupported r s same) = let none : Some t ≡ None = sym q ∙ r in absurd (cc)
  alike_through a b c (Unsupported p q same) (SpelledAlike u r s) = let none : Some u ≡ None = sym r ∙ q in absurd (cc)
  alike_through a b c (Unsupported p q same) (Unsupported r s other) = Unsupported p s (same ∙ other)

  pub strides_are_alike : (base : ℕ) (l : ArraySize) (s t : ℕ) →
      IsTrue (is_readable (handle_names types) (resolution.Value (inner.Array base l s))) →
      AreAlike types (resolution.Value (inner.Array base l s))
      (resolution.Value (inner.Array base l t))
  strides_are_alike base l s t has =
      by (resolution_tree (handle_names types) (resolution.Value (inner.Array base l s))) refl has
    where
      by : (o : Option TypeSpecifier) →
          resolution_tree (handle_names types) (resolution.Value (inner.Array base l s)) ≡ o →
          IsTrue (is_some o) → AreAlike types (resolution.Value (inner.Array base l s))
          (resolution.Value (inner.Array base l t))
      by (Some x) at has = SpelledAlike x at at
      by None at has = absurd (cc)
