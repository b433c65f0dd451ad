-- What stands in order for one context does so for each.
use Rattle.std.proofs.Common.{◌≡◌, ◌<◌, ℕ, List, length, slice_get, Some, refl, ◌+◌, subst}
use borrow.Author.Count.{below_more}
use Rattle.std.specs.Prelude.{IsTrue}
use Rattle.naga_ir.specs.declared.types.Type_.{Type_}
use Rattle.naga_ir.specs.declared.types.TypeInner.{TypeInner}
use Rattle.naga_ir.specs.declared.types.TypeInner.TheVariants as inner
use Rattle.naga_ir.specs.declared.types.ArraySize.{ArraySize}
use Rattle.naga_ir.specs.declared.types.ArraySize.TheVariants as size
use Rattle.naga_spelling.specs.Spelling.{Context, IsInOrder, StandsAfter, knows_size, knows_override}
use Rattle.naga_spelling.specs.Spelling.{size_within, length_within}

knows_each_size : (c : Context) → ((h : ℕ) → IsTrue (c.knows h)) → (it : ArraySize) → IsTrue (knows_size c it)
knows_each_size c all (size.Constant number) = refl
knows_each_size c all (size.Pending handle) = all handle
knows_each_size c all size.Dynamic = refl

knows_each : (c : Context) → ((h : ℕ) → IsTrue (c.knows h)) → (it : TypeInner) → IsTrue (knows_override c it)
knows_each c all (inner.Array base size stride) = knows_each_size c all size
knows_each c all (inner.BindingArray base size) = knows_each_size c all size
knows_each c all _ = refl

-- a context that knows each override
pub all_known : (c : Context) → ((h : ℕ) → IsTrue (c.knows h)) → (overrides : ℕ) →
    ((handle : ℕ) (t : Type_) → handle < length c.types → slice_get c.types handle ≡ Some t →
    StandsAfter handle overrides t.inner) →
    ((handle : ℕ) (t : Type_) → slice_get c.types handle ≡ Some t → handle < length c.types) →
    IsInOrder c
all_known c all overrides following found = record {
  before = λ handle t is. (following handle t (found handle t is) is).before;
  known = λ handle t is. knows_each c all t.inner;
}

knows_size_within : (c : Context) (overrides : ℕ) →
    ((h : ℕ) → c.knows h ≡ size_within overrides (size.Pending h)) → (it : ArraySize) →
    IsTrue (size_within overrides it) → IsTrue (knows_size c it)
knows_size_within c overrides same (size.Constant number) k = refl
knows_size_within c overrides same (size.Pending handle) k = rw (same handle) k
knows_size_within c overrides same size.Dynamic k = refl

knows_within : (c : Context) (overrides : ℕ) → ((h : ℕ) → c.knows h ≡ size_within overrides (size.Pending h)) →
    (it : TypeInner) → IsTrue (length_within overrides it) → IsTrue (knows_override c it)
knows_within c overrides same (inner.Array base size stride) k = knows_size_within c overrides same size k
knows_within c overrides same (inner.BindingArray base size) k = knows_size_within c overrides same size k
knows_within c overrides same _ k = refl

-- a context that knows so many overrides
pub so_many_known : (c : Context) (overrides : ℕ) →
    ((h : ℕ) → c.knows h ≡ size_within overrides (size.Pending h)) →
    ((handle : ℕ) (t : Type_) → handle < length c.types → slice_get c.types handle ≡ Some t →
    StandsAfter handle overrides t.inner) →
    ((handle : ℕ) (t : Type_) → slice_get c.types handle ≡ Some t → handle < length c.types) →
    IsInOrder c
so_many_known c overrides same following found = record {
  before = λ handle t is. (following handle t (found handle t is) is).before;
  known = λ handle t is. knows_within c overrides same t.inner (following handle t (found handle t is) is).known;
}

-- one type more
pub one_more : (types : List Type_) (n overrides : ℕ) (here : Type_) → slice_get types n ≡ Some here →
    StandsAfter n overrides here.inner →
    ((handle : ℕ) → handle < n → (t : Type_) → slice_get types handle ≡ Some t → StandsAfter handle overrides t.inner) →
    (handle : ℕ) → handle < n + 1 → (t : Type_) → slice_get types handle ≡ Some t → StandsAfter handle overrides t.inner
one_more types n overrides here at stands below =
    below_more (λ handle. (t : Type_) → slice_get types handle ≡ Some t →
    StandsAfter handle overrides t.inner) n below (λ t is. let e : here ≡ t = cc in
    subst (λ (x : Type_). StandsAfter n overrides x.inner) e stands)
