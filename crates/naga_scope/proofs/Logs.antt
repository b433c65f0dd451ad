-- The log: what undoing it gives, and what forgetting by it leaves.
-- Serves 15 contracts, `back_to` among them.
use Rattle.std.proofs.Common.{◌≡◌, ℕ, ◌+◌, ◌-◌, ◌<◌, ◌≤◌, Bool, true, false, nat_eq, List, [], ◌∷◌}
use Rattle.std.proofs.Common.{◌++◌, append_assoc, length, take, drop, get_or, slice_set, slice_get}
use Rattle.std.proofs.Common.{Some, refl, sym, ap, ◌∙◌, subst, arith}
use Rattle.std.specs.Prelude.{IsTrue}
use Rattle.std.proofs.lemmas.Bool.{eqb-true, eqb-false}
use Rattle.std.proofs.lemmas.List.{append-nil, take-append-drop, take-take, get_or-set_other}
use Rattle.std.proofs.lemmas.List.{get_or-take, length-set, set-set, set_comm, set-get_or}
use Rattle.std.proofs.lemmas.List.{get_or-set_same, take_more, drop_more, drop-append-le, take_at}
use Rattle.std.proofs.lemmas.List.{drop_at, take_all, drop_all, length-take-le, length-append}
use Rattle.std.proofs.lemmas.Option.{slice_get-get_or}
use Rattle.std.proofs.lemmas.Grind.{get_or-set_at}
use Rattle.naga_scope.specs.Availabilities.{TextPoint, availability_of, emitted_availability}
use Rattle.naga_scope.specs.Availabilities.{forgotten_cell, handles_of}
use Rattle.naga_scope.specs.Log.{undo, forget, forget_if, forget_at, undone, forgotten, back_to}
use Rattle.naga_scope.specs.Log.{forget_from, grows, Grown, Logged, Reverts, Extends, Same}
use Rattle.naga_scope.specs.declared.points.Change.{Change}
use Rattle.naga_scope.specs.declared.points.Availability.{Availability}
use Rattle.naga_scope.specs.declared.points.BoundName.{BoundName}
use Rattle.naga_scope.specs.declared.points.Availability.TheVariants.{Absent, Barred, Everywhere}
use Rattle.naga_scope.specs.declared.points.Availability.TheVariants.{Inline, Bound}
use Rattle.module_semantics.specs.Names.{numbered_name}
use Rattle.shader_runs.specs.Scope as runs

-- what a table says of a cell
abbrev cell_in : List Availability → ℕ → Availability
cell_in t h = get_or t h Absent

-- ---- growth
pub grows_refl : (o : Availability) → IsTrue (grows o o)
grows_refl Absent = refl
grows_refl Barred = refl
grows_refl Everywhere = refl
grows_refl Inline = refl
grows_refl (Bound n) = refl

pub grows_then : (o u t : Availability) → IsTrue (grows o u) → IsTrue (grows u t) → IsTrue (grows o t)
grows_then Absent u t p q = refl
grows_then Barred Absent t p q = absurd cc
grows_then Barred Barred t p q = q
grows_then Barred Everywhere t p q = absurd cc
grows_then Barred Inline Inline p q = refl
grows_then Barred Inline (Bound m) p q = refl
grows_then Barred Inline Barred p q = absurd cc
grows_then Barred Inline Absent p q = absurd cc
grows_then Barred Inline Everywhere p q = absurd cc
grows_then Barred (Bound n) Inline p q = refl
grows_then Barred (Bound n) (Bound m) p q = refl
grows_then Barred (Bound n) Barred p q = absurd cc
grows_then Barred (Bound n) Absent p q = absurd cc
grows_then Barred (Bound n) Everywhere p q = absurd cc
grows_then Everywhere Absent t p q = absurd cc
grows_then Everywhere Barred t p q = absurd cc
grows_then Everywhere Everywhere t p q = q
grows_then Everywhere Inline Absent p q = absurd cc
grows_then Everywhere Inline Barred p q = absurd cc
grows_then Everywhere Inline Everywhere p q = refl
grows_then Everywhere Inline Inline p q = refl
grows_then Everywhere Inline (Bound m) p q = refl
grows_then Everywhere (Bound n) Absent p q = absurd cc
grows_then Everywhere (Bound n) Barred p q = absurd cc
grows_then Everywhere (Bound n) Everywhere p q = refl
grows_then Everywhere (Bound n) Inline p q = refl
grows_then Everywhere (Bound n) (Bound m) p q = refl
grows_then Inline Absent t p q = absurd cc
grows_then Inline Barred t p q = absurd cc
grows_then Inline Everywhere t p q = absurd cc
grows_then Inline Inline t p q = q
grows_then Inline (Bound n) t p q = q
grows_then (Bound m) Absent t p q = absurd cc
grows_then (Bound m) Barred t p q = absurd cc
grows_then (Bound m) Everywhere t p q = absurd cc
grows_then (Bound m) Inline t p q = q
grows_then (Bound m) (Bound n) t p q = q

pub emitted_grows : (b o u : Bool) (h : BoundName) (was : Availability) →
    IsTrue (grows was (emitted_availability b o u h was))
emitted_grows true o u h Absent = refl
emitted_grows true o u h Barred = refl
emitted_grows true o u h Everywhere = refl
emitted_grows true o u h Inline = refl
emitted_grows true o u h (Bound n) = refl
emitted_grows false true true h Absent = refl
emitted_grows false true true h Barred = refl
emitted_grows false true true h Everywhere = refl
emitted_grows false true true h Inline = refl
emitted_grows false true true h (Bound n) = refl
emitted_grows false true false h Absent = refl
emitted_grows false true false h Barred = refl
emitted_grows false true false h Everywhere = refl
emitted_grows false true false h Inline = refl
emitted_grows false true false h (Bound n) = refl
emitted_grows false false u h was = grows_refl was

pub bound_grows : (h : BoundName) (was : Availability) → IsTrue (grows was (Bound h))
bound_grows h Absent = refl
bound_grows h Barred = refl
bound_grows h Everywhere = refl
bound_grows h Inline = refl
bound_grows h (Bound n) = refl

-- forgotten twice is forgotten once, by what was first
pub forgotten_twice : (o u t : Availability) → IsTrue (grows o u) → IsTrue (grows u t) →
    forgotten_cell o (forgotten_cell u t) ≡ forgotten_cell o t
forgotten_twice Absent u t p q = refl
forgotten_twice Barred u t p q = refl
forgotten_twice Inline u t p q = refl
forgotten_twice (Bound n) u t p q = refl
forgotten_twice Everywhere Absent t p q = absurd cc
forgotten_twice Everywhere Barred t p q = absurd cc
forgotten_twice Everywhere Everywhere Absent p q = refl
forgotten_twice Everywhere Everywhere Barred p q = refl
forgotten_twice Everywhere Everywhere Everywhere p q = refl
forgotten_twice Everywhere Everywhere Inline p q = refl
forgotten_twice Everywhere Everywhere (Bound n) p q = refl
forgotten_twice Everywhere Inline Absent p q = absurd cc
forgotten_twice Everywhere Inline Barred p q = absurd cc
forgotten_twice Everywhere Inline Everywhere p q = absurd cc
forgotten_twice Everywhere Inline Inline p q = refl
forgotten_twice Everywhere Inline (Bound n) p q = refl
forgotten_twice Everywhere (Bound m) Absent p q = absurd cc
forgotten_twice Everywhere (Bound m) Barred p q = absurd cc
forgotten_twice Everywhere (Bound m) Everywhere p q = absurd cc
forgotten_twice Everywhere (Bound m) Inline p q = refl
forgotten_twice Everywhere (Bound m) (Bound n) p q = refl

pub forgotten_same : (o : Availability) → forgotten_cell o o ≡ o
forgotten_same Absent = refl
forgotten_same Barred = refl
forgotten_same Everywhere = refl
forgotten_same Inline = refl
forgotten_same (Bound n) = refl

-- ---- changes
undone-append : (xs ys : List Change) (t : List Availability) → undone (xs ++ ys) t ≡ undone xs (undone ys t)
undone-append [] ys t = refl
undone-append (c ∷ xs) ys t = ap (undo c) (undone-append xs ys t)

undone-length : (cs : List Change) (t : List Availability) → length (undone cs t) ≡ length t
undone-length [] t = refl
undone-length (c ∷ cs) t = length-set (undone cs t) c.index c.before ∙ undone-length cs t

forgotten-length : (cs : List Change) (t : List Availability) → length (forgotten cs t) ≡ length t
forgotten-length [] t = refl
forgotten-length (c ∷ cs) t = length-set (forgotten cs t) c.index _ ∙ forgotten-length cs t

grown-append : (xs ys : List Change) (t : List Availability) → Grown xs (undone ys t) → Grown ys t → Grown (xs ++ ys) t
unfolding Grown
grown-append [] ys t p q = q
grown-append (c ∷ xs) ys t p q = (
  subst (λ n. c.index < n) (undone-length ys t) p.0,
  (
    subst (λ u. IsTrue (grows c.before (get_or u c.index Absent))) (sym (undone-append xs ys t)) p.1.0,
    grown-append xs ys t p.1.1 q,
  ),
)

logged-append : (xs ys : List Change) (a b c : TextPoint) → Logged a b xs → Logged b c ys → Logged a c (xs ++ ys)
unfolding Logged
logged-append xs ys a b c x y = (
  y.0 ∙ ap (λ l. l ++ ys) x.0 ∙ append_assoc a.log xs ys,
  undone-append xs ys c.table ∙ ap (undone xs) y.1 ∙ x.1,
)

-- ---- what extends
pub extends_refl : (a : TextPoint) → Extends a a
unfolding Logged Grown
extends_refl a = record {
  size = refl;
  room = refl;
  longer = omega arith;
  more = [];
  logged = (sym (append-nil a.log), refl);
  grown = tt;
}

pub extends_same : (a b : TextPoint) → Same a b → Extends a b
unfolding Logged Grown
extends_same a b same =
    record {
      size = ap length same.table;
      room = same.room;
      longer = omega (arith, ap length same.log);
      more = [];
      logged = (same.log ∙ sym (append-nil a.log), same.table);
      grown = tt;
    }

pub extends_then : {a b c : TextPoint} → Extends a b → Extends b c → Extends a c
unfolding Logged
extends_then {a} {b} {c} x y = record {
  size = y.size ∙ x.size;
  room = y.room ∙ x.room;
  longer = omega (arith, x.longer, y.longer);
  more = x.more ++ y.more;
  logged = logged-append x.more y.more a b c x.logged y.logged;
  grown = grown-append x.more y.more c.table (subst (Grown x.more) (sym y.logged.1) x.grown) y.grown;
}

-- the number of names is nothing to it
pub extends_named : (a : TextPoint) (k : ℕ) (b : TextPoint) → Extends (record a { named = k }) b → Extends a b
unfolding Logged
extends_named a k b x = record {
  size = x.size;
  room = x.room;
  longer = x.longer;
  more = x.more;
  logged = x.logged;
  grown = x.grown;
}

pub reverts : {a b : TextPoint} → Extends a b → Reverts a b
reverts {a} {b} x = record { size = x.size; room = x.room; longer = x.longer; more = x.more; logged = x.logged }

pub reverts_same : (a b : TextPoint) → Same a b → Reverts a b
reverts_same a b is = reverts (extends_same a b is)

pub reverts_then : {a b c : TextPoint} → Reverts a b → Reverts b c → Reverts a c
reverts_then {a} {b} {c} x y =
    record {
      size = y.size ∙ x.size;
      room = y.room ∙ x.room;
      longer = omega (arith, x.longer, y.longer);
      more = x.more ++ y.more;
      logged = logged-append x.more y.more a b c x.logged y.logged;
    }

pub change_extends : (a b : TextPoint) (h : ℕ) (x : Availability) → h < length a.table →
    IsTrue (grows (get_or a.table h Absent) x) → b.table ≡ slice_set a.table h x →
    b.log ≡ a.log ++ record { index = h; before = get_or a.table h Absent } ∷ [] → b.room ≡ a.room → Extends a b
unfolding Logged Grown
change_extends a b h x within grown set log room =
    let before : Availability = get_or a.table h Absent in
    let whole : slice_set b.table h before ≡ a.table = ap (λ t. slice_set t h before) set
    ∙ set-set a.table h x before ∙ set-get_or a.table h Absent in
    let cell : get_or b.table h Absent ≡ x = ap (λ t. get_or t h Absent) set
    ∙ get_or-set_same a.table h x Absent within in
    let same : length b.table ≡ length a.table = ap length set ∙ length-set a.table h x in
    record {
      size = same;
      room = room;
      longer = omega (arith, ap length log, length-append a.log (record { index = h; before = before } ∷ []));
      more = record { index = h; before = before } ∷ [];
      logged = (log, whole);
      grown = (subst (λ n. h < n) (sym same) within, (subst (λ y. IsTrue (grows before y)) (sym cell) grown, tt));
    }

-- ---- back to a mark
pub back_start : (m : ℕ) (a : TextPoint) → back_to m a ≡ back_to m a
back_start m a = refl

pub back_done : (m : ℕ) (a : TextPoint) → length a.log ≤ m → a ≡ back_to m a
unfolding back_to
back_done m a le = λ i. record {
  table = undone (sym (drop_all m a.log le) i) a.table;
  log = sym (take_all m a.log le) i;
  room = a.room;
  named = a.named;
}

back_twice : (m n : ℕ) (a : TextPoint) → m ≤ n → n ≤ length a.log → back_to m (back_to n a) ≡ back_to m a
unfolding back_to
back_twice m n a le within =
    let parts : drop m (take n a.log) ++ drop n a.log ≡ drop m a.log =
    sym (drop-append-le m (take n a.log) (drop n a.log)
    (subst (λ k. m ≤ k) (sym (length-take-le n a.log within)) le)) ∙ ap (drop m) (take-append-drop n a.log) in
    λ i. record {
      table = (sym (undone-append (drop m (take n a.log)) (drop n a.log) a.table)
          ∙ ap (λ cs. undone cs a.table) parts) i;
      log = take-take m n a.log le i;
      room = a.room;
      named = a.named;
    }

pub back_more : (m : ℕ) (a b c : TextPoint) → back_to m b ≡ back_to m a → m < length b.log →
    c ≡ back_to (length b.log - 1) b → back_to m c ≡ back_to m a
back_more m a b c so lt is = ap (back_to m) is ∙ back_twice m (length b.log - 1) b (omega (arith, lt))
    (omega (arith, lt)) ∙ so

-- the last change of a log that stands in a longer list
pub last_undone : (items : List Change) (used k : ℕ) (t : List Availability) (c : Change) (a b : TextPoint) →
    0 < used → used ≤ length items → c ≡ get_or items (used - 1) c →
    record { table = t; log = take used items; room = length items; named = k } ≡ a →
    record { table = undo c t; log = take (used - 1) items; room = length items; named = k } ≡ b →
    b ≡ back_to (length a.log - 1) a
unfolding back_to
last_undone items used k t c a b some within is was now =
    let n : length a.log ≡ used = ap (λ (s : TextPoint). length s.log) (sym was) ∙ length-take-le used items within in
    let split : take used items ≡ take (used - 1) items ++ c ∷ [] =
    ap (λ k. take k items) (omega arith) ∙ take_more items (used - 1) c (omega arith)
    ∙ ap (λ x. take (used - 1) items ++ x ∷ []) (sym is) in
    let rest : drop (used - 1) (take used items) ≡ c ∷ [] = ap (drop (used - 1)) split
    ∙ drop_at (take (used - 1) items) (c ∷ []) (used - 1) (length-take-le (used - 1) items (omega arith)) in
    sym now
    ∙ (λ i. record {
      table = undone (sym rest i) t;
      log = sym (take-take (used - 1) used items (omega arith)) i;
      room = length items;
      named = k;
    })
    ∙ (λ i. back_to (used - 1) (was i)) ∙ ap (λ k. back_to (k - 1) a) (sym n)

-- a scope that extends another is undone to it
pub restored : (m : ℕ) (a b c : TextPoint) → c ≡ back_to m b → m ≡ length a.log → Reverts a b → Same a c
unfolding back_to Logged
restored m a b c is at x =
    let following : drop m b.log ≡ x.more = ap (drop m) x.logged.0 ∙ drop_at a.log x.more m (sym at) in
    let front : take m b.log ≡ a.log = ap (take m) x.logged.0 ∙ take_at a.log x.more m (sym at) in
    record {
      table = ap (λ (s : TextPoint). s.table) is ∙ ap (λ cs. undone cs b.table) following ∙ x.logged.1;
      log = ap (λ (s : TextPoint). s.log) is ∙ front;
      room = ap (λ (s : TextPoint). s.room) is ∙ x.room;
    }

pub back_named : (m : ℕ) (a b : TextPoint) → b ≡ back_to m a → b.named ≡ a.named
unfolding back_to
back_named m a b is = ap (λ (s : TextPoint). s.named) is

pub forget_named : (m : ℕ) (a b : TextPoint) → b ≡ forget_from m a → b.named ≡ a.named
unfolding forget_from
forget_named m a b is = ap (λ (s : TextPoint). s.named) is

-- ---- what is forgotten
pub one_forgotten : (items : List Change) (used k index : ℕ) (t : List Availability) (c : Change)
    (a b : TextPoint) → index < used → used ≤ length items → c ≡ get_or items index c →
    record { table = t; log = take used items; room = length items; named = k } ≡ a →
    record { table = forget c t; log = take used items; room = length items; named = k } ≡ b → b ≡ forget_at index a
unfolding forget_at
one_forgotten items used k index t c a b lt within is was now =
    let here : slice_get (take used items) index ≡ Some c =
    slice_get-get_or (take used items) index c
    (subst (λ n. index < n) (sym (length-take-le used items within)) lt)
    ∙ ap Some (get_or-take used items index c lt ∙ sym is) in
    sym now ∙ (λ i. record {
      table = forget_if (sym here i) t;
      log = take used items;
      room = length items;
      named = k;
    }) ∙ ap (forget_at index) was

pub forget_start : (a : TextPoint) → a ≡ forget_from (length a.log) a
unfolding forget_from
forget_start a = λ i. record {
  table = forgotten (sym (drop_all (length a.log) a.log (omega arith)) i) a.table;
  log = a.log;
  room = a.room;
  named = a.named;
}

none : Change
none = record { index = 0; before = Absent }

pub forget_more : (left : ℕ) (a b c : TextPoint) → 0 < left → left ≤ length a.log → b ≡ forget_from left a →
    c ≡ forget_at (left - 1) b → c ≡ forget_from (left - 1) a
unfolding forget_from forget_at
forget_more left a b c some within so is =
    let k : ℕ = left - 1 in
    let lt : k < length a.log = omega arith in
    let next : left ≡ k + 1 = omega arith in
    let split : drop k a.log ≡ get_or a.log k none ∷ drop left a.log = drop_more a.log k none lt
    ∙ ap (λ n. get_or a.log k none ∷ drop n a.log) (sym next) in
    is ∙ ap (forget_at k) so
    ∙ (λ i. record {
      table = forget_if (slice_get-get_or a.log k none lt i)
          (forgotten (drop left a.log) a.table);
      log = a.log;
      room = a.room;
      named = a.named;
    })
    ∙ (λ i. record { table = forgotten (sym split i) a.table; log = a.log; room = a.room; named = a.named })

pub forget_done : (m n : ℕ) (a b : TextPoint) → b ≡ forget_from n a → n ≡ m → b ≡ forget_from m a
forget_done m n a b is same = is ∙ ap (λ k. forget_from k a) same

-- ---- how long the log is then
pub back_log : (m : ℕ) (a b : TextPoint) → b ≡ back_to m a → m ≤ length a.log → length b.log ≡ m
unfolding back_to
back_log m a b is le = ap (λ (s : TextPoint). length s.log) is ∙ length-take-le m a.log le

pub forget_log : (m : ℕ) (a b : TextPoint) → b ≡ forget_from m a → length b.log ≡ length a.log
unfolding forget_from
forget_log m a b is = ap (λ (s : TextPoint). length s.log) is

-- ---- what a forgotten scope says, and that it is undone as well
grown_along : (cs : List Change) (t : List Availability) (h : ℕ) → Grown cs t →
    IsTrue (grows (cell_in (undone cs t) h) (cell_in t h))
unfolding Grown
grown_along [] t h g = grows_refl (cell_in t h)
grown_along (c ∷ cs) t h g = by (nat_eq h c.index) refl (λ k. grown_along cs t k g.1.1)
  where
    inside : c.index < length (undone cs t)
    inside = subst (λ n. c.index < n) (sym (undone-length cs t)) g.0

    by : (b : Bool) → nat_eq h c.index ≡ b →
        ((k : ℕ) → IsTrue (grows (cell_in (undone cs t) k) (cell_in t k))) →
        IsTrue (grows (cell_in (undo c (undone cs t)) h) (cell_in t h))
    by true is rest =
        let same = eqb-true h c.index is in
        subst (λ o. IsTrue (grows o (cell_in t h)))
        (sym (get_or-set_at (undone cs t) c.index h c.before Absent same inside))
        (grows_then c.before (cell_in (undone cs t) h) (cell_in t h)
        (subst (λ k. IsTrue (grows c.before (cell_in (undone cs t) k))) (sym same) g.1.0) (rest h))
    by false is rest = subst (λ o. IsTrue (grows o (cell_in t h)))
        (sym (get_or-set_other (undone cs t) c.index h c.before Absent (eqb-false h c.index is))) (rest h)

pub extends_grows : {a b : TextPoint} → Extends a b → (h : ℕ) → IsTrue (grows (cell_in a.table h) (cell_in b.table h))
unfolding Logged
extends_grows {a} {b} x h = subst (λ t. IsTrue (grows (cell_in t h) (cell_in b.table h))) x.logged.1
    (grown_along x.more b.table h x.grown)

forgotten_is : (cs : List Change) (t : List Availability) (h : ℕ) → Grown cs t → cell_in (forgotten cs t) h
    ≡ forgotten_cell (cell_in (undone cs t) h) (cell_in t h)
unfolding Grown
forgotten_is [] t h g = sym (forgotten_same (cell_in t h))
forgotten_is (c ∷ cs) t h g = by (nat_eq h c.index) refl (forgotten_is cs t h g.1.1) (forgotten_is cs t c.index g.1.1)
  where
    by : (b : Bool) → nat_eq h c.index ≡ b → cell_in (forgotten cs t) h
        ≡ forgotten_cell (cell_in (undone cs t) h) (cell_in t h) →
        cell_in (forgotten cs t) c.index ≡ forgotten_cell (cell_in (undone cs t) c.index) (cell_in t c.index)
        → cell_in (forget c (forgotten cs t)) h ≡ forgotten_cell (cell_in (undo c (undone cs t)) h) (cell_in t h)
    by true is rest here =
        let same = eqb-true h c.index is in
        get_or-set_at (forgotten cs t) c.index h (forgotten_cell c.before (cell_in (forgotten cs t) c.index))
        Absent same (subst (λ n. c.index < n) (sym (forgotten-length cs t)) g.0)
        ∙ ap (forgotten_cell c.before) here ∙ forgotten_twice c.before (cell_in (undone cs t) c.index)
        (cell_in t c.index) g.1.0 (grown_along cs t c.index g.1.1)
        ∙ (λ i. forgotten_cell
        (sym (get_or-set_at (undone cs t) c.index h c.before Absent same
        (subst (λ n. c.index < n) (sym (undone-length cs t)) g.0)) i) (cell_in t (sym same i)))
    by false is rest here =
        get_or-set_other (forgotten cs t) c.index h (forgotten_cell c.before (cell_in (forgotten cs t) c.index))
        Absent (eqb-false h c.index is) ∙ rest
        ∙ ap (λ o. forgotten_cell o (cell_in t h))
        (sym (get_or-set_other (undone cs t) c.index h c.before Absent (eqb-false h c.index is)))

forgotten_as : (named : ℕ → List ℕ) (numbered : List ℕ) (o n : Availability) →
    availability_of named numbered (forgotten_cell o n) ≡ runs.forgotten_one (availability_of named numbered o)
    (availability_of named numbered n)
forgotten_as named numbered Absent n = refl
forgotten_as named numbered Barred n = refl
forgotten_as named numbered Inline n = refl
forgotten_as named numbered (Bound x) n = refl
forgotten_as named numbered Everywhere Absent = refl
forgotten_as named numbered Everywhere Barred = refl
forgotten_as named numbered Everywhere Everywhere = refl
forgotten_as named numbered Everywhere Inline = refl
forgotten_as named numbered Everywhere (Bound x) = refl

pub forgotten_says : (named : ℕ → List ℕ) (m : ℕ) (a b c : TextPoint) → Extends a b → m ≡ length a.log →
    c ≡ forget_from m b →
    handles_of named c.table ≡ runs.forgotten_handles (handles_of named a.table) (handles_of named b.table)
unfolding forget_from Logged
forgotten_says named m a b c x at is =
    let following : drop m b.log ≡ x.more = ap (drop m) x.logged.0 ∙ drop_at a.log x.more m (sym at) in
    let table : c.table ≡ forgotten x.more b.table = ap (λ (s : TextPoint). s.table) is
    ∙ ap (λ cs. forgotten cs b.table) following in
    λ i h. (ap (λ t. handles_of named t h) table
    ∙ ap (availability_of named (numbered_name h))
    (forgotten_is x.more b.table h x.grown ∙ ap (λ t. forgotten_cell (cell_in t h) (cell_in b.table h)) x.logged.1)
    ∙ forgotten_as named (numbered_name h) (cell_in a.table h) (cell_in b.table h)) i

-- a cell that is undone later may be written before
undone_over : (cs : List Change) (t : List Availability) (h : ℕ) (x y : Availability) →
    slice_set (undone cs (slice_set t h x)) h y ≡ slice_set (undone cs t) h y
undone_over [] t h x y = set-set t h x y
undone_over (c ∷ cs) t h x y = by (nat_eq c.index h) refl (undone_over cs t h x y)
  where
    by : (b : Bool) → nat_eq c.index h ≡ b → slice_set (undone cs (slice_set t h x)) h y ≡ slice_set (undone cs t) h y →
        slice_set (undo c (undone cs (slice_set t h x))) h y ≡ slice_set (undo c (undone cs t)) h y
    by true is rest =
        let same = eqb-true c.index h is in
        ap (λ k. slice_set (slice_set (undone cs (slice_set t h x)) k c.before) h y) same
        ∙ set-set (undone cs (slice_set t h x)) h c.before y ∙ rest
        ∙ sym (ap (λ k. slice_set (slice_set (undone cs t) k c.before) h y) same ∙ set-set (undone cs t) h c.before y)
    by false is rest =
        let other = eqb-false c.index h is in
        set_comm (undone cs (slice_set t h x)) c.index h c.before y other
        ∙ ap (λ u. slice_set u c.index c.before) rest ∙ sym (set_comm (undone cs t) c.index h c.before y other)

undone-forgotten : (cs : List Change) (t : List Availability) → undone cs (forgotten cs t) ≡ undone cs t
undone-forgotten [] t = refl
undone-forgotten (c ∷ cs) t = undone_over cs (forgotten cs t) c.index _ c.before ∙ ap (undo c) (undone-forgotten cs t)

pub forgotten_reverts : (m : ℕ) (a b c : TextPoint) → c ≡ forget_from m b → m ≡ length a.log → Extends a b → Reverts a c
unfolding forget_from Logged
forgotten_reverts m a b c is at x =
    let following : drop m b.log ≡ x.more = ap (drop m) x.logged.0 ∙ drop_at a.log x.more m (sym at) in
    let table : c.table ≡ forgotten x.more b.table = ap (λ (s : TextPoint). s.table) is
    ∙ ap (λ cs. forgotten cs b.table) following in
    record {
      size = ap length table ∙ forgotten-length x.more b.table ∙ x.size;
      room = ap (λ (s : TextPoint). s.room) is ∙ x.room;
      longer = subst (λ (s : List Change). length a.log ≤ length s) (sym (ap (λ (s : TextPoint). s.log) is)) x.longer;
      more = x.more;
      logged = (
        ap (λ (s : TextPoint). s.log) is ∙ x.logged.0,
        ap (undone x.more) table
            ∙ undone-forgotten x.more b.table ∙ x.logged.1,
      );
    }

pub ruleset extending = (extends_refl, extends_then)
