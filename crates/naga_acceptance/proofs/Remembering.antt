-- What a table of slots remembers of uses, and what an empty slot or a remembered use tells.
--
-- Throughout, types are a module's types, gs its groups, os are uses, v, w and x are among them or
-- new, o is a use or a site that may be there, table has slots, and a site tells where a use stands.
use Rattle.std.proofs.Common.{◌≡◌, ◌≢◌, ℕ, zero, suc, ◌+◌, ◌<◌, ◌%◌, ◌==◌, Bool, true, false, List}
use Rattle.std.proofs.Common.{[], ◌∷◌, ◌++◌, length, refl, ap, sym, ◌∙◌, subst, arith, Some, None}
use Rattle.std.proofs.Common.{Option, slice_get, slice_set, slice_index_or, replicate, ◌⊎◌, inl}
use Rattle.std.proofs.Common.{inr, ltb}
use Rattle.std.specs.List.{list_all}
use Rattle.std.specs.Option.{is_some, option_and_then, option_to_list}
use Rattle.std.specs.Str.{bytes_eq}
use Rattle.std.proofs.lemmas.Bool.{eqb-true, eqb-false, ltb-true, ltb-false, false≢true}
use Rattle.std.proofs.lemmas.List.{length-set, get_or-set_same, get_or-set_other, length-replicate}
use Rattle.std.proofs.lemmas.Option.{slice_get_within, same_Some}
use Rattle.naga_ir.specs.declared.types.Type_.{Type_}
use Rattle.module_semantics.specs.acceptance.AgreeingOperators.{Group}
use Rattle.module_semantics.specs.acceptance.Operations.{Operation, agrees, all_agree}
use Rattle.naga_acceptance.specs.declared.agreeing.Probe.TheVariants.{Empty, Seen, Full}
use Rattle.naga_acceptance.specs.declared.agreeing.Site.{Site}
use Rattle.naga_acceptance.specs.Uses.{is_same_operator, use_at, hash_of, slot_after, site_after}
use Rattle.naga_acceptance.specs.Uses.{site_answer, first_answer, all_mixed, lists_mixed, IsAmong}
use Rattle.naga_acceptance.specs.Uses.{IsSiteOf, IsHashed, ArePassed, Probes, IsFound, Remembers}
use Rattle.naga_acceptance.proofs.Agreement.{same_parts, same_from, first_by, new_agrees}
use Rattle.naga_acceptance.proofs.Agreement.{seen_agrees}
use Rattle.naga_acceptance.proofs.Groups.{in_front, at_sum}

-- ---- uses among others

-- uses stay where others come after them
pub among_more : (os ps : List Operation) (v : Operation) → IsAmong v os → IsAmong v (os ++ ps)
among_more os ps v among =
    (among.0, in_front os ps among.0 (slice_get_within os among.0 v among.1) ∙ among.1)

-- the last one
pub among_last : (os : List Operation) (v : Operation) → IsAmong v (os ++ v ∷ [])
among_last os v = (length os, at_sum os (v ∷ []) 0 (length os) (omega arith))

-- one of these is the last, or it stands in front
pub among_either : (os : List Operation) (v w : Operation) → IsAmong w (os ++ v ∷ []) →
    IsAmong w os ⊎ (w ≡ v)
among_either [] v w among = among_at among.0 among.1
  where
    among_at : (i : ℕ) → slice_get (v ∷ []) i ≡ Some w → IsAmong w [] ⊎ (w ≡ v)
    among_at zero here = inr (sym (same_Some v w here))
    among_at (suc i) here = absurd cc
among_either (x ∷ os) v w among =
    among_at (λ i here. among_either os v w (i, here)) among.0 among.1
  where
    further : IsAmong w os ⊎ (w ≡ v) → IsAmong w (x ∷ os) ⊎ (w ≡ v)
    further (inl own) = inl (suc own.0, own.1)
    further (inr last) = inr last

    among_at : ((i : ℕ) → slice_get (os ++ v ∷ []) i ≡ Some w → IsAmong w os ⊎ (w ≡ v)) →
        (i : ℕ) → slice_get (x ∷ os ++ v ∷ []) i ≡ Some w → IsAmong w (x ∷ os) ⊎ (w ≡ v)
    among_at rest zero here = inl (0, here)
    among_at rest (suc i) here = further (rest i here)

-- uses of one operator have one hash
pub same_hash : (v w : Operation) → is_same_operator v w ≡ true → hash_of v ≡ hash_of w
same_hash v w same =
    let parts = same_parts v w same
    in λ i. lists_mixed (all_mixed 0 (parts.0 i)) (parts.1 i)

-- so that uses of another hash are of another operator
pub other_hash : (v w : Operation) → hash_of v ≢ hash_of w → is_same_operator v w ≡ false
other_hash v w other = by_same (is_same_operator v w) refl
  where
    by_same : (b : Bool) → is_same_operator v w ≡ b → is_same_operator v w ≡ false
    by_same true e = absurd (other (same_hash v w e))
    by_same false e = e

-- uses of the operator of a third
same_through : (v w x : Operation) → is_same_operator v w ≡ true → is_same_operator w x ≡ true →
    is_same_operator v x ≡ true
same_through v w x one two =
    let front = same_parts v w one
    in let back = same_parts w x two
    in same_from v x (front.0 ∙ back.0) (front.1 ∙ back.1)

-- ---- what one use tells of another

-- it is of its operator, where it tells something
told : (o : Option Operation) (v : Operation) → is_some (first_answer (option_to_list o) v) ≡ true →
    (w : Operation) × (o ≡ Some w) × (is_same_operator w v ≡ true)
told None v some = absurd (false≢true some)
told (Some w) v some = by_same (is_same_operator w v) refl
  where
    by_same : (b : Bool) → is_same_operator w v ≡ b →
        (x : Operation) × (Some w ≡ Some x) × (is_same_operator x v ≡ true)
    by_same true e = (w, refl, e)
    by_same false e = absurd (false≢true (sym (ap is_some (first_by w [] v false e)) ∙ some))

-- whether it has its type, if it is of its operator
tells : (o : Option Operation) (v w : Operation) → o ≡ Some w → is_same_operator w v ≡ true →
    first_answer (option_to_list o) v ≡ Some (bytes_eq w.answer v.answer)
tells o v w there same =
    ap (λ p. first_answer (option_to_list p) v) there ∙ first_by w [] v true same

-- nothing, if it is not
pub tells_nothing : (o : Option Operation) (v : Operation)
    → ((w : Operation) → o ≡ Some w → is_same_operator w v ≡ false)
    → first_answer (option_to_list o) v ≡ None
tells_nothing None v other = refl
tells_nothing (Some w) v other = first_by w [] v false (other w refl)

-- a use at a site with another hash tells nothing
pub other_site : (types : List Type_) (gs : List Group) (site : Site) (v : Operation) →
    IsHashed types gs site → site.hash ≢ hash_of v → site_answer types gs (Some site) v ≡ None
other_site types gs site v hashed other =
    tells_nothing (use_at types gs site) v
    (λ w there. other_hash w v (λ e. other (hashed w there ∙ e)))

-- what a slot tells of a use, it tells of each of its operator
told_through : (types : List Type_) (gs : List Group) (o : Option Site) (w v : Operation) →
    is_same_operator w v ≡ true → is_some (site_answer types gs o w) ≡ true →
    is_some (site_answer types gs o v) ≡ true
told_through types gs o w v same some =
    let is = told (option_and_then (use_at types gs) o) w some
    in ap is_some (tells (option_and_then (use_at types gs) o) v is.0 is.1
    (same_through is.0 w v is.2 same))

-- ---- tables

-- a slot of an empty table
pub nothing_there : (size slot : ℕ) →
    slice_index_or (replicate {A = Option Site} size None) slot None ≡ None
nothing_there zero slot = refl
nothing_there (suc size) zero = refl
nothing_there (suc size) (suc slot) = nothing_there size slot

-- an empty table remembers nothing
pub none_remembered : (types : List Type_) (gs : List Group) (slots : ℕ)
    (table : List (Option Site)) → table ≡ replicate slots None → Remembers types gs [] slots table
none_remembered types gs slots table e = record {
  size = ap length e ∙ length-replicate {A = Option Site} slots None;
  sites = λ slot site here. absurd (nowhere slot site here);
  hashed = λ slot site here. absurd (nowhere slot site here);
  found = λ v among. absurd (missing v among.0 among.1);
}
  where
    filled : (o : Option Site) (site : Site) → o ≡ None → o ≡ Some site → ⊥
    filled o site empty here = cc

    nowhere : (slot : ℕ) (site : Site) → slice_index_or table slot None ≡ Some site → ⊥
    nowhere slot site here =
        filled (slice_index_or table slot None) site
        (ap (λ t. slice_index_or t slot None) e ∙ nothing_there slots slot) here

    missing : (v : Operation) (i : ℕ) → slice_get [] i ≡ Some v → ⊥
    missing v i here = cc

-- the same uses, remembered in the same way
pub remembers_same : (types : List Type_) (gs : List Group) (os ps : List Operation)
    (slots : ℕ) (table : List (Option Site)) → os ≡ ps → Remembers types gs os slots table →
    Remembers types gs ps slots table
remembers_same types gs os ps slots table e remembered =
    subst (λ qs. Remembers types gs qs slots table) e remembered

-- the site of one of these is that of one of more
pub site_of_more : (types : List Type_) (gs : List Group) (os ps : List Operation) (site : Site) →
    IsSiteOf types gs os site → IsSiteOf types gs (os ++ ps) site
site_of_more types gs os ps site is = (is.0, is.1, among_more os ps is.0 is.2)

-- one more use, which is found
pub further_remembered : (types : List Type_) (gs : List Group) (os : List Operation)
    (slots : ℕ) (table : List (Option Site)) (v : Operation) → Remembers types gs os slots table →
    IsFound types gs slots table v → Remembers types gs (os ++ v ∷ []) slots table
further_remembered types gs os slots table v remembered found = record {
  size = remembered.size;
  sites = λ slot site here. site_of_more types gs os (v ∷ []) site
      (remembered.sites slot site here);
  hashed = remembered.hashed;
  found = λ w among. either w (among_either os v w among);
}
  where
    either : (w : Operation) → IsAmong w os ⊎ (w ≡ v) → IsFound types gs slots table w
    either w (inl own) = remembered.found w own
    either w (inr last) = subst (λ u. IsFound types gs slots table u) (sym last) found

-- ---- a slot that is filled

-- an empty slot that was found is one of the table's
pub slot_within : (types : List Type_) (gs : List Group) (slots : ℕ) (table : List (Option Site))
    (v : Operation) (slot : ℕ) → Probes types gs slots table v (Empty slot) → slot < slots
slot_within types gs slots table v slot probed = omega (arith, probed.1, probed.2)

module _ (types : List Type_) (gs : List Group) (slots : ℕ) (table : List (Option Site))
    (slot : ℕ) (site : Site) (within : slot < length table)
    (empty : slice_index_or table slot None ≡ None) where
  -- the table with this site in the slot
  abbrev entered : List (Option Site)
  entered = slice_set table slot (Some site)

  at_own : (k : ℕ) → k ≡ slot → slice_index_or entered k None ≡ Some site
  at_own k same =
      ap (λ n. slice_index_or entered n None) same
      ∙ get_or-set_same table slot (Some site) None within

  at_other : (k : ℕ) → (k == slot) ≡ false →
      slice_index_or entered k None ≡ slice_index_or table k None
  at_other k e = get_or-set_other table slot k (Some site) None (eqb-false k slot e)

  -- what was filled is still filled
  still_filled : (k : ℕ) → is_some (slice_index_or table k None) ≡ true →
      is_some (slice_index_or entered k None) ≡ true
  still_filled k filled = by_slot (k == slot) refl
    where
      by_slot : (b : Bool) → (k == slot) ≡ b → is_some (slice_index_or entered k None) ≡ true
      by_slot true e = ap is_some (at_own k (eqb-true k slot e))
      by_slot false e = ap is_some (at_other k e) ∙ filled

  -- what a slot tells, it tells still
  still_told : (v : Operation) (k : ℕ) →
      is_some (site_answer types gs (slice_index_or table k None) v) ≡ true →
      is_some (site_answer types gs (slice_index_or entered k None) v) ≡ true
  still_told v k some = by_slot (k == slot) refl
    where
      by_slot : (b : Bool) → (k == slot) ≡ b →
          is_some (site_answer types gs (slice_index_or entered k None) v) ≡ true
      by_slot true e =
          absurd (false≢true (sym (ap (λ o. is_some (site_answer types gs o v))
          (ap (λ n. slice_index_or table n None) (eqb-true k slot e) ∙ empty)) ∙ some))
      by_slot false e = ap (λ o. is_some (site_answer types gs o v)) (at_other k e) ∙ some

  -- a use that was found is found
  still_found : (v : Operation) → IsFound types gs slots table v → IsFound types gs slots entered v
  still_found v found = record {
    steps = found.steps;
    filled = λ n less. still_filled (slot_after slots v n) (found.filled n less);
    ends = λ less. still_told v (slot_after slots v found.steps) (found.ends less);
  }

  -- a use at the site is found now, if the slots up to this one were passed
  found_now : (v : Operation) (steps : ℕ) → slot ≡ slot_after slots v steps →
      use_at types gs site ≡ Some v → ArePassed types gs slots table v steps →
      IsFound types gs slots entered v
  found_now v steps after there passed = record {
    steps = steps;
    filled = λ n less. still_filled (slot_after slots v n) (passed n less).0;
    ends = λ _. ap (λ o. is_some (site_answer types gs o v)) (at_own (slot_after slots v steps) (sym after))
        ∙ ap is_some (tells (use_at types gs site) v v there (same_from v v refl refl));
  }

-- one more use, which the first empty slot gets
pub entered_remembered : (types : List Type_) (gs : List Group) (os : List Operation)
    (slots : ℕ) (table : List (Option Site)) (v : Operation) (slot : ℕ) (site : Site) →
    Remembers types gs os slots table → Probes types gs slots table v (Empty slot) →
    use_at types gs site ≡ Some v → site.hash ≡ hash_of v →
    Remembers types gs (os ++ v ∷ []) slots (slice_set table slot (Some site))
entered_remembered types gs os slots table v slot site remembered probed there hashed = record {
  size = length-set table slot (Some site) ∙ remembered.size;
  sites = λ position other at. site_at position other (among_at position other at);
  hashed = λ position other at. hashed_at position other (among_at position other at);
  found = λ w among. either w (among_either os v w among);
}
  where
    inside : slot < length table
    inside = omega (arith, remembered.size, slot_within types gs slots table v slot probed)

    -- what a slot has is the new site, or it was there
    among_at : (position : ℕ) (other : Site) →
        slice_index_or (slice_set table slot (Some site)) position None ≡ Some other →
        (other ≡ site) ⊎ (slice_index_or table position None ≡ Some other)
    among_at position other at = by_slot (position == slot) refl
      where
        by_slot : (b : Bool) → (position == slot) ≡ b →
            (other ≡ site) ⊎ (slice_index_or table position None ≡ Some other)
        by_slot true e =
            inl (same_Some other site (sym at
            ∙ at_own types gs slots table slot site inside probed.3 position (eqb-true position slot e)))
        by_slot false e =
            inr (sym (at_other types gs slots table slot site inside probed.3 position e) ∙ at)

    site_at : (position : ℕ) (other : Site) →
        (other ≡ site) ⊎ (slice_index_or table position None ≡ Some other) →
        IsSiteOf types gs (os ++ v ∷ []) other
    site_at position other (inl same) =
        (v, ap (use_at types gs) same ∙ there, among_last os v)
    site_at position other (inr before) =
        site_of_more types gs os (v ∷ []) other (remembered.sites position other before)

    hashed_at : (position : ℕ) (other : Site) →
        (other ≡ site) ⊎ (slice_index_or table position None ≡ Some other) →
        IsHashed types gs other
    hashed_at position other (inl same) =
        λ w here. ap (λ (s : Site). s.hash) same ∙ hashed
        ∙ ap hash_of (same_Some v w (sym there ∙ ap (use_at types gs) (sym same) ∙ here))
    hashed_at position other (inr before) = remembered.hashed position other before

    either : (w : Operation) → IsAmong w os ⊎ (w ≡ v) →
        IsFound types gs slots (slice_set table slot (Some site)) w
    either w (inl before) =
        still_found types gs slots table slot site inside probed.3 w (remembered.found w before)
    either w (inr last) =
        subst (λ u. IsFound types gs slots (slice_set table slot (Some site)) u) (sym last)
        (found_now types gs slots table slot site inside probed.3 v probed.0 probed.1 there probed.4)

-- ---- what a walk through the slots tells of a new use

-- one more slot is passed
pub passed_further : (types : List Type_) (gs : List Group) (slots : ℕ) (table : List (Option Site))
    (v : Operation) (steps next : ℕ) → next ≡ suc steps → ArePassed types gs slots table v steps →
    is_some (site_after slots table v steps) ≡ true →
    site_answer types gs (site_after slots table v steps) v ≡ None → ArePassed types gs slots table v next
passed_further types gs slots table v steps next one passed filled nothing n less =
    by_steps (n == steps) refl
  where
    by_steps : (b : Bool) → (n == steps) ≡ b → (is_some (site_after slots table v n) ≡ true)
        × (site_answer types gs (site_after slots table v n) v ≡ None)
    by_steps true e =
        let here = eqb-true n steps e
        in (
          ap (λ k. is_some (site_after slots table v k)) here ∙ filled,
          ap (λ k. site_answer types gs (site_after slots table v k) v) here ∙ nothing,
        )
    by_steps false e = passed n (omega (arith, eqb-false n steps e, less, one))

-- uses of one operator are looked for in the same slots
same_after : (slots : ℕ) (table : List (Option Site)) (v w : Operation) → is_same_operator v w ≡ true →
    (n : ℕ) → site_after slots table v n ≡ site_after slots table w n
same_after slots table v w same n =
    ap (λ h. slice_index_or table ((h % slots + n) % slots) None) (same_hash v w same)

-- one of its operator is not found, where the slots are passed up to an empty one
not_found : (types : List Type_) (gs : List Group) (slots : ℕ) (table : List (Option Site)) (w v : Operation)
    (steps : ℕ) → is_same_operator w v ≡ true → steps < slots →
    site_after slots table v steps ≡ None → ArePassed types gs slots table v steps →
    IsFound types gs slots table w → ⊥
not_found types gs slots table w v steps same within empty passed found =
    by_steps (ltb steps found.steps) refl (ltb found.steps steps) refl
  where
    told_there : found.steps < slots →
        is_some (site_answer types gs (site_after slots table v found.steps) v) ≡ true
    told_there less =
        ap (λ o. is_some (site_answer types gs o v)) (sym (same_after slots table w v same found.steps))
        ∙ told_through types gs (site_after slots table w found.steps) w v same (found.ends less)

    by_steps : (b : Bool) → ltb steps found.steps ≡ b → (d : Bool) → ltb found.steps steps ≡ d → ⊥
    by_steps true b d e =
        let less = ltb-true steps found.steps b
        in false≢true (sym (ap is_some (same_after slots table w v same steps ∙ empty))
        ∙ found.filled steps less)
    by_steps false b true e =
        let less = ltb-true found.steps steps e
        in false≢true (sym (ap is_some (passed found.steps less).1)
        ∙ told_there (omega (arith, less, within)))
    by_steps false b false e =
        let here : found.steps ≡ steps =
        omega (arith, ltb-false steps found.steps b, ltb-false found.steps steps e)
        in false≢true (sym (ap (λ n. is_some (site_answer types gs (site_after slots table v n) v)) here
        ∙ ap (λ o. is_some (site_answer types gs o v)) empty)
        ∙ told_there (omega (arith, here, within)))

-- an empty slot: none before is of its operator
pub empty_probe : (types : List Type_) (gs : List Group) (os : List Operation)
    (slots : ℕ) (table : List (Option Site)) (v : Operation) (slot : ℕ) → Remembers types gs os slots table →
    Probes types gs slots table v (Empty slot) → list_all (λ o. agrees o v) os ≡ true
empty_probe types gs os slots table v slot remembered probed =
    new_agrees os v (λ i w here. by_same i w here (is_same_operator w v) refl)
  where
    empty : site_after slots table v probed.0 ≡ None
    empty = ap (λ k. slice_index_or table k None) (sym probed.1) ∙ probed.3

    by_same : (i : ℕ) (w : Operation) → slice_get os i ≡ Some w → (b : Bool) →
        is_same_operator w v ≡ b → is_same_operator w v ≡ false
    by_same i w here true e =
        absurd (not_found types gs slots table w v probed.0 e probed.2 empty probed.4
        (remembered.found w (i, here)))
    by_same i w here false e = e

-- a use of its operator: it agrees with all where it agrees with that
seen_slot : (types : List Type_) (gs : List Group) (os : List Operation)
    (slots : ℕ) (table : List (Option Site)) (slot : ℕ) (v : Operation) (o : Option Site) (alike : Bool) →
    all_agree os ≡ true → Remembers types gs os slots table → slice_index_or table slot None ≡ o →
    site_answer types gs o v ≡ Some alike → alike ≡ list_all (λ o. agrees o v) os
seen_slot types gs os slots table slot v None alike agree remembered filled answer =
    absurd (false≢true (ap is_some answer))
seen_slot types gs os slots table slot v (Some site) alike agree remembered filled answer =
    let seen = told (use_at types gs site) v (ap is_some answer)
    in let is = remembered.sites slot site filled
    in let one : is.0 ≡ seen.0 = same_Some is.0 seen.0 (sym is.1 ∙ seen.1)
    in same_Some alike (bytes_eq seen.0.answer v.answer)
    (sym answer ∙ tells (use_at types gs site) v seen.0 seen.1 seen.2)
    ∙ seen_agrees os agree is.2.0 v seen.0 (is.2.1 ∙ ap Some one) seen.2

pub seen_probe : (types : List Type_) (gs : List Group) (os : List Operation)
    (slots : ℕ) (table : List (Option Site)) (v : Operation) (alike : Bool) → all_agree os ≡ true →
    Remembers types gs os slots table → Probes types gs slots table v (Seen alike) →
    alike ≡ list_all (λ o. agrees o v) os
seen_probe types gs os slots table v alike agree remembered probed =
    seen_slot types gs os slots table (slot_after slots v probed.0) v (site_after slots table v probed.0) alike agree
    remembered refl probed.1

-- it is found then
pub seen_found : (types : List Type_) (gs : List Group) (slots : ℕ) (table : List (Option Site))
    (v : Operation) (alike : Bool) → Probes types gs slots table v (Seen alike) →
    IsFound types gs slots table v
seen_found types gs slots table v alike probed = record {
  steps = probed.0;
  filled = λ n less. (probed.2 n less).0;
  ends = λ _. ap is_some probed.1;
}

-- and where all slots are passed
pub full_found : (types : List Type_) (gs : List Group) (slots : ℕ) (table : List (Option Site))
    (v : Operation) → Probes types gs slots table v Full → IsFound types gs slots table v
full_found types gs slots table v passed = record {
  steps = slots;
  filled = λ n less. (passed n less).0;
  ends = λ less. absurd (beyond less);
}
  where
    beyond : slots < slots → ⊥
    beyond less = omega (arith, less)
