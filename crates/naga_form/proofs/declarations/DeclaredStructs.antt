-- The structs that are written for a module, each at its number under its name, and their members.
--
-- Throughout, m is a module, of which info is known, h and k are handles of types, t and u types, s is
-- a struct that is written, i and j are indices, o is an override, w a word, and labels tells the names
-- of the labels that front ends gave.
use Rattle.std.proofs.Common.{◌≡◌, ℕ, ◌<◌, Bool, true, List, Some, None, sym, ap, ◌∙◌, length, map}
use Rattle.std.proofs.Common.{not, slice_get, take}
use Rattle.std.specs.List.{enumerate_from, filter}
use Rattle.std.specs.Option.{option_and_then, option_map}
use Rattle.std.proofs.lemmas.Bool.{and_parts}
use Rattle.std.proofs.lemmas.Option.{slice_get-map}
use Rattle.naga_info.proofs.Options.{map_some}
use Rattle.naga_info.specs.declared.info.ModuleInfo.{ModuleInfo}
use Rattle.naga_ir.specs.declared.module.Module.{Module}
use Rattle.naga_ir.specs.declared.types.StructMember.{StructMember}
use Rattle.naga_ir.specs.declared.types.Type_.{Type_}
use Rattle.naga_naming.specs.Reset.{members_of}
use Rattle.naga_naming.specs.declared.key.NameKey.TheVariants as key
use Rattle.naga_spelling.specs.Spelling.{is_struct}
use Rattle.module_semantics.specs.DeclaredItems.{struct_number}
use Rattle.module_semantics.specs.Names.{LabelNames, module_names, name_in, override_name}
use Rattle.module_semantics.specs.Resolution.{MembersResolve, OwnMembersResolve, words_of_members}
use Rattle.module_semantics.specs.Types.{type_names}
use Rattle.module_semantics.specs.Undeclared.{is_declared, is_undeclared}
use Rattle.text_semantics.specs.Resolution.{index_among, struct_named}
use Rattle.wgsl_text.specs.Declarations.{Program, Struct}
use Rattle.naga_form.proofs.names.DistinguishedItems.{items_are_distinguished}
use Rattle.naga_form.proofs.ListIndices.{formed_at, formed_from, made_at, made_from, numbered_at}
use Rattle.naga_form.proofs.ListIndices.{numbered_from, numbered_taken, index_found, index_none}
use Rattle.naga_form.specs.Declarations.{member_form, program_under}
use Rattle.naga_back.specs.declared.flags.WriterFlags.{WriterFlags}

module _ (m : Module) (info : ModuleInfo) (flags : WriterFlags) (labels : LabelNames) where
  abbrev program : Program
  program = program_under labels m info flags

  abbrev struct_name : ℕ → List ℕ
  struct_name h = name_in (module_names m) (key.Type_ h)

  -- a text declares the type
  abbrev declares : ℕ × Type_ → Bool
  declares p = is_declared m.special_types p.0 p.1.inner

  -- as this
  abbrev form : ℕ × Type_ → Struct
  form p = record {
    name = struct_name p.0;
    members =
        map (member_form (module_names m) (type_names m) m p.0) (enumerate_from 0 (members_of p.1.inner));
  }

  -- ---- structs
  numbered_so : (h : ℕ) → length (filter declares (take h (enumerate_from 0 m.types)))
      ≡ struct_number m h
  numbered_so h = ap (λ ps. length (filter declares ps)) (numbered_taken 0 h m.types)

  -- a struct that a text declares stands at its number
  pub struct_at : (h : ℕ) (t : Type_) → slice_get m.types h ≡ Some t →
      is_declared m.special_types h t.inner ≡ true →
      slice_get program.structs (struct_number m h) ≡ Some (form (h, t))
  struct_at h t at is =
      ap (slice_get program.structs) (sym (numbered_so h))
      ∙ formed_at declares form (enumerate_from 0 m.types) h (h, t) (numbered_at m.types h t at) is

  -- and what is written is such a struct
  pub record IsOfType (j : ℕ) (s : Struct) : Type 0 where
    pub handle : ℕ
    pub type : Type_
    pub there : slice_get m.types handle ≡ Some type
    pub declared : is_declared m.special_types handle type.inner ≡ true
    pub number : j ≡ struct_number m handle
    pub name : s.name ≡ struct_name handle

  pub struct_from : (j : ℕ) (s : Struct) → slice_get program.structs j ≡ Some s → IsOfType j s
  struct_from j s at =
      let f = formed_from declares form (enumerate_from 0 m.types) j s at in
      let own = numbered_from m.types f.index f.item f.there in
      record {
        handle = f.index;
        type = f.item.1;
        there = own.0;
        declared = ap (λ h. is_declared m.special_types h f.item.1.inner) (sym own.1) ∙ f.passes;
        number = f.number ∙ numbered_so f.index;
        name = ap (λ s. s.name) (sym f.is) ∙ ap struct_name own.1;
      }

  is_struct_of : (k : ℕ) (u : Type_) → is_declared m.special_types k u.inner ≡ true →
      is_struct u.inner ≡ true
  is_struct_of k u is = (and_parts (is_struct u.inner) (not (is_undeclared m.special_types k)) is).0

  -- ---- names
  abbrev pub struct_names : List (List ℕ)
  struct_names = map (λ s. s.name) program.structs

  -- what a struct's name is of
  pub name_from : (j : ℕ) (w : List ℕ) → slice_get struct_names j ≡ Some w →
      (s : Struct) × IsOfType j s × (s.name ≡ w)
  name_from j w at =
      let s = map_some (λ s. s.name) (slice_get program.structs j) w
      (sym (slice_get-map (λ s. s.name) program.structs j) ∙ at) in
      (s.0, struct_from j s.0 s.1, s.2)

  -- it is found at its number
  pub struct_found : (h : ℕ) (t : Type_) → slice_get m.types h ≡ Some t →
      is_declared m.special_types h t.inner ≡ true →
      struct_named program.structs (struct_name h) ≡ Some (struct_number m h)
  struct_found h t at is =
      index_found (struct_name h) struct_names (struct_number m h)
      (slice_get-map (λ s. s.name) program.structs (struct_number m h)
      ∙ ap (option_map (λ s. s.name)) (struct_at h t at is))
      (λ j there.
      let x = name_from j (struct_name h) there in
      x.1.number
      ∙ ap (struct_number m)
      ((items_are_distinguished m).types.structs x.1.handle h x.1.type t x.1.there at
      (is_struct_of x.1.handle x.1.type x.1.declared) (is_struct_of h t is)
      (sym x.1.name ∙ x.2)))

  -- and it is the name of no override
  pub override_not_found : (o : ℕ) → o < length m.overrides →
      struct_named program.structs (override_name (module_names m) o) ≡ None
  override_not_found o lt =
      index_none (override_name (module_names m) o) struct_names
      (λ j there.
      let x = name_from j (override_name (module_names m) o) there in
      (items_are_distinguished m).types.apart x.1.handle o x.1.type x.1.there
      (is_struct_of x.1.handle x.1.type x.1.declared) lt (sym x.1.name ∙ x.2))

  -- ---- members
  pub members_found : MembersResolve m program
  members_found h t at is i member there =
      let word = name_in (module_names m) (key.StructMember h i) in
      let members = enumerate_from 0 (members_of t.inner) in
      let make = member_form (module_names m) (type_names m) m h in
      let made = map make members in
      ap (λ o. option_and_then (λ s. index_among word (map (λ l. l.name) s.members))
      (option_and_then (slice_get program.structs) o)) (struct_found h t at is)
      ∙ (ap (option_and_then (λ s. index_among word (map (λ l. l.name) s.members)))
      (struct_at h t at is)
      ∙ index_found word (map (λ l. l.name) made) i
      (slice_get-map (λ l. l.name) made i
      ∙ ap (option_map (λ l. l.name)) (made_at make (members_of t.inner) i member there))
      (λ j other.
      let l = map_some (λ l. l.name) (slice_get made j) word
      (sym (slice_get-map (λ l. l.name) made j) ∙ other) in
      let x = made_from make (members_of t.inner) j l.0 l.1 in
      (items_are_distinguished m).members h t at j i x.0 member x.1 there
      (ap (λ l. l.name) x.2 ∙ l.2)))

-- ---- members of structs that no text declares
pub own_members_found : (m : Module) → OwnMembersResolve m
own_members_found m h t at own i member there =
    let name : ℕ × StructMember → List ℕ = λ p. name_in (module_names m) (key.StructMember h p.0) in
    let word = name (i, member) in
    index_found word (words_of_members (module_names m) h t) i
    (made_at name (members_of t.inner) i member there)
    (λ j other.
    let x = made_from name (members_of t.inner) j word other in
    (items_are_distinguished m).members h t at j i x.0 member x.1 there x.2)
