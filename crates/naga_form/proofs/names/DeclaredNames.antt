-- The names of the structs that a text declares: those of the program that is written for a module are
-- those of the module's, so that both have one vocabulary.
--
-- Throughout, m is a module, of which info is known, labels tells the names of the labels that front
-- ends gave, p is a type beside its handle h, and w a word.
use Rattle.std.proofs.Common.{◌≡◌, ℕ, zero, suc, Bool, true, false, List, [], ◌∷◌, Some, None}
use Rattle.std.proofs.Common.{refl, ap, ◌∙◌, map, slice_get, if◌then◌else◌}
use Rattle.std.specs.List.{cons_option, enumerate_from, filter_map}
use Rattle.std.specs.Prelude.{◌||◌}
use Rattle.std.specs.Str.{bytes_eq}
use Rattle.std.proofs.Math.Bool.{or-true}
use Rattle.std.proofs.lemmas.Option.{same_Some}
use Rattle.std.proofs.lemmas.Slice.Eq.{bytes_eq-Decides}
use Rattle.naga_info.specs.declared.info.ModuleInfo.{ModuleInfo}
use Rattle.naga_ir.specs.declared.module.Module.{Module}
use Rattle.naga_ir.specs.declared.types.Type_.{Type_}
use Rattle.naga_naming.specs.Reset.{members_of}
use Rattle.naga_naming.specs.declared.key.NameKey.TheVariants as key
use Rattle.module_semantics.specs.Names.{LabelNames, module_names, name_in}
use Rattle.module_semantics.specs.Namings.{outer_names}
use Rattle.module_semantics.specs.Types.{type_names}
use Rattle.module_semantics.specs.Undeclared.{declared_struct_name, declared_struct_names, is_declared}
use Rattle.text_semantics.specs.Vocabulary.{vocabulary_of, vocabulary_read}
use Rattle.wgsl_text.specs.Declarations.{Struct, StructMember}
use Rattle.wgsl_text.specs.Words.{stands_in}
use Rattle.naga_form.specs.Declarations.{member_form, program_under, struct_form}
use Rattle.naga_form.proofs.ListIndices.{formed_at, numbered_at}
use Rattle.naga_back.specs.declared.flags.WriterFlags.{WriterFlags}

-- an element of a list stands in it
stands_at : (words : List (List ℕ)) (i : ℕ) (w : List ℕ) → slice_get words i ≡ Some w →
    stands_in words w ≡ true
stands_at [] i w at = absurd cc
stands_at (v ∷ words) zero w at =
    ap (λ b. b || stands_in words w) ((bytes_eq-Decides v w).1 (same_Some v w at))
stands_at (v ∷ words) (suc i) w at =
    ap (λ b. bytes_eq v w || b) (stands_at words i w at) ∙ or-true (bytes_eq v w)

module _ (m : Module) where
  -- the name of a struct that a text declares is among those
  pub declared_stands : (h : ℕ) (t : Type_) → slice_get m.types h ≡ Some t →
      is_declared m.special_types h t.inner ≡ true →
      stands_in (declared_struct_names (module_names m) m) (name_in (module_names m) (key.Type_ h))
      ≡ true
  declared_stands h t at is =
      stands_at (declared_struct_names (module_names m) m) _
      (name_in (module_names m) (key.Type_ h))
      (formed_at (λ p. is_declared m.special_types p.0 p.1.inner)
      (λ p. name_in (module_names m) (key.Type_ p.0)) (enumerate_from 0 m.types) h (h, t)
      (numbered_at m.types h t at) is)

  -- ---- the program
  named_so : (p : ℕ × Type_) (b : Bool) (members : List StructMember) (structs : List Struct)
      (names : List (List ℕ)) → map (λ s. s.name) structs ≡ names →
      map (λ s. s.name)
      (cons_option (if b then Some (record {
        name = name_in (module_names m) (key.Type_ p.0);
        members = members;
      }) else None) structs)
      ≡ cons_option (if b then Some (name_in (module_names m) (key.Type_ p.0)) else None) names
  named_so p true members structs names same =
      ap (λ ws. name_in (module_names m) (key.Type_ p.0) ∷ ws) same
  named_so p false members structs names same = same

  all_named : (ps : List (ℕ × Type_)) →
      map (λ s. s.name) (filter_map (struct_form (module_names m) (type_names m) m) ps)
      ≡ filter_map (declared_struct_name (module_names m) m.special_types) ps
  all_named [] = refl
  all_named (p ∷ ps) =
      named_so p (is_declared m.special_types p.0 p.1.inner)
      (map (member_form (module_names m) (type_names m) m p.0)
      (enumerate_from 0 (members_of p.1.inner)))
      (filter_map (struct_form (module_names m) (type_names m) m) ps)
      (filter_map (declared_struct_name (module_names m) m.special_types) ps) (all_named ps)

  pub one_vocabulary : (info : ModuleInfo) (flags : WriterFlags) (labels : LabelNames) →
      vocabulary_read (program_under labels m info flags)
      ≡ (outer_names (module_names m) m).vocabulary
  one_vocabulary info flags labels = ap vocabulary_of (all_named (enumerate_from 0 m.types))
