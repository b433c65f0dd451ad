-- What is known of a module when the writer was asked for it: the uses of its expressions are counted. Where
-- its text is to have what standard compilers ask for, the counts of operands that stand too deep are
-- raised, so that `let`s bind them, unless the module would be refused for that.
--
-- Throughout, m is the module, old is what is known of it before and new after, flags say how it is
-- written, and explicit whether `let`s tell types.
use Rattle.std.specs.Prelude.{◌≡◌, ◌⊎◌, Bool, true, false, Result, map}
use Rattle.naga_acceptance.specs.Counts.{all_with_counts, functions_of}
use Rattle.naga_back.specs.Flags.{annotates_types, is_portable}
use Rattle.naga_back.specs.declared.flags.WriterFlags.{WriterFlags}
use Rattle.naga_info.specs.declared.info.ModuleInfo.{ModuleInfo}
use Rattle.naga_ir.specs.declared.module.Module.{Module}
use Rattle.naga_refusals.specs.declared.error.Error.{Error}
use Rattle.naga_wgsl_out.specs.Checked.{IsCounted}
use Rattle.naga_wgsl_out.specs.ModuleRefusals.{NothingIsRefused}
use Rattle.naga_wgsl_out.specs.Unwritable.{StandsIn}
use Rattle.naga_wgsl_out.specs.declared.unwritable.Refusal.{Refusal}
use Rattle.module_answers.specs.Wants.{UnlessWanting}
use Rattle.operand_levels.specs.Levels.{all_bound_where_deep}
use Rattle.operand_levels.specs.Raised.{AllRaised, AllShallow}

-- no count is less than the uses are, and nothing else is another
pub record HasRaised (m : Module) (old new : ModuleInfo) : Type 0 where
  pub functions :
      AllRaised (all_with_counts m.functions old.functions.items) new.functions.items
  pub entry_points :
      AllRaised (all_with_counts (functions_of m.entry_points.items) old.entry_points.items)
      new.entry_points.items
  pub types : new.const_expression_types ≡ old.const_expression_types

-- The counts of operands that stand too deep are raised, and of no others. So none that can be bound
-- stands too deep.
pub record IsBound (m : Module) (old new : ModuleInfo) : Type 0 where
  pub functions : new.functions.items
      ≡ all_bound_where_deep m.functions (all_with_counts m.functions old.functions.items)
  pub entry_points : new.entry_points.items
      ≡ all_bound_where_deep (map (λ p. p.function) m.entry_points.items)
      (all_with_counts (functions_of m.entry_points.items) old.entry_points.items)
  pub types : new.const_expression_types ≡ old.const_expression_types
  pub shallow : AllShallow m.functions new.functions.items
  pub shallow_entry_points :
      AllShallow (map (λ p. p.function) m.entry_points.items) new.entry_points.items

-- with this known of it the writer refuses the module: a construct stands in it
abbrev pub IsRefusedWith : (explicit : Bool) → Module → ModuleInfo → Type 0
IsRefusedWith explicit m info = (refusal : Refusal) × StandsIn explicit m info refusal

-- The module is refused with raised counts, so its uses are counted. The raised ones stand here.
pub record IsLeft (explicit : Bool) (m : Module) (old new : ModuleInfo) : Type 0 where
  pub counted : IsCounted m old new
  pub raised : ModuleInfo
  pub bound : IsBound m old raised
  pub refused : IsRefusedWith explicit m raised

-- raised where they are to be, and either none was or the module is not refused for it; or left
abbrev pub RaisedCounts : (explicit : Bool) → Module → (old new : ModuleInfo) → Type 0
RaisedCounts explicit m old new =
    (IsBound m old new × (IsCounted m old new ⊎ NothingIsRefused explicit m new))
    ⊎ IsLeft explicit m old new

abbrev pub CountsIf : (is_standard explicit : Bool) → Module → (old new : ModuleInfo) → Type 0
CountsIf true explicit m old new = RaisedCounts explicit m old new
CountsIf false explicit m old new = IsCounted m old new

-- for a text that has what standard compilers ask for, or for another
abbrev pub CountsFor : WriterFlags → Module → (old new : ModuleInfo) → Type 0
CountsFor flags m old new = CountsIf (is_portable flags) (annotates_types flags) m old new

abbrev pub RaisedIf : (is_standard : Bool) → Module → (old new : ModuleInfo) → Type 0
RaisedIf true m old new = HasRaised m old new
RaisedIf false m old new = IsCounted m old new

-- the same where memory was wanting, so that some counts alone may be raised
abbrev pub RaisedFor : WriterFlags → Module → (old new : ModuleInfo) → Type 0
RaisedFor flags m old new = RaisedIf (is_portable flags) m old new

-- all that is known of counts when this was answered
pub record IsReady (flags : WriterFlags) (answer : Result Unit Error) (m : Module)
    (old new : ModuleInfo) : Type 0 where
  pub raised : RaisedFor flags m old new
  pub counted : UnlessWanting answer (CountsFor flags m old new)
