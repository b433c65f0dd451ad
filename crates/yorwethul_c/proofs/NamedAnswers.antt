-- What is told where a module's names or its layouts are asked for, from what the steps say.
use Rattle.std.proofs.Common.{◌≡◌, ◌≤◌, ◌∙◌, ℕ, [], List, None, Option, ap, inr, is_none, refl, subst, sym}
use Rattle.std.specs.declared.alloc.AllocError.{AllocError}
use Rattle.naga_acceptance.specs.declared.faults.Unaccepted.{Unaccepted}
use Rattle.naga_info.specs.declared.info.ModuleInfo.{ModuleInfo}
use Rattle.naga_ir.specs.declared.module.Module.{Module}
use Rattle.module_positions.specs.declared.positions.JsonHolder.{JsonHolder}
use Rattle.module_semantics.specs.Names.{module_names}
use Rattle.module_semantics.specs.acceptance.Accepted.{is_accepted}
use Rattle.name_maps.specs.NameMaps.{map_text}
use Rattle.naga_refusals.specs.declared.error.Error.{Error}
use Rattle.naga_refusals.specs.declared.error.Error.TheVariants as error
use Rattle.naga_wgsl_out.specs.ModuleRefusals.{IsNamesRefusal}
use Rattle.yorwethul_c.specs.Answers.{Says, TellsOfReading, WasRead}
use Rattle.yorwethul_c.specs.NamedItems.{AreNamed, AreUnnamed, IsToBeNamed, SaysOfUnnamed}
use Rattle.yorwethul_c.specs.NamedItems.{TellsOfLayouts, TellsOfNames, named_under}
use Rattle.yorwethul_c.proofs.Told.{lacking, said}
use Rattle.yorwethul_c.specs.declared.status.Status.{Status}
use Rattle.yorwethul_c.specs.declared.status.Status.TheVariants as status

-- what is said of reading is told
pub unread_named : (json : List ℕ) (flags : ℕ) (told : Status) (text : List ℕ) →
    TellsOfReading json told text → TellsOfNames json flags told text
unread_named json flags status.NoModule text tells = tells
unread_named json flags status.TooDeep text tells = tells
unread_named json flags status.OutOfMemory text tells = tells
unread_named json flags status.Done text tells = absurd tells
unread_named json flags status.Refused text tells = absurd tells
unread_named json flags status.NotAccepted text tells = inr tells
unread_named json flags status.UnknownFlag text tells = absurd tells
unread_named json flags status.TooLong text tells = absurd tells

-- so it is of layouts
pub unread_laid_out : (json : List ℕ) (flags : ℕ) (told : Status) (text : List ℕ) →
    TellsOfReading json told text → TellsOfLayouts json flags told text
unread_laid_out json flags status.NoModule text tells = tells
unread_laid_out json flags status.TooDeep text tells = tells
unread_laid_out json flags status.OutOfMemory text tells = tells
unread_laid_out json flags status.Done text tells = absurd tells
unread_laid_out json flags status.Refused text tells = absurd tells
unread_laid_out json flags status.NotAccepted text tells = inr tells
unread_laid_out json flags status.UnknownFlag text tells = absurd tells
unread_laid_out json flags status.TooLong text tells = absurd tells

-- an accepted module, which is named under these flags
abbrev pub to_be_named : (json : List ℕ) (flags : ℕ) (from : JsonHolder) (m : Module) (read : ModuleInfo)
    (found : Option Unaccepted) → flags ≤ 7 → WasRead json from m read →
    found ≡ None → is_none found ≡ is_accepted m read → IsToBeNamed json flags
to_be_named json flags from m read found known was_read is accepts = record {
  flags_are_known = known;
  from = from;
  m = m;
  read = read;
  was_read = was_read;
  accepted = sym accepts ∙ ap is_none is;
}

-- its names are told as they are under these flags
pub named_by : (json : List ℕ) (flags : ℕ) (asked : IsToBeNamed json flags) (named : Module) (text : List ℕ) →
    named ≡ named_under flags asked.m → text ≡ map_text named (module_names named) → AreNamed json flags text
named_by json flags asked named text under told =
    record { asked = asked; text_is = told ∙ ap (λ n. map_text n (module_names n)) under }

-- its items can't all be named, or memory was refused
pub unnamed_by : (Tells : Status → List ℕ → Type 0) (json : List ℕ) (flags : ℕ) (asked : IsToBeNamed json flags)
    (named : Module) (e : Error) (told : Status) (text : List ℕ) →
    (AreUnnamed json flags → Tells status.Refused text) → Tells status.OutOfMemory [] →
    named ≡ named_under flags asked.m → IsNamesRefusal named e → SaysOfUnnamed e told text → Tells told text
unnamed_by Tells json flags asked named (error.Memory e) told text tells lacks under stands says =
    lacking Tells told text lacks says
unnamed_by Tells json flags asked named (error.FmtError e) told text tells lacks under stands says = absurd stands
unnamed_by Tells json flags asked named (error.Custom e) told text tells lacks under stands says =
    said Tells status.Refused told text (tells (record {
      asked = asked;
      error = error.Custom e;
      stands = subst (λ n. IsNamesRefusal n (error.Custom e)) under stands;
      is_refusal = refl;
    })) lacks says
unnamed_by Tells json flags asked named (error.Unimplemented e) told text tells lacks under stands says = absurd stands
unnamed_by Tells json flags asked named (error.UnsupportedRelationalFunction e) told text tells lacks under stands says =
    absurd stands
unnamed_by Tells json flags asked named (error.Unsupported kind value) told text tells lacks under stands says =
    absurd stands

-- what is told of an error that is no lack of memory
pub says_refused : (e : Error) (told : Status) (text : List ℕ) → ((lack : AllocError) → e ≡ error.Memory lack → ⊥) →
    Says status.Refused told text → SaysOfUnnamed e told text
says_refused (error.Memory lack) told text other says = absurd (other lack refl)
says_refused (error.FmtError e) told text other says = says
says_refused (error.Custom e) told text other says = says
says_refused (error.Unimplemented e) told text other says = says
says_refused (error.UnsupportedRelationalFunction e) told text other says = says
says_refused (error.Unsupported kind value) told text other says = says
