-- A text has no reading where the machine that inverts the printer stops elsewhere than at a program,
-- and where what it finds is printed otherwise.
use Rattle.std.proofs.Common.{◌≡◌, Bool, true, false, List, [], ◌∙◌, ap, subst, sym}
use Rattle.std.proofs.lemmas.Bool.{false≢true}
use Rattle.wgsl_text.specs.Declarations.{Program, no_declarations}
use Rattle.wgsl_text.specs.Reading.{Reads}
use Rattle.wgsl_text.specs.Token.{Token}
use Rattle.wgsl_text.proofs.Declarations.{newest_first, newest_twice}
use Rattle.wgsl_text.proofs.Machine.{Expect, InProgram, Reader}
use Rattle.wgsl_text.proofs.Reading.{program_read, read, same_program}

abbrev is_program : Reader → Bool
is_program (Expect (InProgram [] program)) = true
is_program _ = false

-- what the machine does with these tokens
abbrev pub ends_at : List Token → Reader
ends_at ts = read ts (Expect (InProgram [] no_declarations))

pub stops : (ts : List Token) → is_program (ends_at ts) ≡ false → (program : Program) → Reads ts program → ⊥
stops ts elsewhere program reads = false≢true (sym elsewhere ∙ ap is_program (program_read program reads))

pub finds : (ts : List Token) (found : Program) → ends_at ts ≡ Expect (InProgram [] found) →
    (Reads ts (newest_first found) → ⊥) → (program : Program) → Reads ts program → ⊥
finds ts found at otherwise program reads =
    otherwise (subst (Reads ts) (sym (newest_twice program)
    ∙ ap newest_first (same_program (newest_first program) found _ (program_read program reads) at)) reads)
