-- Literals: the machine reads back what their pieces write, and no token of these runs into the
-- next.
use Rattle.std.proofs.Common.{ℕ, Bool, true, false, List, [], ◌∷◌, refl, arith}
use Rattle.wgsl_text.specs.Expressions.{Constant}
use Rattle.wgsl_text.specs.Literals.{Literal, Truth, Suffixed, SignedShort, UnsignedShort}
use Rattle.wgsl_text.specs.Literals.{LeastInteger, LeastLong, wrapped_pieces, literal_pieces}
use Rattle.wgsl_text.specs.Literals.{IsSigned, IsSuffixed, IsLiteral, Floating}
use Rattle.wgsl_text.specs.Token.{Suffix, NoSuffix, SuffixI, SuffixU, SuffixLi, SuffixLu, Number}
use Rattle.wgsl_text.specs.Token.{TokenPiece}
use Rattle.wgsl_text.specs.Words.{IsWord, is_reserved}
use Rattle.wgsl_text.proofs.Chain.{◌$◌}
use Rattle.wgsl_text.proofs.Runs.{Runs, at_end}
use Rattle.wgsl_text.proofs.Spacing.{Spaced, end, tok, free, gap, close, Opens, number_opens}
use Rattle.wgsl_text.proofs.Spacing.{decimal_opens}
use Rattle.wgsl_text.proofs.Text.{IsNumber}
use Rattle.wgsl_text.proofs.Machine.{Stack, Expect, Got}
use Rattle.std.specs.Prelude.{codes, ◌<◌, ◌^◌}

suffixed_runs : (suffix : Suffix) (negative : Bool) (n : ℕ) → IsSuffixed suffix negative n →
    (s : Stack) → Runs (TokenPiece (Number negative n suffix) ∷ []) (Expect s)
    (Got (Constant (Suffixed negative n suffix)) s)
suffixed_runs NoSuffix negative n is s = absurd is
suffixed_runs _ negative n is s = at_end

pub literal_runs : (l : Literal) → IsLiteral l → (s : Stack) → Runs (literal_pieces l) (Expect s) (Got (Constant l) s)
literal_runs (Truth true) is s = at_end
literal_runs (Truth false) is s = at_end
literal_runs (Suffixed negative n suffix) is s = suffixed_runs suffix negative n is s
literal_runs (Floating negative whole fraction precision) is s = at_end
literal_runs (SignedShort negative n) is s = at_end
literal_runs (UnsignedShort n) is s = at_end
literal_runs LeastInteger is s = at_end
literal_runs LeastLong is s = at_end

-- In their pieces no token runs into the next.

suffixed_number : (suffix : Suffix) (negative : Bool) (n : ℕ) → IsSuffixed suffix negative n → IsNumber n
suffixed_number NoSuffix negative n is = absurd is
suffixed_number SuffixI true n is = omega arith
suffixed_number SuffixI false n is = omega arith
suffixed_number SuffixU true n is = absurd is
suffixed_number SuffixU false n is = omega arith
suffixed_number SuffixLi true n is = omega arith
suffixed_number SuffixLi false n is = omega arith
suffixed_number SuffixLu true n is = absurd is
suffixed_number SuffixLu false n is = is

pub signed_number : (negative : Bool) (n limit : ℕ) → limit < 2 ^ 64 → IsSigned negative n limit → IsNumber n
signed_number true n limit small is = omega arith
signed_number false n limit small is = omega arith

i16_word : IsWord (codes "i16")
unfolding is_reserved
i16_word = record { text = refl; free = refl }

u16_word : IsWord (codes "u16")
unfolding is_reserved
u16_word = record { text = refl; free = refl }

i32_word : IsWord (codes "i32")
unfolding is_reserved
i32_word = record { text = refl; free = refl }

i64_word : IsWord (codes "i64")
unfolding is_reserved
i64_word = record { text = refl; free = refl }

pub literal_opens : (l : Literal) → IsLiteral l → Opens (literal_pieces l)
literal_opens (Truth true) is = record { at = λ more. refl }
literal_opens (Truth false) is = record { at = λ more. refl }
literal_opens (Suffixed negative n suffix) is = number_opens negative n suffix (suffixed_number suffix negative n is)
literal_opens (Floating negative whole fraction precision) is =
    decimal_opens negative whole fraction precision is.whole_digits
literal_opens (SignedShort negative n) is = record { at = λ more. refl }
literal_opens (UnsignedShort n) is = record { at = λ more. refl }
literal_opens LeastInteger is = record { at = λ more. refl }
literal_opens LeastLong is = record { at = λ more. refl }

suffixed_spaced : (suffix : Suffix) (negative : Bool) (n : ℕ) → IsSuffixed suffix negative n →
    Spaced (TokenPiece (Number negative n suffix) ∷ [])
suffixed_spaced NoSuffix negative n is = absurd is
suffixed_spaced SuffixI negative n is = tok (suffixed_number SuffixI negative n is) (λ more e. refl) end
suffixed_spaced SuffixU negative n is = tok (suffixed_number SuffixU negative n is) (λ more e. refl) end
suffixed_spaced SuffixLi negative n is = tok (suffixed_number SuffixLi negative n is) (λ more e. refl) end
suffixed_spaced SuffixLu negative n is = tok (suffixed_number SuffixLu negative n is) (λ more e. refl) end

wrapped_spaced : (w : List ℕ) (negative : Bool) (n : ℕ) → IsWord w → IsNumber n → Spaced (wrapped_pieces w negative n)
wrapped_spaced w negative n word is = free word (λ more e. refl) $ tok tt (λ more e. refl) $
    tok is (λ more e. refl) close

pub literal_spaced : (l : Literal) → IsLiteral l → Spaced (literal_pieces l)
literal_spaced (Truth true) is = tok tt (λ more e. e) end
literal_spaced (Truth false) is = tok tt (λ more e. e) end
literal_spaced (Suffixed negative n suffix) is = suffixed_spaced suffix negative n is
literal_spaced (Floating negative whole fraction precision) is =
    tok (is.whole_digits, is.fraction_digits, is.power_digits) (λ more e. refl) end
literal_spaced (SignedShort negative n) is = wrapped_spaced (codes "i16") negative n i16_word
    (signed_number negative n (2 ^ 15) (omega arith) is)
literal_spaced (UnsignedShort n) is = wrapped_spaced (codes "u16") false n u16_word (omega arith)
literal_spaced LeastInteger is = wrapped_spaced (codes "i32") true 2147483648 i32_word (omega arith)
literal_spaced LeastLong is =
    free i64_word (λ more e. refl) $ tok tt (λ more e. refl) $ tok (omega arith) (λ more e. refl) $ gap $
    tok tt (λ more e. refl) $ gap $ tok (omega arith) (λ more e. refl) close
