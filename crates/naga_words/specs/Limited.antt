-- What a limited sink holds, and what it refuses.
use Rattle.std.specs.Prelude.{ℕ, ◌-◌, Bool, ◌&&◌, ◌==◌, List, length, nat_lt}

-- a text, the most bytes that it may have before the first failure, and the number of failures
pub record LimitedText : Type 0 where
  pub text : List ℕ
  pub limit : ℕ
  pub failures : ℕ

-- Is the chunk the first that is longer than the room after the text?
abbrev pub goes_past : LimitedText → List ℕ → Bool
goes_past content chunk = (content.failures == 0) && nat_lt (content.limit - length content.text)
    (length chunk)
