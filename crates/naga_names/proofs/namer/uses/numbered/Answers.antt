use Rattle.std.proofs.Common.{rules, ◌≡◌, ◌++◌, ◌∙◌, ap, sym, arith, codes, decimal, string_bytes}
use Rattle.naga_naming.proofs.Numerals.{numeral_is_decimal}
use Rattle.naga_names.proofs.namer.uses.numbered.Goals as goal

pub returns : goal.returns
returns c =
    let written : string_bytes c.push_str-2.new.self ≡ c.args.stem.now ++ codes "_" ++ decimal c.args.number =
    search rules in
    written ∙ ap (λ digits. c.args.stem.now ++ codes "_" ++ digits)
    (sym (numeral_is_decimal c.args.number (omega arith)))
