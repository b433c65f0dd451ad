use Rattle.std.proofs.Common.{refl, map, ◌∙◌}
use Rattle.naga_keywords.specs.declared.by_bytes.TheConstants.{RESERVED_BY_BYTES}
use Rattle.naga_keywords.specs.declared.keywords.TheConstants.{RESERVED}
use Rattle.naga_keywords.proofs.Rearranged.{ascending, rearranged, same_set}
use Rattle.naga_keywords.proofs.by_bytes.reserved_words.Goals as goal

pub from_table-requires : goal.from_table-requires
from_table-requires c =
    record { sorted = ascending (map (λ word. word.now) RESERVED_BY_BYTES.now) refl }

pub returns : goal.returns
returns c =
    let words = map (λ word. word.now) RESERVED.now in
    let by_bytes = map (λ word. word.now) RESERVED_BY_BYTES.now in
    c.from_table.ensures ∙ same_set words by_bytes (rearranged words by_bytes refl)
