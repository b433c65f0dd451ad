use Rattle.std.proofs.Common.{◌≡◌, take}
use Rattle.std.specs.Hash as fed
use Rattle.std.specs.List.{flat_map, fold}
use Rattle.naga_keywords.specs.Words.{in_lower_case}
use Rattle.naga_keywords.proofs.keyword_set.AsciiUniCaseHash.hash.Given as goal

abbrev pub invariant-loop-byte : goal.invariant-loop-byte
invariant-loop-byte g l = l.state ≡ fold g.H.Hasher.write l.initial.state
    (flat_map fed.u8 (in_lower_case (take l.byte-index l.byte-items)))
