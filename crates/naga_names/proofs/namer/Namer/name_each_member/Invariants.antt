use Rattle.std.proofs.Common.{◌≡◌, take}
use Rattle.naga_naming.specs.Keys.{names_in}
use Rattle.naga_naming.specs.Members.{HasNamedMembers}
use Rattle.naga_names.proofs.namer.Namer.name_each_member.Given as goal

abbrev pub invariant-loop-index : goal.invariant-loop-index
invariant-loop-index l = record {
  words : l.self ≡ record l.initial.self { uses = l.self.uses };
  named : HasNamedMembers l.initial.self (names_in l.initial.output) l.ty (take l.index l.members) l.self
      (names_in l.output);
}
