use Rattle.std.proofs.Common.{ap, arith}
use Rattle.naga_json.specs.Modules.{seen_module}
use Rattle.naga_json.proofs.SeenModules.{sizes_set}
use Rattle.naga_json.proofs.sizes.set_sizes.Goals as goal

pub returns-then-index-len : goal.returns-then-index-len
returns-then-index-len c =
    let m = c.args.module.now in
    ap (λ ps. record (seen_module m) { entry_points = ps })
    (sizes_set m c.args.index c.index_mut.result.now c.args.sizes (omega arith) c.index_mut.ensures.value)
