-- What the code's statements are seen as. A block inside a statement is seen as its tree already.
use Rattle.std.specs.Prelude.{List, [], ◌∷◌}
use Rattle.naga_ir.specs.StatementTree.{StatementTree, simple, block, branch, switch, loop}
use Rattle.naga_ir.specs.StatementTree.{BlockTree, no_statements, statement, CaseTrees, no_cases}
use Rattle.naga_ir.specs.StatementTree.{case, emit, break, continue, return, kill, control_barrier}
use Rattle.naga_ir.specs.StatementTree.{memory_barrier, store, image_store, atomic, image_atomic}
use Rattle.naga_ir.specs.StatementTree.{work_group_uniform_load, call, ray_query, subgroup_ballot}
use Rattle.naga_ir.specs.StatementTree.{subgroup_gather, subgroup_collective_operation}
use Rattle.naga_ir.specs.StatementTree.{cooperative_store, ray_pipeline_function}
use Rattle.naga_ir.specs.declared.statement.SwitchCase.{SwitchCase}
use Rattle.naga_ir.specs.declared.statement.Statement.{Statement}
use Rattle.naga_ir.specs.declared.statement.Statement.TheVariants.{Emit, Block, If, Switch, Loop}
use Rattle.naga_ir.specs.declared.statement.Statement.TheVariants.{Break, Continue, Return, Kill}
use Rattle.naga_ir.specs.declared.statement.Statement.TheVariants.{ControlBarrier, MemoryBarrier}
use Rattle.naga_ir.specs.declared.statement.Statement.TheVariants.{Store, ImageStore, Atomic}
use Rattle.naga_ir.specs.declared.statement.Statement.TheVariants.{ImageAtomic}
use Rattle.naga_ir.specs.declared.statement.Statement.TheVariants.{WorkGroupUniformLoad, Call}
use Rattle.naga_ir.specs.declared.statement.Statement.TheVariants.{RayQuery, SubgroupBallot}
use Rattle.naga_ir.specs.declared.statement.Statement.TheVariants.{SubgroupGather}
use Rattle.naga_ir.specs.declared.statement.Statement.TheVariants.{SubgroupCollectiveOperation}
use Rattle.naga_ir.specs.declared.statement.Statement.TheVariants.{CooperativeStore}
use Rattle.naga_ir.specs.declared.statement.Statement.TheVariants.{RayPipelineFunction}

abbrev pub cases_of : List SwitchCase → CaseTrees
cases_of [] = no_cases
cases_of (c ∷ cs) = case c.value c.body c.fall_through (cases_of cs)

abbrev pub tree_of : Statement → StatementTree
tree_of (Emit range) = simple (emit range.first range.end)
tree_of (Block b) = block b
tree_of (If c a r) = branch c a r
tree_of (Switch s cs) = switch s (cases_of cs.items)
tree_of (Loop b c x) = loop b c x
tree_of Break = simple break
tree_of Continue = simple continue
tree_of (Return value) = simple (return value)
tree_of Kill = simple kill
tree_of (ControlBarrier flags) = simple (control_barrier flags)
tree_of (MemoryBarrier flags) = simple (memory_barrier flags)
tree_of (Store p v) = simple (store p v)
tree_of (ImageStore i c a v) = simple (image_store i c a v)
tree_of (Atomic p f v r) = simple (atomic p f v r)
tree_of (ImageAtomic i c a f v) = simple (image_atomic i c a f v)
tree_of (WorkGroupUniformLoad p r) = simple (work_group_uniform_load p r)
tree_of (Call f xs r) = simple (call f xs.items r)
tree_of (RayQuery q) = simple (ray_query q)
tree_of (SubgroupBallot r p) = simple (subgroup_ballot r p)
tree_of (SubgroupGather m x r) = simple (subgroup_gather m x r)
tree_of (SubgroupCollectiveOperation o c x r) = simple (subgroup_collective_operation o c x r)
tree_of (CooperativeStore t d) = simple (cooperative_store t d)
tree_of (RayPipelineFunction f) = simple (ray_pipeline_function f)

abbrev pub block_of : List Statement → BlockTree
block_of [] = no_statements
block_of (s ∷ ss) = statement (tree_of s) (block_of ss)
