-- Blocks as a plain tree, in which a handle is its index. Contracts see a `Block` as a `BlockTree`.
use Rattle.std.specs.Prelude.{ℕ, ◌+◌, List, Bool, true, false, Option}
use Rattle.naga_ir.specs.declared.expression.CooperativeData.{CooperativeData}
use Rattle.naga_ir.specs.declared.flags.Barrier.{Barrier}
use Rattle.naga_ir.specs.declared.operators.AtomicFunction.{AtomicFunction}
use Rattle.naga_ir.specs.declared.operators.CollectiveOperation.{CollectiveOperation}
use Rattle.naga_ir.specs.declared.operators.GatherMode.{GatherMode}
use Rattle.naga_ir.specs.declared.operators.SubgroupOperation.{SubgroupOperation}
use Rattle.naga_ir.specs.declared.statement.RayPipelineFunction.{RayPipelineFunction}
use Rattle.naga_ir.specs.declared.statement.SwitchValue.{SwitchValue}

-- the statements that hold no block
pub data SimpleStatement : Type 0 where
  emit : (first end : ℕ) → SimpleStatement
  break : SimpleStatement
  continue : SimpleStatement
  return : (value : Option ℕ) → SimpleStatement
  kill : SimpleStatement
  control_barrier : Barrier → SimpleStatement
  memory_barrier : Barrier → SimpleStatement
  store : (pointer value : ℕ) → SimpleStatement
  image_store : (image coordinate : ℕ) (array_index : Option ℕ) (value : ℕ) → SimpleStatement
  atomic : (pointer : ℕ) → AtomicFunction → (value : ℕ) (outcome : Option ℕ) → SimpleStatement
  image_atomic : (image coordinate : ℕ) (array_index : Option ℕ) → AtomicFunction → (value : ℕ) →
      SimpleStatement
  work_group_uniform_load : (pointer outcome : ℕ) → SimpleStatement
  call : (function : ℕ) (arguments : List ℕ) (outcome : Option ℕ) → SimpleStatement
  ray_query : (query : ℕ) → SimpleStatement
  subgroup_ballot : (outcome : ℕ) (predicate : Option ℕ) → SimpleStatement
  subgroup_gather : GatherMode → (argument outcome : ℕ) → SimpleStatement
  subgroup_collective_operation :
      SubgroupOperation → CollectiveOperation → (argument outcome : ℕ) → SimpleStatement
  cooperative_store : (target : ℕ) → CooperativeData → SimpleStatement
  ray_pipeline_function : RayPipelineFunction → SimpleStatement

mutual
  pub data StatementTree : Type 0 where
    simple : SimpleStatement → StatementTree
    block : BlockTree → StatementTree
    branch : (condition : ℕ) (accept reject : BlockTree) → StatementTree
    switch : (selector : ℕ) → CaseTrees → StatementTree
    loop : (body continuing : BlockTree) (break_if : Option ℕ) → StatementTree

  -- statements in order
  pub data BlockTree : Type 0 where
    no_statements : BlockTree
    statement : StatementTree → BlockTree → BlockTree

  -- the cases of a switch in order
  pub data CaseTrees : Type 0 where
    no_cases : CaseTrees
    case : SwitchValue → (body : BlockTree) (fall_through : Bool) → CaseTrees → CaseTrees

-- how many statements and cases, those inside statements too
abbrev mutual
  pub statement_size : StatementTree → ℕ
  statement_size (simple s) = 1
  statement_size (block b) = block_size b + 1
  statement_size (branch c a r) = block_size a + block_size r + 1
  statement_size (switch s cs) = cases_size cs + 1
  statement_size (loop b c x) = block_size b + block_size c + 1

  pub block_size : BlockTree → ℕ
  block_size no_statements = 0
  block_size (statement s b) = statement_size s + block_size b

  pub cases_size : CaseTrees → ℕ
  cases_size no_cases = 0
  cases_size (case v b falls cs) = block_size b + cases_size cs + 1

abbrev pub has_no_statements : BlockTree → Bool
has_no_statements no_statements = true
has_no_statements (statement s b) = false

-- how many statements, those inside statements not counted
abbrev pub statement_count : BlockTree → ℕ
statement_count no_statements = 0
statement_count (statement s b) = statement_count b + 1

-- the block with one more statement at its end
abbrev pub with_statement : BlockTree → StatementTree → BlockTree
with_statement no_statements x = statement x no_statements
with_statement (statement s b) x = statement s (with_statement b x)
