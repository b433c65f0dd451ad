-- What a statement without blocks does: which handles it writes by itself, and that it has no blocks.
use Rattle.std.proofs.Common.{◌≡◌, ℕ, Bool, true, false, List, [], ◌∷◌, refl}
use Rattle.std.specs.List.{filter}
use Rattle.std.specs.Option.{option_to_list}
use Rattle.naga_ir.specs.StatementTree.{SimpleStatement, store}
use Rattle.module_semantics.specs.ExpressionOperators.{ExpressionContext, is_atomic_pointer}
use Rattle.module_semantics.specs.StatementShapes.{simple_shape, store_shape}
use Rattle.module_semantics.specs.Written.{simple_handles}
use Rattle.shader_runs.specs.Program.{Statement, Emit, Store, Block, If, Switch, Loop, Return, Act}
use Rattle.shader_runs.specs.Program.{from, Jumps}

-- no statements stand in it
abbrev pub has_no_blocks : Statement → Bool
has_no_blocks (Block b) = false
has_no_blocks (If c a b) = false
has_no_blocks (Switch h cases) = false
has_no_blocks (Loop b d e) = false
has_no_blocks _ = true

stored_blocks : (atomic : Bool) (p v : ℕ) → has_no_blocks (store_shape atomic p v) ≡ true
stored_blocks true p v = refl
stored_blocks false p v = refl

pub no_blocks : (a : ExpressionContext) (st : SimpleStatement) → has_no_blocks (simple_shape a st) ≡ true
no_blocks a (store p v) = stored_blocks (is_atomic_pointer a p) p v
no_blocks a _ = refl

-- the handles that it writes by itself
abbrev pub shape_handles : (binds : ℕ → Bool) → Statement → List ℕ
shape_handles binds (Emit first count) = filter binds (from first count)
shape_handles binds (Store p v) = p ∷ v ∷ []
shape_handles binds (Jumps (Return v)) = option_to_list v
shape_handles binds (Act action xs outcome) = xs
shape_handles binds _ = []

stored_handles : (binds : ℕ → Bool) (atomic : Bool) (p v : ℕ) →
    p ∷ v ∷ [] ≡ shape_handles binds (store_shape atomic p v)
stored_handles binds true p v = refl
stored_handles binds false p v = refl

pub handles_are : (binds : ℕ → Bool) (a : ExpressionContext) (st : SimpleStatement) →
    simple_handles binds st ≡ shape_handles binds (simple_shape a st)
handles_are binds a (store p v) = stored_handles binds (is_atomic_pointer a p) p v
handles_are binds a _ = refl
