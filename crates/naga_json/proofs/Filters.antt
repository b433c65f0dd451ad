-- Filters of diagnostics and their parents, and functions that have none of their own.
use Rattle.std.proofs.Common.{◌≡◌, ◌+◌, ℕ, List, [], ◌∷◌, map, ap, refl}
use Rattle.std.specs.Prelude.{◌&&◌}
use Rattle.std.specs.List.{enumerate_from, list_all}
use Rattle.naga_ir.specs.declared.diagnostics.DiagnosticFilterNode.{DiagnosticFilterNode}
use Rattle.naga_json.specs.Diagnostics.{follows}
use Rattle.naga_json.specs.Seen.{seen_node}

-- each filter follows its parent just where each parent has its filter after it
pub same_parents : (n : ℕ) (nodes : List DiagnosticFilterNode) →
    list_all (λ p. follows p.0 p.1.parent) (enumerate_from n nodes)
    ≡ list_all (λ p. follows p.0 p.1) (enumerate_from n (map (λ node. node.parent) (map seen_node nodes)))
same_parents n [] = refl
same_parents n (node ∷ nodes) = ap (λ b. follows n node.parent && b) (same_parents (n + 1) nodes)
