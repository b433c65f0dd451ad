-- What contracts see of the types of a module that hold texts or lists: these by what is in them, and not by where it
-- lies in memory. Of each other type they see the value.
use Rattle.std.specs.Prelude.{ℕ, List, map, Option, option_map, string_bytes}
use Rattle.naga_info.specs.declared.info.ExpressionInfo.{ExpressionInfo}
use Rattle.naga_info.specs.declared.info.ModuleInfo.{ModuleInfo}
use Rattle.naga_info.specs.declared.info.TypeResolution.{TypeResolution}
use Rattle.naga_ir.specs.declared.binding.Binding.{Binding}
use Rattle.naga_ir.specs.declared.binding.ResourceBinding.{ResourceBinding}
use Rattle.naga_ir.specs.declared.diagnostics.DiagnosticFilter.{DiagnosticFilter}
use Rattle.naga_ir.specs.declared.diagnostics.DiagnosticFilterNode.{DiagnosticFilterNode}
use Rattle.naga_ir.specs.declared.diagnostics.FilterableTriggeringRule.{FilterableTriggeringRule}
use Rattle.naga_ir.specs.declared.diagnostics.Severity.{Severity}
use Rattle.naga_ir.specs.declared.diagnostics.StandardFilterableTriggeringRule.{StandardFilterableTriggeringRule}
use Rattle.naga_ir.specs.declared.expression.Expression.{Expression}
use Rattle.naga_ir.specs.declared.flags.MemoryDecorations.{MemoryDecorations}
use Rattle.naga_ir.specs.declared.module.Constant.{Constant}
use Rattle.naga_ir.specs.declared.module.FunctionArgument.{FunctionArgument}
use Rattle.naga_ir.specs.declared.module.GlobalVariable.{GlobalVariable}
use Rattle.naga_ir.specs.declared.module.LocalVariable.{LocalVariable}
use Rattle.naga_ir.specs.declared.module.Module.{Module}
use Rattle.naga_ir.specs.declared.module.Override.{Override}
use Rattle.naga_ir.specs.declared.types.AddressSpace.{AddressSpace}
use Rattle.naga_ir.specs.declared.types.StructMember.{StructMember}
use Rattle.naga_ir.specs.declared.types.Type_.{Type_}
use Rattle.naga_ir.specs.declared.types.TypeInner.{TypeInner}

-- ---- types

pub record SeenMember : Type 0 where
  pub name : Option (List ℕ)
  pub ty : ℕ
  pub binding : Option Binding
  pub offset : ℕ

abbrev pub seen_member : StructMember → SeenMember
seen_member m = record {
  name = option_map string_bytes m.name;
  ty = m.ty;
  binding = m.binding;
  offset = m.offset;
}

-- a struct by its members and its size in bytes, and any other type as it is
pub data SeenInner : Type 0 where
  struct_inner : List SeenMember → (span : ℕ) → SeenInner
  plain_inner : TypeInner → SeenInner

abbrev pub seen_inner : TypeInner → SeenInner
seen_inner (TypeInner.Struct members span) = struct_inner (map seen_member members.items) span
seen_inner t = plain_inner t

pub record SeenType : Type 0 where
  pub name : Option (List ℕ)
  pub inner : SeenInner

abbrev pub seen_type : Type_ → SeenType
seen_type t = record { name = option_map string_bytes t.name; inner = seen_inner t.inner }

-- ---- expressions

-- a composition by its type and its components, and any other expression as it is
pub data SeenExpression : Type 0 where
  composition : (ty : ℕ) → (components : List ℕ) → SeenExpression
  plain_expression : Expression → SeenExpression

abbrev pub seen_expression : Expression → SeenExpression
seen_expression (Expression.Compose ty components) = composition ty components.items
seen_expression e = plain_expression e

-- ---- what modules declare

pub record SeenConstant : Type 0 where
  pub name : Option (List ℕ)
  pub ty : ℕ
  pub init : ℕ

abbrev pub seen_constant : Constant → SeenConstant
seen_constant c = record { name = option_map string_bytes c.name; ty = c.ty; init = c.init }

pub record SeenOverride : Type 0 where
  pub name : Option (List ℕ)
  pub id : Option ℕ
  pub ty : ℕ
  pub init : Option ℕ

abbrev pub seen_override : Override → SeenOverride
seen_override o = record {
  name = option_map string_bytes o.name;
  id = o.id;
  ty = o.ty;
  init = o.init;
}

pub record SeenGlobal : Type 0 where
  pub name : Option (List ℕ)
  pub space : AddressSpace
  pub binding : Option ResourceBinding
  pub ty : ℕ
  pub init : Option ℕ
  pub memory_decorations : MemoryDecorations

abbrev pub seen_global : GlobalVariable → SeenGlobal
seen_global g = record {
  name = option_map string_bytes g.name;
  space = g.space;
  binding = g.binding;
  ty = g.ty;
  init = g.init;
  memory_decorations = g.memory_decorations;
}

pub record SeenLocal : Type 0 where
  pub name : Option (List ℕ)
  pub ty : ℕ
  pub init : Option ℕ

abbrev pub seen_local : LocalVariable → SeenLocal
seen_local v = record { name = option_map string_bytes v.name; ty = v.ty; init = v.init }

pub record SeenArgument : Type 0 where
  pub name : Option (List ℕ)
  pub ty : ℕ
  pub binding : Option Binding

abbrev pub seen_argument : FunctionArgument → SeenArgument
seen_argument a = record { name = option_map string_bytes a.name; ty = a.ty; binding = a.binding }

-- ---- filters of diagnostics

pub data SeenRule : Type 0 where
  standard_rule : StandardFilterableTriggeringRule → SeenRule
  unknown_rule : (name : List ℕ) → SeenRule
  user_rule : (names : List (List ℕ)) → SeenRule

abbrev pub seen_rule : FilterableTriggeringRule → SeenRule
seen_rule (FilterableTriggeringRule.Standard rule) = standard_rule rule
seen_rule (FilterableTriggeringRule.Unknown name) = unknown_rule (string_bytes name)
seen_rule (FilterableTriggeringRule.User names) = user_rule (map string_bytes names)

pub record SeenFilter : Type 0 where
  pub new_severity : Severity
  pub triggering_rule : SeenRule

abbrev pub seen_filter : DiagnosticFilter → SeenFilter
seen_filter f =
    record { new_severity = f.new_severity; triggering_rule = seen_rule f.triggering_rule }

pub record SeenNode : Type 0 where
  pub inner : SeenFilter
  pub parent : Option ℕ

abbrev pub seen_node : DiagnosticFilterNode → SeenNode
seen_node n = record { inner = seen_filter n.inner; parent = n.parent }

-- all filters of a module, and the last of those that hold in it
pub record SeenFilters : Type 0 where
  pub nodes : List SeenNode
  pub leaf : Option ℕ

abbrev pub seen_filters : List DiagnosticFilterNode → (leaf : Option ℕ) → SeenFilters
seen_filters nodes leaf = record { nodes = map seen_node nodes; leaf = leaf }

abbrev pub filters_of : Module → SeenFilters
filters_of m = seen_filters m.diagnostic_filters m.diagnostic_filter_leaf

-- ---- what is known of a module

pub data SeenResolution : Type 0 where
  resolution_handle : ℕ → SeenResolution
  resolution_value : SeenInner → SeenResolution

abbrev pub seen_resolution : TypeResolution → SeenResolution
seen_resolution (TypeResolution.Handle ty) = resolution_handle ty
seen_resolution (TypeResolution.Value inner) = resolution_value (seen_inner inner)

pub record SeenExpressionInfo : Type 0 where
  pub ref_count : ℕ
  pub ty : SeenResolution

abbrev pub seen_expression_info : ExpressionInfo → SeenExpressionInfo
seen_expression_info e = record { ref_count = e.ref_count; ty = seen_resolution e.ty }

-- a function's info is seen as the list of its expressions
pub record SeenModuleInfo : Type 0 where
  pub functions : List (List SeenExpressionInfo)
  pub entry_points : List (List SeenExpressionInfo)
  pub const_expression_types : List SeenResolution

abbrev pub seen_module_info : ModuleInfo → SeenModuleInfo
seen_module_info m = record {
  functions = map (map seen_expression_info) m.functions.items;
  entry_points = map (map seen_expression_info) m.entry_points.items;
  const_expression_types = map seen_resolution m.const_expression_types.items;
}
