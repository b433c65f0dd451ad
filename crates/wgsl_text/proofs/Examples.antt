-- The worked programs and the rows have their texts.
use Rattle.std.proofs.Common.{refl, rules}
use Rattle.std.specs.Fmt.{digits}
use Rattle.wgsl_text.specs.Words.{is_reserved, is_builtin}
use Rattle.wgsl_text.specs.Declarations.{no_declarations, IsProgram}
use Rattle.wgsl_text.specs.Examples.{WorkedPrograms, identity, negative, same_labels, type_label}
use Rattle.wgsl_text.specs.Examples.{hostile_labels, store, store_explicit, unused_read, late_use}
use Rattle.wgsl_text.specs.Examples.{inlined_program, used_twice, select_call, named_expression}
use Rattle.wgsl_text.specs.Examples.{idle_literal, sample_at_zero, pointer, negate, modf_members}
use Rattle.wgsl_text.specs.Examples.{siblings, named_siblings, switch_joined, switch_default_first}
use Rattle.wgsl_text.specs.Examples.{loop_break_if, loop_tail, loop_folded, barriers}
use Rattle.wgsl_text.specs.Examples.{call_of_function, compute, compute_of_overrides, struct_names, override_with_id}
use Rattle.wgsl_text.specs.Examples.{global_buffer, vertex_output, enable_f16, named_constant}
use Rattle.wgsl_text.specs.Examples.{flat_input, atomic_add, natural_offsets, gap_by_size}
use Rattle.wgsl_text.specs.Examples.{stride_by_size}
use Rattle.wgsl_text.specs.Rows.{TypeRows, OperatorRows, AccessRows, LineRows, every_statement}
use Rattle.wgsl_text.specs.Rows.{every_declaration, every_stage}

no_declarations_form : IsProgram no_declarations
unfolding is_reserved is_builtin
no_declarations_form = search rules

identity_form : IsProgram identity
unfolding is_reserved is_builtin
identity_form = search rules

negative_form : IsProgram negative
unfolding is_reserved is_builtin
negative_form = search rules

same_labels_form : IsProgram same_labels
unfolding is_reserved is_builtin
same_labels_form = search rules

type_label_form : IsProgram type_label
unfolding is_reserved is_builtin
type_label_form = search rules

hostile_labels_form : IsProgram hostile_labels
unfolding is_reserved is_builtin
hostile_labels_form = search rules

store_form : IsProgram store
unfolding is_reserved is_builtin
store_form = search rules

store_explicit_form : IsProgram store_explicit
unfolding is_reserved is_builtin
store_explicit_form = search rules

unused_read_form : IsProgram unused_read
unfolding is_reserved is_builtin
unused_read_form = search rules

late_use_form : IsProgram late_use
unfolding is_reserved is_builtin
late_use_form = search rules

inlined_form : IsProgram inlined_program
unfolding is_reserved is_builtin
inlined_form = search rules

used_twice_form : IsProgram used_twice
unfolding is_reserved is_builtin
used_twice_form = search rules

select_call_form : IsProgram select_call
unfolding is_reserved is_builtin
select_call_form = search rules

named_expression_form : IsProgram named_expression
unfolding is_reserved is_builtin
named_expression_form = search rules

idle_literal_form : IsProgram idle_literal
unfolding is_reserved is_builtin
idle_literal_form = search rules

sample_at_zero_form : IsProgram sample_at_zero
unfolding is_reserved is_builtin
sample_at_zero_form = search rules

pointer_form : IsProgram pointer
unfolding is_reserved is_builtin
pointer_form = search rules

negate_form : IsProgram negate
unfolding is_reserved is_builtin
negate_form = search rules

modf_members_form : IsProgram modf_members
unfolding is_reserved is_builtin
modf_members_form = search rules

siblings_form : IsProgram siblings
unfolding is_reserved is_builtin
siblings_form = search rules

named_siblings_form : IsProgram named_siblings
unfolding is_reserved is_builtin
named_siblings_form = search rules

switch_joined_form : IsProgram switch_joined
unfolding is_reserved is_builtin
switch_joined_form = search rules

switch_default_first_form : IsProgram switch_default_first
unfolding is_reserved is_builtin
switch_default_first_form = search rules

loop_break_if_form : IsProgram loop_break_if
unfolding is_reserved is_builtin
loop_break_if_form = search rules

loop_tail_form : IsProgram loop_tail
unfolding is_reserved is_builtin
loop_tail_form = search rules

loop_folded_form : IsProgram loop_folded
unfolding is_reserved is_builtin
loop_folded_form = search rules

barriers_form : IsProgram barriers
unfolding is_reserved is_builtin
barriers_form = search rules

call_of_function_form : IsProgram call_of_function
unfolding is_reserved is_builtin
call_of_function_form = search rules

compute_form : IsProgram compute
unfolding is_reserved is_builtin
compute_form = search rules

compute_of_overrides_form : IsProgram compute_of_overrides
unfolding is_reserved is_builtin
compute_of_overrides_form = search rules

struct_names_form : IsProgram struct_names
unfolding is_reserved is_builtin
struct_names_form = search rules

override_with_id_form : IsProgram override_with_id
unfolding is_reserved is_builtin
override_with_id_form = search rules

global_buffer_form : IsProgram global_buffer
unfolding is_reserved is_builtin
global_buffer_form = search rules

vertex_output_form : IsProgram vertex_output
unfolding is_reserved is_builtin
vertex_output_form = search rules

enable_f16_form : IsProgram enable_f16
unfolding is_reserved is_builtin
enable_f16_form = search rules

named_constant_form : IsProgram named_constant
unfolding is_reserved is_builtin
named_constant_form = search rules

flat_input_form : IsProgram flat_input
unfolding is_reserved is_builtin
flat_input_form = search rules

atomic_add_form : IsProgram atomic_add
unfolding is_reserved is_builtin
atomic_add_form = search rules

natural_offsets_form : IsProgram natural_offsets
unfolding is_reserved is_builtin
natural_offsets_form = search rules

gap_by_size_form : IsProgram gap_by_size
unfolding is_reserved is_builtin
gap_by_size_form = search rules

stride_by_size_form : IsProgram stride_by_size
unfolding is_reserved is_builtin
stride_by_size_form = search rules

every_statement_form : IsProgram every_statement
unfolding is_reserved is_builtin
every_statement_form = search rules

every_declaration_form : IsProgram every_declaration
unfolding is_reserved is_builtin
every_declaration_form = search rules

every_stage_form : IsProgram every_stage
unfolding is_reserved is_builtin
every_stage_form = search rules

pub worked_programs : WorkedPrograms
unfolding digits
worked_programs = record {
  empty = record { form = no_declarations_form; text = refl };
  identity = record { form = identity_form; text = refl };
  negative = record { form = negative_form; text = refl };
  same_labels = record { form = same_labels_form; text = refl };
  type_label = record { form = type_label_form; text = refl };
  hostile_labels = record { form = hostile_labels_form; text = refl };
  store = record { form = store_form; text = refl };
  store_explicit = record { form = store_explicit_form; text = refl };
  unused_read = record { form = unused_read_form; text = refl };
  late_use = record { form = late_use_form; text = refl };
  inlined = record { form = inlined_form; text = refl };
  used_twice = record { form = used_twice_form; text = refl };
  select_call = record { form = select_call_form; text = refl };
  named_expression = record { form = named_expression_form; text = refl };
  idle_literal = record { form = idle_literal_form; text = refl };
  sample_at_zero = record { form = sample_at_zero_form; text = refl };
  pointer = record { form = pointer_form; text = refl };
  negate = record { form = negate_form; text = refl };
  modf_members = record { form = modf_members_form; text = refl };
  siblings = record { form = siblings_form; text = refl };
  named_siblings = record { form = named_siblings_form; text = refl };
  switch_joined = record { form = switch_joined_form; text = refl };
  switch_default_first = record { form = switch_default_first_form; text = refl };
  loop_break_if = record { form = loop_break_if_form; text = refl };
  loop_tail = record { form = loop_tail_form; text = refl };
  loop_folded = record { form = loop_folded_form; text = refl };
  barriers = record { form = barriers_form; text = refl };
  call_of_function = record { form = call_of_function_form; text = refl };
  compute = record { form = compute_form; text = refl };
  compute_of_overrides = record { form = compute_of_overrides_form; text = refl };
  struct_names = record { form = struct_names_form; text = refl };
  override_with_id = record { form = override_with_id_form; text = refl };
  global_buffer = record { form = global_buffer_form; text = refl };
  vertex_output = record { form = vertex_output_form; text = refl };
  enable_f16 = record { form = enable_f16_form; text = refl };
  named_constant = record { form = named_constant_form; text = refl };
  flat_input = record { form = flat_input_form; text = refl };
  atomic_add = record { form = atomic_add_form; text = refl };
  natural_offsets = record { form = natural_offsets_form; text = refl };
  gap_by_size = record { form = gap_by_size_form; text = refl };
  stride_by_size = record { form = stride_by_size_form; text = refl };
}

pub type_rows : TypeRows
unfolding is_reserved is_builtin digits
type_rows = record {
  scalar = record { form = search rules; text = refl };
  vector = record { form = search rules; text = refl };
  matrix = record { form = search rules; text = refl };
  atomic = record { form = search rules; text = refl };
  array_of_number = record { form = search rules; text = refl };
  array_of_override = record { form = search rules; text = refl };
  dynamic_array = record { form = search rules; text = refl };
  binding_array_of_number = record { form = search rules; text = refl };
  binding_array_of_override = record { form = search rules; text = refl };
  dynamic_binding_array = record { form = search rules; text = refl };
  pointer = record { form = search rules; text = refl };
  pointer_with_access = record { form = search rules; text = refl };
  pointer_to_array = record { form = search rules; text = refl };
  value_pointer_to_vector = record { form = search rules; text = refl };
  value_pointer_to_scalar = record { form = search rules; text = refl };
  struct_name = record { form = search rules; text = refl };
  sampler = record { form = search rules; text = refl };
  comparison_sampler = record { form = search rules; text = refl };
  sampled_image = record { form = search rules; text = refl };
  multisampled_image = record { form = search rules; text = refl };
  depth_image = record { form = search rules; text = refl };
  multisampled_depth_image = record { form = search rules; text = refl };
  storage_image = record { form = search rules; text = refl };
  storage_image_array = record { form = search rules; text = refl };
  external_image = record { form = search rules; text = refl };
  acceleration_structure = record { form = search rules; text = refl };
  acceleration_structure_with_vertices = record { form = search rules; text = refl };
  ray_query = record { form = search rules; text = refl };
  ray_query_with_vertices = record { form = search rules; text = refl };
  cooperative_matrix = record { form = search rules; text = refl };
}

pub operator_rows : OperatorRows
unfolding is_reserved is_builtin digits
operator_rows = record {
  truth = record { form = search rules; text = refl };
  falsehood = record { form = search rules; text = refl };
  signed_integer = record { form = search rules; text = refl };
  negative_integer = record { form = search rules; text = refl };
  unsigned_integer = record { form = search rules; text = refl };
  signed_long = record { form = search rules; text = refl };
  unsigned_long = record { form = search rules; text = refl };
  signed_short = record { form = search rules; text = refl };
  unsigned_short = record { form = search rules; text = refl };
  single = record { form = search rules; text = refl };
  half = record { form = search rules; text = refl };
  double = record { form = search rules; text = refl };
  great_double = record { form = search rules; text = refl };
  small_double = record { form = search rules; text = refl };
  least_integer = record { form = search rules; text = refl };
  least_long = record { form = search rules; text = refl };
  inlined_constant = record { form = search rules; text = refl };
  variable = record { form = search rules; text = refl };
  zero_value = record { form = search rules; text = refl };
  composed = record { form = search rules; text = refl };
  composed_struct = record { form = search rules; text = refl };
  splat = record { form = search rules; text = refl };
  add = record { form = search rules; text = refl };
  subtract = record { form = search rules; text = refl };
  multiply = record { form = search rules; text = refl };
  divide = record { form = search rules; text = refl };
  modulo = record { form = search rules; text = refl };
  equal = record { form = search rules; text = refl };
  not_equal = record { form = search rules; text = refl };
  less = record { form = search rules; text = refl };
  less_equal = record { form = search rules; text = refl };
  greater = record { form = search rules; text = refl };
  greater_equal = record { form = search rules; text = refl };
  bitwise_and = record { form = search rules; text = refl };
  exclusive_or = record { form = search rules; text = refl };
  inclusive_or = record { form = search rules; text = refl };
  logical_and = record { form = search rules; text = refl };
  logical_or = record { form = search rules; text = refl };
  shift_left = record { form = search rules; text = refl };
  shift_right = record { form = search rules; text = refl };
  negation = record { form = search rules; text = refl };
  logical_not = record { form = search rules; text = refl };
  bitwise_not = record { form = search rules; text = refl };
  selection = record { form = search rules; text = refl };
}

pub access_rows : AccessRows
unfolding is_reserved is_builtin digits
access_rows = record {
  access = record { form = search rules; text = refl };
  access_of_unary = record { form = search rules; text = refl };
  component = record { form = search rules; text = refl };
  member = record { form = search rules; text = refl };
  access_at_number = record { form = search rules; text = refl };
  access_of_reference = record { form = search rules; text = refl };
  access_through_pointer = record { form = search rules; text = refl };
  swizzle = record { form = search rules; text = refl };
  swizzle_of_unary = record { form = search rules; text = refl };
  math = record { form = search rules; text = refl };
  relational = record { form = search rules; text = refl };
  some_of = record { form = search rules; text = refl };
  conversion = record { form = search rules; text = refl };
  vector_conversion = record { form = search rules; text = refl };
  bits = record { form = search rules; text = refl };
  vector_bits = record { form = search rules; text = refl };
  matrix_conversion = record { form = search rules; text = refl };
  load = record { form = search rules; text = refl };
  atomic_load = record { form = search rules; text = refl };
  array_length = record { form = search rules; text = refl };
  derivative = record { form = search rules; text = refl };
  coarse_derivative = record { form = search rules; text = refl };
  fine_derivative = record { form = search rules; text = refl };
  sample = record { form = search rules; text = refl };
  sample_of_array = record { form = search rules; text = refl };
  sample_at_level = record { form = search rules; text = refl };
  sample_at_zero = record { form = search rules; text = refl };
  sample_at_whole_zero = record { form = search rules; text = refl };
  sample_with_bias = record { form = search rules; text = refl };
  sample_with_gradient = record { form = search rules; text = refl };
  sample_clamped = record { form = search rules; text = refl };
  sample_compared = record { form = search rules; text = refl };
  sample_compared_at_zero = record { form = search rules; text = refl };
  gather = record { form = search rules; text = refl };
  gather_of_depth = record { form = search rules; text = refl };
  gather_compared = record { form = search rules; text = refl };
  image_load = record { form = search rules; text = refl };
  image_size = record { form = search rules; text = refl };
  image_levels = record { form = search rules; text = refl };
  image_layers = record { form = search rules; text = refl };
  image_samples = record { form = search rules; text = refl };
  cooperative_load = record { form = search rules; text = refl };
  cooperative_load_row_major = record { form = search rules; text = refl };
  cooperative_multiply_add = record { form = search rules; text = refl };
}

pub line_rows : LineRows
unfolding digits
line_rows = record {
  every_statement = record { form = every_statement_form; text = refl };
  every_declaration = record { form = every_declaration_form; text = refl };
  every_stage = record { form = every_stage_form; text = refl };
}
