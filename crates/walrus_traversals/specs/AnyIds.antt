-- Visitors that look at ids alone.
use Rattle.std.specs.Prelude.{Option, None, Some}
use Rattle.walrus_ty.specs.declared.ty.value.Heap.TheVariants as heap
use Rattle.walrus_ir.specs.Calls.{Event, at}
use Rattle.walrus_ir.specs.Hooks.{visit_instr_seq_id, visit_local_id, visit_memory_id, visit_table_id, visit_global_id, visit_function_id, visit_data_id, visit_element_id, visit_tag_id, visit_type_id, visit_heap_type}
use Rattle.walrus_traversals.specs.declared.id_visitor.AnyId.{AnyId}
use Rattle.walrus_traversals.specs.declared.id_visitor.AnyId.TheVariants as any

-- the id of an event: a type is by itself or in a heap type
abbrev pub id_in : Event → Option AnyId
id_in (at visit_instr_seq_id id) = Some (any.InstrSeq id)
id_in (at visit_local_id id) = Some (any.Local id)
id_in (at visit_memory_id id) = Some (any.Memory id)
id_in (at visit_table_id id) = Some (any.Table id)
id_in (at visit_global_id id) = Some (any.Global id)
id_in (at visit_function_id id) = Some (any.Function id)
id_in (at visit_data_id id) = Some (any.Data id)
id_in (at visit_element_id id) = Some (any.Element id)
id_in (at visit_tag_id id) = Some (any.Tag id)
id_in (at visit_type_id id) = Some (any.Type id)
id_in (at visit_heap_type (heap.Concrete id)) = Some (any.Type id)
id_in (at visit_heap_type (heap.Exact id)) = Some (any.Type id)
id_in _ = None
