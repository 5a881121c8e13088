-- Arena.
pub use Rattle.walrus_id.specs.HashKeys
pub use Rattle.walrus_arena.specs.Arena
pub use Rattle.walrus_arena.specs.Calls as ArenaCalls
pub use Rattle.walrus_arena.specs.Lends
pub use Rattle.walrus_arena.specs.Listing
pub use Rattle.walrus_arena.specs.Set
pub use Rattle.walrus_arena.specs.SetLends
pub use Rattle.walrus_arena.specs.Slot
-- Types and sections.
pub use Rattle.walrus_ty.specs.Value
pub use Rattle.walrus_ty.specs.Definition
pub use Rattle.walrus_ty.specs.Signature
pub use Rattle.walrus_ty.specs.Types
pub use Rattle.walrus_ty.specs.Records
pub use Rattle.walrus_ty.specs.IdLists
pub use Rattle.walrus_ty.specs.Indices
pub use Rattle.walrus_ty.specs.Text as TypeText
pub use Rattle.walrus_ty.specs.Views
pub use Rattle.walrus_ty.specs.SubTypes
pub use Rattle.walrus_ty.specs.SameTypes
pub use Rattle.walrus_ty.specs.Comparison
pub use Rattle.walrus_ty.specs.HashInput
pub use Rattle.walrus_ty.specs.Groups
pub use Rattle.walrus_ty.specs.Lists
pub use Rattle.walrus_ty.specs.Lookups
pub use Rattle.walrus_sections.specs.Section
pub use Rattle.walrus_sections.specs.NormalForm
pub use Rattle.walrus_sections.specs.Moves
pub use Rattle.walrus_sections.specs.Emission
pub use Rattle.walrus_sections.specs.Refusal
pub use Rattle.walrus_sections.specs.Examples
pub use Rattle.walrus_sections.specs.FirstError
pub use Rattle.walrus_sections.specs.SlotMap
pub use Rattle.walrus_sections.specs.WritingOrders
pub use Rattle.walrus_sections.specs.MissingNames
pub use Rattle.walrus_canonical.specs.EqualTypes
pub use Rattle.walrus_canonical.specs.Listing as CanonicalListing
pub use Rattle.walrus_canonical.specs.Greedy as CanonicalOrder
pub use Rattle.walrus_canonical.specs.Keys as GroupKeys
pub use Rattle.walrus_canonical.specs.Roots
pub use Rattle.walrus_canonical.specs.Refusals as CanonicalRefusals
pub use Rattle.walrus_types.specs.TypesById
pub use Rattle.walrus_types.specs.Differences
pub use Rattle.walrus_types.specs.Table
pub use Rattle.walrus_types.specs.TableEmission
pub use Rattle.walrus_types.specs.TableLends
pub use Rattle.walrus_types.specs.TableCalls
pub use Rattle.walrus_types.specs.FunctionTypes
pub use Rattle.walrus_types.specs.ReadResult
pub use Rattle.walrus_types.specs.ReaderState
pub use Rattle.walrus_ty.specs.declared.error.NoIndex
pub use Rattle.walrus_ty.specs.declared.error.FromRecordError
pub use Rattle.walrus_ty.specs.declared.error.ToRecordError
pub use Rattle.walrus_ty.specs.declared.records.CompAt
pub use Rattle.walrus_ty.specs.declared.records.GroupAt
pub use Rattle.walrus_ty.specs.declared.ty.composite.CompositeType
pub use Rattle.walrus_ty.specs.declared.ty.value.AbstractHeapType
pub use Rattle.walrus_ty.specs.declared.ty.value.Heap
pub use Rattle.walrus_ty.specs.declared.ty.value.Val
pub use Rattle.walrus_ty.specs.declared.ty.value.Storage
pub use Rattle.walrus_sections.specs.declared.error.ReadError
pub use Rattle.walrus_canonical.specs.declared.error.CanonicalError
pub use Rattle.walrus_types.specs.declared.error.EmitError
pub use Rattle.walrus_types.specs.declared.table.rec_group.AddRecGroupError
-- Instructions.
pub use Rattle.ir_operators.specs.Values
pub use Rattle.ir_operators.specs.Atomics
pub use Rattle.ir_operators.specs.Loads
pub use Rattle.ir_operators.specs.Stores
pub use Rattle.ir_instr.specs.BlockTypes
pub use Rattle.ir_instr.specs.Sequence
pub use Rattle.ir_instr.specs.Locals
pub use Rattle.ir_instr.specs.LocalParts
pub use Rattle.ir_instr.specs.LocalLends
pub use Rattle.ir_instr.specs.Locations
pub use Rattle.ir_instr.specs.Reachability
pub use Rattle.ir_const_expr.specs.ConstExpr
pub use Rattle.walrus_ir.specs.Calls as HookCalls
pub use Rattle.walrus_ir.specs.Fields
pub use Rattle.walrus_ir.specs.Hooks
pub use Rattle.ir_operators.specs.declared.atomics.AtomicOp
pub use Rattle.ir_operators.specs.declared.atomics.AtomicWidth
pub use Rattle.ir_operators.specs.declared.binary_op.BinaryOp
pub use Rattle.ir_operators.specs.declared.kinds.ExtendedLoad
pub use Rattle.ir_operators.specs.declared.kinds.LoadKind
pub use Rattle.ir_operators.specs.declared.kinds.StoreKind
pub use Rattle.ir_operators.specs.declared.kinds.LoadSimdKind
pub use Rattle.ir_operators.specs.declared.ternary_op.TernaryOp
pub use Rattle.ir_operators.specs.declared.unary_op.UnaryOp
pub use Rattle.ir_operators.specs.declared.value.Value as ConstantValue
pub use Rattle.ir_instr.specs.declared.exceptions.TryTableCatch
pub use Rattle.ir_instr.specs.declared.exceptions.LegacyCatch
pub use Rattle.ir_instr.specs.declared.instr.Instr
pub use Rattle.ir_const_expr.specs.declared.const_expr.ConstExpr as ConstExprType
pub use Rattle.ir_const_expr.specs.declared.const_expr.ConstOp
pub use Rattle.ir_const_expr.specs.declared.const_expr.ConstOpAt
pub use Rattle.ir_instr.specs.declared.instr_seq_type.InstrSeqType
-- Builders and walks.
pub use Rattle.walrus_functions.specs.Beginning
pub use Rattle.walrus_functions.specs.Body
pub use Rattle.walrus_functions.specs.Building
pub use Rattle.walrus_functions.specs.LocalLends as FunctionLends
pub use Rattle.walrus_functions.specs.FunctionWithArgs
pub use Rattle.walrus_functions.specs.Functions
pub use Rattle.walrus_functions.specs.NestedForms
pub use Rattle.walrus_functions.specs.Nesting
pub use Rattle.walrus_functions.specs.Rows
pub use Rattle.walrus_nesting.specs.Certificates
pub use Rattle.walrus_nesting.specs.Pushing
pub use Rattle.walrus_traversals.specs.AnyIds
pub use Rattle.walrus_traversals.specs.Events
pub use Rattle.walrus_traversals.specs.Ids
pub use Rattle.walrus_traversals.specs.Instrs
pub use Rattle.walrus_traversals.specs.OneHook
pub use Rattle.walrus_traversals.specs.Sequences
pub use Rattle.walrus_traversals_mut.specs.FieldMaps
pub use Rattle.walrus_traversals_mut.specs.Premises
pub use Rattle.walrus_traversals_mut.specs.Renaming
pub use Rattle.walrus_traversals_mut.specs.Walks
pub use Rattle.walrus_traversals_mut.specs.Unfolding
pub use Rattle.walrus_traversals_mut.specs.Counting
pub use Rattle.walrus_functions.specs.declared.error.BuildError
pub use Rattle.walrus_functions.specs.declared.function_builder.FunctionBuilder
pub use Rattle.walrus_functions.specs.declared.function_builder.instr_seq_builder.InstrSeqBuilder
pub use Rattle.walrus_functions.specs.declared.local_function.LocalFunction
pub use Rattle.walrus_functions.specs.declared.local_functions.LocalFunctions
pub use Rattle.walrus_nesting.specs.declared.nesting.Nesting as NestingType
pub use Rattle.walrus_nesting.specs.declared.walk_error.WalkError
pub use Rattle.walrus_traversals.specs.declared.id_visitor.AnyId
-- Passes.
pub use Rattle.walrus_unused.specs.NeededTypes
pub use Rattle.walrus_unused.specs.AllIndices
pub use Rattle.walrus_passes.specs.UsedTypes
pub use Rattle.walrus_unused.specs.IndexMaps
pub use Rattle.walrus_passes.specs.SnippedFunctions
pub use Rattle.walrus_passes.specs.UnreachableFunctions
pub use Rattle.walrus_passes.specs.MappedInstrs
pub use Rattle.walrus_passes.specs.ChangedCalls
pub use Rattle.walrus_passes.specs.Adapters
pub use Rattle.walrus_passes.specs.Conversions
pub use Rattle.walrus_passes.specs.ConvertingAdapters
-- Binary.
pub use Rattle.wasm_binary.specs.Leb128
pub use Rattle.wasm_binary.specs.Grammar
pub use Rattle.wasm_binary.specs.Faults
pub use Rattle.wasm_binary.specs.Modules
pub use Rattle.wasm_binary.specs.ModuleSections
pub use Rattle.wasm_binary.specs.Sections as SectionPlaces
pub use Rattle.wasm_binary.specs.CustomSections
pub use Rattle.wasm_module.specs.Sections
pub use Rattle.wasm_module.specs.Opcodes
pub use Rattle.wasm_module.specs.Immediates
pub use Rattle.wasm_module.specs.Contents
pub use Rattle.wasm_module.specs.Bodies as CodeBodies
pub use Rattle.wasm_module.specs.Renaming as CodeRenaming
pub use Rattle.wasm_module.specs.NamedTypes
pub use Rattle.wasm_module.specs.Changes as CodeChanges
pub use Rattle.wasm_module.specs.RenamedSections
pub use Rattle.wasm_module.specs.NameSections
pub use Rattle.wasm_module.specs.RenamedModules
pub use Rattle.wasm_module.specs.Customs
pub use Rattle.wasm_module.specs.OwnIndices
pub use Rattle.wasm_module.specs.RenamedNames
pub use Rattle.wasm_module.specs.Lengths
pub use Rattle.wasm_module.specs.UnknownCustoms
pub use Rattle.wasm_module.specs.UnreadNames
pub use Rattle.wasm_module.specs.Outdated
pub use Rattle.wasm_normalise.specs.CanonicalModules
pub use Rattle.wasm_normalise.specs.Meanings
pub use Rattle.wasm_binary.specs.declared.error.Expected
pub use Rattle.wasm_binary.specs.declared.error.NotHeld
pub use Rattle.wasm_binary.specs.declared.error.DecodeError
pub use Rattle.wasm_binary.specs.declared.error.EncodeError
pub use Rattle.wasm_module.specs.declared.scan.ScanError
pub use Rattle.wasm_module.specs.declared.renaming.RenameError
pub use Rattle.wasm_module.specs.declared.renaming.Widths
pub use Rattle.wasm_module.specs.declared.description_kinds.DescriptionKind
pub use Rattle.wasm_normalise.specs.declared.error.NormaliseModuleError
-- Text.
pub use Rattle.walrus_text.specs.Words
pub use Rattle.walrus_text.specs.Spacing
pub use Rattle.walrus_text.specs.Text as SectionText
pub use Rattle.walrus_text.specs.Errors
pub use Rattle.walrus_text.specs.declared.error.TextError
