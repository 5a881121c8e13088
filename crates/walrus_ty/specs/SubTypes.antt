-- The contents of what the record of a type says.
-- Of this crate's own working; it serves the reading of the definitions in a type section.
-- WebAssembly core specification, "Types", sub types.
use Rattle.walrus_ty.specs.declared.convert.SubType.{SubType}
use Rattle.walrus_ty.specs.Definition.{Definition}
use Rattle.walrus_ty.specs.Types.{kind_composite}

-- what the type is defined to be, over the ids of types
abbrev pub sub_type_definition : SubType → Definition
sub_type_definition t =
    record { composite = kind_composite t.kind; is_final = t.is_final; supertype = t.supertype }
