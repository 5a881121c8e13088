use Rattle.walrus_ty.proofs.Hashes.Ids.{ids, functions_hash, structs_hash, arrays_hash, kinds_hash, types_hash}
use Rattle.walrus_ty.proofs.Hashes.Values.{heaps_hash, references_hash, vals_hash, storages_hash, fields_hash}
use Rattle.walrus_ty.proofs.laws.hashes.hashes_agree.Goals as goal

pub returns : goal.returns
returns c = record {
  heap_types = heaps_hash _ ids;
  references = references_hash _ ids;
  vals = vals_hash _ ids;
  storages = storages_hash _ ids;
  fields = fields_hash _ ids;
  functions = functions_hash;
  structs = structs_hash;
  arrays = arrays_hash;
  kinds = kinds_hash;
  types = types_hash;
}
