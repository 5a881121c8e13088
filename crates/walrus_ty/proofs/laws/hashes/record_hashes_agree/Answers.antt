use Rattle.walrus_ty.proofs.Hashes.Indices.{indices, comps_hash, entries_hash}
use Rattle.walrus_ty.proofs.Hashes.Values.{heaps_hash, references_hash, vals_hash, storages_hash, fields_hash}
use Rattle.walrus_ty.proofs.laws.hashes.record_hashes_agree.Goals as goal

pub returns : goal.returns
returns c = record {
  heap_types = heaps_hash _ indices;
  references = references_hash _ indices;
  vals = vals_hash _ indices;
  storages = storages_hash _ indices;
  fields = fields_hash _ indices;
  comps = comps_hash;
  entries = entries_hash;
}
