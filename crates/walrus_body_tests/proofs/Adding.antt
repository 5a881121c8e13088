-- What a visitor that adds one to each constant does to the fields of instructions.
use Rattle.std.proofs.Common.{◌≡◌, refl}
use Rattle.walrus_body.specs.FieldMaps.{MapsFields}
use Rattle.walrus_body_tests.specs.Adding.{adding_at}

pub adds_to_fields : (v : Unit {0}) →
    MapsFields {V = Unit {0}} (λ hook _ x _ y. y ≡ adding_at hook x) v adding_at
adds_to_fields v = record {
  maps = λ hook x w y h. (refl, h);
  starts = λ seq. refl;
  ends = λ seq. refl;
  instrs = λ item. refl;
  seq_ids = λ id. refl;
}
